-- Whole runs, computed: what they come to, with their marks and the places of faults.
use Rattle.std.specs.Prelude.{◌≡◌, ℕ, ◌++◌, List, [], ◌∷◌, pos, codes, map, Option, Some, None, nat_eq, if◌then◌else◌, refl}
use Rattle.std.specs.Str.{chars, is_utf8}
use Rattle.std.specs.Fmt.{digits}
use lib.Utf8.{encode}
use Rattle.aplc_scalar.specs.Scalar.{in_range}
use Rattle.aplc_scalar.specs.Input.{input_line, number_line}
use Rattle.aplc_scalar.specs.declared.kind.FaultKind.TheVariants as fault
use Rattle.aplc_scalar.specs.declared.function.ScalarFn.TheVariants as f
use Rattle.aplc_syntax.specs.declared.tree.Primitive.TheVariants as pr
use Rattle.aplc_syntax.specs.declared.tree.Axis.TheVariants as ax
use Rattle.aplc_syntax.specs.PlainTrees.{Tree, Numbers, Text, Name, TextInput, NumsInput, Mono, Dyad, Index, Assign, AssignAt, Show, Call, no_more, and_tree, absent, given}
use Rattle.aplc_names.specs.declared.scope.Scope.{Scope}
use Rattle.aplc_names.specs.declared.scope.Scope.TheVariants as scope
use Rattle.aplc_names.specs.PlainPrograms.{Action, nothing, quiet, perform, display, branch, Routine, PlainProgram, most_nodes}
use Rattle.aplc_names.specs.States.{Place, Places, Marking}
use Rattle.aplc_names.specs.Runs.{Ended, Faulted, Going, eager, work}

-- ---- Writing programs

-- what these names are, where all others are global
abbrev pub known_as : List (ℕ × Scope) → ℕ → Scope
known_as [] n = scope.Global
known_as ((m, x) ∷ rest) n = if nat_eq m n then x else known_as rest n

-- its name, its result, its left and its right argument, its other local names, its names, its lines
abbrev pub routine : List ℕ → Option ℕ → Option ℕ → Option ℕ → List ℕ → List (ℕ × Scope) → List Action → Routine
routine t r x y ls names lines = record { title = t; result = r; left = x; right = y; locals = ls; scope = known_as names; lines = lines }

-- a MAIN without local names
abbrev pub main : List (ℕ × Scope) → List Action → Routine
main names lines = routine (codes "MAIN") None None None [] names lines

-- a program that starts with the first of these
abbrev pub program : List Routine → PlainProgram
program fs = record { origin = pos 1; routines = fs; start = Some 0 }

abbrev pub marking : List ℕ → List ℕ → List ℕ → Marking
marking hs ss rs = record { held = hs; swept = ss; roots = rs }

abbrev pub unmarked : Marking
unmarked = marking [] [] []

abbrev pub number : ℕ → ℕ → Tree
number i n = Numbers i i (pos n ∷ [])

abbrev pub at : List ℕ → ℕ → Place
at t l = record { function = t; line = l }

abbrev pub places : Place → List Place → Places
places q qs = record { here = q; behind = qs }

-- one frame, that of MAIN
abbrev pub alone : ℕ → Places
alone l = places (at (codes "MAIN") l) []

-- lines of MAIN
abbrev pub lines : List ℕ → List Place
lines ls = map (at (codes "MAIN")) ls

-- ---- `A←F 3`, `A`; and `R←F B`, with `R←B+B`: names A, B, R, F are 0 to 3

abbrev double : Routine
double =
    routine (codes "F") (Some 2) None (Some 1) [] ((1, scope.Local) ∷ (2, scope.Local) ∷ []) (quiet (Assign 21 21 2 (Dyad 22 22 (pr.Scalar f.Add) (Name 23 23 1) (Name 24 24 1))) ∷ [])

calling : PlainProgram
calling =
    program (main ((3, scope.Function 1) ∷ []) (quiet (Assign 11 11 0 (Call 12 12 3 absent (given (number 13 3)))) ∷ display (Name 14 14 0) ∷ []) ∷ double ∷ [])

calling_run : eager calling unmarked [] 9 ≡ Ended (codes "6" ++ 10 ∷ []) (at (codes "MAIN") 1 ∷ at (codes "F") 1 ∷ at (codes "MAIN") 2 ∷ [])
unfolding eager calling in_range digits encode
calling_run = refl

-- 1 for the header of MAIN and 3 for that of F; 2 for each of seven nodes that make a scalar, and 3 for the sum; two
-- characters are displayed
calling_work : work calling unmarked [] 9 ≡ 23
unfolding work calling in_range digits encode
calling_work = refl

-- the assignment in MAIN has three nodes, that in F has four
calling_nodes : most_nodes calling ≡ 4
unfolding calling
calling_nodes = refl

-- without a node it is 1
empty_nodes : most_nodes (program (main [] (nothing ∷ []) ∷ [])) ≡ 1
empty_nodes = refl

-- the same functions, and none where the program starts
unstarted_run : eager (record calling { start = None }) unmarked [] 9 ≡ Ended [] []
unfolding eager calling
unstarted_run = refl

-- ---- LIMIT in a function that is called: the same behind an empty line, with the greatest number

unfoldable pub failing : PlainProgram
failing =
    program (main ((3, scope.Function 1) ∷ []) (nothing ∷ quiet (Assign 11 11 0 (Call 12 12 3 absent (given (number 13 9223372036854775807)))) ∷ []) ∷ double ∷ [])

-- the empty line has no mark
failing_run : eager failing unmarked [] 9 ≡ Faulted [] (at (codes "MAIN") 2 ∷ at (codes "F") 1 ∷ []) fault.Limit (places (at (codes "F") 1) (at (codes "MAIN") 2 ∷ []))
unfolding eager failing in_range digits encode
failing_run = refl

-- ---- `A←1`, `(A←5)+A`: a name is read when its turn comes, from the right

order : PlainProgram
order =
    program (main [] (quiet (Assign 1 1 0 (number 2 1)) ∷ display (Dyad 3 3 (pr.Scalar f.Add) (Assign 4 4 0 (number 5 5)) (Name 6 6 0)) ∷ []) ∷ [])

order_run : eager order unmarked [] 9 ≡ Ended (codes "6" ++ 10 ∷ []) (lines (1 ∷ 2 ∷ []))
unfolding eager order in_range digits encode
order_run = refl

-- ---- `A←⍳5`, `A[2 2]←7 8`, `A`: the last one stays

indexing : PlainProgram
indexing =
    program (main [] (quiet (Assign 1 1 0 (Mono 2 2 pr.Iota (number 3 5))) ∷ quiet (AssignAt 4 4 0 (and_tree (Numbers 5 5 (pos 2 ∷ pos 2 ∷ [])) no_more) (Numbers 6 6 (pos 7 ∷ pos 8 ∷ []))) ∷ display (Name 7 7 0) ∷ []) ∷ [])

indexing_run : eager indexing unmarked [] 9 ≡ Ended (codes "1 8 3 4 5" ++ 10 ∷ []) (lines (1 ∷ 2 ∷ 3 ∷ []))
unfolding eager indexing in_range digits encode
indexing_run = refl

-- ---- `B`: VALUE

unset_name : PlainProgram
unset_name = program (main [] (display (Name 1 1 0) ∷ []) ∷ [])

unset_name_run : eager unset_name unmarked [] 9 ≡ Faulted [] (lines (1 ∷ [])) fault.Value (alone 1)
unfolding eager unset_name
unset_name_run = refl

-- ---- `(⎕←1)+F`, where the result of F is never set: VALUE at the calling line, before anything is displayed

unset_result : PlainProgram
unset_result =
    program (main ((3, scope.Function 1) ∷ []) (display (Dyad 1 1 (pr.Scalar f.Add) (Show 2 2 (number 3 1)) (Call 4 4 3 absent absent)) ∷ []) ∷ routine (codes "F") (Some 2) None None [] ((2, scope.Local) ∷ []) (nothing ∷ []) ∷ [])

unset_result_run : eager unset_result unmarked [] 9 ≡ Faulted [] (lines (1 ∷ [])) fault.Value (alone 1)
unfolding eager unset_result
unset_result_run = refl

-- ---- `A←'HELLO'`, `A[5 1]`, `A[5 1 9]`: INDEX

letters : PlainProgram
letters =
    program (main [] (quiet (Assign 1 1 0 (Text 2 2 (codes "HELLO"))) ∷ display (Index 3 3 (Name 4 4 0) (and_tree (Numbers 5 5 (pos 5 ∷ pos 1 ∷ [])) no_more)) ∷ display (Index 6 6 (Name 7 7 0) (and_tree (Numbers 8 8 (pos 5 ∷ pos 1 ∷ pos 9 ∷ [])) no_more)) ∷ []) ∷ [])

letters_run : eager letters unmarked [] 9 ≡ Faulted (codes "OH" ++ 10 ∷ []) (lines (1 ∷ 2 ∷ 3 ∷ [])) fault.Index (alone 3)
unfolding eager letters encode
letters_run = refl

-- ---- `1 2+3 4 5`: LENGTH; `2∧1`: DOMAIN

lengths : PlainProgram
lengths =
    program (main [] (display (Dyad 1 1 (pr.Scalar f.Add) (Numbers 2 2 (pos 1 ∷ pos 2 ∷ [])) (Numbers 3 3 (pos 3 ∷ pos 4 ∷ pos 5 ∷ []))) ∷ []) ∷ [])

lengths_run : eager lengths unmarked [] 9 ≡ Faulted [] (lines (1 ∷ [])) fault.Length (alone 1)
unfolding eager lengths
lengths_run = refl

truth : PlainProgram
truth = program (main [] (display (number 1 7) ∷ display (Dyad 2 2 (pr.Scalar f.And) (number 3 2) (number 4 1)) ∷ []) ∷ [])

truth_run : eager truth unmarked [] 9 ≡ Faulted (codes "7" ++ 10 ∷ []) (lines (1 ∷ 2 ∷ [])) fault.Domain (alone 2)
unfolding eager truth in_range digits encode
truth_run = refl

-- ---- `→'A'`: DOMAIN; `→1 1⍴1`: RANK

to_letter : PlainProgram
to_letter = program (main [] (branch 1 (Text 2 2 (codes "A")) ∷ []) ∷ [])

to_letter_run : eager to_letter unmarked [] 9 ≡ Faulted [] (lines (1 ∷ [])) fault.Domain (alone 1)
unfolding eager to_letter
to_letter_run = refl

to_table : PlainProgram
to_table = program (main [] (branch 1 (Dyad 2 2 pr.Shape (Numbers 3 3 (pos 1 ∷ pos 1 ∷ [])) (number 4 1)) ∷ []) ∷ [])

to_table_run : eager to_table unmarked [] 9 ≡ Faulted [] (lines (1 ∷ [])) fault.Rank (alone 1)
unfolding eager to_table
to_table_run = refl

-- ---- `⍞`, `+/⎕NUMS`, `⍞`: the input has two lines, and the third read finds no byte

reading : PlainProgram
reading = program (main [] (display (TextInput 1 1) ∷ display (Mono 2 2 (pr.Reduce f.Add ax.Last) (NumsInput 3 3)) ∷ display (TextInput 4 4) ∷ []) ∷ [])

reading_run : eager reading unmarked (codes "abc" ++ 10 ∷ codes "1 -4 07") 9 ≡ Faulted (codes "abc" ++ 10 ∷ (codes "4" ++ 10 ∷ [])) (lines (1 ∷ 2 ∷ 3 ∷ [])) fault.Input (alone 3)
unfolding eager reading in_range digits encode input_line number_line is_utf8 chars
reading_run = refl

-- ---- `F 2`, `9`; and `F B` without a result: `B`, `→0`, `8`: a line that is none leaves the function

leaving : PlainProgram
leaving =
    program (main ((3, scope.Function 1) ∷ []) (perform 1 1 3 absent (given (number 2 2)) ∷ display (number 3 9) ∷ []) ∷ routine (codes "F") None None (Some 1) [] ((1, scope.Local) ∷ []) (display (Name 4 4 1) ∷ branch 5 (number 6 0) ∷ display (number 7 8) ∷ []) ∷ [])

leaving_run : eager leaving unmarked [] 9 ≡ Ended (codes "2" ++ 10 ∷ (codes "9" ++ 10 ∷ [])) (at (codes "MAIN") 1 ∷ at (codes "F") 1 ∷ at (codes "F") 2 ∷ at (codes "MAIN") 2 ∷ [])
unfolding eager leaving in_range digits encode
leaving_run = refl

-- ---- A loop, cut off after every number of lines: `A←0`, `L:A←A+1`, `A`, `→(A<2)/L`

looping : PlainProgram
looping =
    program (main ((5, scope.Label (pos 2)) ∷ []) (quiet (Assign 1 1 0 (number 2 0)) ∷ quiet (Assign 3 3 0 (Dyad 4 4 (pr.Scalar f.Add) (Name 5 5 0) (number 6 1))) ∷ display (Name 7 7 0) ∷ branch 8 (Dyad 9 9 (pr.Replicate ax.Last) (Dyad 10 10 (pr.Scalar f.Less) (Name 11 11 0) (number 12 2)) (Name 13 13 5)) ∷ []) ∷ [])

one : List ℕ
one = codes "1" ++ 10 ∷ []

two : List ℕ
two = one ++ codes "2" ++ 10 ∷ []

looping_cut : map (eager looping unmarked []) (0 ∷ 1 ∷ 2 ∷ 3 ∷ 4 ∷ 5 ∷ 6 ∷ 7 ∷ 8 ∷ []) ≡ Going [] [] ∷ Going [] (lines (1 ∷ [])) ∷ Going [] (lines (1 ∷ 2 ∷ [])) ∷ Going one (lines (1 ∷ 2 ∷ 3 ∷ [])) ∷ Going one (lines (1 ∷ 2 ∷ 3 ∷ 4 ∷ [])) ∷ Going one (lines (1 ∷ 2 ∷ 3 ∷ 4 ∷ 2 ∷ [])) ∷ Going two (lines (1 ∷ 2 ∷ 3 ∷ 4 ∷ 2 ∷ 3 ∷ [])) ∷ Ended two (lines (1 ∷ 2 ∷ 3 ∷ 4 ∷ 2 ∷ 3 ∷ 4 ∷ [])) ∷ Ended two (lines (1 ∷ 2 ∷ 3 ∷ 4 ∷ 2 ∷ 3 ∷ 4 ∷ [])) ∷ []
unfolding eager looping one two in_range digits encode
looping_cut = refl
