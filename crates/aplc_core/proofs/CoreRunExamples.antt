-- Runs of steps, computed, with their outputs and faults: they come to what the eager runs of their programs come to.
use Rattle.std.specs.Prelude.{◌≡◌, ℕ, List, [], ◌∷◌, pos, negsuc, codes, Some, None, refl}
use Rattle.std.specs.Str.{chars, is_utf8}
use Rattle.std.specs.Fmt.{digits}
use lib.Utf8.{encode}
use Rattle.aplc_scalar.specs.Scalar.{in_range}
use Rattle.aplc_scalar.specs.Input.{input_line, number_line}
use Rattle.aplc_scalar.specs.declared.kind.FaultKind.{FaultKind}
use Rattle.aplc_scalar.specs.declared.kind.FaultKind.TheVariants as fault
use Rattle.aplc_scalar.specs.declared.function.ScalarFn.TheVariants as f
use Rattle.aplc_syntax.specs.declared.tree.Primitive.TheVariants as pr
use Rattle.aplc_syntax.specs.declared.tree.Axis.TheVariants as ax
use Rattle.aplc_syntax.specs.PlainTrees.{Numbers, Text, Name, NumsInput, Mono, Dyad, Index, Assign, AssignAt, Show, Call, no_more, and_tree, absent, given}
use Rattle.aplc_names.specs.declared.scope.Scope.TheVariants as scope
use Rattle.aplc_names.specs.PlainPrograms.{nothing, quiet, perform, display, branch, PlainProgram}
use Rattle.aplc_names.specs.States.{Place, Places}
use Rattle.aplc_names.specs.Runs.{Run, Ended, Faulted, Going, eager}
use Rattle.aplc_names.proofs.RunExamples.{program, routine, unmarked, at}
use Rattle.aplc_core.specs.CoreRuns.{core}
use Rattle.aplc_core.specs.Lowering.{lowered_program}

-- what a run comes to without its marks
data Answer : Type 0 where
  Ends : List ℕ → Answer
  Stops : List ℕ → FaultKind → List Place → Answer
  Goes : List ℕ → Answer

abbrev all_places : Places → List Place
all_places ps = ps.here ∷ ps.behind

abbrev answer : Run → Answer
answer (Ended out ms) = Ends out
answer (Faulted out ms k ps) = Stops out k (all_places ps)
answer (Going out ms) = Goes out

-- ---- A result that was never set, behind an output
--   ∇MAIN
--   1+F 2
--   3
--   ∇
--   ∇R←F X
--   X
--   ∇
abbrev unset_result : PlainProgram
unset_result = program (routine (codes "MAIN") None None None [] ((0, scope.Function 1) ∷ (1, scope.Function 0) ∷ []) (display (Dyad 9 9 (pr.Scalar f.Add) (Numbers 8 8 (pos 1 ∷ [])) (Call 10 10 0 absent (given (Numbers 12 12 (pos 2 ∷ []))))) ∷ display (Numbers 14 14 (pos 3 ∷ [])) ∷ []) ∷ routine (codes "F") (Some 3) None (Some 2) [] ((0, scope.Function 1) ∷ (1, scope.Function 0) ∷ (2, scope.Local) ∷ (3, scope.Local) ∷ []) (display (Name 31 31 2) ∷ []) ∷ [])

unset_result_run : (answer (core (lowered_program unset_result) unmarked [] 7) ≡ Stops (50 ∷ 10 ∷ []) fault.Value (at (codes "MAIN") 1 ∷ [])) × (core (lowered_program unset_result) unmarked [] 7 ≡ eager unset_result unmarked [] 7)
unfolding core eager in_range digits encode input_line number_line is_utf8 chars
unset_result_run = (refl, refl)

-- ---- Two arguments
--   ∇MAIN
--   (1+2)F 3×4
--   5
--   ∇
--   ∇R←A F B;C
--   C←A-B
--   R←C+C
--   ∇
abbrev two_arguments : PlainProgram
two_arguments = program (routine (codes "MAIN") None None None [] ((0, scope.Function 1) ∷ (1, scope.Function 0) ∷ []) (display (Call 13 13 0 (given (Dyad 10 10 (pr.Scalar f.Add) (Numbers 9 9 (pos 1 ∷ [])) (Numbers 11 11 (pos 2 ∷ [])))) (given (Dyad 16 16 (pr.Scalar f.Mul) (Numbers 15 15 (pos 3 ∷ [])) (Numbers 18 18 (pos 4 ∷ []))))) ∷ display (Numbers 20 20 (pos 5 ∷ [])) ∷ []) ∷ routine (codes "F") (Some 5) (Some 3) (Some 4) (2 ∷ []) ((0, scope.Function 1) ∷ (1, scope.Function 0) ∷ (2, scope.Local) ∷ (3, scope.Local) ∷ (4, scope.Local) ∷ (5, scope.Local) ∷ []) (quiet (Assign 41 41 2 (Dyad 46 46 (pr.Scalar f.Sub) (Name 45 45 3) (Name 47 47 4))) ∷ quiet (Assign 49 49 5 (Dyad 54 54 (pr.Scalar f.Add) (Name 53 53 2) (Name 55 55 2))) ∷ []) ∷ [])

two_arguments_run : (answer (core (lowered_program two_arguments) unmarked [] 9) ≡ Ends (194 ∷ 175 ∷ 49 ∷ 56 ∷ 10 ∷ 53 ∷ 10 ∷ [])) × (core (lowered_program two_arguments) unmarked [] 9 ≡ eager two_arguments unmarked [] 9)
unfolding core eager in_range digits encode input_line number_line is_utf8 chars
two_arguments_run = (refl, refl)

-- ---- A fault two calls deep
--   ∇MAIN
--   F
--   ∇
--   ∇F
--   G 9223372036854775807
--   ∇
--   ∇G X
--   X
--   X+1
--   ∇
abbrev deep_fault : PlainProgram
deep_fault = program (routine (codes "MAIN") None None None [] ((0, scope.Function 1) ∷ (1, scope.Function 0) ∷ (2, scope.Function 2) ∷ []) (perform 8 8 0 absent absent ∷ []) ∷ routine (codes "F") None None None [] ((0, scope.Function 1) ∷ (1, scope.Function 0) ∷ (2, scope.Function 2) ∷ []) (perform 19 19 2 absent (given (Numbers 21 21 (pos 9223372036854775807 ∷ []))) ∷ []) ∷ routine (codes "G") None None (Some 3) [] ((0, scope.Function 1) ∷ (1, scope.Function 0) ∷ (2, scope.Function 2) ∷ (3, scope.Local) ∷ []) (display (Name 52 52 3) ∷ display (Dyad 55 55 (pr.Scalar f.Add) (Name 54 54 3) (Numbers 56 56 (pos 1 ∷ []))) ∷ []) ∷ [])

deep_fault_run : (answer (core (lowered_program deep_fault) unmarked [] 9) ≡ Stops (57 ∷ 50 ∷ 50 ∷ 51 ∷ 51 ∷ 55 ∷ 50 ∷ 48 ∷ 51 ∷ 54 ∷ 56 ∷ 53 ∷ 52 ∷ 55 ∷ 55 ∷ 53 ∷ 56 ∷ 48 ∷ 55 ∷ 10 ∷ []) fault.Limit (at (codes "G") 2 ∷ at (codes "F") 1 ∷ at (codes "MAIN") 1 ∷ [])) × (core (lowered_program deep_fault) unmarked [] 9 ≡ eager deep_fault unmarked [] 9)
unfolding core eager in_range digits encode input_line number_line is_utf8 chars
deep_fault_run = (refl, refl)

-- ---- A name that is assigned twice in a statement
--   ∇MAIN
--   A←(B←2)+B←3
--   A
--   B
--   ∇
abbrev stored_in_the_middle : PlainProgram
stored_in_the_middle = program (routine (codes "MAIN") None None None [] ((2, scope.Function 0) ∷ []) (quiet (Assign 8 8 0 (Dyad 19 19 (pr.Scalar f.Add) (Assign 13 13 1 (Numbers 17 17 (pos 2 ∷ []))) (Assign 20 20 1 (Numbers 24 24 (pos 3 ∷ []))))) ∷ display (Name 26 26 0) ∷ display (Name 28 28 1) ∷ []) ∷ [])

stored_in_the_middle_run : (answer (core (lowered_program stored_in_the_middle) unmarked [] 8) ≡ Ends (53 ∷ 10 ∷ 50 ∷ 10 ∷ [])) × (core (lowered_program stored_in_the_middle) unmarked [] 8 ≡ eager stored_in_the_middle unmarked [] 8)
unfolding core eager in_range digits encode input_line number_line is_utf8 chars
stored_in_the_middle_run = (refl, refl)

-- ---- Two calls, of which the second changes what was read
--   ∇MAIN
--   A←1
--   (H 5)-H A
--   ∇
--   ∇R←H X
--   A←A+X
--   R←A
--   ∇
abbrev left_call_last : PlainProgram
left_call_last = program (routine (codes "MAIN") None None None [] ((1, scope.Function 1) ∷ (2, scope.Function 0) ∷ []) (quiet (Assign 8 8 0 (Numbers 12 12 (pos 1 ∷ []))) ∷ display (Dyad 19 19 (pr.Scalar f.Sub) (Call 15 15 1 absent (given (Numbers 17 17 (pos 5 ∷ [])))) (Call 20 20 1 absent (given (Name 22 22 0)))) ∷ []) ∷ routine (codes "H") (Some 4) None (Some 3) [] ((1, scope.Function 1) ∷ (2, scope.Function 0) ∷ (3, scope.Local) ∷ (4, scope.Local) ∷ []) (quiet (Assign 39 39 0 (Dyad 44 44 (pr.Scalar f.Add) (Name 43 43 0) (Name 45 45 3))) ∷ quiet (Assign 47 47 4 (Name 51 51 0)) ∷ []) ∷ [])

left_call_last_run : (answer (core (lowered_program left_call_last) unmarked [] 11) ≡ Ends (53 ∷ 10 ∷ [])) × (core (lowered_program left_call_last) unmarked [] 11 ≡ eager left_call_last unmarked [] 11)
unfolding core eager in_range digits encode input_line number_line is_utf8 chars
left_call_last_run = (refl, refl)

-- ---- Labels and a branch
--   ∇MAIN
--   L:
--   5
--   →L+3
--   6
--   7
--   L
--   ∇
abbrev labels : PlainProgram
labels = program (routine (codes "MAIN") None None None [] ((0, scope.Label (pos 1)) ∷ (1, scope.Function 0) ∷ []) (nothing ∷ display (Numbers 11 11 (pos 5 ∷ [])) ∷ branch 13 (Dyad 17 17 (pr.Scalar f.Add) (Name 16 16 0) (Numbers 18 18 (pos 3 ∷ []))) ∷ display (Numbers 20 20 (pos 6 ∷ [])) ∷ display (Numbers 22 22 (pos 7 ∷ [])) ∷ display (Name 24 24 0) ∷ []) ∷ [])

labels_run : (answer (core (lowered_program labels) unmarked [] 11) ≡ Ends (53 ∷ 10 ∷ 54 ∷ 10 ∷ 55 ∷ 10 ∷ 49 ∷ 10 ∷ [])) × (core (lowered_program labels) unmarked [] 11 ≡ eager labels unmarked [] 11)
unfolding core eager in_range digits encode input_line number_line is_utf8 chars
labels_run = (refl, refl)

-- ---- A display whose value is assigned
--   ∇MAIN;C
--   A←1 2 3
--   B←0 1 0
--   C←3≥¯4 1 ¯4<0
--   C←⎕←|1 2 3
--   1
--   ∇
abbrev stored_display : PlainProgram
stored_display = program (routine (codes "MAIN") None None None (2 ∷ []) ((2, scope.Local) ∷ (3, scope.Function 0) ∷ []) (quiet (Assign 10 10 0 (Numbers 14 14 (pos 1 ∷ pos 2 ∷ pos 3 ∷ []))) ∷ quiet (Assign 20 20 1 (Numbers 24 24 (pos 0 ∷ pos 1 ∷ pos 0 ∷ []))) ∷ quiet (Assign 30 30 2 (Dyad 35 35 (pr.Scalar f.GreaterEq) (Numbers 34 34 (pos 3 ∷ [])) (Dyad 47 47 (pr.Scalar f.Less) (Numbers 38 38 (negsuc 3 ∷ pos 1 ∷ negsuc 3 ∷ [])) (Numbers 48 48 (pos 0 ∷ []))))) ∷ quiet (Assign 50 50 2 (Show 54 54 (Mono 60 60 (pr.Scalar f.Residue) (Numbers 61 61 (pos 1 ∷ pos 2 ∷ pos 3 ∷ []))))) ∷ display (Numbers 67 67 (pos 1 ∷ [])) ∷ []) ∷ [])

stored_display_run : (answer (core (lowered_program stored_display) unmarked [] 10) ≡ Ends (49 ∷ 32 ∷ 50 ∷ 32 ∷ 51 ∷ 10 ∷ 49 ∷ 10 ∷ [])) × (core (lowered_program stored_display) unmarked [] 10 ≡ eager stored_display unmarked [] 10)
unfolding core eager in_range digits encode input_line number_line is_utf8 chars
stored_display_run = (refl, refl)

-- ---- A display in an index, then a name without a value
--   ∇MAIN;C
--   A←5
--   B←3
--   (B×9223372036854775807<10 10)[⎕←1 ¯4[1]]
--   C[(0)↑0]
--   A
--   ∇
abbrev display_in_an_index : PlainProgram
display_in_an_index = program (routine (codes "MAIN") None None None (2 ∷ []) ((2, scope.Local) ∷ (3, scope.Function 0) ∷ []) (quiet (Assign 10 10 0 (Numbers 14 14 (pos 5 ∷ []))) ∷ quiet (Assign 16 16 1 (Numbers 20 20 (pos 3 ∷ []))) ∷ display (Index 52 52 (Dyad 24 24 (pr.Scalar f.Mul) (Name 23 23 1) (Dyad 45 45 (pr.Scalar f.Less) (Numbers 26 26 (pos 9223372036854775807 ∷ [])) (Numbers 46 46 (pos 10 ∷ pos 10 ∷ [])))) (and_tree (Show 53 53 (Index 64 64 (Numbers 59 59 (pos 1 ∷ negsuc 3 ∷ [])) (and_tree (Numbers 65 65 (pos 1 ∷ [])) no_more))) no_more)) ∷ display (Index 70 70 (Name 69 69 2) (and_tree (Dyad 74 74 pr.Take (Numbers 72 72 (pos 0 ∷ [])) (Numbers 77 77 (pos 0 ∷ []))) no_more)) ∷ display (Name 80 80 0) ∷ []) ∷ [])

display_in_an_index_run : (answer (core (lowered_program display_in_an_index) unmarked [] 9) ≡ Stops (49 ∷ 10 ∷ 48 ∷ 10 ∷ []) fault.Value (at (codes "MAIN") 4 ∷ [])) × (core (lowered_program display_in_an_index) unmarked [] 9 ≡ eager display_in_an_index unmarked [] 9)
unfolding core eager in_range digits encode input_line number_line is_utf8 chars
display_in_an_index_run = (refl, refl)

-- ---- Assignments in an index and before it
--   ∇MAIN;A;B;C
--   A←5
--   B←3
--   A←'a'=0
--   7==/1
--   ((2 3⍴⍳6))⌈B
--   C←(A←'it''s')[B←2 ¯4 3]
--   1
--   ∇
abbrev stores_in_an_index : PlainProgram
stores_in_an_index = program (routine (codes "MAIN") None None None (0 ∷ 1 ∷ 2 ∷ []) ((0, scope.Local) ∷ (1, scope.Local) ∷ (2, scope.Local) ∷ (3, scope.Function 0) ∷ []) (quiet (Assign 14 14 0 (Numbers 18 18 (pos 5 ∷ []))) ∷ quiet (Assign 20 20 1 (Numbers 24 24 (pos 3 ∷ []))) ∷ quiet (Assign 26 26 0 (Dyad 33 33 (pr.Scalar f.Equal) (Text 30 30 (97 ∷ [])) (Numbers 34 34 (pos 0 ∷ [])))) ∷ display (Dyad 37 37 (pr.Scalar f.Equal) (Numbers 36 36 (pos 7 ∷ [])) (Mono 38 38 (pr.Reduce f.Equal ax.Last) (Numbers 40 40 (pos 1 ∷ [])))) ∷ display (Dyad 56 56 (pr.Scalar f.Max) (Dyad 47 47 pr.Shape (Numbers 44 44 (pos 2 ∷ pos 3 ∷ [])) (Mono 50 50 pr.Iota (Numbers 53 53 (pos 6 ∷ [])))) (Name 59 59 1)) ∷ quiet (Assign 61 61 2 (Index 78 78 (Assign 66 66 0 (Text 70 70 (105 ∷ 116 ∷ 39 ∷ 115 ∷ []))) (and_tree (Assign 79 79 1 (Numbers 83 83 (pos 2 ∷ negsuc 3 ∷ pos 3 ∷ []))) no_more))) ∷ display (Numbers 92 92 (pos 1 ∷ [])) ∷ []) ∷ [])

stores_in_an_index_run : (answer (core (lowered_program stores_in_an_index) unmarked [] 11) ≡ Stops (48 ∷ 10 ∷ 51 ∷ 32 ∷ 51 ∷ 32 ∷ 51 ∷ 10 ∷ 52 ∷ 32 ∷ 53 ∷ 32 ∷ 54 ∷ 10 ∷ []) fault.Index (at (codes "MAIN") 6 ∷ [])) × (core (lowered_program stores_in_an_index) unmarked [] 11 ≡ eager stores_in_an_index unmarked [] 11)
unfolding core eager in_range digits encode input_line number_line is_utf8 chars
stores_in_an_index_run = (refl, refl)

-- ---- Input and indexed assignments whose values are used
--   ∇MAIN
--   A←1 2 3
--   B←0 1 0
--   C←C←B
--   (B>⎕NUMS)+C[A]←A<3
--   C←⎕←B[1 2]←3 ¯4
--   A
--   ∇
-- with the input `1 2 3`, `4`
abbrev numbers_read : PlainProgram
numbers_read = program (routine (codes "MAIN") None None None [] ((3, scope.Function 0) ∷ []) (quiet (Assign 8 8 0 (Numbers 12 12 (pos 1 ∷ pos 2 ∷ pos 3 ∷ []))) ∷ quiet (Assign 18 18 1 (Numbers 22 22 (pos 0 ∷ pos 1 ∷ pos 0 ∷ []))) ∷ quiet (Assign 28 28 2 (Assign 32 32 2 (Name 36 36 1))) ∷ display (Dyad 49 49 (pr.Scalar f.Add) (Dyad 40 40 (pr.Scalar f.Greater) (Name 39 39 1) (NumsInput 41 41)) (AssignAt 50 50 2 (and_tree (Name 52 52 0) no_more) (Dyad 58 58 (pr.Scalar f.Less) (Name 57 57 0) (Numbers 59 59 (pos 3 ∷ []))))) ∷ quiet (Assign 61 61 2 (Show 65 65 (AssignAt 71 71 1 (and_tree (Numbers 73 73 (pos 1 ∷ pos 2 ∷ [])) no_more) (Numbers 80 80 (pos 3 ∷ negsuc 3 ∷ []))))) ∷ display (Name 86 86 0) ∷ []) ∷ [])

numbers_read_run : (answer (core (lowered_program numbers_read) unmarked (49 ∷ 32 ∷ 50 ∷ 32 ∷ 51 ∷ 10 ∷ 52 ∷ 10 ∷ []) 11) ≡ Ends (49 ∷ 32 ∷ 49 ∷ 32 ∷ 48 ∷ 10 ∷ 51 ∷ 32 ∷ 194 ∷ 175 ∷ 52 ∷ 10 ∷ 49 ∷ 32 ∷ 50 ∷ 32 ∷ 51 ∷ 10 ∷ [])) × (core (lowered_program numbers_read) unmarked (49 ∷ 32 ∷ 50 ∷ 32 ∷ 51 ∷ 10 ∷ 52 ∷ 10 ∷ []) 11 ≡ eager numbers_read unmarked (49 ∷ 32 ∷ 50 ∷ 32 ∷ 51 ∷ 10 ∷ 52 ∷ 10 ∷ []) 11)
unfolding core eager in_range digits encode input_line number_line is_utf8 chars
numbers_read_run = (refl, refl)
