-- Accounts, computed: the greatest account of a whole run with its marking, and its work.
use Rattle.std.specs.Prelude.{◌≡◌, ◌++◌, [], ◌∷◌, pos, true, false, Some, None, codes, refl}
use Rattle.std.specs.Fmt.{digits}
use lib.Utf8.{encode}
use Rattle.aplc_scalar.specs.Scalar.{in_range}
use Rattle.aplc_scalar.specs.declared.kind.FaultKind.TheVariants as fault
use Rattle.aplc_scalar.specs.declared.function.ScalarFn.TheVariants as f
use Rattle.aplc_syntax.specs.declared.tree.Primitive.TheVariants as pr
use Rattle.aplc_syntax.specs.declared.tree.Axis.TheVariants as ax
use Rattle.aplc_syntax.specs.PlainTrees.{Numbers, Text, Name, Mono, Dyad, Index, Assign, AssignAt, Show, Call, no_more, and_tree, absent, given}
use Rattle.aplc_names.specs.declared.scope.Scope.TheVariants as scope
use Rattle.aplc_names.specs.PlainPrograms.{nothing, quiet, perform, display, branch, PlainProgram}
use Rattle.aplc_names.specs.States.{final}
use Rattle.aplc_names.specs.Runs.{Ended, Faulted, eager, peak, work, evaluated}
use Rattle.aplc_names.proofs.RunExamples.{routine, program, marking, at, alone}

-- The nodes that are held, those that are swept and the roots of pieces are told by their numbers, which are their places
-- in the source from MAIN's del on.

-- ---- `∇MAIN`, `A←⍳4`, `B←A+2×A`, `B[4]`, `∇`

doubled : PlainProgram
doubled = program (routine (codes "MAIN") None None None [] ((2, scope.Function 0) ∷ []) (quiet (Assign 8 8 0 (Mono 12 12 pr.Iota (Numbers 15 15 (pos 4 ∷ [])))) ∷ quiet (Assign 17 17 1 (Dyad 22 22 (pr.Scalar f.Add) (Name 21 21 0) (Dyad 24 24 (pr.Scalar f.Mul) (Numbers 23 23 (pos 2 ∷ [])) (Name 26 26 0)))) ∷ display (Index 29 29 (Name 28 28 1) (and_tree (Numbers 30 30 (pos 4 ∷ [])) no_more)) ∷ []) ∷ [])

doubled_run : eager doubled (marking [] [] (12 ∷ 15 ∷ 22 ∷ 23 ∷ 29 ∷ 30 ∷ [])) [] 1000 ≡ Ended (codes "12" ++ 10 ∷ []) (at (codes "MAIN") 1 ∷ at (codes "MAIN") 2 ∷ at (codes "MAIN") 3 ∷ [])
unfolding eager doubled in_range digits encode
doubled_run = refl

doubled_peak : peak doubled (marking [] [] (12 ∷ 15 ∷ 22 ∷ 23 ∷ 29 ∷ 30 ∷ [])) [] 1000 ≡ 8
unfolding peak doubled in_range digits encode
doubled_peak = refl

doubled_work : work doubled (marking [] [] (12 ∷ 15 ∷ 22 ∷ 23 ∷ 29 ∷ 30 ∷ [])) [] 1000 ≡ 68
unfolding work doubled in_range digits encode
doubled_work = refl

-- ---- `∇MAIN`, `A←3 2⍴⍳6`, `A`, `∇`

reshaped : PlainProgram
reshaped = program (routine (codes "MAIN") None None None [] ((1, scope.Function 0) ∷ []) (quiet (Assign 8 8 0 (Dyad 15 15 pr.Shape (Numbers 12 12 (pos 3 ∷ pos 2 ∷ [])) (Mono 18 18 pr.Iota (Numbers 21 21 (pos 6 ∷ []))))) ∷ display (Name 23 23 0) ∷ []) ∷ [])

reshaped_run : eager reshaped (marking [] [] (15 ∷ 21 ∷ 23 ∷ [])) [] 1000 ≡ Ended (codes "1 2" ++ 10 ∷ (codes "3 4" ++ 10 ∷ (codes "5 6" ++ 10 ∷ []))) (at (codes "MAIN") 1 ∷ at (codes "MAIN") 2 ∷ [])
unfolding eager reshaped in_range digits encode
reshaped_run = refl

reshaped_peak : peak reshaped (marking [] [] (15 ∷ 21 ∷ 23 ∷ [])) [] 1000 ≡ 8
unfolding peak reshaped in_range digits encode
reshaped_peak = refl

reshaped_work : work reshaped (marking [] [] (15 ∷ 21 ∷ 23 ∷ [])) [] 1000 ≡ 54
unfolding work reshaped in_range digits encode
reshaped_work = refl

-- ---- `∇MAIN`, `A←⍳3`, `+/A×⌽A`, `∇`

reversed_sum : PlainProgram
reversed_sum = program (routine (codes "MAIN") None None None [] ((1, scope.Function 0) ∷ []) (quiet (Assign 8 8 0 (Mono 12 12 pr.Iota (Numbers 15 15 (pos 3 ∷ [])))) ∷ display (Mono 17 17 (pr.Reduce f.Add ax.Last) (Dyad 20 20 (pr.Scalar f.Mul) (Name 19 19 0) (Mono 22 22 (pr.Reverse ax.Last) (Name 25 25 0)))) ∷ []) ∷ [])

reversed_sum_run : eager reversed_sum (marking [] [] (12 ∷ 15 ∷ 17 ∷ [])) [] 1000 ≡ Ended (codes "10" ++ 10 ∷ []) (at (codes "MAIN") 1 ∷ at (codes "MAIN") 2 ∷ [])
unfolding eager reversed_sum in_range digits encode
reversed_sum_run = refl

reversed_sum_peak : peak reversed_sum (marking [] [] (12 ∷ 15 ∷ 17 ∷ [])) [] 1000 ≡ 3
unfolding peak reversed_sum in_range digits encode
reversed_sum_peak = refl

reversed_sum_work : work reversed_sum (marking [] [] (12 ∷ 15 ∷ 17 ∷ [])) [] 1000 ≡ 43
unfolding work reversed_sum in_range digits encode
reversed_sum_work = refl

-- ---- `∇MAIN`, `F ⍳3`, `∇`, `∇R←F X;T`, `T←X,X`, `R←T+1`, `∇`

called : PlainProgram
called = program (routine (codes "MAIN") None None None [] ((0, scope.Function 1) ∷ (1, scope.Function 0) ∷ []) (display (Call 8 8 0 absent (given (Mono 10 10 pr.Iota (Numbers 13 13 (pos 3 ∷ []))))) ∷ []) ∷ routine (codes "F") (Some 4) None (Some 3) (2 ∷ []) ((0, scope.Function 1) ∷ (1, scope.Function 0) ∷ (2, scope.Local) ∷ (3, scope.Local) ∷ (4, scope.Local) ∷ []) (quiet (Assign 32 32 2 (Dyad 37 37 pr.Ravel (Name 36 36 3) (Name 38 38 3))) ∷ quiet (Assign 40 40 4 (Dyad 45 45 (pr.Scalar f.Add) (Name 44 44 2) (Numbers 46 46 (pos 1 ∷ [])))) ∷ []) ∷ [])

called_run : eager called (marking (8 ∷ 10 ∷ []) [] (8 ∷ 10 ∷ 13 ∷ 37 ∷ 45 ∷ 46 ∷ [])) [] 1000 ≡ Ended (codes "2 3 4 2 3 4" ++ 10 ∷ []) (at (codes "MAIN") 1 ∷ at (codes "F") 1 ∷ at (codes "F") 2 ∷ [])
unfolding eager called in_range digits encode
called_run = refl

called_peak : peak called (marking (8 ∷ 10 ∷ []) [] (8 ∷ 10 ∷ 13 ∷ 37 ∷ 45 ∷ 46 ∷ [])) [] 1000 ≡ 15
unfolding peak called in_range digits encode
called_peak = refl

called_work : work called (marking (8 ∷ 10 ∷ []) [] (8 ∷ 10 ∷ 13 ∷ 37 ∷ 45 ∷ 46 ∷ [])) [] 1000 ≡ 90
unfolding work called in_range digits encode
called_work = refl

-- ---- `∇MAIN`, `1 2+9223372036854775807+1 1 1`, `∇`

overflow : PlainProgram
overflow = program (routine (codes "MAIN") None None None [] ((0, scope.Function 0) ∷ []) (display (Dyad 11 11 (pr.Scalar f.Add) (Numbers 8 8 (pos 1 ∷ pos 2 ∷ [])) (Dyad 31 31 (pr.Scalar f.Add) (Numbers 12 12 (pos 9223372036854775807 ∷ [])) (Numbers 32 32 (pos 1 ∷ pos 1 ∷ pos 1 ∷ [])))) ∷ []) ∷ [])

overflow_run : eager overflow (marking [] (11 ∷ 31 ∷ []) (11 ∷ 12 ∷ [])) [] 1000 ≡ Faulted [] (at (codes "MAIN") 1 ∷ []) fault.Limit (alone 1)
unfolding eager overflow in_range digits encode
overflow_run = refl

overflow_peak : peak overflow (marking [] (11 ∷ 31 ∷ []) (11 ∷ 12 ∷ [])) [] 1000 ≡ 0
unfolding peak overflow in_range digits encode
overflow_peak = refl

overflow_work : work overflow (marking [] (11 ∷ 31 ∷ []) (11 ∷ 12 ∷ [])) [] 1000 ≡ 8
unfolding work overflow in_range digits encode
overflow_work = refl

-- the fault is not late, since the node is swept; without that it is
overflow_swept : (final (evaluated overflow (marking [] (11 ∷ 31 ∷ []) (11 ∷ 12 ∷ [])) [] 1000)).account.late ≡ false
unfolding overflow in_range
overflow_swept = refl

overflow_late : (final (evaluated overflow (marking [] [] (11 ∷ 12 ∷ [])) [] 1000)).account.late ≡ true
unfolding overflow in_range
overflow_late = refl

-- ---- `∇MAIN`, `+\⍳4`, `1 0 2/⍳3`, `∇`

scanned : PlainProgram
scanned = program (routine (codes "MAIN") None None None [] ((0, scope.Function 0) ∷ []) (display (Mono 8 8 (pr.Scan f.Add ax.Last) (Mono 10 10 pr.Iota (Numbers 13 13 (pos 4 ∷ [])))) ∷ display (Dyad 20 20 (pr.Replicate ax.Last) (Numbers 15 15 (pos 1 ∷ pos 0 ∷ pos 2 ∷ [])) (Mono 21 21 pr.Iota (Numbers 24 24 (pos 3 ∷ [])))) ∷ []) ∷ [])

scanned_run : eager scanned (marking (8 ∷ []) [] (8 ∷ 13 ∷ 20 ∷ 24 ∷ [])) [] 1000 ≡ Ended (codes "1 3 6 10" ++ 10 ∷ (codes "1 3 3" ++ 10 ∷ [])) (at (codes "MAIN") 1 ∷ at (codes "MAIN") 2 ∷ [])
unfolding eager scanned in_range digits encode
scanned_run = refl

scanned_peak : peak scanned (marking (8 ∷ []) [] (8 ∷ 13 ∷ 20 ∷ 24 ∷ [])) [] 1000 ≡ 4
unfolding peak scanned in_range digits encode
scanned_peak = refl

scanned_work : work scanned (marking (8 ∷ []) [] (8 ∷ 13 ∷ 20 ∷ 24 ∷ [])) [] 1000 ≡ 56
unfolding work scanned in_range digits encode
scanned_work = refl

-- ---- `∇MAIN`, `A←⍳3`, `A[2]←9`, `A←A,A`, an empty line, `A`, `∇`

changed : PlainProgram
changed = program (routine (codes "MAIN") None None None [] ((1, scope.Function 0) ∷ []) (quiet (Assign 8 8 0 (Mono 12 12 pr.Iota (Numbers 15 15 (pos 3 ∷ [])))) ∷ quiet (AssignAt 17 17 0 (and_tree (Numbers 19 19 (pos 2 ∷ [])) no_more) (Numbers 24 24 (pos 9 ∷ []))) ∷ quiet (Assign 26 26 0 (Dyad 31 31 pr.Ravel (Name 30 30 0) (Name 32 32 0))) ∷ nothing ∷ display (Name 35 35 0) ∷ []) ∷ [])

changed_run : eager changed (marking [] [] (12 ∷ 15 ∷ 17 ∷ 19 ∷ 24 ∷ 31 ∷ 35 ∷ [])) [] 1000 ≡ Ended (codes "1 9 3 1 9 3" ++ 10 ∷ []) (at (codes "MAIN") 1 ∷ at (codes "MAIN") 2 ∷ at (codes "MAIN") 3 ∷ at (codes "MAIN") 5 ∷ [])
unfolding eager changed in_range digits encode
changed_run = refl

changed_peak : peak changed (marking [] [] (12 ∷ 15 ∷ 17 ∷ 19 ∷ 24 ∷ 31 ∷ 35 ∷ [])) [] 1000 ≡ 9
unfolding peak changed in_range digits encode
changed_peak = refl

changed_work : work changed (marking [] [] (12 ∷ 15 ∷ 17 ∷ 19 ∷ 24 ∷ 31 ∷ 35 ∷ [])) [] 1000 ≡ 65
unfolding work changed in_range digits encode
changed_work = refl

-- ---- `∇MAIN`, `(⍳2)∘.×⍳3`, `∇`

table : PlainProgram
table = program (routine (codes "MAIN") None None None [] ((0, scope.Function 0) ∷ []) (display (Dyad 14 14 (pr.Outer f.Mul) (Mono 9 9 pr.Iota (Numbers 12 12 (pos 2 ∷ []))) (Mono 20 20 pr.Iota (Numbers 23 23 (pos 3 ∷ [])))) ∷ []) ∷ [])

table_run : eager table (marking (14 ∷ []) [] (12 ∷ 14 ∷ 23 ∷ [])) [] 1000 ≡ Ended (codes "1 2 3" ++ 10 ∷ (codes "2 4 6" ++ 10 ∷ [])) (at (codes "MAIN") 1 ∷ [])
unfolding eager table in_range digits encode
table_run = refl

table_peak : peak table (marking (14 ∷ []) [] (12 ∷ 14 ∷ 23 ∷ [])) [] 1000 ≡ 9
unfolding peak table in_range digits encode
table_peak = refl

table_work : work table (marking (14 ∷ []) [] (12 ∷ 14 ∷ 23 ∷ [])) [] 1000 ≡ 41
unfolding work table in_range digits encode
table_work = refl

-- ---- `∇MAIN`, `⎕←⍳2`, `(B←5 6)+2↑A←1 2 3`, `∇`

kept : PlainProgram
kept = program (routine (codes "MAIN") None None None [] ((2, scope.Function 0) ∷ []) (quiet (Show 8 8 (Mono 14 14 pr.Iota (Numbers 17 17 (pos 2 ∷ [])))) ∷ display (Dyad 28 28 (pr.Scalar f.Add) (Assign 20 20 0 (Numbers 24 24 (pos 5 ∷ pos 6 ∷ []))) (Dyad 30 30 pr.Take (Numbers 29 29 (pos 2 ∷ [])) (Assign 33 33 1 (Numbers 37 37 (pos 1 ∷ pos 2 ∷ pos 3 ∷ []))))) ∷ []) ∷ [])

kept_run : eager kept (marking [] (28 ∷ []) (14 ∷ 17 ∷ 24 ∷ 28 ∷ 29 ∷ 37 ∷ [])) [] 1000 ≡ Ended (codes "1 2" ++ 10 ∷ (codes "6 8" ++ 10 ∷ [])) (at (codes "MAIN") 1 ∷ at (codes "MAIN") 2 ∷ [])
unfolding eager kept in_range digits encode
kept_run = refl

kept_peak : peak kept (marking [] (28 ∷ []) (14 ∷ 17 ∷ 24 ∷ 28 ∷ 29 ∷ 37 ∷ [])) [] 1000 ≡ 5
unfolding peak kept in_range digits encode
kept_peak = refl

kept_work : work kept (marking [] (28 ∷ []) (14 ∷ 17 ∷ 24 ∷ 28 ∷ 29 ∷ 37 ∷ [])) [] 1000 ≡ 47
unfolding work kept in_range digits encode
kept_work = refl

-- ---- `∇MAIN`, `X←F`, `X`, `∇`, `∇R←F`, `R←'ab'`, `G R`, `∇`, `∇G Y;Z`, `Z←Y,Y`, `→0`, `∇`

nested : PlainProgram
nested = program (routine (codes "MAIN") None None None [] ((1, scope.Function 1) ∷ (2, scope.Function 0) ∷ (4, scope.Function 2) ∷ []) (quiet (Assign 8 8 0 (Call 12 12 1 absent absent)) ∷ display (Name 14 14 0) ∷ []) ∷ routine (codes "F") (Some 3) None None [] ((1, scope.Function 1) ∷ (2, scope.Function 0) ∷ (3, scope.Local) ∷ (4, scope.Function 2) ∷ []) (quiet (Assign 29 29 3 (Text 33 33 (97 ∷ 98 ∷ []))) ∷ perform 38 38 4 absent (given (Name 40 40 3)) ∷ []) ∷ routine (codes "G") None None (Some 6) (5 ∷ []) ((1, scope.Function 1) ∷ (2, scope.Function 0) ∷ (4, scope.Function 2) ∷ (5, scope.Local) ∷ (6, scope.Local) ∷ []) (quiet (Assign 55 55 5 (Dyad 60 60 pr.Ravel (Name 59 59 6) (Name 61 61 6))) ∷ branch 63 (Numbers 66 66 (pos 0 ∷ [])) ∷ []) ∷ [])

nested_run : eager nested (marking (12 ∷ 40 ∷ []) [] (12 ∷ 14 ∷ 33 ∷ 40 ∷ 60 ∷ 66 ∷ [])) [] 1000 ≡ Ended (codes "ab" ++ 10 ∷ []) (at (codes "MAIN") 1 ∷ at (codes "F") 1 ∷ at (codes "F") 2 ∷ at (codes "G") 1 ∷ at (codes "G") 2 ∷ at (codes "MAIN") 2 ∷ [])
unfolding eager nested in_range digits encode
nested_run = refl

nested_peak : peak nested (marking (12 ∷ 40 ∷ []) [] (12 ∷ 14 ∷ 33 ∷ 40 ∷ 60 ∷ 66 ∷ [])) [] 1000 ≡ 8
unfolding peak nested in_range digits encode
nested_peak = refl

nested_work : work nested (marking (12 ∷ 40 ∷ []) [] (12 ∷ 14 ∷ 33 ∷ 40 ∷ 60 ∷ 66 ∷ [])) [] 1000 ≡ 56
unfolding work nested in_range digits encode
nested_work = refl
