-- The steps of small statements, computed. Nodes are numbered from the left.
use Rattle.std.specs.Prelude.{◌≡◌, [], ◌∷◌, pos, codes, true, Some, None, refl}
use Rattle.std.specs.Fmt.{digits}
use lib.Utf8.{encode}
use Rattle.aplc_scalar.specs.Scalar.{in_range}
use Rattle.aplc_scalar.specs.declared.kind.Kind.TheVariants.{Num}
use Rattle.aplc_scalar.specs.declared.function.ScalarFn.TheVariants as f
use Rattle.aplc_syntax.specs.declared.tree.Primitive.TheVariants as pr
use Rattle.aplc_syntax.specs.declared.tree.Axis.TheVariants as ax
use Rattle.aplc_syntax.specs.PlainTrees.{absent, given}
use Rattle.aplc_syntax.specs.PlainTrees as t
use Rattle.aplc_names.specs.declared.scope.Scope.TheVariants as scope
use Rattle.aplc_names.specs.PlainPrograms.{quiet, display, branch, PlainProgram}
use Rattle.aplc_names.specs.States.{final}
use Rattle.aplc_names.specs.Runs.{eager, peak, work, evaluated}
use Rattle.aplc_names.proofs.RunExamples.{number, main, program, routine, unmarked, marking, failing}
use Rattle.aplc_core.specs.PlainSteps.{Literal, Read, Slot, Dyad, Index, no_more, and_term, Keep, Store, StoreAt, Call, ReadText, Show, Branch}
use Rattle.aplc_core.specs.CoreRuns.{core, core_peak, core_work, core_evaluated}
use Rattle.aplc_core.specs.Lowering.{lowered, lowered_program}

-- `(A←5)+A`: what is read first is kept
assigned_left : lowered (display (t.Dyad 3 3 (pr.Scalar f.Add) (t.Assign 1 1 0 (number 2 5)) (t.Name 4 4 0)))
    ≡ Keep 0 (Read 4 0) ∷ Store 1 0 (Literal 2 Num (pos 5 ∷ [])) ∷ Show None (Dyad 3 (pr.Scalar f.Add) (Read 1 0) (Slot 4 0)) ∷ []
assigned_left = refl

-- `A[I←2]←B←3`
assigned_index : lowered (quiet (t.AssignAt 1 1 0 (t.and_tree (t.Assign 2 2 1 (number 3 2)) t.no_more) (t.Assign 4 4 2 (number 5 3))))
    ≡ Store 4 2 (Literal 5 Num (pos 3 ∷ [])) ∷ Keep 0 (Read 4 2) ∷ Store 2 1 (Literal 3 Num (pos 2 ∷ [])) ∷ StoreAt 1 0 (and_term (Read 2 1) no_more) (Slot 4 0) ∷ []
assigned_index = refl

-- `(F X)+G Y×⎕←Z`: names F, X, G, Y, Z are 0 to 4; each argument is kept, and the result of G waits in its own slot
two_calls : lowered (display (t.Dyad 3 3 (pr.Scalar f.Add) (t.Call 1 1 0 absent (given (t.Name 2 2 1))) (t.Call 4 4 2 absent (given (t.Dyad 6 6 (pr.Scalar f.Mul) (t.Name 5 5 3) (t.Show 7 7 (t.Name 8 8 4)))))))
    ≡ Keep 0 (Read 8 4) ∷ Show (Some 7) (Slot 8 0) ∷ Keep 1 (Dyad 6 (pr.Scalar f.Mul) (Read 5 3) (Slot 7 0)) ∷ Call 4 2 None (Some 1) (Some 2) ∷ Keep 3 (Read 2 1) ∷ Call 1 0 None (Some 3) (Some 4) ∷ Show None (Dyad 3 (pr.Scalar f.Add) (Slot 1 4) (Slot 4 2)) ∷ []
two_calls = refl

-- `(⎕←1 2+3)⍳3`
shown_left : lowered (display (t.Dyad 5 5 pr.Iota (t.Show 1 1 (t.Dyad 3 3 (pr.Scalar f.Add) (t.Numbers 2 2 (pos 1 ∷ pos 2 ∷ [])) (number 4 3))) (number 6 3)))
    ≡ Keep 0 (Literal 6 Num (pos 3 ∷ [])) ∷ Keep 1 (Dyad 3 (pr.Scalar f.Add) (Literal 2 Num (pos 1 ∷ pos 2 ∷ [])) (Literal 4 Num (pos 3 ∷ []))) ∷ Show (Some 1) (Slot 3 1) ∷ Show None (Dyad 5 pr.Iota (Slot 1 1) (Slot 6 0)) ∷ []
shown_left = refl

-- `A[1;⍞;2]`: the last place is kept, the first is not
read_in_the_middle : lowered (display (t.Index 1 1 (t.Name 2 2 0) (t.and_tree (number 3 1) (t.and_tree (t.TextInput 4 4) (t.and_tree (number 5 2) t.no_more)))))
    ≡ Keep 0 (Literal 5 Num (pos 2 ∷ [])) ∷ ReadText 4 1 ∷ Show None (Index 1 (Read 2 0) (and_term (Literal 3 Num (pos 1 ∷ [])) (and_term (Slot 4 1) (and_term (Slot 5 0) no_more)))) ∷ []
read_in_the_middle = refl

-- `→(C←1)/L`
chosen_line : lowered (branch 0 (t.Dyad 3 3 (pr.Replicate ax.Last) (t.Assign 1 1 0 (number 2 1)) (t.Name 4 4 1)))
    ≡ Keep 0 (Read 4 1) ∷ Store 1 0 (Literal 2 Num (pos 1 ∷ [])) ∷ Branch (Dyad 3 (pr.Replicate ax.Last) (Read 1 0) (Slot 4 0)) ∷ []
chosen_line = refl

-- ---- Runs

-- `A←F 3`, `A`; and `R←F B`, with `R←B+B`: names A, B, R, F are 0 to 3
unfoldable calling : PlainProgram
calling =
    program (main ((3, scope.Function 1) ∷ []) (quiet (t.Assign 11 11 0 (t.Call 12 12 3 absent (given (number 13 3)))) ∷ display (t.Name 14 14 0) ∷ []) ∷ routine (codes "F") (Some 2) None (Some 1) [] ((1, scope.Local) ∷ (2, scope.Local) ∷ []) (quiet (t.Assign 21 21 2 (t.Dyad 22 22 (pr.Scalar f.Add) (t.Name 23 23 1) (t.Name 24 24 1))) ∷ []) ∷ [])

call_run : core (lowered_program calling) unmarked [] 9 ≡ eager calling unmarked [] 9
unfolding core eager calling in_range digits encode
call_run = refl

call_work : core_work (lowered_program calling) unmarked [] 9 ≡ work calling unmarked [] 9
unfolding core_work work calling in_range digits encode
call_work = refl

-- LIMIT in a function that is called
fault_run : core (lowered_program failing) unmarked [] 9 ≡ eager failing unmarked [] 9
unfolding core eager failing in_range digits encode
fault_run = refl

-- `A←B←⍳3`, `1+⎕←2 2⍴A`
unfoldable stored_twice : PlainProgram
stored_twice =
    program (main [] (quiet (t.Assign 1 1 0 (t.Assign 2 2 1 (t.Mono 3 3 pr.Iota (number 4 3)))) ∷ display (t.Dyad 6 6 (pr.Scalar f.Add) (number 5 1) (t.Show 7 7 (t.Dyad 9 9 pr.Shape (t.Numbers 8 8 (pos 2 ∷ pos 2 ∷ [])) (t.Name 10 10 0)))) ∷ []) ∷ [])

stores_run : core (lowered_program stored_twice) (marking (2 ∷ 7 ∷ 9 ∷ []) [] []) [] 9 ≡ eager stored_twice (marking (2 ∷ 7 ∷ 9 ∷ []) [] []) [] 9
unfolding core eager stored_twice in_range digits encode
stores_run = refl

stores_peak : core_peak (lowered_program stored_twice) (marking (2 ∷ 7 ∷ 9 ∷ []) [] []) [] 9 ≡ peak stored_twice (marking (2 ∷ 7 ∷ 9 ∷ []) [] []) [] 9
unfolding core_peak peak stored_twice in_range digits encode
stores_peak = refl

-- `1+⎕←9223372036854775807+2 2⍴1`: the widths of the display count before the element faults, and the fault is late
unfoldable late : PlainProgram
late =
    program (main [] (display (t.Dyad 2 2 (pr.Scalar f.Add) (number 1 1) (t.Show 3 3 (t.Dyad 5 5 (pr.Scalar f.Add) (number 4 9223372036854775807) (t.Dyad 7 7 pr.Shape (t.Numbers 6 6 (pos 2 ∷ pos 2 ∷ [])) (number 8 1))))) ∷ []) ∷ [])

late_run : core_evaluated (lowered_program late) (marking (5 ∷ []) [] []) [] 9 ≡ evaluated late (marking (5 ∷ []) [] []) [] 9
unfolding late in_range digits encode
late_run = refl

late_peak : core_peak (lowered_program late) (marking (5 ∷ []) [] []) [] 9 ≡ 6
unfolding core_peak late in_range digits encode
late_peak = refl

late_told : (final (core_evaluated (lowered_program late) (marking (5 ∷ []) [] []) [] 9)).account.late ≡ true
unfolding late in_range digits encode
late_told = refl
