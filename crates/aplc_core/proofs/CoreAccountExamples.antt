-- Runs of steps, computed, with the greatest account and the work: they are those of the eager runs.
use Rattle.std.specs.Prelude.{◌≡◌, [], ◌∷◌, pos, negsuc, codes, Some, None, refl}
use Rattle.std.specs.Str.{chars, is_utf8}
use Rattle.std.specs.Fmt.{digits}
use lib.Utf8.{encode}
use Rattle.aplc_scalar.specs.Scalar.{in_range}
use Rattle.aplc_scalar.specs.Input.{input_line, number_line}
use Rattle.aplc_scalar.specs.declared.kind.FaultKind.TheVariants as fault
use Rattle.aplc_scalar.specs.declared.function.ScalarFn.TheVariants as f
use Rattle.aplc_syntax.specs.declared.tree.Primitive.TheVariants as pr
use Rattle.aplc_syntax.specs.declared.tree.Axis.TheVariants as ax
use Rattle.aplc_syntax.specs.PlainTrees.{Numbers, Text, Name, Mono, Dyad, Index, Assign, AssignAt, Show, Call, no_more, and_tree, absent, given}
use Rattle.aplc_names.specs.declared.scope.Scope.TheVariants as scope
use Rattle.aplc_names.specs.PlainPrograms.{nothing, quiet, perform, display, branch, PlainProgram}
use Rattle.aplc_names.specs.Runs.{Ended, Faulted, eager, peak, work}
use Rattle.aplc_names.proofs.RunExamples.{program, routine, marking, at, places}
use Rattle.aplc_core.specs.CoreRuns.{core, core_peak, core_work}
use Rattle.aplc_core.specs.Lowering.{lowered_program}

-- ---- An argument that is held
--   ∇MAIN
--   F ⍳3
--   ∇
--   ∇R←F X;T
--   T←X,X
--   R←T+1
--   ∇
abbrev held_argument : PlainProgram
held_argument = program (routine (codes "MAIN") None None None [] ((0, scope.Function 1) ∷ (1, scope.Function 0) ∷ []) (display (Call 8 8 0 absent (given (Mono 10 10 pr.Iota (Numbers 13 13 (pos 3 ∷ []))))) ∷ []) ∷ routine (codes "F") (Some 4) None (Some 3) (2 ∷ []) ((0, scope.Function 1) ∷ (1, scope.Function 0) ∷ (2, scope.Local) ∷ (3, scope.Local) ∷ (4, scope.Local) ∷ []) (quiet (Assign 32 32 2 (Dyad 37 37 pr.Ravel (Name 36 36 3) (Name 38 38 3))) ∷ quiet (Assign 40 40 4 (Dyad 45 45 (pr.Scalar f.Add) (Name 44 44 2) (Numbers 46 46 (pos 1 ∷ [])))) ∷ []) ∷ [])

held_argument_run : (core (lowered_program held_argument) (marking (8 ∷ 10 ∷ []) [] (8 ∷ 10 ∷ 13 ∷ 37 ∷ 45 ∷ 46 ∷ [])) [] 1000 ≡ Ended (50 ∷ 32 ∷ 51 ∷ 32 ∷ 52 ∷ 32 ∷ 50 ∷ 32 ∷ 51 ∷ 32 ∷ 52 ∷ 10 ∷ []) (at (codes "MAIN") 1 ∷ at (codes "F") 1 ∷ at (codes "F") 2 ∷ [])) × (core (lowered_program held_argument) (marking (8 ∷ 10 ∷ []) [] (8 ∷ 10 ∷ 13 ∷ 37 ∷ 45 ∷ 46 ∷ [])) [] 1000 ≡ eager held_argument (marking (8 ∷ 10 ∷ []) [] (8 ∷ 10 ∷ 13 ∷ 37 ∷ 45 ∷ 46 ∷ [])) [] 1000)
unfolding core eager in_range digits encode input_line number_line is_utf8 chars
held_argument_run = (refl, refl)

held_argument_peak : (core_peak (lowered_program held_argument) (marking (8 ∷ 10 ∷ []) [] (8 ∷ 10 ∷ 13 ∷ 37 ∷ 45 ∷ 46 ∷ [])) [] 1000 ≡ 15) × (peak held_argument (marking (8 ∷ 10 ∷ []) [] (8 ∷ 10 ∷ 13 ∷ 37 ∷ 45 ∷ 46 ∷ [])) [] 1000 ≡ 15)
unfolding core_peak peak in_range digits encode input_line number_line is_utf8 chars
held_argument_peak = (refl, refl)

held_argument_work : (core_work (lowered_program held_argument) (marking (8 ∷ 10 ∷ []) [] (8 ∷ 10 ∷ 13 ∷ 37 ∷ 45 ∷ 46 ∷ [])) [] 1000 ≡ 90) × (work held_argument (marking (8 ∷ 10 ∷ []) [] (8 ∷ 10 ∷ 13 ∷ 37 ∷ 45 ∷ 46 ∷ [])) [] 1000 ≡ 90)
unfolding core_work work in_range digits encode input_line number_line is_utf8 chars
held_argument_work = (refl, refl)

-- ---- A fault at a node that is swept
--   ∇MAIN
--   1 2+9223372036854775807+1 1 1
--   ∇
abbrev swept_fault : PlainProgram
swept_fault = program (routine (codes "MAIN") None None None [] ((0, scope.Function 0) ∷ []) (display (Dyad 11 11 (pr.Scalar f.Add) (Numbers 8 8 (pos 1 ∷ pos 2 ∷ [])) (Dyad 31 31 (pr.Scalar f.Add) (Numbers 12 12 (pos 9223372036854775807 ∷ [])) (Numbers 32 32 (pos 1 ∷ pos 1 ∷ pos 1 ∷ [])))) ∷ []) ∷ [])

swept_fault_run : (core (lowered_program swept_fault) (marking [] (11 ∷ 31 ∷ []) (11 ∷ 12 ∷ [])) [] 1000 ≡ Faulted [] (at (codes "MAIN") 1 ∷ []) fault.Limit (places (at (codes "MAIN") 1) [])) × (core (lowered_program swept_fault) (marking [] (11 ∷ 31 ∷ []) (11 ∷ 12 ∷ [])) [] 1000 ≡ eager swept_fault (marking [] (11 ∷ 31 ∷ []) (11 ∷ 12 ∷ [])) [] 1000)
unfolding core eager in_range digits encode input_line number_line is_utf8 chars
swept_fault_run = (refl, refl)

swept_fault_peak : (core_peak (lowered_program swept_fault) (marking [] (11 ∷ 31 ∷ []) (11 ∷ 12 ∷ [])) [] 1000 ≡ 0) × (peak swept_fault (marking [] (11 ∷ 31 ∷ []) (11 ∷ 12 ∷ [])) [] 1000 ≡ 0)
unfolding core_peak peak in_range digits encode input_line number_line is_utf8 chars
swept_fault_peak = (refl, refl)

swept_fault_work : (core_work (lowered_program swept_fault) (marking [] (11 ∷ 31 ∷ []) (11 ∷ 12 ∷ [])) [] 1000 ≡ 8) × (work swept_fault (marking [] (11 ∷ 31 ∷ []) (11 ∷ 12 ∷ [])) [] 1000 ≡ 8)
unfolding core_work work in_range digits encode input_line number_line is_utf8 chars
swept_fault_work = (refl, refl)

-- ---- An indexed assignment
--   ∇MAIN
--   A←⍳3
--   A[2]←9
--   A←A,A
--
--   A
--   ∇
abbrev changed_element : PlainProgram
changed_element = program (routine (codes "MAIN") None None None [] ((1, scope.Function 0) ∷ []) (quiet (Assign 8 8 0 (Mono 12 12 pr.Iota (Numbers 15 15 (pos 3 ∷ [])))) ∷ quiet (AssignAt 17 17 0 (and_tree (Numbers 19 19 (pos 2 ∷ [])) no_more) (Numbers 24 24 (pos 9 ∷ []))) ∷ quiet (Assign 26 26 0 (Dyad 31 31 pr.Ravel (Name 30 30 0) (Name 32 32 0))) ∷ nothing ∷ display (Name 35 35 0) ∷ []) ∷ [])

changed_element_run : (core (lowered_program changed_element) (marking [] [] (12 ∷ 15 ∷ 17 ∷ 19 ∷ 24 ∷ 31 ∷ 35 ∷ [])) [] 1000 ≡ Ended (49 ∷ 32 ∷ 57 ∷ 32 ∷ 51 ∷ 32 ∷ 49 ∷ 32 ∷ 57 ∷ 32 ∷ 51 ∷ 10 ∷ []) (at (codes "MAIN") 1 ∷ at (codes "MAIN") 2 ∷ at (codes "MAIN") 3 ∷ at (codes "MAIN") 5 ∷ [])) × (core (lowered_program changed_element) (marking [] [] (12 ∷ 15 ∷ 17 ∷ 19 ∷ 24 ∷ 31 ∷ 35 ∷ [])) [] 1000 ≡ eager changed_element (marking [] [] (12 ∷ 15 ∷ 17 ∷ 19 ∷ 24 ∷ 31 ∷ 35 ∷ [])) [] 1000)
unfolding core eager in_range digits encode input_line number_line is_utf8 chars
changed_element_run = (refl, refl)

changed_element_peak : (core_peak (lowered_program changed_element) (marking [] [] (12 ∷ 15 ∷ 17 ∷ 19 ∷ 24 ∷ 31 ∷ 35 ∷ [])) [] 1000 ≡ 9) × (peak changed_element (marking [] [] (12 ∷ 15 ∷ 17 ∷ 19 ∷ 24 ∷ 31 ∷ 35 ∷ [])) [] 1000 ≡ 9)
unfolding core_peak peak in_range digits encode input_line number_line is_utf8 chars
changed_element_peak = (refl, refl)

changed_element_work : (core_work (lowered_program changed_element) (marking [] [] (12 ∷ 15 ∷ 17 ∷ 19 ∷ 24 ∷ 31 ∷ 35 ∷ [])) [] 1000 ≡ 65) × (work changed_element (marking [] [] (12 ∷ 15 ∷ 17 ∷ 19 ∷ 24 ∷ 31 ∷ 35 ∷ [])) [] 1000 ≡ 65)
unfolding core_work work in_range digits encode input_line number_line is_utf8 chars
changed_element_work = (refl, refl)

-- ---- Two assignments in a statement
--   ∇MAIN
--   ⎕←⍳2
--   (B←5 6)+2↑A←1 2 3
--   ∇
abbrev stored_twice : PlainProgram
stored_twice = program (routine (codes "MAIN") None None None [] ((2, scope.Function 0) ∷ []) (quiet (Show 8 8 (Mono 14 14 pr.Iota (Numbers 17 17 (pos 2 ∷ [])))) ∷ display (Dyad 28 28 (pr.Scalar f.Add) (Assign 20 20 0 (Numbers 24 24 (pos 5 ∷ pos 6 ∷ []))) (Dyad 30 30 pr.Take (Numbers 29 29 (pos 2 ∷ [])) (Assign 33 33 1 (Numbers 37 37 (pos 1 ∷ pos 2 ∷ pos 3 ∷ []))))) ∷ []) ∷ [])

stored_twice_run : (core (lowered_program stored_twice) (marking [] (28 ∷ []) (14 ∷ 17 ∷ 24 ∷ 28 ∷ 29 ∷ 37 ∷ [])) [] 1000 ≡ Ended (49 ∷ 32 ∷ 50 ∷ 10 ∷ 54 ∷ 32 ∷ 56 ∷ 10 ∷ []) (at (codes "MAIN") 1 ∷ at (codes "MAIN") 2 ∷ [])) × (core (lowered_program stored_twice) (marking [] (28 ∷ []) (14 ∷ 17 ∷ 24 ∷ 28 ∷ 29 ∷ 37 ∷ [])) [] 1000 ≡ eager stored_twice (marking [] (28 ∷ []) (14 ∷ 17 ∷ 24 ∷ 28 ∷ 29 ∷ 37 ∷ [])) [] 1000)
unfolding core eager in_range digits encode input_line number_line is_utf8 chars
stored_twice_run = (refl, refl)

stored_twice_peak : (core_peak (lowered_program stored_twice) (marking [] (28 ∷ []) (14 ∷ 17 ∷ 24 ∷ 28 ∷ 29 ∷ 37 ∷ [])) [] 1000 ≡ 5) × (peak stored_twice (marking [] (28 ∷ []) (14 ∷ 17 ∷ 24 ∷ 28 ∷ 29 ∷ 37 ∷ [])) [] 1000 ≡ 5)
unfolding core_peak peak in_range digits encode input_line number_line is_utf8 chars
stored_twice_peak = (refl, refl)

stored_twice_work : (core_work (lowered_program stored_twice) (marking [] (28 ∷ []) (14 ∷ 17 ∷ 24 ∷ 28 ∷ 29 ∷ 37 ∷ [])) [] 1000 ≡ 47) × (work stored_twice (marking [] (28 ∷ []) (14 ∷ 17 ∷ 24 ∷ 28 ∷ 29 ∷ 37 ∷ [])) [] 1000 ≡ 47)
unfolding core_work work in_range digits encode input_line number_line is_utf8 chars
stored_twice_work = (refl, refl)

-- ---- Held nodes in a call without a result
--   ∇MAIN
--   X←F
--   X
--   ∇
--   ∇R←F
--   R←'ab'
--   G R
--   ∇
--   ∇G Y;Z
--   Z←Y,Y
--   →0
--   ∇
abbrev held_in_a_call : PlainProgram
held_in_a_call = program (routine (codes "MAIN") None None None [] ((1, scope.Function 1) ∷ (2, scope.Function 0) ∷ (4, scope.Function 2) ∷ []) (quiet (Assign 8 8 0 (Call 12 12 1 absent absent)) ∷ display (Name 14 14 0) ∷ []) ∷ routine (codes "F") (Some 3) None None [] ((1, scope.Function 1) ∷ (2, scope.Function 0) ∷ (3, scope.Local) ∷ (4, scope.Function 2) ∷ []) (quiet (Assign 29 29 3 (Text 33 33 (97 ∷ 98 ∷ []))) ∷ perform 38 38 4 absent (given (Name 40 40 3)) ∷ []) ∷ routine (codes "G") None None (Some 6) (5 ∷ []) ((1, scope.Function 1) ∷ (2, scope.Function 0) ∷ (4, scope.Function 2) ∷ (5, scope.Local) ∷ (6, scope.Local) ∷ []) (quiet (Assign 55 55 5 (Dyad 60 60 pr.Ravel (Name 59 59 6) (Name 61 61 6))) ∷ branch 63 (Numbers 66 66 (pos 0 ∷ [])) ∷ []) ∷ [])

held_in_a_call_run : (core (lowered_program held_in_a_call) (marking (12 ∷ 40 ∷ []) [] (12 ∷ 14 ∷ 33 ∷ 40 ∷ 60 ∷ 66 ∷ [])) [] 1000 ≡ Ended (97 ∷ 98 ∷ 10 ∷ []) (at (codes "MAIN") 1 ∷ at (codes "F") 1 ∷ at (codes "F") 2 ∷ at (codes "G") 1 ∷ at (codes "G") 2 ∷ at (codes "MAIN") 2 ∷ [])) × (core (lowered_program held_in_a_call) (marking (12 ∷ 40 ∷ []) [] (12 ∷ 14 ∷ 33 ∷ 40 ∷ 60 ∷ 66 ∷ [])) [] 1000 ≡ eager held_in_a_call (marking (12 ∷ 40 ∷ []) [] (12 ∷ 14 ∷ 33 ∷ 40 ∷ 60 ∷ 66 ∷ [])) [] 1000)
unfolding core eager in_range digits encode input_line number_line is_utf8 chars
held_in_a_call_run = (refl, refl)

held_in_a_call_peak : (core_peak (lowered_program held_in_a_call) (marking (12 ∷ 40 ∷ []) [] (12 ∷ 14 ∷ 33 ∷ 40 ∷ 60 ∷ 66 ∷ [])) [] 1000 ≡ 8) × (peak held_in_a_call (marking (12 ∷ 40 ∷ []) [] (12 ∷ 14 ∷ 33 ∷ 40 ∷ 60 ∷ 66 ∷ [])) [] 1000 ≡ 8)
unfolding core_peak peak in_range digits encode input_line number_line is_utf8 chars
held_in_a_call_peak = (refl, refl)

held_in_a_call_work : (core_work (lowered_program held_in_a_call) (marking (12 ∷ 40 ∷ []) [] (12 ∷ 14 ∷ 33 ∷ 40 ∷ 60 ∷ 66 ∷ [])) [] 1000 ≡ 56) × (work held_in_a_call (marking (12 ∷ 40 ∷ []) [] (12 ∷ 14 ∷ 33 ∷ 40 ∷ 60 ∷ 66 ∷ [])) [] 1000 ≡ 56)
unfolding core_work work in_range digits encode input_line number_line is_utf8 chars
held_in_a_call_work = (refl, refl)

-- ---- A display in an index, behind a fault
--   ∇MAIN;A;B;C
--   A←'abc'
--   B←0 1 0
--   C←0 2 ¯4>10 2>7
--   3⊖(⍳4)∘.=A←¯1
--   C←(A⌈(3 10 3)+0 ¯4 ¯4)[⎕←⌈7]
--   A
--   ∇
abbrev display_beside : PlainProgram
display_beside = program (routine (codes "MAIN") None None None (0 ∷ 1 ∷ 2 ∷ []) ((0, scope.Local) ∷ (1, scope.Local) ∷ (2, scope.Local) ∷ (3, scope.Function 0) ∷ []) (quiet (Assign 14 14 0 (Text 18 18 (97 ∷ 98 ∷ 99 ∷ []))) ∷ quiet (Assign 24 24 1 (Numbers 28 28 (pos 0 ∷ pos 1 ∷ pos 0 ∷ []))) ∷ quiet (Assign 34 34 2 (Dyad 45 45 (pr.Scalar f.Greater) (Numbers 38 38 (pos 0 ∷ pos 2 ∷ negsuc 3 ∷ [])) (Dyad 50 50 (pr.Scalar f.Greater) (Numbers 46 46 (pos 10 ∷ pos 2 ∷ [])) (Numbers 51 51 (pos 7 ∷ []))))) ∷ display (Dyad 54 54 (pr.Reverse ax.First) (Numbers 53 53 (pos 3 ∷ [])) (Dyad 63 63 (pr.Outer f.Equal) (Mono 58 58 pr.Iota (Numbers 61 61 (pos 4 ∷ []))) (Assign 68 68 0 (Numbers 72 72 (negsuc 0 ∷ []))))) ∷ quiet (Assign 76 76 2 (Index 104 104 (Dyad 82 82 (pr.Scalar f.Max) (Name 81 81 0) (Dyad 93 93 (pr.Scalar f.Add) (Numbers 86 86 (pos 3 ∷ pos 10 ∷ pos 3 ∷ [])) (Numbers 94 94 (pos 0 ∷ negsuc 3 ∷ negsuc 3 ∷ [])))) (and_tree (Show 105 105 (Mono 111 111 (pr.Scalar f.Max) (Numbers 114 114 (pos 7 ∷ [])))) no_more))) ∷ display (Name 117 117 0) ∷ []) ∷ [])

display_beside_run : (core (lowered_program display_beside) (marking (82 ∷ []) (93 ∷ []) (18 ∷ 28 ∷ 45 ∷ 51 ∷ 53 ∷ 54 ∷ 61 ∷ 68 ∷ 72 ∷ 76 ∷ 81 ∷ 82 ∷ 104 ∷ 105 ∷ 111 ∷ 114 ∷ 117 ∷ [])) [] 1000 ≡ Faulted [] (at (codes "MAIN") 1 ∷ at (codes "MAIN") 2 ∷ at (codes "MAIN") 3 ∷ []) fault.Length (places (at (codes "MAIN") 3) [])) × (core (lowered_program display_beside) (marking (82 ∷ []) (93 ∷ []) (18 ∷ 28 ∷ 45 ∷ 51 ∷ 53 ∷ 54 ∷ 61 ∷ 68 ∷ 72 ∷ 76 ∷ 81 ∷ 82 ∷ 104 ∷ 105 ∷ 111 ∷ 114 ∷ 117 ∷ [])) [] 1000 ≡ eager display_beside (marking (82 ∷ []) (93 ∷ []) (18 ∷ 28 ∷ 45 ∷ 51 ∷ 53 ∷ 54 ∷ 61 ∷ 68 ∷ 72 ∷ 76 ∷ 81 ∷ 82 ∷ 104 ∷ 105 ∷ 111 ∷ 114 ∷ 117 ∷ [])) [] 1000)
unfolding core eager in_range digits encode input_line number_line is_utf8 chars
display_beside_run = (refl, refl)

display_beside_peak : (core_peak (lowered_program display_beside) (marking (82 ∷ []) (93 ∷ []) (18 ∷ 28 ∷ 45 ∷ 51 ∷ 53 ∷ 54 ∷ 61 ∷ 68 ∷ 72 ∷ 76 ∷ 81 ∷ 82 ∷ 104 ∷ 105 ∷ 111 ∷ 114 ∷ 117 ∷ [])) [] 1000 ≡ 6) × (peak display_beside (marking (82 ∷ []) (93 ∷ []) (18 ∷ 28 ∷ 45 ∷ 51 ∷ 53 ∷ 54 ∷ 61 ∷ 68 ∷ 72 ∷ 76 ∷ 81 ∷ 82 ∷ 104 ∷ 105 ∷ 111 ∷ 114 ∷ 117 ∷ [])) [] 1000 ≡ 6)
unfolding core_peak peak in_range digits encode input_line number_line is_utf8 chars
display_beside_peak = (refl, refl)

display_beside_work : (core_work (lowered_program display_beside) (marking (82 ∷ []) (93 ∷ []) (18 ∷ 28 ∷ 45 ∷ 51 ∷ 53 ∷ 54 ∷ 61 ∷ 68 ∷ 72 ∷ 76 ∷ 81 ∷ 82 ∷ 104 ∷ 105 ∷ 111 ∷ 114 ∷ 117 ∷ [])) [] 1000 ≡ 41) × (work display_beside (marking (82 ∷ []) (93 ∷ []) (18 ∷ 28 ∷ 45 ∷ 51 ∷ 53 ∷ 54 ∷ 61 ∷ 68 ∷ 72 ∷ 76 ∷ 81 ∷ 82 ∷ 104 ∷ 105 ∷ 111 ∷ 114 ∷ 117 ∷ [])) [] 1000 ≡ 41)
unfolding core_work work in_range digits encode input_line number_line is_utf8 chars
display_beside_work = (refl, refl)

-- ---- Two arguments of a call, and a display behind it
--   ∇MAIN
--   A←5
--   B←¯1 2 5
--   A G B
--   (C[9223372036854775807;'abc'])∧⎕←(2 3⍴⍳6)∧1
--   1
--   ∇
--   ∇R←F X;T
--   T←X
--   R←T×2 3 4
--   ∇
--   ∇A G C
--   C+1
--   ∇
abbrev held_in_a_display : PlainProgram
held_in_a_display = program (routine (codes "MAIN") None None None [] ((2, scope.Function 2) ∷ (4, scope.Function 0) ∷ (8, scope.Function 1) ∷ []) (quiet (Assign 8 8 0 (Numbers 12 12 (pos 5 ∷ []))) ∷ quiet (Assign 14 14 1 (Numbers 18 18 (negsuc 0 ∷ pos 2 ∷ pos 5 ∷ []))) ∷ perform 28 28 2 (given (Name 26 26 0)) (given (Name 30 30 1)) ∷ display (Dyad 62 62 (pr.Scalar f.And) (Index 34 34 (Name 33 33 3) (and_tree (Numbers 35 35 (pos 9223372036854775807 ∷ [])) (and_tree (Text 55 55 (97 ∷ 98 ∷ 99 ∷ [])) no_more))) (Show 65 65 (Dyad 83 83 (pr.Scalar f.And) (Dyad 75 75 pr.Shape (Numbers 72 72 (pos 2 ∷ pos 3 ∷ [])) (Mono 78 78 pr.Iota (Numbers 81 81 (pos 6 ∷ [])))) (Numbers 86 86 (pos 1 ∷ []))))) ∷ display (Numbers 88 88 (pos 1 ∷ [])) ∷ []) ∷ routine (codes "F") (Some 7) None (Some 6) (5 ∷ []) ((2, scope.Function 2) ∷ (4, scope.Function 0) ∷ (5, scope.Local) ∷ (6, scope.Local) ∷ (7, scope.Local) ∷ (8, scope.Function 1) ∷ []) (quiet (Assign 107 107 5 (Name 111 111 6)) ∷ quiet (Assign 113 113 7 (Dyad 118 118 (pr.Scalar f.Mul) (Name 117 117 5) (Numbers 120 120 (pos 2 ∷ pos 3 ∷ pos 4 ∷ [])))) ∷ []) ∷ routine (codes "G") None (Some 0) (Some 3) [] ((0, scope.Local) ∷ (2, scope.Function 2) ∷ (3, scope.Local) ∷ (4, scope.Function 0) ∷ (8, scope.Function 1) ∷ []) (display (Dyad 140 140 (pr.Scalar f.Add) (Name 139 139 3) (Numbers 141 141 (pos 1 ∷ []))) ∷ []) ∷ [])

held_in_a_display_run : (core (lowered_program held_in_a_display) (marking (30 ∷ 83 ∷ []) (140 ∷ []) (8 ∷ 12 ∷ 18 ∷ 26 ∷ 30 ∷ 35 ∷ 62 ∷ 81 ∷ 83 ∷ 86 ∷ 88 ∷ 111 ∷ 118 ∷ 140 ∷ 141 ∷ [])) [] 1000 ≡ Faulted (48 ∷ 32 ∷ 51 ∷ 32 ∷ 54 ∷ 10 ∷ []) (at (codes "MAIN") 1 ∷ at (codes "MAIN") 2 ∷ at (codes "MAIN") 3 ∷ at (codes "G") 1 ∷ at (codes "MAIN") 4 ∷ []) fault.Domain (places (at (codes "MAIN") 4) [])) × (core (lowered_program held_in_a_display) (marking (30 ∷ 83 ∷ []) (140 ∷ []) (8 ∷ 12 ∷ 18 ∷ 26 ∷ 30 ∷ 35 ∷ 62 ∷ 81 ∷ 83 ∷ 86 ∷ 88 ∷ 111 ∷ 118 ∷ 140 ∷ 141 ∷ [])) [] 1000 ≡ eager held_in_a_display (marking (30 ∷ 83 ∷ []) (140 ∷ []) (8 ∷ 12 ∷ 18 ∷ 26 ∷ 30 ∷ 35 ∷ 62 ∷ 81 ∷ 83 ∷ 86 ∷ 88 ∷ 111 ∷ 118 ∷ 140 ∷ 141 ∷ [])) [] 1000)
unfolding core eager in_range digits encode input_line number_line is_utf8 chars
held_in_a_display_run = (refl, refl)

held_in_a_display_peak : (core_peak (lowered_program held_in_a_display) (marking (30 ∷ 83 ∷ []) (140 ∷ []) (8 ∷ 12 ∷ 18 ∷ 26 ∷ 30 ∷ 35 ∷ 62 ∷ 81 ∷ 83 ∷ 86 ∷ 88 ∷ 111 ∷ 118 ∷ 140 ∷ 141 ∷ [])) [] 1000 ≡ 12) × (peak held_in_a_display (marking (30 ∷ 83 ∷ []) (140 ∷ []) (8 ∷ 12 ∷ 18 ∷ 26 ∷ 30 ∷ 35 ∷ 62 ∷ 81 ∷ 83 ∷ 86 ∷ 88 ∷ 111 ∷ 118 ∷ 140 ∷ 141 ∷ [])) [] 1000 ≡ 12)
unfolding core_peak peak in_range digits encode input_line number_line is_utf8 chars
held_in_a_display_peak = (refl, refl)

held_in_a_display_work : (core_work (lowered_program held_in_a_display) (marking (30 ∷ 83 ∷ []) (140 ∷ []) (8 ∷ 12 ∷ 18 ∷ 26 ∷ 30 ∷ 35 ∷ 62 ∷ 81 ∷ 83 ∷ 86 ∷ 88 ∷ 111 ∷ 118 ∷ 140 ∷ 141 ∷ [])) [] 1000 ≡ 72) × (work held_in_a_display (marking (30 ∷ 83 ∷ []) (140 ∷ []) (8 ∷ 12 ∷ 18 ∷ 26 ∷ 30 ∷ 35 ∷ 62 ∷ 81 ∷ 83 ∷ 86 ∷ 88 ∷ 111 ∷ 118 ∷ 140 ∷ 141 ∷ [])) [] 1000 ≡ 72)
unfolding core_work work in_range digits encode input_line number_line is_utf8 chars
held_in_a_display_work = (refl, refl)

-- ---- A call, then a fault in an index
--   ∇MAIN;A;B;C
--   A←2 2⍴1 2 3 4
--   B←0 1 0
--   F A
--   2 1 3|⌈1
--   -A[1;¯4 10 1]
--   1
--   ∇
--   ∇R←F X;T
--   T←X
--   R←X
--   ∇
--   ∇A G C
--   C+1
--   ∇
abbrev two_calls : PlainProgram
two_calls = program (routine (codes "MAIN") None None None (0 ∷ 1 ∷ 3 ∷ []) ((0, scope.Local) ∷ (1, scope.Local) ∷ (2, scope.Function 1) ∷ (3, scope.Local) ∷ (4, scope.Function 0) ∷ (8, scope.Function 2) ∷ []) (quiet (Assign 14 14 0 (Dyad 21 21 pr.Shape (Numbers 18 18 (pos 2 ∷ pos 2 ∷ [])) (Numbers 24 24 (pos 1 ∷ pos 2 ∷ pos 3 ∷ pos 4 ∷ [])))) ∷ quiet (Assign 32 32 1 (Numbers 36 36 (pos 0 ∷ pos 1 ∷ pos 0 ∷ []))) ∷ display (Call 42 42 2 absent (given (Name 44 44 0))) ∷ display (Dyad 51 51 (pr.Scalar f.Residue) (Numbers 46 46 (pos 2 ∷ pos 1 ∷ pos 3 ∷ [])) (Mono 52 52 (pr.Scalar f.Max) (Numbers 55 55 (pos 1 ∷ [])))) ∷ display (Mono 57 57 (pr.Scalar f.Sub) (Index 59 59 (Name 58 58 0) (and_tree (Numbers 60 60 (pos 1 ∷ [])) (and_tree (Numbers 62 62 (negsuc 3 ∷ pos 10 ∷ pos 1 ∷ [])) no_more)))) ∷ display (Numbers 72 72 (pos 1 ∷ [])) ∷ []) ∷ routine (codes "F") (Some 7) None (Some 6) (5 ∷ []) ((2, scope.Function 1) ∷ (4, scope.Function 0) ∷ (5, scope.Local) ∷ (6, scope.Local) ∷ (7, scope.Local) ∷ (8, scope.Function 2) ∷ []) (quiet (Assign 91 91 5 (Name 95 95 6)) ∷ quiet (Assign 97 97 7 (Name 101 101 6)) ∷ []) ∷ routine (codes "G") None (Some 0) (Some 3) [] ((0, scope.Local) ∷ (2, scope.Function 1) ∷ (3, scope.Local) ∷ (4, scope.Function 0) ∷ (8, scope.Function 2) ∷ []) (display (Dyad 117 117 (pr.Scalar f.Add) (Name 116 116 3) (Numbers 118 118 (pos 1 ∷ []))) ∷ []) ∷ [])

two_calls_run : (core (lowered_program two_calls) (marking (42 ∷ 44 ∷ []) [] (21 ∷ 36 ∷ 42 ∷ 44 ∷ 51 ∷ 52 ∷ 55 ∷ 57 ∷ 60 ∷ 72 ∷ 95 ∷ 101 ∷ 117 ∷ 118 ∷ [])) [] 1000 ≡ Faulted (49 ∷ 32 ∷ 50 ∷ 10 ∷ 51 ∷ 32 ∷ 52 ∷ 10 ∷ 49 ∷ 32 ∷ 48 ∷ 32 ∷ 49 ∷ 10 ∷ []) (at (codes "MAIN") 1 ∷ at (codes "MAIN") 2 ∷ at (codes "MAIN") 3 ∷ at (codes "F") 1 ∷ at (codes "F") 2 ∷ at (codes "MAIN") 4 ∷ at (codes "MAIN") 5 ∷ []) fault.Index (places (at (codes "MAIN") 5) [])) × (core (lowered_program two_calls) (marking (42 ∷ 44 ∷ []) [] (21 ∷ 36 ∷ 42 ∷ 44 ∷ 51 ∷ 52 ∷ 55 ∷ 57 ∷ 60 ∷ 72 ∷ 95 ∷ 101 ∷ 117 ∷ 118 ∷ [])) [] 1000 ≡ eager two_calls (marking (42 ∷ 44 ∷ []) [] (21 ∷ 36 ∷ 42 ∷ 44 ∷ 51 ∷ 52 ∷ 55 ∷ 57 ∷ 60 ∷ 72 ∷ 95 ∷ 101 ∷ 117 ∷ 118 ∷ [])) [] 1000)
unfolding core eager in_range digits encode input_line number_line is_utf8 chars
two_calls_run = (refl, refl)

two_calls_peak : (core_peak (lowered_program two_calls) (marking (42 ∷ 44 ∷ []) [] (21 ∷ 36 ∷ 42 ∷ 44 ∷ 51 ∷ 52 ∷ 55 ∷ 57 ∷ 60 ∷ 72 ∷ 95 ∷ 101 ∷ 117 ∷ 118 ∷ [])) [] 1000 ≡ 19) × (peak two_calls (marking (42 ∷ 44 ∷ []) [] (21 ∷ 36 ∷ 42 ∷ 44 ∷ 51 ∷ 52 ∷ 55 ∷ 57 ∷ 60 ∷ 72 ∷ 95 ∷ 101 ∷ 117 ∷ 118 ∷ [])) [] 1000 ≡ 19)
unfolding core_peak peak in_range digits encode input_line number_line is_utf8 chars
two_calls_peak = (refl, refl)

two_calls_work : (core_work (lowered_program two_calls) (marking (42 ∷ 44 ∷ []) [] (21 ∷ 36 ∷ 42 ∷ 44 ∷ 51 ∷ 52 ∷ 55 ∷ 57 ∷ 60 ∷ 72 ∷ 95 ∷ 101 ∷ 117 ∷ 118 ∷ [])) [] 1000 ≡ 130) × (work two_calls (marking (42 ∷ 44 ∷ []) [] (21 ∷ 36 ∷ 42 ∷ 44 ∷ 51 ∷ 52 ∷ 55 ∷ 57 ∷ 60 ∷ 72 ∷ 95 ∷ 101 ∷ 117 ∷ 118 ∷ [])) [] 1000 ≡ 130)
unfolding core_work work in_range digits encode input_line number_line is_utf8 chars
two_calls_work = (refl, refl)

-- ---- A display that is held
--   ∇MAIN;C
--   A←1 2 3
--   B←0 1 0
--   C←|C
--   1 0 10 ¯4[(B)-.≠⎕←(3 2⍴1 0 1)]
--   C←¯1
--   A
--   ∇
abbrev held_display : PlainProgram
held_display = program (routine (codes "MAIN") None None None (2 ∷ []) ((2, scope.Local) ∷ (3, scope.Function 0) ∷ []) (quiet (Assign 10 10 0 (Numbers 14 14 (pos 1 ∷ pos 2 ∷ pos 3 ∷ []))) ∷ quiet (Assign 20 20 1 (Numbers 24 24 (pos 0 ∷ pos 1 ∷ pos 0 ∷ []))) ∷ quiet (Assign 30 30 2 (Mono 34 34 (pr.Scalar f.Residue) (Name 35 35 2))) ∷ display (Index 47 47 (Numbers 37 37 (pos 1 ∷ pos 0 ∷ pos 10 ∷ negsuc 3 ∷ [])) (and_tree (Dyad 51 51 (pr.Inner f.Sub f.NotEqual) (Name 49 49 1) (Show 56 56 (Dyad 66 66 pr.Shape (Numbers 63 63 (pos 3 ∷ pos 2 ∷ [])) (Numbers 69 69 (pos 1 ∷ pos 0 ∷ pos 1 ∷ []))))) no_more)) ∷ quiet (Assign 77 77 2 (Numbers 81 81 (negsuc 0 ∷ []))) ∷ display (Name 85 85 0) ∷ []) ∷ [])

held_display_run : (core (lowered_program held_display) (marking (51 ∷ 56 ∷ 66 ∷ []) [] (14 ∷ 24 ∷ 34 ∷ 47 ∷ 51 ∷ 56 ∷ 66 ∷ 77 ∷ 81 ∷ 85 ∷ [])) [] 1000 ≡ Faulted [] (at (codes "MAIN") 1 ∷ at (codes "MAIN") 2 ∷ at (codes "MAIN") 3 ∷ []) fault.Value (places (at (codes "MAIN") 3) [])) × (core (lowered_program held_display) (marking (51 ∷ 56 ∷ 66 ∷ []) [] (14 ∷ 24 ∷ 34 ∷ 47 ∷ 51 ∷ 56 ∷ 66 ∷ 77 ∷ 81 ∷ 85 ∷ [])) [] 1000 ≡ eager held_display (marking (51 ∷ 56 ∷ 66 ∷ []) [] (14 ∷ 24 ∷ 34 ∷ 47 ∷ 51 ∷ 56 ∷ 66 ∷ 77 ∷ 81 ∷ 85 ∷ [])) [] 1000)
unfolding core eager in_range digits encode input_line number_line is_utf8 chars
held_display_run = (refl, refl)

held_display_peak : (core_peak (lowered_program held_display) (marking (51 ∷ 56 ∷ 66 ∷ []) [] (14 ∷ 24 ∷ 34 ∷ 47 ∷ 51 ∷ 56 ∷ 66 ∷ 77 ∷ 81 ∷ 85 ∷ [])) [] 1000 ≡ 6) × (peak held_display (marking (51 ∷ 56 ∷ 66 ∷ []) [] (14 ∷ 24 ∷ 34 ∷ 47 ∷ 51 ∷ 56 ∷ 66 ∷ 77 ∷ 81 ∷ 85 ∷ [])) [] 1000 ≡ 6)
unfolding core_peak peak in_range digits encode input_line number_line is_utf8 chars
held_display_peak = (refl, refl)

held_display_work : (core_work (lowered_program held_display) (marking (51 ∷ 56 ∷ 66 ∷ []) [] (14 ∷ 24 ∷ 34 ∷ 47 ∷ 51 ∷ 56 ∷ 66 ∷ 77 ∷ 81 ∷ 85 ∷ [])) [] 1000 ≡ 22) × (work held_display (marking (51 ∷ 56 ∷ 66 ∷ []) [] (14 ∷ 24 ∷ 34 ∷ 47 ∷ 51 ∷ 56 ∷ 66 ∷ 77 ∷ 81 ∷ 85 ∷ [])) [] 1000 ≡ 22)
unfolding core_work work in_range digits encode input_line number_line is_utf8 chars
held_display_work = (refl, refl)

-- ---- Operands that are held
--   ∇MAIN;A;B;C
--   A←5
--   B←0 1 0
--   1+F B
--   (|B)∘.+⍴1 2 ¯4 3
--   A×(A)
--   1
--   ∇
--   ∇R←F X;T
--   T←X
--   R←-T
--   ∇
--   ∇A G C
--   A-C
--   ∇
abbrev held_operands : PlainProgram
held_operands = program (routine (codes "MAIN") None None None (0 ∷ 1 ∷ 3 ∷ []) ((0, scope.Local) ∷ (1, scope.Local) ∷ (2, scope.Function 1) ∷ (3, scope.Local) ∷ (4, scope.Function 0) ∷ (8, scope.Function 2) ∷ []) (quiet (Assign 14 14 0 (Numbers 18 18 (pos 5 ∷ []))) ∷ quiet (Assign 20 20 1 (Numbers 24 24 (pos 0 ∷ pos 1 ∷ pos 0 ∷ []))) ∷ display (Dyad 31 31 (pr.Scalar f.Add) (Numbers 30 30 (pos 1 ∷ [])) (Call 32 32 2 absent (given (Name 34 34 1)))) ∷ display (Dyad 40 40 (pr.Outer f.Add) (Mono 37 37 (pr.Scalar f.Residue) (Name 38 38 1)) (Mono 45 45 pr.Shape (Numbers 48 48 (pos 1 ∷ pos 2 ∷ negsuc 3 ∷ pos 3 ∷ [])))) ∷ display (Dyad 59 59 (pr.Scalar f.Mul) (Name 58 58 0) (Name 62 62 0)) ∷ display (Numbers 65 65 (pos 1 ∷ [])) ∷ []) ∷ routine (codes "F") (Some 7) None (Some 6) (5 ∷ []) ((2, scope.Function 1) ∷ (4, scope.Function 0) ∷ (5, scope.Local) ∷ (6, scope.Local) ∷ (7, scope.Local) ∷ (8, scope.Function 2) ∷ []) (quiet (Assign 84 84 5 (Name 88 88 6)) ∷ quiet (Assign 90 90 7 (Mono 94 94 (pr.Scalar f.Sub) (Name 95 95 5))) ∷ []) ∷ routine (codes "G") None (Some 0) (Some 3) [] ((0, scope.Local) ∷ (2, scope.Function 1) ∷ (3, scope.Local) ∷ (4, scope.Function 0) ∷ (8, scope.Function 2) ∷ []) (display (Dyad 111 111 (pr.Scalar f.Sub) (Name 110 110 0) (Name 112 112 3)) ∷ []) ∷ [])

held_operands_run : (core (lowered_program held_operands) (marking (32 ∷ 34 ∷ 37 ∷ 40 ∷ 45 ∷ []) (31 ∷ []) (14 ∷ 18 ∷ 24 ∷ 30 ∷ 31 ∷ 32 ∷ 34 ∷ 37 ∷ 40 ∷ 45 ∷ 58 ∷ 59 ∷ 62 ∷ 65 ∷ 88 ∷ 94 ∷ 111 ∷ [])) [] 1000 ≡ Ended (49 ∷ 32 ∷ 48 ∷ 32 ∷ 49 ∷ 10 ∷ 52 ∷ 10 ∷ 53 ∷ 10 ∷ 52 ∷ 10 ∷ 50 ∷ 53 ∷ 10 ∷ 49 ∷ 10 ∷ []) (at (codes "MAIN") 1 ∷ at (codes "MAIN") 2 ∷ at (codes "MAIN") 3 ∷ at (codes "F") 1 ∷ at (codes "F") 2 ∷ at (codes "MAIN") 4 ∷ at (codes "MAIN") 5 ∷ at (codes "MAIN") 6 ∷ [])) × (core (lowered_program held_operands) (marking (32 ∷ 34 ∷ 37 ∷ 40 ∷ 45 ∷ []) (31 ∷ []) (14 ∷ 18 ∷ 24 ∷ 30 ∷ 31 ∷ 32 ∷ 34 ∷ 37 ∷ 40 ∷ 45 ∷ 58 ∷ 59 ∷ 62 ∷ 65 ∷ 88 ∷ 94 ∷ 111 ∷ [])) [] 1000 ≡ eager held_operands (marking (32 ∷ 34 ∷ 37 ∷ 40 ∷ 45 ∷ []) (31 ∷ []) (14 ∷ 18 ∷ 24 ∷ 30 ∷ 31 ∷ 32 ∷ 34 ∷ 37 ∷ 40 ∷ 45 ∷ 58 ∷ 59 ∷ 62 ∷ 65 ∷ 88 ∷ 94 ∷ 111 ∷ [])) [] 1000)
unfolding core eager in_range digits encode input_line number_line is_utf8 chars
held_operands_run = (refl, refl)

held_operands_peak : (core_peak (lowered_program held_operands) (marking (32 ∷ 34 ∷ 37 ∷ 40 ∷ 45 ∷ []) (31 ∷ []) (14 ∷ 18 ∷ 24 ∷ 30 ∷ 31 ∷ 32 ∷ 34 ∷ 37 ∷ 40 ∷ 45 ∷ 58 ∷ 59 ∷ 62 ∷ 65 ∷ 88 ∷ 94 ∷ 111 ∷ [])) [] 1000 ≡ 12) × (peak held_operands (marking (32 ∷ 34 ∷ 37 ∷ 40 ∷ 45 ∷ []) (31 ∷ []) (14 ∷ 18 ∷ 24 ∷ 30 ∷ 31 ∷ 32 ∷ 34 ∷ 37 ∷ 40 ∷ 45 ∷ 58 ∷ 59 ∷ 62 ∷ 65 ∷ 88 ∷ 94 ∷ 111 ∷ [])) [] 1000 ≡ 12)
unfolding core_peak peak in_range digits encode input_line number_line is_utf8 chars
held_operands_peak = (refl, refl)

held_operands_work : (core_work (lowered_program held_operands) (marking (32 ∷ 34 ∷ 37 ∷ 40 ∷ 45 ∷ []) (31 ∷ []) (14 ∷ 18 ∷ 24 ∷ 30 ∷ 31 ∷ 32 ∷ 34 ∷ 37 ∷ 40 ∷ 45 ∷ 58 ∷ 59 ∷ 62 ∷ 65 ∷ 88 ∷ 94 ∷ 111 ∷ [])) [] 1000 ≡ 127) × (work held_operands (marking (32 ∷ 34 ∷ 37 ∷ 40 ∷ 45 ∷ []) (31 ∷ []) (14 ∷ 18 ∷ 24 ∷ 30 ∷ 31 ∷ 32 ∷ 34 ∷ 37 ∷ 40 ∷ 45 ∷ 58 ∷ 59 ∷ 62 ∷ 65 ∷ 88 ∷ 94 ∷ 111 ∷ [])) [] 1000 ≡ 127)
unfolding core_work work in_range digits encode input_line number_line is_utf8 chars
held_operands_work = (refl, refl)
