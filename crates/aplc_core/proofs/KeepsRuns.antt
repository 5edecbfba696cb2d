-- The core run of a program is its eager run.
use Rattle.std.proofs.Common.{◌≡◌, ◌∙◌, refl, ap, subst, ℕ, zero, suc, ◌+◌, List, [], ◌∷◌, ◌++◌, Option, Some, None, map}
use Rattle.std.proofs.Math.Path.{fun_ext}
use Rattle.std.specs.Prelude.{option_map, option_and_then, slice_get, unwrap_or, nat_lt, if◌then◌else◌}
use Rattle.std.specs.List.{AllByRecursion}
use Rattle.std.proofs.lemmas.Option.{slice_get-map}
use Rattle.std.proofs.lemmas.List.Elements.{All-nil, recursion_from_All}
use Rattle.aplc_scalar.specs.declared.kind.FaultKind.TheVariants as fault
use Rattle.aplc_arr.specs.Arrays.{Array}
use Rattle.aplc_names.specs.PlainPrograms.{Action, Routine, PlainProgram, no_routine, main_routine}
use Rattle.aplc_names.specs.States.{Place, World, State, Marking, Outcome, Gives, and_then, on_world, at_line, depth}
use Rattle.aplc_names.specs.States as outcome
use Rattle.aplc_names.specs.Eager.{Caller, Context, statement}
use Rattle.aplc_names.specs.Runs.{call_routine, caller, entered, back, depth_limit, line_at, started, after, from_line, context, run, initial, evaluated}
use Rattle.aplc_core.specs.CoreRuns.{no_core, core_called, core_caller, steps_at, line_done, from_steps, core_context, core_run, core_main, core_evaluated}
use Rattle.aplc_core.specs.Lowering.{lowered, lowered_routine, lowered_program}
use Rattle.aplc_core.specs.CoreLaws.{IsNumbered, HasNumberedLines, HasDistinctNodes, LoweringKeepsRuns}
use Rattle.aplc_core.proofs.Carried.{then_same}
use Rattle.aplc_core.proofs.Statements.{marks_same, line_is_statement}

-- ---- What holds of each item

some_same : {A : Type 0} (x y : A) → Some x ≡ Some y → x ≡ y
some_same x y e = ap (λ o. unwrap_or o x) e

pub at_place : {A : Type 0} (P : A → Type 0) (xs : List A) → AllByRecursion P xs → (i : ℕ) (x : A) → slice_get xs i ≡ Some x → P x
at_place P [] h i x e = absurd cc
at_place P (y ∷ ys) h zero x e = subst P (some_same y x e) h.0
at_place P (y ∷ ys) h (suc i) x e = at_place P ys h.1 i x e

abbrev with_call : PlainProgram → Marking → Routine → Caller → Context
with_call p m f g = record { origin = p.origin; scope = f.scope; marking = m; call = g }

abbrev with_marks : ℕ → ℕ → List Place → World → World
with_marks l k ms w = record w { left = k; places = at_line l w.places; marks = w.marks ++ ms }

module _ (p : PlainProgram) (m : Marking) (own : HasDistinctNodes p) where
  -- what has been shown of runs that nest at most k deep
  abbrev RunsSame : ℕ → Type 0
  RunsSame k = (f : Routine) → HasNumberedLines f → (l : ℕ) (s : State) → core_run (lowered_program p) m k (lowered_routine f) l s ≡ run p m k f l s

  numbered : (j : ℕ) (f : Routine) → slice_get p.routines j ≡ Some f → HasNumberedLines f
  numbered j f e = at_place HasNumberedLines p.routines (recursion_from_All HasNumberedLines p.routines own) j f e

  call_same : (k : ℕ) → RunsSame k → (j : ℕ) (x y : Option Array) (s : State) → core_caller (lowered_program p) (core_run (lowered_program p) m k) j x y s ≡ caller p (run p m k) j x y s
  call_same k h j x y s =
      ap (λ o. core_called (core_run (lowered_program p) m k) o x y s) (slice_get-map lowered_routine p.routines j) ∙ by_routine (slice_get p.routines j) refl
    where
      by_routine : (o : Option Routine) → slice_get p.routines j ≡ o → core_called (core_run (lowered_program p) m k) (option_map lowered_routine o) x y s ≡ call_routine (run p m k) o x y s
      by_routine None e = refl
      by_routine (Some f) e =
          ap (λ r. if nat_lt (depth s.world.places) depth_limit then and_then r (λ v t. Gives v (back f s t)) else outcome.Faulted fault.Limit s) (h f (numbered j f e) 1 (entered f x y s))

  context_same : (k : ℕ) → RunsSame k → (f : Routine) → core_context (lowered_program p) m (core_run (lowered_program p) m k) (lowered_routine f) ≡ context p m (run p m k) f
  context_same k h f = ap (with_call p m f) (fun_ext (λ j. fun_ext (λ x. fun_ext (λ y. fun_ext (λ s. call_same k h j x y s)))))

  steps_same : (f : Routine) (l : ℕ) → steps_at (map lowered f.lines) l ≡ option_map lowered (line_at f.lines l)
  steps_same f zero = refl
  steps_same f (suc l) = slice_get-map lowered f.lines l

  is_numbered : (f : Routine) → HasNumberedLines f → (l : ℕ) (x : Action) → line_at f.lines l ≡ Some x → IsNumbered x
  is_numbered f h zero x e = absurd cc
  is_numbered f h (suc l) x e = at_place IsNumbered f.lines (recursion_from_All IsNumbered f.lines h) l x e

  line_same : (k : ℕ) → RunsSame k → (c : Context) (f : Routine) → HasNumberedLines f → (l : ℕ) (o : Option Action) → line_at f.lines l ≡ o → (n : ℕ) (s : State) → from_steps c (lowered_routine f) (core_run (lowered_program p) m k (lowered_routine f)) l (option_map lowered o) n s ≡ from_line c f (run p m k f) l o n s
  line_same k h c f g l None e n s = refl
  line_same k h c f g l (Some x) e zero s = refl
  line_same k h c f g l (Some x) e (suc n) s =
      ap (λ ms. and_then (line_done c (lowered x) (on_world (with_marks l n ms) s)) (λ to t. core_run (lowered_program p) m k (lowered_routine f) (after l to) t)) (marks_same x (at_line l s.world.places).here)
      ∙ ap (λ r. and_then r (λ to t. core_run (lowered_program p) m k (lowered_routine f) (after l to) t)) (line_is_statement x (is_numbered f g l x e) c (on_world (started l x n) s))
      ∙ then_same (statement c x (on_world (started l x n) s)) _ _ (λ to t. h f g (after l to) t)

  runs_same : (k : ℕ) → RunsSame k
  runs_same zero f g l s = refl
  runs_same (suc k) f g l s =
      let h : RunsSame k = runs_same k in
      ap (λ c. from_steps c (lowered_routine f) (core_run (lowered_program p) m k (lowered_routine f)) l (steps_at (map lowered f.lines) l) s.world.left s) (context_same k h f)
      ∙ ap (λ o. from_steps (context p m (run p m k) f) (lowered_routine f) (core_run (lowered_program p) m k (lowered_routine f)) l o s.world.left s) (steps_same f l)
      ∙ line_same k h (context p m (run p m k) f) f g l (line_at f.lines l) refl s.world.left s

  -- ---- Where the program starts

  routine_or : (o : Option Routine) → unwrap_or (option_map lowered_routine o) no_core ≡ lowered_routine (unwrap_or o no_routine)
  routine_or None = refl
  routine_or (Some f) = refl

  main_at : (o : Option ℕ) → unwrap_or (option_and_then (slice_get (map lowered_routine p.routines)) o) no_core ≡ lowered_routine (unwrap_or (option_and_then (slice_get p.routines) o) no_routine)
  main_at None = refl
  main_at (Some j) = ap (λ o. unwrap_or o no_core) (slice_get-map lowered_routine p.routines j) ∙ routine_or (slice_get p.routines j)

  found_numbered : (j : ℕ) (o : Option Routine) → slice_get p.routines j ≡ o → HasNumberedLines (unwrap_or o no_routine)
  found_numbered j None e = All-nil IsNumbered
  found_numbered j (Some f) e = numbered j f e

  main_numbered : (o : Option ℕ) → HasNumberedLines (unwrap_or (option_and_then (slice_get p.routines) o) no_routine)
  main_numbered None = All-nil IsNumbered
  main_numbered (Some j) = found_numbered j (slice_get p.routines j) refl

  evaluated_same : (input : List ℕ) (n : ℕ) → core_evaluated (lowered_program p) m input n ≡ evaluated p m input n
  evaluated_same input n =
      ap (core_main (lowered_program p) m input n) (main_at p.start) ∙ runs_same (n + 1) (main_routine p) (main_numbered p.start) 1 (initial (main_routine p) input n)

pub keeps_runs : LoweringKeepsRuns
keeps_runs p own m input n = evaluated_same p m own input n
