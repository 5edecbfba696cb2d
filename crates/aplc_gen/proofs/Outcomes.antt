-- Computations of the source as the machine's rules see them, and what runs of lines come to.
use Rattle.std.proofs.Common.{◌≡◌, ℕ, suc, List, ◌∷◌, refl, ap, ◌∙◌, false}
use Rattle.std.specs.Prelude.{Option, Some, None}
use Rattle.aplc_cprof.proofs.Matching.{Course}
use Rattle.aplc_cprof.proofs.Matching as matching
use Rattle.aplc_names.specs.States.{State, Marking, Outcome, Gives, Faulted, Going, and_then, on_world}
use Rattle.aplc_names.specs.Eager.{Context}
use Rattle.aplc_names.specs.Runs.{result_of, after}
use Rattle.aplc_core.specs.PlainSteps.{Effect, Keep, Store, StoreAt, Call, ReadText, ReadNums, Show, Branch}
use Rattle.aplc_core.specs.CoreRuns.{Told, Slots, CoreRoutine, PlainCore, step_done, steps_done, line_done, steps_at, begun, from_steps, core_context, core_run}
use Rattle.aplc_gen.specs.Emitted.{is_branch}
use Rattle.aplc_gen.specs.Relation.{course}

-- one computation after another is seen as such
pub course_then : {A B : Type 0} (o : Outcome A) (k : A → State → Outcome B) → course (and_then o k) ≡ matching.and_then (course o) (λ x T. course (k x T))
course_then (Gives x T) k = refl
course_then (Faulted e T) k = refl
course_then (Going T) k = refl

pub then_then : {A B D : Type 0} (o : Outcome A) (k : A → State → Outcome B) (j : B → State → Outcome D) → and_then (and_then o k) j ≡ and_then o (λ x T. and_then (k x T) j)
then_then (Gives x T) k j = refl
then_then (Faulted e T) k j = refl
then_then (Going T) k j = refl

-- a step that is no branch, and what comes after it
pub steps_cons : (c : Context) (l : Told) (x : Effect) (xs : List Effect) (slots : Slots) (s : State) → is_branch x ≡ false → steps_done c l (x ∷ xs) slots s ≡ and_then (step_done c l x slots s) (λ later t. steps_done c l xs later t)
steps_cons c l (Keep k t) xs slots s not = refl
steps_cons c l (Store i n t) xs slots s not = refl
steps_cons c l (StoreAt i n ts t) xs slots s not = refl
steps_cons c l (Call i n a b r) xs slots s not = refl
steps_cons c l (ReadText i k) xs slots s not = refl
steps_cons c l (ReadNums i k) xs slots s not = refl
steps_cons c l (Show i t) xs slots s not = refl
steps_cons c l (Branch t) xs slots s not = absurd (cc)

module _ (p : PlainCore) (m : Marking) where
  -- the run from a line that is none
  pub run_none : (k : ℕ) (f : CoreRoutine) (l : ℕ) (S : State) → steps_at f.steps l ≡ None → core_run p m (suc k) f l S ≡ Gives (result_of f.header.result S.world.locals) S
  run_none k f l S is = ap (λ (o : Option (List Effect)). from_steps (core_context p m (core_run p m k) f) f (core_run p m k f) l o S.world.left S) is

  -- the run from a line that may not start
  pub run_waits : (k : ℕ) (f : CoreRoutine) (l : ℕ) (xs : List Effect) (S : State) → steps_at f.steps l ≡ Some xs → S.world.left ≡ 0 → core_run p m (suc k) f l S ≡ Going S
  run_waits k f l xs S is none =
      ap (λ (o : Option (List Effect)). from_steps (core_context p m (core_run p m k) f) f (core_run p m k f) l o S.world.left S) is
      ∙ ap (λ (i : ℕ). from_steps (core_context p m (core_run p m k) f) f (core_run p m k f) l (Some xs) i S) none

  -- the run from a line that may start
  pub run_line : (k : ℕ) (f : CoreRoutine) (l : ℕ) (xs : List Effect) (S : State) (i : ℕ) → steps_at f.steps l ≡ Some xs → S.world.left ≡ suc i → core_run p m (suc k) f l S ≡ and_then (line_done (core_context p m (core_run p m k) f) xs (on_world (begun l xs i) S)) (λ to t. core_run p m k f (after l to) t)
  run_line k f l xs S i is some =
      ap (λ (o : Option (List Effect)). from_steps (core_context p m (core_run p m k) f) f (core_run p m k f) l o S.world.left S) is
      ∙ ap (λ (i : ℕ). from_steps (core_context p m (core_run p m k) f) f (core_run p m k f) l (Some xs) i S) some
