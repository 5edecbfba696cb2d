-- Whether calls lead down, line by line and function by function.
use Rattle.std.proofs.Common.{◌≡◌, ◌∙◌, sym, ap, refl, ℕ, zero, suc, ◌+◌, ◌<◌, ◌≤◌, List, [], ◌∷◌, length, drop, Bool, true, false, ◌&&◌, arith, slice_get}
use Rattle.std.specs.Prelude.{unwrap_or}
use Rattle.std.proofs.lemmas.List.{length-map}
use Rattle.aplc_syntax.specs.declared.tree.Program.{Program}
use Rattle.aplc_names.specs.PlainPrograms.{plain, routine_of}
use Rattle.aplc_core.specs.PlainSteps.{Effect}
use Rattle.aplc_core.specs.CoreRuns.{CoreRoutine, PlainCore, no_core, steps_at}
use Rattle.aplc_core.specs.Lowering.{lowered_routine, lowered_program}
use Rattle.aplc_gen.specs.Layouts.{routine_at}
use Rattle.aplc_gen.specs.Laid.{steps_fall, lines_fall}
use Rattle.aplc_gen.specs.Sparing.{rank_in, all_fall}
use Rattle.aplc_gen.proofs.Turning.{line_next, drop_all}

-- ---- Lines

module _ (rank : ℕ → ℕ) (j : ℕ) (f : CoreRoutine) where
  next : (l : ℕ) (x : List Effect) → l < length f.steps → x ≡ unwrap_or (steps_at f.steps (l + 1)) [] → lines_fall rank j f (drop l f.steps) ≡ (steps_fall rank j f x && lines_fall rank j f (drop (l + 1) f.steps))
  next l x lt is = ap (lines_fall rank j f) (line_next l f.steps x lt is)

  pub falls_on : (l : ℕ) (x : List Effect) (whole : Bool) → l < length f.steps → x ≡ unwrap_or (steps_at f.steps (l + 1)) [] → steps_fall rank j f x ≡ true → lines_fall rank j f (drop l f.steps) ≡ whole → lines_fall rank j f (drop (l + 1) f.steps) ≡ whole
  falls_on l x whole lt is t h = ap (λ b. b && lines_fall rank j f (drop (l + 1) f.steps)) (sym t) ∙ sym (next l x lt is) ∙ h

  pub falls_not : (l : ℕ) (x : List Effect) (whole : Bool) → l < length f.steps → x ≡ unwrap_or (steps_at f.steps (l + 1)) [] → steps_fall rank j f x ≡ false → lines_fall rank j f (drop l f.steps) ≡ whole → false ≡ whole
  falls_not l x whole lt is t h = ap (λ b. b && lines_fall rank j f (drop (l + 1) f.steps)) (sym t) ∙ sym (next l x lt is) ∙ h

  pub falls_over : (l : ℕ) (whole : Bool) → length f.steps ≤ l → lines_fall rank j f (drop l f.steps) ≡ whole → true ≡ whole
  falls_over l whole le h = sym (ap (lines_fall rank j f) (drop_all l f.steps le)) ∙ h

-- ---- Functions

routine_next : (fs : List CoreRoutine) (j : ℕ) → j < length fs → drop j fs ≡ unwrap_or (slice_get fs j) no_core ∷ drop (suc j) fs
routine_next [] j lt = absurd (omega (arith, lt))
routine_next (f ∷ fs) zero lt = refl
routine_next (f ∷ fs) (suc j) lt = routine_next fs j (omega (arith, lt))

no_routine : (fs : List CoreRoutine) (j : ℕ) → length fs ≤ j → drop j fs ≡ []
no_routine [] zero le = refl
no_routine [] (suc j) le = refl
no_routine (f ∷ fs) zero le = absurd (omega (arith, le))
no_routine (f ∷ fs) (suc j) le = no_routine fs j (omega (arith, le))

pub routines_length : (p : Program) → length (lowered_program (plain p)).routines ≡ length p.functions
routines_length p = length-map (plain p).routines lowered_routine ∙ length-map p.functions (routine_of p)

module _ (ranks : List ℕ) (p : PlainCore) where
  step : (j : ℕ) → j < length p.routines → all_fall ranks j (drop j p.routines) ≡ (lines_fall (rank_in ranks) j (routine_at p j) (routine_at p j).steps && all_fall ranks (j + 1) (drop (j + 1) p.routines))
  step j lt =
      let e : suc j ≡ j + 1 = omega arith in
      ap (all_fall ranks j) (routine_next p.routines j lt)
      ∙ ap (λ (k : ℕ). lines_fall (rank_in ranks) j (routine_at p j) (routine_at p j).steps && all_fall ranks k (drop k p.routines)) e

  pub all_on : (j : ℕ) (whole : Bool) → j < length p.routines → lines_fall (rank_in ranks) j (routine_at p j) (routine_at p j).steps ≡ true → all_fall ranks j (drop j p.routines) ≡ whole → all_fall ranks (j + 1) (drop (j + 1) p.routines) ≡ whole
  all_on j whole lt t h = ap (λ b. b && all_fall ranks (j + 1) (drop (j + 1) p.routines)) (sym t) ∙ sym (step j lt) ∙ h

  pub all_not : (j : ℕ) (whole : Bool) → j < length p.routines → lines_fall (rank_in ranks) j (routine_at p j) (routine_at p j).steps ≡ false → all_fall ranks j (drop j p.routines) ≡ whole → false ≡ whole
  all_not j whole lt t h = ap (λ b. b && all_fall ranks (j + 1) (drop (j + 1) p.routines)) (sym t) ∙ sym (step j lt) ∙ h

  pub all_over : (j : ℕ) (whole : Bool) → length p.routines ≤ j → all_fall ranks j (drop j p.routines) ≡ whole → true ≡ whole
  all_over j whole le h = sym (ap (all_fall ranks j) (no_routine p.routines j le)) ∙ h

pub ruleset lines_falling = (falls_on, falls_not, falls_over)

pub ruleset all_falling = (all_on, all_not, all_over)
