-- The steps of a line among those of a function.
use Rattle.std.proofs.Common.{◌≡◌, ◌∙◌, ap, refl, ℕ, zero, suc, ◌-◌, List, [], ◌∷◌, map, arith}
use Rattle.std.proofs.lemmas.Option.{slice_get-map}
use Rattle.std.specs.Prelude.{Option, Some, slice_get, unwrap_or, option_map}
use Rattle.aplc_core.specs.declared.step.Step.{Step}
use Rattle.aplc_core.specs.PlainSteps.{Effect, effect_of}
use Rattle.aplc_core.specs.CoreRuns.{CoreRoutine, steps_at}
use Rattle.aplc_core.specs.CorePrograms.{line_effects, function_effects, routine_steps, program_steps, line_steps, lowered_line, lowered_function}
use Rattle.aplc_core.specs.Lowering.{lowered, lowered_routine, lowered_program}
use Rattle.aplc_syntax.specs.declared.tree.Line.{Line}
use Rattle.aplc_syntax.specs.declared.tree.Function.{Function}
use Rattle.aplc_syntax.specs.declared.tree.Program.{Program}
use Rattle.aplc_names.specs.PlainPrograms.{line_action, routine_of, plain}

pub line_there : (xs : List (List Step)) (n : ℕ) (ys : List Step) → (n ≡ 0 → ⊥) → slice_get xs (n - 1) ≡ Some ys → unwrap_or (steps_at (function_effects xs) n) [] ≡ map effect_of ys
line_there xs zero ys h e = elim (h refl) [ ]
line_there xs (suc m) ys h e =
    ap (λ (o : Option (List Effect)). unwrap_or o [])
    (slice_get-map line_effects xs m ∙ ap (λ (k : ℕ). option_map line_effects (slice_get xs k)) (omega arith) ∙ ap (option_map line_effects) e)

-- ---- The steps of a program, function by function

lines_lowered : (xs : List Line) → map lowered (map line_action xs) ≡ map lowered_line xs
lines_lowered [] = refl
lines_lowered (x ∷ xs) = ap (λ (l : List (List Effect)). lowered_line x ∷ l) (lines_lowered xs)

routines_lowered : (p : Program) (fs : List Function) → map routine_steps (map lowered_routine (map (routine_of p) fs)) ≡ map lowered_function fs
routines_lowered p [] = refl
routines_lowered p (f ∷ fs) = ap (λ (l : List (List Effect)). l ∷ map routine_steps (map lowered_routine (map (routine_of p) fs))) (lines_lowered f.lines) ∙ ap (λ (l : List (List (List Effect))). lowered_function f ∷ l) (routines_lowered p fs)

pub program_lowered : (p : Program) → program_steps p ≡ map lowered_function p.functions
program_lowered p = routines_lowered p p.functions

-- the steps of a line are those of its routine
pub line_of_routine : (p : Program) (i l : ℕ) (f : CoreRoutine) → slice_get (lowered_program (plain p)).routines i ≡ Some f → line_steps p i l ≡ unwrap_or (steps_at f.steps l) []
line_of_routine p i l f e =
    ap (λ (o : Option (List (List Effect))). unwrap_or (steps_at (unwrap_or o []) l) [])
    (slice_get-map routine_steps (lowered_program (plain p)).routines i ∙ ap (option_map routine_steps) e)
