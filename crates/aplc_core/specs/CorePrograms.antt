-- A lowered program: the resolved program, the facts of its nodes and the steps of its lines.
use Rattle.std.specs.Prelude.{◌≡◌, ℕ, List, [], map, Option, slice_get, unwrap_or, refl}
use Rattle.std.specs.Coded.{Coded, code_by, coded×, coded_list, coded_option}
use Rattle.aplc_syntax.specs.declared.tree.Line.{Line}
use Rattle.aplc_syntax.specs.declared.tree.Function.{Function}
use Rattle.aplc_syntax.specs.declared.tree.Program.{Program}
use Rattle.aplc_syntax.specs.contracts.tree.Program as program
use Rattle.aplc_names.specs.PlainPrograms.{plain, line_action}
use Rattle.aplc_infer.specs.declared.facts.Fact.{Fact}
use Rattle.aplc_infer.specs.contracts.facts.Fact as fact
use Rattle.aplc_infer.specs.Families.{IsWellTyped}
use Rattle.aplc_infer.specs.Shown.{IsInferred}
use Rattle.aplc_core.specs.declared.step.Step.{Step}
use Rattle.aplc_core.specs.PlainSteps.{Effect, effect_of}
use Rattle.aplc_core.specs.CoreRuns.{CoreRoutine, steps_at}
use Rattle.aplc_core.specs.Lowering.{lowered, lowered_program}

-- the resolved program, and the facts of its nodes by their numbers
pub record Core : Type 0 where
  pub program : Program
  pub facts : List (Option Fact)

abbrev pub core_code : Coded Core
core_code =
    code_by (Program × List (Option Fact)) (coded× program.the_row.coded (coded_list (coded_option fact.the_row.coded))) (λ c. (c.program, c.facts)) (λ p. record { program = p.0; facts = p.1 }) (λ _. refl)

-- ---- Steps

abbrev pub routine_steps : CoreRoutine → List (List Effect)
routine_steps f = f.steps

-- the steps of all lines of all functions
abbrev pub program_steps : Program → List (List (List Effect))
program_steps p = map routine_steps (lowered_program (plain p)).routines

-- those of line l of function i, where there is such a line
abbrev pub line_steps : Program → ℕ → ℕ → List Effect
line_steps p i l = unwrap_or (steps_at (unwrap_or (slice_get (program_steps p) i) []) l) []

-- those of a line as it is written, and of all lines of a function
abbrev pub lowered_line : Line → List Effect
lowered_line l = lowered (line_action l)

abbrev pub lowered_function : Function → List (List Effect)
lowered_function f = map lowered_line f.lines

-- ---- What a lowered program keeps

abbrev pub line_effects : List Step → List Effect
line_effects xs = map effect_of xs

abbrev pub function_effects : List (List Step) → List (List Effect)
function_effects xs = map line_effects xs

-- the program is well typed, the facts are those under its least family, and the steps are those of lowering
pub record IsLowered (c : Core) (steps : List (List (List Step))) : Type 0 where
  pub typed : IsWellTyped c.program
  pub inferred : IsInferred c.program c.facts
  pub steps_are : map function_effects steps ≡ program_steps c.program
