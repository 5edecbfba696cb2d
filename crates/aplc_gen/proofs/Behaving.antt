-- The C program of a lowered program behaves as its core run does, and the code of steps of scalars is that of lines.
use Rattle.std.proofs.Common.{◌≡◌, ℕ, List, ◌∷◌, true}
use Rattle.aplc_cprof.specs.declared.syntax.CProgram.{CProgram}
use Rattle.aplc_cprof.specs.Behaviour.{behaviour, Alike}
use Rattle.aplc_names.specs.States.{Marking}
use Rattle.aplc_core.specs.PlainSteps.{Effect}
use Rattle.aplc_core.specs.CoreRuns.{PlainCore}
use Rattle.aplc_gen.specs.Shown.{core_behaviour}
use Rattle.aplc_gen.specs.Sound.{is_sound}
use Rattle.aplc_gen.specs.Layouts.{Layout, Site}
use Rattle.aplc_gen.specs.Emitted.{work_code}
use Rattle.aplc_gen.specs.Laid.{IsLaid}
use Rattle.aplc_gen.specs.Codes.{IsServed, Simulates, IsProgramOf}
use Rattle.aplc_gen.proofs.Trees.{trees_do}
use Rattle.aplc_gen.proofs.Steps.{steps_do}
use Rattle.aplc_gen.proofs.LineSteps.{line_does}
use Rattle.aplc_gen.proofs.Starting.{programs_alike}

-- the code of the steps of a line of scalars does what they do
pub work_simulates : (g : Site) (known : List ℕ) (l : ℕ) (x : Effect) (xs : List Effect) → IsServed g known (x ∷ xs) → Simulates g known l (x ∷ xs) (work_code g known (x ∷ xs))
work_simulates g known l x xs served c n m rank k calls = line_does c n m rank k (trees_do c n) g known l x xs served (steps_do c n m rank k (trees_do c n) g.program g.layout served.counts calls)

-- for every marking and every input
pub program_alike : (z : CProgram) (y : Layout) (p : PlainCore) → IsProgramOf y p z → is_sound p ≡ true → IsLaid y p → (m : Marking) (input : List ℕ) → Alike (core_behaviour p m input) (behaviour z input)
program_alike z y p whole is laid m input = programs_alike z y p whole is laid m input
