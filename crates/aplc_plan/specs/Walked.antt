-- The steps of one function of a lowered program.
use Rattle.std.specs.Prelude.{ℕ, List, [], slice_get, unwrap_or}
use Rattle.aplc_syntax.specs.declared.tree.Program.{Program}
use Rattle.aplc_core.specs.PlainSteps.{Effect}
use Rattle.aplc_core.specs.CorePrograms.{program_steps}

abbrev pub function_steps : Program → ℕ → List (List Effect)
function_steps p i = unwrap_or (slice_get (program_steps p) i) []
