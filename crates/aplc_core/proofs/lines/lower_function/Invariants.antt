-- The lines so far.
use Rattle.std.proofs.Common.{◌≡◌, take}
use Rattle.std.specs.Prelude.{map}
use Rattle.aplc_core.specs.CorePrograms.{function_effects, lowered_line}
use Rattle.aplc_core.proofs.lines.lower_function.Given as goal

abbrev pub invariant-loop-line : goal.invariant-loop-line
invariant-loop-line l = function_effects l.lines.items ≡ map lowered_line (take l.line-index l.function.lines)
