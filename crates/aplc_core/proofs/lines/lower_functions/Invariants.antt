-- The functions so far.
use Rattle.std.proofs.Common.{◌≡◌, take}
use Rattle.std.specs.Prelude.{map}
use Rattle.aplc_core.specs.CorePrograms.{function_effects, lowered_function}
use Rattle.aplc_core.proofs.lines.lower_functions.Given as goal

abbrev pub invariant-loop-function : goal.invariant-loop-function
invariant-loop-function l = map function_effects l.steps.items ≡ map lowered_function (take l.function-index l.functions)
