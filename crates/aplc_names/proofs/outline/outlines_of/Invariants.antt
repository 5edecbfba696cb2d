use Rattle.std.proofs.Common.{◌≡◌, take}
use Rattle.std.specs.Prelude.{map}
use Rattle.aplc_names.specs.Outlines.{outline}
use Rattle.aplc_names.proofs.outline.outlines_of.Given as goal

abbrev pub invariant-loop-function : goal.invariant-loop-function
invariant-loop-function l = l.out.items ≡ map outline (take l.function-index l.functions)
