use Rattle.std.proofs.Common.{◌≡◌, take}
use Rattle.std.specs.Prelude.{map}
use Rattle.aplc_names.specs.Lookups.{label_lines}
use Rattle.aplc_names.proofs.labels.label_lines_of.Given as goal

abbrev pub invariant-loop-function : goal.invariant-loop-function
invariant-loop-function l = l.out.items ≡ map label_lines (take l.function-index l.functions)
