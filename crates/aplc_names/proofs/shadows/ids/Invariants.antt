use Rattle.std.proofs.Common.{◌≡◌, take}
use Rattle.aplc_names.specs.Graphs.{ids}
use Rattle.aplc_names.proofs.shadows.ids.Given as goal

abbrev pub invariant-loop-outline : goal.invariant-loop-outline
invariant-loop-outline l = l.out.items ≡ ids l.all (take l.outline-index l.outlines)
