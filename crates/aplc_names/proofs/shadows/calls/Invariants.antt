use Rattle.std.proofs.Common.{◌≡◌, take}
use Rattle.aplc_names.specs.Graphs.{graph}
use Rattle.aplc_names.proofs.shadows.calls.Given as goal

abbrev pub invariant-loop-outline : goal.invariant-loop-outline
invariant-loop-outline l = l.out.items ≡ graph l.heads (take l.outline-index l.outlines)
