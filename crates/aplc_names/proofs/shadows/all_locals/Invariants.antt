use Rattle.std.proofs.Common.{◌≡◌, ◌++◌, drop}
use Rattle.aplc_names.specs.Graphs.{all_locals}
use Rattle.aplc_names.proofs.shadows.all_locals.Given as goal

abbrev pub invariant-loop-outline : goal.invariant-loop-outline
invariant-loop-outline l = l.out.items ++ all_locals (drop l.outline-index l.outlines) ≡ all_locals l.outlines
