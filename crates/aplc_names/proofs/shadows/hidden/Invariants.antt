use Rattle.aplc_names.specs.Graphs.{Hides}
use Rattle.aplc_names.proofs.shadows.hidden.Given as goal

abbrev pub invariant-loop-from : goal.invariant-loop-from
invariant-loop-from l = Hides l.rows l.lists l.to l.from l.size l.marks.items
