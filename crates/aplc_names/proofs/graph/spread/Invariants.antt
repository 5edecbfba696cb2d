use Rattle.aplc_names.specs.Graphs.{Spreads}
use Rattle.aplc_names.proofs.graph.spread.Given as goal

abbrev pub invariant-loop-at : goal.invariant-loop-at
invariant-loop-at l = Spreads l.row l.at-index l.fn.marks.items l.fn.todo.items l.marks.items l.todo.items
