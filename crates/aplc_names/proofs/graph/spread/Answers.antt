use Rattle.std.proofs.Common.{arith}
use Rattle.aplc_names.proofs.Reached.{spreads_more}
use Rattle.aplc_names.proofs.graph.spread.Goals as goal

pub loop-at-preserved : goal.loop-at-preserved
loop-at-preserved c = spreads_more c.args.row.now c.loop-at.at-index _ c.args.marks.now.items c.args.todo.now.items c.loop-at.marks.items c.loop-at.todo.items c.visit.new.marks.items c.visit.new.todo.items (omega arith) c.loop-at.invariant c.in_ok-visit.ensures.marks c.in_ok-visit.ensures.todo
