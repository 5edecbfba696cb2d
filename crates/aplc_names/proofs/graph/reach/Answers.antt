use Rattle.aplc_names.proofs.Reached.{reaching_start, reaching_more, reached_all, left_empty}
use Rattle.aplc_names.proofs.graph.reach.Goals as goal

pub waiting-init : goal.waiting-init
waiting-init c = reaching_start c.args.graph.now c.args.from c.in_ok-marks.marks.items c.spread.new.marks.items c.new-todo.result.items c.spread.new.todo.items c.requires c.in_ok-marks.ensures.size c.in_ok-marks.ensures.none c.new-todo.ensures.items c.row.result.now c.row.ensures c.in_ok-spread.ensures

pub waiting-preserved : goal.waiting-preserved
waiting-preserved c = reaching_more c.args.graph.now c.args.from c.in-Some.k c.waiting.marks.items c.spread-in-Some.new.marks.items c.waiting.todo.items c.pop.new.self.items c.spread-in-Some.new.todo.items c.requires c.in-Some.ensures.items c.waiting.invariant c.row-in-Some.result.now c.row-in-Some.ensures c.in_ok-spread-in-Some.ensures

pub returns-in-None : goal.returns-in-None
returns-in-None c = reached_all c.args.graph.now c.args.from c.waiting.marks.items c.waiting.todo.items (left_empty c.waiting.todo.items c.pop.new.self.items _ c.in-None.ensures.items c.in-None.ensures.rest c.in-None.ensures.cases.0) c.waiting.invariant
