use Rattle.aplc_infer.proofs.Stepping.{left_other, left_there}
use Rattle.aplc_infer.proofs.flowing.land_out.Goals as goal

pub returns-then-number-k : goal.returns-then-number-k
returns-then-number-k c = left_there c.args.lookup.now c.args.i c.args.function.now c.in-Some.named c.number.result c.args.k c.args.fact.now c.args.tables.now c.raise.new.self c.in_ok-rose-in-Some.rose c.requires.function c.in-Some.is c.number.ensures c.if-number-k.true c.in_ok-rose-in-Some.ensures

pub returns-else-number-k : goal.returns-else-number-k
returns-else-number-k c = left_other c.args.lookup.now c.args.i c.args.function.now c.in-Some.named c.number.result c.args.k c.args.fact.now c.args.tables.now c.requires.function c.in-Some.is c.number.ensures c.if-number-k.false
