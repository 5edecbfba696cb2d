use Rattle.std.proofs.Common.{arith}
use Rattle.aplc_infer.proofs.Pooled.{used_more}
use Rattle.aplc_infer.proofs.column.in_use.Goals as goal

pub loop-k-preserved : goal.loop-k-preserved
loop-k-preserved c = used_more c.args.pool.now c.loop-k.used c.add.new.self c.args.numbers.now c.loop-k.out c.push.new.self c.loop-k.k c.at-number.result c.in_ok-new.new c.at-fact.result c.loop-k.invariant (omega arith) c.at-number.ensures c.at-fact.ensures c.in_ok-new.ensures.grows c.in_ok-new.ensures.within c.in_ok-new.ensures.fact c.in_ok-push.ensures
