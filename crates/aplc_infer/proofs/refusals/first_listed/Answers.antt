use Rattle.std.proofs.Common.{arith}
use Rattle.aplc_infer.proofs.Refused.{list_more}
use Rattle.aplc_infer.proofs.refusals.first_listed.Goals as goal

pub loop-k-preserved : goal.loop-k-preserved
loop-k-preserved c = list_more c.args.list.now c.loop-k.k _ c.loop-k.best c.earlier-best.result (omega arith) c.earlier-best.ensures c.loop-k.invariant
