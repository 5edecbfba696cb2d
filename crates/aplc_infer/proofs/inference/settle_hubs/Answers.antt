use Rattle.aplc_names.specs.PlainPrograms.{routine_of}
use Rattle.aplc_infer.proofs.Moving.{hubs_more}
use Rattle.aplc_infer.proofs.inference.settle_hubs.Goals as goal

pub loop-k-preserved : goal.loop-k-preserved
loop-k-preserved c = hubs_more c.args.lookup.now c.loop-k.k c.args.i (routine_of c.args.lookup.now c.args.function.now) c.args.tables.now c.loop-k.tables c.settle_hub.new.tables c.loop-k.rose c.in_ok-now.now c.either-rose.result c.loop-k.invariant c.in_ok-now.ensures c.either-rose.ensures
