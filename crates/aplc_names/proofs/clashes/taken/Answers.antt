use Rattle.std.proofs.Common.{arith}
use Rattle.aplc_names.specs.Clashes.{IsTaken}
use Rattle.aplc_names.proofs.Minima.{none_yet, taken_more, all_of}
use Rattle.aplc_names.proofs.clashes.taken.Goals as goal

pub loop-x-init : goal.loop-x-init
loop-x-init c = none_yet (IsTaken c.args.heads.now) c.args.names.now

pub loop-x-preserved : goal.loop-x-preserved
loop-x-preserved c = taken_more c.args.heads.now c.args.names.now c.loop-x.x-index _ c.has-test.result c.loop-x.best c.refused_if-one.result c.earlier-best.result (omega arith) c.has-test.ensures c.refused_if-one.ensures c.earlier-best.ensures c.loop-x.invariant

pub returns : goal.returns
returns c = all_of (IsTaken c.args.heads.now) c.args.names.now c.loop-x.x-index c.loop-x.best (omega arith) c.loop-x.invariant
