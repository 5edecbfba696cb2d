use Rattle.std.proofs.Common.{arith, refl}
use Rattle.std.proofs.lemmas.Option.{slice_get_read}
use Rattle.aplc_names.specs.Clashes.{StandsIn}
use Rattle.aplc_names.proofs.Minima.{none_yet, more, all_of}
use Rattle.aplc_names.proofs.clashes.in_functions.Goals as goal

pub loop-i-init : goal.loop-i-init
loop-i-init c = none_yet (StandsIn c.args.heads.now) c.args.outlines.now

pub loop-i-preserved : goal.loop-i-preserved
loop-i-preserved c = more (StandsIn c.args.heads.now) c.args.outlines.now c.loop-i.i c.index-outlines-i.result c.loop-i.best c.in_one-one.result c.earlier-best.result (slice_get_read c.args.outlines.now _ c.loop-i.i _ refl (omega arith) c.index-outlines-i.is) c.earlier-best.ensures c.loop-i.invariant c.in_one-one.ensures

pub returns : goal.returns
returns c = all_of (StandsIn c.args.heads.now) c.args.outlines.now c.loop-i.i c.loop-i.best (omega arith) c.loop-i.invariant
