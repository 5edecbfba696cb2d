use Rattle.std.proofs.Common.{arith, reverse, []}
use Rattle.aplc_gen.specs.Made.{with_each}
use Rattle.aplc_gen.proofs.Numbered.{once_all, once_more}
use Rattle.aplc_gen.proofs.known.each_once.Goals as goal

pub loop-index-init : goal.loop-index-init
loop-index-init c = (once_all c.args.names.now c.new-once.result c.new-once.ensures, omega arith)

pub loop-index-preserved : goal.loop-index-preserved
loop-index-preserved c =
    let within = c.loop-index.invariant.1 in
    (once_more c.args.names.now c.loop-index.once c.add.new.self (with_each [] (reverse c.args.names.now)) c.loop-index.index 0 c.loop-index-test.true within c.in_ok-add.ensures c.loop-index.invariant.0, omega (arith, within))
