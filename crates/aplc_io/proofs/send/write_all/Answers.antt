use Rattle.std.proofs.Common.{arith}
use Rattle.aplc_io.proofs.Sent.{slice_sent}
use Rattle.aplc_io.proofs.send.write_all.Goals as goal

pub loop-at-preserved : goal.loop-at-preserved
loop-at-preserved g c = record {
  within = omega (arith, c.in_ok-at.ensures.bound);
  sent = slice_sent c.args.bytes.now c.loop-at.at _ _ _ c.in_ok-at.field-0 c.loop-at.invariant.sent c.in_ok-at.ensures.takes;
}
