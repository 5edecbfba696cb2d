use Rattle.std.proofs.Common.{arith, ◌∙◌}
use Rattle.aplc_io.proofs.Sent.{slice_put}
use Rattle.aplc_io.proofs.send.put_all.Goals as goal

pub loop-at-preserved : goal.loop-at-preserved
loop-at-preserved g c = record {
  within = omega (arith, c.in_ok-at.ensures.bound);
  sent = slice_put c.args.bytes.now c.loop-at.at _ _ _ c.in_ok-at.field-0 c.loop-at.invariant.sent c.in_ok-at.ensures.takes;
  no_fetch = c.put_text.ensures.no_fetch ∙ c.loop-at.invariant.no_fetch;
  unasked = c.put_text.ensures.unasked ∙ c.loop-at.invariant.unasked;
}
