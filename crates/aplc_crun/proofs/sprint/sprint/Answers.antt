use Rattle.std.proofs.Common.{arith}
use Rattle.aplc_crun.specs.Flat.{flat_of, layout_of}
use Rattle.aplc_crun.proofs.Moves.{sprint_more}
use Rattle.aplc_crun.proofs.sprint.sprint.Goals as goal

pub loop-taken-preserved : goal.loop-taken-preserved
loop-taken-preserved c = record {
  most = omega (arith, c.loop-taken-test.true);
  steps = omega (arith, c.in-Some.ensures.steps, c.loop-taken.invariant.steps);
  ran =
      sprint_more (layout_of c.args.laid.now) c.loop-taken.taken c.loop-taken.at c.in-Some.next (flat_of c.args.live.now) (flat_of c.loop-taken.live) (flat_of c.hop.new.live)
      c.loop-taken.invariant.ran c.in-Some.ensures.hopped;
}
