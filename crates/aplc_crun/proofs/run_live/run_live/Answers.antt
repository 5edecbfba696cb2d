use Rattle.std.proofs.Common.{◌≡◌, refl, ◌+◌, ◌<◌, arith, subst}
use Rattle.aplc_crun.specs.declared.live.Verdict.{Verdict}
use Rattle.aplc_crun.specs.Flat.{flat_of, layout_of, flat_step, flow_of}
use Rattle.aplc_crun.specs.Pausing.{taken}
use Rattle.aplc_crun.proofs.Turns.{turn_first, turn_going}
use Rattle.aplc_crun.proofs.Moves.{sprint_on}
use Rattle.aplc_crun.proofs.run_live.run_live.Goals as goal

pub returns-in-Held-clause-progress : goal.returns-in-Held-clause-progress
returns-in-Held-clause-progress c = λ is none not.
    let took = subst (λ (v : Verdict). flow_of v (flat_of c.step.new.live) ≡ flat_step (layout_of c.args.laid.now) (flat_of c.loop-taken.live)) c.in-Held.is c.in_ok-verdict.ensures.took in
    let t : 0 < c.loop-taken.taken = turn_first (layout_of c.args.laid.now) c.loop-taken.taken (flat_of c.args.live.now) (flat_of c.loop-taken.live) (flat_of c.step.new.live) c.loop-taken.invariant.ran took none not in
    omega (arith, t, c.in_ok-verdict.ensures.steps, c.loop-taken.invariant.steps)

pub loop-taken-preserved : goal.loop-taken-preserved
loop-taken-preserved c =
    let took = subst (λ (v : Verdict). flow_of v (flat_of c.step.new.live) ≡ flat_step (layout_of c.args.laid.now) (flat_of c.loop-taken.live)) c.in-Going.is c.in_ok-verdict.ensures.took in
    let one = subst (λ (v : Verdict). c.step.new.live.steps ≡ c.loop-taken.live.steps + taken v) c.in-Going.is c.in_ok-verdict.ensures.steps in
    record {
      most = omega (arith, c.loop-taken-test.true, c.sprint-taken-in-loop-taken.ensures.most);
      steps = omega (arith, one, c.loop-taken.invariant.steps, c.sprint-taken-in-loop-taken.ensures.steps);
      ran =
          sprint_on (layout_of c.args.laid.now) (c.loop-taken.taken + 1) c.sprint-taken-in-loop-taken.result _ (flat_of c.args.live.now) (flat_of c.step.new.live) (flat_of c.sprint-taken-in-loop-taken.new.live)
          (turn_going (layout_of c.args.laid.now) c.loop-taken.taken (flat_of c.args.live.now) (flat_of c.loop-taken.live) (flat_of c.step.new.live) c.loop-taken.invariant.ran took)
          c.sprint-taken-in-loop-taken.ensures.ran refl;
    }
