use Rattle.std.proofs.Common.{arith, [], ◌∙◌}
use Rattle.aplc_crun.specs.declared.live.Verdict.TheVariants as verdict
use Rattle.aplc_crun.proofs.ReadSteps.{went_on}
use Rattle.aplc_crun.proofs.RunsOn.{ran_on}
use Rattle.aplc_crun.proofs.running.turns.Goals as goal

pub returns-in-Some-clause-ran : goal.returns-in-Some-clause-ran
returns-in-Some-clause-ran g c =
    ran_on c.args.machine.now c.turns.machine c.turn.new.machine (g.S.Source.state c.args.input.now) (g.S.Source.state c.turns.input) (g.S.Source.state c.turn.new.input) (g.O.Sink.state c.args.out.now) (g.O.Sink.state c.turns.out) (g.O.Sink.state c.turn.new.out) c.turns.invariant.went.0
    c.args.budget c.turns.left c.in-Some.answer c.turns.invariant.steps c.turns.invariant.went.1 c.in-Some.ensures.ran

pub turns-preserved : goal.turns-preserved
turns-preserved g c = record {
  steps = omega (arith, c.in-None.ensures.more);
  can = c.in-None.ensures.can;
  once = λ same. let p = c.turns.invariant.once same in let q = c.turn.ensures.once p.0 in (q.0, q.1 ∙ p.1);
  went = ([], went_on c.args.machine.now c.turns.machine c.turn.new.machine verdict.Held (g.S.Source.state c.args.input.now) (g.S.Source.state c.turns.input) (g.S.Source.state c.turn.new.input) (g.O.Sink.state c.args.out.now) (g.O.Sink.state c.turns.out) (g.O.Sink.state c.turn.new.out) c.turns.invariant.went.0 [] c.turns.invariant.went.1 c.in-None.ensures.went);
}
