use Rattle.aplc_crun.proofs.RunsOn.{ran_ready}
use Rattle.aplc_crun.proofs.machine.Machine.run.Goals as goal

pub returns-clause-ran : goal.returns-clause-ran
returns-clause-ran g c =
    ran_ready c.args.self.now c.turns-answer.new.machine c.is_spent-self.result (g.S.Source.state c.args.input.now) (g.S.Source.state c.turns-answer.new.input) (g.O.Sink.state c.args.out.now) (g.O.Sink.state c.turns-answer.new.out) c.args.budget c.turns-answer.result
    c.is_spent-self.ensures c.turns-answer.ensures.ran
