use Rattle.aplc_crun.proofs.Advancing.{cut_on}
use Rattle.aplc_crun.proofs.advance.advance.Goals as goal

pub returns-in-Err-clause-cut : goal.returns-in-Err-clause-cut
returns-in-Err-clause-cut g c = λ is.
    cut_on c.args.machine.now c.rounds.machine c.round.new.machine (g.O.Sink.state c.args.out.now) (g.O.Sink.state c.rounds.out) (g.O.Sink.state c.round.new.out)
    c.rounds.invariant.advanced (c.in-Err.ensures.cut is)
