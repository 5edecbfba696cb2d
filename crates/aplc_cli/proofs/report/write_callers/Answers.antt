use Rattle.aplc_crun.specs.Running.{places_of}
use Rattle.aplc_cli.proofs.Callers.{cut_callers}
use Rattle.aplc_cli.proofs.report.write_callers.Goals as goal

pub returns-in-Err : goal.returns-in-Err
returns-in-Err g c =
    cut_callers (places_of c.args.machine.now) c.loop-number.number c.places-callers.result (g.E.Sink.state c.args.err.now) (g.E.Sink.state c.loop-number.err) (g.E.Sink.state c.write_caller.new.err)
    c.places-callers.ensures.told c.loop-number-test.true c.loop-number.invariant c.in-Err.ensures
