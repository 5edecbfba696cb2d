use Rattle.std.proofs.Common.{◌≡◌, map, drop}
use Rattle.std.specs.String.{string_bytes}
use Rattle.std.specs.Vec.Iter.{into_iter_items}
use Rattle.aplc_cli.specs.declared.status.Stop.TheVariants as stop
use Rattle.aplc_cli.specs.Words.{command}
use Rattle.aplc_cli.specs.Call.{outside, Answers}
use Rattle.aplc_cli.proofs.Causes.{if_given, wanted}
use Rattle.aplc_cli.proofs.entering.enter.Goals as goal

pub returns-in-Err-clause-answers : goal.returns-in-Err-clause-answers
returns-in-Err-clause-answers g c =
    let w = outside (g.H.Host.state c.args.host.now) (g.S.Source.state c.args.input.now) (g.O.Sink.state c.args.out.now) in
    let e = g.E.Sink.state c.args.err.now in
    let e2 = g.E.Sink.state c.report.new.err in
    if_given (λ all. c.in-Err.stop ≡ stop.Memory)
    (λ all. Answers (command (map string_bytes (drop 1 (into_iter_items all)))) w w e e2 c.report.result)
    c.args.given c.in-Err.ensures.wanting
    (λ all is. wanted (command (map string_bytes (drop 1 (into_iter_items all)))) w e e2 c.report.result c.in-Err.stop is c.report.ensures)
