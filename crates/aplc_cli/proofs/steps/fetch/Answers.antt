use Rattle.std.proofs.Common.{subst, refl}
use Rattle.aplc_io.specs.Outside.{FetchStops}
use Rattle.aplc_cli.proofs.Ended.{long_file}
use Rattle.aplc_cli.proofs.steps.fetch.Goals as goal

pub returns-in-Err-TooLong-clause-fetched : goal.returns-in-Err-TooLong-clause-fetched
returns-in-Err-TooLong-clause-fetched g c =
    let old = g.H.Host.state c.args.host.now in
    let stops = subst (λ fault. FetchStops fault c.args.name.now c.args.long.place old (g.H.Host.state c.fetch.new.self)) c.in-Err-TooLong.field-0-is c.in-Err-TooLong.ensures.stops in
    (stops.1, refl, long_file old c.args.name.now c.args.long.place stops.0)
