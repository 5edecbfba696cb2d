use Rattle.std.proofs.lemmas.Result.{err_from_is_err_and}
use Rattle.aplc_cli.proofs.Ended.{unfetched}
use Rattle.aplc_cli.proofs.steps.make.Goals as goal

pub returns-in_err-file-clause-made : goal.returns-in_err-file-clause-made
returns-in_err-file-clause-made g c =
    let p = err_from_is_err_and c.from_residual.result c.from_residual.ensures.1 in
    rw (p.1, p.2) (unfetched c.args.name.now (g.H.Host.state c.args.host.now) (g.H.Host.state c.fetch.new.host) c.in_err-file.field-0.0 c.in_err-file.ensures.fetched)
