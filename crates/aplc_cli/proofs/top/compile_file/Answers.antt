use Rattle.std.proofs.lemmas.Result.{err_from_is_err_and}
use Rattle.std.proofs.Common.{Ok, Err}
use Rattle.aplc_cli.specs.declared.words.Action.TheVariants as action
use Rattle.aplc_cli.proofs.Ended.{unmade, compiled_only}
use Rattle.aplc_cli.proofs.top.compile_file.Goals as goal

pub returns-in_err-made-clause-works : goal.returns-in_err-made-clause-works
returns-in_err-made-clause-works g c =
    let p = err_from_is_err_and c.from_residual.result c.from_residual.ensures.1 in
    λ i o. rw (p.1, p.2) (unmade c.args.name.now action.Compile (g.H.Host.state c.args.host.now) i o (g.H.Host.state c.make.new.host) c.in_err-made.field-0.0 c.in_err-made.ensures.made)

pub returns-in-Ok-clause-works : goal.returns-in-Ok-clause-works
returns-in-Ok-clause-works g c =
    let h = g.H.Host.state c.args.host.now in
    λ i o. compiled_only c.args.name.now h (g.H.Host.state c.make.new.host) (g.H.Host.state c.send_text.new.host) i o (c.in_ok-made.made.program, c.in_ok-made.made.text.items) c.as_slice.result.now (Ok c.in-Ok.field-0) c.in_ok-made.ensures.made c.as_slice.ensures.value c.in-Ok.ensures.sends

pub returns-clause-works : goal.returns-clause-works
returns-clause-works g c =
    let h = g.H.Host.state c.args.host.now in
    λ i o. compiled_only c.args.name.now h (g.H.Host.state c.make.new.host) (g.H.Host.state c.send_text.new.host) i o (c.in_ok-made.made.program, c.in_ok-made.made.text.items) c.as_slice.result.now (Err c.in-Err.stop) c.in_ok-made.ensures.made c.as_slice.ensures.value c.in-Err.ensures.sends
