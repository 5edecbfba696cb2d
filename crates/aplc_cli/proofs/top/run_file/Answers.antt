use Rattle.std.proofs.lemmas.Result.{err_from_is_err_and}
use Rattle.std.proofs.Common.{Ok, Err, refl}
use Rattle.aplc_cli.specs.declared.words.Action.TheVariants as action
use Rattle.aplc_cli.specs.Came.{told, result_map}
use Rattle.aplc_cli.specs.Call.{Outside}
use Rattle.aplc_cli.proofs.Ended.{formed_made, unmade, to_run, ran}
use Rattle.aplc_cli.proofs.top.run_file.Goals as goal

pub returns-in_err-made-clause-works : goal.returns-in_err-made-clause-works
returns-in_err-made-clause-works g c =
    let h = g.H.Host.state c.args.host.now in
    let h2 = g.H.Host.state c.make.new.host in
    let i = g.S.Source.state c.args.input.now in
    let o = g.O.Sink.state c.args.out.now in
    let p = err_from_is_err_and c.from_residual.result c.from_residual.ensures.1 in
    rw (p.1, p.2) (unmade c.args.name.now (action.Run c.args.budget) h i o h2 c.in_err-made.field-0.0 (to_run c.args.name.now h h2 c.args.budget (Err c.in_err-made.field-0.0) c.in_err-made.ensures.made))

pub returns-clause-works : goal.returns-clause-works
returns-clause-works g c =
    let h = g.H.Host.state c.args.host.now in
    let h2 = g.H.Host.state c.make.new.host in
    let i = g.S.Source.state c.args.input.now in
    let o = g.O.Sink.state c.args.out.now in
    let new : Outside = record { host = g.H.Host.state c.run_text.new.host; input = g.S.Source.state c.run_text.new.input; out = g.O.Sink.state c.run_text.new.out } in
    ran c.args.name.now (action.Run c.args.budget) h i o c.args.budget refl (c.in_ok-made.made.program, c.in_ok-made.made.text.items) h2 new (result_map told c.run_text.result)
    (to_run c.args.name.now h h2 c.args.budget (Ok (c.in_ok-made.made.program, c.in_ok-made.made.text.items)) c.in_ok-made.ensures.made) c.run_text.ensures.ran

pub run_text-requires : goal.run_text-requires
run_text-requires g c = record {
  formed = formed_made c.args.name.now (g.H.Host.state c.args.host.now) (g.H.Host.state c.make.new.host) (c.in_ok-made.made.program, c.in_ok-made.made.text.items) c.in_ok-made.ensures.made;
}
