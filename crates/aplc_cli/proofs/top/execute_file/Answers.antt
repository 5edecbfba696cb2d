use Rattle.std.proofs.lemmas.Result.{err_from_is_err_and}
use Rattle.std.proofs.Common.{Ok, Err, refl, []}
use Rattle.aplc_cli.specs.declared.words.Action.TheVariants as action
use Rattle.aplc_cli.specs.Came.{told, result_map}
use Rattle.aplc_cli.specs.Call.{Outside}
use Rattle.aplc_cli.proofs.Ended.{formed_read, unmade, to_execute, ran}
use Rattle.aplc_cli.proofs.top.execute_file.Goals as goal

pub returns-in_err-program-clause-works : goal.returns-in_err-program-clause-works
returns-in_err-program-clause-works g c =
    let h = g.H.Host.state c.args.host.now in
    let h2 = g.H.Host.state c.read_text.new.host in
    let i = g.S.Source.state c.args.input.now in
    let o = g.O.Sink.state c.args.out.now in
    let p = err_from_is_err_and c.from_residual.result c.from_residual.ensures.1 in
    rw (p.1, p.2) (unmade c.args.name.now (action.Exec c.args.budget) h i o h2 c.in_err-program.field-0.0 (to_execute c.args.name.now h h2 c.args.budget (Err c.in_err-program.field-0.0) c.in_err-program.ensures.made))

pub returns-clause-works : goal.returns-clause-works
returns-clause-works g c =
    let h = g.H.Host.state c.args.host.now in
    let h2 = g.H.Host.state c.read_text.new.host in
    let i = g.S.Source.state c.args.input.now in
    let o = g.O.Sink.state c.args.out.now in
    let new : Outside = record { host = g.H.Host.state c.read_text.new.host; input = g.S.Source.state c.run_program.new.input; out = g.O.Sink.state c.run_program.new.out } in
    ran c.args.name.now (action.Exec c.args.budget) h i o c.args.budget refl (c.in_ok-program.program, []) h2 new (result_map told c.run_program.result)
    (to_execute c.args.name.now h h2 c.args.budget (Ok (c.in_ok-program.program, [])) c.in_ok-program.ensures.made) (c.run_program.ensures.ran (g.H.Host.state c.read_text.new.host))

pub run_program-requires : goal.run_program-requires
run_program-requires g c = record {
  formed = formed_read c.args.name.now (g.H.Host.state c.args.host.now) (g.H.Host.state c.read_text.new.host) 0 (c.in_ok-program.program, []) c.in_ok-program.ensures.made;
}
