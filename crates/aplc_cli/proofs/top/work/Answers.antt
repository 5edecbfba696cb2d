use Rattle.std.proofs.Common.{Some, ap, sym, subst, ◌∙◌}
use Rattle.aplc_cli.specs.declared.words.Action.{Action}
use Rattle.aplc_cli.specs.Words.{Command}
use Rattle.aplc_cli.specs.Came.{told, result_map}
use Rattle.aplc_cli.specs.Call.{Outside, Works}
use Rattle.aplc_cli.proofs.Ended.{unread}
use Rattle.aplc_cli.proofs.top.work.Goals as goal

pub returns-in-None-clause-works : goal.returns-in-None-clause-works
returns-in-None-clause-works g c =
    let w : Outside = record { host = g.H.Host.state c.args.host.now; input = g.S.Source.state c.args.input.now; out = g.O.Sink.state c.args.out.now } in
    rw (← c.in-None.ensures) (unread w)

pub returns-in-Compile-clause-works : goal.returns-in-Compile-clause-works
returns-in-Compile-clause-works g c =
    let i = g.S.Source.state c.args.input.now in
    let o = g.O.Sink.state c.args.out.now in
    let old : Outside = record { host = g.H.Host.state c.args.host.now; input = i; out = o } in
    let new : Outside = record { host = g.H.Host.state c.compile_file.new.host; input = i; out = o } in
    let asked : Action → Command = λ a. record { name = c.in-Some.asked.name.now; action = a } in
    subst (λ k. Works k old new (result_map told c.compile_file.result)) (ap (λ a. Some (asked a)) (sym c.in-Compile.is) ∙ c.in-Some.ensures) (c.compile_file.ensures.works i o)
