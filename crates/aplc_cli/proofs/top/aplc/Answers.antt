use Rattle.std.proofs.Common.{map, subst}
use Rattle.std.specs.String.{string_bytes}
use Rattle.aplc_cli.specs.Words.{command}
use Rattle.aplc_cli.specs.Call.{Outside, Ends, outside}
use Rattle.aplc_cli.proofs.Causes.{answers}
use Rattle.aplc_cli.proofs.top.aplc.Goals as goal

pub returns-clause-answers : goal.returns-clause-answers
returns-clause-answers g c =
    let old : Outside = outside (g.H.Host.state c.args.host.now) (g.S.Source.state c.args.input.now) (g.O.Sink.state c.args.out.now) in
    let new : Outside = outside (g.H.Host.state c.carry_out.new.host) (g.S.Source.state c.carry_out.new.input) (g.O.Sink.state c.carry_out.new.out) in
    let e = g.E.Sink.state c.args.err.now in
    let e2 = g.E.Sink.state c.carry_out.new.err in
    answers (command (map string_bytes c.args.words.items)) old new e e2 c.carry_out.result
    (subst (λ ws. Ends (command (map string_bytes ws)) old new e e2 c.carry_out.result) c.as_slice.ensures.value c.carry_out.ensures.ends)
