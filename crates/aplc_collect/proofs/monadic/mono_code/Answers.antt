use Rattle.aplc_collect.proofs.ScalarBuilt.{mono_built}
use Rattle.aplc_collect.proofs.monadic.mono_code.Goals as goal

pub returns-clause-emits : goal.returns-clause-emits
returns-clause-emits c =
    mono_built c.args.f c.args.b.now c.fresh_int.new.self c.emit.new.self c.args.a c.in_ok-v.v c.in_ok-code.code
    c.in_ok-v.ensures.name c.in_ok-v.ensures.given c.in_ok-code.ensures c.in_ok-emit.ensures.ok
