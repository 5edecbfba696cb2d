use Rattle.aplc_collect.proofs.ScalarBuilt.{dyad_built}
use Rattle.aplc_collect.proofs.dyadic.dyad_code.Goals as goal

pub returns-clause-emits : goal.returns-clause-emits
returns-clause-emits c =
    dyad_built c.args.f c.args.b.now c.fresh_int.new.self c.emit.new.self c.args.left c.args.right c.in_ok-v.v c.in_ok-code.code
    c.requires.form c.requires.left c.in_ok-v.ensures.name c.in_ok-v.ensures.given c.in_ok-code.ensures c.in_ok-emit.ensures.ok
