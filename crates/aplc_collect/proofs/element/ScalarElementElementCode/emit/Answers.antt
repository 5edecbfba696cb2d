use Rattle.aplc_cprof.proofs.Kept.{kept_trans}
use Rattle.aplc_collect.proofs.Elements.{scalar_emits}
use Rattle.aplc_collect.proofs.element.ScalarElementElementCode.emit.Goals as goal

pub returns-clause-emits : goal.returns-clause-emits
returns-clause-emits c =
    scalar_emits c.args.self.now.variable c.args._at.now c.args.b.now c.fresh_int.new.self c.emit.new.self c.in_ok-v.v
    c.requires.given c.in_ok-v.ensures.name c.in_ok-v.ensures.given c.in_ok-emit.ensures.ok

pub returns-clause-kept : goal.returns-clause-kept
returns-clause-kept c = kept_trans c.args.b.now c.fresh_int.new.self c.emit.new.self c.in_ok-v.ensures.kept c.in_ok-emit.ensures.kept

pub returns-in_err-emit-clause-kept : goal.returns-in_err-emit-clause-kept
returns-in_err-emit-clause-kept c = kept_trans c.args.b.now c.fresh_int.new.self c.emit.new.self c.in_ok-v.ensures.kept c.in_err-emit.ensures.kept
