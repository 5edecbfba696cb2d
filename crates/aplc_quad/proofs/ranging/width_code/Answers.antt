use Rattle.aplc_cprof.proofs.Kept.{kept_trans}
use Rattle.aplc_quad.proofs.ranging.width_code.Goals as goal

pub returns-in_err-set_if_less-clause-kept : goal.returns-in_err-set_if_less-clause-kept
returns-in_err-set_if_less-clause-kept c =
    kept_trans c.args.b.now c.emit-2.new.self c.set_if_less.new.b
    (kept_trans c.args.b.now c.emit.new.self c.emit-2.new.self
    (kept_trans c.args.b.now c.fresh_int.new.self c.emit.new.self c.in_ok-width.ensures.kept c.in_ok-emit.ensures.kept)
    (kept_trans c.emit.new.self c.fresh_int-2.new.self c.emit-2.new.self c.in_ok-other.ensures.kept c.in_ok-emit-2.ensures.kept))
    c.in_err-set_if_less.ensures.kept

pub returns-clause-kept : goal.returns-clause-kept
returns-clause-kept c =
    kept_trans c.args.b.now c.emit-2.new.self c.emit-3.new.self
    (kept_trans c.args.b.now c.emit.new.self c.emit-2.new.self
    (kept_trans c.args.b.now c.fresh_int.new.self c.emit.new.self c.in_ok-width.ensures.kept c.in_ok-emit.ensures.kept)
    (kept_trans c.emit.new.self c.fresh_int-2.new.self c.emit-2.new.self c.in_ok-other.ensures.kept c.in_ok-emit-2.ensures.kept))
    (kept_trans c.emit-2.new.self c.set_if_less.new.b c.emit-3.new.self c.in_ok-set_if_less.ensures.kept c.emit-3.ensures.kept)
