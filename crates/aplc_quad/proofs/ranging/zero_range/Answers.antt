use Rattle.aplc_cprof.proofs.Kept.{kept_trans}
use Rattle.aplc_quad.proofs.ranging.zero_range.Goals as goal

pub returns-clause-kept : goal.returns-clause-kept
returns-clause-kept c =
    kept_trans c.args.b.now c.emit.new.self c.emit-2.new.self
    (kept_trans c.args.b.now c.fresh_int.new.self c.emit.new.self c.in_ok-least.ensures.kept c.in_ok-emit.ensures.kept)
    (kept_trans c.emit.new.self c.fresh_int-2.new.self c.emit-2.new.self c.in_ok-greatest.ensures.kept c.in_ok-emit-2.ensures.kept)
