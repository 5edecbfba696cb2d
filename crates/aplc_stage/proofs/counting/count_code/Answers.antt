use Rattle.aplc_cprof.proofs.Kept.{kept_same, kept_trans}
use Rattle.aplc_stage.proofs.Counted.{count_built, one_length}
use Rattle.aplc_stage.proofs.counting.count_code.Goals as goal

pub returns-then-lengths-eq1-clause-ok : goal.returns-then-lengths-eq1-clause-ok
returns-then-lengths-eq1-clause-ok c = one_length c.args.b.now c.args.lengths.now _ c.if-lengths-eq1.true c.requires.lengths

pub returns-then-lengths-eq1-clause-kept : goal.returns-then-lengths-eq1-clause-kept
returns-then-lengths-eq1-clause-kept c = kept_same c.args.b.now

pub returns-clause-ok : goal.returns-clause-ok
returns-clause-ok c =
    count_built c.args.b.now c.fresh_int.new.self c.emit.new.self c.emit-2.new.self c.args.lengths.now c.in_ok-v.v c.in_ok-counted.counted
    c.requires.lengths c.in_ok-v.ensures.name c.in_ok-v.ensures.given c.in_ok-emit.ensures.ok c.in_ok-counted.ensures c.in_ok-emit-2.ensures.ok

pub returns-clause-kept : goal.returns-clause-kept
returns-clause-kept c =
    kept_trans c.args.b.now c.emit.new.self c.emit-2.new.self (kept_trans c.args.b.now c.fresh_int.new.self c.emit.new.self c.in_ok-v.ensures.kept c.in_ok-emit.ensures.kept)
    c.in_ok-emit-2.ensures.kept
