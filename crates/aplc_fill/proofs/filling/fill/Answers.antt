use Rattle.aplc_cprof.proofs.Kept.{kept_trans}
use Rattle.aplc_fill.proofs.Builds.{opened_ints, lengths_kept, kept_closed, fill_built, on_ok}
use Rattle.aplc_fill.proofs.filling.fill.Goals as goal

pub fill_nest-requires-clause-lengths : goal.fill_nest-requires-clause-lengths
fill_nest-requires-clause-lengths g c =
    lengths_kept c.args.b.now.ints c.«open».new.self.ints c.in_ok-place.place c.args.lengths.now
    (opened_ints c.args.b.now c.fresh_int.new.self c.emit.new.self c.«open».new.self _ _ _ c.in_ok-place.ensures.given c.in_ok-emit.ensures.ok c.in_ok-open.ensures.ok).0
    c.in_ok-place.ensures.name c.requires.lengths

pub returns-clause-ok : goal.returns-clause-ok
returns-clause-ok g c =
    on_ok c.emit-2.result
    (fill_built (g.E.ElementCode.test c.args.code.now) (g.E.ElementCode.steps c.args.code.now) (g.E.ElementCode.given c.args.code.now) (g.E.ElementCode.depth c.args.code.now)
    c.args.b.now c.fresh_int.new.self c.emit.new.self c.«open».new.self c.fill_nest.new.b c.close-nest.new.self c.emit-2.new.self
    c.new-at.result c.args.lengths.now c.args.into c.in_ok-place.place c.in_ok-some.some c.close-nest.result
    (g.met.E.ElementCode.reads c.args.code.now) c.requires.given c.requires.lengths c.requires.into
    c.in_ok-place.ensures.name c.in_ok-place.ensures.given c.in_ok-emit.ensures.ok c.in_ok-some.ensures c.in_ok-open.ensures.ok c.new-at.ensures c.in_ok-fill_nest.ensures.ok
    c.close-nest.ensures.block c.close-nest.ensures.rest c.close-nest.ensures.names)
    c.emit-2.ensures.ok

pub returns-in_err-fill_nest-clause-kept : goal.returns-in_err-fill_nest-clause-kept
returns-in_err-fill_nest-clause-kept g c =
    kept_trans c.args.b.now c.«open».new.self c.fill_nest.new.b
    (kept_trans c.args.b.now c.emit.new.self c.«open».new.self (kept_trans c.args.b.now c.fresh_int.new.self c.emit.new.self c.in_ok-place.ensures.kept c.in_ok-emit.ensures.kept) c.in_ok-open.ensures.kept)
    c.in_err-fill_nest.ensures.kept

pub returns-clause-kept : goal.returns-clause-kept
returns-clause-kept g c =
    kept_trans c.args.b.now c.close-nest.new.self c.emit-2.new.self
    (kept_closed c.args.b.now c.emit.new.self c.«open».new.self c.fill_nest.new.b c.close-nest.new.self
    (kept_trans c.args.b.now c.fresh_int.new.self c.emit.new.self c.in_ok-place.ensures.kept c.in_ok-emit.ensures.kept)
    c.in_ok-open.ensures.ok c.in_ok-fill_nest.ensures.kept c.close-nest.ensures.rest c.close-nest.ensures.names)
    c.emit-2.ensures.kept
