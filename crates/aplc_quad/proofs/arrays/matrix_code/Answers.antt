use Rattle.std.proofs.Common.{refl}
use Rattle.aplc_cprof.proofs.Frames.{are_old_more}
use Rattle.aplc_cprof.proofs.Kept.{kept_trans}
use Rattle.aplc_quad.proofs.Builds.{on_ok}
use Rattle.aplc_quad.proofs.CodeArrays.{matrix_built, planes_same}
use Rattle.aplc_quad.proofs.arrays.matrix_code.Goals as goal

pub returns-in_err-widths_code-clause-kept : goal.returns-in_err-widths_code-clause-kept
returns-in_err-widths_code-clause-kept g c =
    kept_trans c.args.b.now c.emit.new.self c.widths_code.new.b (kept_trans c.args.b.now c.fresh_buf.new.self c.emit.new.self c.in_ok-widths.ensures.kept c.in_ok-emit.ensures.kept) c.in_err-widths_code.ensures.kept

pub planes_code-requires-clause-lengths : goal.planes_code-requires-clause-lengths
planes_code-requires-clause-lengths g c =
    let kept = kept_trans c.args.b.now c.emit.new.self c.widths_code.new.b (kept_trans c.args.b.now c.fresh_buf.new.self c.emit.new.self c.in_ok-widths.ensures.kept c.in_ok-emit.ensures.kept) c.in_ok-widths_code.ensures.kept in
    are_old_more c.args.b.now.ints c.widths_code.new.b.ints c.args.lengths.now kept.ints c.requires.lengths

pub returns-in_err-planes_code-clause-kept : goal.returns-in_err-planes_code-clause-kept
returns-in_err-planes_code-clause-kept g c =
    let made = kept_trans c.args.b.now c.fresh_buf.new.self c.emit.new.self c.in_ok-widths.ensures.kept c.in_ok-emit.ensures.kept in
    kept_trans c.args.b.now c.widths_code.new.b c.planes_code.new.b (kept_trans c.args.b.now c.emit.new.self c.widths_code.new.b made c.in_ok-widths_code.ensures.kept) c.in_err-planes_code.ensures.kept

pub returns-clause-ok : goal.returns-clause-ok
returns-clause-ok g c =
    on_ok c.emit-2.result
    (matrix_built (g.E.ElementCode.test c.args.code.now) (g.E.ElementCode.steps c.args.code.now) (g.E.ElementCode.given c.args.code.now) (g.E.ElementCode.depth c.args.code.now) c.args.b.now c.fresh_buf.new.self c.emit.new.self c.widths_code.new.b c.planes_code.new.b c.emit-2.new.self
    c.args.lengths.now _ c.in_ok-widths.widths c.requires.ranked (g.met.E.ElementCode.reads c.args.code.now) c.requires.given c.requires.lengths refl
    c.in_ok-widths.ensures.name c.in_ok-widths.ensures.given c.in_ok-emit.ensures.ok c.in_ok-widths_code.ensures.ok
    (planes_same (g.E.ElementCode.test c.args.code.now) (g.E.ElementCode.test c.widths_code.new.code) (g.E.ElementCode.steps c.args.code.now) (g.E.ElementCode.steps c.widths_code.new.code) (g.E.ElementCode.given c.args.code.now) (g.E.ElementCode.given c.widths_code.new.code) (g.E.ElementCode.depth c.args.code.now) (g.E.ElementCode.depth c.widths_code.new.code)
    c.widths_code.new.b c.planes_code.new.b c.args.lengths.now c.in_ok-widths.widths c.in_ok-widths_code.ensures.same c.in_ok-planes_code.ensures.ok))
    c.emit-2.ensures.ok

pub returns-clause-kept : goal.returns-clause-kept
returns-clause-kept g c =
    let made = kept_trans c.args.b.now c.fresh_buf.new.self c.emit.new.self c.in_ok-widths.ensures.kept c.in_ok-emit.ensures.kept in
    let wide = kept_trans c.args.b.now c.emit.new.self c.widths_code.new.b made c.in_ok-widths_code.ensures.kept in
    kept_trans c.args.b.now c.planes_code.new.b c.emit-2.new.self (kept_trans c.args.b.now c.widths_code.new.b c.planes_code.new.b wide c.in_ok-planes_code.ensures.kept) c.emit-2.ensures.kept
