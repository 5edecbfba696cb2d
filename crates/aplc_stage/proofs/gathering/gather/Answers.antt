use Rattle.std.proofs.Common.{sym, subst, List}
use Rattle.aplc_cprof.specs.declared.syntax.Int.{Int}
use Rattle.aplc_cprof.specs.Frames.{AreOld}
use Rattle.aplc_cprof.proofs.Kept.{kept_trans}
use Rattle.aplc_cprof.proofs.Frames.{given_more, are_old_more}
use Rattle.aplc_fill.specs.Fills.{Fills}
use Rattle.aplc_stage.specs.Pieces.{Counts}
use Rattle.aplc_stage.proofs.Filled.{new_buffer, gather_built}
use Rattle.aplc_stage.proofs.gathering.gather.Goals as goal

pub count_code-requires : goal.count_code-requires
count_code-requires g c = record { lengths = subst (λ (l : List Int). AreOld c.args.b.now.ints l) (sym c.as_slice.ensures) c.requires.lengths }

pub fill-requires-clause-given : goal.fill-requires-clause-given
fill-requires-clause-given g c =
    let kept = kept_trans c.args.b.now c.fresh_buf.new.self c.emit.new.self (kept_trans c.args.b.now c.count_code.new.b c.fresh_buf.new.self c.in_ok-count.ensures.kept c.in_ok-p.ensures.kept) c.in_ok-emit.ensures.kept in
    given_more (g.E.ElementCode.given c.args.code.now) c.args.b.now c.emit.new.self kept.ints kept.bufs c.requires.given

pub fill-requires-clause-lengths : goal.fill-requires-clause-lengths
fill-requires-clause-lengths g c =
    let kept = kept_trans c.args.b.now c.fresh_buf.new.self c.emit.new.self (kept_trans c.args.b.now c.count_code.new.b c.fresh_buf.new.self c.in_ok-count.ensures.kept c.in_ok-p.ensures.kept) c.in_ok-emit.ensures.kept in
    subst (λ (l : List Int). AreOld c.emit.new.self.ints l) (sym c.as_slice-2.ensures) (are_old_more c.args.b.now.ints c.emit.new.self.ints c.args.lengths kept.ints c.requires.lengths)

pub fill-requires-clause-into : goal.fill-requires-clause-into
fill-requires-clause-into g c = new_buffer c.count_code.new.b c.fresh_buf.new.self c.emit.new.self c.in_ok-p.p _ c.in_ok-p.ensures.name c.in_ok-p.ensures.given c.in_ok-emit.ensures.ok

pub returns-clause-ok : goal.returns-clause-ok
returns-clause-ok g c =
    let test = g.E.ElementCode.test c.args.code.now in
    let steps = g.E.ElementCode.steps c.args.code.now in
    let given = g.E.ElementCode.given c.args.code.now in
    let depth = g.E.ElementCode.depth c.args.code.now in
    gather_built test steps given depth c.args.b.now c.count_code.new.b c.fresh_buf.new.self c.emit.new.self c.fill.new.b c.args.lengths c.in_ok-count.count c.in_ok-p.p
    c.requires.lengths (subst (λ (l : List Int). Counts c.args.b.now c.count_code.new.b l c.in_ok-count.count) c.as_slice.ensures c.in_ok-count.ensures.ok)
    c.in_ok-p.ensures.name c.in_ok-p.ensures.given c.in_ok-emit.ensures.ok
    (subst (λ (l : List Int). Fills test steps given depth c.emit.new.self c.fill.new.b l c.in_ok-p.p) c.as_slice-2.ensures c.in_ok-fill.ensures.ok)

pub returns-in_err-emit-clause-kept : goal.returns-in_err-emit-clause-kept
returns-in_err-emit-clause-kept g c =
    kept_trans c.args.b.now c.fresh_buf.new.self c.emit.new.self (kept_trans c.args.b.now c.count_code.new.b c.fresh_buf.new.self c.in_ok-count.ensures.kept c.in_ok-p.ensures.kept) c.in_err-emit.ensures.kept

pub returns-in_err-fill-clause-kept : goal.returns-in_err-fill-clause-kept
returns-in_err-fill-clause-kept g c =
    kept_trans c.args.b.now c.emit.new.self c.fill.new.b
    (kept_trans c.args.b.now c.fresh_buf.new.self c.emit.new.self (kept_trans c.args.b.now c.count_code.new.b c.fresh_buf.new.self c.in_ok-count.ensures.kept c.in_ok-p.ensures.kept) c.in_ok-emit.ensures.kept)
    c.in_err-fill.ensures.kept

pub returns-clause-kept : goal.returns-clause-kept
returns-clause-kept g c =
    kept_trans c.args.b.now c.emit.new.self c.fill.new.b
    (kept_trans c.args.b.now c.fresh_buf.new.self c.emit.new.self (kept_trans c.args.b.now c.count_code.new.b c.fresh_buf.new.self c.in_ok-count.ensures.kept c.in_ok-p.ensures.kept) c.in_ok-emit.ensures.kept)
    c.in_ok-fill.ensures.kept
