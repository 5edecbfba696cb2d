use Rattle.aplc_scalar.specs.Scalar.{dyadic}
use Rattle.aplc_cprof.proofs.Frames.{are_old_more}
use Rattle.aplc_cprof.proofs.Kept.{kept_trans}
use Rattle.aplc_collect.specs.Scalars.{dyad_steps, dyad_depth}
use Rattle.aplc_collect.proofs.Fusing.{dyad_emits, if_ok}
use Rattle.aplc_collect.proofs.fused.DyadElementCode.emit.Goals as goal

pub emit-requires-2-clause-places : goal.emit-requires-2-clause-places
emit-requires-2-clause-places g c = are_old_more c.args.b.now.ints c.emit.new.b.ints c.args.at.now c.in_ok-right.ensures.emits.grown.ints c.requires.places

pub returns-clause-emits : goal.returns-clause-emits
returns-clause-emits g c =
    let x = c.args.self.now in
    if_ok c.dyad_code.result
    (λ v em. dyad_emits (dyadic x.f) (dyad_steps x.f) dyad_depth (g.L.ElementCode.test x.left) (g.R.ElementCode.test x.right) (g.L.ElementCode.steps x.left) (g.R.ElementCode.steps x.right)
    (g.L.ElementCode.given x.left) (g.R.ElementCode.given x.right) (g.L.ElementCode.depth x.left) (g.R.ElementCode.depth x.right)
    c.args.b.now c.emit.new.b c.emit-2.new.b c.dyad_code.new.b c.args.at.now c.in_ok-right.right c.in_ok-left.left v
    (g.met.L.ElementCode.numbers x.left) (g.met.R.ElementCode.numbers x.right) (g.met.L.ElementCode.reads x.left)
    c.requires.given c.requires.places c.in_ok-right.ensures.emits c.in_ok-left.ensures.emits em)
    c.dyad_code.ensures.emits

pub returns-in_err-left-clause-kept : goal.returns-in_err-left-clause-kept
returns-in_err-left-clause-kept g c = kept_trans c.args.b.now c.emit.new.b c.emit-2.new.b c.in_ok-right.ensures.kept c.in_err-left.ensures.kept

pub returns-clause-kept : goal.returns-clause-kept
returns-clause-kept g c =
    kept_trans c.args.b.now c.emit.new.b c.dyad_code.new.b c.in_ok-right.ensures.kept
    (kept_trans c.emit.new.b c.emit-2.new.b c.dyad_code.new.b c.in_ok-left.ensures.kept c.dyad_code.ensures.kept)
