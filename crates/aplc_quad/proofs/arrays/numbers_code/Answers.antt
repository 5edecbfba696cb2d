use Rattle.aplc_cprof.proofs.Kept.{kept_same, kept_trans}
use Rattle.aplc_quad.specs.Shows.{MatrixShows, NumbersShow}
use Rattle.aplc_quad.proofs.Builds.{on_ok}
use Rattle.aplc_quad.proofs.CodePlanes.{when_some}
use Rattle.aplc_quad.proofs.CodeArrays.{numbers_show}
use Rattle.aplc_quad.proofs.arrays.numbers_code.Goals as goal

pub returns-in_err-some-clause-kept : goal.returns-in_err-some-clause-kept
returns-in_err-some-clause-kept g c = kept_same c.args.b.now

pub returns-in_err-matrix_code-clause-kept : goal.returns-in_err-matrix_code-clause-kept
returns-in_err-matrix_code-clause-kept g c = kept_trans c.args.b.now c.«open».new.self c.matrix_code.new.b c.in_ok-open.ensures.kept c.in_err-matrix_code.ensures.kept

pub returns-clause-ok : goal.returns-clause-ok
returns-clause-ok g c =
    on_ok c.emit.result
    (λ added. when_some (g.E.ElementCode.test c.args.code.now) (g.E.ElementCode.steps c.args.code.now) (g.E.ElementCode.given c.args.code.now) (g.E.ElementCode.depth c.args.code.now) c.args.b.now c.«open».new.self c.matrix_code.new.b c.close-matrix.new.self c.emit.new.self
    c.args.lengths.now c.in_ok-some.some c.close-matrix.result
    (MatrixShows (g.E.ElementCode.test c.args.code.now) (g.E.ElementCode.steps c.args.code.now) (g.E.ElementCode.given c.args.code.now) c.args.lengths.now)
    (NumbersShow (g.E.ElementCode.test c.args.code.now) (g.E.ElementCode.steps c.args.code.now) (g.E.ElementCode.given c.args.code.now) c.args.lengths.now)
    c.in_ok-some.ensures c.in_ok-open.ensures.ok c.in_ok-matrix_code.ensures.ok c.close-matrix.ensures.block c.close-matrix.ensures.rest c.close-matrix.ensures.names added
    (λ k code h. numbers_show k (g.E.ElementCode.test c.args.code.now) (g.E.ElementCode.steps c.args.code.now) (g.E.ElementCode.given c.args.code.now) (g.met.E.ElementCode.reads c.args.code.now) c.args.b.now.ints c.args.b.now.bufs c.args.lengths.now code c.requires.given.ints c.requires.given.bufs c.requires.lengths h))
    c.emit.ensures.ok
