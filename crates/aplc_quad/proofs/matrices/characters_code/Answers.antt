use Rattle.aplc_cprof.proofs.Kept.{kept_same, kept_trans}
use Rattle.aplc_quad.specs.declared.printing.Columns.TheVariants.{Characters}
use Rattle.aplc_quad.specs.Printed.{PlanesPut}
use Rattle.aplc_quad.specs.Shows.{CharactersShow}
use Rattle.aplc_quad.proofs.Builds.{on_ok}
use Rattle.aplc_quad.proofs.CodePlanes.{characters_show, when_some, kept_when}
use Rattle.aplc_quad.proofs.Starts.{opened_lengths}
use Rattle.aplc_quad.proofs.matrices.characters_code.Goals as goal

pub returns-clause-ok : goal.returns-clause-ok
returns-clause-ok g c =
    on_ok c.emit.result
    (λ added. when_some (g.E.ElementCode.test c.args.code.now) (g.E.ElementCode.steps c.args.code.now) (g.E.ElementCode.given c.args.code.now) (g.E.ElementCode.depth c.args.code.now) c.args.b.now c.«open».new.self c.planes_code.new.b c.close-planes.new.self c.emit.new.self
    c.args.lengths.now c.in_ok-some.some c.close-planes.result
    (PlanesPut (g.E.ElementCode.test c.args.code.now) (g.E.ElementCode.steps c.args.code.now) c.args.lengths.now Characters)
    (CharactersShow (g.E.ElementCode.test c.args.code.now) (g.E.ElementCode.steps c.args.code.now) c.args.lengths.now)
    c.in_ok-some.ensures c.in_ok-open.ensures.ok c.in_ok-planes_code.ensures.ok c.close-planes.ensures.block c.close-planes.ensures.rest c.close-planes.ensures.names added
    (λ k code h. characters_show k (g.E.ElementCode.test c.args.code.now) (g.E.ElementCode.steps c.args.code.now) (g.E.ElementCode.given c.args.code.now) (g.met.E.ElementCode.reads c.args.code.now) c.args.b.now.ints c.args.b.now.bufs c.args.lengths.now code c.requires.given.ints c.requires.given.bufs c.requires.lengths h))
    c.emit.ensures.ok

pub returns-clause-kept : goal.returns-clause-kept
returns-clause-kept g c = kept_when c.args.b.now c.«open».new.self c.planes_code.new.b c.close-planes.new.self c.emit.new.self c.in_ok-open.ensures.ok c.in_ok-planes_code.ensures.kept c.close-planes.ensures.rest c.close-planes.ensures.names c.emit.ensures.kept

pub planes_code-requires-clause-lengths : goal.planes_code-requires-clause-lengths
planes_code-requires-clause-lengths g c = opened_lengths c.args.b.now c.«open».new.self _ _ c.args.lengths.now c.in_ok-open.ensures.ok c.requires.lengths

pub returns-in_err-some-clause-kept : goal.returns-in_err-some-clause-kept
returns-in_err-some-clause-kept g c = kept_same c.args.b.now

pub returns-in_err-planes_code-clause-kept : goal.returns-in_err-planes_code-clause-kept
returns-in_err-planes_code-clause-kept g c = kept_trans c.args.b.now c.«open».new.self c.planes_code.new.b c.in_ok-open.ensures.kept c.in_err-planes_code.ensures.kept
