use Rattle.aplc_cprof.proofs.Kept.{kept_trans}
use Rattle.aplc_quad.proofs.Builds.{on_ok, places_begun}
use Rattle.aplc_quad.proofs.CodeNests.{plane_built}
use Rattle.aplc_quad.proofs.planes.plane_code.Goals as goal

pub row_line-requires-clause-at : goal.row_line-requires-clause-at
row_line-requires-clause-at g c = places_begun c.args.b.now c.begin_loop.new.self c.in_ok-row.row c.args.at.now c.push.new.self c.in_ok-row.ensures.name c.in_ok-row.ensures.begun c.in_ok-push.ensures.ok c.requires.at

pub returns-clause-ok : goal.returns-clause-ok
returns-clause-ok g c =
    on_ok c.end_loop.result
    (λ ended started. plane_built (g.E.ElementCode.test c.args.code.now) (g.E.ElementCode.steps c.args.code.now) (g.E.ElementCode.given c.args.code.now) (g.E.ElementCode.depth c.args.code.now) c.args.b.now c.begin_loop.new.self c.row_line.new.b c.end_loop.new.self
    c.args.at.now c.push.new.self c.args.rows c.args.length started c.in_ok-row.row c.args.columns (g.met.E.ElementCode.reads c.args.code.now) c.requires.given c.requires.at c.requires.rows c.requires.length c.requires.columns
    c.in_ok-row.ensures.name c.in_ok-row.ensures.begun c.in_ok-push.ensures.ok c.in_ok-row_line.ensures.ok ended)
    c.end_loop.ensures.ended

pub returns-in_err-row_line-clause-kept : goal.returns-in_err-row_line-clause-kept
returns-in_err-row_line-clause-kept g c = kept_trans c.args.b.now c.begin_loop.new.self c.row_line.new.b c.in_ok-row.ensures.kept c.in_err-row_line.ensures.kept
