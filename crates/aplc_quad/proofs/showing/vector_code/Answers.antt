use Rattle.aplc_quad.proofs.Builds.{on_ok}
use Rattle.aplc_quad.proofs.LineShows.{vector_built, plain_old}
use Rattle.aplc_quad.proofs.showing.vector_code.Goals as goal

pub row_line-requires-clause-columns : goal.row_line-requires-clause-columns
row_line-requires-clause-columns g c = plain_old c.plain_columns-columns.result c.args.kind c.args.b.now.bufs c.plain_columns-columns.ensures

pub returns-clause-ok : goal.returns-clause-ok
returns-clause-ok g c =
    on_ok c.row_line.result
    (vector_built (g.E.ElementCode.test c.args.code.now) (g.E.ElementCode.steps c.args.code.now) (g.E.ElementCode.given c.args.code.now) (g.E.ElementCode.depth c.args.code.now) c.args.b.now c.row_line.new.b c.new-at.result c.args.length c.args.kind c.plain_columns-columns.result c.plain_columns-columns.ensures c.new-at.ensures)
    c.row_line.ensures.ok
