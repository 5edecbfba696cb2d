use Rattle.aplc_cprof.proofs.Kept.{kept_trans}
use Rattle.aplc_quad.proofs.Builds.{on_ok}
use Rattle.aplc_quad.proofs.CodeRows.{line_built}
use Rattle.aplc_quad.proofs.cells.row_line.Goals as goal

pub returns-clause-ok : goal.returns-clause-ok
returns-clause-ok g c =
    on_ok c.line_feed.result
    (line_built (g.E.ElementCode.test c.args.code.now) (g.E.ElementCode.steps c.args.code.now) (g.E.ElementCode.given c.args.code.now) (g.E.ElementCode.depth c.args.code.now) c.args.b.now c.row_code.new.b c.line_feed.new.b c.args.at.now c.args.length c.args.columns c.in_ok-row_code.ensures.ok)
    c.line_feed.ensures.code

pub returns-clause-kept : goal.returns-clause-kept
returns-clause-kept g c = kept_trans c.args.b.now c.row_code.new.b c.line_feed.new.b c.in_ok-row_code.ensures.kept c.line_feed.ensures.kept
