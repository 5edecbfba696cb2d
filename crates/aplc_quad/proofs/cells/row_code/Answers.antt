use Rattle.aplc_cprof.proofs.Kept.{kept_trans}
use Rattle.aplc_quad.proofs.Builds.{on_ok, old_begun}
use Rattle.aplc_quad.proofs.CodeRows.{row_built}
use Rattle.aplc_quad.proofs.cells.row_code.Goals as goal

pub cell_code-requires-clause-at : goal.cell_code-requires-clause-at
cell_code-requires-clause-at g c = old_begun c.args.b.now c.begin_loop.new.self c.args.at.now c.in_ok-column.ensures.begun c.requires.at

pub returns-clause-ok : goal.returns-clause-ok
returns-clause-ok g c =
    on_ok c.end_loop.result
    (row_built (g.E.ElementCode.test c.args.code.now) (g.E.ElementCode.steps c.args.code.now) (g.E.ElementCode.given c.args.code.now) (g.E.ElementCode.depth c.args.code.now) c.args.b.now c.begin_loop.new.self c.cell_code.new.b c.end_loop.new.self
    c.args.at.now c.args.length c.in_ok-column.column c.args.columns (g.met.E.ElementCode.reads c.args.code.now) c.requires.given c.requires.at c.requires.length c.requires.columns
    c.in_ok-column.ensures.name c.in_ok-column.ensures.begun c.in_ok-cell_code.ensures.ok)
    c.end_loop.ensures.ended

pub returns-in_err-cell_code-clause-kept : goal.returns-in_err-cell_code-clause-kept
returns-in_err-cell_code-clause-kept g c = kept_trans c.args.b.now c.begin_loop.new.self c.cell_code.new.b c.in_ok-column.ensures.kept c.in_err-cell_code.ensures.kept
