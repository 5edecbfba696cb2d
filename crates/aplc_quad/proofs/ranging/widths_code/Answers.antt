use Rattle.aplc_cprof.proofs.Kept.{kept_trans}
use Rattle.aplc_quad.proofs.Builds.{on_ok, old_begun}
use Rattle.aplc_quad.proofs.WidthLoops.{widths_built}
use Rattle.aplc_quad.proofs.ranging.widths_code.Goals as goal

pub column_code-requires-clause-lengths : goal.column_code-requires-clause-lengths
column_code-requires-clause-lengths g c = old_begun c.args.b.now c.begin_loop.new.self c.args.lengths.now c.in_ok-column.ensures.begun c.requires.lengths

pub returns-clause-ok : goal.returns-clause-ok
returns-clause-ok g c =
    on_ok c.end_loop.result
    (widths_built (g.E.ElementCode.test c.args.code.now) (g.E.ElementCode.steps c.args.code.now) (g.E.ElementCode.given c.args.code.now) (g.E.ElementCode.depth c.args.code.now)
    c.args.b.now c.begin_loop.new.self c.column_code.new.b c.end_loop.new.self
    c.args.lengths.now c.args.last c.in_ok-column.column c.args.widths
    c.requires.ranked (g.met.E.ElementCode.reads c.args.code.now) c.requires.given c.requires.lengths c.requires.widths c.requires.last
    c.in_ok-column.ensures.name c.in_ok-column.ensures.begun c.in_ok-column_code.ensures.ok)
    c.end_loop.ensures.ended

pub returns-in_err-column_code-clause-kept : goal.returns-in_err-column_code-clause-kept
returns-in_err-column_code-clause-kept g c = kept_trans c.args.b.now c.begin_loop.new.self c.column_code.new.b c.in_ok-column.ensures.kept c.in_err-column_code.ensures.kept
