use Rattle.std.proofs.Common.{map}
use Rattle.aplc_syntax.specs.Held.{row_of}
use Rattle.aplc_syntax.proofs.Saids.{rows_start, rows_more, rows_end}
use Rattle.aplc_syntax.proofs.outside.declarations.Goals as goal

pub loop-row-init : goal.loop-row-init
loop-row-init c = rows_start c.args.names.now (map row_of c.args.rows.now) _ c.new.ensures.items

pub loop-row-preserved : goal.loop-row-preserved
loop-row-preserved c = let e = c.in_ok-note.ensures in rows_more c.args.names.now c.args.rows.now c.loop-row.row-index c.row-item.result _ _ _ _ _ _ c.loop-row-test.true c.row-item.is e.0 e.1 e.2 c.loop-row.invariant

pub returns : goal.returns
returns c = let e = rows_end c.args.names.now c.args.rows.now c.loop-row.row-index c.loop-row.declared.first c.loop-row.declared.origin c.loop-row.declared.vars.items c.loop-row-test.false c.loop-row.invariant in record { first = e.0; said = e.1 }
