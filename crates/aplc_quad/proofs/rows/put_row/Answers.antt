use Rattle.std.proofs.Common.{◌++◌, ap₂, ◌+◌}
use Rattle.aplc_quad.specs.Rows.{justified_bytes, gap_before, listed, cell_of}
use Rattle.aplc_quad.proofs.Pieces.{written_two}
use Rattle.aplc_quad.proofs.rows.put_row.Goals as goal

pub loop-column-preserved : goal.loop-column-preserved
loop-column-preserved c =
    let k = c.args.a.now.kind in
    let j = c.loop-column.column in
    let z = cell_of c.args.a.now (c.args.first + j) in
    written_two _ _ _ _ _ _
    (λ i. gap_before k i ++ justified_bytes k (listed c.args.widths.now i) (cell_of c.args.a.now (c.args.first + i))) j
    c.loop-column.invariant c.in_ok-put_gap.ensures c.in_ok-put_cell.ensures
    (ap₂ (λ q w. gap_before q j ++ justified_bytes k w z) c.kind.ensures.kind c.width_at.ensures)
