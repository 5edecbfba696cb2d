use Rattle.std.proofs.Common.{◌≡◌, ◌+◌, ◌++◌}
use Rattle.aplc_quad.specs.Rows.{row_bytes, listed, cell_of}
use Rattle.aplc_quad.proofs.rows.put_row.Given as goal

abbrev pub invariant-loop-column : goal.invariant-loop-column
invariant-loop-column l = l.out.items ≡ l.fn.out.items ++ row_bytes l.a.kind (listed l.widths) (λ j. cell_of l.a (l.first + j)) l.column
