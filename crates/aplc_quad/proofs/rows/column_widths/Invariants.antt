use Rattle.std.proofs.Common.{◌≡◌, ◌+◌, ◌*◌, length}
use Rattle.aplc_arr.specs.Delayed.{first_n}
use Rattle.aplc_quad.specs.Rows.{column_width, cell_of}
use Rattle.aplc_quad.proofs.rows.column_widths.Given as goal

abbrev pub invariant-loop-column : goal.invariant-loop-column
invariant-loop-column l = (l.widths.items ≡ first_n (λ j. column_width l.a.kind (λ r. cell_of l.a (j + r * l.columns)) l.rows) l.column) × (length l.widths.items ≡ l.column)
