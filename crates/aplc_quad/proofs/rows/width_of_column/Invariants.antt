use Rattle.std.proofs.Common.{◌≡◌, ◌+◌, ◌*◌}
use Rattle.aplc_quad.specs.Rows.{column_width, cell_of}
use Rattle.aplc_quad.proofs.rows.width_of_column.Given as goal

abbrev pub invariant-loop : goal.invariant-loop
invariant-loop l = (l.place ≡ l.column + l.counter * l.columns) × (l.widest ≡ column_width l.a.kind (λ r. cell_of l.a (l.column + r * l.columns)) l.counter)
