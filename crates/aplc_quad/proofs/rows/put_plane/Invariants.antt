use Rattle.std.proofs.Common.{◌≡◌, ◌+◌, ◌*◌, ◌++◌}
use Rattle.aplc_quad.specs.Rows.{plane_bytes, listed, cell_of}
use Rattle.aplc_quad.proofs.rows.put_plane.Given as goal

abbrev pub invariant-loop : goal.invariant-loop
invariant-loop l = (l.place ≡ l.first + l.counter * l.columns) × (l.out.items ≡ l.fn.out.items ++ plane_bytes l.a.kind (listed l.widths) (λ q. cell_of l.a (l.first + q)) l.counter l.columns)
