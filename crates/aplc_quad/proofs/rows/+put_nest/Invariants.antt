use Rattle.std.proofs.Common.{◌≡◌, ◌+◌, ◌-◌, ◌*◌, ◌++◌, drop}
use Rattle.aplc_arr.specs.Arrays.{product, rank}
use Rattle.aplc_quad.specs.Rows.{joined, empty_line, nest_bytes, listed, cell_of}
use Rattle.aplc_quad.proofs.rows.+put_nest.Given as goal

-- The axes that are left get fewer.
abbrev pub decreases-put_nest : goal.decreases-put_nest
decreases-put_nest l = rank l.a.now - l.axis

abbrev pub invariant-loop : goal.invariant-loop
invariant-loop l =
    (l.place ≡ l.first + l.counter * product (drop (l.axis + 1) l.a.shape))
    × (l.out.items ≡ l.fn.out.items ++ joined (λ i. empty_line l.length (l.first + i * product (drop (l.axis + 1) l.a.shape)) ++ nest_bytes l.a.kind (listed l.widths) (cell_of l.a) (drop (l.axis + 1) l.a.shape) (l.first + i * product (drop (l.axis + 1) l.a.shape))) l.counter)
