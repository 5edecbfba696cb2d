use Rattle.std.proofs.Common.{arith, ◌≤◌, ◌+◌}
use Rattle.aplc_arr.specs.Arrays.{product}
use Rattle.aplc_quad.specs.Rows.{listed}
use Rattle.aplc_quad.proofs.Pieces.{row_within, next_place, plane_written}
use Rattle.aplc_quad.proofs.rows.put_plane.Goals as goal

pub put_line-requires : goal.put_line-requires
put_line-requires c = row_within _ _ _ _ _ _ c.loop.invariant.0 c.loop-test.true c.requires.place

pub overflow_add-place : goal.overflow_add-place
overflow_add-place c =
    let h : c.loop.place + c.args.columns ≤ product c.args.a.now.shape = row_within _ _ _ _ _ _ c.loop.invariant.0 c.loop-test.true c.requires.place in
    omega (arith, h, c.requires.short)

pub loop-preserved : goal.loop-preserved
loop-preserved c = (
  next_place _ _ _ _ c.loop.invariant.0,
  plane_written c.args.a.now.kind (listed c.args.widths.now) c.args.a.now c.args.first c.args.columns c.loop.counter c.loop.place _ _ _ c.loop.invariant.1 c.loop.invariant.0 c.in_ok-put_line.ensures,
)
