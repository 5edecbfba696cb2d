use Rattle.std.proofs.Common.{arith, ◌≤◌, ◌+◌, ◌*◌, ◌∙◌, ap, ℕ, ℤ}
use Rattle.std.specs.Prelude.{max}
use Rattle.aplc_arr.specs.Arrays.{product}
use Rattle.aplc_quad.specs.Rows.{cell_of, width, column_width}
use Rattle.aplc_quad.proofs.Pieces.{column_place, column_next, column_more, next_place}
use Rattle.aplc_quad.proofs.rows.width_of_column.Goals as goal

pub width_of-requires : goal.width_of-requires
width_of-requires c = column_place _ _ _ _ _ _ c.loop.invariant.0 c.requires.column c.loop-test.true c.requires.rows

pub overflow_add-place : goal.overflow_add-place
overflow_add-place c =
    let h : c.loop.place + c.args.columns ≤ product c.args.a.now.shape + product c.args.a.now.shape = column_next _ _ _ _ _ _ c.loop.invariant.0 c.requires.column c.loop-test.true c.requires.rows in
    omega (arith, h, c.requires.short)

pub loop-preserved : goal.loop-preserved
loop-preserved c =
    let k = c.args.a.now.kind in
    let item : ℕ → ℤ = λ r. cell_of c.args.a.now (c.args.column + r * c.args.columns) in
    let j = c.loop.counter in (
      next_place _ _ _ _ c.loop.invariant.0,
      c.wider-widest.ensures
          ∙ ap (λ w. max w c.width_of.result) c.loop.invariant.1
          ∙ ap (λ w. max (column_width k item j) w) (c.width_of.ensures ∙ ap (λ p. width k (cell_of c.args.a.now p)) c.loop.invariant.0)
          ∙ column_more k item j,
    )
