use Rattle.std.proofs.Common.{arith, ◌≡◌, ◌<◌, ◌≤◌, ◌++◌, ◌∙◌, ap, sym, append-nil}
use Rattle.aplc_arr.specs.Arrays.{rank, product}
use Rattle.aplc_quad.proofs.Whole.{vector_shown, nothing_shown, written_same}
use Rattle.aplc_quad.proofs.rows.put_array.Goals as goal

pub returns-then-rank-lt2 : goal.returns-then-rank-lt2
returns-then-rank-lt2 c =
    let a = c.args.a.now in
    let flat : rank a < 2 = omega (arith, c.if-rank-lt2.true, c.rank.ensures) in
    written_same c.put_line.result _ _ _ _ c.put_line.ensures (vector_shown a c.count.result c.kind-kind.ensures.array flat c.count.ensures)

pub returns-then-count-eq0 : goal.returns-then-count-eq0
returns-then-count-eq0 c =
    let a = c.args.a.now in
    let ranked : 2 ≤ rank a = omega (arith, c.if-rank-lt2.false, c.rank.ensures) in
    let none : product a.shape ≡ 0 = omega (arith, c.if-count-eq0.true, c.count-2.ensures) in
    sym (append-nil c.args.out.now.items) ∙ ap (λ l. c.args.out.now.items ++ l) (nothing_shown a c.kind-kind.ensures.array ranked none)
