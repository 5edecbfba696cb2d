use Rattle.std.proofs.Common.{rules, arith, ◌≡◌, ◌+◌, ◌*◌, ◌-◌, ◌<◌, ◌≤◌, ◌++◌, ◌∙◌, ap, ap₂, sym, ℕ, List, drop, length, slice_index_or}
use Rattle.aplc_arr.specs.Arrays.{rank, product}
use Rattle.aplc_quad.specs.Rows.{joined, empty_line, nest_bytes, listed, cell_of}
use Rattle.aplc_quad.proofs.Pieces.{row_within, next_place, written_two}
use Rattle.aplc_quad.proofs.Widths.{plane_product, axis_product, axis_nest, strictly}
use Rattle.aplc_quad.proofs.rows.+put_nest.Goals as goal

pub put_plane-requires : goal.put_plane-requires
put_plane-requires t c =
    let ns = c.args.a.now.shape in
    let i = c.args.axis in
    let last : i + 2 ≡ length ns = sym c.if-rank-axis.true ∙ c.rank.ensures in
    let all = plane_product ns i last in
    let sides : c.length_of-length.result * c.length_of.result ≡ slice_index_or ns i 0 * slice_index_or ns (i + 1) 0 = ap₂ (λ x y. x * y) c.length_of-length.ensures c.length_of.ensures in
    record { place = omega (arith, c.requires.place, all, sides); short = c.requires.short }

pub put_nest-requires : goal.put_nest-requires
put_nest-requires t c =
    let ns = c.args.a.now.shape in
    let i = c.args.axis in
    let other = strictly (i + 2) (length ns) c.requires.axis (λ e. c.if-rank-axis.false (c.rank.ensures ∙ e)) in
    let all = axis_product ns i c.requires.axis in
    let whole : c.args.first + c.length_of-length.result * product (drop (i + 1) ns) ≤ product ns = let e = ap (λ l. l * product (drop (i + 1) ns)) c.length_of-length.ensures in omega (arith, c.requires.place, all, e) in
    let fewer : rank c.args.a.now - (i + 1) < t = omega (arith, c.requires.axis, c.decreases) in
    let more : i + 1 + 2 ≤ rank c.args.a.now = omega (arith, other) in
    (fewer, (more, (row_within c.args.first c.length_of-length.result (product (drop (i + 1) ns)) c.loop.counter c.loop.place (product ns) c.loop.invariant.0 c.loop-test.true whole, c.requires.short)))

pub loop-preserved : goal.loop-preserved
loop-preserved t c =
    let ns = c.args.a.now.shape in
    let rest = drop (c.args.axis + 1) ns in
    let k = c.args.a.now.kind in
    let l = c.length_of-length.result in
    let nest : ℕ → List ℕ = λ p. empty_line l p ++ nest_bytes k (listed c.args.widths.now) (cell_of c.args.a.now) rest p in (
      c.in_ok-place.ensures.place ∙ next_place _ _ _ _ c.loop.invariant.0,
      written_two _ _ _ _ _ _ (λ j. nest (c.args.first + j * product rest)) c.loop.counter c.loop.invariant.1 c.in_ok-put_empty_line.ensures c.in_ok-place.ensures.bytes (ap nest c.loop.invariant.0),
    )

pub returns : goal.returns
returns t c =
    let ns = c.args.a.now.shape in
    let i = c.args.axis in
    let rest = drop (i + 1) ns in
    let k = c.args.a.now.kind in
    let l = c.length_of-length.result in
    let first = c.args.first in
    let nest : ℕ → ℕ → List ℕ = λ n p. empty_line n p ++ nest_bytes k (listed c.args.widths.now) (cell_of c.args.a.now) rest p in
    let done : c.loop.counter ≡ l = search rules in
    let other = strictly (i + 2) (length ns) c.requires.axis (λ e. c.if-rank-axis.false (c.rank.ensures ∙ e)) in
    record {
      place = c.loop.invariant.0 ∙ ap (λ n. first + n * product rest) (done ∙ c.length_of-length.ensures) ∙ ap (λ n. first + n) (sym (axis_product ns i c.requires.axis));
      bytes = c.loop.invariant.1 ∙ ap (λ n. c.args.out.now.items ++ joined (λ j. nest l (first + j * product rest)) n) done
          ∙ ap (λ n. c.args.out.now.items ++ joined (λ j. nest n (first + j * product rest)) n) c.length_of-length.ensures
          ∙ ap (λ x. c.args.out.now.items ++ x) (axis_nest k (listed c.args.widths.now) (cell_of c.args.a.now) ns i first other);
    }
