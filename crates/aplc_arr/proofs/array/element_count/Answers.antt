use Rattle.std.proofs.Common.{rules, ◌≡◌, get_or}
use Rattle.std.specs.Prelude.{unsigned_abs, pos}
use Rattle.aplc_arr.proofs.Counting.{next_count, min_bound}
use Rattle.aplc_arr.proofs.array.element_count.Goals as goal

pub loop-length-preserved : goal.loop-length-preserved
loop-length-preserved c =
    let size : c.unsigned_abs-length.result ≡ unsigned_abs (get_or c.args.shape.now c.loop-length.length-index (pos 0)) = search rules in
    let new = c.min-count.ensures in
    (min_bound _ _ new, next_count c.args.shape.now c.loop-length.length-index c.loop-length.count c.unsigned_abs-length.result c.min-count.result (pos 0) _ c.loop-length-test.true size c.if-length-gt-COUNT_LIMIT.false new c.loop-length.invariant.1)
