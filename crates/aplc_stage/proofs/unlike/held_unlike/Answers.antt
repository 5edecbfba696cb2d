use Rattle.std.proofs.Common.{List, length, sym, ap, subst, ◌∙◌, ◌≤◌}
use Rattle.std.proofs.lemmas.Result.{IfOk-weaker}
use Rattle.aplc_cprof.specs.declared.syntax.Int.{Int}
use Rattle.aplc_cprof.specs.Frames.{AreOld}
use Rattle.aplc_cprof.proofs.Kept.{kept_trans}
use Rattle.aplc_stage.proofs.Calls.{is_none, is_some, left_given, right_given}
use Rattle.aplc_stage.proofs.Unlikes.{shared_given, number_gives, array_gives}
use Rattle.aplc_stage.proofs.unlike.held_unlike.Goals as goal

pub common_lengths-requires-clause-left : goal.common_lengths-requires-clause-left
common_lengths-requires-clause-left c = subst (λ (l : List Int). AreOld c.args.b.now.ints l) (sym c.lengths.ensures) (left_given c.args.left.now c.args.right.now c.args.b.now c.requires.given)

pub common_lengths-requires-clause-right : goal.common_lengths-requires-clause-right
common_lengths-requires-clause-right c = subst (λ (l : List Int). AreOld c.args.b.now.ints l) (sym c.lengths-2.ensures) (right_given c.args.left.now c.args.right.now c.args.b.now c.requires.given)

pub returns-then-is_empty-clause-computes : goal.returns-then-is_empty-clause-computes
returns-then-is_empty-clause-computes c = number_gives c.args.f c.args.left_kind c.args.right_kind c.args.left.now c.args.right.now c.lengths.result.now c.lengths-2.result.now c.in_ok-lengths.lengths c.args.b.now c.common_lengths.new.b c.fresh_int.new.self c.emit.new.self c.in_ok-v.v c.constant.result c.lengths.ensures c.lengths-2.ensures c.in_ok-lengths.ensures.ok c.in_ok-v.ensures.given c.in_ok-emit.ensures.ok c.requires.unlike c.requires.kinds c.requires.ranks c.requires.given c.in_ok-v.ensures.name c.constant.ensures (ap length (sym c.as_slice.ensures) ∙ is_none c.as_slice.result.now c.is_empty.result c.is_empty.ensures c.if-is_empty.true)

pub returns-then-is_empty-clause-kept : goal.returns-then-is_empty-clause-kept
returns-then-is_empty-clause-kept c = kept_trans c.args.b.now c.fresh_int.new.self c.emit.new.self (kept_trans c.args.b.now c.common_lengths.new.b c.fresh_int.new.self c.in_ok-lengths.ensures.kept c.in_ok-v.ensures.kept) c.in_ok-emit.ensures.kept

pub gather-requires-clause-lengths : goal.gather-requires-clause-lengths
gather-requires-clause-lengths c = shared_given c.args.f c.args.left_kind c.args.right_kind c.args.left.now c.args.right.now c.lengths.result.now c.lengths-2.result.now c.in_ok-lengths.lengths c.args.b.now c.common_lengths.new.b c.fresh_int.new.self c.emit.new.self c.in_ok-v.v c.constant.result c.lengths.ensures c.lengths-2.ensures c.in_ok-lengths.ensures.ok c.in_ok-v.ensures.given c.in_ok-emit.ensures.ok

pub returns-clause-computes : goal.returns-clause-computes
returns-clause-computes c =
    IfOk-weaker c.gather.result _ _
    (λ w last. array_gives c.args.f c.args.left_kind c.args.right_kind c.args.left.now c.args.right.now c.lengths.result.now c.lengths-2.result.now c.in_ok-lengths.lengths c.args.b.now c.common_lengths.new.b c.fresh_int.new.self c.emit.new.self c.in_ok-v.v c.constant.result c.lengths.ensures c.lengths-2.ensures c.in_ok-lengths.ensures.ok c.in_ok-v.ensures.given c.in_ok-emit.ensures.ok c.requires.unlike c.requires.kinds c.requires.ranks c.requires.given c.in_ok-v.ensures.name c.constant.ensures c.gather.new.b w (subst (λ (l : List Int). 1 ≤ length l) c.as_slice.ensures (is_some c.as_slice.result.now c.is_empty.result c.is_empty.ensures c.if-is_empty.false)) last)
    c.gather.ensures.ok

pub returns-clause-kept : goal.returns-clause-kept
returns-clause-kept c = kept_trans c.args.b.now c.emit.new.self c.gather.new.b (kept_trans c.args.b.now c.fresh_int.new.self c.emit.new.self (kept_trans c.args.b.now c.common_lengths.new.b c.fresh_int.new.self c.in_ok-lengths.ensures.kept c.in_ok-v.ensures.kept) c.in_ok-emit.ensures.kept) c.gather.ensures.kept
