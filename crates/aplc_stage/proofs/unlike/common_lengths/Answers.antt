use Rattle.std.proofs.lemmas.Result.{IfOk-weaker}
use Rattle.std.proofs.Common.{length}
use Rattle.aplc_stage.proofs.Calls.{is_none, is_some, ranks_same}
use Rattle.aplc_stage.proofs.Sharing.{share_beside, share_before, share_both}
use Rattle.aplc_stage.proofs.unlike.common_lengths.Goals as goal

pub returns-then-is_empty-clause-ok : goal.returns-then-is_empty-clause-ok
returns-then-is_empty-clause-ok c =
    IfOk-weaker c.own_lengths.result _ _
    (λ l own. share_beside c.args.b.now c.own_lengths.new.b c.args.left.now c.args.right.now l (is_none c.args.left.now c.is_empty.result c.is_empty.ensures c.if-is_empty.true) own)
    c.own_lengths.ensures.ok

pub returns-then-is_empty-2-clause-ok : goal.returns-then-is_empty-2-clause-ok
returns-then-is_empty-2-clause-ok c =
    IfOk-weaker c.own_lengths-then-is_empty-2.result _ _
    (λ l own. share_before c.args.b.now c.own_lengths-then-is_empty-2.new.b c.args.left.now c.args.right.now l (is_none c.args.right.now c.is_empty-2.result c.is_empty-2.ensures c.if-is_empty-2.true) own)
    c.own_lengths-then-is_empty-2.ensures.ok

pub returns-clause-ok : goal.returns-clause-ok
returns-clause-ok c =
    share_both c.args.b.now c.conform.new.b c.args.left.now c.args.right.now c.in_ok-common.common.lengths c.in_ok-common.common.keeps_left c.in_ok-common.common.keeps_right
    (ranks_same (length c.args.left.now) (length c.args.right.now) (is_some c.args.left.now c.is_empty.result c.is_empty.ensures c.if-is_empty.false) (is_some c.args.right.now c.is_empty-2.result c.is_empty-2.ensures c.if-is_empty-2.false) c.requires.ranks)
    c.in_ok-common.ensures.ok
