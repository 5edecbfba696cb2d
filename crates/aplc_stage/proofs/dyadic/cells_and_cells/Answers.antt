use Rattle.std.proofs.Common.{List, subst}
use Rattle.std.proofs.lemmas.Result.{IfOk-weaker}
use Rattle.aplc_cprof.specs.declared.syntax.Int.{Int}
use Rattle.aplc_cprof.proofs.Kept.{kept_trans}
use Rattle.aplc_stage.proofs.Calls.{IsKeptOrExtended, both_start, left_lengths_given, right_lengths_given, left_widths_given, names_at, right_widths_given, names_then, couple_asks, names_last, couple_gives}
use Rattle.aplc_stage.proofs.dyadic.cells_and_cells.Goals as goal

pub conform-requires-clause-left : goal.conform-requires-clause-left
conform-requires-clause-left c = (both_start c.args.left_from c.args.right_from c.args.left_lengths.now c.args.right_lengths.now c.args.b.now c.requires.given).0

pub conform-requires-clause-right : goal.conform-requires-clause-right
conform-requires-clause-right c = (both_start c.args.left_from c.args.right_from c.args.left_lengths.now c.args.right_lengths.now c.args.b.now c.requires.given).1

pub over-requires : goal.over-requires
over-requires c = record { lengths = left_lengths_given c.args.left_from c.args.right_from c.args.left_lengths.now c.args.right_lengths.now c.in_ok-common.common.lengths c.in_ok-common.common.keeps_left c.in_ok-common.common.keeps_right c.args.b.now c.conform.new.b c.in_ok-common.ensures.ok c.requires.given }

pub returns-in_err-whole_left-clause-kept : goal.returns-in_err-whole_left-clause-kept
returns-in_err-whole_left-clause-kept c = kept_trans c.args.b.now c.conform.new.b c.over.new.b c.in_ok-common.ensures.kept c.in_err-whole_left.ensures.kept

pub over-requires-2 : goal.over-requires-2
over-requires-2 c = record { lengths = right_lengths_given c.args.left_from c.args.right_from c.args.left_lengths.now c.args.right_lengths.now c.in_ok-common.common.lengths c.in_ok-common.common.keeps_left c.in_ok-common.common.keeps_right c.args.b.now c.conform.new.b c.in_ok-common.ensures.ok c.over.new.b c.in_ok-whole_left.whole_left c.in_ok-whole_left.ensures.ok c.requires.given }

pub returns-in_err-whole_right-clause-kept : goal.returns-in_err-whole_right-clause-kept
returns-in_err-whole_right-clause-kept c = kept_trans c.args.b.now c.over.new.b c.over-2.new.b (kept_trans c.args.b.now c.conform.new.b c.over.new.b c.in_ok-common.ensures.kept c.in_ok-whole_left.ensures.kept) c.in_err-whole_right.ensures.kept

pub keep_or_extend-requires-clause-strides : goal.keep_or_extend-requires-clause-strides
keep_or_extend-requires-clause-strides c = left_widths_given c.args.left_from c.args.right_from c.args.left_lengths.now c.args.right_lengths.now c.in_ok-common.common.lengths c.in_ok-common.common.keeps_left c.in_ok-common.common.keeps_right c.args.b.now c.conform.new.b c.in_ok-common.ensures.ok c.over.new.b c.in_ok-whole_left.whole_left c.in_ok-whole_left.ensures.ok c.over-2.new.b c.in_ok-whole_right.whole_right c.in_ok-whole_right.ensures.ok

pub keep_or_extend-requires-clause-lengths : goal.keep_or_extend-requires-clause-lengths
keep_or_extend-requires-clause-lengths c = names_at c.args.left_from c.args.right_from c.args.left_lengths.now c.args.right_lengths.now c.in_ok-common.common.lengths c.in_ok-common.common.keeps_left c.in_ok-common.common.keeps_right c.args.b.now c.conform.new.b c.in_ok-common.ensures.ok c.over.new.b c.in_ok-whole_left.whole_left c.in_ok-whole_left.ensures.ok c.over-2.new.b c.in_ok-whole_right.whole_right c.in_ok-whole_right.ensures.ok c.as_slice-lengths.result.now c.as_slice-lengths.ensures

pub returns-in_err-left-clause-kept : goal.returns-in_err-left-clause-kept
returns-in_err-left-clause-kept c = kept_trans c.args.b.now c.over-2.new.b c.keep_or_extend.new.b (kept_trans c.args.b.now c.over.new.b c.over-2.new.b (kept_trans c.args.b.now c.conform.new.b c.over.new.b c.in_ok-common.ensures.kept c.in_ok-whole_left.ensures.kept) c.in_ok-whole_right.ensures.kept) c.in_err-left.ensures.kept

pub keep_or_extend-requires-2-clause-strides : goal.keep_or_extend-requires-2-clause-strides
keep_or_extend-requires-2-clause-strides c = right_widths_given c.args.left_from c.args.right_from c.args.left_lengths.now c.args.right_lengths.now c.in_ok-common.common.lengths c.in_ok-common.common.keeps_left c.in_ok-common.common.keeps_right c.args.b.now c.conform.new.b c.in_ok-common.ensures.ok c.over.new.b c.in_ok-whole_left.whole_left c.in_ok-whole_left.ensures.ok c.over-2.new.b c.in_ok-whole_right.whole_right c.in_ok-whole_right.ensures.ok c.keep_or_extend.new.b c.in_ok-left.left (subst (λ (l : List Int). IsKeptOrExtended c.over-2.new.b c.keep_or_extend.new.b c.in_ok-common.common.keeps_left c.in_ok-whole_left.whole_left l c.in_ok-left.left) c.as_slice-lengths.ensures c.in_ok-left.ensures.ok)

pub keep_or_extend-requires-2-clause-lengths : goal.keep_or_extend-requires-2-clause-lengths
keep_or_extend-requires-2-clause-lengths c = names_then c.args.left_from c.args.right_from c.args.left_lengths.now c.args.right_lengths.now c.in_ok-common.common.lengths c.in_ok-common.common.keeps_left c.in_ok-common.common.keeps_right c.args.b.now c.conform.new.b c.in_ok-common.ensures.ok c.over.new.b c.in_ok-whole_left.whole_left c.in_ok-whole_left.ensures.ok c.over-2.new.b c.in_ok-whole_right.whole_right c.in_ok-whole_right.ensures.ok c.keep_or_extend.new.b c.in_ok-left.left (subst (λ (l : List Int). IsKeptOrExtended c.over-2.new.b c.keep_or_extend.new.b c.in_ok-common.common.keeps_left c.in_ok-whole_left.whole_left l c.in_ok-left.left) c.as_slice-lengths.ensures c.in_ok-left.ensures.ok) c.as_slice-lengths.result.now c.as_slice-lengths.ensures

pub returns-in_err-right-clause-kept : goal.returns-in_err-right-clause-kept
returns-in_err-right-clause-kept c = kept_trans c.args.b.now c.keep_or_extend.new.b c.keep_or_extend-2.new.b (kept_trans c.args.b.now c.over-2.new.b c.keep_or_extend.new.b (kept_trans c.args.b.now c.over.new.b c.over-2.new.b (kept_trans c.args.b.now c.conform.new.b c.over.new.b c.in_ok-common.ensures.kept c.in_ok-whole_left.ensures.kept) c.in_ok-whole_right.ensures.kept) c.in_ok-left.ensures.kept) c.in_err-right.ensures.kept

pub gather-requires-clause-given : goal.gather-requires-clause-given
gather-requires-clause-given c = couple_asks c.args.left_from c.args.right_from c.args.left_lengths.now c.args.right_lengths.now c.in_ok-common.common.lengths c.in_ok-common.common.keeps_left c.in_ok-common.common.keeps_right c.args.b.now c.conform.new.b c.in_ok-common.ensures.ok c.over.new.b c.in_ok-whole_left.whole_left c.in_ok-whole_left.ensures.ok c.over-2.new.b c.in_ok-whole_right.whole_right c.in_ok-whole_right.ensures.ok c.keep_or_extend.new.b c.in_ok-left.left (subst (λ (l : List Int). IsKeptOrExtended c.over-2.new.b c.keep_or_extend.new.b c.in_ok-common.common.keeps_left c.in_ok-whole_left.whole_left l c.in_ok-left.left) c.as_slice-lengths.ensures c.in_ok-left.ensures.ok) c.keep_or_extend-2.new.b c.in_ok-right.right (subst (λ (l : List Int). IsKeptOrExtended c.keep_or_extend.new.b c.keep_or_extend-2.new.b c.in_ok-common.common.keeps_right c.in_ok-whole_right.whole_right l c.in_ok-right.right) c.as_slice-lengths.ensures c.in_ok-right.ensures.ok) c.requires.given

pub gather-requires-clause-lengths : goal.gather-requires-clause-lengths
gather-requires-clause-lengths c = names_last c.args.left_from c.args.right_from c.args.left_lengths.now c.args.right_lengths.now c.in_ok-common.common.lengths c.in_ok-common.common.keeps_left c.in_ok-common.common.keeps_right c.args.b.now c.conform.new.b c.in_ok-common.ensures.ok c.over.new.b c.in_ok-whole_left.whole_left c.in_ok-whole_left.ensures.ok c.over-2.new.b c.in_ok-whole_right.whole_right c.in_ok-whole_right.ensures.ok c.keep_or_extend.new.b c.in_ok-left.left (subst (λ (l : List Int). IsKeptOrExtended c.over-2.new.b c.keep_or_extend.new.b c.in_ok-common.common.keeps_left c.in_ok-whole_left.whole_left l c.in_ok-left.left) c.as_slice-lengths.ensures c.in_ok-left.ensures.ok) c.keep_or_extend-2.new.b c.in_ok-right.right (subst (λ (l : List Int). IsKeptOrExtended c.keep_or_extend.new.b c.keep_or_extend-2.new.b c.in_ok-common.common.keeps_right c.in_ok-whole_right.whole_right l c.in_ok-right.right) c.as_slice-lengths.ensures c.in_ok-right.ensures.ok)

pub returns-clause-computes : goal.returns-clause-computes
returns-clause-computes c =
    IfOk-weaker c.gather.result _ _
    (λ v last. couple_gives c.args.left_from c.args.right_from c.args.left_lengths.now c.args.right_lengths.now c.in_ok-common.common.lengths c.in_ok-common.common.keeps_left c.in_ok-common.common.keeps_right c.args.b.now c.conform.new.b c.in_ok-common.ensures.ok c.over.new.b c.in_ok-whole_left.whole_left c.in_ok-whole_left.ensures.ok c.over-2.new.b c.in_ok-whole_right.whole_right c.in_ok-whole_right.ensures.ok c.keep_or_extend.new.b c.in_ok-left.left (subst (λ (l : List Int). IsKeptOrExtended c.over-2.new.b c.keep_or_extend.new.b c.in_ok-common.common.keeps_left c.in_ok-whole_left.whole_left l c.in_ok-left.left) c.as_slice-lengths.ensures c.in_ok-left.ensures.ok) c.keep_or_extend-2.new.b c.in_ok-right.right (subst (λ (l : List Int). IsKeptOrExtended c.keep_or_extend.new.b c.keep_or_extend-2.new.b c.in_ok-common.common.keeps_right c.in_ok-whole_right.whole_right l c.in_ok-right.right) c.as_slice-lengths.ensures c.in_ok-right.ensures.ok) c.args.f c.args.kind c.gather.new.b v c.requires.kinds c.requires.ranked c.requires.ranks c.requires.given last)
    c.gather.ensures.ok

pub returns-clause-kept : goal.returns-clause-kept
returns-clause-kept c = kept_trans c.args.b.now c.keep_or_extend-2.new.b c.gather.new.b (kept_trans c.args.b.now c.keep_or_extend.new.b c.keep_or_extend-2.new.b (kept_trans c.args.b.now c.over-2.new.b c.keep_or_extend.new.b (kept_trans c.args.b.now c.over.new.b c.over-2.new.b (kept_trans c.args.b.now c.conform.new.b c.over.new.b c.in_ok-common.ensures.kept c.in_ok-whole_left.ensures.kept) c.in_ok-whole_right.ensures.kept) c.in_ok-left.ensures.kept) c.in_ok-right.ensures.kept) c.gather.ensures.kept
