use Rattle.std.proofs.Common.{arith}
use Rattle.std.proofs.lemmas.Result.{IfOk-weaker}
use Rattle.aplc_cprof.proofs.Kept.{kept_trans}
use Rattle.aplc_stage.proofs.Calls.{right_start, right_asks, own_given, right_gives}
use Rattle.aplc_stage.proofs.dyadic.scalar_right.Goals as goal

pub own_lengths-requires : goal.own_lengths-requires
own_lengths-requires c = record { lengths = right_start c.args.y c.args.from c.args.lengths.now c.args.b.now c.args.b.now (omega arith) c.requires.given }

pub over-requires : goal.over-requires
over-requires c = record { lengths = right_start c.args.y c.args.from c.args.lengths.now c.args.b.now c.own_lengths.new.b c.in_ok-own.ensures.ok.grown.ints c.requires.given }

pub returns-in_err-left-clause-kept : goal.returns-in_err-left-clause-kept
returns-in_err-left-clause-kept c = kept_trans c.args.b.now c.own_lengths.new.b c.over.new.b c.in_ok-own.ensures.kept c.in_err-left.ensures.kept

pub gather-requires-clause-given : goal.gather-requires-clause-given
gather-requires-clause-given c = right_asks c.args.f c.args.kind c.args.y c.args.from c.args.lengths.now c.in_ok-own.own c.in_ok-left.left c.args.b.now c.own_lengths.new.b c.over.new.b c.in_ok-own.ensures.ok c.in_ok-left.ensures.ok c.requires.given

pub gather-requires-clause-lengths : goal.gather-requires-clause-lengths
gather-requires-clause-lengths c = own_given c.args.b.now c.own_lengths.new.b c.over.new.b c.args.lengths.now c.in_ok-own.own c.in_ok-own.ensures.ok c.in_ok-left.ensures.ok.2.grown.ints

pub returns-clause-computes : goal.returns-clause-computes
returns-clause-computes c =
    IfOk-weaker c.gather.result _ _
    (λ v last. right_gives c.args.f c.args.kind c.args.y c.args.from c.args.lengths.now c.in_ok-own.own c.in_ok-left.left c.args.b.now c.own_lengths.new.b c.over.new.b c.in_ok-own.ensures.ok c.in_ok-left.ensures.ok c.gather.new.b v c.requires.kinds c.requires.ranked c.requires.given last)
    c.gather.ensures.ok

pub returns-clause-kept : goal.returns-clause-kept
returns-clause-kept c = kept_trans c.args.b.now c.over.new.b c.gather.new.b (kept_trans c.args.b.now c.own_lengths.new.b c.over.new.b c.in_ok-own.ensures.kept c.in_ok-left.ensures.kept) c.gather.ensures.kept
