use Rattle.std.proofs.lemmas.Result.{IfOk-weaker}
use Rattle.aplc_cprof.proofs.Kept.{kept_trans}
use Rattle.aplc_cprof.proofs.Frames.{are_old_more}
use Rattle.aplc_stage.specs.declared.staged.Staged.TheVariants as staged
use Rattle.aplc_stage.proofs.Elements.{given_names}
use Rattle.aplc_stage.proofs.Ones.{one_asks, own_then}
use Rattle.aplc_stage.proofs.Copies.{copy_cells}
use Rattle.aplc_stage.proofs.monadic.copy_cells.Goals as goal

pub own_lengths-requires : goal.own_lengths-requires
own_lengths-requires c = record { lengths = (given_names (staged.Cells c.args.from c.args.lengths.now) c.args.b.now c.requires.given).1 }

pub over-requires : goal.over-requires
over-requires c =
    record { lengths = are_old_more c.args.b.now.ints c.own_lengths.new.b.ints c.args.lengths.now c.in_ok-own.ensures.ok.grown.ints (given_names (staged.Cells c.args.from c.args.lengths.now) c.args.b.now c.requires.given).1 }

pub returns-in_err-code-clause-kept : goal.returns-in_err-code-clause-kept
returns-in_err-code-clause-kept c = kept_trans c.args.b.now c.own_lengths.new.b c.over.new.b c.in_ok-own.ensures.kept c.in_err-code.ensures.kept

pub gather-requires-clause-given : goal.gather-requires-clause-given
gather-requires-clause-given c =
    let over = c.in_ok-code.ensures.ok in
    one_asks c.args.from c.args.lengths.now c.in_ok-own.own c.in_ok-code.code c.args.b.now c.own_lengths.new.b c.over.new.b c.requires.given c.in_ok-own.ensures.ok over.0 over.2

pub gather-requires-clause-lengths : goal.gather-requires-clause-lengths
gather-requires-clause-lengths c =
    let a = c.in_ok-code.code in
    own_then c.args.from c.args.lengths.now c.in_ok-own.own a.strides a.base c.args.b.now c.own_lengths.new.b c.over.new.b c.requires.given c.in_ok-own.ensures.ok c.in_ok-code.ensures.ok.2

pub returns-clause-computes : goal.returns-clause-computes
returns-clause-computes c =
    let over = c.in_ok-code.ensures.ok in
    IfOk-weaker c.gather.result _ _
    (λ v last. copy_cells c.args.from c.args.lengths.now c.in_ok-own.own c.in_ok-code.code c.args.b.now c.own_lengths.new.b c.over.new.b c.gather.new.b v
    c.requires.ranked c.requires.given c.in_ok-own.ensures.ok over.0 over.2 last)
    c.gather.ensures.ok

pub returns-clause-kept : goal.returns-clause-kept
returns-clause-kept c = kept_trans c.args.b.now c.over.new.b c.gather.new.b (kept_trans c.args.b.now c.own_lengths.new.b c.over.new.b c.in_ok-own.ensures.kept c.in_ok-code.ensures.kept) c.gather.ensures.kept
