use Rattle.std.proofs.Common.{◌≡◌, subst, sym, ap, ◌∙◌}
use Rattle.std.proofs.lemmas.Result.{on_ok_weaker}
use Rattle.aplc_cprof.specs.Frames.{AreGiven}
use Rattle.aplc_cprof.proofs.Kept.{kept_same}
use Rattle.aplc_step.specs.declared.stepper.Origin.{Origin}
use Rattle.aplc_step.specs.declared.stepper.Origin.TheVariants as origin
use Rattle.aplc_stage.specs.declared.staged.Staged.{Staged}
use Rattle.aplc_stage.specs.declared.staged.Staged.TheVariants as staged
use Rattle.aplc_stage.specs.Staged.{IsRanked, scope_of_staged}
use Rattle.aplc_stage.specs.Computes.{Frees}
use Rattle.aplc_stage.proofs.Freed.{scalar_frees, table_frees, buffer_frees}
use Rattle.aplc_stage.proofs.freeing.free_staged.Goals as goal

pub returns-in-Scalar-clause-frees : goal.returns-in-Scalar-clause-frees
returns-in-Scalar-clause-frees c =
    let b = c.args.b.now in
    subst (λ (x : Staged). Frees (scope_of_staged x) b b x) (sym c.in-Scalar.is) (scalar_frees (scope_of_staged (staged.Scalar c.in-Scalar.field-0)) b c.in-Scalar.field-0)

pub returns-in-Scalar-clause-kept : goal.returns-in-Scalar-clause-kept
returns-in-Scalar-clause-kept c = kept_same c.args.b.now

pub returns-in-Buffer-clause-frees : goal.returns-in-Buffer-clause-frees
returns-in-Buffer-clause-frees c =
    let b = c.args.b.now in
    let lengths = c.in-Cells.field-1 in
    let is : c.args.value.now ≡ staged.Cells (origin.Buffer c.in-Buffer.p) lengths = c.in-Cells.is ∙ ap (λ (o : Origin). staged.Cells o lengths) c.in-Buffer.is in
    on_ok_weaker c.emit.result
    (λ e. subst (λ (x : Staged). Frees (scope_of_staged x) b c.emit.new.self x) (sym is)
    (buffer_frees b c.emit.new.self c.in-Buffer.p lengths (subst IsRanked is c.requires.ranked) (subst (λ (x : Staged). AreGiven (scope_of_staged x) b) is c.requires.given) e))
    c.emit.ensures.ok

pub returns-in-Table-clause-frees : goal.returns-in-Table-clause-frees
returns-in-Table-clause-frees c =
    let b = c.args.b.now in
    let lengths = c.in-Cells.field-1 in
    let is : c.args.value.now ≡ staged.Cells (origin.Table c.in-Table.field-0) lengths = c.in-Cells.is ∙ ap (λ (o : Origin). staged.Cells o lengths) c.in-Table.is in
    subst (λ (x : Staged). Frees (scope_of_staged x) b b x) (sym is) (table_frees (scope_of_staged (staged.Cells (origin.Table c.in-Table.field-0) lengths)) b c.in-Table.field-0 lengths)

pub returns-in-Table-clause-kept : goal.returns-in-Table-clause-kept
returns-in-Table-clause-kept c = kept_same c.args.b.now
