use Rattle.std.proofs.Common.{◌∙◌, ap, subst, sym, List}
use Rattle.std.specs.Prelude.{IfOk}
use Rattle.aplc_cprof.specs.declared.syntax.Int.{Int}
use Rattle.aplc_cprof.specs.Frames.{AreGiven}
use Rattle.aplc_stage.specs.declared.staged.Staged.{Staged}
use Rattle.aplc_stage.specs.declared.staged.Staged.TheVariants as staged
use Rattle.aplc_stage.specs.Staged.{rank_of, IsRanked, scope_of_staged}
use Rattle.aplc_stage.specs.Computes.{Computes, CopyOf}
use Rattle.aplc_stage.proofs.monadic.copy_staged.Goals as goal

pub copy_scalar-requires : goal.copy_scalar-requires
copy_scalar-requires c = record { given = subst (λ (x : Staged). AreGiven (scope_of_staged x) c.args.b.now) c.in-Scalar.is c.requires.given }

pub returns-in-Scalar-clause-computes : goal.returns-in-Scalar-clause-computes
returns-in-Scalar-clause-computes c =
    subst (λ (x : Staged). IfOk c.copy_scalar.result (λ v. Computes (CopyOf x) (scope_of_staged x) (rank_of x) c.args.b.now c.copy_scalar.new.b v)) (sym c.in-Scalar.is)
    c.copy_scalar.ensures.computes

pub copy_cells-requires-clause-ranked : goal.copy_cells-requires-clause-ranked
copy_cells-requires-clause-ranked c = subst IsRanked (c.in-Cells.is ∙ ap (λ (l : List Int). staged.Cells c.in-Cells.from l) (sym c.as_slice.ensures)) c.requires.ranked

pub copy_cells-requires-clause-given : goal.copy_cells-requires-clause-given
copy_cells-requires-clause-given c =
    subst (λ (x : Staged). AreGiven (scope_of_staged x) c.args.b.now) (c.in-Cells.is ∙ ap (λ (l : List Int). staged.Cells c.in-Cells.from l) (sym c.as_slice.ensures)) c.requires.given

pub returns-in-Cells-clause-computes : goal.returns-in-Cells-clause-computes
returns-in-Cells-clause-computes c =
    subst (λ (x : Staged). IfOk c.copy_cells.result (λ v. Computes (CopyOf x) (scope_of_staged x) (rank_of x) c.args.b.now c.copy_cells.new.b v))
    (sym (c.in-Cells.is ∙ ap (λ (l : List Int). staged.Cells c.in-Cells.from l) (sym c.as_slice.ensures))) c.copy_cells.ensures.computes
