use Rattle.std.proofs.Common.{◌∙◌, ◌+◌, refl, sym, ap, ap₂, List, length}
use Rattle.aplc_cprof.specs.declared.syntax.Int.{Int}
use Rattle.aplc_stage.specs.Pieces.{locals, extend_stmt}
use Rattle.aplc_stage.proofs.Setting.{locals_many}
use Rattle.aplc_stage.proofs.Strides.{keeps_built}
use Rattle.aplc_stage.proofs.extending.keep_or_extend.Goals as goal

pub extend_statement-requires : goal.extend_statement-requires
extend_statement-requires c =
    ap length (c.as_slice-2.ensures.value ∙ c.in_ok-names.ensures.names) ∙ locals_many c.args.b.now.ints c.as_slice.result.now
    ∙ ap length (c.as_slice.ensures ∙ sym c.as_slice-3.ensures)

pub returns-clause-ok : goal.returns-clause-ok
returns-clause-ok c =
    let s = c.args.s.now in (
      refl,
      c.from_vec.ensures ∙ c.in_ok-lengths.ensures.items,
      refl,
      keeps_built c.args.b.now c.fresh_ints.new.b c.emit.new.self c.args.keeps s.base s.lengths s.strides c.args.lengths.now c.from_vec-2.result c.in_ok-statement.statement
          c.requires.base c.requires.strides c.requires.lengths
          (c.from_vec-2.ensures ∙ c.in_ok-names.ensures.names ∙ ap (λ (l : List Int). locals c.args.b.now.ints l) c.as_slice.ensures)
          (c.in_ok-names.ensures.given ∙ ap (λ (l : List Int). record c.args.b.now { ints = c.args.b.now.ints + length l }) c.as_slice.ensures)
          (c.in_ok-statement.ensures ∙ ap₂ (extend_stmt c.args.keeps) (c.as_slice-2.ensures.value ∙ sym c.from_vec-2.ensures) c.as_slice-3.ensures)
          c.in_ok-emit.ensures.ok,
    )
