use Rattle.std.proofs.Common.{◌∙◌, ap, List}
use Rattle.aplc_cprof.specs.declared.syntax.Int.{Int}
use Rattle.aplc_cprof.specs.declared.syntax.CExpr.TheVariants as expr
use Rattle.aplc_step.specs.Steppers.{address_expr}
use Rattle.aplc_step.proofs.Accesses.{stepper_emits}
use Rattle.aplc_step.proofs.stepper.element.Goals as goal

pub returns-clause-emits : goal.returns-clause-emits
returns-clause-emits c =
    let s = c.args.s.now in
    stepper_emits s.from s.base s.strides c.args.at.now c.args.b.now c.fresh_int.new.self c.emit.new.self c.in_ok-v.v c.in_ok-place.place c.in_ok-value.value
    c.requires.given c.in_ok-v.ensures.name c.in_ok-v.ensures.given
    (c.in_ok-place.ensures ∙ ap (λ (l : List Int). address_expr (expr.Var s.base) l c.args.at.now) c.as_slice.ensures)
    c.in_ok-value.ensures c.in_ok-emit.ensures.ok
