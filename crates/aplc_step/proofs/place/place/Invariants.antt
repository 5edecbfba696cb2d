use Rattle.std.proofs.Common.{◌≡◌, ◌-◌, drop, length}
use Rattle.aplc_cprof.specs.declared.syntax.CExpr.TheVariants as expr
use Rattle.aplc_step.specs.Steppers.{address_expr}
use Rattle.aplc_step.proofs.place.place.Given as goal

-- the sum so far, with the terms that are left, is the whole
abbrev pub invariant-loop-axis : goal.invariant-loop-axis
invariant-loop-axis l = address_expr l.sum (drop l.axis l.strides) (drop l.axis l.at) ≡ address_expr (expr.Var l.fn.base) l.strides l.at

abbrev pub decreases-loop-axis : goal.decreases-loop-axis
decreases-loop-axis l = length l.strides - l.axis
