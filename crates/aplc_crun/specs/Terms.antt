-- The expressions that are laid out.
use Rattle.std.specs.Prelude.{◌≡◌}
use Rattle.aplc_cprof.specs.declared.syntax.Int.TheVariants as int
use Rattle.aplc_cprof.specs.declared.syntax.CExpr.{CExpr}
use Rattle.aplc_cprof.specs.declared.syntax.CExpr.TheVariants as expr
use Rattle.aplc_crun.specs.declared.term.Operand.{Operand}
use Rattle.aplc_crun.specs.declared.term.Operand.TheVariants as operand
use Rattle.aplc_crun.specs.declared.term.Term.{Term}
use Rattle.aplc_crun.specs.declared.term.Term.TheVariants as term

abbrev pub leaf_of : Operand → CExpr
leaf_of (operand.Lit n) = expr.Lit n
leaf_of (operand.Local n) = expr.Var (int.Local n)
leaf_of (operand.Global n) = expr.Var (int.Global n)

-- the expression that was laid out
abbrev pub expr_of : Term → CExpr
expr_of (term.Leaf o) = leaf_of o
expr_of (term.Both op a b) = expr.Bin op (leaf_of a) (leaf_of b)
expr_of (term.Cell p a) = expr.Cell p (leaf_of a)
expr_of (term.Other e) = e

-- an expression is laid out as a term
pub record IsTerm (e : CExpr) (t : Term) : Type 0 where
  pub same : expr_of t ≡ e
