-- What all rules owe together.
use Rattle.std.specs.Prelude.{◌≡◌, true, List, Option, ℤ}
use Rattle.aplc_syntax.specs.declared.tree.Primitive.{Primitive}
use Rattle.aplc_infer.specs.declared.fact.Inferred.{Inferred}
use Rattle.aplc_infer.specs.Facts.{below}
use Rattle.aplc_infer.specs.Rules.{Literal, monadic_rule, dyadic_rule, index_rule, change_rule, branch_rule, left_fact}
use Rattle.aplc_infer.specs.Orders.{IsRising1, IsRising, IsRisingList, IsRisingChange, IsClearing1, IsClearing}

-- under the index origin o
pub record RulesRise (o : ℤ) : Type 0 where
  pub monadic : (f : Primitive) (lit : Literal) → IsRising1 (monadic_rule o f lit) (monadic_rule o f lit)
  pub dyadic : (f : Primitive) (lit : Literal) → IsRising (dyadic_rule o f lit)
  pub index : IsRisingList index_rule
  pub change : IsRisingChange change_rule
  pub left : (x x' y y' : Inferred) → below x x' ≡ true → below y y' ≡ true → below (left_fact x y) (left_fact x' y') ≡ true
  pub branch : IsRising1 branch_rule branch_rule
  pub clear_monadic : (f : Primitive) (lit : Literal) → IsClearing1 (monadic_rule o f lit)
  pub clear_dyadic : (f : Primitive) (lit : Literal) → IsClearing (dyadic_rule o f lit)
  pub clear_index : (fs : List (Option Inferred)) → IsClearing1 (index_rule fs)
  pub clear_change : (fs : List (Option Inferred)) → IsClearing (change_rule fs)
