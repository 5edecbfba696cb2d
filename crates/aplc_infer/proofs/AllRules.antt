-- What all rules owe, function by function.
use Rattle.std.proofs.Common.{refl}
use Rattle.std.specs.Prelude.{ℤ}
use Rattle.aplc_syntax.specs.declared.tree.Primitive.{Primitive}
use Rattle.aplc_syntax.specs.declared.tree.Primitive.TheVariants as pr
use Rattle.aplc_infer.specs.Rules.{Literal, monadic_rule, dyadic_rule}
use Rattle.aplc_infer.specs.Orders.{IsRising1, IsRising, IsClearing1, IsClearing}
use Rattle.aplc_infer.specs.RulesRise.{RulesRise}
use Rattle.aplc_infer.proofs.ScalarRules.{scalar_monadic_rises, scalar_monadic_clears, scalar_dyadic_rises, scalar_dyadic_clears}
use Rattle.aplc_infer.proofs.ShapeRules.{shape_rises, shape_clears, ravel_rises, ravel_clears, iota_rises, iota_clears, reverse_rises, reverse_clears, rotate_rises, rotate_clears, transpose_rises, transpose_clears, reshape_rises, reshape_clears}
use Rattle.aplc_infer.proofs.JoinRules.{catenate_rises, catenate_clears, index_of_rises, index_of_clears, member_rises, member_clears}
use Rattle.aplc_infer.proofs.PartRules.{take_rises, take_clears, drop_rises, drop_clears, replicate_rises, replicate_clears, expand_rises, expand_clears, transpose_to_rises, transpose_to_clears}
use Rattle.aplc_infer.proofs.OperatorRules.{reduce_rises, reduce_clears, scan_rises, scan_clears, outer_rises, outer_clears, inner_rises, inner_clears}
use Rattle.aplc_infer.proofs.IndexRules.{index_rises, index_clears, change_rises, change_clears, left_rises, branch_rises}

monadic_rises : (o : ℤ) (f : Primitive) (lit : Literal) → IsRising1 (monadic_rule o f lit) (monadic_rule o f lit)
monadic_rises o (pr.Scalar g) lit = scalar_monadic_rises g
monadic_rises o pr.Shape lit = shape_rises
monadic_rises o pr.Ravel lit = ravel_rises
monadic_rises o pr.Iota lit = iota_rises lit
monadic_rises o pr.Take lit = λ a a' xs xs' p q. refl
monadic_rises o pr.Drop lit = λ a a' xs xs' p q. refl
monadic_rises o (pr.Reverse x) lit = reverse_rises o x
monadic_rises o pr.Transpose lit = transpose_rises
monadic_rises o (pr.Replicate x) lit = λ a a' xs xs' p q. refl
monadic_rises o (pr.Expand x) lit = λ a a' xs xs' p q. refl
monadic_rises o pr.Member lit = λ a a' xs xs' p q. refl
monadic_rises o (pr.Reduce g x) lit = reduce_rises o g x
monadic_rises o (pr.Scan g x) lit = scan_rises o g x
monadic_rises o (pr.Outer g) lit = λ a a' xs xs' p q. refl
monadic_rises o (pr.Inner h g) lit = λ a a' xs xs' p q. refl

monadic_clears : (o : ℤ) (f : Primitive) (lit : Literal) → IsClearing1 (monadic_rule o f lit)
monadic_clears o (pr.Scalar g) lit = scalar_monadic_clears g
monadic_clears o pr.Shape lit = shape_clears
monadic_clears o pr.Ravel lit = ravel_clears
monadic_clears o pr.Iota lit = iota_clears lit
monadic_clears o pr.Take lit = λ a xs p. refl
monadic_clears o pr.Drop lit = λ a xs p. refl
monadic_clears o (pr.Reverse x) lit = reverse_clears o x
monadic_clears o pr.Transpose lit = transpose_clears
monadic_clears o (pr.Replicate x) lit = λ a xs p. refl
monadic_clears o (pr.Expand x) lit = λ a xs p. refl
monadic_clears o pr.Member lit = λ a xs p. refl
monadic_clears o (pr.Reduce g x) lit = reduce_clears o g x
monadic_clears o (pr.Scan g x) lit = scan_clears o g x
monadic_clears o (pr.Outer g) lit = λ a xs p. refl
monadic_clears o (pr.Inner h g) lit = λ a xs p. refl

dyadic_rises : (o : ℤ) (f : Primitive) (lit : Literal) → IsRising (dyadic_rule o f lit)
dyadic_rises o (pr.Scalar g) lit = scalar_dyadic_rises g
dyadic_rises o pr.Shape lit = reshape_rises lit
dyadic_rises o pr.Ravel lit = catenate_rises
dyadic_rises o pr.Iota lit = index_of_rises
dyadic_rises o pr.Take lit = take_rises lit
dyadic_rises o pr.Drop lit = drop_rises
dyadic_rises o (pr.Reverse x) lit = rotate_rises o x
dyadic_rises o pr.Transpose lit = transpose_to_rises o lit
dyadic_rises o (pr.Replicate x) lit = replicate_rises o x
dyadic_rises o (pr.Expand x) lit = expand_rises o x
dyadic_rises o pr.Member lit = member_rises
dyadic_rises o (pr.Reduce g x) lit = λ a a' xs xs' b b' ys ys' p q r s. refl
dyadic_rises o (pr.Scan g x) lit = λ a a' xs xs' b b' ys ys' p q r s. refl
dyadic_rises o (pr.Outer g) lit = outer_rises g
dyadic_rises o (pr.Inner h g) lit = inner_rises h g

dyadic_clears : (o : ℤ) (f : Primitive) (lit : Literal) → IsClearing (dyadic_rule o f lit)
dyadic_clears o (pr.Scalar g) lit = scalar_dyadic_clears g
dyadic_clears o pr.Shape lit = reshape_clears lit
dyadic_clears o pr.Ravel lit = catenate_clears
dyadic_clears o pr.Iota lit = index_of_clears
dyadic_clears o pr.Take lit = take_clears lit
dyadic_clears o pr.Drop lit = drop_clears
dyadic_clears o (pr.Reverse x) lit = rotate_clears o x
dyadic_clears o pr.Transpose lit = transpose_to_clears o lit
dyadic_clears o (pr.Replicate x) lit = replicate_clears o x
dyadic_clears o (pr.Expand x) lit = expand_clears o x
dyadic_clears o pr.Member lit = member_clears
dyadic_clears o (pr.Reduce g x) lit = λ a xs b ys p q. refl
dyadic_clears o (pr.Scan g x) lit = λ a xs b ys p q. refl
dyadic_clears o (pr.Outer g) lit = outer_clears g
dyadic_clears o (pr.Inner h g) lit = inner_clears h g

pub rules_rise : (o : ℤ) → RulesRise o
rules_rise o = record {
  monadic = monadic_rises o;
  dyadic = dyadic_rises o;
  index = index_rises;
  change = change_rises;
  left = left_rises;
  branch = branch_rises;
  clear_monadic = monadic_clears o;
  clear_dyadic = dyadic_clears o;
  clear_index = index_clears;
  clear_change = change_clears;
}
