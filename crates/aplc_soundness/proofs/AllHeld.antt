-- What the rules owe to evaluation, function by function.
use Rattle.std.proofs.Common.{◌≡◌, ℕ, List, Option, Ok, false, ℤ}
use Rattle.aplc_syntax.specs.declared.tree.Primitive.{Primitive}
use Rattle.aplc_syntax.specs.declared.tree.Primitive.TheVariants as pr
use Rattle.aplc_arr.specs.Arrays.{Array}
use Rattle.aplc_names.specs.Primitives.{mono_of, dyad_of}
use Rattle.aplc_infer.specs.declared.fact.FactKind.{FactKind}
use Rattle.aplc_infer.specs.declared.fact.Inferred.{Inferred}
use Rattle.aplc_infer.specs.declared.rule_break.RuleBreak.TheVariants as breaks
use Rattle.aplc_infer.specs.Facts.{is_mixed_kind}
use Rattle.aplc_infer.specs.Rules.{Literal, monadic_rule, dyadic_rule}
use Rattle.aplc_soundness.specs.Holding.{HoldsKind, HoldsLengths, IsWhole}
use Rattle.aplc_soundness.specs.RulesHold.{IsLiteral, HoldsOfPrepared, RulesHold}
use Rattle.aplc_soundness.proofs.HeldElements.{err_gives, known_of, one_known, two_known}
use Rattle.aplc_soundness.proofs.HeldScalars.{scalar_monadic_holds}
use Rattle.aplc_soundness.proofs.HeldPairs.{scalar_dyadic_holds}
use Rattle.aplc_soundness.proofs.HeldShapes.{shape_holds, ravel_holds, iota_holds, reverse_holds, rotate_holds, transpose_holds, reshape_holds}
use Rattle.aplc_soundness.proofs.HeldTransposition.{transpose_to_holds}
use Rattle.aplc_soundness.proofs.HeldParts.{take_holds, drop_holds, replicate_holds, expand_holds}
use Rattle.aplc_soundness.proofs.HeldJoins.{index_of_holds, member_holds, catenate_holds}
use Rattle.aplc_soundness.proofs.HeldFolds.{reduce_holds, scan_holds}
use Rattle.aplc_soundness.proofs.HeldProducts.{outer_holds, inner_holds}
use Rattle.aplc_soundness.proofs.HeldIndexes.{index_holds, change_holds, branch_holds}

monadic_holds : (o : ℤ) (h : Primitive) (lit : Literal) (b : Array) (y : Inferred) (a : FactKind) (xs : List (Option ℕ)) → IsLiteral lit b → is_mixed_kind a ≡ false → HoldsKind a b → HoldsLengths xs b.shape → monadic_rule o h lit a xs ≡ Ok y → HoldsOfPrepared y (mono_of o h b)
monadic_holds o (pr.Scalar g) lit b y a xs hl m hk hs e = scalar_monadic_holds g a xs b y hk hs e
monadic_holds o pr.Shape lit b y a xs hl m hk hs e = shape_holds a xs b y hs e
monadic_holds o pr.Ravel lit b y a xs hl m hk hs e = ravel_holds a xs b y m hk hs e
monadic_holds o pr.Iota lit b y a xs hl m hk hs e = iota_holds o lit a xs b y hs hl e
monadic_holds o pr.Take lit b y a xs hl m hk hs e = absurd (err_gives breaks.Kind y e)
monadic_holds o pr.Drop lit b y a xs hl m hk hs e = absurd (err_gives breaks.Kind y e)
monadic_holds o (pr.Reverse x) lit b y a xs hl m hk hs e = reverse_holds o x a xs b y m hk hs e
monadic_holds o pr.Transpose lit b y a xs hl m hk hs e = transpose_holds a xs b y m hk hs e
monadic_holds o (pr.Replicate x) lit b y a xs hl m hk hs e = absurd (err_gives breaks.Kind y e)
monadic_holds o (pr.Expand x) lit b y a xs hl m hk hs e = absurd (err_gives breaks.Kind y e)
monadic_holds o pr.Member lit b y a xs hl m hk hs e = absurd (err_gives breaks.Kind y e)
monadic_holds o (pr.Reduce g x) lit b y a xs hl m hk hs e = reduce_holds o g x a xs b y hk hs e
monadic_holds o (pr.Scan g x) lit b y a xs hl m hk hs e = scan_holds o g x a xs b y hk hs e
monadic_holds o (pr.Outer g) lit b y a xs hl m hk hs e = absurd (err_gives breaks.Kind y e)
monadic_holds o (pr.Inner f g) lit b y a xs hl m hk hs e = absurd (err_gives breaks.Kind y e)

-- with what is known of the left argument and of the right one
dyadic_holds : (o : ℤ) (h : Primitive) (lit : Literal) (v w : Array) (y : Inferred) (a : FactKind) (xs : List (Option ℕ)) (b : FactKind) (ys : List (Option ℕ)) → IsLiteral lit v → HoldsKind a v → HoldsLengths xs v.shape → IsWhole v → is_mixed_kind b ≡ false → HoldsKind b w → HoldsLengths ys w.shape → dyadic_rule o h lit a xs b ys ≡ Ok y → HoldsOfPrepared y (dyad_of o h v w)
dyadic_holds o (pr.Scalar g) lit v w y a xs b ys hl hv sv wv m hw sw e = scalar_dyadic_holds g a b xs ys v w y hv sv hw sw e
dyadic_holds o pr.Shape lit v w y a xs b ys hl hv sv wv m hw sw e = reshape_holds lit a b xs ys v w y m sv wv hw hl e
dyadic_holds o pr.Ravel lit v w y a xs b ys hl hv sv wv m hw sw e = catenate_holds a b xs ys v w y hv sv hw sw e
dyadic_holds o pr.Iota lit v w y a xs b ys hl hv sv wv m hw sw e = index_of_holds o a b xs ys v w y sv sw e
dyadic_holds o pr.Take lit v w y a xs b ys hl hv sv wv m hw sw e = take_holds lit a b xs ys v w y m sv hw sw hl e
dyadic_holds o pr.Drop lit v w y a xs b ys hl hv sv wv m hw sw e = drop_holds a b xs ys v w y m sv hw sw e
dyadic_holds o (pr.Reverse x) lit v w y a xs b ys hl hv sv wv m hw sw e = rotate_holds o x a b xs ys v w y m sv hw sw e
dyadic_holds o pr.Transpose lit v w y a xs b ys hl hv sv wv m hw sw e = transpose_to_holds o lit a b xs ys v w y m hw sw hl e
dyadic_holds o (pr.Replicate x) lit v w y a xs b ys hl hv sv wv m hw sw e = replicate_holds o x a b xs ys v w y m sv hw sw e
dyadic_holds o (pr.Expand x) lit v w y a xs b ys hl hv sv wv m hw sw e = expand_holds o x a b xs ys v w y m sv wv hw sw e
dyadic_holds o pr.Member lit v w y a xs b ys hl hv sv wv m hw sw e = member_holds a b xs ys v w y sv e
dyadic_holds o (pr.Reduce g x) lit v w y a xs b ys hl hv sv wv m hw sw e = absurd (err_gives breaks.Kind y e)
dyadic_holds o (pr.Scan g x) lit v w y a xs b ys hl hv sv wv m hw sw e = absurd (err_gives breaks.Kind y e)
dyadic_holds o (pr.Outer g) lit v w y a xs b ys hl hv sv wv m hw sw e = outer_holds g a b xs ys v w y hv sv hw sw e
dyadic_holds o (pr.Inner f g) lit v w y a xs b ys hl hv sv wv m hw sw e = inner_holds f g a b xs ys v w y hv sv hw sw e

pub rules_hold : (o : ℤ) → RulesHold o
rules_hold o = record {
  monadic = λ h lit b x y hx mx hl e.
      let p = known_of x b hx mx in
      monadic_holds o h lit b y p.kind p.lengths hl p.clear p.of_kind p.of_shape (one_known (monadic_rule o h lit) x y b p e);
  dyadic = λ h lit a b x y z hx hy mx my hl e.
      let p = known_of x a hx mx in
      let q = known_of y b hy my in
      dyadic_holds o h lit a b z p.kind p.lengths q.kind q.lengths hl p.of_kind p.of_shape p.whole q.clear q.of_kind q.of_shape (two_known (dyadic_rule o h lit) x y z a b p q e);
  index = λ a vs x z ys hx hy mx my e. index_holds o ys x z a vs hx mx hy my e;
  change = λ a v vs x y z ys hx hy hv mx my mv e. change_holds o ys x y z a v vs hx hy hv mx my mv e;
  branch = λ v x y hx mx e. branch_holds x y v hx mx e;
}
