-- What the rules of reduction, scan, outer and inner product owe.
use Rattle.std.proofs.Common.{◌≡◌, ◌∙◌, ap, refl, ℕ, ◌+◌, ◌++◌, length, true, false, ◌&&◌, not}
use Rattle.std.specs.Prelude.{ℤ, nat_le, remove}
use Rattle.aplc_scalar.specs.declared.function.ScalarFn.{ScalarFn}
use Rattle.aplc_scalar.specs.declared.function.ScalarFn.TheVariants as f
use Rattle.aplc_scalar.specs.Scalar.{is_dyadic}
use Rattle.aplc_syntax.specs.declared.tree.Axis.{Axis}
use Rattle.aplc_arr.specs.Arrays.{rank_limit}
use Rattle.aplc_names.specs.Primitives.{axis_in}
use Rattle.aplc_infer.specs.declared.fact.FactKind.{FactKind}
use Rattle.aplc_infer.specs.declared.fact.FactKind.TheVariants as k
use Rattle.aplc_infer.specs.declared.rule_break.RuleBreak.TheVariants as breaks
use Rattle.aplc_infer.specs.Facts.{is_mixed_kind}
use Rattle.aplc_infer.specs.Rules.{Ruled, known, wants, wants_axis, is_numeric, scalar_kind, takes_kinds, reduced_kind, scanned_kind, reduce_rule, scan_rule, outer_rule, inner_lengths, inner_rule}
use Rattle.aplc_infer.specs.Orders.{plain_below, IsRising1, IsRising, IsClearing1, IsClearing}
use Rattle.aplc_infer.proofs.Order.{lengths_same}
use Rattle.aplc_infer.proofs.Trials.{all_rising, rising_by_trial, all_pairs, pairs_by_trial, all_plain, plain_by_trial, plain_kind, not_true, same, same_is}
use Rattle.aplc_infer.proofs.Rises.{known_rises, wants_same, axis_rises, known_clear, wants_clear, axis_clear, numeric_same}
use Rattle.aplc_infer.proofs.AxisTools.{append_rises, remove_rises, inner_lengths_rise}

-- ---- Kinds, by trial of each function

reduced_trial : (g : ScalarFn) → all_rising (λ a b. plain_below (reduced_kind g a) (reduced_kind g b)) ≡ true
reduced_trial f.Add = refl
reduced_trial g = refl

reduced_kind_rises : (g : ScalarFn) (a b : FactKind) → plain_below a b ≡ true → plain_below (reduced_kind g a) (reduced_kind g b) ≡ true
reduced_kind_rises g a b h = rising_by_trial (λ a b. plain_below (reduced_kind g a) (reduced_kind g b)) (reduced_trial g) a b h

scanned_trial : (g : ScalarFn) → all_rising (λ a b. plain_below (scanned_kind g a) (scanned_kind g b)) ≡ true
scanned_trial f.Add = refl
scanned_trial g = refl

scanned_kind_rises : (g : ScalarFn) (a b : FactKind) → plain_below a b ≡ true → plain_below (scanned_kind g a) (scanned_kind g b) ≡ true
scanned_kind_rises g a b h = rising_by_trial (λ a b. plain_below (scanned_kind g a) (scanned_kind g b)) (scanned_trial g) a b h

scalar_trial : (g : ScalarFn) → all_pairs (λ a a' b b'. plain_below (scalar_kind g a b) (scalar_kind g a' b')) ≡ true
scalar_trial f.Add = refl
scalar_trial g = refl

scalar_kind_rises : (g : ScalarFn) (a a' b b' : FactKind) → plain_below a a' ≡ true → plain_below b b' ≡ true → plain_below (scalar_kind g a b) (scalar_kind g a' b') ≡ true
scalar_kind_rises g a a' b b' p r = pairs_by_trial (λ a a' b b'. plain_below (scalar_kind g a b) (scalar_kind g a' b')) (scalar_trial g) a a' b b' p r

takes_trial : (g : ScalarFn) → all_pairs (λ a a' b b'. same (takes_kinds g a b) (takes_kinds g a' b')) ≡ true
takes_trial f.Add = refl
takes_trial g = refl

takes_kinds_same : (g : ScalarFn) (a a' b b' : FactKind) → plain_below a a' ≡ true → plain_below b b' ≡ true → takes_kinds g a b ≡ takes_kinds g a' b'
takes_kinds_same g a a' b b' p r = same_is (takes_kinds g a b) (takes_kinds g a' b') (pairs_by_trial (λ a a' b b'. same (takes_kinds g a b) (takes_kinds g a' b')) (takes_trial g) a a' b b' p r)

-- none of them is mixed
reduced_kind_plain : (g : ScalarFn) (a : FactKind) → is_mixed_kind (reduced_kind g a) ≡ false
reduced_kind_plain f.Add a = refl
reduced_kind_plain f.Sub a = refl
reduced_kind_plain f.Max a = refl
reduced_kind_plain f.Min a = refl
reduced_kind_plain g k.Bit = refl
reduced_kind_plain g a = refl

scanned_kind_plain : (g : ScalarFn) (a : FactKind) → is_mixed_kind (scanned_kind g a) ≡ false
scanned_kind_plain f.Add a = refl
scanned_kind_plain f.Sub a = refl
scanned_kind_plain g k.Bit = refl
scanned_kind_plain g a = refl

scalar_plain_trial : (g : ScalarFn) → all_plain (λ a b. not (is_mixed_kind (scalar_kind g a b))) ≡ true
scalar_plain_trial f.Add = refl
scalar_plain_trial g = refl

scalar_kind_plain : (g : ScalarFn) (a b : FactKind) → is_mixed_kind a ≡ false → is_mixed_kind b ≡ false → is_mixed_kind (scalar_kind g a b) ≡ false
scalar_kind_plain g a b m n = not_true (is_mixed_kind (scalar_kind g a b)) (plain_by_trial (λ a b. not (is_mixed_kind (scalar_kind g a b))) (scalar_plain_trial g) a b m n)

-- ---- Reduction and scan

pub reduce_rises : (o : ℤ) (g : ScalarFn) (x : Axis) → IsRising1 (reduce_rule o g x) (reduce_rule o g x)
reduce_rises o g x a a' xs xs' p q =
    let next : ℕ → Ruled = λ i. known (reduced_kind g a) (remove xs i) in
    let next' : ℕ → Ruled = λ i. known (reduced_kind g a') (remove xs' i) in
    let axis = axis_in o x (length xs) in
    let axis' = axis_in o x (length xs') in
    wants_same (is_numeric a && is_dyadic g) (is_numeric a' && is_dyadic g) breaks.Kind (wants_axis axis next) (wants_axis axis' next') (ap (λ t. t && is_dyadic g) (numeric_same a a' p))
    (λ n. axis_rises axis axis' next next' (ap (axis_in o x) (lengths_same xs xs' q))
    (λ i. known_rises (reduced_kind g a) (reduced_kind g a') (remove xs i) (remove xs' i) (plain_kind (reduced_kind g a) (reduced_kind g a') (reduced_kind_rises g a a' p)) (remove_rises i xs xs' q)))

pub reduce_clears : (o : ℤ) (g : ScalarFn) (x : Axis) → IsClearing1 (reduce_rule o g x)
reduce_clears o g x a xs m =
    let next : ℕ → Ruled = λ i. known (reduced_kind g a) (remove xs i) in
    let axis = axis_in o x (length xs) in
    wants_clear (is_numeric a && is_dyadic g) breaks.Kind (wants_axis axis next) (axis_clear axis next (λ i. known_clear (reduced_kind g a) (remove xs i) (reduced_kind_plain g a)))

pub scan_rises : (o : ℤ) (g : ScalarFn) (x : Axis) → IsRising1 (scan_rule o g x) (scan_rule o g x)
scan_rises o g x a a' xs xs' p q =
    let next : ℕ → Ruled = λ i. known (scanned_kind g a) xs in
    let next' : ℕ → Ruled = λ i. known (scanned_kind g a') xs' in
    let axis = axis_in o x (length xs) in
    let axis' = axis_in o x (length xs') in
    wants_same (is_numeric a && is_dyadic g) (is_numeric a' && is_dyadic g) breaks.Kind (wants_axis axis next) (wants_axis axis' next') (ap (λ t. t && is_dyadic g) (numeric_same a a' p))
    (λ n. axis_rises axis axis' next next' (ap (axis_in o x) (lengths_same xs xs' q))
    (λ i. known_rises (scanned_kind g a) (scanned_kind g a') xs xs' (plain_kind (scanned_kind g a) (scanned_kind g a') (scanned_kind_rises g a a' p)) q))

pub scan_clears : (o : ℤ) (g : ScalarFn) (x : Axis) → IsClearing1 (scan_rule o g x)
scan_clears o g x a xs m =
    let next : ℕ → Ruled = λ i. known (scanned_kind g a) xs in
    let axis = axis_in o x (length xs) in
    wants_clear (is_numeric a && is_dyadic g) breaks.Kind (wants_axis axis next) (axis_clear axis next (λ i. known_clear (scanned_kind g a) xs (scanned_kind_plain g a)))

-- ---- Outer and inner product

pub outer_rises : (g : ScalarFn) → IsRising (outer_rule g)
outer_rises g a a' xs xs' b b' ys ys' p q r s =
    let few = nat_le (length xs + length ys) rank_limit in
    let few' = nat_le (length xs' + length ys') rank_limit in
    let c = scalar_kind g a b in
    let c' = scalar_kind g a' b' in
    let ranks : few ≡ few' = ap (λ n. nat_le (n + length ys) rank_limit) (lengths_same xs xs' q) ∙ ap (λ n. nat_le (length xs' + n) rank_limit) (lengths_same ys ys' s) in
    wants_same (takes_kinds g a b) (takes_kinds g a' b') breaks.Kind (wants few breaks.Rank (known c (xs ++ ys))) (wants few' breaks.Rank (known c' (xs' ++ ys'))) (takes_kinds_same g a a' b b' p r)
    (λ n. wants_same few few' breaks.Rank (known c (xs ++ ys)) (known c' (xs' ++ ys')) ranks
    (λ m. known_rises c c' (xs ++ ys) (xs' ++ ys') (plain_kind c c' (scalar_kind_rises g a a' b b' p r)) (append_rises xs xs' ys ys' q s)))

pub outer_clears : (g : ScalarFn) → IsClearing (outer_rule g)
outer_clears g a xs b ys m n =
    let few = nat_le (length xs + length ys) rank_limit in
    let whole = known (scalar_kind g a b) (xs ++ ys) in
    wants_clear (takes_kinds g a b) breaks.Kind (wants few breaks.Rank whole) (wants_clear few breaks.Rank whole (known_clear (scalar_kind g a b) (xs ++ ys) (scalar_kind_plain g a b m n)))

pub inner_rises : (h g : ScalarFn) → IsRising (inner_rule h g)
inner_rises h g a a' xs xs' b b' ys ys' p q r s =
    let us = inner_lengths xs ys in
    let us' = inner_lengths xs' ys' in
    let below = inner_lengths_rise xs xs' ys ys' q s in
    let few = nat_le (length us) rank_limit in
    let few' = nat_le (length us') rank_limit in
    let c = reduced_kind h (scalar_kind g a b) in
    let c' = reduced_kind h (scalar_kind g a' b') in
    let kinds : plain_below c c' ≡ true = reduced_kind_rises h (scalar_kind g a b) (scalar_kind g a' b') (scalar_kind_rises g a a' b b' p r) in
    let taken = is_numeric a && is_numeric b && is_dyadic h && is_dyadic g in
    let taken' = is_numeric a' && is_numeric b' && is_dyadic h && is_dyadic g in
    let numbers : taken ≡ taken' = ap (λ t. t && is_numeric b && is_dyadic h && is_dyadic g) (numeric_same a a' p) ∙ ap (λ t. is_numeric a' && t && is_dyadic h && is_dyadic g) (numeric_same b b' r) in
    wants_same taken taken' breaks.Kind (wants few breaks.Rank (known c us)) (wants few' breaks.Rank (known c' us')) numbers
    (λ n. wants_same few few' breaks.Rank (known c us) (known c' us') (ap (λ n. nat_le n rank_limit) (lengths_same us us' below))
    (λ m. known_rises c c' us us' (plain_kind c c' kinds) below))

pub inner_clears : (h g : ScalarFn) → IsClearing (inner_rule h g)
inner_clears h g a xs b ys m n =
    let us = inner_lengths xs ys in
    let c = reduced_kind h (scalar_kind g a b) in
    let few = nat_le (length us) rank_limit in
    wants_clear (is_numeric a && is_numeric b && is_dyadic h && is_dyadic g) breaks.Kind (wants few breaks.Rank (known c us)) (wants_clear few breaks.Rank (known c us) (known_clear c us (reduced_kind_plain h (scalar_kind g a b))))
