-- The rules of the scalar functions rise with their arguments, and give nothing mixed.
use Rattle.std.proofs.Common.{◌≡◌, ◌∙◌, sym, ap, refl, subst, ℕ, suc, List, [], ◌∷◌, length, Option, Bool, true, false, ◌&&◌, not, arith}
use Rattle.std.proofs.lemmas.Bool.Decides.{nat_tests}
use Rattle.aplc_scalar.specs.declared.function.ScalarFn.{ScalarFn}
use Rattle.aplc_scalar.specs.declared.function.ScalarFn.TheVariants as f
use Rattle.aplc_scalar.specs.Scalar.{is_monadic}
use Rattle.aplc_arr.specs.Each.{ranks_suit}
use Rattle.aplc_infer.specs.declared.fact.FactKind.{FactKind}
use Rattle.aplc_infer.specs.declared.fact.FactKind.TheVariants.{Bit, Num}
use Rattle.aplc_infer.specs.declared.rule_break.RuleBreak.TheVariants as breaks
use Rattle.aplc_infer.specs.Facts.{kind_below, lengths_below, is_mixed_kind}
use Rattle.aplc_infer.specs.Rules.{Ruled, known, wants, is_numeric, scalar_monadic_rule, all_known, all_one, all_same, met_of, met_lengths, scalar_lengths, scalar_kind, takes_kinds, scalar_dyadic_rule}
use Rattle.aplc_infer.specs.Orders.{plain_below, IsRising1, IsRising, IsClearing1, IsClearing}
use Rattle.aplc_infer.proofs.Trials.{left_true, right_true, not_true, implies, use_implies, all_pairs, pairs_by_trial, all_plain, plain_by_trial, plain_kind}
use Rattle.aplc_infer.proofs.Order.{lengths_refl, lengths_same}
use Rattle.aplc_infer.proofs.Rises.{known_rises, wants_rises, wants_same, known_clear, wants_clear, numeric_same, all_known_same, unknown_length}
use Rattle.aplc_infer.proofs.RuleTools.{numbers_rise, ranks_rise, unknown_above}

-- ---- One argument

pub scalar_monadic_rises : (g : ScalarFn) → IsRising1 (scalar_monadic_rule g) (scalar_monadic_rule g)
scalar_monadic_rises f.Sub a b xs ys p h = numbers_rise a b (known Num xs) (known Num ys) p (known_rises Num Num xs ys refl h)
scalar_monadic_rises f.Not a b xs ys p h = numbers_rise a b (known Bit xs) (known Bit ys) p (known_rises Bit Bit xs ys refl h)
scalar_monadic_rises g a b xs ys p h =
    wants_same (is_numeric a && is_monadic g) (is_numeric b && is_monadic g) breaks.Kind (known a xs) (known b ys) (ap (λ t. t && is_monadic g) (numeric_same a b p))
    (λ c. known_rises a b xs ys (plain_kind a b p) h)

pub scalar_monadic_clears : (g : ScalarFn) → IsClearing1 (scalar_monadic_rule g)
scalar_monadic_clears f.Sub a xs p = wants_clear (is_numeric a) breaks.Kind (known Num xs) refl
scalar_monadic_clears f.Not a xs p = wants_clear (is_numeric a) breaks.Kind (known Bit xs) refl
scalar_monadic_clears g a xs p = wants_clear (is_numeric a && is_monadic g) breaks.Kind (known a xs) (known_clear a xs p)

-- ---- Kinds of two arguments

takes_trial : (g : ScalarFn) → all_pairs (λ a a' b b'. implies (takes_kinds g a' b') (takes_kinds g a b)) ≡ true
takes_trial f.Equal = refl
takes_trial g = refl

-- what a function takes it takes of all that lies below
pub takes_below : (g : ScalarFn) (a a' b b' : FactKind) → plain_below a a' ≡ true → plain_below b b' ≡ true → takes_kinds g a' b' ≡ true → takes_kinds g a b ≡ true
takes_below g a a' b b' p q h =
    use_implies (takes_kinds g a' b') (takes_kinds g a b) (pairs_by_trial (λ a a' b b'. implies (takes_kinds g a' b') (takes_kinds g a b)) (takes_trial g) a a' b b' p q) h

kind_trial : (g : ScalarFn) → all_pairs (λ a a' b b'. kind_below (scalar_kind g a b) (scalar_kind g a' b')) ≡ true
kind_trial f.Add = refl
kind_trial g = refl

pub scalar_kind_rises : (g : ScalarFn) (a a' b b' : FactKind) → plain_below a a' ≡ true → plain_below b b' ≡ true → kind_below (scalar_kind g a b) (scalar_kind g a' b') ≡ true
scalar_kind_rises g a a' b b' p q = pairs_by_trial (λ a a' b b'. kind_below (scalar_kind g a b) (scalar_kind g a' b')) (kind_trial g) a a' b b' p q

plain_trial : (g : ScalarFn) → all_plain (λ a b. not (is_mixed_kind (scalar_kind g a b))) ≡ true
plain_trial f.Add = refl
plain_trial g = refl

pub scalar_kind_plain : (g : ScalarFn) (a b : FactKind) → is_mixed_kind a ≡ false → is_mixed_kind b ≡ false → is_mixed_kind (scalar_kind g a b) ≡ false
scalar_kind_plain g a b p q = not_true (is_mixed_kind (scalar_kind g a b)) (plain_by_trial (λ a b. not (is_mixed_kind (scalar_kind g a b))) (plain_trial g) a b p q)

-- ---- Lengths of two arguments

met_of_length : (c s l r : Bool) (xs ys : List (Option ℕ)) → length xs ≡ length ys → length (met_of c s l r xs ys) ≡ length xs
met_of_length false s l r xs ys h = unknown_length (length xs)
met_of_length true true l r xs ys h = refl
met_of_length true false true r xs ys h = sym h
met_of_length true false false true xs ys h = refl
met_of_length true false false false xs ys h = unknown_length (length xs)

-- Where all lengths above are known, those below are the same. Where one is not, the rank alone counts above.
met_if : (c : Bool) (xs xs' ys ys' : List (Option ℕ)) → (all_known xs' && all_known ys') ≡ c → lengths_below xs xs' ≡ true → lengths_below ys ys' ≡ true → length xs ≡ length ys → lengths_below (met_lengths xs ys) (met_of c (all_same xs' ys') (all_one xs') (all_one ys') xs' ys') ≡ true
met_if false xs xs' ys ys' e p q h =
    unknown_above (met_lengths xs ys) (length xs') (met_of_length (all_known xs && all_known ys) (all_same xs ys) (all_one xs) (all_one ys) xs ys h ∙ lengths_same xs xs' p)
met_if true xs xs' ys ys' e p q h =
    let left : xs ≡ xs' = all_known_same xs xs' p (left_true (all_known xs') (all_known ys') e) in
    let right : ys ≡ ys' = all_known_same ys ys' q (right_true (all_known xs') (all_known ys') e) in
    let both : met_lengths xs ys ≡ met_lengths xs' ys' = ap (λ zs. met_lengths zs ys) left ∙ ap (λ zs. met_lengths xs' zs) right in
    let known_case : met_lengths xs' ys' ≡ met_of true (all_same xs' ys') (all_one xs') (all_one ys') xs' ys' = ap (λ c. met_of c (all_same xs' ys') (all_one xs') (all_one ys') xs' ys') e in
    subst (λ zs. lengths_below (met_lengths xs ys) zs ≡ true) (both ∙ known_case) (lengths_refl (met_lengths xs ys))

met_rises : (xs xs' ys ys' : List (Option ℕ)) → lengths_below xs xs' ≡ true → lengths_below ys ys' ≡ true → length xs ≡ length ys → lengths_below (met_lengths xs ys) (met_lengths xs' ys') ≡ true
met_rises xs xs' ys ys' p q h = met_if (all_known xs' && all_known ys') xs xs' ys ys' refl p q h

-- ranks above 0 that suit are equal
suited : (m n : ℕ) → ranks_suit (suc m) (suc n) ≡ true → suc m ≡ suc n
suited m n h = grind (arith, nat_tests)

scalar_lengths_rise : (xs xs' ys ys' : List (Option ℕ)) → lengths_below xs xs' ≡ true → lengths_below ys ys' ≡ true → ranks_suit (length xs) (length ys) ≡ true → lengths_below (scalar_lengths xs ys) (scalar_lengths xs' ys') ≡ true
scalar_lengths_rise [] [] ys ys' p q h = q
scalar_lengths_rise [] (x' ∷ xs') ys ys' p q h = cc
scalar_lengths_rise (x ∷ xs) [] ys ys' p q h = cc
scalar_lengths_rise (x ∷ xs) (x' ∷ xs') [] [] p q h = p
scalar_lengths_rise (x ∷ xs) (x' ∷ xs') [] (y' ∷ ys') p q h = cc
scalar_lengths_rise (x ∷ xs) (x' ∷ xs') (y ∷ ys) [] p q h = cc
scalar_lengths_rise (x ∷ xs) (x' ∷ xs') (y ∷ ys) (y' ∷ ys') p q h = met_rises (x ∷ xs) (x' ∷ xs') (y ∷ ys) (y' ∷ ys') p q (suited (length xs) (length ys) h)

-- ---- Two arguments

pub scalar_dyadic_rises : (g : ScalarFn) → IsRising (scalar_dyadic_rule g)
scalar_dyadic_rises g a a' xs xs' b b' ys ys' p h q k =
    let r : Ruled = known (scalar_kind g a b) (scalar_lengths xs ys) in
    let s : Ruled = known (scalar_kind g a' b') (scalar_lengths xs' ys') in
    wants_rises (takes_kinds g a b) (takes_kinds g a' b') breaks.Kind (wants (ranks_suit (length xs) (length ys)) breaks.Rank r) (wants (ranks_suit (length xs') (length ys')) breaks.Rank s) (takes_below g a a' b b' p q)
    (λ c. ranks_rise ranks_suit xs xs' ys ys' r s h k
    (λ t. known_rises (scalar_kind g a b) (scalar_kind g a' b') (scalar_lengths xs ys) (scalar_lengths xs' ys') (scalar_kind_rises g a a' b b' p q) (scalar_lengths_rise xs xs' ys ys' h k t)))

pub scalar_dyadic_clears : (g : ScalarFn) → IsClearing (scalar_dyadic_rule g)
scalar_dyadic_clears g a xs b ys p q =
    let r : Ruled = known (scalar_kind g a b) (scalar_lengths xs ys) in
    wants_clear (takes_kinds g a b) breaks.Kind (wants (ranks_suit (length xs) (length ys)) breaks.Rank r)
    (wants_clear (ranks_suit (length xs) (length ys)) breaks.Rank r
    (known_clear (scalar_kind g a b) (scalar_lengths xs ys) (scalar_kind_plain g a b p q)))
