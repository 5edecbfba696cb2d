-- The rules of catenation, index-of and membership rise with their arguments, and give nothing mixed.
use Rattle.std.proofs.Common.{◌≡◌, ◌∙◌, ap, refl, subst, ℕ, List, [], ◌∷◌, length, Option, Some, None, true, false, not}
use Rattle.std.specs.Prelude.{nat_eq}
use Rattle.aplc_arr.specs.Each.{ranks_suit}
use Rattle.aplc_infer.specs.declared.fact.FactKind.{FactKind}
use Rattle.aplc_infer.specs.declared.fact.FactKind.TheVariants.{Bit, Num}
use Rattle.aplc_infer.specs.declared.rule_break.RuleBreak.TheVariants as breaks
use Rattle.aplc_infer.specs.Facts.{kind_below, length_below, lengths_below, length_join, is_mixed_kind}
use Rattle.aplc_infer.specs.Rules.{Ruled, known, wants, unknown, sum_length, beside_scalar, beside, catenate_lengths, kinds_join, joined_kind, catenate_rule, index_of_rule, member_rule}
use Rattle.aplc_infer.specs.Orders.{plain_below, IsRising, IsClearing}
use Rattle.aplc_infer.proofs.Trials.{not_true, equal_of, implies, use_implies, pairs_by_trial, plain_by_trial}
use Rattle.aplc_infer.proofs.Order.{length_refl, lengths_same}
use Rattle.aplc_infer.proofs.Rises.{known_rises, wants_rises, known_clear, wants_clear, unknown_length}
use Rattle.aplc_infer.proofs.RuleTools.{rank_rises, ranks_rise, cons_rises, head_rises, tail_rises, one_rises, unknown_above, never_below}

-- ---- Kinds

-- kinds that go together do so where they are lower
kinds_below : (a a' b b' : FactKind) → plain_below a a' ≡ true → plain_below b b' ≡ true → kinds_join a' b' ≡ true → kinds_join a b ≡ true
kinds_below a a' b b' p q h =
    use_implies (kinds_join a' b') (kinds_join a b) (pairs_by_trial (λ a a' b b'. implies (kinds_join a' b') (kinds_join a b)) refl a a' b b' p q) h

joined_kind_rises : (a a' b b' : FactKind) → plain_below a a' ≡ true → plain_below b b' ≡ true → kind_below (joined_kind a b) (joined_kind a' b') ≡ true
joined_kind_rises a a' b b' p q = pairs_by_trial (λ a a' b b'. kind_below (joined_kind a b) (joined_kind a' b')) refl a a' b b' p q

joined_kind_plain : (a b : FactKind) → is_mixed_kind a ≡ false → is_mixed_kind b ≡ false → is_mixed_kind (joined_kind a b) ≡ false
joined_kind_plain a b p q = not_true (is_mixed_kind (joined_kind a b)) (plain_by_trial (λ a b. not (is_mixed_kind (joined_kind a b))) refl a b p q)

-- ---- Lengths

-- what is made of two known lengths, and unknown beside an unknown one
both_known : (op : Option ℕ → Option ℕ → Option ℕ) (i j m n : ℕ) → nat_eq i m ≡ true → nat_eq j n ≡ true → length_below (op (Some i) (Some j)) (op (Some m) (Some n)) ≡ true
both_known op i j m n p q =
    let e : op (Some i) (Some j) ≡ op (Some m) (Some n) = ap (λ k. op (Some k) (Some j)) (equal_of i m p) ∙ ap (λ k. op (Some m) (Some k)) (equal_of j n q) in
    subst (λ z. length_below (op (Some i) (Some j)) z ≡ true) e (length_refl (op (Some i) (Some j)))

sum_rises : (x x' y y' : Option ℕ) → length_below x x' ≡ true → length_below y y' ≡ true → length_below (sum_length x y) (sum_length x' y') ≡ true
sum_rises x None y y' p q = refl
sum_rises x (Some m) y None p q = refl
sum_rises None (Some m) y (Some n) p q = cc
sum_rises (Some i) (Some m) None (Some n) p q = cc
sum_rises (Some i) (Some m) (Some j) (Some n) p q = both_known sum_length i j m n p q

join_rises : (x x' y y' : Option ℕ) → length_below x x' ≡ true → length_below y y' ≡ true → length_below (length_join x y) (length_join x' y') ≡ true
join_rises x None y y' p q = refl
join_rises x (Some m) y None p q = refl
join_rises None (Some m) y (Some n) p q = cc
join_rises (Some i) (Some m) None (Some n) p q = cc
join_rises (Some i) (Some m) (Some j) (Some n) p q = both_known length_join i j m n p q

beside_scalar_rises : (xs ys : List (Option ℕ)) → lengths_below xs ys ≡ true → lengths_below (beside_scalar xs) (beside_scalar ys) ≡ true
beside_scalar_rises [] [] h = refl
beside_scalar_rises [] (y ∷ ys) h = cc
beside_scalar_rises (x ∷ xs) [] h = cc
beside_scalar_rises (x ∷ []) (y ∷ []) h = one_rises (sum_length x (Some 1)) (sum_length y (Some 1)) (sum_rises x y (Some 1) (Some 1) (head_rises x y [] [] h) refl)
beside_scalar_rises (x ∷ []) (y ∷ w ∷ ys) h = absurd (never_below (tail_rises x y [] (w ∷ ys) h))
beside_scalar_rises (x ∷ z ∷ xs) (y ∷ []) h = absurd (never_below (tail_rises x y (z ∷ xs) [] h))
beside_scalar_rises (x ∷ z ∷ xs) (y ∷ w ∷ ys) h =
    cons_rises None None (beside_scalar (z ∷ xs)) (beside_scalar (w ∷ ys)) refl (beside_scalar_rises (z ∷ xs) (w ∷ ys) (tail_rises x y (z ∷ xs) (w ∷ ys) h))

beside_rises : (xs xs' ys ys' : List (Option ℕ)) → lengths_below xs xs' ≡ true → lengths_below ys ys' ≡ true → lengths_below (beside xs ys) (beside xs' ys') ≡ true
beside_rises [] [] ys ys' p q = refl
beside_rises [] (x' ∷ xs') ys ys' p q = cc
beside_rises (x ∷ xs) [] ys ys' p q = cc
beside_rises (x ∷ xs) (x' ∷ xs') [] [] p q =
    unknown_above (unknown (length (x ∷ xs))) (length (x' ∷ xs')) (unknown_length (length (x ∷ xs)) ∙ lengths_same (x ∷ xs) (x' ∷ xs') p)
beside_rises (x ∷ xs) (x' ∷ xs') [] (y' ∷ ys') p q = cc
beside_rises (x ∷ xs) (x' ∷ xs') (y ∷ ys) [] p q = cc
beside_rises (x ∷ []) (x' ∷ []) (y ∷ ys) (y' ∷ ys') p q =
    one_rises (sum_length x y) (sum_length x' y') (sum_rises x x' y y' (head_rises x x' [] [] p) (head_rises y y' ys ys' q))
beside_rises (x ∷ []) (x' ∷ z' ∷ xs') (y ∷ ys) (y' ∷ ys') p q = absurd (never_below (tail_rises x x' [] (z' ∷ xs') p))
beside_rises (x ∷ z ∷ xs) (x' ∷ []) (y ∷ ys) (y' ∷ ys') p q = absurd (never_below (tail_rises x x' (z ∷ xs) [] p))
beside_rises (x ∷ z ∷ xs) (x' ∷ z' ∷ xs') (y ∷ ys) (y' ∷ ys') p q =
    cons_rises (length_join x y) (length_join x' y') (beside (z ∷ xs) ys) (beside (z' ∷ xs') ys')
    (join_rises x x' y y' (head_rises x x' (z ∷ xs) (z' ∷ xs') p) (head_rises y y' ys ys' q))
    (beside_rises (z ∷ xs) (z' ∷ xs') ys ys' (tail_rises x x' (z ∷ xs) (z' ∷ xs') p) (tail_rises y y' ys ys' q))

catenate_lengths_rise : (xs xs' ys ys' : List (Option ℕ)) → lengths_below xs xs' ≡ true → lengths_below ys ys' ≡ true → lengths_below (catenate_lengths xs ys) (catenate_lengths xs' ys') ≡ true
catenate_lengths_rise [] [] ys ys' p q = beside_scalar_rises ys ys' q
catenate_lengths_rise [] (x' ∷ xs') ys ys' p q = cc
catenate_lengths_rise (x ∷ xs) [] ys ys' p q = cc
catenate_lengths_rise (x ∷ xs) (x' ∷ xs') [] [] p q = beside_scalar_rises (x ∷ xs) (x' ∷ xs') p
catenate_lengths_rise (x ∷ xs) (x' ∷ xs') [] (y' ∷ ys') p q = cc
catenate_lengths_rise (x ∷ xs) (x' ∷ xs') (y ∷ ys) [] p q = cc
catenate_lengths_rise (x ∷ xs) (x' ∷ xs') (y ∷ ys) (y' ∷ ys') p q = beside_rises (x ∷ xs) (x' ∷ xs') (y ∷ ys) (y' ∷ ys') p q

-- ---- Catenation

pub catenate_rises : IsRising catenate_rule
catenate_rises a a' xs xs' b b' ys ys' p h q k =
    let r : Ruled = known (joined_kind a b) (catenate_lengths xs ys) in
    let s : Ruled = known (joined_kind a' b') (catenate_lengths xs' ys') in
    wants_rises (kinds_join a b) (kinds_join a' b') breaks.Kind (wants (ranks_suit (length xs) (length ys)) breaks.Rank r) (wants (ranks_suit (length xs') (length ys')) breaks.Rank s) (kinds_below a a' b b' p q)
    (λ c. ranks_rise ranks_suit xs xs' ys ys' r s h k
    (λ t. known_rises (joined_kind a b) (joined_kind a' b') (catenate_lengths xs ys) (catenate_lengths xs' ys') (joined_kind_rises a a' b b' p q) (catenate_lengths_rise xs xs' ys ys' h k)))

pub catenate_clears : IsClearing catenate_rule
catenate_clears a xs b ys p q =
    let r : Ruled = known (joined_kind a b) (catenate_lengths xs ys) in
    wants_clear (kinds_join a b) breaks.Kind (wants (ranks_suit (length xs) (length ys)) breaks.Rank r)
    (wants_clear (ranks_suit (length xs) (length ys)) breaks.Rank r
    (known_clear (joined_kind a b) (catenate_lengths xs ys) (joined_kind_plain a b p q)))

-- ---- Index-of and membership

pub index_of_rises : IsRising index_of_rule
index_of_rises a a' xs xs' b b' ys ys' p h q k =
    rank_rises (λ n. nat_eq n 1) xs xs' (known Num ys) (known Num ys') h (known_rises Num Num ys ys' refl k)

pub index_of_clears : IsClearing index_of_rule
index_of_clears a xs b ys p q = wants_clear (nat_eq (length xs) 1) breaks.Rank (known Num ys) refl

pub member_rises : IsRising member_rule
member_rises a a' xs xs' b b' ys ys' p h q k = known_rises Bit Bit xs xs' refl h

pub member_clears : IsClearing member_rule
member_clears a xs b ys p q = refl
