-- What proofs about single rules share: conditions on kinds and ranks, and lists of lengths.
use Rattle.std.proofs.Common.{◌≡◌, ◌∙◌, ap, refl, subst, ℕ, List, [], ◌∷◌, length, Option, Bool, true, false}
use mathlib.Core.List.{reverse_aux, reverse}
use Rattle.aplc_infer.specs.declared.fact.FactKind.{FactKind}
use Rattle.aplc_infer.specs.declared.rule_break.RuleBreak.TheVariants as breaks
use Rattle.aplc_infer.specs.Facts.{length_below, lengths_below}
use Rattle.aplc_infer.specs.Rules.{Ruled, wants, is_numeric, unknown}
use Rattle.aplc_infer.specs.Orders.{below_result, plain_below}
use Rattle.aplc_infer.proofs.Trials.{both_true, left_true, right_true}
use Rattle.aplc_infer.proofs.Order.{lengths_refl, lengths_same}
use Rattle.aplc_infer.proofs.Rises.{wants_same, numeric_same, below_unknown}

-- ---- Conditions

-- numbers are wanted of what comes first
pub numbers_rise : (a b : FactKind) (r s : Ruled) → plain_below a b ≡ true → below_result r s ≡ true → below_result (wants (is_numeric a) breaks.Kind r) (wants (is_numeric b) breaks.Kind s) ≡ true
numbers_rise a b r s p h = wants_same (is_numeric a) (is_numeric b) breaks.Kind r s (numeric_same a b p) (λ c. h)

-- a condition on the rank is the same in both
pub rank_rises : (q : ℕ → Bool) (xs ys : List (Option ℕ)) (r s : Ruled) → lengths_below xs ys ≡ true → below_result r s ≡ true → below_result (wants (q (length xs)) breaks.Rank r) (wants (q (length ys)) breaks.Rank s) ≡ true
rank_rises q xs ys r s p h = wants_same (q (length xs)) (q (length ys)) breaks.Rank r s (ap q (lengths_same xs ys p)) (λ c. h)

-- and so is one on two ranks, which may be used for what follows
pub ranks_same : (q : ℕ → ℕ → Bool) (xs xs' ys ys' : List (Option ℕ)) → lengths_below xs xs' ≡ true → lengths_below ys ys' ≡ true → q (length xs) (length ys) ≡ q (length xs') (length ys')
ranks_same q xs xs' ys ys' p h = ap (λ m. q m (length ys)) (lengths_same xs xs' p) ∙ ap (λ n. q (length xs') n) (lengths_same ys ys' h)

pub ranks_rise : (q : ℕ → ℕ → Bool) (xs xs' ys ys' : List (Option ℕ)) (r s : Ruled) → lengths_below xs xs' ≡ true → lengths_below ys ys' ≡ true → (q (length xs) (length ys) ≡ true → below_result r s ≡ true) → below_result (wants (q (length xs) (length ys)) breaks.Rank r) (wants (q (length xs') (length ys')) breaks.Rank s) ≡ true
ranks_rise q xs xs' ys ys' r s p h next =
    let e : q (length xs) (length ys) ≡ q (length xs') (length ys') = ranks_same q xs xs' ys ys' p h in
    wants_same (q (length xs) (length ys)) (q (length xs') (length ys')) breaks.Rank r s e (λ c. next (e ∙ c))

-- an axis is found by the rank alone
pub axis_same : (find : ℕ → Option ℕ) (xs ys : List (Option ℕ)) → lengths_below xs ys ≡ true → find (length xs) ≡ find (length ys)
axis_same find xs ys p = ap find (lengths_same xs ys p)

-- ---- Lists of lengths, by the first one and the rest

pub cons_rises : (x y : Option ℕ) (xs ys : List (Option ℕ)) → length_below x y ≡ true → lengths_below xs ys ≡ true → lengths_below (x ∷ xs) (y ∷ ys) ≡ true
cons_rises x y xs ys p q = both_true (length_below x y) (lengths_below xs ys) p q

pub head_rises : (x y : Option ℕ) (xs ys : List (Option ℕ)) → lengths_below (x ∷ xs) (y ∷ ys) ≡ true → length_below x y ≡ true
head_rises x y xs ys h = left_true (length_below x y) (lengths_below xs ys) h

pub tail_rises : (x y : Option ℕ) (xs ys : List (Option ℕ)) → lengths_below (x ∷ xs) (y ∷ ys) ≡ true → lengths_below xs ys ≡ true
tail_rises x y xs ys h = right_true (length_below x y) (lengths_below xs ys) h

pub one_rises : (x y : Option ℕ) → length_below x y ≡ true → lengths_below (x ∷ []) (y ∷ []) ≡ true
one_rises x y h = cons_rises x y [] [] h refl

-- what is the same in both
pub same_rises : (xs ys : List (Option ℕ)) → xs ≡ ys → lengths_below xs ys ≡ true
same_rises xs ys e = subst (λ zs. lengths_below xs zs ≡ true) e (lengths_refl xs)

-- as many unknown lengths are above
pub unknown_above : (xs : List (Option ℕ)) (n : ℕ) → length xs ≡ n → lengths_below xs (unknown n) ≡ true
unknown_above xs n e = subst (λ m. lengths_below xs (unknown m) ≡ true) e (below_unknown xs)

-- no list is below one of another length
pub never_below : false ≡ true → ⊥
never_below h = cc

reverse_onto : (xs ys ws zs : List (Option ℕ)) → lengths_below xs ys ≡ true → lengths_below ws zs ≡ true → lengths_below (reverse_aux xs ws) (reverse_aux ys zs) ≡ true
reverse_onto [] [] ws zs h g = g
reverse_onto [] (y ∷ ys) ws zs h g = cc
reverse_onto (x ∷ xs) [] ws zs h g = cc
reverse_onto (x ∷ xs) (y ∷ ys) ws zs h g =
    reverse_onto xs ys (x ∷ ws) (y ∷ zs) (tail_rises x y xs ys h) (cons_rises x y ws zs (head_rises x y xs ys h) g)

pub reversed_rises : (xs ys : List (Option ℕ)) → lengths_below xs ys ≡ true → lengths_below (reverse xs) (reverse ys) ≡ true
reversed_rises xs ys h = reverse_onto xs ys [] [] h refl
