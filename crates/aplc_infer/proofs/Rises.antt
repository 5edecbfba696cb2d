-- What the rules are written with: how each part rises, and what it clears.
use Rattle.std.proofs.Common.{◌≡◌, ◌∙◌, sym, ap, refl, ℕ, zero, suc, List, [], ◌∷◌, length, Option, Some, None, Bool, true, false, not, arith}
use Rattle.std.proofs.lemmas.Bool.Decides.{nat_tests}
use Rattle.aplc_infer.specs.declared.fact.FactKind.{FactKind}
use Rattle.aplc_infer.specs.declared.fact.FactKind.TheVariants.{Bit, Num, Char, Mixed}
use Rattle.aplc_infer.specs.declared.fact.Inferred.TheVariants.{Of}
use Rattle.aplc_infer.specs.declared.rule_break.RuleBreak.{RuleBreak}
use Rattle.aplc_infer.specs.Facts.{kind_below, length_below, lengths_below, is_mixed_kind, is_mixed}
use Rattle.aplc_infer.specs.Rules.{Ruled, known, wants, wants_axis, is_numeric, unknown, is_known, all_known}
use Rattle.aplc_infer.specs.Orders.{below_result, plain_below, clear_result}
use Rattle.aplc_infer.proofs.Trials.{both_true, left_true, right_true, unequal, same, same_is, rising_by_trial}

-- ---- Results

pub known_rises : (a b : FactKind) (xs ys : List (Option ℕ)) → kind_below a b ≡ true → lengths_below xs ys ≡ true → below_result (known a xs) (known b ys) ≡ true
known_rises a b xs ys p q = both_true (kind_below a b) (lengths_below xs ys) p q

-- what the upper rule wants, the lower one has
pub wants_rises : (c d : Bool) (e : RuleBreak) (r r' : Ruled) → (d ≡ true → c ≡ true) → (d ≡ true → below_result r r' ≡ true) → below_result (wants c e r) (wants d e r') ≡ true
wants_rises c false e r r' p h = refl
wants_rises true true e r r' p h = h refl
wants_rises false true e r r' p h = absurd (unequal (sym (p refl)))

-- with one condition in both
pub wants_same : (c d : Bool) (e : RuleBreak) (r r' : Ruled) → c ≡ d → (d ≡ true → below_result r r' ≡ true) → below_result (wants c e r) (wants d e r') ≡ true
wants_same c d e r r' p h = wants_rises c d e r r' (λ q. p ∙ q) h

-- along one axis in both
pub axis_rises : (x y : Option ℕ) (next next' : ℕ → Ruled) → x ≡ y → ((i : ℕ) → below_result (next i) (next' i) ≡ true) → below_result (wants_axis x next) (wants_axis y next') ≡ true
axis_rises x None next next' e h = refl
axis_rises None (Some j) next next' e h = cc
axis_rises (Some i) (Some j) next next' e h = at i j (ap index_or e)
  where
    index_or : Option ℕ → ℕ
    index_or None = 0
    index_or (Some k) = k

    at : (i j : ℕ) → i ≡ j → below_result (next i) (next' j) ≡ true
    at i j q = ap (λ k. below_result (next i) (next' k)) (sym q) ∙ h i

plain_clear : (a : FactKind) (xs : List (Option ℕ)) → is_mixed_kind a ≡ false → is_mixed (Of a (Some xs)) ≡ false
plain_clear Bit xs h = refl
plain_clear Num xs h = refl
plain_clear Char xs h = refl
plain_clear Mixed xs h = cc

pub known_clear : (a : FactKind) (xs : List (Option ℕ)) → is_mixed_kind a ≡ false → clear_result (known a xs) ≡ true
known_clear a xs h = ap not (plain_clear a xs h)

pub wants_clear : (c : Bool) (e : RuleBreak) (r : Ruled) → clear_result r ≡ true → clear_result (wants c e r) ≡ true
wants_clear true e r h = h
wants_clear false e r h = refl

pub axis_clear : (x : Option ℕ) (next : ℕ → Ruled) → ((i : ℕ) → clear_result (next i) ≡ true) → clear_result (wants_axis x next) ≡ true
axis_clear None next h = refl
axis_clear (Some i) next h = h i

-- ---- Kinds

pub numeric_same : (a b : FactKind) → plain_below a b ≡ true → is_numeric a ≡ is_numeric b
numeric_same a b h = same_is (is_numeric a) (is_numeric b) (rising_by_trial (λ x y. same (is_numeric x) (is_numeric y)) refl a b h)

-- ---- Lengths

pub known_same : (x y : Option ℕ) → length_below x y ≡ true → is_known y ≡ true → x ≡ y
known_same x None h k = cc
known_same None (Some n) h k = cc
known_same (Some m) (Some n) h k = ap (λ i. Some i) (grind (arith, nat_tests))

-- what lies below lengths that are all known is the same
pub all_known_same : (xs ys : List (Option ℕ)) → lengths_below xs ys ≡ true → all_known ys ≡ true → xs ≡ ys
all_known_same [] [] h k = refl
all_known_same [] (y ∷ ys) h k = cc
all_known_same (x ∷ xs) [] h k = cc
all_known_same (x ∷ xs) (y ∷ ys) h k =
    ap (λ z. z ∷ xs) (known_same x y (left_true (length_below x y) (lengths_below xs ys) h) (left_true (is_known y) (all_known ys) k))
    ∙ ap (λ zs. y ∷ zs) (all_known_same xs ys (right_true (length_below x y) (lengths_below xs ys) h) (right_true (is_known y) (all_known ys) k))

pub unknown_length : (n : ℕ) → length (unknown n) ≡ n
unknown_length zero = refl
unknown_length (suc n) = ap suc (unknown_length n)

pub below_unknown : (xs : List (Option ℕ)) → lengths_below xs (unknown (length xs)) ≡ true
below_unknown [] = refl
below_unknown (x ∷ xs) = below_unknown xs
