-- Tests by trial over kinds, and small lemmas on tests.
use Rattle.std.proofs.Common.{◌≡◌, ap, refl, ℕ, Bool, true, false, ◌&&◌, ◌||◌, not, arith}
use Rattle.std.specs.Prelude.{nat_eq}
use Rattle.std.proofs.lemmas.Bool.Decides.{nat_tests}
use Rattle.aplc_infer.specs.declared.fact.FactKind.{FactKind}
use Rattle.aplc_infer.specs.declared.fact.FactKind.TheVariants.{Bit, Num, Char, Mixed}
use Rattle.aplc_infer.specs.Facts.{kind_below, is_mixed_kind}
use Rattle.aplc_infer.specs.Orders.{plain_below}

-- ---- Tests

pub both_true : (a b : Bool) → a ≡ true → b ≡ true → (a && b) ≡ true
both_true a b p q = grind arith

pub left_true : (a b : Bool) → (a && b) ≡ true → a ≡ true
left_true a b h = grind arith

pub right_true : (a b : Bool) → (a && b) ≡ true → b ≡ true
right_true a b h = grind arith

pub equal_of : (m n : ℕ) → nat_eq m n ≡ true → m ≡ n
equal_of m n h = grind (arith, nat_tests)

pub equal_test : (m n : ℕ) → m ≡ n → nat_eq m n ≡ true
equal_test m n h = grind (arith, nat_tests)

pub unequal : true ≡ false → ⊥
unequal h = cc

pub not_true : (b : Bool) → not b ≡ true → b ≡ false
not_true true h = cc
not_true false h = refl

abbrev pub implies : Bool → Bool → Bool
implies a b = not a || b

pub use_implies : (a b : Bool) → implies a b ≡ true → a ≡ true → b ≡ true
use_implies a b h g = grind arith

-- both are true, or both are false
abbrev pub same : Bool → Bool → Bool
same true b = b
same false b = not b

pub same_is : (a b : Bool) → same a b ≡ true → a ≡ b
same_is true true h = refl
same_is true false h = cc
same_is false true h = cc
same_is false false h = refl

-- ---- Kinds

abbrev pub all_kinds : (FactKind → Bool) → Bool
all_kinds p = p Bit && (p Num && (p Char && p Mixed))

pub all_at : (p : FactKind → Bool) → all_kinds p ≡ true → (a : FactKind) → p a ≡ true
all_at p h Bit = grind arith
all_at p h Num = grind arith
all_at p h Char = grind arith
all_at p h Mixed = grind arith

-- of a kind below another
abbrev pub all_rising : (FactKind → FactKind → Bool) → Bool
all_rising p = all_kinds (λ a. all_kinds (λ b. implies (plain_below a b) (p a b)))

pub rising_by_trial : (p : FactKind → FactKind → Bool) → all_rising p ≡ true → (a b : FactKind) → plain_below a b ≡ true → p a b ≡ true
rising_by_trial p h a b q =
    use_implies (plain_below a b) (p a b)
    (all_at (λ y. implies (plain_below a y) (p a y))
    (all_at (λ x. all_kinds (λ y. implies (plain_below x y) (p x y))) h a) b) q

-- of two kinds below two others
abbrev pub all_pairs : (FactKind → FactKind → FactKind → FactKind → Bool) → Bool
all_pairs p = all_kinds (λ a. all_kinds (λ a'. all_kinds (λ b. all_kinds (λ b'. implies (plain_below a a' && plain_below b b') (p a a' b b')))))

pub pairs_by_trial : (p : FactKind → FactKind → FactKind → FactKind → Bool) → all_pairs p ≡ true → (a a' b b' : FactKind) → plain_below a a' ≡ true → plain_below b b' ≡ true → p a a' b b' ≡ true
pairs_by_trial p h a a' b b' q r =
    use_implies (plain_below a a' && plain_below b b') (p a a' b b')
    (all_at (λ z. implies (plain_below a a' && plain_below b z) (p a a' b z))
    (all_at (λ y. all_kinds (λ z. implies (plain_below a a' && plain_below y z) (p a a' y z)))
    (all_at (λ x. all_kinds (λ y. all_kinds (λ z. implies (plain_below a x && plain_below y z) (p a x y z))))
    (all_at (λ w. all_kinds (λ x. all_kinds (λ y. all_kinds (λ z. implies (plain_below w x && plain_below y z) (p w x y z))))) h a) a') b) b')
    (both_true (plain_below a a') (plain_below b b') q r)

-- of two kinds that are not mixed
abbrev pub all_plain : (FactKind → FactKind → Bool) → Bool
all_plain p = all_kinds (λ a. all_kinds (λ b. implies (not (is_mixed_kind a) && not (is_mixed_kind b)) (p a b)))

pub plain_by_trial : (p : FactKind → FactKind → Bool) → all_plain p ≡ true → (a b : FactKind) → is_mixed_kind a ≡ false → is_mixed_kind b ≡ false → p a b ≡ true
plain_by_trial p h a b q r =
    use_implies (not (is_mixed_kind a) && not (is_mixed_kind b)) (p a b)
    (all_at (λ y. implies (not (is_mixed_kind a) && not (is_mixed_kind y)) (p a y))
    (all_at (λ x. all_kinds (λ y. implies (not (is_mixed_kind x) && not (is_mixed_kind y)) (p x y))) h a) b)
    (both_true (not (is_mixed_kind a)) (not (is_mixed_kind b)) (ap not q) (ap not r))

pub plain_kind : (a b : FactKind) → plain_below a b ≡ true → kind_below a b ≡ true
plain_kind a b h = left_true (kind_below a b) (not (is_mixed_kind b)) h
