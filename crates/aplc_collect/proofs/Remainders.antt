-- The residue by the remainder that C gives, which has the dividend's sign.
use Rattle.std.proofs.Common.{◌≡◌, ℕ, zero, suc, ◌+◌, ◌-◌, ◌%◌, ◌<◌, ◌≤◌, ◌⊎◌, inl, inr, refl, sym, ap, ◌∙◌, arith, ℤ, Bool, true, false, cond}
use Rattle.std.specs.Prelude.{pos, negsuc, ◌^◌, ◌+ℤ◌, ◌-ℤ◌, nat_lt}
use Rattle.std.specs.Int.{int_rem_euclid}
use Rattle.std.specs.Int.RustNames.{int_lt, int_rem, unsigned_abs}
use Rattle.std.proofs.lemmas.Bool.Decides.{nat_tests}
use Rattle.std.proofs.lemmas.Int.{rem_below, ints}
use Rattle.std.proofs.Math.Nat.{suc-mod, mod-lt, mod-eq_of_lt, mod_self}
use Rattle.std.proofs.Math.IntN.{neg_ℤ}
use Rattle.aplc_scalar.specs.Scalar.{in_range, int_eq, truth, negated, both, residue}

-- ---- When the divisor is added

-- by whether the remainder is 0, and whether remainder and divisor are below 0
abbrev pub moved_of : Bool → Bool → Bool → Bool
moved_of z p q = both (negated z) (negated (int_eq (truth p) (truth q)))

abbrev pub moved : ℤ → ℤ → Bool
moved t x = moved_of (int_eq t (pos 0)) (int_lt t (pos 0)) (int_lt x (pos 0))

abbrev pub adjusted : ℤ → ℤ → ℤ
adjusted t x = cond (moved t x) (t +ℤ x) t

adjusted_by : (t x : ℤ) (z p q : Bool) → int_eq t (pos 0) ≡ z → int_lt t (pos 0) ≡ p → int_lt x (pos 0) ≡ q → adjusted t x ≡ cond (moved_of z p q) (t +ℤ x) t
adjusted_by t x z p q hz hp hq =
    ap (λ b. cond (moved_of b (int_lt t (pos 0)) (int_lt x (pos 0))) (t +ℤ x) t) hz
    ∙ ap (λ b. cond (moved_of z b (int_lt x (pos 0))) (t +ℤ x) t) hp
    ∙ ap (λ b. cond (moved_of z p b) (t +ℤ x) t) hq

same_signs : (z p : Bool) → moved_of z p p ≡ false
same_signs true p = refl
same_signs false true = refl
same_signs false false = refl

pos_not_below : (a : ℕ) → int_lt (pos a) (pos 0) ≡ false
pos_not_below a = grind (arith, nat_tests)

pos_some : (a : ℕ) → int_eq (pos (suc a)) (pos 0) ≡ false
pos_some a = grind (arith, nat_tests)

adjusted_zero : (t x : ℤ) → t ≡ pos 0 → adjusted t x ≡ pos 0
adjusted_zero t x h = ap (λ t. adjusted t x) h

-- ---- The next number's remainder

next_mod : (n k : ℕ) → ((suc n % suc k ≡ 0) × (n % suc k + 1 ≡ suc k)) ⊎ (suc n % suc k ≡ suc (n % suc k))
next_mod n k = by_end (nat_lt (suc (n % suc k)) (suc k)) refl
  where
    by_end : (b : Bool) → nat_lt (suc (n % suc k)) (suc k) ≡ b → ((suc n % suc k ≡ 0) × (n % suc k + 1 ≡ suc k)) ⊎ (suc n % suc k ≡ suc (n % suc k))
    by_end true h = let lt : suc (n % suc k) < suc k = grind (arith, nat_tests) in inr (suc-mod n (suc k) ∙ mod-eq_of_lt lt)
    by_end false h =
        let lt : n % suc k < suc k = mod-lt n (omega arith) in
        let le : suc k ≤ suc (n % suc k) = grind (arith, nat_tests) in
        let e : suc (n % suc k) ≡ suc k = omega (arith, lt, le) in
        inl (suc-mod n (suc k) ∙ ap (λ m. m % suc k) e ∙ mod_self (suc k), omega (arith, e))

-- ---- Both signs of both sides

residue_pos : (k : ℕ) (y : ℤ) → residue (pos (suc k)) y ≡ int_rem_euclid y (pos (suc k))
residue_pos k y =
    let above : int_lt (pos 0) (pos (suc k)) ≡ true = grind (arith, nat_tests) in
    ap (λ b. cond b (int_rem_euclid y (pos (suc k))) (cond (int_lt (pos (suc k)) (pos 0)) (pos 0 -ℤ int_rem_euclid (pos 0 -ℤ y) (pos 0 -ℤ pos (suc k))) y)) above

residue_neg : (k : ℕ) (y : ℤ) → residue (negsuc k) y ≡ pos 0 -ℤ int_rem_euclid (pos 0 -ℤ y) (pos (suc k))
residue_neg k y =
    let e : pos 0 -ℤ negsuc k ≡ pos (suc k) = omega (arith, ints) in
    ap (λ d. pos 0 -ℤ int_rem_euclid (pos 0 -ℤ y) d) e

pos_pos : (k n : ℕ) → residue (pos (suc k)) (pos n) ≡ adjusted (int_rem (pos n) (pos (suc k))) (pos (suc k))
pos_pos k n =
    let t : ℤ = pos (n % suc k) in
    let z = int_eq t (pos 0) in
    residue_pos k (pos n)
    ∙ sym (adjusted_by t (pos (suc k)) z false false refl (pos_not_below (n % suc k)) (pos_not_below (suc k)) ∙ ap (λ b. cond b (t +ℤ pos (suc k)) t) (same_signs z false))

pos_neg : (k n : ℕ) → residue (pos (suc k)) (negsuc n) ≡ adjusted (int_rem (negsuc n) (pos (suc k))) (pos (suc k))
pos_neg k n = residue_pos k (negsuc n) ∙ by_next (next_mod n k)
  where
    by_next : ((suc n % suc k ≡ 0) × (n % suc k + 1 ≡ suc k)) ⊎ (suc n % suc k ≡ suc (n % suc k)) → int_rem_euclid (negsuc n) (pos (suc k)) ≡ adjusted (int_rem (negsuc n) (pos (suc k))) (pos (suc k))
    by_next (inl h) =
        let e : suc k - 1 - n % suc k ≡ 0 = omega (arith, h.1) in
        ap pos e ∙ sym (adjusted_zero (neg_ℤ (pos (suc n % suc k))) (pos (suc k)) (ap (λ m. neg_ℤ (pos m)) h.0))
    by_next (inr h) =
        let r = n % suc k in
        let lt : r < suc k = mod-lt n (omega arith) in
        let sum : negsuc r +ℤ pos (suc k) ≡ pos (suc k - 1 - r) = omega (arith, ints, lt) in
        sym (ap (λ m. adjusted (neg_ℤ (pos m)) (pos (suc k))) h ∙ adjusted_by (negsuc r) (pos (suc k)) false true false refl refl (pos_not_below (suc k)) ∙ sum)

neg_pos : (k n : ℕ) → residue (negsuc k) (pos n) ≡ adjusted (int_rem (pos n) (negsuc k)) (negsuc k)
neg_pos k zero =
    let none : 0 % suc k ≡ 0 = mod-eq_of_lt (omega arith) in
    residue_neg k (pos 0) ∙ ap (λ m. pos 0 -ℤ pos m) none ∙ sym (adjusted_zero (pos (0 % suc k)) (negsuc k) (ap pos none))
neg_pos k (suc n) =
    let e : pos 0 -ℤ pos (suc n) ≡ negsuc n = omega (arith, ints) in
    residue_neg k (pos (suc n)) ∙ ap (λ z. pos 0 -ℤ int_rem_euclid z (pos (suc k))) e ∙ by_next (next_mod n k)
  where
    by_next : ((suc n % suc k ≡ 0) × (n % suc k + 1 ≡ suc k)) ⊎ (suc n % suc k ≡ suc (n % suc k)) → pos 0 -ℤ int_rem_euclid (negsuc n) (pos (suc k)) ≡ adjusted (int_rem (pos (suc n)) (negsuc k)) (negsuc k)
    by_next (inl h) =
        let e : suc k - 1 - n % suc k ≡ 0 = omega (arith, h.1) in
        ap (λ m. pos 0 -ℤ pos m) e ∙ sym (adjusted_zero (pos (suc n % suc k)) (negsuc k) (ap pos h.0))
    by_next (inr h) =
        let r = n % suc k in
        let lt : r < suc k = mod-lt n (omega arith) in
        let sum : pos (suc r) +ℤ negsuc k ≡ pos 0 -ℤ pos (suc k - 1 - r) = omega (arith, ints, lt) in
        sym (ap (λ m. adjusted (pos m) (negsuc k)) h ∙ adjusted_by (pos (suc r)) (negsuc k) false false true (pos_some r) (pos_not_below (suc r)) refl ∙ sum)

negated_is : (m : ℕ) → pos 0 -ℤ pos m ≡ neg_ℤ (pos m)
negated_is zero = refl
negated_is (suc m) = omega (arith, ints)

neg_neg : (k n : ℕ) → residue (negsuc k) (negsuc n) ≡ adjusted (int_rem (negsuc n) (negsuc k)) (negsuc k)
neg_neg k n =
    let e : pos 0 -ℤ negsuc n ≡ pos (suc n) = omega (arith, ints) in
    residue_neg k (negsuc n) ∙ ap (λ z. pos 0 -ℤ int_rem_euclid z (pos (suc k))) e ∙ negated_is (suc n % suc k) ∙ by_size (suc n % suc k)
  where
    by_size : (m : ℕ) → neg_ℤ (pos m) ≡ adjusted (neg_ℤ (pos m)) (negsuc k)
    by_size zero = refl
    by_size (suc j) = sym (adjusted_by (negsuc j) (negsuc k) false true true refl refl refl)

-- the residue is the remainder, or that and the divisor
pub residue_is : (x y : ℤ) → int_eq x (pos 0) ≡ false → residue x y ≡ adjusted (int_rem y x) x
residue_is (pos zero) y h = absurd (no h)
  where
    no : true ≡ false → ⊥
    no e = cc
residue_is (pos (suc k)) (pos n) h = pos_pos k n
residue_is (pos (suc k)) (negsuc n) h = pos_neg k n
residue_is (negsuc k) (pos n) h = neg_pos k n
residue_is (negsuc k) (negsuc n) h = neg_neg k n

-- ---- Ranges

some_magnitude : (x : ℤ) → int_eq x (pos 0) ≡ false → 0 < unsigned_abs x
some_magnitude (pos zero) h = absurd (no h)
  where
    no : true ≡ false → ⊥
    no e = cc
some_magnitude (pos (suc k)) h = omega arith
some_magnitude (negsuc k) h = omega arith

pub remainder_fits : (x y : ℤ) → int_eq x (pos 0) ≡ false → in_range x ≡ true → in_range (int_rem y x) ≡ true
unfolding in_range
remainder_fits x y h fits = less (unsigned_abs (int_rem y x)) (unsigned_abs x) (rem_below y x (some_magnitude x h)) fits
  where
    less : (a b : ℕ) → a < b → nat_lt b (2 ^ 63) ≡ true → nat_lt a (2 ^ 63) ≡ true
    less a b lt fits = grind (arith, nat_tests)

sum_below_fits : (t x : ℤ) → int_lt t (pos 0) ≡ true → int_lt x (pos 0) ≡ false → in_range t ≡ true → in_range x ≡ true → in_range (t +ℤ x) ≡ true
unfolding in_range
sum_below_fits t x p q h k = grind (arith, nat_tests)

sum_above_fits : (t x : ℤ) → int_lt t (pos 0) ≡ false → int_lt x (pos 0) ≡ true → in_range t ≡ true → in_range x ≡ true → in_range (t +ℤ x) ≡ true
unfolding in_range
sum_above_fits t x p q h k = grind (arith, nat_tests)

-- a sum of numbers of two signs is in range
pub moved_fits : (t x : ℤ) → moved t x ≡ true → in_range t ≡ true → in_range x ≡ true → in_range (t +ℤ x) ≡ true
moved_fits t x m h k = by_signs (int_lt t (pos 0)) (int_lt x (pos 0)) refl refl
  where
    clash : false ≡ true → ⊥
    clash e = cc

    same : (p : Bool) → int_lt t (pos 0) ≡ p → int_lt x (pos 0) ≡ p → moved t x ≡ false
    same p hp hq = ap (λ b. moved_of (int_eq t (pos 0)) b (int_lt x (pos 0))) hp ∙ ap (λ b. moved_of (int_eq t (pos 0)) p b) hq ∙ same_signs (int_eq t (pos 0)) p

    by_signs : (p q : Bool) → int_lt t (pos 0) ≡ p → int_lt x (pos 0) ≡ q → in_range (t +ℤ x) ≡ true
    by_signs true false hp hq = sum_below_fits t x hp hq h k
    by_signs false true hp hq = sum_above_fits t x hp hq h k
    by_signs true true hp hq = absurd (clash (sym (same true hp hq) ∙ m))
    by_signs false false hp hq = absurd (clash (sym (same false hp hq) ∙ m))
