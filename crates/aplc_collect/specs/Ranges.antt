-- The scalar functions give numbers of the range, from such.
use Rattle.std.proofs.Common.{◌≡◌, ℕ, zero, suc, ◌^◌, ◌<◌, Option, Some, None, refl, sym, subst, arith}
use Rattle.std.specs.Prelude.{ℤ, pos, negsuc, ◌-ℤ◌, Ok, Err, if◌then◌else◌, Bool, true, false, unsigned_abs, int_lt}
use Rattle.std.specs.Int.{int_rem_euclid}
use Rattle.std.proofs.lemmas.Bool.Decides.{nat_tests}
use Rattle.std.proofs.lemmas.Nat.{mod_below}
use Rattle.std.proofs.lemmas.Int.{ints}
use Rattle.aplc_scalar.specs.Scalar.{Given, IsInRange, in_range, monadic, dyadic, limited, truth, logical, logical_right, boolean, residue, sign}
use Rattle.aplc_scalar.specs.declared.function.ScalarFn.{ScalarFn}
use Rattle.aplc_scalar.specs.declared.function.ScalarFn.TheVariants as f
use Rattle.aplc_scalar.specs.declared.kind.FaultKind.TheVariants as fault

-- a number of the range, or a fault
abbrev pub InGiven : Given → Type 0
InGiven (Ok z) = IsInRange z
InGiven (Err e) = Unit {0}

clash : false ≡ true → ⊥
clash e = cc

-- ---- Magnitudes

magnitude_of : (z : ℤ) → IsInRange z → unsigned_abs z < 2 ^ 63
unfolding in_range
magnitude_of z h = grind (arith, nat_tests)

range_of : (z : ℤ) → unsigned_abs z < 2 ^ 63 → IsInRange z
unfolding in_range
range_of z h = grind (arith, nat_tests)

same_magnitude : (z : ℤ) → unsigned_abs (pos 0 -ℤ z) ≡ unsigned_abs z
same_magnitude (pos zero) = refl
same_magnitude (pos (suc n)) = omega (arith, ints)
same_magnitude (negsuc n) = omega (arith, ints)

range_minus : (z : ℤ) → IsInRange z → IsInRange (pos 0 -ℤ z)
range_minus z h = range_of (pos 0 -ℤ z) (subst (λ n. n < 2 ^ 63) (sym (same_magnitude z)) (magnitude_of z h))

range_if : (b : Bool) (x y : ℤ) → IsInRange x → IsInRange y → IsInRange (if b then x else y)
range_if true x y p q = p
range_if false x y p q = q

-- ---- Truth values

range_truth : (b : Bool) → IsInRange (truth b)
unfolding in_range
range_truth true = refl
range_truth false = refl

limited_given : (z : ℤ) → InGiven (limited z)
limited_given z = by_test (in_range z) refl
  where
    by_test : (b : Bool) → in_range z ≡ b → InGiven (if b then Ok z else Err fault.Limit)
    by_test true e = e
    by_test false e = tt

right_given : (g : Bool → Bool) (b : Option Bool) → InGiven (logical_right g b)
right_given g None = tt
right_given g (Some b) = range_truth (g b)

logical_given : (g : Bool → Bool → Bool) (a b : Option Bool) → InGiven (logical g a b)
logical_given g None b = tt
logical_given g (Some a) b = right_given (g a) b

-- ---- Sign and residue

range_sign : (z : ℤ) → IsInRange (sign z)
unfolding in_range
range_sign z = range_if (int_lt (pos 0) z) (pos 1) (if int_lt z (pos 0) then pos 0 -ℤ pos 1 else pos 0) refl (range_if (int_lt z (pos 0)) (pos 0 -ℤ pos 1) (pos 0) refl refl)

remainder_below : (z d : ℤ) → 0 < unsigned_abs d → unsigned_abs (int_rem_euclid z d) < unsigned_abs d
remainder_below (pos a) d h = mod_below a (unsigned_abs d) h
remainder_below (negsuc a) d h = let e = mod_below a (unsigned_abs d) h in omega (arith, e, h)

some_above : (a : ℤ) → int_lt (pos 0) a ≡ true → 0 < unsigned_abs a
some_above (pos zero) e = absurd (clash e)
some_above (pos (suc n)) e = omega arith
some_above (negsuc n) e = absurd (clash e)

some_below : (a : ℤ) → int_lt a (pos 0) ≡ true → 0 < unsigned_abs a
some_below (pos n) e = absurd (not_below n e)
  where
    not_below : (n : ℕ) → int_lt (pos n) (pos 0) ≡ true → ⊥
    not_below n e = grind (arith, nat_tests)
some_below (negsuc n) e = omega arith

range_remainder : (z d a : ℤ) → 0 < unsigned_abs d → unsigned_abs d ≡ unsigned_abs a → IsInRange a → IsInRange (int_rem_euclid z d)
range_remainder z d a h e r =
    let below = remainder_below z d h in
    let limit = magnitude_of a r in
    range_of (int_rem_euclid z d) (omega (arith, below, limit, e))

range_residue : (a b : ℤ) → IsInRange a → IsInRange b → IsInRange (residue a b)
range_residue a b p q = by_tests (int_lt (pos 0) a) (int_lt a (pos 0)) refl refl
  where
    by_tests : (s t : Bool) → int_lt (pos 0) a ≡ s → int_lt a (pos 0) ≡ t → IsInRange (if s then int_rem_euclid b a else (if t then pos 0 -ℤ int_rem_euclid (pos 0 -ℤ b) (pos 0 -ℤ a) else b))
    by_tests true t e1 e2 = range_remainder b a a (some_above a e1) refl p
    by_tests false true e1 e2 = range_minus _ (range_remainder (pos 0 -ℤ b) (pos 0 -ℤ a) a (subst (λ n. 0 < n) (sym (same_magnitude a)) (some_below a e2)) (same_magnitude a) p)
    by_tests false false e1 e2 = q

-- ---- Each function

pub monadic_given : (g : ScalarFn) (z : ℤ) → IsInRange z → InGiven (monadic g z)
monadic_given f.Sub z h = range_minus z h
monadic_given f.Mul z h = range_sign z
monadic_given f.Residue z h = range_of (pos (unsigned_abs z)) (magnitude_of z h)
monadic_given f.Not z h = right_given _ (boolean z)
monadic_given g z h = h

pub dyadic_given : (g : ScalarFn) (x y : ℤ) → IsInRange x → IsInRange y → InGiven (dyadic g x y)
dyadic_given f.Add x y p q = limited_given _
dyadic_given f.Sub x y p q = limited_given _
dyadic_given f.Mul x y p q = limited_given _
dyadic_given f.Max x y p q = range_if _ _ _ q p
dyadic_given f.Min x y p q = range_if _ _ _ p q
dyadic_given f.Residue x y p q = range_residue x y p q
dyadic_given f.Less x y p q = range_truth _
dyadic_given f.LessEq x y p q = range_truth _
dyadic_given f.Equal x y p q = range_truth _
dyadic_given f.GreaterEq x y p q = range_truth _
dyadic_given f.Greater x y p q = range_truth _
dyadic_given f.NotEqual x y p q = range_truth _
dyadic_given f.And x y p q = logical_given _ (boolean x) (boolean y)
dyadic_given f.Or x y p q = logical_given _ (boolean x) (boolean y)
dyadic_given f.Nand x y p q = logical_given _ (boolean x) (boolean y)
dyadic_given f.Nor x y p q = logical_given _ (boolean x) (boolean y)
dyadic_given f.Not x y p q = tt
