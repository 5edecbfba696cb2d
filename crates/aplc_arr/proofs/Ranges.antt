-- The scalar functions give numbers of the range, from such.
use Rattle.std.proofs.Common.{◌≡◌, ℕ, zero, suc, ◌^◌, ◌<◌, Option, Some, None, refl, sym, subst, arith}
use Rattle.std.specs.Prelude.{ℤ, pos, negsuc, ◌-ℤ◌, Ok, Err, if◌then◌else◌, Bool, true, false, unsigned_abs, int_lt}
use Rattle.std.specs.Int.{int_rem_euclid}
use Rattle.std.proofs.lemmas.Bool.Decides.{nat_tests}
use Rattle.std.proofs.lemmas.Nat.{mod_below}
use Rattle.std.proofs.lemmas.Int.{ints}
use Rattle.aplc_scalar.specs.Scalar.{Given, in_range, monadic, dyadic, limited, truth, logical, logical_right, boolean, residue, sign}
use Rattle.aplc_scalar.specs.declared.function.ScalarFn.{ScalarFn}
use Rattle.aplc_scalar.specs.declared.kind.Kind.{Kind}
use Rattle.aplc_arr.specs.Arrays.{is_cell}
use Rattle.aplc_arr.specs.Each.{is_equality, kinds_suit, of_unlike, applied}
use Rattle.aplc_arr.proofs.Basics.{no}
use Rattle.aplc_scalar.specs.declared.function.ScalarFn.TheVariants as f
use Rattle.aplc_scalar.specs.declared.kind.FaultKind.TheVariants as fault
use Rattle.aplc_scalar.specs.declared.kind.Kind.TheVariants as k

abbrev pub InRange : ℤ → Type 0
InRange z = in_range z ≡ true

-- an element of a kind, or a fault
abbrev pub IsGiven : Kind → Given → Type 0
IsGiven kind (Ok z) = is_cell kind z ≡ true
IsGiven kind (Err e) = Unit {0}

-- ---- Magnitudes

pub range-pos : (n : ℕ) → n < 2 ^ 63 → InRange (pos n)
unfolding in_range
range-pos n h = grind (arith, nat_tests)

pub range-below : (z : ℤ) → InRange z → unsigned_abs z < 2 ^ 63
unfolding in_range
range-below z h = grind (arith, nat_tests)

pub range-of : (z : ℤ) → unsigned_abs z < 2 ^ 63 → InRange z
unfolding in_range
range-of z h = grind (arith, nat_tests)

pub abs-minus : (z : ℤ) → unsigned_abs (pos 0 -ℤ z) ≡ unsigned_abs z
abs-minus (pos zero) = refl
abs-minus (pos (suc n)) = omega (arith, ints)
abs-minus (negsuc n) = omega (arith, ints)

pub range-minus : (z : ℤ) → InRange z → InRange (pos 0 -ℤ z)
range-minus z h = range-of (pos 0 -ℤ z) (subst (λ n. n < 2 ^ 63) (sym (abs-minus z)) (range-below z h))

pub cell-if : (kind : Kind) (b : Bool) (x y : ℤ) → is_cell kind x ≡ true → is_cell kind y ≡ true → is_cell kind (if b then x else y) ≡ true
cell-if kind true x y p q = p
cell-if kind false x y p q = q

pub range-if : (b : Bool) (x y : ℤ) → InRange x → InRange y → InRange (if b then x else y)
range-if b x y p q = cell-if k.Num b x y p q

-- ---- Truth values

pub range-bit : (b : Bool) → InRange (truth b)
unfolding in_range
range-bit true = refl
range-bit false = refl

pub given-limited : (z : ℤ) → IsGiven k.Num (limited z)
given-limited z = by_test (in_range z) refl
  where
    by_test : (b : Bool) → in_range z ≡ b → IsGiven k.Num (if b then Ok z else Err fault.Limit)
    by_test true e = e
    by_test false e = tt

pub given-logical_right : (g : Bool → Bool) (b : Option Bool) → IsGiven k.Num (logical_right g b)
given-logical_right g None = tt
given-logical_right g (Some b) = range-bit (g b)

pub given-logical : (g : Bool → Bool → Bool) (a b : Option Bool) → IsGiven k.Num (logical g a b)
given-logical g None b = tt
given-logical g (Some a) b = given-logical_right (g a) b

-- ---- Sign and residue

pub range-sign : (z : ℤ) → InRange (sign z)
unfolding in_range
range-sign z = cell-if k.Num (int_lt (pos 0) z) (pos 1) (if int_lt z (pos 0) then pos 0 -ℤ pos 1 else pos 0) refl (cell-if k.Num (int_lt z (pos 0)) (pos 0 -ℤ pos 1) (pos 0) refl refl)

-- a remainder is below the divisor
pub abs-remainder : (z d : ℤ) → 0 < unsigned_abs d → unsigned_abs (int_rem_euclid z d) < unsigned_abs d
abs-remainder (pos a) d h = mod_below a (unsigned_abs d) h
abs-remainder (negsuc a) d h = let e = mod_below a (unsigned_abs d) h in omega (arith, e, h)

pub some-abs-pos : (a : ℤ) → int_lt (pos 0) a ≡ true → 0 < unsigned_abs a
some-abs-pos (pos zero) e = absurd (no e)
some-abs-pos (pos (suc n)) e = omega arith
some-abs-pos (negsuc n) e = absurd (no e)

pub some-abs-neg : (a : ℤ) → int_lt a (pos 0) ≡ true → 0 < unsigned_abs a
some-abs-neg (pos n) e = absurd (not-below n e)
  where
    not-below : (n : ℕ) → int_lt (pos n) (pos 0) ≡ true → ⊥
    not-below n e = grind (arith, nat_tests)
some-abs-neg (negsuc n) e = omega arith

pub range-remainder : (z d a : ℤ) → 0 < unsigned_abs d → unsigned_abs d ≡ unsigned_abs a → InRange a → InRange (int_rem_euclid z d)
range-remainder z d a h e r =
    let below = abs-remainder z d h in
    let limit = range-below a r in
    range-of (int_rem_euclid z d) (less _ _ _ below (subst (λ n. n < 2 ^ 63) (sym e) limit))
  where
    less : (x y z : ℕ) → x < y → y < z → x < z
    less x y z p q = omega (arith, p, q)

pub range-residue : (a b : ℤ) → InRange a → InRange b → InRange (residue a b)
range-residue a b p q = by_tests (int_lt (pos 0) a) (int_lt a (pos 0)) refl refl
  where
    by_tests : (s t : Bool) → int_lt (pos 0) a ≡ s → int_lt a (pos 0) ≡ t → InRange (if s then int_rem_euclid b a else (if t then pos 0 -ℤ int_rem_euclid (pos 0 -ℤ b) (pos 0 -ℤ a) else b))
    by_tests true t e1 e2 = range-remainder b a a (some-abs-pos a e1) refl p
    by_tests false true e1 e2 = range-minus _ (range-remainder (pos 0 -ℤ b) (pos 0 -ℤ a) a (subst (λ n. 0 < n) (sym (abs-minus a)) (some-abs-neg a e2)) (abs-minus a) p)
    by_tests false false e1 e2 = q

-- ---- Each function

pub given-monadic : (g : ScalarFn) (z : ℤ) → InRange z → IsGiven k.Num (monadic g z)
given-monadic f.Sub z h = range-minus z h
given-monadic f.Mul z h = range-sign z
given-monadic f.Residue z h = range-of (pos (unsigned_abs z)) (range-below z h)
given-monadic f.Not z h = given-logical_right _ (boolean z)
given-monadic g z h = h

pub given-dyadic : (g : ScalarFn) (x y : ℤ) → InRange x → InRange y → IsGiven k.Num (dyadic g x y)
given-dyadic f.Add x y p q = given-limited _
given-dyadic f.Sub x y p q = given-limited _
given-dyadic f.Mul x y p q = given-limited _
given-dyadic f.Max x y p q = range-if _ _ _ q p
given-dyadic f.Min x y p q = range-if _ _ _ p q
given-dyadic f.Residue x y p q = range-residue x y p q
given-dyadic f.Less x y p q = range-bit _
given-dyadic f.LessEq x y p q = range-bit _
given-dyadic f.Equal x y p q = range-bit _
given-dyadic f.GreaterEq x y p q = range-bit _
given-dyadic f.Greater x y p q = range-bit _
given-dyadic f.NotEqual x y p q = range-bit _
given-dyadic f.And x y p q = given-logical _ (boolean x) (boolean y)
given-dyadic f.Or x y p q = given-logical _ (boolean x) (boolean y)
given-dyadic f.Nand x y p q = given-logical _ (boolean x) (boolean y)
given-dyadic f.Nor x y p q = given-logical _ (boolean x) (boolean y)
given-dyadic f.Not x y p q = tt

pub given-unlike : (g : ScalarFn) → IsGiven k.Num (of_unlike g)
unfolding in_range
given-unlike f.NotEqual = refl
given-unlike g = refl

pub given-alike : (g : ScalarFn) (x y : ℤ) → is_equality g ≡ true → IsGiven k.Num (dyadic g x y)
given-alike f.Equal x y e = range-bit _
given-alike f.NotEqual x y e = range-bit _
given-alike g x y e = absurd (no e)

pub given-applied : (g : ScalarFn) (a b : Kind) (x y : ℤ) → kinds_suit g a b ≡ true → is_cell a x ≡ true → is_cell b y ≡ true → IsGiven k.Num (applied g a b x y)
given-applied g k.Num k.Num x y e p q = given-dyadic g x y p q
given-applied g k.Num k.Char x y e p q = given-unlike g
given-applied g k.Char k.Num x y e p q = given-unlike g
given-applied g k.Char k.Char x y e p q = given-alike g x y e
