-- The axes that a literal names: they are not more than its entries.
use Rattle.std.proofs.Common.{◌≡◌, ap, refl, ℕ, zero, suc, ◌+◌, ◌<◌, ◌≤◌, List, [], ◌∷◌, length, Some, None, Bool, true, false, ◌&&◌, ◌||◌, ℤ, arith}
use Rattle.std.specs.Prelude.{nat_eq, nat_le, nat_lt, if◌then◌else◌, map}
use Rattle.std.proofs.lemmas.Bool.Decides.{nat_tests}
use Rattle.std.proofs.lemmas.List.{length-map}
use Rattle.aplc_arr.specs.Structure.{from_origin, axes_in, all_below_stand, stands_in}

-- how many numbers below m stand in a list
abbrev count_below : ℕ → List ℕ → ℕ
count_below zero axes = 0
count_below (suc m) axes = (if stands_in m axes then 1 else 0) + count_below m axes

all_counted : (m : ℕ) (axes : List ℕ) → all_below_stand m axes ≡ true → count_below m axes ≡ m
all_counted zero axes h = refl
all_counted (suc m) axes h = by_test (stands_in m axes) (all_below_stand m axes) h (all_counted m axes)
  where
    by_test : (a b : Bool) → (a && b) ≡ true → (b ≡ true → count_below m axes ≡ m) → (if a then 1 else 0) + count_below m axes ≡ suc m
    by_test true true h k = let e = k refl in omega arith
    by_test true false h k = cc
    by_test false b h k = cc

none_counted : (m : ℕ) → count_below m [] ≡ 0
none_counted zero = refl
none_counted (suc m) = let e = none_counted m in omega arith

-- one more number counts once at most
one_counted : (m x : ℕ) (xs : List ℕ) → count_below m (x ∷ xs) ≤ count_below m xs + (if nat_lt x m then 1 else 0)
one_counted zero x xs = omega arith
one_counted (suc m) x xs = by_test (nat_eq m x) (stands_in m xs) (nat_lt x m) (nat_lt x (suc m)) refl refl refl (one_counted m x xs)
  where
    by_test : (e s l k : Bool) → nat_eq m x ≡ e → nat_lt x m ≡ l → nat_lt x (suc m) ≡ k → count_below m (x ∷ xs) ≤ count_below m xs + (if l then 1 else 0) → (if e || s then 1 else 0) + count_below m (x ∷ xs) ≤ ((if s then 1 else 0) + count_below m xs) + (if k then 1 else 0)
    by_test true s true k e l h r = absurd (grind (arith, nat_tests))
    by_test true s false false e l h r = absurd (grind (arith, nat_tests))
    by_test true true false true e l h r = omega arith
    by_test true false false true e l h r = omega arith
    by_test false s true false e l h r = absurd (grind (arith, nat_tests))
    by_test false s false true e l h r = absurd (grind (arith, nat_tests))
    by_test false true true true e l h r = omega arith
    by_test false false true true e l h r = omega arith
    by_test false true false false e l h r = omega arith
    by_test false false false false e l h r = omega arith

few_counted : (m : ℕ) (axes : List ℕ) → count_below m axes ≤ length axes
few_counted m [] = let e = none_counted m in omega arith
few_counted m (x ∷ xs) = by_test (nat_lt x m) (one_counted m x xs) (few_counted m xs)
  where
    by_test : (l : Bool) → count_below m (x ∷ xs) ≤ count_below m xs + (if l then 1 else 0) → count_below m xs ≤ length xs → count_below m (x ∷ xs) ≤ suc (length xs)
    by_test true p q = omega arith
    by_test false p q = omega arith

-- not more axes are named than there are entries
pub axes_at_most : (m : ℕ) (axes : List ℕ) → all_below_stand m axes ≡ true → m ≤ length axes
axes_at_most m axes h = let e = all_counted m axes h in let f = few_counted m axes in omega arith

past_unnamed : (m : ℕ) (axes : List ℕ) → length axes < m → all_below_stand m axes ≡ false
past_unnamed m axes h = by_test (all_below_stand m axes) refl
  where
    by_test : (b : Bool) → all_below_stand m axes ≡ b → b ≡ false
    by_test true e = let f = axes_at_most m axes e in absurd (omega arith)
    by_test false e = refl

-- where more are named than there are entries, they are not all of them
pub too_many_axes : (o : ℤ) (zs : List ℤ) → (if nat_le (axes_in (map (from_origin o) zs)) (length zs) then Some (axes_in (map (from_origin o) zs)) else None) ≡ None → (if all_below_stand (axes_in (map (from_origin o) zs)) (map (from_origin o) zs) then Some (axes_in (map (from_origin o) zs)) else None) ≡ None
too_many_axes o zs h = by_test (nat_le m (length zs)) refl h
  where
    axes : List ℕ
    axes = map (from_origin o) zs

    m : ℕ
    m = axes_in axes

    by_test : (b : Bool) → nat_le m (length zs) ≡ b → (if b then Some m else None) ≡ None → (if all_below_stand m axes then Some m else None) ≡ None
    by_test true e k = cc
    by_test false e k =
        let long = length-map zs (from_origin o) in
        let past : length axes < m = grind (arith, nat_tests) in
        ap (λ b. if b then Some m else None) (past_unnamed m axes past)
