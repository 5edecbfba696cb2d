-- Tables of nodes by their numbers.
use Rattle.std.proofs.Common.{◌≡◌, ◌∙◌, ap, sym, refl, ℕ, zero, suc, ◌<◌, List, [], ◌∷◌, ◌++◌, length, arith, Bool, true, false, slice_set, nat_eq}
use Rattle.std.specs.Prelude.{◌||◌}
use Rattle.std.proofs.lemmas.Bool.Decides.{nat_tests}
use Rattle.aplc_plan.specs.Held.{held_in}

-- one more place
pub held_more : (xs : List Bool) (n : ℕ) → held_in (xs ++ false ∷ []) n ≡ held_in xs n
held_more [] zero = refl
held_more [] (suc n) = refl
held_more (x ∷ xs) zero = refl
held_more (x ∷ xs) (suc n) = held_more xs n

above : (n : ℕ) → nat_eq (suc n) 0 ≡ false
above n = grind (nat_tests, arith)

below : (n : ℕ) → nat_eq 0 (suc n) ≡ false
below n = grind (nat_tests, arith)

both_more : (n i : ℕ) → nat_eq (suc n) (suc i) ≡ nat_eq n i
both_more n i = by (nat_eq (suc n) (suc i)) (nat_eq n i) refl refl
  where
    by : (b c : Bool) → nat_eq (suc n) (suc i) ≡ b → nat_eq n i ≡ c → b ≡ c
    by true true g h = refl
    by false false g h = refl
    by true false g h = absurd (grind (nat_tests, arith))
    by false true g h = absurd (grind (nat_tests, arith))

pub held_set : (xs : List Bool) (i n : ℕ) → i < length xs → held_in (slice_set xs i true) n ≡ (nat_eq n i || held_in xs n)
held_set [] i n l = absurd (omega (arith, l))
held_set (x ∷ xs) zero zero l = refl
held_set (x ∷ xs) zero (suc n) l = ap (λ b. b || held_in xs n) (sym (above n))
held_set (x ∷ xs) (suc i) zero l = ap (λ b. b || x) (sym (below i))
held_set (x ∷ xs) (suc i) (suc n) l = held_set xs i n (omega (arith, l)) ∙ ap (λ b. b || held_in xs n) (sym (both_more n i))
