-- The last place at which something holds: where there is none, it holds nowhere.
use Rattle.std.proofs.Common.{◌≡◌, ◌⊎◌, inl, inr, ℕ, zero, suc, ◌+◌, ◌<◌, ◌≤◌, Bool, true, false, nat_lt, refl, arith}
use Rattle.std.proofs.lemmas.Bool.Decides.{nat_tests}

pub order : (a b : ℕ) → (a < b) ⊎ (b ≤ a)
order a b = by_test (nat_lt a b) refl
  where
    by_test : (t : Bool) → nat_lt a b ≡ t → (a < b) ⊎ (b ≤ a)
    by_test true e = inl (let l : a < b = grind (arith, nat_tests) in l)
    by_test false e = inr (let l : b ≤ a = grind (arith, nat_tests) in l)

-- ---- The last place up to a bound

module _ (P : ℕ → Type 0) (bound : ℕ) (never : (n : ℕ) → n ≤ bound → P n → ((m : ℕ) → n < m → m ≤ bound → P m → ⊥) → ⊥) where
  none_within : (k n : ℕ) → bound ≤ n + k → n ≤ bound → P n → ⊥
  none_within zero n far le h = never n le h (λ m l b p. absurd (omega arith))
  none_within (suc k) n far le h = never n le h (λ m l b p. none_within k m (omega arith) b p)

  pub nowhere : (n : ℕ) → n ≤ bound → P n → ⊥
  nowhere n le h = none_within bound n (omega arith) le h
