-- Numbers from a least one on.
use Rattle.std.specs.Prelude.{◌≡◌, ℕ, zero, suc, ◌+◌, ◌*◌, ◌<◌, ◌≤◌, List, ◌++◌, decimal, Bool, true, false}

-- a number from low on and below a bound
pub record Ranged (low bound n : ℕ) (w : List ℕ) : Type 0 where
  pub above : low ≤ n
  pub below : n < bound
  pub text : w ≡ decimal n

-- the digits of n begin one of them
pub record Reach (low bound n : ℕ) : Type 0 where
  pub to : ℕ
  pub more : List ℕ
  pub above : low ≤ to
  pub below : to < bound
  pub text : decimal to ≡ decimal n ++ more

abbrev pub IsReach : ℕ → ℕ → ℕ → Bool → Type 0
IsReach low bound n true = Reach low bound n
IsReach low bound n false = Reach low bound n → ⊥

-- the least and the greatest number that j further digits make of n
abbrev pub lows : ℕ → ℕ → ℕ
lows zero n = n
lows (suc j) n = 10 * lows j n

abbrev pub highs : ℕ → ℕ → ℕ
highs zero n = n
highs (suc j) n = 10 * highs j n + 9

-- a and b are those of some j, and fewer digits make too small a number
pub record Row (low n a b : ℕ) : Type 0 where
  pub j : ℕ
  pub least : a ≡ lows j n
  pub greatest : b ≡ highs j n
  pub small : (i : ℕ) → i < j → highs i n < low
