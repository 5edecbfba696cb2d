-- Facts kept once in a pool, and rows of numbers into it.
use Rattle.std.specs.Prelude.{◌≡◌, ◌<◌, ◌≤◌, ℕ, List, [], ◌∷◌, length, map}
use Rattle.aplc_infer.specs.declared.fact.Inferred.{Inferred}
use Rattle.aplc_infer.specs.Seeing.{at}

-- the facts of a row
abbrev pub spelled : List Inferred → List ℕ → List Inferred
spelled pool hs = map (at pool) hs

abbrev pub all_spelled : List Inferred → List (List ℕ) → List (List Inferred)
all_spelled pool rs = map (spelled pool) rs

-- each number is below n
abbrev pub IsHoused : ℕ → List ℕ → Type 0
IsHoused n [] = Unit {0}
IsHoused n (h ∷ hs) = (h < n) × IsHoused n hs

abbrev pub AreHoused : ℕ → List (List ℕ) → Type 0
AreHoused n [] = Unit {0}
AreHoused n (r ∷ rs) = IsHoused n r × AreHoused n rs

-- facts may have come to a pool, and what stood there stands
pub record Grows (old new : List Inferred) : Type 0 where
  pub longer : length old ≤ length new
  pub same : (h : ℕ) → h < length old → at new h ≡ at old h

-- each number is that of the first fact
abbrev pub IsBlank : List ℕ → Type 0
IsBlank [] = Unit {0}
IsBlank (h ∷ hs) = (h ≡ 0) × IsBlank hs

abbrev pub AreBlank : List (List ℕ) → Type 0
AreBlank [] = Unit {0}
AreBlank (r ∷ rs) = IsBlank r × AreBlank rs
