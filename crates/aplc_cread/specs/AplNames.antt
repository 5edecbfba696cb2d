-- APL names: what is left to be read on the way.
use Rattle.std.specs.Prelude.{◌≡◌, ℕ, zero, suc, List, [], ◌∷◌, ◌++◌, codes, Option, Some, None, Bool, true, false, ◌||◌, nat_lt, IsTrue}
use Rattle.aplc_cprof.specs.WellFormed.{is_letter, is_digit, are_more}
use Rattle.aplc_cread.specs.Reading.{Pure, Map}

-- what stands behind a name in a location
abbrev pub quote : List ℕ
quote = codes "\", "

-- at most so many further characters of a name, and the quote
pub record More (n : ℕ) (cs w : List ℕ) : Type 0 where
  pub fits : IsTrue (are_more n cs)
  pub text : w ≡ cs ++ quote

-- the name of which these characters were read
abbrev pub Longer : List ℕ → ℕ → List ℕ → List ℕ → Type 0
Longer out n = Map (λ cs. out ++ cs) (More n)

abbrev pub is_more : ℕ → Bool
is_more c = is_letter c || is_digit c

abbrev pub starts_more : Option ℕ → Bool
starts_more None = false
starts_more (Some c) = is_more c

abbrev pub starts_letter : Option ℕ → Bool
starts_letter None = false
starts_letter (Some c) = is_letter c

abbrev pub delta : List ℕ
delta = 226 ∷ 136 ∷ 134 ∷ []

abbrev pub delta_below : List ℕ
delta_below = 226 ∷ 141 ∷ 153 ∷ []

-- the end of a name, and the letters of three bytes
abbrev pub marks : List (List ℕ)
marks = quote ∷ delta ∷ delta_below ∷ []

abbrev pub marks_may : ℕ → List Bool
marks_may n = true ∷ nat_lt 0 n ∷ nat_lt 0 n ∷ []

abbrev pub MarkBehind : ℕ → ℕ → List ℕ → List ℕ → Type 0
MarkBehind n zero = Pure []
MarkBehind zero (suc i) = λ cs w. ⊥
MarkBehind (suc n) (suc zero) = Map (λ cs. delta ++ cs) (More n)
MarkBehind (suc n) (suc (suc i)) = Map (λ cs. delta_below ++ cs) (More n)

abbrev pub deltas : List (List ℕ)
deltas = delta ∷ delta_below ∷ []

abbrev pub DeltaBehind : ℕ → List ℕ → List ℕ → Type 0
DeltaBehind zero = Map (λ cs. delta ++ cs) (More 62)
DeltaBehind (suc i) = Map (λ cs. delta_below ++ cs) (More 62)
