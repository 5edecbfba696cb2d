-- Names with numbers, and lines that declare them.
use Rattle.std.specs.Prelude.{◌≡◌, ℕ, zero, suc, ◌+◌, ◌-◌, ◌<◌, ◌^◌, List, [], ◌∷◌, ◌++◌, codes, decimal, Bool, true, false, cond, nat_lt}
use Rattle.aplc_cprof.specs.Text.{listed_from}
use Rattle.aplc_cread.specs.Reading.{Any, NoDigit, is_digit, Pure, Bind, Lit}

-- a number between two fixed texts
abbrev pub numbered : List ℕ → List ℕ → ℕ → List ℕ
numbered head end k = head ++ (decimal k ++ end)

-- what may follow it: where nothing stands behind the number, no digit
abbrev pub Beyond : List ℕ → List ℕ → Type 0
Beyond [] = NoDigit
Beyond (c ∷ cs) = Any

-- nothing, or a text that does not begin with a digit
abbrev pub closes : List ℕ → Bool
closes [] = true
closes (c ∷ cs) = cond (is_digit c) false true

-- of n names those from number k on, each behind a comma, and the end of their line
pub record Listing (head end : List ℕ) (k n : ℕ) (w : List ℕ) : Type 0 where
  pub more : ℕ
  pub count : n ≡ k + more
  pub below : n < 2 ^ 32
  pub text : w ≡ listed_from (numbered head end) k more ++ codes ";\n"

abbrev pub list_texts : List (List ℕ)
list_texts = codes ";\n" ∷ codes ", " ∷ []

abbrev pub list_may : ℕ → List Bool
list_may k = true ∷ nat_lt k (2 ^ 32 - 1) ∷ []

-- behind the end of the line, or behind a comma
abbrev pub ListingBehind : List ℕ → List ℕ → ℕ → ℕ → ℕ → List ℕ → Type 0
ListingBehind head end k zero = Pure k
ListingBehind head end k (suc i) = Bind (Lit (numbered head end k)) (λ u. Listing head end (k + 1))
