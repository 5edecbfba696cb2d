-- The text of a number as APL writes it.
use Rattle.std.specs.Prelude.{ℕ, ◌+◌, List, ◌∷◌, decimal, ℤ, pos, negsuc}

-- decimal digits, behind a high minus (two bytes) where the number is negative
abbrev pub number_text : ℤ → List ℕ
number_text (pos n) = decimal n
number_text (negsuc n) = 194 ∷ 175 ∷ decimal (n + 1)
