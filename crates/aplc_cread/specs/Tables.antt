-- Constant tables: what is left to be read behind the letter of each.
use Rattle.std.specs.Prelude.{◌≡◌, ℕ, ◌-◌, ◌^◌, List, ◌++◌, length, codes, decimal, ℤ, pos, negsuc, Option, Some, None, Bool, true, false, nat_eq, IsTrue}
use Rattle.std.specs.Fmt.{signed_decimal}
use Rattle.aplc_scalar.specs.Scalar.{in_range}
use Rattle.aplc_cprof.specs.Text.{more_numbers, numbers_text}
use Rattle.aplc_cprof.specs.WellFormed.{all_in_range, is_table}
use Rattle.aplc_cread.specs.Reading.{Map, After, Number}
use Rattle.aplc_cread.specs.Ranges.{Ranged}

-- a number of the range, with its sign
pub record Integer (x : ℤ) (w : List ℕ) : Type 0 where
  pub range : IsTrue (in_range x)
  pub text : w ≡ signed_decimal x

abbrev pub is_minus : Option ℕ → Bool
is_minus None = false
is_minus (Some c) = nat_eq c 45

abbrev pub minus : ℕ → ℤ
minus n = negsuc (n - 1)

-- whether a sign stands there
abbrev pub IntegerBy : Bool → ℤ → List ℕ → Type 0
IntegerBy true = After (codes "-") (Map minus (Ranged 1 (2 ^ 63)))
IntegerBy false = Map (λ n. pos n) (Number (2 ^ 63))

-- n numbers, and the end of their line
pub record Cells (n : ℕ) (xs : List ℤ) (w : List ℕ) : Type 0 where
  pub many : length xs ≡ n
  pub range : IsTrue (all_in_range xs)
  pub text : w ≡ numbers_text xs ++ codes "};\n"

-- the same behind a number, so that each has a comma
pub record MoreCells (n : ℕ) (xs : List ℤ) (w : List ℕ) : Type 0 where
  pub many : length xs ≡ n
  pub range : IsTrue (all_in_range xs)
  pub text : w ≡ more_numbers xs ++ codes "};\n"

-- the table of number k
pub record Table (k : ℕ) (xs : List ℤ) (w : List ℕ) : Type 0 where
  pub fits : IsTrue (is_table xs)
  pub text : w ≡ decimal k ++ (codes "[" ++ (decimal (length xs) ++ (codes "] = {" ++ (numbers_text xs ++ codes "};\n"))))
