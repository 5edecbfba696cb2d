-- Digits and their value.
use Rattle.std.specs.Prelude.{ℕ, ◌+◌, ◌-◌, ◌*◌, ◌^◌, Bool, nat_le, nat_lt, ◌&&◌, List, [], ◌∷◌, Option, Some, None, if◌then◌else◌}
use Rattle.std.specs.List.{list_all}

-- 0 to 9
abbrev pub is_digit : ℕ → Bool
is_digit b = nat_le 48 b && nat_le b 57

-- the value of digits, behind digits of value n
abbrev pub digits_from : ℕ → List ℕ → ℕ
digits_from n [] = n
digits_from n (b ∷ bs) = digits_from (n * 10 + (b - 48)) bs

-- one or more digits, of a value of at most 9223372036854775807
unfoldable pub magnitude : List ℕ → Option ℕ
magnitude [] = None
magnitude (b ∷ bs) = if list_all is_digit (b ∷ bs) && nat_lt (digits_from 0 (b ∷ bs)) (2 ^ 63) then Some (digits_from 0 (b ∷ bs)) else None
