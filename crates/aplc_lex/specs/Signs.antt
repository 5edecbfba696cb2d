-- Characters: which are digits, letters and symbols, and which bytes spell one.
use Rattle.std.specs.Prelude.{ℕ, ◌+◌, ◌*◌, ◌-◌, ◌&&◌, ◌||◌, Bool, false, List, nat_eq, nat_lt, nat_le, if◌then◌else◌, Option, Some, None, codes}
use Rattle.std.specs.List.{list_any}

-- 0 to 9
abbrev pub is_digit : ℕ → Bool
is_digit b = nat_le 48 b && nat_le b 57

-- A to Z, a to z and _
abbrev pub is_letter : ℕ → Bool
is_letter b = nat_le 65 b && nat_le b 90 || (nat_le 97 b && nat_le b 122 || nat_eq b 95)

-- U+2206 or U+2359, the two letters of names that are not ASCII
abbrev pub is_delta : Option ℕ → Bool
is_delta None = false
is_delta (Some c) = nat_eq c 8710 || nat_eq c 9049

-- a byte that goes on with a character
abbrev pub is_tail : ℕ → Bool
is_tail b = nat_le 128 b && nat_lt b 192

-- two bytes that are one character in UTF-8
abbrev pub is_two : ℕ → ℕ → Bool
is_two b c = nat_le 194 b && nat_lt b 224 && is_tail c

-- that character
abbrev pub two : ℕ → ℕ → Option ℕ
two b c = if is_two b c then Some ((b - 192) * 64 + (c - 128)) else None

-- three bytes that are one character: not too long a form, and no surrogate
abbrev pub is_three : ℕ → ℕ → ℕ → Bool
is_three b c d = nat_le 224 b && nat_lt b 240 && is_tail c && is_tail d && (nat_lt 224 b || nat_le 160 c) && (nat_lt b 237 || nat_lt 237 b || nat_lt c 160)

-- that character
abbrev pub three : ℕ → ℕ → ℕ → Option ℕ
three b c d = if is_three b c d then Some ((b - 224) * 4096 + (c - 128) * 64 + (d - 128)) else None

-- the symbols, each in its first spelling
abbrev pub symbols : List ℕ
symbols = codes "+-×⌈⌊<≤=≥>≠∧∨⍲⍱~⍴,⍳↑↓⌽⊖⍉/⌿\\⍀∊.∘←→()[];:⍞⎕∇|"

-- the symbol that a character is, in its first spelling: U+2223 is the bar, U+223C is ~, ^ is ∧ and U+2208 is ∊
unfoldable pub symbol_of : ℕ → Option ℕ
symbol_of c =
    if nat_eq c 8739 then Some 124 else
    (if nat_eq c 8764 then Some 126 else
    (if nat_eq c 94 then Some 8743 else
    (if nat_eq c 8712 then Some 8714 else
    (if list_any (nat_eq c) symbols then Some c else None))))
