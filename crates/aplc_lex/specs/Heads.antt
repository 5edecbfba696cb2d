-- What stands at the head of a text: blanks or a comment, a token, or a refusal.
use Rattle.std.specs.Prelude.{ℕ, ◌+◌, ◌*◌, ◌-◌, ◌&&◌, ◌||◌, Bool, false, not, List, [], ◌∷◌, nat_eq, nat_lt, if◌then◌else◌, Option, Some, None, ℤ, pos, neg_ℤ, codes}
use Rattle.std.specs.List.{starts_with}
use Rattle.aplc_lex.specs.declared.token.TokenKind.TheVariants as k
use Rattle.aplc_lex.specs.declared.token.Head.{Head}
use Rattle.aplc_lex.specs.declared.token.Head.TheVariants as h
use Rattle.aplc_lex.specs.Signs.{is_digit, is_letter, is_delta, two, three, symbol_of}

-- the longest run of characters of names at the front: how many bytes
abbrev pub name_bytes : List ℕ → ℕ
name_bytes [] = 0
name_bytes (b ∷ []) = if is_letter b || is_digit b then 1 else 0
name_bytes (b ∷ c ∷ []) = if is_letter b || is_digit b then 1 + name_bytes (c ∷ []) else 0
name_bytes (b ∷ c ∷ d ∷ bs) =
    if is_letter b || is_digit b then 1 + name_bytes (c ∷ d ∷ bs) else
    (if is_delta (three b c d) then 3 + name_bytes bs else 0)

-- and how many characters
abbrev pub name_chars : List ℕ → ℕ
name_chars [] = 0
name_chars (b ∷ []) = if is_letter b || is_digit b then 1 else 0
name_chars (b ∷ c ∷ []) = if is_letter b || is_digit b then 1 + name_chars (c ∷ []) else 0
name_chars (b ∷ c ∷ d ∷ bs) =
    if is_letter b || is_digit b then 1 + name_chars (c ∷ d ∷ bs) else
    (if is_delta (three b c d) then 1 + name_chars bs else 0)

-- the longest run of digits at the front: how many
abbrev pub digits : List ℕ → ℕ
digits [] = 0
digits (b ∷ bs) = if is_digit b then 1 + digits bs else 0

-- and its value, behind digits of value v
abbrev pub value_from : ℕ → List ℕ → ℕ
value_from v [] = v
value_from v (b ∷ bs) = if is_digit b then value_from (v * 10 + (b - 48)) bs else v

-- behind an opening quote and n bytes: the bytes up to and with the closing quote, if it comes before the line's end
abbrev pub text_bytes : ℕ → List ℕ → Option ℕ
text_bytes n [] = None
text_bytes n (b ∷ []) = if nat_eq b 39 then Some (n + 1) else None
text_bytes n (b ∷ c ∷ bs) =
    if nat_eq b 10 then None else
    (if nat_eq b 39 then (if nat_eq c 39 then text_bytes (n + 2) bs else Some (n + 1))
    else text_bytes (n + 1) (c ∷ bs))

-- the bytes up to the line's end, which is LF or CR LF
abbrev pub comment_bytes : List ℕ → ℕ
comment_bytes [] = 0
comment_bytes (b ∷ []) = if nat_eq b 10 then 0 else 1
comment_bytes (b ∷ c ∷ bs) =
    if nat_eq b 10 then 0 else (if nat_eq b 13 && nat_eq c 10 then 0 else 1 + comment_bytes (c ∷ bs))

-- the numbers of the refusals
abbrev pub character : ℕ
character = 2

abbrev pub open_quote : ℕ
open_quote = 3

abbrev pub wide_number : ℕ
wide_number = 4

abbrev pub long_name : ℕ
long_name = 5

-- a name has at most 63 characters
abbrev pub named : ℕ → ℕ → Head
named bytes chars = if nat_lt 63 chars then h.Bad long_name else h.Found k.Name bytes

-- a magnitude that is in range
abbrev pub in_range_of : ℕ → Option ℕ
in_range_of v = if nat_lt 9223372036854775807 v then None else Some v

-- a number of this sign and magnitude
abbrev pub number_of : (ℕ → ℤ) → Option ℕ → ℕ → Head
number_of sign None bytes = h.Bad wide_number
number_of sign (Some v) bytes = h.Found (k.Number (sign v)) bytes

-- a number without sign
abbrev pub positive : List ℕ → Head
positive bs = number_of pos (in_range_of (value_from 0 bs)) (digits bs)

-- behind a high minus of two bytes
abbrev pub negative : List ℕ → Head
negative bs =
    if nat_eq (digits bs) 0 then h.Bad character else
    number_of (λ v. neg_ℤ (pos v)) (in_range_of (value_from 0 bs)) (digits bs + 2)

-- a text of so many bytes with its quotes, if it is closed
abbrev pub quoted : Option ℕ → Head
quoted None = h.Bad open_quote
quoted (Some n) = h.Found k.Text n

-- a symbol of so many bytes, if it is one
abbrev pub sign : Option ℕ → ℕ → Head
sign None bytes = h.Bad character
sign (Some c) bytes = h.Found (k.Symbol c) bytes

-- a name begins here
abbrev pub begins_name : List ℕ → Bool
begins_name [] = false
begins_name (b ∷ bs) = nat_lt 0 (name_bytes (b ∷ bs)) && not (is_digit b)

-- behind a quad of three bytes: a name makes it the number input or nothing, and without one it stands alone
abbrev pub quad : List ℕ → Head
quad bs =
    if begins_name bs
    then (if nat_eq (name_bytes bs) 4 && starts_with nat_eq bs (codes "NUMS") then h.Found k.NumsInput 7 else h.Bad character)
    else h.Found (k.Symbol 9109) 3

-- a character of two bytes, and what comes behind it
abbrev pub of_two : ℕ → List ℕ → Head
of_two c bs = if nat_eq c 175 then negative bs else sign (symbol_of c) 2

-- a character of three bytes, and what comes behind it
abbrev pub of_three : Option ℕ → List ℕ → Head
of_three None bs = h.Bad character
of_three (Some c) bs =
    if nat_eq c 9053 then h.Skip (3 + comment_bytes bs) else (if nat_eq c 9109 then quad bs else sign (symbol_of c) 3)

-- two bytes that may be a character, and what comes behind them
abbrev pub of_wide : Option ℕ → ℕ → ℕ → List ℕ → Head
of_wide (Some n) b c bs = of_two n bs
of_wide None b c [] = h.Bad character
of_wide None b c (d ∷ bs) = of_three (three b c d) bs

-- where no ASCII character and no name stands first
abbrev pub wide : List ℕ → Head
wide (b ∷ c ∷ bs) = of_wide (two b c) b c bs
wide _ = h.Bad character

-- behind a CR: it belongs to the end of a line if LF follows
abbrev pub line_end : List ℕ → Head
line_end [] = h.Bad character
line_end (b ∷ bs) = if nat_eq b 10 then h.Found k.LineEnd 2 else h.Bad character

-- what stands at the head: a blank, an end of a line, a text, a number, a name, or else a symbol or a comment
unfoldable pub head : List ℕ → Head
head [] = h.Bad character
head (b ∷ bs) =
    if nat_eq b 32 || nat_eq b 9 then h.Skip 1 else
    (if nat_eq b 10 then h.Found k.LineEnd 1 else
    (if nat_eq b 13 then line_end bs else
    (if nat_eq b 39 then quoted (text_bytes 1 bs) else
    (if is_digit b then positive (b ∷ bs) else
    (if nat_lt 0 (name_bytes (b ∷ bs)) then named (name_bytes (b ∷ bs)) (name_chars (b ∷ bs)) else
    (if nat_lt b 128 then sign (symbol_of b) 1 else wide (b ∷ bs)))))))
