-- A line of the input, and the numbers of one.
use Rattle.std.specs.Prelude.{ℕ, ◌^◌, List, [], ◌∷◌, length, map, ℤ, pos, ◌-ℤ◌, Bool, false, nat_eq, nat_lt, ◌&&◌, ◌||◌, Option, Some, None, option_and_then, if◌then◌else◌}
use Rattle.std.specs.Option.{option_map}
use Rattle.std.specs.Str.{chars, is_utf8, all_ascii_digits}
use Rattle.std.specs.Str.Parse.{digits_value}
use Rattle.aplc_scalar.specs.declared.kind.FaultKind.{FaultKind}
use Rattle.aplc_scalar.specs.declared.kind.FaultKind.TheVariants as fault

-- what a read of a line gives: cells and the input left after the line, or why there is no such line
pub data InputLine : Type 0 where
  Line : List ℤ → List ℕ → InputLine
  Unread : FaultKind → InputLine

-- ---- Where a line ends

-- the bytes before the first line feed, all of them where there is none
abbrev pub line_bytes : List ℕ → List ℕ
line_bytes [] = []
line_bytes (b ∷ bs) = if nat_eq b 10 then [] else b ∷ line_bytes bs

-- the input left after the first line feed
abbrev pub after_line : List ℕ → List ℕ
after_line [] = []
after_line (b ∷ bs) = if nat_eq b 10 then bs else after_line bs

abbrev pub starts_with_line_feed : List ℕ → Bool
starts_with_line_feed [] = false
starts_with_line_feed (b ∷ bs) = nat_eq b 10

-- the line's own bytes: a carriage return right before the line feed is not one of them
abbrev pub line_text : List ℕ → List ℕ
line_text [] = []
line_text (b ∷ bs) = if nat_eq b 10 || (nat_eq b 13 && starts_with_line_feed bs) then [] else b ∷ line_text bs

-- the characters that the bytes spell in UTF-8, if they do
abbrev pub decoded : List ℕ → Option (List ℕ)
decoded bs = if is_utf8 bs then Some (chars bs) else None

-- ---- Numbers

-- a space or a tab
abbrev pub is_blank : ℕ → Bool
is_blank c = nat_eq c 32 || nat_eq c 9

-- a high minus or a minus sign
abbrev pub is_minus : ℕ → Bool
is_minus c = nat_eq c 175 || nat_eq c 45

-- the parts with one more character at the start of the first
abbrev pub onto_first : ℕ → List (List ℕ) → List (List ℕ)
onto_first c [] = (c ∷ []) ∷ []
onto_first c (w ∷ ws) = (c ∷ w) ∷ ws

-- what stands before, between and after the blanks; between two blanks that touch it is empty
abbrev pub parts : List ℕ → List (List ℕ)
parts [] = [] ∷ []
parts (c ∷ cs) = if is_blank c then [] ∷ parts cs else onto_first c (parts cs)

-- the magnitude that one or more digits write, if it is at most 9223372036854775807
abbrev pub magnitude : List ℕ → Option ℕ
magnitude ds = if nat_lt 0 (length ds) && all_ascii_digits ds && nat_lt (digits_value 10 ds) (2 ^ 63) then Some (digits_value 10 ds) else None

abbrev pub opposite : ℕ → ℤ
opposite n = pos 0 -ℤ pos n

-- the number that a part writes: digits, with at most one minus directly before them
abbrev pub number : List ℕ → Option ℤ
number [] = None
number (c ∷ cs) = if is_minus c then option_map opposite (magnitude cs) else option_map pos (magnitude (c ∷ cs))

-- one number before others, if all of them are there
abbrev pub onto_numbers : Option ℤ → Option (List ℤ) → Option (List ℤ)
onto_numbers None ns = None
onto_numbers (Some n) None = None
onto_numbers (Some n) (Some ns) = Some (n ∷ ns)

-- the numbers of the parts that are not empty, if each of them is one
abbrev pub numbers_of : List (List ℕ) → Option (List ℤ)
numbers_of [] = Some []
numbers_of ([] ∷ ws) = numbers_of ws
numbers_of ((c ∷ cs) ∷ ws) = onto_numbers (number (c ∷ cs)) (numbers_of ws)

-- the numbers that a line of these characters holds, if it holds nothing but numbers and blanks
abbrev pub numbers : List ℕ → Option (List ℤ)
numbers cs = numbers_of (parts cs)

-- ---- Reading a line

-- a line with these cells, INPUT where there are none
abbrev pub line_or_fault : Option (List ℤ) → List ℕ → InputLine
line_or_fault None left = Unread fault.Input
line_or_fault (Some cells) left = Line cells left

-- the next line, whose characters have a meaning as cells: LIMIT where it is too long, whatever its bytes are,
-- and INPUT where no byte is left, the bytes are not UTF-8, or the characters have no such meaning
abbrev pub read_line : (List ℕ → Option (List ℤ)) → List ℕ → InputLine
read_line meaning [] = Unread fault.Input
read_line meaning (b ∷ bs) =
    if nat_lt 2147483647 (length (line_bytes (b ∷ bs))) then Unread fault.Limit
    else line_or_fault (option_and_then meaning (decoded (line_text (b ∷ bs)))) (after_line (b ∷ bs))

-- each character is a cell
abbrev pub codes_of : List ℕ → Option (List ℤ)
codes_of cs = Some (map pos cs)

-- the next line of the input left, as characters
unfoldable pub input_line : List ℕ → InputLine
input_line = read_line codes_of

-- the next line of the input left, as whole numbers parted by blanks
unfoldable pub number_line : List ℕ → InputLine
number_line = read_line numbers
