-- What the definitions say of small inputs, next to what was worked out by hand.
use Rattle.std.proofs.Common.{◌≡◌, refl, [], ◌∷◌, ◌++◌, codes, pos, negsuc}
use Rattle.std.specs.Char.{encode_utf8}
use Rattle.std.specs.Str.{chars, is_utf8}
use Rattle.aplc_scalar.specs.declared.kind.FaultKind.TheVariants as fault
use Rattle.aplc_scalar.specs.Input.{Line, Unread, input_line, number_line}

-- ---- Characters

no_byte : input_line [] ≡ Unread fault.Input
unfolding input_line
no_byte = refl

-- the end of the input ends a line too
no_line_feed : input_line (codes "abc") ≡ Line (pos 97 ∷ pos 98 ∷ pos 99 ∷ []) []
unfolding input_line is_utf8 chars encode_utf8
no_line_feed = refl

-- an empty line is a line, and leaves what follows its line feed
empty_line : input_line (codes "\nab\n") ≡ Line [] (codes "ab\n")
unfolding input_line is_utf8 chars encode_utf8
empty_line = refl

-- the carriage return before a line feed goes with it
return_and_feed : input_line (codes "ab\r\nc") ≡ Line (pos 97 ∷ pos 98 ∷ []) (codes "c")
unfolding input_line is_utf8 chars encode_utf8
return_and_feed = refl

-- only one does
two_returns : input_line (codes "\r\r\n") ≡ Line (pos 13 ∷ []) []
unfolding input_line is_utf8 chars encode_utf8
two_returns = refl

-- a carriage return that no line feed follows is a character
lone_returns : input_line (codes "a\rb\r") ≡ Line (pos 97 ∷ pos 13 ∷ pos 98 ∷ pos 13 ∷ []) []
unfolding input_line is_utf8 chars encode_utf8
lone_returns = refl

-- `¯`, `⍳`, and the last code point: two, three and four bytes
wide_characters : input_line (194 ∷ 175 ∷ 226 ∷ 141 ∷ 179 ∷ 244 ∷ 143 ∷ 191 ∷ 191 ∷ []) ≡ Line (pos 175 ∷ pos 9075 ∷ pos 1114111 ∷ []) []
unfolding input_line is_utf8 chars encode_utf8
wide_characters = refl

-- a character that is cut off by the line feed
cut_off : input_line (194 ∷ 10 ∷ []) ≡ Unread fault.Input
unfolding input_line is_utf8 chars encode_utf8
cut_off = refl

-- a byte that only goes on, with none before it
no_lead : input_line (97 ∷ 128 ∷ []) ≡ Unread fault.Input
unfolding input_line is_utf8 chars encode_utf8
no_lead = refl

-- more bytes than the character needs
too_long : input_line (192 ∷ 175 ∷ []) ≡ Unread fault.Input
unfolding input_line is_utf8 chars encode_utf8
too_long = refl

-- a surrogate is no character
surrogate : input_line (237 ∷ 160 ∷ 128 ∷ []) ≡ Unread fault.Input
unfolding input_line is_utf8 chars encode_utf8
surrogate = refl

-- nor is a number past the last code point
past_the_last : input_line (244 ∷ 144 ∷ 128 ∷ 128 ∷ []) ≡ Unread fault.Input
unfolding input_line is_utf8 chars encode_utf8
past_the_last = refl

-- bytes after the line do not matter to it
later_bytes : input_line (97 ∷ 10 ∷ 255 ∷ []) ≡ Line (pos 97 ∷ []) (255 ∷ [])
unfolding input_line is_utf8 chars encode_utf8
later_bytes = refl

-- ---- Numbers

no_numbers_left : number_line [] ≡ Unread fault.Input
unfolding number_line
no_numbers_left = refl

-- ` 1 ¯2 -3`
three_numbers : number_line (codes " 1 " ++ (194 ∷ 175 ∷ codes "2 -3\n4")) ≡ Line (pos 1 ∷ negsuc 1 ∷ negsuc 2 ∷ []) (codes "4")
unfolding number_line is_utf8 chars encode_utf8
three_numbers = refl

empty_numbers : number_line (codes "\n") ≡ Line [] []
unfolding number_line is_utf8 chars encode_utf8
empty_numbers = refl

-- blanks alone, a tab among them
blanks_alone : number_line (codes " \t  \r\n") ≡ Line [] []
unfolding number_line is_utf8 chars encode_utf8
blanks_alone = refl

leading_zeros : number_line (codes "007\t-00 ") ≡ Line (pos 7 ∷ pos 0 ∷ []) []
unfolding number_line is_utf8 chars encode_utf8
leading_zeros = refl

greatest : number_line (codes "9223372036854775807 -9223372036854775807") ≡ Line (pos 9223372036854775807 ∷ negsuc 9223372036854775806 ∷ []) []
unfolding number_line is_utf8 chars encode_utf8
greatest = refl

past_the_greatest : number_line (codes "9223372036854775808") ≡ Unread fault.Input
unfolding number_line is_utf8 chars encode_utf8
past_the_greatest = refl

past_the_least : number_line (codes "-9223372036854775808") ≡ Unread fault.Input
unfolding number_line is_utf8 chars encode_utf8
past_the_least = refl

not_a_number : number_line (codes "1x") ≡ Unread fault.Input
unfolding number_line is_utf8 chars encode_utf8
not_a_number = refl

minus_alone : number_line (codes "1 - 2") ≡ Unread fault.Input
unfolding number_line is_utf8 chars encode_utf8
minus_alone = refl

two_minuses : number_line (codes "--1") ≡ Unread fault.Input
unfolding number_line is_utf8 chars encode_utf8
two_minuses = refl

not_parted : number_line (codes "1-2") ≡ Unread fault.Input
unfolding number_line is_utf8 chars encode_utf8
not_parted = refl

plus_sign : number_line (codes "+1") ≡ Unread fault.Input
unfolding number_line is_utf8 chars encode_utf8
plus_sign = refl

-- a carriage return that no line feed follows is no blank
lone_return : number_line (codes "1\r") ≡ Unread fault.Input
unfolding number_line is_utf8 chars encode_utf8
lone_return = refl

-- a line that is not UTF-8 holds no numbers
not_utf8 : number_line (49 ∷ 32 ∷ 255 ∷ []) ≡ Unread fault.Input
unfolding number_line is_utf8 chars encode_utf8
not_utf8 = refl
