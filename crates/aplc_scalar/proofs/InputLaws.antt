-- What is known of every line that is read, and of every one that is not.
use Rattle.std.proofs.Common.{◌≡◌, ◌∙◌, refl, sym, ap, subst, ℕ, ◌+◌, ◌<◌, ◌≤◌, ◌^◌, List, [], ◌∷◌, length, map, ℤ, pos, Bool, true, false, cond, nat_eq, nat_lt, ◌&&◌, ◌||◌, Option, Some, None, option_and_then, option_map, arith, All, IsUtf8, chars}
use Rattle.std.specs.Bool.{⊤}
use Rattle.std.specs.Str.{is_utf8, all_scalars, all_ascii_digits}
use Rattle.std.specs.Str.Parse.{digits_value}
use Rattle.std.proofs.lemmas.Str.{IsUtf8-from_is_utf8, is_utf8-from_IsUtf8, encodes-chars, scalars-chars, length-le-encodes}
use Rattle.std.proofs.lemmas.List.Elements.{All-nil, All-cons}
use Rattle.aplc_scalar.specs.declared.kind.FaultKind.TheVariants as fault
use Rattle.aplc_scalar.specs.Scalar.{in_range, IsInRange}
use Rattle.aplc_scalar.specs.Input.{InputLine, Line, Unread, line_bytes, after_line, starts_with_line_feed, line_text, decoded, is_blank, is_minus, onto_first, parts, magnitude, opposite, number, onto_numbers, numbers_of, numbers, line_or_fault, read_line, codes_of, input_line, number_line}

-- ---- Which bytes spell characters

-- bytes that are UTF-8 spell their characters
pub decoded-utf8 : (bs : List ℕ) → IsUtf8 bs → decoded bs ≡ Some (chars bs)
decoded-utf8 bs u = ap (λ b. cond b (Some (chars bs)) None) (is_utf8-from_IsUtf8 bs u)

-- other bytes spell none
pub decoded-other : (bs : List ℕ) → (IsUtf8 bs → ⊥) → decoded bs ≡ None
decoded-other bs not = by_test (is_utf8 bs) (λ e. not (IsUtf8-from_is_utf8 bs e))
  where
    by_test : (b : Bool) → (b ≡ true → ⊥) → cond b (Some (chars bs)) None ≡ None
    by_test true h = absurd (h refl)
    by_test false h = refl

-- there are no more characters than bytes
pub length-chars : (bs : List ℕ) → IsUtf8 bs → length (chars bs) ≤ length bs
length-chars bs u = subst (λ l. length (chars bs) ≤ length l) (encodes-chars bs u) (length-le-encodes (chars bs))

-- ---- Lines that are read

-- P holds of the cells of a line and of the input after it, if it is read
abbrev pub OfLine : (List ℤ → List ℕ → Type 0) → InputLine → Type 0
OfLine P (Line cells left) = P cells left
OfLine P (Unread k) = ⊤

pub line_has : (P : List ℤ → List ℕ → Type 0) (line : InputLine) (cells : List ℤ) (left : List ℕ) → line ≡ Line cells left → OfLine P line → P cells left
line_has P line cells left e h = subst (OfLine P) e h

-- what stands where a line is read
pub record IsRead (meaning : List ℕ → Option (List ℤ)) (input : List ℕ) (cells : List ℤ) (left : List ℕ) : Type 0 where
  pub some : 0 < length input
  pub short : length (line_bytes input) ≤ 2147483647
  pub utf8 : IsUtf8 (line_text input)
  pub means : meaning (chars (line_text input)) ≡ Some cells
  pub after : left ≡ after_line input

read_only_some : (meaning : List ℕ → Option (List ℤ)) (input : List ℕ) → 0 < length input → OfLine (IsRead meaning input) (cond (nat_lt 2147483647 (length (line_bytes input))) (Unread fault.Limit) (line_or_fault (option_and_then meaning (decoded (line_text input))) (after_line input)))
read_only_some meaning input some = by_length (nat_lt 2147483647 (length (line_bytes input))) refl
  where
    by_meaning : length (line_bytes input) ≤ 2147483647 → IsUtf8 (line_text input) → (m : Option (List ℤ)) → meaning (chars (line_text input)) ≡ m → OfLine (IsRead meaning input) (line_or_fault m (after_line input))
    by_meaning short u None e = tt
    by_meaning short u (Some cells) e = record { some = some; short = short; utf8 = u; means = e; after = refl }

    by_utf8 : length (line_bytes input) ≤ 2147483647 → (t : Bool) → is_utf8 (line_text input) ≡ t → OfLine (IsRead meaning input) (line_or_fault (option_and_then meaning (cond t (Some (chars (line_text input))) None)) (after_line input))
    by_utf8 short false e = tt
    by_utf8 short true e = by_meaning short (IsUtf8-from_is_utf8 (line_text input) e) (meaning (chars (line_text input))) refl

    by_length : (t : Bool) → nat_lt 2147483647 (length (line_bytes input)) ≡ t → OfLine (IsRead meaning input) (cond t (Unread fault.Limit) (line_or_fault (option_and_then meaning (decoded (line_text input))) (after_line input)))
    by_length true e = tt
    by_length false e = by_utf8 (grind (arith, e)) (is_utf8 (line_text input)) refl

-- a line is read only so
pub read_only : (meaning : List ℕ → Option (List ℤ)) (input : List ℕ) → OfLine (IsRead meaning input) (read_line meaning input)
read_only meaning [] = tt
read_only meaning (b ∷ bs) = read_only_some meaning (b ∷ bs) (grind arith)

-- and it is read where it is so
pub read_so : (meaning : List ℕ → Option (List ℤ)) (input : List ℕ) (cells : List ℤ) (left : List ℕ) → IsRead meaning input cells left → read_line meaning input ≡ Line cells left
read_so meaning [] cells left r = let lt = r.some in absurd (omega (arith, lt))
read_so meaning (b ∷ bs) cells left r =
    let input : List ℕ = b ∷ bs in
    let le = r.short in
    let short : nat_lt 2147483647 (length (line_bytes input)) ≡ false = grind (arith, le) in
    ap (λ t. cond t (Unread fault.Limit) (line_or_fault (option_and_then meaning (decoded (line_text input))) (after_line input))) short
    ∙ ap (λ cs. line_or_fault (option_and_then meaning cs) (after_line input)) (decoded-utf8 (line_text input) r.utf8)
    ∙ ap (λ m. line_or_fault m (after_line input)) r.means
    ∙ ap (Line cells) (sym r.after)

-- ---- Lines that are not

-- a line that is too long is LIMIT, whatever its bytes are
pub read_too_long : (meaning : List ℕ → Option (List ℤ)) (input : List ℕ) → 2147483647 < length (line_bytes input) → read_line meaning input ≡ Unread fault.Limit
read_too_long meaning [] lt = absurd (omega (arith, lt))
read_too_long meaning (b ∷ bs) lt =
    let input : List ℕ = b ∷ bs in
    let long : nat_lt 2147483647 (length (line_bytes input)) ≡ true = grind (arith, lt) in
    ap (λ t. cond t (Unread fault.Limit) (line_or_fault (option_and_then meaning (decoded (line_text input))) (after_line input))) long

not_meant : (meaning : List ℕ → Option (List ℤ)) (input : List ℕ) → length (line_bytes input) ≤ 2147483647 → option_and_then meaning (decoded (line_text input)) ≡ None → read_line meaning input ≡ Unread fault.Input
not_meant meaning [] le e = refl
not_meant meaning (b ∷ bs) le e =
    let input : List ℕ = b ∷ bs in
    let short : nat_lt 2147483647 (length (line_bytes input)) ≡ false = grind (arith, le) in
    ap (λ t. cond t (Unread fault.Limit) (line_or_fault (option_and_then meaning (decoded (line_text input))) (after_line input))) short
    ∙ ap (λ m. line_or_fault m (after_line input)) e

-- a line that is not too long and not UTF-8 is INPUT
pub read_not_utf8 : (meaning : List ℕ → Option (List ℤ)) (input : List ℕ) → length (line_bytes input) ≤ 2147483647 → (IsUtf8 (line_text input) → ⊥) → read_line meaning input ≡ Unread fault.Input
read_not_utf8 meaning input le not = not_meant meaning input le (ap (option_and_then meaning) (decoded-other (line_text input) not))

-- and so is one whose characters have no meaning as cells
pub read_no_meaning : (meaning : List ℕ → Option (List ℤ)) (input : List ℕ) → length (line_bytes input) ≤ 2147483647 → IsUtf8 (line_text input) → meaning (chars (line_text input)) ≡ None → read_line meaning input ≡ Unread fault.Input
read_no_meaning meaning input le u e = not_meant meaning input le (ap (option_and_then meaning) (decoded-utf8 (line_text input) u) ∙ e)

-- ---- The cells of a line

-- the text of a line has no more bytes than stand before its end
pub text_short : (input : List ℕ) → length (line_text input) ≤ length (line_bytes input)
text_short [] = omega arith
text_short (b ∷ bs) = by_tests (nat_eq b 10) (nat_eq b 13 && starts_with_line_feed bs) (text_short bs)
  where
    by_tests : (x y : Bool) → length (line_text bs) ≤ length (line_bytes bs) → length (cond (x || y) [] (b ∷ line_text bs)) ≤ length (cond x [] (b ∷ line_bytes bs))
    by_tests true y le = omega arith
    by_tests false true le = omega arith
    by_tests false false le = omega (arith, le)

abbrev cells_in : Option (List ℤ) → List ℤ
cells_in None = []
cells_in (Some cells) = cells

-- a line of characters is the scalar values that its bytes spell, no more than 2147483647
pub input_line_is : (input : List ℕ) (cells : List ℤ) (left : List ℕ) → input_line input ≡ Line cells left → (cells ≡ map pos (chars (line_text input))) × (all_scalars (chars (line_text input)) ≡ true) × (length (chars (line_text input)) ≤ 2147483647) × (left ≡ after_line input)
unfolding input_line
input_line_is input cells left e =
    let r = line_has (IsRead codes_of input) (read_line codes_of input) cells left e (read_only codes_of input) in
    let fewer = length-chars (line_text input) r.utf8 in
    let shorter = text_short input in
    let short = r.short in
    (sym (ap cells_in r.means), scalars-chars (line_text input) r.utf8, omega (arith, fewer, shorter, short), r.after)

-- ---- The numbers of a line

-- the characters of all parts
abbrev total : List (List ℕ) → ℕ
total [] = 0
total (w ∷ ws) = length w + total ws

total_first : (c : ℕ) (ws : List (List ℕ)) → total (onto_first c ws) ≡ 1 + total ws
total_first c [] = omega arith
total_first c (w ∷ ws) = omega arith

total_parts : (cs : List ℕ) → total (parts cs) ≤ length cs
total_parts [] = omega arith
total_parts (c ∷ cs) = by_test (is_blank c) (parts cs) (total_parts cs)
  where
    by_test : (b : Bool) (ws : List (List ℕ)) → total ws ≤ length cs → total (cond b ([] ∷ ws) (onto_first c ws)) ≤ length (c ∷ cs)
    by_test true ws le = omega (arith, le)
    by_test false ws le = let e = total_first c ws in omega (arith, e, le)

-- P holds of what there is, if there is something
abbrev IfThere : {A : Type 0} → (A → Type 0) → Option A → Type 0
IfThere P None = ⊤
IfThere P (Some a) = P a

magnitude_fits : (ds : List ℕ) → IfThere (λ n. n < 2 ^ 63) (magnitude ds)
magnitude_fits ds = by_tests (nat_lt 0 (length ds)) (all_ascii_digits ds) (nat_lt (digits_value 10 ds) (2 ^ 63)) refl
  where
    by_tests : (a b t : Bool) → nat_lt (digits_value 10 ds) (2 ^ 63) ≡ t → IfThere (λ n. n < 2 ^ 63) (cond (a && b && t) (Some (digits_value 10 ds)) None)
    by_tests false b t e = tt
    by_tests true false t e = tt
    by_tests true true false e = tt
    by_tests true true true e = grind (arith, e)

in_range-pos : (n : ℕ) → n < 2 ^ 63 → IsInRange (pos n)
unfolding in_range
in_range-pos n lt = grind (arith, lt)

in_range-opposite : (n : ℕ) → n < 2 ^ 63 → IsInRange (opposite n)
unfolding in_range
in_range-opposite n lt = grind (arith, lt)

mapped : {A B : Type 0} (P : A → Type 0) (Q : B → Type 0) (f : A → B) → ((a : A) → P a → Q (f a)) → (o : Option A) → IfThere P o → IfThere Q (option_map f o)
mapped P Q f h None p = tt
mapped P Q f h (Some a) p = h a p

number_in_range : (w : List ℕ) → IfThere IsInRange (number w)
number_in_range [] = tt
number_in_range (c ∷ cs) = by_test (is_minus c)
  where
    by_test : (b : Bool) → IfThere IsInRange (cond b (option_map opposite (magnitude cs)) (option_map pos (magnitude (c ∷ cs))))
    by_test true = mapped (λ n. n < 2 ^ 63) IsInRange opposite in_range-opposite (magnitude cs) (magnitude_fits cs)
    by_test false = mapped (λ n. n < 2 ^ 63) IsInRange pos in_range-pos (magnitude (c ∷ cs)) (magnitude_fits (c ∷ cs))

-- so many numbers at most, each of them in range
abbrev Numbers : ℕ → List ℤ → Type 0
Numbers k ns = (length ns ≤ k) × All IsInRange ns

numbers_fit : (ws : List (List ℕ)) → IfThere (Numbers (total ws)) (numbers_of ws)
numbers_fit [] = (omega arith, All-nil IsInRange)
numbers_fit ([] ∷ ws) = subst (λ k. IfThere (Numbers k) (numbers_of ws)) (omega arith) (numbers_fit ws)
numbers_fit ((c ∷ cs) ∷ ws) = both (number (c ∷ cs)) (numbers_of ws) (number_in_range (c ∷ cs)) (numbers_fit ws)
  where
    both : (n : Option ℤ) (ns : Option (List ℤ)) → IfThere IsInRange n → IfThere (Numbers (total ws)) ns → IfThere (Numbers (total ((c ∷ cs) ∷ ws))) (onto_numbers n ns)
    both None ns p q = tt
    both (Some n) None p q = tt
    both (Some n) (Some ns) p (le, all) = (omega (arith, le), All-cons IsInRange n ns p all)

-- a line of numbers has no more than 2147483647, each of them in range
pub number_line_is : (input : List ℕ) (cells : List ℤ) (left : List ℕ) → number_line input ≡ Line cells left → (numbers (chars (line_text input)) ≡ Some cells) × (length cells ≤ 2147483647) × All IsInRange cells × (left ≡ after_line input)
unfolding number_line
number_line_is input cells left e =
    let r = line_has (IsRead numbers input) (read_line numbers input) cells left e (read_only numbers input) in
    let cs : List ℕ = chars (line_text input) in
    let fit = subst (IfThere (Numbers (total (parts cs)))) r.means (numbers_fit (parts cs)) in
    let few = fit.0 in
    let parted = total_parts cs in
    let fewer = length-chars (line_text input) r.utf8 in
    let shorter = text_short input in
    let short = r.short in
    (r.means, omega (arith, few, parted, fewer, shorter, short), fit.1, r.after)
