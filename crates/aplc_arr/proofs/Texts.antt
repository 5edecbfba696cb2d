-- The characters of one number, in UTF-8.
use Rattle.std.proofs.Common.{◌≡◌, ℕ, zero, suc, ◌+◌, ◌<◌, ◌^◌, List, [], ◌∷◌, ◌++◌, refl, ap, ◌∙◌, arith}
use Rattle.std.specs.Prelude.{ℤ, pos, negsuc, decimal, flat_map, true, encode_utf8}
use Rattle.std.specs.Str.{IsAscii}
use Rattle.std.proofs.lemmas.Fmt.{IsAscii-decimal}
use Rattle.std.proofs.lemmas.List.Concat.{flat_map-append}
use Rattle.std.proofs.lemmas.Str.{encode_ascii}
use lib.Utf8.{encode}
use Rattle.aplc_scalar.specs.Scalar.{in_range}
use Rattle.aplc_scalar.specs.declared.kind.Kind.TheVariants.{Num}
use Rattle.aplc_scalar.specs.Number.{number_text}
use Rattle.aplc_arr.specs.Display.{number_characters, shown}
use Rattle.aplc_arr.proofs.Ranges.{range-below}

-- ASCII characters are their own bytes
in-utf8 : (cs : List ℕ) → IsAscii cs → flat_map encode_utf8 cs ≡ cs
in-utf8 [] h = refl
in-utf8 (c ∷ cs) h = ap (λ l. l ++ flat_map encode_utf8 cs) (encode_ascii c (h 0)) ∙ ap (λ l. c ∷ l) (in-utf8 cs (λ i. h (suc i)))

digits-in_utf8 : (n : ℕ) → n < 2 ^ 63 → flat_map encode_utf8 (decimal n) ≡ decimal n
digits-in_utf8 n lt = in-utf8 (decimal n) (IsAscii-decimal n (omega (arith, lt)))

high-minus : encode_utf8 175 ≡ 194 ∷ 175 ∷ []
unfolding encode
high-minus = refl

pub number-in_utf8 : (z : ℤ) → in_range z ≡ true → flat_map encode_utf8 (number_characters z) ≡ number_text z
number-in_utf8 (pos n) e = digits-in_utf8 n (range-below (pos n) e)
number-in_utf8 (negsuc n) e = ap (λ l. l ++ flat_map encode_utf8 (decimal (n + 1))) high-minus ∙ ap (λ l. 194 ∷ 175 ∷ l) (digits-in_utf8 (n + 1) (next n (range-below (negsuc n) e)))
  where
    next : (n : ℕ) → suc n < 2 ^ 63 → n + 1 < 2 ^ 63
    next n lt = omega (arith, lt)

-- a number by itself is displayed as its text and a line feed
pub number-shown : (z : ℤ) → in_range z ≡ true → shown record { kind = Num; shape = []; cells = z ∷ [] } ≡ number_text z ++ 10 ∷ []
number-shown z e =
    flat_map-append encode_utf8 (number_characters z) (10 ∷ [])
    ∙ ap (λ l. flat_map encode_utf8 (number_characters z) ++ l) (in-utf8 (10 ∷ []) line-feed)
    ∙ ap (λ l. l ++ 10 ∷ []) (number-in_utf8 z e)
  where
    line-feed : IsAscii (10 ∷ [])
    line-feed zero = omega arith
    line-feed (suc i) = omega arith
