-- Values of digits, and texts between quotes, by index.
use Rattle.std.proofs.Common.{◌≡◌, ℕ, ◌+◌, ◌*◌, ◌-◌, ◌≤◌, ◌<◌, List, [], ◌∷◌, arith, true, false, cond, Some, None, sym, ap, ◌∙◌, drop, get_or, length, suc, nat_lt, nat_eq, ap₂}
use Rattle.std.proofs.Common.{drop-cons, add-one, length-drop}
use Rattle.std.proofs.lemmas.List.{get_or-drop}
use Rattle.std.proofs.lemmas.Bool.Decides.{nat_tests}
use Rattle.aplc_lex.specs.Signs.{is_digit}
use Rattle.aplc_lex.specs.Heads.{value_from, in_range_of, text_bytes}
use Rattle.aplc_lex.specs.Parts.{at_quote}

-- a value never falls
pub value_rises : (v : ℕ) (bs : List ℕ) → v ≤ value_from v bs
value_rises v [] = omega arith
value_rises v (b ∷ bs) = elim (is_digit b) as (λ t. v ≤ cond t (value_from (v * 10 + (b - 48)) bs) v) [ true ↦ (let h = value_rises (v * 10 + (b - 48)) bs in omega arith) | false ↦ omega arith ]

pub over_top : (v : ℕ) (bs : List ℕ) → 9223372036854775807 < v → in_range_of (value_from v bs) ≡ None
over_top v bs h = let g = value_rises v bs in let t : nat_lt 9223372036854775807 (value_from v bs) ≡ true = grind (arith, nat_tests) in ap (λ b. cond b None (Some (value_from v bs))) t

next_digit : (bytes : List ℕ) (v i : ℕ) → i < length bytes → is_digit (get_or bytes i 0) ≡ true → value_from v (drop i bytes) ≡ value_from (v * 10 + (get_or bytes i 0 - 48)) (drop (suc i) bytes)
next_digit bytes v i h d = ap (value_from v) (drop-cons bytes i 0 h) ∙ ap (λ t. cond t (value_from (v * 10 + (get_or bytes i 0 - 48)) (drop (suc i) bytes)) v) d

-- a value that is too big already, or by its next digit
pub too_big : (bytes : List ℕ) (v i : ℕ) → i < length bytes → value_from v (drop i bytes) ≡ value_from 0 bytes → is_digit (get_or bytes i 0) ≡ true → 922337203685477580 < v → None ≡ in_range_of (value_from 0 bytes)
too_big bytes v i h e d big = sym (sym (ap in_range_of (sym (next_digit bytes v i h d) ∙ e)) ∙ over_top (v * 10 + (get_or bytes i 0 - 48)) (drop (suc i) bytes) (omega arith))

pub too_big_now : (bytes : List ℕ) (v i : ℕ) → i < length bytes → value_from v (drop i bytes) ≡ value_from 0 bytes → is_digit (get_or bytes i 0) ≡ true → 9223372036854775807 < v * 10 + (get_or bytes i 0 - 48) → None ≡ in_range_of (value_from 0 bytes)
too_big_now bytes v i h e d big = sym (sym (ap in_range_of (sym (next_digit bytes v i h d) ∙ e)) ∙ over_top (v * 10 + (get_or bytes i 0 - 48)) (drop (suc i) bytes) big)

pub ruleset values = (too_big, too_big_now)

text_split : (bytes : List ℕ) (i : ℕ) → i < length bytes → drop i bytes ≡ get_or bytes i 0 ∷ drop (i + 1) bytes
text_split bytes i h = rw (add-one) (drop-cons bytes i 0 h)

text_one : (n b : ℕ) (bs : List ℕ) → nat_eq b 10 ≡ false → nat_eq b 39 ≡ false → text_bytes (n + 1) bs ≡ text_bytes n (b ∷ bs)
text_one n b [] e f = sym (ap (λ y. cond y (Some (n + 1)) None) f)
text_one n b (c ∷ bs) e f = sym (ap₂ (λ x y. cond x None (cond y (cond (nat_eq c 39) (text_bytes (n + 2) bs) (Some (n + 1))) (text_bytes (n + 1) (c ∷ bs)))) e f)

text_two : (n b c : ℕ) (bs : List ℕ) → nat_eq b 10 ≡ false → nat_eq b 39 ≡ true → nat_eq c 39 ≡ true → text_bytes (n + 2) bs ≡ text_bytes n (b ∷ c ∷ bs)
text_two n b c bs e f g = sym (ap₂ (λ x y. cond x None (cond y (cond (nat_eq c 39) (text_bytes (n + 2) bs) (Some (n + 1))) (text_bytes (n + 1) (c ∷ bs)))) e f ∙ ap (λ y. cond y (text_bytes (n + 2) bs) (Some (n + 1))) g)

text_last : (n b : ℕ) (bs : List ℕ) → nat_eq b 10 ≡ false → nat_eq b 39 ≡ true → (0 < length bs → nat_eq (get_or bs 0 0) 39 ≡ false) → Some (n + 1) ≡ text_bytes n (b ∷ bs)
text_last n b [] e f g = sym (ap (λ y. cond y (Some (n + 1)) None) f)
text_last n b (c ∷ bs) e f g = sym (ap₂ (λ x y. cond x None (cond y (cond (nat_eq c 39) (text_bytes (n + 2) bs) (Some (n + 1))) (text_bytes (n + 1) (c ∷ bs)))) e f ∙ ap (λ y. cond y (text_bytes (n + 2) bs) (Some (n + 1))) (g (omega arith)))

text_feed : (n b : ℕ) (bs : List ℕ) → nat_eq b 10 ≡ true → None ≡ text_bytes n (b ∷ bs)
text_feed n b [] e = let f : nat_eq b 39 ≡ false = grind (arith, nat_tests) in sym (ap (λ y. cond y (Some (n + 1)) None) f)
text_feed n b (c ∷ bs) e = sym (ap (λ x. cond x None (cond (nat_eq b 39) (cond (nat_eq c 39) (text_bytes (n + 2) bs) (Some (n + 1))) (text_bytes (n + 1) (c ∷ bs)))) e)

-- by index
pub text_skip : (bytes : List ℕ) (n i : ℕ) → i < length bytes → nat_eq (get_or bytes i 0) 10 ≡ false → nat_eq (get_or bytes i 0) 39 ≡ false → text_bytes (n + 1) (drop (i + 1) bytes) ≡ text_bytes n (drop i bytes)
text_skip bytes n i h e f = text_one n _ _ e f ∙ sym (ap (text_bytes n) (text_split bytes i h))

pub quote_in : (bytes : List ℕ) (i : ℕ) → at_quote bytes i ≡ true → (i < length bytes) × (nat_eq (get_or bytes i 0) 39 ≡ true)
unfolding at_quote
quote_in bytes i h = (grind (arith, nat_tests), grind (arith, nat_tests))

quote_out : (bytes : List ℕ) (i : ℕ) → at_quote bytes i ≡ false → 0 < length (drop i bytes) → nat_eq (get_or (drop i bytes) 0 0) 39 ≡ false
unfolding at_quote
quote_out bytes i h l = let e = get_or-drop i bytes 0 0 in let k = length-drop i bytes in let z : i + 0 ≡ i = omega arith in
    ap (λ b. nat_eq b 39) (e ∙ ap (λ j. get_or bytes j 0) z) ∙ grind (arith, nat_tests)

pub text_double : (bytes : List ℕ) (n i : ℕ) → i < length bytes → nat_eq (get_or bytes i 0) 10 ≡ false → nat_eq (get_or bytes i 0) 39 ≡ true → at_quote bytes (i + 1) ≡ true → text_bytes (n + 2) (drop (i + 2) bytes) ≡ text_bytes n (drop i bytes)
text_double bytes n i h e f q =
    let two : i + 1 + 1 ≡ i + 2 = omega arith in let g = quote_in bytes (i + 1) q in
    text_two n _ _ (drop (i + 2) bytes) e f g.1 ∙ sym (ap (text_bytes n) (text_split bytes i h ∙ ap (λ (t : List ℕ). get_or bytes i 0 ∷ t) (text_split bytes (i + 1) g.0 ∙ ap (λ j. get_or bytes (i + 1) 0 ∷ drop j bytes) two)))

pub text_end : (bytes : List ℕ) (n i : ℕ) → i < length bytes → nat_eq (get_or bytes i 0) 10 ≡ false → nat_eq (get_or bytes i 0) 39 ≡ true → at_quote bytes (i + 1) ≡ false → Some (n + 1) ≡ text_bytes n (drop i bytes)
text_end bytes n i h e f q = text_last n _ (drop (i + 1) bytes) e f (quote_out bytes (i + 1) q) ∙ sym (ap (text_bytes n) (text_split bytes i h))

pub text_none : (bytes : List ℕ) (n i : ℕ) → i < length bytes → nat_eq (get_or bytes i 0) 10 ≡ true → None ≡ text_bytes n (drop i bytes)
text_none bytes n i h e = text_feed n _ _ e ∙ sym (ap (text_bytes n) (text_split bytes i h))

pub ruleset texts = (text_skip, text_double, text_end, text_none)
