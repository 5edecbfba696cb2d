-- Each refusal of tokens has a word.
use Rattle.std.proofs.Common.{◌≡◌, ℕ, ◌+◌, ◌<◌, Bool, true, false, ◌||◌, List, [], ◌∷◌, Option, None, Some, nat_eq, nat_lt, ℤ, pos, refl, ap, subst, arith}
use Rattle.std.proofs.lemmas.Bool.Decides.{nat_tests}
use Rattle.std.specs.Prelude.{neg_ℤ, if◌then◌else◌, IsSome}
use Rattle.aplc_lex.specs.declared.token.TokenKind.{TokenKind}
use Rattle.aplc_lex.specs.declared.token.Refusal.{Refusal}
use Rattle.aplc_lex.specs.declared.token.Head.{Head}
use Rattle.aplc_lex.specs.declared.token.Head.TheVariants as h
use Rattle.aplc_lex.specs.Signs.{is_digit, symbol_of, two, three}
use Rattle.aplc_lex.specs.Heads.{name_bytes, name_chars, digits, value_from, text_bytes, named, in_range_of, number_of, positive, negative, quoted, sign, quad, of_three, of_wide, wide, line_end, head}
use Rattle.aplc_lex.specs.Tokens.{Meets, meets_here, meets_behind_skip, meets_behind_token}
use Rattle.aplc_cli.specs.Came.{refusal_word}

-- ---- A head has bytes, or is refused with a word

data Moves : Head → Type 0 where
  by_skip : {n : ℕ} → 0 < n → Moves (h.Skip n)
  by_token : {t : TokenKind} {n : ℕ} → 0 < n → Moves (h.Found t n)
  not_at_all : {n : ℕ} → IsSome (refusal_word n) → Moves (h.Bad n)

choose : (t : Bool) (x y : Head) → Moves x → Moves y → Moves (if t then x else y)
choose true x y a b = a
choose false x y a b = b

choose_by : (t : Bool) (x y : Head) → (t ≡ true → Moves x) → Moves y → Moves (if t then x else y)
choose_by true x y a b = a refl
choose_by false x y a b = b

moves_sign : (c : Option ℕ) (n : ℕ) → 0 < n → Moves (sign c n)
moves_sign None n l = not_at_all refl
moves_sign (Some c) n l = by_token l

moves_number : (s : ℕ → ℤ) (v : Option ℕ) (n : ℕ) → 0 < n → Moves (number_of s v n)
moves_number s None n l = not_at_all refl
moves_number s (Some v) n l = by_token l

moves_positive : (b : ℕ) (bs : List ℕ) → is_digit b ≡ true → Moves (positive (b ∷ bs))
moves_positive b bs e =
    let one : digits (b ∷ bs) ≡ 1 + digits bs = ap (λ t. if t then 1 + digits bs else 0) e in
    moves_number pos (in_range_of (value_from 0 (b ∷ bs))) (digits (b ∷ bs)) (omega arith)

moves_negative : (bs : List ℕ) → Moves (negative bs)
moves_negative bs = choose (nat_eq (digits bs) 0) _ _ (not_at_all refl) (moves_number (λ v. neg_ℤ (pos v)) (in_range_of (value_from 0 bs)) (digits bs + 2) (omega arith))

data Closes : Option ℕ → Type 0 where
  closes : {n : ℕ} → 0 < n → Closes (Some n)
  stays_open : Closes None

either : (t : Bool) (x y : Option ℕ) → Closes x → Closes y → Closes (if t then x else y)
either true x y a b = a
either false x y a b = b

text_closes : (n : ℕ) (bs : List ℕ) → Closes (text_bytes n bs)
text_closes n [] = stays_open
text_closes n (b ∷ []) = either (nat_eq b 39) _ _ (closes (omega arith)) stays_open
text_closes n (b ∷ c ∷ bs) =
    either (nat_eq b 10) _ _ stays_open
    (either (nat_eq b 39) _ _ (either (nat_eq c 39) _ _ (text_closes (n + 2) bs) (closes (omega arith))) (text_closes (n + 1) (c ∷ bs)))

moves_quoted : (o : Option ℕ) → Closes o → Moves (quoted o)
moves_quoted _ (closes l) = by_token l
moves_quoted _ stays_open = not_at_all refl

moves_line_end : (bs : List ℕ) → Moves (line_end bs)
moves_line_end [] = not_at_all refl
moves_line_end (b ∷ bs) = choose (nat_eq b 10) _ _ (by_token (omega arith)) (not_at_all refl)

moves_quad : (bs : List ℕ) → Moves (quad bs)
moves_quad bs = choose _ _ _ (choose _ _ _ (by_token (omega arith)) (not_at_all refl)) (by_token (omega arith))

moves_three : (c : Option ℕ) (bs : List ℕ) → Moves (of_three c bs)
moves_three None bs = not_at_all refl
moves_three (Some c) bs =
    choose (nat_eq c 9053) _ _ (by_skip (omega arith)) (choose (nat_eq c 9109) _ _ (moves_quad bs) (moves_sign (symbol_of c) 3 (omega arith)))

moves_wide_by : (o : Option ℕ) (b c : ℕ) (bs : List ℕ) → Moves (of_wide o b c bs)
moves_wide_by (Some n) b c bs = choose (nat_eq n 175) _ _ (moves_negative bs) (moves_sign (symbol_of n) 2 (omega arith))
moves_wide_by None b c [] = not_at_all refl
moves_wide_by None b c (d ∷ bs) = moves_three (three b c d) bs

moves_wide : (bs : List ℕ) → Moves (wide bs)
moves_wide [] = not_at_all refl
moves_wide (b ∷ []) = not_at_all refl
moves_wide (b ∷ c ∷ bs) = moves_wide_by (two b c) b c bs

moves_name : (bs : List ℕ) → nat_lt 0 (name_bytes bs) ≡ true → Moves (named (name_bytes bs) (name_chars bs))
moves_name bs e = choose (nat_lt 63 (name_chars bs)) _ _ (not_at_all refl) (by_token (let l : 0 < name_bytes bs = grind (arith, nat_tests) in l))

moves : (b : ℕ) (bs : List ℕ) → Moves (head (b ∷ bs))
unfolding head
moves b bs =
    choose (nat_eq b 32 || nat_eq b 9) _ _ (by_skip (omega arith))
    (choose (nat_eq b 10) _ _ (by_token (omega arith))
    (choose (nat_eq b 13) _ _ (moves_line_end bs)
    (choose (nat_eq b 39) _ _ (moves_quoted (text_bytes 1 bs) (text_closes 1 bs))
    (choose_by (is_digit b) _ _ (moves_positive b bs)
    (choose_by (nat_lt 0 (name_bytes (b ∷ bs))) _ _ (moves_name (b ∷ bs))
    (choose (nat_lt b 128) _ _ (moves_sign (symbol_of b) 1 (omega arith)) (moves_wide (b ∷ bs))))))))

-- a refusal of a head has a word
has_word : {x : Head} {n : ℕ} → Moves x → x ≡ h.Bad n → IsSome (refusal_word n)
has_word (by_skip l) e = absurd (cc)
has_word (by_token l) e = absurd (cc)
has_word {n = m} (not_at_all {n = n} w) e = let same : n ≡ m = cc in subst (λ (i : ℕ). IsSome (refusal_word i)) same w

pub met_word : {bs : List ℕ} {p : ℕ} {r : Refusal} → Meets bs p r → IsSome (refusal_word r.number)
met_word (meets_here {b = b} {bs = bs} e) = has_word (moves b bs) e
met_word (meets_behind_skip e m) = met_word m
met_word (meets_behind_token e m) = met_word m
