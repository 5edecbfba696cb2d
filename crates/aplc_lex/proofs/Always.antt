-- A text has tokens or a first refusal.
use Rattle.std.proofs.Common.{◌≡◌, sym, ap, refl, subst, ℕ, zero, suc, ◌+◌, ◌-◌, ◌<◌, ◌≤◌, ◌&&◌, ◌||◌, ◌⊎◌, inl, inr, Bool, true, false, if◌then◌else◌, List, [], ◌∷◌, length, take, drop, Option, Some, None, ℤ, pos, neg_ℤ, nat_eq, nat_lt, codes, arith, length-drop, IsUtf8}
use Rattle.std.specs.List.{starts_with}
use Rattle.std.specs.Str.{IsValidUpTo, is_utf8}
use Rattle.std.proofs.lemmas.Str.{IsUtf8-from_is_utf8, is_utf8-from_IsUtf8}
use Rattle.std.proofs.lemmas.Bool.Decides.{nat_tests}
use Rattle.std.proofs.lemmas.List.{take_all}
use Rattle.aplc_lex.specs.Signs.{is_digit, two, three, symbol_of}
use Rattle.aplc_lex.specs.Heads.{name_bytes, name_chars, digits, text_bytes, comment_bytes, named, in_range_of, number_of, value_from, positive, negative, quoted, sign, begins_name, quad, of_two, of_three, of_wide, wide, line_end, head}
use Rattle.aplc_lex.specs.Tokens.{IsCut, at_end, skips, finds, Meets, meets_here, meets_behind_skip, meets_behind_token, token, mark, refusal, AreTokens, IsFirst}
use Rattle.aplc_lex.specs.declared.token.Head.{Head}
use Rattle.aplc_lex.specs.declared.token.Head.TheVariants as h
use Rattle.aplc_lex.specs.declared.token.Token.{Token}
use Rattle.aplc_lex.specs.declared.token.TokenKind.TheVariants as k
use Rattle.aplc_lex.specs.declared.token.Refusal.{Refusal}
use Rattle.aplc_lex.proofs.First.{head_first, utf8_first, both_first}

-- ---- Heads

-- it takes a byte or more, or is a refusal of number 2 or above
abbrev Moves : Head → Type 0
Moves (h.Skip n) = 0 < n
Moves (h.Found x n) = 0 < n
Moves (h.Bad r) = 2 ≤ r

choose : (t : Bool) (x y : Head) → (t ≡ true → Moves x) → (t ≡ false → Moves y) → Moves (if t then x else y)
choose true x y f g = f refl
choose false x y f g = g refl

moves_number : (s : ℕ → ℤ) (x : Option ℕ) (n : ℕ) → 0 < n → Moves (number_of s x n)
moves_number s None n l = omega arith
moves_number s (Some v) n l = l

moves_positive : (b : ℕ) (bs : List ℕ) → is_digit b ≡ true → Moves (positive (b ∷ bs))
moves_positive b bs e =
    let n : digits (b ∷ bs) ≡ 1 + digits bs = ap (λ t. if t then 1 + digits bs else 0) e in
    moves_number pos (in_range_of (value_from 0 (b ∷ bs))) (digits (b ∷ bs)) (omega arith)

moves_negative : (bs : List ℕ) → Moves (negative bs)
moves_negative bs = choose (nat_eq (digits bs) 0) (h.Bad 2) (number_of (λ v. neg_ℤ (pos v)) (in_range_of (value_from 0 bs)) (digits bs + 2)) (λ e. omega arith)
    (λ e. moves_number (λ v. neg_ℤ (pos v)) (in_range_of (value_from 0 bs)) (digits bs + 2) (omega arith))

moves_sign : (x : Option ℕ) (n : ℕ) → 0 < n → Moves (sign x n)
moves_sign None n l = omega arith
moves_sign (Some c) n l = l

moves_text : (n : ℕ) (bs : List ℕ) → Moves (quoted (text_bytes n bs))
moves_text n [] = omega arith
moves_text n (b ∷ []) = pick (nat_eq b 39)
  where
    pick : (t : Bool) → Moves (quoted (if t then Some (n + 1) else None))
    pick true = omega arith
    pick false = omega arith
moves_text n (b ∷ c ∷ bs) = pick (nat_eq b 10) (nat_eq b 39) (nat_eq c 39) (moves_text (n + 2) bs) (moves_text (n + 1) (c ∷ bs))
  where
    pick : (s t u : Bool) → Moves (quoted (text_bytes (n + 2) bs)) → Moves (quoted (text_bytes (n + 1) (c ∷ bs)))
        → Moves (quoted (if s then None else (if t then (if u then text_bytes (n + 2) bs else Some (n + 1)) else text_bytes (n + 1) (c ∷ bs))))
    pick true t u f g = omega arith
    pick false true true f g = f
    pick false true false f g = omega arith
    pick false false u f g = g

moves_named : (n c : ℕ) → 0 < n → Moves (named n c)
moves_named n c l = choose (nat_lt 63 c) (h.Bad 5) (h.Found k.Name n) (λ e. omega arith) (λ e. l)

moves_line_end : (bs : List ℕ) → Moves (line_end bs)
moves_line_end [] = omega arith
moves_line_end (c ∷ bs) = choose (nat_eq c 10) (h.Found k.LineEnd 2) (h.Bad 2) (λ e. omega arith) (λ e. omega arith)

moves_quad : (bs : List ℕ) → Moves (quad bs)
moves_quad bs =
    let x : Bool = nat_eq (name_bytes bs) 4 && starts_with nat_eq bs (codes "NUMS") in
    choose (begins_name bs) (if x then h.Found k.NumsInput 7 else h.Bad 2) (h.Found (k.Symbol 9109) 3) (λ e. choose x (h.Found k.NumsInput 7) (h.Bad 2) (λ f. omega arith) (λ f. omega arith)) (λ e. omega arith)

moves_two : (bs : List ℕ) (x : ℕ) → Moves (of_two x bs)
moves_two bs x = choose (nat_eq x 175) (negative bs) (sign (symbol_of x) 2) (λ e. moves_negative bs) (λ e. moves_sign (symbol_of x) 2 (omega arith))

moves_three : (bs : List ℕ) (x : Option ℕ) → Moves (of_three x bs)
moves_three bs None = omega arith
moves_three bs (Some x) = choose (nat_eq x 9053) (h.Skip (3 + comment_bytes bs)) (if nat_eq x 9109 then quad bs else sign (symbol_of x) 3) (λ e. omega arith)
    (λ e. choose (nat_eq x 9109) (quad bs) (sign (symbol_of x) 3) (λ f. moves_quad bs) (λ f. moves_sign (symbol_of x) 3 (omega arith)))

moves_of_wide : (b c : ℕ) (bs : List ℕ) (x : Option ℕ) → Moves (of_wide x b c bs)
moves_of_wide b c bs (Some x) = moves_two bs x
moves_of_wide b c [] None = omega arith
moves_of_wide b c (d ∷ bs) None = moves_three bs (three b c d)

moves_wide : (b : ℕ) (bs : List ℕ) → Moves (wide (b ∷ bs))
moves_wide b [] = omega arith
moves_wide b (c ∷ bs) = moves_of_wide b c bs (two b c)

abbrev name_or_rest : ℕ → List ℕ → Head
name_or_rest b bs = if nat_lt 0 (name_bytes (b ∷ bs)) then named (name_bytes (b ∷ bs)) (name_chars (b ∷ bs)) else (if nat_lt b 128 then sign (symbol_of b) 1 else wide (b ∷ bs))

moves_name : (b : ℕ) (bs : List ℕ) → Moves (name_or_rest b bs)
moves_name b bs = choose (nat_lt 0 (name_bytes (b ∷ bs))) (named (name_bytes (b ∷ bs)) (name_chars (b ∷ bs))) (if nat_lt b 128 then sign (symbol_of b) 1 else wide (b ∷ bs))
    (λ e. (let l : 0 < name_bytes (b ∷ bs) = grind (arith, nat_tests) in moves_named (name_bytes (b ∷ bs)) (name_chars (b ∷ bs)) l))
    (λ e. choose (nat_lt b 128) (sign (symbol_of b) 1) (wide (b ∷ bs)) (λ f. moves_sign (symbol_of b) 1 (omega arith)) (λ f. moves_wide b bs))

abbrev number_or_rest : ℕ → List ℕ → Head
number_or_rest b bs = if is_digit b then positive (b ∷ bs) else name_or_rest b bs

abbrev text_or_rest : ℕ → List ℕ → Head
text_or_rest b bs = if nat_eq b 39 then quoted (text_bytes 1 bs) else number_or_rest b bs

abbrev end_or_rest : ℕ → List ℕ → Head
end_or_rest b bs = if nat_eq b 13 then line_end bs else text_or_rest b bs

moves : (b : ℕ) (bs : List ℕ) → Moves (head (b ∷ bs))
unfolding head
moves b bs =
    choose (nat_eq b 32 || nat_eq b 9) (h.Skip 1) (if nat_eq b 10 then h.Found k.LineEnd 1 else end_or_rest b bs) (λ e. omega arith)
    (λ e. choose (nat_eq b 10) (h.Found k.LineEnd 1) (end_or_rest b bs) (λ f. omega arith)
    (λ f. choose (nat_eq b 13) (line_end bs) (text_or_rest b bs) (λ g. moves_line_end bs)
    (λ g. choose (nat_eq b 39) (quoted (text_bytes 1 bs)) (number_or_rest b bs) (λ i. moves_text 1 bs)
    (λ i. choose (is_digit b) (positive (b ∷ bs)) (name_or_rest b bs) (λ d. moves_positive b bs d) (λ d. moves_name b bs)))))

-- ---- Texts head by head

abbrev Cut : List ℕ → ℕ → Type 0
Cut bs p = (ts : List Token) × IsCut bs p ts

-- a refused head, of number 2 or above
abbrev Met : List ℕ → ℕ → Type 0
Met bs p = (r : Refusal) × Meets bs p r × (2 ≤ r.number)

abbrev Either : List ℕ → ℕ → Type 0
Either bs p = Cut bs p ⊎ Met bs p

behind : (b : ℕ) (bs : List ℕ) (p : ℕ) (x : Head) → head (b ∷ bs) ≡ x → Moves x → ((n : ℕ) → 0 < n → Either (drop n (b ∷ bs)) (p + n)) → Either (b ∷ bs) p
behind b bs p (h.Skip n) e m f = elim (f n m) as (λ _. Either (b ∷ bs) p) [ inl c ↦ inl (c.0, skips e c.1) | inr c ↦ inr (c.0, meets_behind_skip e c.1, c.2) ]
behind b bs p (h.Found j n) e m f = elim (f n m) as (λ _. Either (b ∷ bs) p) [ inl c ↦ inl (token j p n ∷ c.0, finds e c.1) | inr c ↦ inr (c.0, meets_behind_token e c.1, c.2) ]
behind b bs p (h.Bad n) e m f = inr (refusal n p, meets_here e, m)

-- bytes, of which there are at most `most`, are cut into tokens or come to a refused head
cut_or_met : (most : ℕ) (bs : List ℕ) (p : ℕ) → length bs ≤ most → Either bs p
cut_or_met most [] p l = inl ([], at_end)
cut_or_met zero (b ∷ bs) p l = absurd (omega arith)
cut_or_met (suc most) (b ∷ bs) p l = behind b bs p (head (b ∷ bs)) refl (moves b bs)
    (λ n m. cut_or_met most (drop n (b ∷ bs)) (p + n) (let d : length (drop n (b ∷ bs)) ≡ length (b ∷ bs) - n = length-drop n (b ∷ bs) in omega arith))

-- ---- UTF-8

abbrev Utf8Or : List ℕ → Type 0
Utf8Or bs = IsUtf8 bs ⊎ ((n : ℕ) × IsValidUpTo bs n)

-- no front of more than m bytes is UTF-8
abbrev NoLonger : List ℕ → ℕ → Type 0
NoLonger bs m = (j : ℕ) → m < j → IsUtf8 (take j bs) → ⊥

no_more : (bs : List ℕ) (m : ℕ) → (IsUtf8 (take (suc m) bs) → ⊥) → NoLonger bs (suc m) → NoLonger bs m
no_more bs m f g j l u = elim (next m j l) as (λ _. ⊥) [ inl e ↦ f (subst (λ i. IsUtf8 (take i bs)) (sym e) u) | inr more ↦ g j more u ]
  where
    next : (m j : ℕ) → m < j → (suc m ≡ j) ⊎ (suc m < j)
    next m j l = grind arith

not_true : (b : Bool) → b ≡ false → b ≡ true → ⊥
not_true b e f = cc

empty_front : (bs : List ℕ) → IsUtf8 (take zero bs)
empty_front [] = ([], (refl, refl))
empty_front (b ∷ bs) = ([], (refl, refl))

longest : (bs : List ℕ) (m : ℕ) → m < length bs → NoLonger bs m → (n : ℕ) × IsValidUpTo bs n
longest bs zero l f = (zero, record { short = l; front = empty_front bs; longest = f })
longest bs (suc m) l f = pick (is_utf8 (take (suc m) bs)) refl (λ g. longest bs m (omega arith) g)
  where
    pick : (b : Bool) → is_utf8 (take (suc m) bs) ≡ b → (NoLonger bs m → (n : ℕ) × IsValidUpTo bs n) → (n : ℕ) × IsValidUpTo bs n
    pick true e later = (suc m, record { short = l; front = IsUtf8-from_is_utf8 (take (suc m) bs) e; longest = f })
    pick false e later = later (no_more bs m (λ u. not_true (is_utf8 (take (suc m) bs)) e (is_utf8-from_IsUtf8 (take (suc m) bs) u)) f)

utf8_or : (bs : List ℕ) → Utf8Or bs
utf8_or bs = pick (is_utf8 bs) refl
  where
    beyond : is_utf8 bs ≡ false → (j : ℕ) → length bs ≤ j → IsUtf8 (take j bs) → ⊥
    beyond e j l u = not_true (is_utf8 bs) e (is_utf8-from_IsUtf8 bs (subst IsUtf8 (take_all j bs l) u))

    from : is_utf8 bs ≡ false → (n : ℕ) → length bs ≡ n → (m : ℕ) × IsValidUpTo bs m
    from e zero l = absurd (beyond e zero (omega arith) ([], (refl, refl)))
    from e (suc m) l = longest bs m (omega arith) (λ j more u. beyond e j (omega arith) u)

    pick : (b : Bool) → is_utf8 bs ≡ b → Utf8Or bs
    pick true e = inl (IsUtf8-from_is_utf8 bs e)
    pick false e = inr (from e (length bs) refl)

-- ---- Texts

-- the tokens of a text, or its first refusal
pub tokens_or_first : (text : List ℕ) → ((ts : List Token) × AreTokens text ts) ⊎ ((r : Refusal) × IsFirst text r)
tokens_or_first text = join (utf8_or text) (cut_or_met (length (drop (mark text) text)) (drop (mark text) text) (mark text) (omega arith))
  where
    join : Utf8Or text → Either (drop (mark text) text) (mark text) → ((ts : List Token) × AreTokens text ts) ⊎ ((r : Refusal) × IsFirst text r)
    join (inl u) (inl c) = inl (c.0, record { utf8 = u; cut = c.1 })
    join (inl u) (inr m) = inr (m.0, head_first text m.0 u m.1)
    join (inr v) (inl c) = inr (refusal 1 v.0, utf8_first text v.0 c.0 v.1 c.1)
    join (inr v) (inr m) = inr (_, both_first text v.0 m.0 m.2 v.1 m.1)
