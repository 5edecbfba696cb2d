-- The numbers of tokens lie in the range of numbers, and so do those of the literals of a program.
use Rattle.std.proofs.Common.{◌≡◌, ◌∙◌, ℕ, zero, suc, ◌+◌, ◌-◌, ◌^◌, ◌&&◌, ◌||◌, List, [], ◌∷◌, ℤ, pos, neg_ℤ, unsigned_abs, codes, drop, Option, Some, None, Bool, true, false, if◌then◌else◌, refl, ap, subst, arith, nat_eq, nat_lt}
use Rattle.std.specs.Prelude.{All}
use Rattle.std.specs.List.{starts_with}
use Rattle.std.proofs.lemmas.Bool.Decides.{nat_tests}
use Rattle.std.proofs.lemmas.List.Elements.{All-cons, All-nil, All-head, All-tail}
use Rattle.aplc_scalar.specs.Scalar.{in_range}
use Rattle.aplc_lex.specs.Signs.{is_digit, two, three, symbol_of}
use Rattle.aplc_lex.specs.Heads.{name_bytes, name_chars, digits, text_bytes, comment_bytes, named, in_range_of, number_of, value_from, positive, negative, quoted, sign, begins_name, quad, of_two, of_three, of_wide, wide, line_end, head}
use Rattle.aplc_lex.specs.Tokens.{AreTokens, StandsIn}
use Rattle.aplc_lex.specs.declared.token.Head.{Head}
use Rattle.aplc_lex.specs.declared.token.Head.TheVariants as h
use Rattle.aplc_lex.specs.declared.token.Token.{Token}
use Rattle.aplc_lex.specs.declared.token.TokenKind.{TokenKind}
use Rattle.aplc_lex.specs.declared.token.TokenKind.TheVariants as k
use Rattle.aplc_syntax.proofs.Spans.{tokens_stand}

-- ---- Heads

abbrev pub IsRanged : TokenKind → Type 0
IsRanged (k.Number x) = in_range x ≡ true
IsRanged _ = Unit {0}

-- a number found is in range
abbrev Ranged : Head → Type 0
Ranged (h.Found k n) = IsRanged k
Ranged _ = Unit {0}

choose : (t : Bool) (x y : Head) → Ranged x → Ranged y → Ranged (if t then x else y)
choose true x y f g = f
choose false x y f g = g

positive_in_range : (m : ℕ) → nat_lt 9223372036854775807 m ≡ false → in_range (pos m) ≡ true
unfolding in_range
positive_in_range m e = grind (arith, nat_tests)

magnitude : (m : ℕ) → unsigned_abs (neg_ℤ (pos m)) ≡ m
magnitude zero = refl
magnitude (suc m) = refl

negative_in_range : (m : ℕ) → nat_lt 9223372036854775807 m ≡ false → in_range (neg_ℤ (pos m)) ≡ true
unfolding in_range
negative_in_range m e = let f : nat_lt m (2 ^ 63) ≡ true = grind (arith, nat_tests) in ap (λ (n : ℕ). nat_lt n (2 ^ 63)) (magnitude m) ∙ f

ranged_number : (s : ℕ → ℤ) → ((m : ℕ) → nat_lt 9223372036854775807 m ≡ false → in_range (s m) ≡ true) → (m n : ℕ) → Ranged (number_of s (in_range_of m) n)
ranged_number s f m n = pick (nat_lt 9223372036854775807 m) refl
  where
    pick : (t : Bool) → nat_lt 9223372036854775807 m ≡ t → Ranged (number_of s (if t then None else Some m) n)
    pick true e = tt
    pick false e = f m e

ranged_positive : (bs : List ℕ) → Ranged (positive bs)
ranged_positive bs = ranged_number pos positive_in_range (value_from 0 bs) (digits bs)

ranged_negative : (bs : List ℕ) → Ranged (negative bs)
ranged_negative bs = choose (nat_eq (digits bs) 0) (h.Bad 2) (number_of (λ m. neg_ℤ (pos m)) (in_range_of (value_from 0 bs)) (digits bs + 2)) tt
    (ranged_number (λ m. neg_ℤ (pos m)) negative_in_range (value_from 0 bs) (digits bs + 2))

ranged_sign : (x : Option ℕ) (n : ℕ) → Ranged (sign x n)
ranged_sign None n = tt
ranged_sign (Some c) n = tt

ranged_quoted : (x : Option ℕ) → Ranged (quoted x)
ranged_quoted None = tt
ranged_quoted (Some n) = tt

ranged_named : (n c : ℕ) → Ranged (named n c)
ranged_named n c = choose (nat_lt 63 c) (h.Bad 5) (h.Found k.Name n) tt tt

ranged_line_end : (bs : List ℕ) → Ranged (line_end bs)
ranged_line_end [] = tt
ranged_line_end (c ∷ bs) = choose (nat_eq c 10) (h.Found k.LineEnd 2) (h.Bad 2) tt tt

ranged_quad : (bs : List ℕ) → Ranged (quad bs)
ranged_quad bs =
    let x : Bool = nat_eq (name_bytes bs) 4 && starts_with nat_eq bs (codes "NUMS") in
    choose (begins_name bs) (if x then h.Found k.NumsInput 7 else h.Bad 2) (h.Found (k.Symbol 9109) 3) (choose x (h.Found k.NumsInput 7) (h.Bad 2) tt tt) tt

ranged_two : (bs : List ℕ) (x : ℕ) → Ranged (of_two x bs)
ranged_two bs x = choose (nat_eq x 175) (negative bs) (sign (symbol_of x) 2) (ranged_negative bs) (ranged_sign (symbol_of x) 2)

ranged_three : (bs : List ℕ) (x : Option ℕ) → Ranged (of_three x bs)
ranged_three bs None = tt
ranged_three bs (Some x) = choose (nat_eq x 9053) (h.Skip (3 + comment_bytes bs)) (if nat_eq x 9109 then quad bs else sign (symbol_of x) 3) tt
    (choose (nat_eq x 9109) (quad bs) (sign (symbol_of x) 3) (ranged_quad bs) (ranged_sign (symbol_of x) 3))

ranged_of_wide : (b c : ℕ) (bs : List ℕ) (x : Option ℕ) → Ranged (of_wide x b c bs)
ranged_of_wide b c bs (Some x) = ranged_two bs x
ranged_of_wide b c [] None = tt
ranged_of_wide b c (d ∷ bs) None = ranged_three bs (three b c d)

ranged_wide : (b : ℕ) (bs : List ℕ) → Ranged (wide (b ∷ bs))
ranged_wide b [] = tt
ranged_wide b (c ∷ bs) = ranged_of_wide b c bs (two b c)

-- what is left of the head where no blank and no line's end stands
abbrev rest_of : ℕ → List ℕ → Head
rest_of b bs = if nat_lt 0 (name_bytes (b ∷ bs)) then named (name_bytes (b ∷ bs)) (name_chars (b ∷ bs)) else (if nat_lt b 128 then sign (symbol_of b) 1 else wide (b ∷ bs))

abbrev number_or_rest : ℕ → List ℕ → Head
number_or_rest b bs = if is_digit b then positive (b ∷ bs) else rest_of b bs

abbrev text_or_rest : ℕ → List ℕ → Head
text_or_rest b bs = if nat_eq b 39 then quoted (text_bytes 1 bs) else number_or_rest b bs

ranged_rest : (b : ℕ) (bs : List ℕ) → Ranged (text_or_rest b bs)
ranged_rest b bs =
    choose (nat_eq b 39) (quoted (text_bytes 1 bs)) (number_or_rest b bs) (ranged_quoted (text_bytes 1 bs))
    (choose (is_digit b) (positive (b ∷ bs)) (rest_of b bs) (ranged_positive (b ∷ bs))
    (choose (nat_lt 0 (name_bytes (b ∷ bs))) (named (name_bytes (b ∷ bs)) (name_chars (b ∷ bs))) (if nat_lt b 128 then sign (symbol_of b) 1 else wide (b ∷ bs)) (ranged_named (name_bytes (b ∷ bs)) (name_chars (b ∷ bs)))
    (choose (nat_lt b 128) (sign (symbol_of b) 1) (wide (b ∷ bs)) (ranged_sign (symbol_of b) 1) (ranged_wide b bs))))

ranged : (bs : List ℕ) → Ranged (head bs)
unfolding head
ranged [] = tt
ranged (b ∷ bs) =
    choose (nat_eq b 32 || nat_eq b 9) (h.Skip 1) (if nat_eq b 10 then h.Found k.LineEnd 1 else (if nat_eq b 13 then line_end bs else text_or_rest b bs)) tt
    (choose (nat_eq b 10) (h.Found k.LineEnd 1) (if nat_eq b 13 then line_end bs else text_or_rest b bs) tt
    (choose (nat_eq b 13) (line_end bs) (text_or_rest b bs) (ranged_line_end bs) (ranged_rest b bs)))

abbrev pub IsRangedToken : Token → Type 0
IsRangedToken t = IsRanged t.kind

ranged_standing : (text : List ℕ) (ts : List Token) → All (StandsIn text) ts → All IsRangedToken ts
ranged_standing text [] a = All-nil IsRangedToken
ranged_standing text (t ∷ ts) a =
    let s : Ranged (h.Found t.kind (t.span.to - t.span.from)) = subst Ranged (All-head (StandsIn text) t ts a) (ranged (drop t.span.from text)) in
    All-cons IsRangedToken t ts s (ranged_standing text ts (All-tail (StandsIn text) t ts a))

-- the numbers of tokens are in range
pub ranged_tokens : (text : List ℕ) (ts : List Token) → AreTokens text ts → All IsRangedToken ts
ranged_tokens text ts a = ranged_standing text ts (tokens_stand text ts a)
