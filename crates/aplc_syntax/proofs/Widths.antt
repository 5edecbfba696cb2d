-- What stands at the head of a text takes bytes of it, and a text between quotes has them at its ends.
use Rattle.std.proofs.Common.{◌≡◌, ℕ, ◌+◌, ◌≤◌, ◌<◌, ◌&&◌, ◌||◌, subst, List, [], ◌∷◌, Option, Some, None, ℤ, pos, neg_ℤ, codes, length, get_or, suc, refl, sym, arith, nat_eq, nat_lt, cond, Bool, true, false, if◌then◌else◌}
use Rattle.std.specs.List.{starts_with}
use Rattle.std.proofs.lemmas.Bool.Decides.{nat_tests}
use Rattle.aplc_lex.specs.Signs.{is_digit, is_letter, is_delta, two, three, symbol_of}
use Rattle.aplc_lex.specs.Heads.{name_bytes, name_chars, digits, text_bytes, comment_bytes, named, in_range_of, number_of, value_from, positive, negative, quoted, sign, begins_name, quad, of_two, of_three, of_wide, wide, line_end, head}
use Rattle.aplc_lex.specs.declared.token.Head.{Head}
use Rattle.aplc_lex.specs.declared.token.Head.TheVariants as h
use Rattle.aplc_lex.specs.declared.token.TokenKind.{TokenKind}
use Rattle.aplc_lex.specs.declared.token.TokenKind.TheVariants as k

-- ---- What a head takes

-- the first of these bytes is a quote, and so is the last of n
pub record Quotes (bs : List ℕ) (n : ℕ) : Type 0 where
  pub inside : ℕ
  pub width : n ≡ inside + 2
  pub within : inside + 2 ≤ length bs
  pub opens : get_or bs 0 0 ≡ 39
  pub closes : get_or bs (suc inside) 0 ≡ 39

abbrev pub Shape : List ℕ → TokenKind → ℕ → Type 0
Shape bs k.Text n = Quotes bs n
Shape bs _ n = Unit {0}

-- it takes one byte or more, and no more than there are
abbrev pub Takes : List ℕ → Head → Type 0
Takes bs (h.Skip n) = (0 < n) × (n ≤ length bs)
Takes bs (h.Found k n) = (0 < n) × (n ≤ length bs) × Shape bs k n
Takes bs (h.Bad r) = Unit {0}

choose : (bs : List ℕ) (t : Bool) (x y : Head) → (t ≡ true → Takes bs x) → (t ≡ false → Takes bs y) → Takes bs (if t then x else y)
choose bs true x y f g = f refl
choose bs false x y f g = g refl

-- ---- Runs

cond_le : (t : Bool) (x y m : ℕ) → x ≤ m → y ≤ m → cond t x y ≤ m
cond_le true x y m f g = f
cond_le false x y m f g = g

name_within : (bs : List ℕ) → name_bytes bs ≤ length bs
name_within [] = omega arith
name_within (b ∷ []) = cond_le (is_letter b || is_digit b) 1 0 1 (omega arith) (omega arith)
name_within (b ∷ c ∷ []) = let i = name_within (c ∷ []) in cond_le (is_letter b || is_digit b) (1 + name_bytes (c ∷ [])) 0 2 (omega arith) (omega arith)
name_within (b ∷ c ∷ d ∷ bs) = let i = name_within (c ∷ d ∷ bs) in let j = name_within bs in
    cond_le (is_letter b || is_digit b) (1 + name_bytes (c ∷ d ∷ bs)) (if is_delta (three b c d) then 3 + name_bytes bs else 0) (length (b ∷ c ∷ d ∷ bs)) (omega arith)
    (cond_le (is_delta (three b c d)) (3 + name_bytes bs) 0 (length (b ∷ c ∷ d ∷ bs)) (omega arith) (omega arith))

digits_within : (bs : List ℕ) → digits bs ≤ length bs
digits_within [] = omega arith
digits_within (b ∷ bs) = let i = digits_within bs in cond_le (is_digit b) (1 + digits bs) 0 (length (b ∷ bs)) (omega arith) (omega arith)

some_digits : (b : ℕ) (bs : List ℕ) → is_digit b ≡ true → 0 < digits (b ∷ bs)
some_digits b bs e = subst (λ (t : Bool). 0 < cond t (1 + digits bs) 0) (sym e) (omega arith)

comment_within : (bs : List ℕ) → comment_bytes bs ≤ length bs
comment_within [] = omega arith
comment_within (b ∷ []) = cond_le (nat_eq b 10) 0 1 1 (omega arith) (omega arith)
comment_within (b ∷ c ∷ bs) = let i = comment_within (c ∷ bs) in
    cond_le (nat_eq b 10) 0 (if nat_eq b 13 && nat_eq c 10 then 0 else 1 + comment_bytes (c ∷ bs)) (length (b ∷ c ∷ bs)) (omega arith)
    (cond_le (nat_eq b 13 && nat_eq c 10) 0 (1 + comment_bytes (c ∷ bs)) (length (b ∷ c ∷ bs)) (omega arith) (omega arith))

-- ---- Texts

-- a closing quote stands in these bytes, behind n others
abbrev Closes : ℕ → List ℕ → Option ℕ → Type 0
Closes n bs None = Unit {0}
Closes n bs (Some m) = (j : ℕ) × (m ≡ n + j + 1) × (j < length bs) × (get_or bs j 0 ≡ 39)

which : (n : ℕ) (bs : List ℕ) (t : Bool) (x y : Option ℕ) → (t ≡ true → Closes n bs x) → (t ≡ false → Closes n bs y) → Closes n bs (if t then x else y)
which n bs true x y f g = f refl
which n bs false x y f g = g refl

one_more : (n b : ℕ) (bs : List ℕ) (x : Option ℕ) → Closes (n + 1) bs x → Closes n (b ∷ bs) x
one_more n b bs None h = tt
one_more n b bs (Some m) h = (suc h.0, omega arith, omega arith, h.3)

here : (n b : ℕ) (bs : List ℕ) → nat_eq b 39 ≡ true → Closes n (b ∷ bs) (Some (n + 1))
here n b bs e = (0, omega arith, omega arith, grind (arith, nat_tests))

closes : (n : ℕ) (bs : List ℕ) → Closes n bs (text_bytes n bs)
closes n [] = tt
closes n (b ∷ []) = which n (b ∷ []) (nat_eq b 39) (Some (n + 1)) None (here n b []) (λ e. tt)
closes n (b ∷ c ∷ bs) = which n (b ∷ c ∷ bs) (nat_eq b 10) None
    (if nat_eq b 39 then (if nat_eq c 39 then text_bytes (n + 2) bs else Some (n + 1)) else text_bytes (n + 1) (c ∷ bs)) (λ e. tt)
    (λ e. which n (b ∷ c ∷ bs) (nat_eq b 39) (if nat_eq c 39 then text_bytes (n + 2) bs else Some (n + 1)) (text_bytes (n + 1) (c ∷ bs))
    (λ q. which n (b ∷ c ∷ bs) (nat_eq c 39) (text_bytes (n + 2) bs) (Some (n + 1)) (λ r. two_more n b c bs (text_bytes (n + 2) bs) (closes (n + 2) bs)) (λ r. here n b (c ∷ bs) q))
    (λ q. one_more n b (c ∷ bs) (text_bytes (n + 1) (c ∷ bs)) (closes (n + 1) (c ∷ bs))))
  where
    two_more : (n b c : ℕ) (bs : List ℕ) (x : Option ℕ) → Closes (n + 2) bs x → Closes n (b ∷ c ∷ bs) x
    two_more n b c bs None h = tt
    two_more n b c bs (Some m) h = (suc (suc h.0), omega arith, omega arith, h.3)

-- ---- The kinds of heads

takes_quoted : (b : ℕ) (bs : List ℕ) (x : Option ℕ) → nat_eq b 39 ≡ true → Closes 1 bs x → Takes (b ∷ bs) (quoted x)
takes_quoted b bs None e c = tt
takes_quoted b bs (Some n) e c = let w : n ≡ c.0 + 2 = omega arith in let l : c.0 + 2 ≤ length (b ∷ bs) = omega arith in
    (omega arith, omega arith, record { inside = c.0; width = w; within = l; opens = grind (arith, nat_tests); closes = c.3 })

takes_number : (bs : List ℕ) (s : ℕ → ℤ) (x : Option ℕ) (n : ℕ) → 0 < n → n ≤ length bs → Takes bs (number_of s x n)
takes_number bs s None n p l = tt
takes_number bs s (Some v) n p l = (p, l, tt)

takes_sign : (bs : List ℕ) (x : Option ℕ) (n : ℕ) → 0 < n → n ≤ length bs → Takes bs (sign x n)
takes_sign bs None n p l = tt
takes_sign bs (Some c) n p l = (p, l, tt)

takes_named : (bs : List ℕ) (n c : ℕ) → 0 < n → n ≤ length bs → Takes bs (named n c)
takes_named bs n c p l = choose bs (nat_lt 63 c) (h.Bad 5) (h.Found k.Name n) (λ e. tt) (λ e. (p, l, tt))

takes_negative : (b c : ℕ) (bs : List ℕ) → Takes (b ∷ c ∷ bs) (negative bs)
takes_negative b c bs = let i = digits_within bs in
    choose (b ∷ c ∷ bs) (nat_eq (digits bs) 0) (h.Bad 2) (number_of (λ v. neg_ℤ (pos v)) (in_range_of (value_from 0 bs)) (digits bs + 2)) (λ e. tt)
    (λ e. takes_number (b ∷ c ∷ bs) (λ v. neg_ℤ (pos v)) (in_range_of (value_from 0 bs)) (digits bs + 2) (omega arith) (omega arith))

takes_line_end : (b : ℕ) (bs : List ℕ) → Takes (b ∷ bs) (line_end bs)
takes_line_end b [] = tt
takes_line_end b (c ∷ bs) = choose (b ∷ c ∷ bs) (nat_eq c 10) (h.Found k.LineEnd 2) (h.Bad 2) (λ e. (omega arith, omega arith, tt)) (λ e. tt)

both : (s t : Bool) → (s && t) ≡ true → s ≡ true
both true t e = refl
both false t e = e

takes_quad : (b c d : ℕ) (bs : List ℕ) → Takes (b ∷ c ∷ d ∷ bs) (quad bs)
takes_quad b c d bs =
    let x : Bool = nat_eq (name_bytes bs) 4 && starts_with nat_eq bs (codes "NUMS") in
    choose (b ∷ c ∷ d ∷ bs) (begins_name bs) (if x then h.Found k.NumsInput 7 else h.Bad 2) (h.Found (k.Symbol 9109) 3)
    (λ e. choose (b ∷ c ∷ d ∷ bs) x (h.Found k.NumsInput 7) (h.Bad 2)
    (λ g. (let i = name_within bs in let f : nat_eq (name_bytes bs) 4 ≡ true = both (nat_eq (name_bytes bs) 4) (starts_with nat_eq bs (codes "NUMS")) g in
    let m : name_bytes bs ≡ 4 = grind (arith, nat_tests) in (omega arith, omega arith, tt))) (λ g. tt))
    (λ e. (omega arith, omega arith, tt))

takes_two : (b c : ℕ) (bs : List ℕ) (x : ℕ) → Takes (b ∷ c ∷ bs) (of_two x bs)
takes_two b c bs x = choose (b ∷ c ∷ bs) (nat_eq x 175) (negative bs) (sign (symbol_of x) 2) (λ e. takes_negative b c bs) (λ e. takes_sign (b ∷ c ∷ bs) (symbol_of x) 2 (omega arith) (omega arith))

takes_three : (b c d : ℕ) (bs : List ℕ) (x : Option ℕ) → Takes (b ∷ c ∷ d ∷ bs) (of_three x bs)
takes_three b c d bs None = tt
takes_three b c d bs (Some x) = let i = comment_within bs in
    choose (b ∷ c ∷ d ∷ bs) (nat_eq x 9053) (h.Skip (3 + comment_bytes bs)) (if nat_eq x 9109 then quad bs else sign (symbol_of x) 3) (λ e. (omega arith, omega arith))
    (λ e. choose (b ∷ c ∷ d ∷ bs) (nat_eq x 9109) (quad bs) (sign (symbol_of x) 3) (λ g. takes_quad b c d bs) (λ g. takes_sign (b ∷ c ∷ d ∷ bs) (symbol_of x) 3 (omega arith) (omega arith)))

takes_of_wide : (b c : ℕ) (bs : List ℕ) (x : Option ℕ) → Takes (b ∷ c ∷ bs) (of_wide x b c bs)
takes_of_wide b c bs (Some x) = takes_two b c bs x
takes_of_wide b c [] None = tt
takes_of_wide b c (d ∷ bs) None = takes_three b c d bs (three b c d)

takes_wide : (b : ℕ) (bs : List ℕ) → Takes (b ∷ bs) (wide (b ∷ bs))
takes_wide b [] = tt
takes_wide b (c ∷ bs) = takes_of_wide b c bs (two b c)

-- ---- The head

-- what is left of the head where no text and no number stands
abbrev rest_of : ℕ → List ℕ → Head
rest_of b bs = if nat_lt 0 (name_bytes (b ∷ bs)) then named (name_bytes (b ∷ bs)) (name_chars (b ∷ bs)) else (if nat_lt b 128 then sign (symbol_of b) 1 else wide (b ∷ bs))

takes_rest : (b : ℕ) (bs : List ℕ) → Takes (b ∷ bs) (rest_of b bs)
takes_rest b bs = let i = name_within (b ∷ bs) in
    choose (b ∷ bs) (nat_lt 0 (name_bytes (b ∷ bs))) (named (name_bytes (b ∷ bs)) (name_chars (b ∷ bs))) (if nat_lt b 128 then sign (symbol_of b) 1 else wide (b ∷ bs))
    (λ e. takes_named (b ∷ bs) (name_bytes (b ∷ bs)) (name_chars (b ∷ bs)) (grind (arith, nat_tests)) i)
    (λ e. choose (b ∷ bs) (nat_lt b 128) (sign (symbol_of b) 1) (wide (b ∷ bs)) (λ g. takes_sign (b ∷ bs) (symbol_of b) 1 (omega arith) (omega arith)) (λ g. takes_wide b bs))

abbrev number_or_rest : ℕ → List ℕ → Head
number_or_rest b bs = if is_digit b then positive (b ∷ bs) else rest_of b bs

takes_number_or_rest : (b : ℕ) (bs : List ℕ) → Takes (b ∷ bs) (number_or_rest b bs)
takes_number_or_rest b bs = choose (b ∷ bs) (is_digit b) (positive (b ∷ bs)) (rest_of b bs)
    (λ e. takes_number (b ∷ bs) pos (in_range_of (value_from 0 (b ∷ bs))) (digits (b ∷ bs)) (some_digits b bs e) (digits_within (b ∷ bs))) (λ e. takes_rest b bs)

abbrev text_or_rest : ℕ → List ℕ → Head
text_or_rest b bs = if nat_eq b 39 then quoted (text_bytes 1 bs) else number_or_rest b bs

takes_text_or_rest : (b : ℕ) (bs : List ℕ) → Takes (b ∷ bs) (text_or_rest b bs)
takes_text_or_rest b bs = choose (b ∷ bs) (nat_eq b 39) (quoted (text_bytes 1 bs)) (number_or_rest b bs) (λ e. takes_quoted b bs (text_bytes 1 bs) e (closes 1 bs)) (λ e. takes_number_or_rest b bs)

abbrev end_or_rest : ℕ → List ℕ → Head
end_or_rest b bs = if nat_eq b 10 then h.Found k.LineEnd 1 else (if nat_eq b 13 then line_end bs else text_or_rest b bs)

takes_end_or_rest : (b : ℕ) (bs : List ℕ) → Takes (b ∷ bs) (end_or_rest b bs)
takes_end_or_rest b bs = choose (b ∷ bs) (nat_eq b 10) (h.Found k.LineEnd 1) (if nat_eq b 13 then line_end bs else text_or_rest b bs) (λ e. (omega arith, omega arith, tt))
    (λ e. choose (b ∷ bs) (nat_eq b 13) (line_end bs) (text_or_rest b bs) (λ g. takes_line_end b bs) (λ g. takes_text_or_rest b bs))

-- what the head of a text takes
pub takes : (bs : List ℕ) → Takes bs (head bs)
unfolding head
takes [] = tt
takes (b ∷ bs) = choose (b ∷ bs) (nat_eq b 32 || nat_eq b 9) (h.Skip 1) (end_or_rest b bs) (λ e. (omega arith, omega arith)) (λ e. takes_end_or_rest b bs)
