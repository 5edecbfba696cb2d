-- The names of a program are names.
use Rattle.std.proofs.Common.{◌≡◌, ◌∙◌, ap, sym, refl, subst, arith, ℕ, ◌+◌, ◌-◌, zero, suc, ℤ, pos, neg_ℤ, List, [], ◌∷◌, ◌++◌, length, take, drop, All, Option, Some, None, Bool, true, false, not, ◌&&◌, ◌||◌, nat_eq, nat_lt, if◌then◌else◌}
use Rattle.std.specs.Prelude.{fold, codes, bytes_eq}
use Rattle.std.specs.List.{starts_with, list_any}
use Rattle.std.proofs.lemmas.Bool.Decides.{nat_tests}
use Rattle.std.proofs.lemmas.List.Elements.{All-nil, All-head, All-tail, All-push}
use Rattle.aplc_lex.specs.declared.token.Head.{Head}
use Rattle.aplc_lex.specs.declared.token.Head.TheVariants as h
use Rattle.aplc_lex.specs.declared.token.Token.{Token}
use Rattle.aplc_lex.specs.declared.token.TokenKind.{TokenKind}
use Rattle.aplc_lex.specs.declared.token.TokenKind.TheVariants as k
use Rattle.aplc_lex.specs.Signs.{is_digit, is_letter, is_delta, two, three, symbol_of}
use Rattle.aplc_lex.specs.Heads.{name_bytes, name_chars, digits, value_from, text_bytes, comment_bytes, in_range_of, number_of, positive, negative, quoted, sign, begins_name, quad, of_two, of_three, of_wide, wide, line_end, named, head}
use Rattle.aplc_lex.specs.Tokens.{AreTokens, StandsIn}
use Rattle.aplc_syntax.specs.declared.tree.Program.{Program}
use Rattle.aplc_syntax.specs.Words.{spelling, with_name, with_token, is_name as is_name_kind}
use Rattle.aplc_syntax.specs.Programs.{IsProgramOf}
use Rattle.aplc_syntax.proofs.Spans.{tokens_stand}
use Rattle.aplc_names.specs.Fits.{begins_with_digit, is_name, HasNames}

-- ---- Heads that are no names

abbrev IsNoName : Head → Type 0
IsNoName (h.Found k.Name n) = ⊥
IsNoName _ = Unit {0}

choose : (t : Bool) (x y : Head) → IsNoName x → IsNoName y → IsNoName (if t then x else y)
choose true x y f g = f
choose false x y f g = g

no_number : (s : ℕ → ℤ) (x : Option ℕ) (n : ℕ) → IsNoName (number_of s x n)
no_number s None n = tt
no_number s (Some m) n = tt

no_sign : (x : Option ℕ) (n : ℕ) → IsNoName (sign x n)
no_sign None n = tt
no_sign (Some c) n = tt

no_quoted : (x : Option ℕ) → IsNoName (quoted x)
no_quoted None = tt
no_quoted (Some n) = tt

no_line_end : (bs : List ℕ) → IsNoName (line_end bs)
no_line_end [] = tt
no_line_end (c ∷ bs) = choose (nat_eq c 10) (h.Found k.LineEnd 2) (h.Bad 2) tt tt

no_quad : (bs : List ℕ) → IsNoName (quad bs)
no_quad bs =
    let x : Bool = nat_eq (name_bytes bs) 4 && starts_with nat_eq bs (codes "NUMS") in
    choose (begins_name bs) (if x then h.Found k.NumsInput 7 else h.Bad 2) (h.Found (k.Symbol 9109) 3) (choose x (h.Found k.NumsInput 7) (h.Bad 2) tt tt) tt

no_negative : (bs : List ℕ) → IsNoName (negative bs)
no_negative bs = choose (nat_eq (digits bs) 0) (h.Bad 2) (number_of (λ m. neg_ℤ (pos m)) (in_range_of (value_from 0 bs)) (digits bs + 2)) tt
    (no_number (λ m. neg_ℤ (pos m)) (in_range_of (value_from 0 bs)) (digits bs + 2))

no_two : (bs : List ℕ) (x : ℕ) → IsNoName (of_two x bs)
no_two bs x = choose (nat_eq x 175) (negative bs) (sign (symbol_of x) 2) (no_negative bs) (no_sign (symbol_of x) 2)

no_three : (bs : List ℕ) (x : Option ℕ) → IsNoName (of_three x bs)
no_three bs None = tt
no_three bs (Some x) = choose (nat_eq x 9053) (h.Skip (3 + comment_bytes bs)) (if nat_eq x 9109 then quad bs else sign (symbol_of x) 3) tt
    (choose (nat_eq x 9109) (quad bs) (sign (symbol_of x) 3) (no_quad bs) (no_sign (symbol_of x) 3))

no_of_wide : (b c : ℕ) (bs : List ℕ) (x : Option ℕ) → IsNoName (of_wide x b c bs)
no_of_wide b c bs (Some x) = no_two bs x
no_of_wide b c [] None = tt
no_of_wide b c (d ∷ bs) None = no_three bs (three b c d)

no_wide : (b : ℕ) (bs : List ℕ) → IsNoName (wide (b ∷ bs))
no_wide b [] = tt
no_wide b (c ∷ bs) = no_of_wide b c bs (two b c)

-- ---- A head that is a name

abbrev Names : List ℕ → Head → Type 0
Names bs (h.Found k.Name n) = (n ≡ name_bytes bs) × (nat_lt 0 (name_bytes bs) ≡ true) × (nat_lt 63 (name_chars bs) ≡ false) × (begins_with_digit bs ≡ false)
Names bs _ = Unit {0}

none : (bs : List ℕ) (x : Head) → IsNoName x → Names bs x
none bs (h.Found k.Name n) e = absurd e
none bs _ e = tt

either : (bs : List ℕ) (t : Bool) (x y : Head) → IsNoName x → (t ≡ false → Names bs y) → Names bs (if t then x else y)
either bs true x y f g = none bs x f
either bs false x y f g = g refl

is_named : (bs : List ℕ) → nat_lt 0 (name_bytes bs) ≡ true → begins_with_digit bs ≡ false → Names bs (named (name_bytes bs) (name_chars bs))
is_named bs e d = pick (nat_lt 63 (name_chars bs)) refl
  where
    pick : (t : Bool) → nat_lt 63 (name_chars bs) ≡ t → Names bs (if t then h.Bad 5 else h.Found k.Name (name_bytes bs))
    pick true g = tt
    pick false g = (refl, e, g, d)

abbrev plain_rest : ℕ → List ℕ → Head
plain_rest b bs = if nat_lt b 128 then sign (symbol_of b) 1 else wide (b ∷ bs)

abbrev rest_of : ℕ → List ℕ → Head
rest_of b bs = if nat_lt 0 (name_bytes (b ∷ bs)) then named (name_bytes (b ∷ bs)) (name_chars (b ∷ bs)) else plain_rest b bs

names_rest : (b : ℕ) (bs : List ℕ) → is_digit b ≡ false → Names (b ∷ bs) (rest_of b bs)
names_rest b bs d = pick (nat_lt 0 (name_bytes (b ∷ bs))) refl
  where
    pick : (t : Bool) → nat_lt 0 (name_bytes (b ∷ bs)) ≡ t → Names (b ∷ bs) (if t then named (name_bytes (b ∷ bs)) (name_chars (b ∷ bs)) else plain_rest b bs)
    pick true e = is_named (b ∷ bs) e d
    pick false e = none (b ∷ bs) (plain_rest b bs) (choose (nat_lt b 128) (sign (symbol_of b) 1) (wide (b ∷ bs)) (no_sign (symbol_of b) 1) (no_wide b bs))

abbrev number_or_rest : ℕ → List ℕ → Head
number_or_rest b bs = if is_digit b then positive (b ∷ bs) else rest_of b bs

abbrev text_or_rest : ℕ → List ℕ → Head
text_or_rest b bs = if nat_eq b 39 then quoted (text_bytes 1 bs) else number_or_rest b bs

abbrev end_or_rest : ℕ → List ℕ → Head
end_or_rest b bs = if nat_eq b 13 then line_end bs else text_or_rest b bs

names : (bs : List ℕ) → Names bs (head bs)
unfolding head
names [] = tt
names (b ∷ bs) =
    either (b ∷ bs) (nat_eq b 32 || nat_eq b 9) (h.Skip 1) (if nat_eq b 10 then h.Found k.LineEnd 1 else end_or_rest b bs) tt
    (λ e. either (b ∷ bs) (nat_eq b 10) (h.Found k.LineEnd 1) (end_or_rest b bs) tt
    (λ f. either (b ∷ bs) (nat_eq b 13) (line_end bs) (text_or_rest b bs) (no_line_end bs)
    (λ g. either (b ∷ bs) (nat_eq b 39) (quoted (text_bytes 1 bs)) (number_or_rest b bs) (no_quoted (text_bytes 1 bs))
    (λ i. either (b ∷ bs) (is_digit b) (positive (b ∷ bs)) (rest_of b bs) (no_number pos (in_range_of (value_from 0 (b ∷ bs))) (digits (b ∷ bs)))
    (λ d. names_rest b bs d)))))

-- ---- A name alone

-- one more letter or digit
pub plain_bytes : (b : ℕ) (xs : List ℕ) → (is_letter b || is_digit b) ≡ true → name_bytes (b ∷ xs) ≡ 1 + name_bytes xs
plain_bytes b [] e = ap (λ t. if t then 1 else 0) e
plain_bytes b (c ∷ []) e = ap (λ t. if t then 1 + name_bytes (c ∷ []) else 0) e
plain_bytes b (c ∷ d ∷ xs) e = ap (λ t. if t then 1 + name_bytes (c ∷ d ∷ xs) else (if is_delta (three b c d) then 3 + name_bytes xs else 0)) e

pub plain_chars : (b : ℕ) (xs : List ℕ) → (is_letter b || is_digit b) ≡ true → name_chars (b ∷ xs) ≡ 1 + name_chars xs
plain_chars b [] e = ap (λ t. if t then 1 else 0) e
plain_chars b (c ∷ []) e = ap (λ t. if t then 1 + name_chars (c ∷ []) else 0) e
plain_chars b (c ∷ d ∷ xs) e = ap (λ t. if t then 1 + name_chars (c ∷ d ∷ xs) else (if is_delta (three b c d) then 1 + name_chars xs else 0)) e

pub delta_bytes : (b c d : ℕ) (xs : List ℕ) → (is_letter b || is_digit b) ≡ false → is_delta (three b c d) ≡ true → name_bytes (b ∷ c ∷ d ∷ xs) ≡ 3 + name_bytes xs
delta_bytes b c d xs e f = ap (λ t. if t then 1 + name_bytes (c ∷ d ∷ xs) else (if is_delta (three b c d) then 3 + name_bytes xs else 0)) e ∙ ap (λ t. if t then 3 + name_bytes xs else 0) f

pub delta_chars : (b c d : ℕ) (xs : List ℕ) → (is_letter b || is_digit b) ≡ false → is_delta (three b c d) ≡ true → name_chars (b ∷ c ∷ d ∷ xs) ≡ 1 + name_chars xs
delta_chars b c d xs e f = ap (λ t. if t then 1 + name_chars (c ∷ d ∷ xs) else (if is_delta (three b c d) then 1 + name_chars xs else 0)) e ∙ ap (λ t. if t then 1 + name_chars xs else 0) f

-- the bytes of a name alone have as many bytes and characters of a name
abbrev Alone : List ℕ → ℕ → ℕ → Type 0
Alone bs n c = (name_bytes (take n bs) ≡ n) × (name_chars (take n bs) ≡ c) × (length (take n bs) ≡ n)

take_one : (b : ℕ) (xs : List ℕ) (m : ℕ) → take (1 + m) (b ∷ xs) ≡ b ∷ take m xs
take_one b xs m = let e : 1 + m ≡ suc m = omega arith in ap (λ n. take n (b ∷ xs)) e

take_three : (b c d : ℕ) (xs : List ℕ) (m : ℕ) → take (3 + m) (b ∷ c ∷ d ∷ xs) ≡ b ∷ c ∷ d ∷ take m xs
take_three b c d xs m = let e : 3 + m ≡ suc (suc (suc m)) = omega arith in ap (λ n. take n (b ∷ c ∷ d ∷ xs)) e

alone_plain : (b : ℕ) (xs : List ℕ) → (is_letter b || is_digit b) ≡ true → Alone xs (name_bytes xs) (name_chars xs) → Alone (b ∷ xs) (1 + name_bytes xs) (1 + name_chars xs)
alone_plain b xs e a =
    let t = take_one b xs (name_bytes xs) in
    let l : length (b ∷ take (name_bytes xs) xs) ≡ 1 + name_bytes xs = let i = a.2 in omega arith in
    (ap name_bytes t ∙ plain_bytes b (take (name_bytes xs) xs) e ∙ ap (λ (n : ℕ). 1 + n) a.0, ap name_chars t ∙ plain_chars b (take (name_bytes xs) xs) e ∙ ap (λ (n : ℕ). 1 + n) a.1, ap length t ∙ l)

alone_delta : (b c d : ℕ) (xs : List ℕ) → (is_letter b || is_digit b) ≡ false → is_delta (three b c d) ≡ true → Alone xs (name_bytes xs) (name_chars xs) → Alone (b ∷ c ∷ d ∷ xs) (3 + name_bytes xs) (1 + name_chars xs)
alone_delta b c d xs e f a =
    let t = take_three b c d xs (name_bytes xs) in
    let l : length (b ∷ c ∷ d ∷ take (name_bytes xs) xs) ≡ 3 + name_bytes xs = let i = a.2 in omega arith in
    (ap name_bytes t ∙ delta_bytes b c d (take (name_bytes xs) xs) e f ∙ ap (λ (n : ℕ). 3 + n) a.0, ap name_chars t ∙ delta_chars b c d (take (name_bytes xs) xs) e f ∙ ap (λ (n : ℕ). 1 + n) a.1, ap length t ∙ l)

alone : (bs : List ℕ) → Alone bs (name_bytes bs) (name_chars bs)
alone [] = (refl, refl, refl)
alone (b ∷ []) = pick (is_letter b || is_digit b) refl
  where
    pick : (t : Bool) → (is_letter b || is_digit b) ≡ t → Alone (b ∷ []) (if t then 1 else 0) (if t then 1 else 0)
    pick true e = alone_plain b [] e (refl, refl, refl)
    pick false e = (refl, refl, refl)
alone (b ∷ c ∷ []) = pick (is_letter b || is_digit b) refl (alone (c ∷ []))
  where
    pick : (t : Bool) → (is_letter b || is_digit b) ≡ t → Alone (c ∷ []) (name_bytes (c ∷ [])) (name_chars (c ∷ [])) → Alone (b ∷ c ∷ []) (if t then 1 + name_bytes (c ∷ []) else 0) (if t then 1 + name_chars (c ∷ []) else 0)
    pick true e a = alone_plain b (c ∷ []) e a
    pick false e a = (refl, refl, refl)
alone (b ∷ c ∷ d ∷ bs) = pick (is_letter b || is_digit b) (is_delta (three b c d)) refl refl (alone (c ∷ d ∷ bs)) (alone bs)
  where
    pick : (s t : Bool) → (is_letter b || is_digit b) ≡ s → is_delta (three b c d) ≡ t → Alone (c ∷ d ∷ bs) (name_bytes (c ∷ d ∷ bs)) (name_chars (c ∷ d ∷ bs)) → Alone bs (name_bytes bs) (name_chars bs)
        → Alone (b ∷ c ∷ d ∷ bs) (if s then 1 + name_bytes (c ∷ d ∷ bs) else (if t then 3 + name_bytes bs else 0)) (if s then 1 + name_chars (c ∷ d ∷ bs) else (if t then 1 + name_chars bs else 0))
    pick true t e f a i = alone_plain b (c ∷ d ∷ bs) e a
    pick false true e f a i = alone_delta b c d bs e f i
    pick false false e f a i = (refl, refl, refl)

-- ---- Names in a text

first_digit : (n : ℕ) (bs : List ℕ) → begins_with_digit bs ≡ false → begins_with_digit (take n bs) ≡ false
first_digit zero [] e = refl
first_digit zero (b ∷ bs) e = refl
first_digit (suc n) [] e = refl
first_digit (suc n) (b ∷ bs) e = e

tests : (a b c d : Bool) → a ≡ true → b ≡ true → c ≡ false → d ≡ false → (a && (b && (not c && not d))) ≡ true
tests true true false false e f g i = refl
tests true true false true e f g i = cc
tests true true true d e f g i = cc
tests true false c d e f g i = cc
tests false b c d e f g i = cc

name_taken : (bs : List ℕ) (n : ℕ) → head bs ≡ h.Found k.Name n → is_name (take n bs) ≡ true
name_taken bs n e =
    let f : Names bs (h.Found k.Name n) = subst (Names bs) e (names bs) in
    let a = alone bs in
    subst (λ m. is_name (take m bs) ≡ true) (sym f.0) (
    tests (nat_eq (name_bytes (take (name_bytes bs) bs)) (length (take (name_bytes bs) bs))) (nat_lt 0 (name_bytes (take (name_bytes bs) bs))) (nat_lt 63 (name_chars (take (name_bytes bs) bs))) (begins_with_digit (take (name_bytes bs) bs))
    (same (name_bytes (take (name_bytes bs) bs)) (length (take (name_bytes bs) bs)) (a.0 ∙ sym a.2))
    (ap (λ m. nat_lt 0 m) a.0 ∙ f.1)
    (ap (λ m. nat_lt 63 m) a.1 ∙ f.2)
    (first_digit (name_bytes bs) bs f.3))
  where
    same : (x y : ℕ) → x ≡ y → nat_eq x y ≡ true
    same x y e = grind (arith, nat_tests)

abbrev IsName : List ℕ → Type 0
IsName bs = is_name bs ≡ true

more_names : (seen : List (List ℕ)) (bs : List ℕ) → All IsName seen → IsName bs → All IsName (with_name seen bs)
more_names seen bs a e = pick (list_any (bytes_eq bs) seen)
  where
    pick : (t : Bool) → All IsName (if t then seen else seen ++ bs ∷ [])
    pick true = a
    pick false = All-push IsName seen bs a e

token_names : (text : List ℕ) (seen : List (List ℕ)) (t : Token) (j : TokenKind) → head (drop t.span.from text) ≡ h.Found j (t.span.to - t.span.from) → All IsName seen → All IsName (if is_name_kind j then with_name seen (spelling text t) else seen)
token_names text seen t k.Name e a = more_names seen (spelling text t) a (name_taken (drop t.span.from text) (t.span.to - t.span.from) e)
token_names text seen t (k.Number v) e a = a
token_names text seen t k.Text e a = a
token_names text seen t k.NumsInput e a = a
token_names text seen t (k.Symbol c) e a = a
token_names text seen t k.LineEnd e a = a

all_names : (text : List ℕ) (seen : List (List ℕ)) (ts : List Token) → All (StandsIn text) ts → All IsName seen → All IsName (fold (with_token text) seen ts)
all_names text seen [] s a = a
all_names text seen (t ∷ ts) s a =
    all_names text (with_token text seen t) ts (All-tail (StandsIn text) t ts s) (token_names text seen t t.kind (All-head (StandsIn text) t ts s) a)

pub program_names : (text : List ℕ) (ts : List Token) (p : Program) → AreTokens text ts → IsProgramOf text ts p → HasNames p
program_names text ts p a i = subst (All IsName) (sym i.names) (all_names text [] ts (tokens_stand text ts a) (All-nil IsName))
