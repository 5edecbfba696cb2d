-- A name of a program may stand in a text of the C profile.
use Rattle.std.proofs.Common.{◌≡◌, ◌∙◌, ap, refl, arith, ℕ, ◌+◌, ◌-◌, ◌*◌, ◌<◌, ◌≤◌, zero, suc, List, [], ◌∷◌, length, take, drop, Some, None, Bool, true, false, not, ◌&&◌, ◌||◌, nat_eq, nat_lt, nat_le, if◌then◌else◌}
use Rattle.std.proofs.lemmas.Bool.Decides.{nat_tests}
use Rattle.aplc_lex.specs.Signs.{is_digit, is_letter, is_delta, is_tail, is_three, three}
use Rattle.aplc_lex.specs.Heads.{name_bytes, name_chars}
use Rattle.aplc_cprof.specs.WellFormed as c
use Rattle.aplc_names.specs.Fits.{begins_with_digit, is_name}
use Rattle.aplc_gen.proofs.SoundCuts.{both_true, first_true, second_true}

-- ---- Bools

first : (a b : Bool) → a ≡ true → (a || b) ≡ true
first true b e = refl
first false b e = cc

second : (a b : Bool) → b ≡ true → (a || b) ≡ true
second true b e = refl
second false b e = e

not_true : (a : Bool) → not a ≡ true → a ≡ false
not_true true e = cc
not_true false e = refl

-- ---- Letters

letters : (b : ℕ) → is_letter b ≡ true → c.is_letter b ≡ true
letters b e = shape (nat_le 65 b && nat_le b 90) (nat_le 97 b && nat_le b 122) (nat_eq b 95) e
  where
    shape : (x y z : Bool) → (x || (y || z)) ≡ true → (x || y || z) ≡ true
    shape true y z f = refl
    shape false y z f = f

plain : (b : ℕ) → (is_letter b || is_digit b) ≡ true → (c.is_letter b || c.is_digit b) ≡ true
plain b e = pick (is_letter b) (is_digit b) refl refl e
  where
    pick : (x y : Bool) → is_letter b ≡ x → is_digit b ≡ y → (x || y) ≡ true → (c.is_letter b || c.is_digit b) ≡ true
    pick true y f g h = first (c.is_letter b) (c.is_digit b) (letters b f)
    pick false true f g h = second (c.is_letter b) (c.is_digit b) g
    pick false false f g h = cc

-- the bytes of the two letters that are not ASCII
first_delta : (b d e : ℕ) → 224 ≤ b → b < 240 → 128 ≤ d → d < 192 → 128 ≤ e → e < 192 → (b - 224) * 4096 + (d - 128) * 64 + (e - 128) ≡ 8710 → (b ≡ 226) × (d ≡ 136) × (e ≡ 134)
first_delta b d e f g h i j k l = (omega arith, omega arith, omega arith)

second_delta : (b d e : ℕ) → 224 ≤ b → b < 240 → 128 ≤ d → d < 192 → 128 ≤ e → e < 192 → (b - 224) * 4096 + (d - 128) * 64 + (e - 128) ≡ 9049 → (b ≡ 226) × (d ≡ 141) × (e ≡ 153)
second_delta b d e f g h i j k l = (omega arith, omega arith, omega arith)

at_least : (m n : ℕ) → nat_le m n ≡ true → m ≤ n
at_least m n e = grind (arith, nat_tests)

below : (m n : ℕ) → nat_lt m n ≡ true → m < n
below m n e = grind (arith, nat_tests)

equal : (m n : ℕ) → nat_eq m n ≡ true → m ≡ n
equal m n e = grind (arith, nat_tests)

is_c_delta : (b d e : ℕ) → (b ≡ 226) × (d ≡ 136) × (e ≡ 134) → c.is_delta (b ∷ d ∷ e ∷ []) ≡ true
is_c_delta b d e f = ap (λ x. c.is_delta (x ∷ d ∷ e ∷ [])) f.0 ∙ ap (λ x. c.is_delta (226 ∷ x ∷ e ∷ [])) f.1 ∙ ap (λ x. c.is_delta (226 ∷ 136 ∷ x ∷ [])) f.2

is_c_delta2 : (b d e : ℕ) → (b ≡ 226) × (d ≡ 141) × (e ≡ 153) → c.is_delta (b ∷ d ∷ e ∷ []) ≡ true
is_c_delta2 b d e f = ap (λ x. c.is_delta (x ∷ d ∷ e ∷ [])) f.0 ∙ ap (λ x. c.is_delta (226 ∷ x ∷ e ∷ [])) f.1 ∙ ap (λ x. c.is_delta (226 ∷ 141 ∷ x ∷ [])) f.2

abbrev code : ℕ → ℕ → ℕ → ℕ
code b d e = (b - 224) * 4096 + (d - 128) * 64 + (e - 128)

found : (b d e : ℕ) → is_three b d e ≡ true → (nat_eq (code b d e) 8710 || nat_eq (code b d e) 9049) ≡ true → c.is_delta (b ∷ d ∷ e ∷ []) ≡ true
found b d e g h =
    let a1 = nat_le 224 b in let a2 = nat_lt b 240 in let a3 = is_tail d in let a4 = is_tail e in let a5 = nat_lt 224 b || nat_le 160 d in let a6 = nat_lt b 237 || nat_lt 237 b || nat_lt d 160 in
    let g5 = first_true ((((a1 && a2) && a3) && a4) && a5) a6 g in
    let g4 = first_true (((a1 && a2) && a3) && a4) a5 g5 in
    let g3 = first_true ((a1 && a2) && a3) a4 g4 in
    let g2 = first_true (a1 && a2) a3 g3 in
    let t4 = second_true ((a1 && a2) && a3) a4 g4 in
    let t3 = second_true (a1 && a2) a3 g3 in
    pick (nat_eq (code b d e) 8710) (nat_eq (code b d e) 9049) refl refl h (at_least 224 b (first_true a1 a2 g2)) (below b 240 (second_true a1 a2 g2))
    (at_least 128 d (first_true (nat_le 128 d) (nat_lt d 192) t3)) (below d 192 (second_true (nat_le 128 d) (nat_lt d 192) t3))
    (at_least 128 e (first_true (nat_le 128 e) (nat_lt e 192) t4)) (below e 192 (second_true (nat_le 128 e) (nat_lt e 192) t4))
  where
    pick : (x y : Bool) → nat_eq (code b d e) 8710 ≡ x → nat_eq (code b d e) 9049 ≡ y → (x || y) ≡ true → 224 ≤ b → b < 240 → 128 ≤ d → d < 192 → 128 ≤ e → e < 192 → c.is_delta (b ∷ d ∷ e ∷ []) ≡ true
    pick true y i j k l m n o p q = is_c_delta b d e (first_delta b d e l m n o p q (equal (code b d e) 8710 i))
    pick false true i j k l m n o p q = is_c_delta2 b d e (second_delta b d e l m n o p q (equal (code b d e) 9049 j))
    pick false false i j k l m n o p q = cc

deltas : (b d e : ℕ) → is_delta (three b d e) ≡ true → c.is_delta (b ∷ d ∷ e ∷ []) ≡ true
deltas b d e f = pick (is_three b d e) refl f
  where
    pick : (t : Bool) → is_three b d e ≡ t → is_delta (if t then Some (code b d e) else None) ≡ true → c.is_delta (b ∷ d ∷ e ∷ []) ≡ true
    pick true g h = found b d e g h
    pick false g h = cc

-- ---- How long a name is

-- one more letter or digit
plain_bytes : (b : ℕ) (xs : List ℕ) → (is_letter b || is_digit b) ≡ true → name_bytes (b ∷ xs) ≡ 1 + name_bytes xs
plain_bytes b [] e = ap (λ t. if t then 1 else 0) e
plain_bytes b (c ∷ []) e = ap (λ t. if t then 1 + name_bytes (c ∷ []) else 0) e
plain_bytes b (c ∷ d ∷ xs) e = ap (λ t. if t then 1 + name_bytes (c ∷ d ∷ xs) else (if is_delta (three b c d) then 3 + name_bytes xs else 0)) e

plain_chars : (b : ℕ) (xs : List ℕ) → (is_letter b || is_digit b) ≡ true → name_chars (b ∷ xs) ≡ 1 + name_chars xs
plain_chars b [] e = ap (λ t. if t then 1 else 0) e
plain_chars b (c ∷ []) e = ap (λ t. if t then 1 + name_chars (c ∷ []) else 0) e
plain_chars b (c ∷ d ∷ xs) e = ap (λ t. if t then 1 + name_chars (c ∷ d ∷ xs) else (if is_delta (three b c d) then 1 + name_chars xs else 0)) e

delta_bytes : (b c d : ℕ) (xs : List ℕ) → (is_letter b || is_digit b) ≡ false → is_delta (three b c d) ≡ true → name_bytes (b ∷ c ∷ d ∷ xs) ≡ 3 + name_bytes xs
delta_bytes b c d xs e f = ap (λ t. if t then 1 + name_bytes (c ∷ d ∷ xs) else (if is_delta (three b c d) then 3 + name_bytes xs else 0)) e ∙ ap (λ t. if t then 3 + name_bytes xs else 0) f

delta_chars : (b c d : ℕ) (xs : List ℕ) → (is_letter b || is_digit b) ≡ false → is_delta (three b c d) ≡ true → name_chars (b ∷ c ∷ d ∷ xs) ≡ 1 + name_chars xs
delta_chars b c d xs e f = ap (λ t. if t then 1 + name_chars (c ∷ d ∷ xs) else (if is_delta (three b c d) then 1 + name_chars xs else 0)) e ∙ ap (λ t. if t then 1 + name_chars xs else 0) f

-- ---- Names

abbrev Room : ℕ → List ℕ → Type 0
Room n bs = name_bytes bs ≡ length bs → name_chars bs ≤ n → c.are_more n bs ≡ true

more_plain : (n b : ℕ) (bs : List ℕ) → (is_letter b || is_digit b) ≡ true → ((m : ℕ) → Room m bs) → Room n (b ∷ bs)
more_plain n b bs e f g l = at n (plain_bytes b bs e) (plain_chars b bs e) g l
  where
    at : (n : ℕ) → name_bytes (b ∷ bs) ≡ 1 + name_bytes bs → name_chars (b ∷ bs) ≡ 1 + name_chars bs → name_bytes (b ∷ bs) ≡ length (b ∷ bs) → name_chars (b ∷ bs) ≤ n → c.are_more n (b ∷ bs) ≡ true
    at zero h i j k = absurd (omega arith)
    at (suc m) h i j k =
        first ((c.is_letter b || c.is_digit b) && c.are_more m bs) (c.is_delta (b ∷ take 2 bs) && c.are_more m (drop 2 bs))
        (both_true (c.is_letter b || c.is_digit b) (c.are_more m bs) (plain b e) (f m (omega arith) (omega arith)))

more_delta : (n b d e : ℕ) (bs : List ℕ) → (is_letter b || is_digit b) ≡ false → is_delta (three b d e) ≡ true → ((m : ℕ) → Room m bs) → Room n (b ∷ d ∷ e ∷ bs)
more_delta n b d e bs z x f g l = at n (delta_bytes b d e bs z x) (delta_chars b d e bs z x) g l
  where
    at : (n : ℕ) → name_bytes (b ∷ d ∷ e ∷ bs) ≡ 3 + name_bytes bs → name_chars (b ∷ d ∷ e ∷ bs) ≡ 1 + name_chars bs → name_bytes (b ∷ d ∷ e ∷ bs) ≡ length (b ∷ d ∷ e ∷ bs) → name_chars (b ∷ d ∷ e ∷ bs) ≤ n → c.are_more n (b ∷ d ∷ e ∷ bs) ≡ true
    at zero h i j k = absurd (omega arith)
    at (suc m) h i j k =
        second ((c.is_letter b || c.is_digit b) && c.are_more m (d ∷ e ∷ bs)) (c.is_delta (b ∷ d ∷ e ∷ []) && c.are_more m bs)
        (both_true (c.is_delta (b ∷ d ∷ e ∷ [])) (c.are_more m bs) (deltas b d e x) (f m (omega arith) (omega arith)))

more : (bs : List ℕ) (n : ℕ) → Room n bs
more [] zero g l = refl
more [] (suc n) g l = refl
more (b ∷ []) n g l = pick (is_letter b || is_digit b) refl (λ m i j. more [] m i j)
  where
    pick : (t : Bool) → (is_letter b || is_digit b) ≡ t → ((m : ℕ) → Room m []) → c.are_more n (b ∷ []) ≡ true
    pick true e f = more_plain n b [] e f g l
    pick false e f = let z : name_bytes (b ∷ []) ≡ 0 = ap (λ t. if t then 1 else 0) e in absurd (omega arith)
more (b ∷ d ∷ []) n g l = pick (is_letter b || is_digit b) refl (λ m i j. more (d ∷ []) m i j)
  where
    pick : (t : Bool) → (is_letter b || is_digit b) ≡ t → ((m : ℕ) → Room m (d ∷ [])) → c.are_more n (b ∷ d ∷ []) ≡ true
    pick true e f = more_plain n b (d ∷ []) e f g l
    pick false e f = let z : name_bytes (b ∷ d ∷ []) ≡ 0 = ap (λ t. if t then 1 + name_bytes (d ∷ []) else 0) e in absurd (omega arith)
more (b ∷ d ∷ e ∷ bs) n g l = pick (is_letter b || is_digit b) (is_delta (three b d e)) refl refl (λ m i j. more (d ∷ e ∷ bs) m i j) (λ m i j. more bs m i j)
  where
    pick : (s t : Bool) → (is_letter b || is_digit b) ≡ s → is_delta (three b d e) ≡ t → ((m : ℕ) → Room m (d ∷ e ∷ bs)) → ((m : ℕ) → Room m bs) → c.are_more n (b ∷ d ∷ e ∷ bs) ≡ true
    pick true t z x f h = more_plain n b (d ∷ e ∷ bs) z f g l
    pick false true z x f h = more_delta n b d e bs z x h g l
    pick false false z x f h =
        let y : name_bytes (b ∷ d ∷ e ∷ bs) ≡ 0 = ap (λ t. if t then 1 + name_bytes (d ∷ e ∷ bs) else (if is_delta (three b d e) then 3 + name_bytes bs else 0)) z ∙ ap (λ t. if t then 3 + name_bytes bs else 0) x in absurd (omega arith)

-- a name of the lexer is one of the C profile
abbrev Tests : List ℕ → Type 0
Tests bs = (name_bytes bs ≡ length bs) × (0 < name_bytes bs) × (name_chars bs ≤ 63) × (begins_with_digit bs ≡ false)

tests_of : (bs : List ℕ) → is_name bs ≡ true → Tests bs
tests_of bs e =
    let a = nat_eq (name_bytes bs) (length bs) in let b = nat_lt 0 (name_bytes bs) in let d = not (nat_lt 63 (name_chars bs)) in let f = not (begins_with_digit bs) in
    let r = second_true a (b && (d && f)) e in
    let t = second_true b (d && f) r in
    (equal (name_bytes bs) (length bs) (first_true a (b && (d && f)) e), below 0 (name_bytes bs) (first_true b (d && f) r), at_most (name_chars bs) (not_true (nat_lt 63 (name_chars bs)) (first_true d f t)), not_true (begins_with_digit bs) (second_true d f t))
  where
    at_most : (n : ℕ) → nat_lt 63 n ≡ false → n ≤ 63
    at_most n e = grind (arith, nat_tests)

letter_of : (x y : Bool) → (x || y) ≡ true → y ≡ false → x ≡ true
letter_of true y e f = refl
letter_of false true e f = cc
letter_of false false e f = cc

-- behind a letter
after_letter : (b : ℕ) (bs : List ℕ) → (is_letter b || is_digit b) ≡ true → Tests (b ∷ bs) → c.is_name (b ∷ bs) ≡ true
after_letter b bs e t =
    let i = plain_bytes b bs e in let j = plain_chars b bs e in let k = t.0 in let l = t.2 in
    first (c.is_letter b && c.are_more 62 bs) (c.is_delta (b ∷ take 2 bs) && c.are_more 62 (drop 2 bs))
    (both_true (c.is_letter b) (c.are_more 62 bs) (letters b (letter_of (is_letter b) (is_digit b) e t.3)) (more bs 62 (omega arith) (omega arith)))

after_delta : (b d e : ℕ) (bs : List ℕ) → (is_letter b || is_digit b) ≡ false → is_delta (three b d e) ≡ true → Tests (b ∷ d ∷ e ∷ bs) → c.is_name (b ∷ d ∷ e ∷ bs) ≡ true
after_delta b d e bs z x t =
    let i = delta_bytes b d e bs z x in let j = delta_chars b d e bs z x in let k = t.0 in let l = t.2 in
    second (c.is_letter b && c.are_more 62 (d ∷ e ∷ bs)) (c.is_delta (b ∷ d ∷ e ∷ []) && c.are_more 62 bs)
    (both_true (c.is_delta (b ∷ d ∷ e ∷ [])) (c.are_more 62 bs) (deltas b d e x) (more bs 62 (omega arith) (omega arith)))

c_name : (bs : List ℕ) → Tests bs → c.is_name bs ≡ true
c_name [] t = let l = t.1 in absurd (omega arith)
c_name (b ∷ []) t = pick (is_letter b || is_digit b) refl
  where
    pick : (s : Bool) → (is_letter b || is_digit b) ≡ s → c.is_name (b ∷ []) ≡ true
    pick true e = after_letter b [] e t
    pick false e = let z : name_bytes (b ∷ []) ≡ 0 = ap (λ t. if t then 1 else 0) e in let l = t.1 in absurd (omega arith)
c_name (b ∷ d ∷ []) t = pick (is_letter b || is_digit b) refl
  where
    pick : (s : Bool) → (is_letter b || is_digit b) ≡ s → c.is_name (b ∷ d ∷ []) ≡ true
    pick true e = after_letter b (d ∷ []) e t
    pick false e = let z : name_bytes (b ∷ d ∷ []) ≡ 0 = ap (λ t. if t then 1 + name_bytes (d ∷ []) else 0) e in let l = t.1 in absurd (omega arith)
c_name (b ∷ d ∷ e ∷ bs) t = pick (is_letter b || is_digit b) (is_delta (three b d e)) refl refl
  where
    pick : (s u : Bool) → (is_letter b || is_digit b) ≡ s → is_delta (three b d e) ≡ u → c.is_name (b ∷ d ∷ e ∷ bs) ≡ true
    pick true u z x = after_letter b (d ∷ e ∷ bs) z t
    pick false true z x = after_delta b d e bs z x t
    pick false false z x =
        let y : name_bytes (b ∷ d ∷ e ∷ bs) ≡ 0 = ap (λ t. if t then 1 + name_bytes (d ∷ e ∷ bs) else (if is_delta (three b d e) then 3 + name_bytes bs else 0)) z ∙ ap (λ t. if t then 3 + name_bytes bs else 0) x in let l = t.1 in absurd (omega arith)

pub name_in_c : (bs : List ℕ) → is_name bs ≡ true → c.is_name bs ≡ true
name_in_c bs e = c_name bs (tests_of bs e)
