-- Where a line of the input ends, for code that reads it byte by byte.
use Rattle.std.proofs.Common.{◌≡◌, ◌∙◌, refl, ap, ℕ, List, [], ◌∷◌, ◌++◌, Bool, true, false, cond, nat_eq, ◌&&◌, ◌||◌, ◌⊎◌, inl, inr, append-nil, sym, true≢false, arith}
use Rattle.aplc_scalar.specs.Input.{line_bytes, after_line, starts_with_line_feed, line_text}

-- whether a line feed is among the bytes
abbrev pub has_line_feed : List ℕ → Bool
has_line_feed [] = false
has_line_feed (b ∷ bs) = nat_eq b 10 || has_line_feed bs

neither : (a b : Bool) → (a || b) ≡ false → (a ≡ false) × (b ≡ false)
neither true b h = absurd (true≢false h)
neither false b h = (refl, h)

-- a line goes on over bytes without a line feed
pub line_bytes-past : (front rest : List ℕ) → has_line_feed front ≡ false → line_bytes (front ++ rest) ≡ front ++ line_bytes rest
line_bytes-past [] rest h = refl
line_bytes-past (b ∷ front) rest h =
    let n = neither (nat_eq b 10) (has_line_feed front) h in
    ap (λ t. cond t [] (b ∷ line_bytes (front ++ rest))) n.0 ∙ ap (λ l. b ∷ l) (line_bytes-past front rest n.1)

-- what follows the line follows it also without bytes at its start that have no line feed
pub after_line-past : (front rest : List ℕ) → has_line_feed front ≡ false → after_line (front ++ rest) ≡ after_line rest
after_line-past [] rest h = refl
after_line-past (b ∷ front) rest h =
    let n = neither (nat_eq b 10) (has_line_feed front) h in
    ap (λ t. cond t (front ++ rest) (after_line (front ++ rest))) n.0 ∙ after_line-past front rest n.1

feed_later : (front rest : List ℕ) → has_line_feed front ≡ false → starts_with_line_feed rest ≡ false → starts_with_line_feed (front ++ rest) ≡ false
feed_later [] rest h r = r
feed_later (b ∷ front) rest h r = let n = neither (nat_eq b 10) (has_line_feed front) h in n.0

not_and : (a b : Bool) → b ≡ false → (a && b) ≡ false
not_and true b h = h
not_and false b h = refl

-- the line's text goes on over them too, unless its line feed is next
pub line_text-past : (front rest : List ℕ) → has_line_feed front ≡ false → starts_with_line_feed rest ≡ false → line_text (front ++ rest) ≡ front ++ line_text rest
line_text-past [] rest h r = refl
line_text-past (b ∷ front) rest h r =
    let n = neither (nat_eq b 10) (has_line_feed front) h in
    let later = not_and (nat_eq b 13) (starts_with_line_feed (front ++ rest)) (feed_later front rest n.1 r) in
    ap (λ t. cond (t || (nat_eq b 13 && starts_with_line_feed (front ++ rest))) [] (b ∷ line_text (front ++ rest))) n.0
    ∙ ap (λ t. cond t [] (b ∷ line_text (front ++ rest))) later
    ∙ ap (λ l. b ∷ l) (line_text-past front rest n.1 r)

-- ---- The text of a line that ends at a line feed

-- nothing stands before the line feed
pub text_of_none : (rest : List ℕ) → line_text (10 ∷ rest) ≡ []
text_of_none rest = refl

-- a carriage return stands right before it
pub text_of_return : (front rest : List ℕ) → has_line_feed front ≡ false → line_text (front ++ 13 ∷ 10 ∷ rest) ≡ front
text_of_return front rest h = line_text-past front (13 ∷ 10 ∷ rest) h refl ∙ append-nil front

-- another byte does
pub text_of_other : (front : List ℕ) (b : ℕ) (rest : List ℕ) → has_line_feed front ≡ false → nat_eq b 10 ≡ false → nat_eq b 13 ≡ false → line_text (front ++ b ∷ 10 ∷ rest) ≡ front ++ b ∷ []
text_of_other front b rest h feed return =
    line_text-past front (b ∷ 10 ∷ rest) h feed
    ∙ ap (λ t. front ++ cond (t || (nat_eq b 13 && true)) [] (b ∷ [])) feed
    ∙ ap (λ t. front ++ cond (t && true) [] (b ∷ [])) return

-- ---- The text of a line that ends at the end of the input

pub text_of_all : (bytes : List ℕ) → has_line_feed bytes ≡ false → line_text bytes ≡ bytes
text_of_all bytes h = ap line_text (sym (append-nil bytes)) ∙ line_text-past bytes [] h refl ∙ append-nil bytes

-- ---- Every input

-- no line feed is in a line
pub line_has_none : (input : List ℕ) → has_line_feed (line_bytes input) ≡ false
line_has_none [] = refl
line_has_none (b ∷ bs) = by_test (nat_eq b 10) refl (line_has_none bs)
  where
    by_test : (t : Bool) → nat_eq b 10 ≡ t → has_line_feed (line_bytes bs) ≡ false → has_line_feed (cond t [] (b ∷ line_bytes bs)) ≡ false
    by_test true e h = refl
    by_test false e h = ap (λ t. t || has_line_feed (line_bytes bs)) e ∙ h

-- the input is a line, a line feed and what follows it, or it is a line alone
pub line_cuts : (input : List ℕ) → (input ≡ line_bytes input ++ 10 ∷ after_line input) ⊎ ((input ≡ line_bytes input) × (after_line input ≡ []))
line_cuts [] = inr (refl, refl)
line_cuts (b ∷ bs) = by_test (nat_eq b 10) refl (line_cuts bs)
  where
    by_test : (t : Bool) → nat_eq b 10 ≡ t → (bs ≡ line_bytes bs ++ 10 ∷ after_line bs) ⊎ ((bs ≡ line_bytes bs) × (after_line bs ≡ [])) → (b ∷ bs ≡ cond t [] (b ∷ line_bytes bs) ++ 10 ∷ cond t bs (after_line bs)) ⊎ ((b ∷ bs ≡ cond t [] (b ∷ line_bytes bs)) × (cond t bs (after_line bs) ≡ []))
    by_test true e h = let ten : b ≡ 10 = grind (arith, e) in inl (ap (λ c. c ∷ bs) ten)
    by_test false e (inl h) = inl (ap (λ l. b ∷ l) h)
    by_test false e (inr h) = inr (ap (λ l. b ∷ l) h.0, h.1)
