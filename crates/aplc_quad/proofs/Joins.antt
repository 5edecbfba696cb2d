-- Pieces behind each other: from the first on, by rows, and in UTF-8.
use Rattle.std.proofs.Common.{◌≡◌, ℕ, zero, suc, ◌+◌, ◌*◌, ◌<◌, List, [], ◌∷◌, ◌++◌, refl, ap, ap₂, sym, ◌∙◌, arith, append_assoc, append-nil}
use Rattle.std.specs.Prelude.{flat_map, replicate, encode_utf8}
use Rattle.std.proofs.lemmas.Grind.{flat_map-append}
use Rattle.std.proofs.lemmas.Str.{encode_ascii}
use Rattle.aplc_quad.specs.Rows.{joined}

pub joined_below : (f g : ℕ → List ℕ) (n : ℕ) → ((j : ℕ) → j < n → f j ≡ g j) → joined f n ≡ joined g n
joined_below f g zero h = refl
joined_below f g (suc n) h = ap₂ (λ x y. x ++ y) (joined_below f g n (λ j lt. h j (omega (arith, lt)))) (h n (omega arith))

pub joined_first : (f : ℕ → List ℕ) (n : ℕ) → joined f (suc n) ≡ f 0 ++ joined (λ j. f (suc j)) n
joined_first f zero = sym (append-nil (f 0))
joined_first f (suc n) = ap (λ l. l ++ f (suc n)) (joined_first f n) ∙ append_assoc (f 0) (joined (λ j. f (suc j)) n) (f (suc n))

pub joined_append : (f : ℕ → List ℕ) (m n : ℕ) → joined f (m + n) ≡ joined f m ++ joined (λ j. f (m + j)) n
joined_append f m zero = let e : m + 0 ≡ m = omega arith in ap (joined f) e ∙ sym (append-nil (joined f m))
joined_append f m (suc n) =
    let e : m + suc n ≡ suc (m + n) = omega arith in
    ap (joined f) e ∙ ap (λ l. l ++ f (m + n)) (joined_append f m n) ∙ append_assoc (joined f m) (joined (λ j. f (m + j)) n) (f (m + n))

-- n rows of m pieces
pub joined_rows : (f : ℕ → List ℕ) (m n : ℕ) → joined f (n * m) ≡ joined (λ i. joined (λ j. f (i * m + j)) m) n
joined_rows f m zero = let e : 0 * m ≡ 0 = omega arith in ap (joined f) e
joined_rows f m (suc n) =
    let e : suc n * m ≡ n * m + m = omega arith in
    ap (joined f) e ∙ joined_append f (n * m) m ∙ ap (λ l. l ++ joined (λ j. f (n * m + j)) m) (joined_rows f m n)

-- something before the first piece
abbrev pub at_first : List ℕ → ℕ → List ℕ
at_first h zero = h
at_first h (suc j) = []

pub joined_with_first : (h : List ℕ) (f : ℕ → List ℕ) (n : ℕ) → 0 < n → joined (λ j. at_first h j ++ f j) n ≡ h ++ joined f n
joined_with_first h f zero lt = absurd (omega (arith, lt))
joined_with_first h f (suc n) lt =
    joined_first (λ j. at_first h j ++ f j) n ∙ append_assoc h (f 0) (joined (λ j. f (suc j)) n) ∙ ap (λ l. h ++ l) (sym (joined_first f n))

-- ---- In UTF-8

pub joined_in_utf8 : (f : ℕ → List ℕ) (n : ℕ) → flat_map encode_utf8 (joined f n) ≡ joined (λ j. flat_map encode_utf8 (f j)) n
joined_in_utf8 f zero = refl
joined_in_utf8 f (suc n) = flat_map-append encode_utf8 (joined f n) (f n) ∙ ap (λ l. l ++ flat_map encode_utf8 (f n)) (joined_in_utf8 f n)

pub same_in_utf8 : (c n : ℕ) → c < 128 → flat_map encode_utf8 (replicate n c) ≡ replicate n c
same_in_utf8 c zero lt = refl
same_in_utf8 c (suc n) lt = ap (λ l. l ++ flat_map encode_utf8 (replicate n c)) (encode_ascii c lt) ∙ ap (λ l. c ∷ l) (same_in_utf8 c n lt)
