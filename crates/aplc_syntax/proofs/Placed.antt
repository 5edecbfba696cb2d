-- The words of each line stand in the text, each behind the one before it, and its texts are quoted.
use Rattle.std.proofs.Common.{◌≡◌, ℕ, ◌+◌, ◌-◌, ◌≤◌, ◌<◌, List, [], ◌∷◌, ◌++◌, zero, suc, length, map, take, drop, All, IsUtf8, Option, Some, None, is_some, refl, arith, nat_eq, Bool, true, false, if◌then◌else◌}
use Rattle.std.specs.List.{AllByRecursion}
use Rattle.std.specs.Prelude.{Contains}
use Rattle.std.proofs.lemmas.List.Elements.{All-head, All-tail, All-contains, All-from_recursion}
use Rattle.aplc_lex.specs.Heads.{head}
use Rattle.aplc_lex.specs.Tokens.{AreTokens, Rise, StandsIn}
use Rattle.aplc_lex.specs.declared.token.Head.TheVariants as h
use Rattle.aplc_lex.specs.declared.token.Token.{Token}
use Rattle.aplc_lex.specs.declared.token.TokenKind.{TokenKind}
use Rattle.aplc_lex.specs.declared.token.TokenKind.TheVariants as k
use Rattle.aplc_syntax.specs.declared.word.Word.{Word}
use Rattle.aplc_syntax.specs.declared.word.WordKind.{WordKind}
use Rattle.aplc_syntax.specs.declared.word.WordKind.TheVariants as w
use Rattle.aplc_syntax.specs.Words.{signs, sign_in, sign, kind_of, word_of, words, names_in, IsQuoted, Laid}
use Rattle.aplc_syntax.specs.Layout.{Row, Rows, before_rows, cut, lines, begins_with_del, Block, part, parts, blocks, parts_of, Header, headers, kind_in, word_in, label_of, sentence}
use Rattle.aplc_syntax.proofs.Spans.{rise_end, tokens_rise, tokens_stand, between_quotes}

-- ---- Words

pub laid_lower : (text : List ℕ) (p q : ℕ) (ws : List Word) → p ≤ q → Laid text q ws → Laid text p ws
laid_lower text p q [] l h = tt
laid_lower text p q (x ∷ xs) l h = (omega arith, h.1, h.2, h.3)

pub laid_take : (text : List ℕ) (p n : ℕ) (ws : List Word) → Laid text p ws → Laid text p (take n ws)
laid_take text p zero [] h = tt
laid_take text p zero (x ∷ xs) h = tt
laid_take text p (suc n) [] h = tt
laid_take text p (suc n) (x ∷ xs) h = (h.0, h.1, h.2, laid_take text (x.place + 1) n xs h.3)

pub laid_drop : (text : List ℕ) (n : ℕ) (ws : List Word) → Laid text 0 ws → Laid text 0 (drop n ws)
laid_drop text zero [] h = tt
laid_drop text zero (x ∷ xs) h = h
laid_drop text (suc n) [] h = tt
laid_drop text (suc n) (x ∷ xs) h = laid_drop text n xs (laid_lower text 0 (x.place + 1) xs (omega arith) h.3)

-- words side by side of words that stand in a text
pub laid_slice : (text : List ℕ) (from n : ℕ) (ws : List Word) → Laid text 0 ws → Laid text 0 (take n (drop from ws))
laid_slice text from n ws h = laid_take text 0 n (drop from ws) (laid_drop text from ws h)

-- no symbol is a text
is_text : WordKind → Bool
is_text (w.Text to) = true
is_text _ = false

any_text : List (ℕ × WordKind) → Bool
any_text [] = false
any_text (x ∷ xs) = if is_text x.1 then true else any_text xs

sign_in_plain : (c : ℕ) (xs : List (ℕ × WordKind)) → any_text xs ≡ false → is_text (sign_in c xs) ≡ false
unfolding is_text any_text
sign_in_plain c [] e = refl
sign_in_plain c ((d, x) ∷ xs) e = pick (nat_eq c d) (is_text x) refl e (λ g. sign_in_plain c xs g)
  where
    pick : (s t : Bool) → is_text x ≡ t → (if t then true else any_text xs) ≡ false → (any_text xs ≡ false → is_text (sign_in c xs) ≡ false) → is_text (if s then x else sign_in c xs) ≡ false
    pick s true g f r = cc
    pick true false g f r = g
    pick false false g f r = r f

sign_plain : (c : ℕ) → is_text (sign c) ≡ false
unfolding sign is_text any_text
sign_plain c = sign_in_plain c signs refl

plain_quoted : (text : List ℕ) (p : ℕ) (x : WordKind) → is_text x ≡ false → IsQuoted text p x
unfolding is_text
plain_quoted text p (w.Text to) e = cc
plain_quoted text p _ e = tt

quoted_kind : (text : List ℕ) (ns : List (List ℕ)) (t : Token) (j : TokenKind) → IsUtf8 text → t.span.from < t.span.to → head (drop t.span.from text) ≡ h.Found j (t.span.to - t.span.from) → IsQuoted text t.span.from (kind_of text ns t j)
quoted_kind text ns t k.Name u l e = tt
quoted_kind text ns t (k.Number v) u l e = tt
quoted_kind text ns t k.Text u l e = between_quotes text t.span.from t.span.to u l e
quoted_kind text ns t k.NumsInput u l e = tt
quoted_kind text ns t (k.Symbol c) u l e = plain_quoted text t.span.from (sign c) (sign_plain c)
quoted_kind text ns t k.LineEnd u l e = tt

laid_from : (text : List ℕ) (ns : List (List ℕ)) (p : ℕ) (ts : List Token) → IsUtf8 text → Rise p ts (length text) → All (StandsIn text) ts → Laid text p (map (word_of text ns) ts)
laid_from text ns p [] u r a = tt
laid_from text ns p (t ∷ ts) u r a =
    let l : t.span.from < t.span.to = r.1 in
    let e = rise_end t.span.to (length text) ts r.2 in (
      r.0,
      omega arith,
      quoted_kind text ns t t.kind u l (All-head (StandsIn text) t ts a),
      laid_lower text (t.span.from + 1) t.span.to (map (word_of text ns) ts) (omega arith) (laid_from text ns t.span.to ts u r.2 (All-tail (StandsIn text) t ts a)),
    )

-- the words of a text stand in it
pub laid_words : (text : List ℕ) (ts : List Token) → AreTokens text ts → Laid text 0 (words text ts)
laid_words text ts a = laid_from text (names_in text ts) 0 ts a.utf8 (tokens_rise text ts a) (tokens_stand text ts a)

-- ---- Lines

-- a line's words stand in the text
abbrev pub RowLaid : List ℕ → Row → Type 0
RowLaid text r = Laid text 0 r.words

before_laid : (text : List ℕ) (p : ℕ) (j : WordKind) (x : Word) (rows : Rows) → p ≤ x.place → x.place < length text → IsQuoted text x.place x.kind
    → Laid text (x.place + 1) rows.first → AllByRecursion (RowLaid text) rows.rest
    → Laid text p (before_rows j x rows).first × AllByRecursion (RowLaid text) (before_rows j x rows).rest
before_laid text p (w.LineEnd to) x rows l m q f r = (tt, (laid_lower text 0 (x.place + 1) rows.first (omega arith) f, r))
before_laid text p _ x rows l m q f r = ((l, m, q, f), r)

cut_laid : (text : List ℕ) (p : ℕ) (ws : List Word) → Laid text p ws → Laid text p (cut ws).first × AllByRecursion (RowLaid text) (cut ws).rest
cut_laid text p [] h = (tt, tt)
cut_laid text p (x ∷ xs) h = let i = cut_laid text (x.place + 1) xs h.3 in before_laid text p x.kind x (cut xs) h.0 h.1 h.2 i.0 i.1

lines_laid : (text : List ℕ) (ts : List Token) → AreTokens text ts → AllByRecursion (RowLaid text) (lines (words text ts))
lines_laid text ts a = cut_laid text 0 (words text ts) (laid_words text ts a)

-- the words of each line
pub laid_lines : (text : List ℕ) (ts : List Token) → AreTokens text ts → All (RowLaid text) (lines (words text ts))
laid_lines text ts a = All-from_recursion (RowLaid text) (lines (words text ts)) (lines_laid text ts a)

-- ---- Functions

OpenedLaid : List ℕ → Option (Row × List Row) → Type 0
OpenedLaid text None = Unit {0}
OpenedLaid text (Some (g, body)) = AllByRecursion (RowLaid text) body

abbrev BodyLaid : List ℕ → Block → Type 0
BodyLaid text b = All (RowLaid text) b.body

row_more : (text : List ℕ) (rs : List Row) (r : Row) → AllByRecursion (RowLaid text) rs → RowLaid text r → AllByRecursion (RowLaid text) (rs ++ r ∷ [])
row_more text [] r h i = (i, tt)
row_more text (s ∷ rs) r h i = (h.0, row_more text rs r h.1 i)

part_laid : (text : List ℕ) (t : Bool) (r : Row) (opened : Option (Row × List Row)) (rs : List Row)
    → ((o : Option (Row × List Row)) → OpenedLaid text o → AllByRecursion (BodyLaid text) (blocks (parts rs o)))
    → RowLaid text r → OpenedLaid text opened → AllByRecursion (BodyLaid text) (blocks (part t r opened (parts rs)))
unfolding OpenedLaid
part_laid text true r None rs f i o = f (Some (r, [])) tt
part_laid text false r None rs f i o = f None tt
part_laid text true r (Some (g, body)) rs f i o = (All-from_recursion (RowLaid text) body o, f None tt)
part_laid text false r (Some (g, body)) rs f i o = f (Some (g, body ++ r ∷ [])) (row_more text body r o i)

parts_laid : (text : List ℕ) (rs : List Row) (opened : Option (Row × List Row)) → AllByRecursion (RowLaid text) rs → OpenedLaid text opened → AllByRecursion (BodyLaid text) (blocks (parts rs opened))
unfolding OpenedLaid
parts_laid text [] None h o = tt
parts_laid text [] (Some (g, body)) h o = (All-from_recursion (RowLaid text) body o, tt)
parts_laid text (r ∷ rs) opened h o = part_laid text (begins_with_del r.words) r opened rs (λ x i. parts_laid text rs x h.1 i) h.0 o

-- the words of each line of each function
pub laid_bodies : (text : List ℕ) (ts : List Token) → AreTokens text ts → All (λ (b : Block). All (RowLaid text) b.body) (blocks (parts_of text ts))
unfolding OpenedLaid
laid_bodies text ts a = All-from_recursion (BodyLaid text) (blocks (parts_of text ts)) (parts_laid text (lines (words text ts)) None (lines_laid text ts a) tt)

-- ---- Sentences

quoted_in : (text : List ℕ) (p : ℕ) (hs : List Header) (x : WordKind) → IsQuoted text p x → IsQuoted text p (kind_in hs x)
quoted_in text p hs (w.Name r n) q = tt
quoted_in text p hs _ q = q

-- names that get their roles
pub laid_map : (text : List ℕ) (p : ℕ) (hs : List Header) (ws : List Word) → Laid text p ws → Laid text p (map (word_in hs) ws)
laid_map text p hs [] h = tt
laid_map text p hs (x ∷ xs) h = (h.0, h.1, quoted_in text x.place hs x.kind h.2, laid_map text (x.place + 1) hs xs h.3)

laid_behind : (text : List ℕ) (t : Bool) (ws : List Word) → Laid text 0 ws → Laid text 0 (if t then drop 2 ws else ws)
laid_behind text true ws h = laid_drop text 2 ws h
laid_behind text false ws h = h

-- what stands behind a label, of a line whose words stand in the text
pub laid_sentence : (text : List ℕ) (hs : List Header) (r : Row) → Laid text 0 r.words → Laid text 0 (sentence hs r)
laid_sentence text hs r h = laid_map text 0 hs (if is_some (label_of r) then drop 2 r.words else r.words) (laid_behind text (is_some (label_of r)) r.words h)

-- the words of each statement stand in the text
pub laid_statement : (text : List ℕ) (ts : List Token) (b : Block) (r : Row) → AreTokens text ts → Contains (blocks (parts_of text ts)) b → Contains b.body r → Laid text 0 (sentence (headers (parts_of text ts)) r)
laid_statement text ts b r a i j = laid_sentence text (headers (parts_of text ts)) r
    (All-contains (RowLaid text) b.body r (All-contains (λ (c : Block). All (RowLaid text) c.body) (blocks (parts_of text ts)) b (laid_bodies text ts a) i) j)
