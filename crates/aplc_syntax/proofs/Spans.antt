-- The tokens of a text stand one behind the other, each at its place, and its texts between quotes.
use Rattle.std.proofs.Common.{◌≡◌, ℕ, ◌+◌, ◌-◌, ◌≤◌, ◌<◌, List, [], ◌∷◌, length, drop, get_or, suc, All, IsUtf8, refl, sym, ap, ◌∙◌, subst, arith, drop-drop, length-drop, nat_eq, cond, ◌&&◌, Bool, true, false}
use Rattle.std.proofs.lemmas.List.{get_or-drop}
use Rattle.std.proofs.lemmas.List.Elements.{All-nil, All-cons}
use Rattle.std.proofs.lemmas.Str.{IsUtf8-between, IsCharBoundary-before_ascii, IsCharBoundary-after_ascii}
use Rattle.aplc_lex.specs.Heads.{head}
use Rattle.aplc_lex.specs.Tokens.{IsCut, at_end, skips, finds, AreTokens, mark, token, Rise, StandsIn}
use Rattle.aplc_lex.specs.declared.token.Head.TheVariants as h
use Rattle.aplc_lex.specs.declared.token.Token.{Token}
use Rattle.aplc_lex.specs.declared.token.TokenKind.TheVariants as k
use Rattle.aplc_syntax.specs.Words.{slice}
use Rattle.aplc_syntax.proofs.Widths.{Quotes, Takes, takes}

-- ---- Places

pub rise_lower : (p q n : ℕ) (ts : List Token) → p ≤ q → Rise q ts n → Rise p ts n
rise_lower p q n [] l h = omega arith
rise_lower p q n (t ∷ ts) l h = (omega arith, h.1, h.2)

pub rise_end : (p n : ℕ) (ts : List Token) → Rise p ts n → p ≤ n
rise_end p n [] h = h
rise_end p n (t ∷ ts) h = let i = rise_end t.span.to n ts h.2 in omega arith

rises : (q : ℕ) {bs : List ℕ} {p : ℕ} {ts : List Token} → IsCut bs p ts → p + length bs ≡ q → Rise p ts q
rises q (at_end {p = p}) e = omega arith
rises q (skips {bs = bs} {p = p} {n = n} {ts = ts} g c) e =
    let w : Takes bs (h.Skip n) = subst (Takes bs) g (takes bs) in
    let d = length-drop n bs in
    rise_lower p (p + n) q ts (omega arith) (rises q c (omega arith))
rises q (finds {bs = bs} {p = p} {n = n} {k = j} {ts = ts} g c) e =
    let w : Takes bs (h.Found j n) = subst (Takes bs) g (takes bs) in
    let d = length-drop n bs in
    (omega arith, omega arith, rises q c (omega arith))

mark_within : (text : List ℕ) → mark text ≤ length text
mark_within [] = omega arith
mark_within (b ∷ []) = omega arith
mark_within (b ∷ c ∷ []) = omega arith
mark_within (b ∷ c ∷ d ∷ bs) = pick (nat_eq b 239 && nat_eq c 187 && nat_eq d 191)
  where
    pick : (t : Bool) → cond t 3 0 ≤ length (b ∷ c ∷ d ∷ bs)
    pick true = omega arith
    pick false = omega arith

-- tokens stand one behind the other
pub tokens_rise : (text : List ℕ) (ts : List Token) → AreTokens text ts → Rise 0 ts (length text)
tokens_rise text ts a = let m = mark_within text in let d = length-drop (mark text) text in
    rise_lower 0 (mark text) (length text) ts (omega arith) (rises (length text) a.cut (omega arith))

-- a token has bytes, and they are the text's
abbrev pub SpanIn : ℕ → Token → Type 0
SpanIn n t = (t.span.from < t.span.to) × (t.span.to ≤ n)

pub spans_in : (p n : ℕ) (ts : List Token) → Rise p ts n → All (SpanIn n) ts
spans_in p n [] h = All-nil (SpanIn n)
spans_in p n (t ∷ ts) h = All-cons (SpanIn n) t ts (h.1, rise_end t.span.to n ts h.2) (spans_in t.span.to n ts h.2)

stand_from : (text bs : List ℕ) (p : ℕ) {ts : List Token} → bs ≡ drop p text → IsCut bs p ts → All (StandsIn text) ts
stand_from text bs p e at_end = All-nil (StandsIn text)
stand_from text bs p e (skips {n = n} g c) = stand_from text (drop n bs) (p + n) (ap (drop n) e ∙ drop-drop n p text) c
stand_from text bs p e (finds {n = n} {k = k} {ts = ts} g c) =
    let width : n ≡ p + n - p = omega arith in
    All-cons (StandsIn text) (token k p n) ts (ap head (sym e) ∙ g ∙ ap (h.Found k) width) (stand_from text (drop n bs) (p + n) (ap (drop n) e ∙ drop-drop n p text) c)

-- each token stands at the head of the text from its place on
pub tokens_stand : (text : List ℕ) (ts : List Token) → AreTokens text ts → All (StandsIn text) ts
tokens_stand text ts a = stand_from text (drop (mark text) text) (mark text) refl a.cut

-- ---- Texts

-- what stands between the quotes of a text is UTF-8
pub between_quotes : (text : List ℕ) (p to : ℕ) → IsUtf8 text → p < to → head (drop p text) ≡ h.Found k.Text (to - p) → (p + 2 ≤ to) × (to ≤ length text) × IsUtf8 (slice text (p + 1) (to - 1))
between_quotes text p to u l e =
    let w : Takes (drop p text) (h.Found k.Text (to - p)) = subst (Takes (drop p text)) e (takes (drop p text)) in
    let q : Quotes (drop p text) (to - p) = w.2 in
    let d = length-drop p text in
    let i = q.inside in
    let first : get_or text (p + 0) 0 ≡ 39 = sym (get_or-drop p text 0 0) ∙ q.opens in
    let last : get_or text (p + suc i) 0 ≡ 39 = sym (get_or-drop p text (suc i) 0) ∙ q.closes in
    let zero : p + 0 ≡ p = omega arith in
    let back : p + suc i ≡ to - 1 = omega arith in
    let opens : get_or text p 0 ≡ 39 = ap (λ (j : ℕ). get_or text j 0) (sym zero) ∙ first in
    let closes : get_or text (to - 1) 0 ≡ 39 = ap (λ (j : ℕ). get_or text j 0) (sym back) ∙ last in
    (omega arith, omega arith, IsUtf8-between text (p + 1) (to - 1) u (omega arith) (IsCharBoundary-after_ascii text p u (omega arith) (omega arith)) (IsCharBoundary-before_ascii text (to - 1) (omega arith) (omega arith)))
