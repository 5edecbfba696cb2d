-- The tokens of a text, and the first refusal of a text that has none.
use Rattle.std.specs.Prelude.{◌≡◌, ℕ, ◌+◌, ◌<◌, ◌≤◌, ◌&&◌, ◌-◌, ◌==◌, Bool, false, not, length, take_while, List, [], ◌∷◌, nat_eq, nat_lt, if◌then◌else◌, ◌⊎◌, IsUtf8, drop}
use Rattle.std.specs.Str.{IsValidUpTo}
use Rattle.aplc_lex.specs.declared.token.TokenKind.{TokenKind}
use Rattle.aplc_lex.specs.declared.token.Head.TheVariants as h
use Rattle.aplc_lex.specs.declared.token.Token.{Token}
use Rattle.aplc_lex.specs.declared.token.Refusal.{Refusal}
use Rattle.aplc_lex.specs.declared.token.Stop.{Stop}
pub use Rattle.aplc_lex.specs.Firsts.{refusal, IsBefore}
use Rattle.aplc_lex.specs.Firsts.{SaysFirst}
use Rattle.aplc_lex.specs.Firsts as firsts
use Rattle.std.specs.List.{list_any}
use Rattle.aplc_lex.specs.Heads.{head, open_quote}

-- a token of n bytes at place p
abbrev pub token : TokenKind → ℕ → ℕ → Token
token k p n = record { kind = k; span = record { from = p; to = p + n } }

-- bs, which stands at place p, is cut into these tokens: head by head, up to its end
pub data IsCut : List ℕ → ℕ → List Token → Type 0 where
  at_end : {p : ℕ} → IsCut [] p []
  skips : {bs : List ℕ} {p n : ℕ} {ts : List Token} → head bs ≡ h.Skip n → IsCut (drop n bs) (p + n) ts → IsCut bs p ts
  finds : {bs : List ℕ} {p n : ℕ} {k : TokenKind} {ts : List Token} → head bs ≡ h.Found k n → IsCut (drop n bs) (p + n) ts → IsCut bs p (token k p n ∷ ts)

-- cutting bs, which stands at place p, comes to a head that is refused
pub data Meets : List ℕ → ℕ → Refusal → Type 0 where
  meets_here : {b : ℕ} {bs : List ℕ} {p n : ℕ} → head (b ∷ bs) ≡ h.Bad n → Meets (b ∷ bs) p (refusal n p)
  meets_behind_skip : {bs : List ℕ} {p n : ℕ} {r : Refusal} → head bs ≡ h.Skip n → Meets (drop n bs) (p + n) r → Meets bs p r
  meets_behind_token : {bs : List ℕ} {p n : ℕ} {k : TokenKind} {r : Refusal} → head bs ≡ h.Found k n → Meets (drop n bs) (p + n) r → Meets bs p r

-- the bytes of a byte order mark at the start, which is skipped
abbrev pub mark : List ℕ → ℕ
mark (b ∷ c ∷ d ∷ bs) = if nat_eq b 239 && nat_eq c 187 && nat_eq d 191 then 3 else 0
mark _ = 0

-- a text is UTF-8, and behind its mark it is cut into these tokens
pub record AreTokens (text : List ℕ) (ts : List Token) : Type 0 where
  pub utf8 : IsUtf8 text
  pub cut : IsCut (drop (mark text) text) (mark text) ts

-- the bytes before the end of the line
abbrev pub line : List ℕ → List ℕ
line bs = take_while (λ b. not (b == 10)) bs

-- refusal 3 of a quote behind which, on its line, stands place g, from which the text isn't UTF-8, and behind that another quote
unfoldable pub is_excused : List ℕ → Refusal → ℕ → Bool
is_excused text r g =
    nat_eq r.number open_quote && nat_lt r.place g && nat_lt (g - r.place) (length (line (drop r.place text)))
    && list_any (λ b. b == 39) (line (drop g text))

-- a refusal that a text gives rise to: 1 at the length of its longest front that is UTF-8, or that of a head, unless it is excused
abbrev pub IsCause : List ℕ → Refusal → Type 0
IsCause text r =
    ((r.number ≡ 1) × IsValidUpTo text r.place)
    ⊎ (Meets (drop (mark text) text) (mark text) r × ((g : ℕ) → IsValidUpTo text g → is_excused text r g ≡ false))

-- the refusal of a text: the first of its causes
abbrev pub IsFirst : List ℕ → Refusal → Type 0
IsFirst text r = firsts.IsFirst (IsCause text) r

-- what an error says of a text: its first refusal, or nothing but that memory was wanting
abbrev pub Refuses : List ℕ → Stop → Type 0
Refuses text e = SaysFirst (IsCause text) e

-- tokens have bytes, and stand one behind the other from place p on, up to q at most
abbrev pub Rise : ℕ → List Token → ℕ → Type 0
Rise p [] q = p ≤ q
Rise p (t ∷ ts) q = (p ≤ t.span.from) × (t.span.from < t.span.to) × Rise t.span.to ts q

-- a token stands at the head of the text from its span on, and takes the bytes of its span
abbrev pub StandsIn : List ℕ → Token → Type 0
StandsIn text t = head (drop t.span.from text) ≡ h.Found t.kind (t.span.to - t.span.from)
