-- What the parts of the tokenizer answer.
use Rattle.std.specs.Prelude.{◌≡◌, ℕ, ◌<◌, ◌≤◌, ◌&&◌, Bool, List, length, nat_eq, nat_lt, if◌then◌else◌, Option, Some, None, Result, Ok, Err, Vec, slice_index}
use Rattle.aplc_lex.specs.declared.token.Head.{Head}
use Rattle.aplc_lex.specs.declared.token.Head.TheVariants as h
use Rattle.aplc_lex.specs.declared.token.Token.{Token}
use Rattle.aplc_lex.specs.declared.token.Refusal.{Refusal}
use Rattle.aplc_lex.specs.declared.token.Stop.{Stop}
use Rattle.aplc_lex.specs.declared.token.Stop.TheVariants as s
use Rattle.aplc_lex.specs.Tokens.{IsCut, Meets, refusal, is_excused}

-- a quote stands at place i
unfoldable pub at_quote : List ℕ → ℕ → Bool
at_quote bs i = nat_lt i (length bs) && nat_eq (slice_index bs i) 39

-- it takes one byte or more of m, or is a refusal of number 2 or above
abbrev pub Fits : Head → ℕ → Type 0
Fits (h.Skip n) m = (0 < n) × (n ≤ m)
Fits (h.Found x n) m = (0 < n) × (n ≤ m)
Fits (h.Bad r) m = 2 ≤ r

-- what cutting bs, which stands at place p, has answered, if memory wasn't wanting
abbrev pub Answers : {A : Type 0} → List ℕ → ℕ → Result (Vec Token A) Stop → Type 0
Answers bs p (Ok v) = IsCut bs p v.items
Answers bs p (Err (s.Refused r)) = Meets bs p r
Answers bs p (Err s.Memory) = Unit {0}

-- a refusal of a head
abbrev pub IsOfHead : Stop → Type 0
IsOfHead (s.Refused r) = 2 ≤ r.number
IsOfHead s.Memory = Unit {0}

-- the first of a refusal of a head and of 1 at place g
abbrev pub earlier : List ℕ → Refusal → ℕ → Refusal
earlier text r g = if nat_lt r.place g then (if is_excused text r g then refusal 1 g else r) else refusal 1 g

-- an answer for a text with the place taken into account, if there is one, from which it isn't UTF-8
abbrev pub Joined : {A : Type 0} → List ℕ → Result (Vec Token A) Stop → Option ℕ → Result (Vec Token A) Stop → Type 0
Joined text x None y = y ≡ x
Joined text (Ok v) (Some g) y = y ≡ Err (s.Refused (refusal 1 g))
Joined text (Err s.Memory) (Some g) y = y ≡ Err s.Memory
Joined text (Err (s.Refused r)) (Some g) y = y ≡ Err (s.Refused (earlier text r g))
