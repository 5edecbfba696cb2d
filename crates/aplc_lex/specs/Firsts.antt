-- The first of the refusals that stand, for every stage.
use Rattle.std.specs.Prelude.{◌≡◌, ℕ, ◌<◌, ◌≤◌, ◌&&◌, ◌||◌, Bool, nat_eq, nat_lt, if◌then◌else◌, ◌⊎◌, Option, Some, None}
use Rattle.aplc_lex.specs.declared.token.Refusal.{Refusal}
use Rattle.aplc_lex.specs.declared.token.Stop.{Stop}
use Rattle.aplc_lex.specs.declared.token.Stop.TheVariants as stop

-- refusal n at place p
abbrev pub refusal : ℕ → ℕ → Refusal
refusal n p = record { number = n; place = p }

-- a smaller place, or at one place a number that isn't greater
abbrev pub IsBefore : Refusal → Refusal → Type 0
IsBefore r t = (r.place < t.place) ⊎ ((r.place ≡ t.place) × (r.number ≤ t.number))

-- a refusal that stands, and before which none stands
pub record IsFirst (P : Refusal → Type 0) (r : Refusal) : Type 0 where
  pub stands : P r
  pub first : (s : Refusal) → P s → IsBefore r s

-- the first that stands, or none where none stands
abbrev pub IsFirstOf : (Refusal → Type 0) → Option Refusal → Type 0
IsFirstOf P None = (r : Refusal) → P r → ⊥
IsFirstOf P (Some r) = IsFirst P r

-- what an error says: the first refusal that stands, or nothing but that memory was wanting
abbrev pub SaysFirst : (Refusal → Type 0) → Stop → Type 0
SaysFirst P (stop.Refused r) = IsFirst P r
SaysFirst P stop.Memory = Unit {0}

-- a smaller place, or at one place a smaller number
abbrev pub comes_before : Refusal → Refusal → Bool
comes_before r s = nat_lt r.place s.place || (nat_eq r.place s.place && nat_lt r.number s.number)

-- the one of two that comes first
abbrev pub sooner : Refusal → Refusal → Refusal
sooner r s = if comes_before s r then s else r

abbrev pub earlier : Option Refusal → Option Refusal → Option Refusal
earlier a None = a
earlier None (Some s) = Some s
earlier (Some r) (Some s) = Some (sooner r s)
