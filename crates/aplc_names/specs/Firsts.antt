-- The refusals that items of lists give rise to.
use Rattle.std.specs.Prelude.{◌≡◌, ◌<◌, ℕ, Bool, true, false, List, Option, Some, None, nat_lt}
use Rattle.std.specs.List.{slice_get}
use Rattle.aplc_lex.specs.Tokens.{refusal}
use Rattle.aplc_lex.specs.declared.token.Refusal.{Refusal}

-- an item of the list, with its place there, gives rise to a refusal
pub record Somewhere {X : Type 0} (P : ℕ → X → Refusal → Type 0) (xs : List X) (r : Refusal) : Type 0 where
  pub index : ℕ
  pub item : X
  pub found : slice_get xs index ≡ Some item
  pub gives : P index item r

-- one of the first n items does
pub record Among {X : Type 0} (P : ℕ → X → Refusal → Type 0) (xs : List X) (n : ℕ) (r : Refusal) : Type 0 where
  pub index : ℕ
  pub item : X
  pub found : slice_get xs index ≡ Some item
  pub within : index < n
  pub gives : P index item r

abbrev pub refused_if : Bool → ℕ → ℕ → Option Refusal
refused_if true n p = Some (refusal n p)
refused_if false n p = None

-- a place before place k
abbrev pub is_before : Option ℕ → ℕ → Bool
is_before None k = false
is_before (Some i) k = nat_lt i k
