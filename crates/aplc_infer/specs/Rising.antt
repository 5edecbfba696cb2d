-- Facts in rows, in lists of rows and in lists of these: what stands where, and raising one of them.
use Rattle.std.specs.Prelude.{◌≡◌, ◌<◌, ℕ, ◌+◌, Bool, true, false, List, [], ◌∷◌, Option, Some, None, ◌⊎◌, slice_get}
use Rattle.aplc_infer.specs.declared.fact.Inferred.{Inferred}
use Rattle.aplc_infer.specs.declared.fact.Inferred.TheVariants.{Unset}
use Rattle.aplc_infer.specs.Facts.{below, join, room}
use Rattle.aplc_infer.specs.Seeing.{at}

-- what stands at an index of a list of tables
abbrev pub look_or : {A I : Type 0} → (A → I → Inferred) → Option A → I → Inferred
look_or look None i = Unset
look_or look (Some a) i = look a i

abbrev pub look_in : {A I : Type 0} → (A → I → Inferred) → List A → ℕ × I → Inferred
look_in look xs i = look_or look (slice_get xs i.0) i.1

-- how often the facts can rise
abbrev pub room_in : {A : Type 0} → (A → ℕ) → List A → ℕ
room_in room [] = 0
room_in room (x ∷ xs) = room x + room_in room xs

abbrev pub room_row : List Inferred → ℕ
room_row xs = room_in room xs

abbrev pub at2 : List (List Inferred) → ℕ × ℕ → Inferred
at2 xs i = look_in at xs i

abbrev pub room_rows : List (List Inferred) → ℕ
room_rows xs = room_in room_row xs

abbrev pub at3 : List (List (List Inferred)) → ℕ × (ℕ × ℕ) → Inferred
at3 xs i = look_in at2 xs i

abbrev pub room_blocks : List (List (List Inferred)) → ℕ
room_blocks xs = room_in room_rows xs

-- the fact at index i was raised so that it is above f: it rose, or it stood above f before
pub record Rises (A I : Type 0) (look : A → I → Inferred) (size : A → ℕ) (old new : A) (i : I) (f : Inferred) (rose : Bool) : Type 0 where
  pub still : rose ≡ false → (new ≡ old) × (below f (look old i) ≡ true)
  pub falls : rose ≡ true → size new < size old
  pub only : (j : I) → (look new j ≡ look old j) ⊎ ((j ≡ i) × (look new j ≡ join (look old i) f))

abbrev pub RowRises : List Inferred → List Inferred → ℕ → Inferred → Bool → Type 0
RowRises old new k f rose = Rises (List Inferred) ℕ at room_row old new k f rose

abbrev pub RowsRise : List (List Inferred) → List (List Inferred) → ℕ × ℕ → Inferred → Bool → Type 0
RowsRise old new k f rose = Rises (List (List Inferred)) (ℕ × ℕ) at2 room_rows old new k f rose

abbrev pub BlocksRise : List (List (List Inferred)) → List (List (List Inferred)) → ℕ × (ℕ × ℕ) → Inferred → Bool → Type 0
BlocksRise old new k f rose = Rises (List (List (List Inferred))) (ℕ × (ℕ × ℕ)) at3 room_blocks old new k f rose
