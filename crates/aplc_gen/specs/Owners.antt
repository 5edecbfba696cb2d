-- Who answers for the buffers of a heap.
use Rattle.std.specs.Prelude.{◌≡◌, ◌⊎◌, ℕ, ◌<◌, List, Option, Some, slice_get, ℤ, [], ◌∷◌}

-- what is on its way between a caller and a function
pub data Way : Type 0 where
  to_right : Way
  to_left : Way
  back : Way

pub data Owner : Type 0 where
  -- the buffer is freed, or was never made
  nobody : Owner
  -- name n, or slot k, of a frame, by how many frames stand with it
  local_of : (depth n : ℕ) → Owner
  slot_of : (depth k : ℕ) → Owner
  global_of : (n : ℕ) → Owner
  -- the statement that is carried out, by the number of a local buffer variable
  statement : (p : ℕ) → Owner
  passed : Way → Owner

-- by the number of the buffer
abbrev pub Owners : Type 0
Owners = ℕ → Owner

abbrev pub Heap : Type 0
Heap = List (Option (List ℤ))

-- the buffer is who's, and holds these cells
pub record Owns (own : Owners) (who : Owner) (cells : List ℤ) (id : ℕ) (heap : Heap) : Type 0 where
  pub whose : own id ≡ who
  pub live : slice_get heap id ≡ Some (Some cells)

-- What was theirs is, and holds what it held, and nothing else became theirs.
abbrev pub Untouched : (Owner → Type 0) → Owners → Owners → Heap → Heap → Type 0
Untouched theirs own own' heap heap' = (id : ℕ) → theirs (own id) ⊎ theirs (own' id) → (own' id ≡ own id) × (slice_get heap' id ≡ slice_get heap id)

-- those of frames with which fewer than d stand
abbrev pub IsBelow : ℕ → Owner → Type 0
IsBelow d (local_of e n) = e < d
IsBelow d (slot_of e k) = e < d
IsBelow d _ = ⊥

-- all but these
abbrev pub IsNone : List Owner → Owner → Type 0
IsNone [] who = Unit {0}
IsNone (w ∷ ws) who = (who ≡ w → ⊥) × IsNone ws who
