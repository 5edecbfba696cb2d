-- Bytes of the input that are read ahead, and the line at their front.
use Rattle.std.specs.Prelude.{◌≡◌, ℕ, ◌+◌, ◌<◌, ◌≤◌, List, [], ◌∷◌, ◌++◌, false, length, take, drop, Bool, IsTrue, ℤ, Option, option_and_then}
use Rattle.aplc_io.specs.Outside.{SourceState, SourceGives, SourceFails, IsAtEnd}
use Rattle.aplc_scalar.specs.declared.kind.FaultKind.{FaultKind}
use Rattle.aplc_scalar.specs.Input.{Unread, decoded, read_line, line_or_fault}
use Rattle.aplc_scalar.proofs.InputEnds.{has_line_feed}
use Rattle.aplc_crun.specs.declared.gather.Extent.{Extent}
use Rattle.aplc_crun.specs.declared.gather.Found.{Found}
use Rattle.aplc_crun.specs.declared.gather.Found.TheVariants as found

-- ---- Reading ahead

-- Bytes were read behind those that there were. Once a read has met the end, there is no other.
pub record Gathered (old : List ℕ) (was : Bool) (source : SourceState) (new : List ℕ) (ended : Bool) (left : SourceState) : Type 0 where
  pub taken : List ℕ
  pub items : new ≡ old ++ taken
  pub gives : SourceGives taken source left
  pub end : (IsTrue was → IsAtEnd source) → IsTrue ended → IsAtEnd left
  pub still : IsTrue was → (taken ≡ []) × (left ≡ source) × IsTrue ended

-- and the last read failed
pub record Missed (old : List ℕ) (was : Bool) (source : SourceState) (new : List ℕ) (ended : Bool) (failed : SourceState) : Type 0 where
  pub left : SourceState
  pub gathered : Gathered old was source new ended left
  pub asked : IsTrue ended → ⊥
  pub fails : SourceFails left failed

-- one read: it gave some bytes, or it met the end
pub record Fetched (old : List ℕ) (source : SourceState) (new : List ℕ) (ended : Bool) (left : SourceState) : Type 0 where
  pub taken : List ℕ
  pub items : new ≡ old ++ taken
  pub gives : SourceGives taken source left
  pub end : IsTrue ended → IsAtEnd left
  pub goes : length taken ≡ 0 → IsTrue ended

-- ---- The line at the front

-- So many bytes are the text of the line at the front, and so many are taken with its end, whatever may still come:
-- nothing where the end was met.
pub record IsLine (ahead : List ℕ) (ended : Bool) (extent : Extent) : Type 0 where
  pub text_in : extent.text ≤ length ahead
  pub taken_in : extent.taken ≤ length ahead
  pub reads : (meaning : List ℕ → Option (List ℤ)) (more : List ℕ) → (IsTrue ended → more ≡ []) → read_line meaning (ahead ++ more) ≡ line_or_fault (option_and_then meaning (decoded (take extent.text ahead))) (drop extent.taken ahead ++ more)

-- a read of a line is a fault, whatever may still come
pub record IsNoLine (ahead : List ℕ) (ended : Bool) (kind : FaultKind) : Type 0 where
  pub reads : (meaning : List ℕ → Option (List ℤ)) (more : List ℕ) → (IsTrue ended → more ≡ []) → read_line meaning (ahead ++ more) ≡ Unread kind

abbrev pub IsFound : List ℕ → Bool → Found → Type 0
IsFound ahead ended (found.Line extent) = IsLine ahead ended extent
IsFound ahead ended (found.NoLine k) = IsNoLine ahead ended k

-- the first line feed of bytes is at a place
pub record IsFirstFeed (bytes : List ℕ) (feed : ℕ) : Type 0 where
  pub before : has_line_feed (take feed bytes) ≡ false
  pub here : bytes ≡ take feed bytes ++ 10 ∷ drop (feed + 1) bytes
  pub within : feed < length bytes
