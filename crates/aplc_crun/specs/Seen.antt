-- What the lists of a run stand for.
use Rattle.std.specs.Prelude.{ℕ, ℤ, pos, negsuc, List, length, nat_lt, if◌then◌else◌, slice_set, Option, Some, None, Result, Ok, Err, slice_get, option_and_then}
use Rattle.aplc_cprof.specs.declared.syntax.StuckCause.{StuckCause}
use Rattle.aplc_cprof.specs.declared.syntax.StuckCause.TheVariants.{Outside, Freed}
use Rattle.aplc_cprof.specs.declared.syntax.Op.{Op}
use Rattle.aplc_cprof.specs.declared.syntax.Op.TheVariants as op
use Rattle.aplc_cprof.specs.Machine.{Value, Is, Bad, live_cell}

abbrev pub value_of : Result ℤ StuckCause → Value
value_of (Ok v) = Is v
value_of (Err c) = Bad c

-- past the end of a list there is nothing
abbrev pub joined : {A : Type 0} → Option (Option A) → Option A
joined None = None
joined (Some o) = o

abbrev pub or_zero : Option ℤ → ℤ
or_zero None = pos 0
or_zero (Some v) = v

-- the cell at a place of the buffer that is named
abbrev pub looked_up : List (Option (List ℤ)) → Option ℕ → ℤ → Value
looked_up heap b = live_cell (option_and_then (slice_get heap) b)

-- an operator that needs both sides
abbrev pub IsStrict : Op → Type 0
IsStrict op.And = ⊥
IsStrict op.Or = ⊥
IsStrict _ = Unit {0}

-- a list, where the call did not fail
abbrev pub given_of : {A : Type 0} → Result (Unit {0}) StuckCause → A → Result A StuckCause
given_of (Ok u) a = Ok a
given_of (Err c) a = Err c

-- a buffer after one of its cells is written, or why it is not
abbrev pub cells_written : List ℤ → ℤ → ℤ → Result (Option (List ℤ)) StuckCause
cells_written cells (pos k) v = if nat_lt k (length cells) then Ok (Some (slice_set cells k v)) else Err Outside
cells_written cells (negsuc k) v = Err Outside

abbrev pub slot_written : Option (List ℤ) → ℤ → ℤ → Result (Option (List ℤ)) StuckCause
slot_written None k v = Err Freed
slot_written (Some cells) k v = cells_written cells k v

-- the buffers with one of them changed
abbrev pub heap_with : List (Option (List ℤ)) → ℕ → Result (Option (List ℤ)) StuckCause → Result (List (Option (List ℤ))) StuckCause
heap_with heap b (Ok slot) = Ok (slice_set heap b slot)
heap_with heap b (Err c) = Err c

abbrev pub written_in : List (Option (List ℤ)) → ℕ → Option (Option (List ℤ)) → ℤ → ℤ → Result (List (Option (List ℤ))) StuckCause
written_in heap b None k v = Err Outside
written_in heap b (Some slot) k v = heap_with heap b (slot_written slot k v)
