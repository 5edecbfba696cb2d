-- Readers, writers and the host of the runtime, as contracts see them.
use Rattle.std.specs.Prelude.{◌≡◌, ℕ, Bool, true, false, List, length, Option, None, Some}
use Rattle.std.specs.Io.KnownBytes.{Consumes}
use Rattle.aplc_io.specs.Outside.{SourceState, SinkState, HostState}

-- where a text goes: to the standard output, to a file, nowhere, or, after a call that failed, to a fault
pub data Route : Type 0 where
  ToOutput : Route
  ToFile : Route
  ToNowhere : Route
  ToFault : Route

-- where `text_to` sends the text
abbrev pub route_of : Option (List ℕ) → Bool → Route
route_of (Some name) run = ToFile
route_of None true = ToNowhere
route_of None false = ToOutput

-- what is known of the host of the runtime
pub record RuntimeHost : Type 0 where
  pub route : Route
  pub fetch_faults : ℕ
  pub text_faults : ℕ
  pub taken : ℕ
  pub fetches : ℕ
  pub begun : ℕ
  pub put : ℕ

-- it tells its counts alone
abbrev pub runtime_state : RuntimeHost → HostState
runtime_state h = record { files = None; text = None; target = None; fetch_faults = h.fetch_faults; text_faults = h.text_faults; begun = h.begun; put = h.put }

-- how many bytes the last fetch took
abbrev pub runtime_taken : RuntimeHost → ℕ
runtime_taken h = h.taken

-- how many times fetch was called
abbrev pub runtime_fetches : RuntimeHost → ℕ
runtime_fetches h = h.fetches

-- A reader as a source: the bytes that it has left, where they are known, the faults so far, whether it came to its
-- end, and the reads after that.
pub record Reading : Type 0 where
  pub known : Option (List ℕ)
  pub faults : ℕ
  pub met : Bool
  pub late : ℕ

-- as a source it does not tell its bytes
abbrev pub reading_state : Reading → SourceState
reading_state r = record { left = None; faults = r.faults }

-- a writer as a sink: the bytes that it holds, where they are known, and the faults so far
pub record Writing : Type 0 where
  pub known : Option (List ℕ)
  pub faults : ℕ

-- as a sink it does not tell its bytes
abbrev pub writing_state : Writing → SinkState
writing_state w = record { written = None; faults = w.faults }

-- so many bytes were taken from the front of what a reader has left, where that is known
pub record Took (old new : Option (List ℕ)) (count : ℕ) : Type 0 where
  pub bytes : List ℕ
  pub consumed : Consumes old new bytes
  pub many : length bytes ≡ count
