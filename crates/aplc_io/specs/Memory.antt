-- The objects in memory, as contracts see them.
use Rattle.std.specs.Prelude.{ℕ, ◌+◌, ◌-◌, ◌≤◌, ◌⊎◌, Bool, List, [], ◌∷◌, ◌++◌, length, drop, min, Contains, if◌then◌else◌, Option, None, Some, Vec, String, nat_eq, ◌||◌}
use Rattle.std.specs.declared.alloc.Global.{Global}
use Rattle.std.specs.Str.{bytes_eq}
use Rattle.std.specs.String.{string_bytes}
use Rattle.aplc_io.specs.Outside.{next, more, later_read, SinkState, SourceState, HostState, Target, target_of}

-- a source: what is left, which calls are to fail by their numbers, how many calls and faults there were, whether it came to its
-- end, and the reads after that
pub record SourceMemory : Type 0 where
  pub left : List ℕ
  pub fails : List ℕ
  pub calls : ℕ
  pub faults : ℕ
  pub met : Bool
  pub late : ℕ

-- what a source in memory tells
abbrev pub source_state : SourceMemory → SourceState
source_state s = record { left = Some s.left; faults = s.faults }

-- the next call fails
abbrev pub SourceCallFails : SourceMemory → Type 0
SourceCallFails s = Contains s.fails (next s.calls)

-- after a call that failed
abbrev pub source_failed : SourceMemory → SourceMemory
source_failed s = record s { calls = next s.calls; faults = next s.faults; late = later_read s.met s.late }

-- after a call that gave so many bytes
abbrev pub source_gave : SourceMemory → ℕ → SourceMemory
source_gave s n = record s { left = drop n s.left; calls = next s.calls; met = s.met || nat_eq n 0; late = later_read s.met s.late }

-- a sink: what was written, the room in all, which calls are to fail by their numbers, and how many calls and faults there were
pub record SinkMemory : Type 0 where
  pub bytes : List ℕ
  pub room : ℕ
  pub fails : List ℕ
  pub calls : ℕ
  pub faults : ℕ

-- what a sink in memory tells
abbrev pub sink_state : SinkMemory → SinkState
sink_state s = record { written = Some s.bytes; faults = s.faults }

-- the next call fails
abbrev pub SinkCallFails : SinkMemory → Type 0
SinkCallFails s = Contains s.fails (next s.calls) ⊎ (s.room ≤ length s.bytes)

-- after a call that failed
abbrev pub sink_failed : SinkMemory → SinkMemory
sink_failed s = record s { calls = next s.calls; faults = next s.faults }

-- how many of so many bytes still fit
abbrev pub sink_takes : SinkMemory → ℕ → ℕ
sink_takes s n = min n (s.room - length s.bytes)

-- after a call that took these bytes
abbrev pub sink_took : SinkMemory → List ℕ → SinkMemory
sink_took s bytes = record s { bytes = s.bytes ++ bytes; calls = next s.calls }

-- the first file of this name in a list of names and bytes
abbrev pub file_named : List ℕ → List (List ℕ × List ℕ) → Option (List ℕ)
file_named name [] = None
file_named name (f ∷ fs) = if bytes_eq name f.0 then Some f.1 else file_named name fs

-- a name and the bytes of its file
abbrev pub file_entry : String Global × Vec ℕ Global → List ℕ × List ℕ
file_entry e = (string_bytes e.0, e.1.items)

-- a host: its files, the text, its target and its room in all, which calls are to fail by their numbers,
-- the calls and the faults so far, the bytes that the last fetch took, the fetches, the texts that were begun, and the
-- bytes of text that were taken in all
pub record HostMemory : Type 0 where
  pub files : List (List ℕ × List ℕ)
  pub text : List ℕ
  pub target : Option Target
  pub room : ℕ
  pub fails : List ℕ
  pub calls : ℕ
  pub fetch_faults : ℕ
  pub text_faults : ℕ
  pub taken : ℕ
  pub fetches : ℕ
  pub begun : ℕ
  pub put : ℕ

-- a new host
abbrev pub empty_host : ℕ → List ℕ → HostMemory
empty_host room fails = record { files = []; text = []; target = None; room = room; fails = fails; calls = 0; fetch_faults = 0; text_faults = 0; taken = 0; fetches = 0; begun = 0; put = 0 }

-- the host's file of this name
abbrev pub host_file : HostMemory → List ℕ → Option (List ℕ)
host_file h name = file_named name h.files

-- what a host in memory tells
abbrev pub host_state : HostMemory → HostState
host_state h = record { files = Some (λ name. file_named name h.files); text = Some h.text; target = Some h.target; fetch_faults = h.fetch_faults; text_faults = h.text_faults; begun = h.begun; put = h.put }

-- how many bytes the last fetch took
abbrev pub host_taken : HostMemory → ℕ
host_taken h = h.taken

-- how many times fetch was called
abbrev pub host_fetches : HostMemory → ℕ
host_fetches h = h.fetches

-- the next call has one of the numbers
abbrev pub HostCallFails : HostMemory → Type 0
HostCallFails h = Contains h.fails (next h.calls)

-- after a fetch whose number was among those that fail
abbrev pub fetch_failed : HostMemory → HostMemory
fetch_failed h = record h { calls = next h.calls; fetch_faults = next h.fetch_faults; taken = 0; fetches = next h.fetches }

-- how much of a file a fetch takes: one byte past the limit, where the file has it
abbrev pub taken_of : Option (List ℕ) → ℕ → ℕ
taken_of None limit = 0
taken_of (Some bytes) limit = min (length bytes) (limit + 1)

-- after any other fetch
abbrev pub fetch_called : HostMemory → List ℕ → ℕ → HostMemory
fetch_called h name limit = record h { calls = next h.calls; taken = taken_of (host_file h name) limit; fetches = next h.fetches }

-- after a call that began a text
abbrev pub text_started : HostMemory → Option (List ℕ) → Bool → HostMemory
text_started h name run = record h { text = []; target = Some (target_of name run); calls = next h.calls; begun = next h.begun }

-- after a call that could not begin one
abbrev pub text_refused : HostMemory → HostMemory
text_refused h = record h { text = []; calls = next h.calls; text_faults = next h.text_faults; begun = next h.begun }

-- the next write of the text fails
abbrev pub TextCallFails : HostMemory → Type 0
TextCallFails h = HostCallFails h ⊎ (h.room ≤ length h.text)

-- how many of so many bytes of a text still fit
abbrev pub text_takes : HostMemory → ℕ → ℕ
text_takes h n = min n (h.room - length h.text)

-- after a write of the text that took these bytes
abbrev pub text_took : HostMemory → List ℕ → HostMemory
text_took h bytes = record h { text = h.text ++ bytes; calls = next h.calls; put = more h.put (length bytes) }

-- after a write of the text that failed
abbrev pub text_failed : HostMemory → HostMemory
text_failed h = record h { calls = next h.calls; text_faults = next h.text_faults }
