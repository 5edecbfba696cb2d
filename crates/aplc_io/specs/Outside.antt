-- What stands outside the program: sources, sinks and a host, each with the faults that it has met.
-- What an object does not tell is `None`, and stays so.
use Rattle.std.specs.Prelude.{◌≡◌, ℕ, ◌+◌, ◌-◌, ◌^◌, ◌<◌, ◌≤◌, ◌⊎◌, Bool, List, [], ◌++◌, length, take, min, Option, None, Some, option_map, IfSome, true, false, nat_eq, Result, Ok, Err, ◌||◌}
use Rattle.aplc_io.specs.declared.traits.FetchFault.{FetchFault}
use Rattle.aplc_io.specs.declared.traits.FetchFault.TheVariants.{Failed, TooLong, Memory}

-- a count of faults went up, or is as high as it can be
abbrev pub Rose : ℕ → ℕ → Type 0
Rose before now = min (before + 1) (2 ^ 64 - 1) ≤ now

-- the next number, which stays at the last one
abbrev pub next : ℕ → ℕ
next n = min (n + 1) (2 ^ 64 - 1)

-- a count with n more, which stays at the last number
abbrev pub more : ℕ → ℕ → ℕ
more count n = count + min n (2 ^ 64 - 1 - count)

-- an answer that nothing is left
abbrev pub is_end : {E : Type 0} → Result ℕ E → Bool
is_end (Ok n) = nat_eq n 0
is_end (Err e) = false

-- how many reads were made behind the end of the input, with one more
abbrev pub later_read : Bool → ℕ → ℕ
later_read true n = next n
later_read false n = n

-- where a text goes: the name, if one was given, and whether the text is also to be run
pub record Target : Type 0 where
  pub name : Option (List ℕ)
  pub run : Bool

-- a target keeps the first 255 bytes of a name
abbrev pub target_of : Option (List ℕ) → Bool → Target
target_of name run = record { name = option_map (take 255) name; run = run }

-- a source: the bytes that are left, and its faults so far
pub record SourceState : Type 0 where
  pub left : Option (List ℕ)
  pub faults : ℕ

-- a sink: the bytes that were written, and its faults so far
pub record SinkState : Type 0 where
  pub written : Option (List ℕ)
  pub faults : ℕ

-- a host: its files by name, its text and target (the inner `None`: no text was begun), the faults of `fetch` and
-- those of the text; and how often `text_to` was called, and how many bytes of text were taken, since the host was
-- made: nothing takes these two back
pub record HostState : Type 0 where
  pub files : Option (List ℕ → Option (List ℕ))
  pub text : Option (List ℕ)
  pub target : Option (Option Target)
  pub fetch_faults : ℕ
  pub text_faults : ℕ
  pub begun : ℕ
  pub put : ℕ

-- what is told, with more at its end
abbrev pub with : Option (List ℕ) → List ℕ → Option (List ℕ)
with told rest = option_map (λ xs. xs ++ rest) told

-- what is told, set to this
abbrev pub set_to : {A : Type 0} → Option A → A → Option A
set_to told x = option_map (λ _. x) told

-- a sink that took these bytes, and met no fault
abbrev pub sink_with : SinkState → List ℕ → SinkState
sink_with s bytes = record { written = with s.written bytes; faults = s.faults }

-- a fault of a sink takes nothing
pub record SinkFails (old new : SinkState) : Type 0 where
  pub rose : Rose old.faults new.faults
  pub later : old.faults ≤ new.faults
  pub same : new.written ≡ old.written

-- a source gave these bytes from the front of what was left, and met no fault
pub record SourceGives (given : List ℕ) (old new : SourceState) : Type 0 where
  pub left : old.left ≡ option_map (λ xs. given ++ xs) new.left
  pub faults : new.faults ≡ old.faults

-- a fault of a source takes nothing
pub record SourceFails (old new : SourceState) : Type 0 where
  pub rose : Rose old.faults new.faults
  pub later : old.faults ≤ new.faults
  pub same : new.left ≡ old.left

-- nothing is left, where that is told
abbrev pub IsAtEnd : SourceState → Type 0
IsAtEnd s = s.left ≡ set_to s.left []

-- the host's file of this name is these bytes, where the files are told
abbrev pub IsFile : HostState → List ℕ → List ℕ → Type 0
IsFile h name bytes = IfSome h.files (λ files. files name ≡ Some bytes)

-- the host's file of this name has more bytes than the limit, where the files are told
abbrev pub IsLongFile : HostState → List ℕ → ℕ → Type 0
IsLongFile h name limit = IfSome h.files (λ files. (bytes : List ℕ) × (files name ≡ Some bytes) × (limit < length bytes))

-- it is told which files there are, and this is the name of none
abbrev pub IsMissing : Option (List ℕ → Option (List ℕ)) → List ℕ → Type 0
IsMissing None name = ⊥
IsMissing (Some files) name = files name ≡ None

-- a fetch that failed: it met a fault, or no file has the name; nothing else changed
pub record FetchFails (name : List ℕ) (old new : HostState) : Type 0 where
  pub cause : Rose old.fetch_faults new.fetch_faults ⊎ IsMissing old.files name
  pub later : old.fetch_faults ≤ new.fetch_faults
  pub same : new ≡ record old { fetch_faults = new.fetch_faults }

-- a fetch that gave nothing, by what it answered
abbrev pub FetchStops : FetchFault → List ℕ → ℕ → HostState → HostState → Type 0
FetchStops Failed name limit old new = FetchFails name old new
FetchStops TooLong name limit old new = IsLongFile old name limit × (new ≡ old)
FetchStops Memory name limit old new = new ≡ old

-- a text begins, with this target
abbrev pub text_begun : HostState → Option (List ℕ) → Bool → HostState
text_begun h name run = record h { text = set_to h.text []; target = set_to h.target (Some (target_of name run)); begun = next h.begun }

-- a text could not begin: it is empty, and the target stays
pub record TextNotBegun (old new : HostState) : Type 0 where
  pub rose : Rose old.text_faults new.text_faults
  pub later : old.text_faults ≤ new.text_faults
  pub same : new ≡ record old { text = set_to old.text []; text_faults = new.text_faults; begun = next old.begun }

-- a host whose text took these bytes, and that met no fault
abbrev pub text_with : HostState → List ℕ → HostState
text_with h bytes = record h { text = with h.text bytes; put = more h.put (length bytes) }

-- a fault of the text takes nothing
pub record TextFails (old new : HostState) : Type 0 where
  pub rose : Rose old.text_faults new.text_faults
  pub later : old.text_faults ≤ new.text_faults
  pub same : new ≡ record old { text_faults = new.text_faults }
