-- Whole writes, and what stands where a fault cut one short.
use Rattle.std.specs.Prelude.{◌≡◌, ◌⊎◌, ℕ, ◌<◌, ◌≤◌, List, length, take}
use Rattle.aplc_io.specs.Outside.{SinkState, HostState, Rose, more, with, sink_with}

-- a sink took some bytes from the front, not all, and then met a fault
pub record PartWritten (bytes : List ℕ) (old new : SinkState) : Type 0 where
  pub count : ℕ
  pub short : count < length bytes
  pub written : new.written ≡ with old.written (take count bytes)
  pub rose : Rose old.faults new.faults
  pub later : old.faults ≤ new.faults

-- the same of a host's text; nothing else of the host changed
pub record PartOfText (bytes : List ℕ) (old new : HostState) : Type 0 where
  pub count : ℕ
  pub short : count < length bytes
  pub text : new.text ≡ with old.text (take count bytes)
  pub put : new.put ≡ more old.put count
  pub rose : Rose old.text_faults new.text_faults
  pub later : old.text_faults ≤ new.text_faults
  pub same : new ≡ record old { text = new.text; put = new.put; text_faults = new.text_faults }

-- bytes that were tried once: written whole, or a part of them
abbrev pub Tried : List ℕ → SinkState → SinkState → Type 0
Tried bytes old new = (new ≡ sink_with old bytes) ⊎ PartWritten bytes old new
