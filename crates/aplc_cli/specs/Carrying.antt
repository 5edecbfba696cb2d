-- What carrying out a program comes to, over an input and an output.
use Rattle.std.specs.Prelude.{◌≡◌, ℕ, ◌≤◌, List, Result, Ok, Err}
use Rattle.aplc_io.specs.Outside.{SourceState, SinkState, SourceGives, SourceFails, set_to, sink_with}
use Rattle.aplc_io.specs.Parts.{PartWritten}
use Rattle.aplc_cprof.specs.declared.syntax.CProgram.{CProgram}
use Rattle.aplc_cprof.specs.declared.syntax.CStmt.{CStmt}
use Rattle.aplc_cprof.specs.Machine.{State, Going, code_of, initial, run}
use Rattle.aplc_cprof.specs.Behaviour.{Standing, behaviour, output}
use Rattle.aplc_crun.specs.Ran.{Reads, MayTakeMemory, NextIs}
use Rattle.aplc_cli.specs.declared.status.Stop.{Stop}
use Rattle.aplc_cli.specs.declared.status.Stop.TheVariants as stop
use Rattle.aplc_cli.specs.Came.{Came, came_of}

-- the input and the output, before or after
pub record Streams : Type 0 where
  pub input : SourceState
  pub out : SinkState

-- the bytes of an input, where it tells them
abbrev pub IsInput : SourceState → List ℕ → Type 0
IsInput s input = s.left ≡ set_to s.left input

-- an input of which some bytes at most were read
pub record WasRead (old new : SourceState) : Type 0 where
  pub taken : List ℕ
  pub gives : SourceGives taken old new

-- a run shows this, and its output was handed over
pub record Shown (s : Standing) (old new : Streams) : Type 0 where
  pub read : WasRead old.input new.input
  pub out : new.out ≡ sink_with old.out (output s)

-- A run was stopped after so many steps, where another statement is due: its output was handed over.
pub record StoodAt (Due : CStmt → Type 0) (p : CProgram) (input : List ℕ) (most : ℕ) (old new : Streams) : Type 0 where
  pub steps : ℕ
  pub within : steps ≤ most
  pub state : State
  pub stands : run (code_of p) steps (initial (code_of p) input) ≡ Going state
  pub due : NextIs Due state.todo
  pub out : new.out ≡ sink_with old.out state.output

-- the input failed, at a statement that reads
pub record InputFailed (p : CProgram) (input : List ℕ) (most : ℕ) (old new : Streams) : Type 0 where
  pub stood : StoodAt Reads p input most old new
  pub left : SourceState
  pub read : WasRead old.input left
  pub fails : SourceFails left new.input

-- memory was wanting, at a statement that may take some
pub record MemoryWanted (p : CProgram) (input : List ℕ) (most : ℕ) (old new : Streams) : Type 0 where
  pub stood : StoodAt MayTakeMemory p input most old new
  pub read : WasRead old.input new.input

-- the output failed: it has a part of what was to be there after so many steps
pub record OutputFailed (p : CProgram) (input : List ℕ) (most : ℕ) (old new : Streams) : Type 0 where
  pub steps : ℕ
  pub within : steps ≤ most
  pub read : WasRead old.input new.input
  pub part : PartWritten (output (behaviour p input steps)) old.out new.out

-- a program carried out for so many steps at most, on an input
abbrev pub Carries : CProgram → List ℕ → ℕ → Streams → Streams → Result Came Stop → Type 0
Carries p input most old new (Ok came) = (came ≡ came_of (behaviour p input most)) × Shown (behaviour p input most) old new
Carries p input most old new (Err stop.ReadFault) = InputFailed p input most old new
Carries p input most old new (Err stop.WriteFault) = OutputFailed p input most old new
Carries p input most old new (Err stop.Memory) = MemoryWanted p input most old new
Carries p input most old new (Err stop.Usage) = ⊥
Carries p input most old new (Err (stop.Refused r)) = ⊥

-- the same on the input that is there
pub record Carried (p : CProgram) (most : ℕ) (old new : Streams) (r : Result Came Stop) : Type 0 where
  pub input : List ℕ
  pub is_input : IsInput old.input input
  pub carries : Carries p input most old new r
