-- What a call of the program comes to.
use Rattle.std.specs.Prelude.{◌≡◌, ◌⊎◌, ℕ, ◌≤◌, false, true, List, take, length, ◌<◌, Option, None, Some, Result, Ok, Err}
use Rattle.aplc_io.specs.Outside.{next, more, SourceState, SinkState, HostState, Target, target_of, Rose, IsFile, FetchFails, TextNotBegun, IsMissing, set_to, sink_with}
use Rattle.aplc_io.specs.Parts.{PartWritten, Tried}
use Rattle.aplc_io.specs.declared.traits.Failed.{Failed}
use Rattle.std.specs.declared.io.ErrorKind.{ErrorKind}
use Rattle.std.specs.declared.io.ErrorKind.TheVariants.{OutOfMemory}
use Rattle.aplc_cprof.specs.declared.syntax.CProgram.{CProgram}
use Rattle.aplc_cprof.specs.Behaviour.{Standing, behaviour}
use Rattle.aplc_lex.specs.declared.token.Refusal.{Refusal}
use Rattle.aplc_lex.specs.declared.token.Stop.{Stop as LexStop}
use Rattle.aplc_lex.specs.declared.token.Stop.TheVariants as lex_stop
use Rattle.aplc_cli.specs.declared.status.Stop.{Stop}
use Rattle.aplc_cli.specs.declared.status.Stop.TheVariants as stop
use Rattle.aplc_cli.specs.declared.status.Status.{Status}
use Rattle.aplc_cli.specs.declared.status.Status.TheVariants as status
use Rattle.aplc_cli.specs.declared.words.Action.{Action}
use Rattle.aplc_cli.specs.declared.words.Action.TheVariants as action
use Rattle.aplc_cli.specs.Words.{Command}
use Rattle.aplc_cli.specs.Sources.{IsRefusedSource}
use Rattle.aplc_cli.specs.Compiled.{IsCompiled, HasReason, IsProgramOf, Judged}
use Rattle.aplc_cli.specs.Came.{Came, Compiled, came_of, line, status_of, usage_line, refusal_line}
use Rattle.aplc_cli.specs.Carrying.{Streams, IsInput, Shown, InputFailed, MemoryWanted, OutputFailed, Carried}

-- ---- The outside, before and after

pub record Outside : Type 0 where
  pub host : HostState
  pub input : SourceState
  pub out : SinkState

-- what a host, an input and an output tell
abbrev pub outside : HostState → SourceState → SinkState → Outside
outside h i o = record { host = h; input = i; out = o }

abbrev pub streams : Outside → Streams
streams w = record { input = w.input; out = w.out }

-- a text, and where it goes
pub record Sent : Type 0 where
  pub target : Target
  pub bytes : List ℕ

-- a host to which a text was handed over, if there was one: it was begun once, and its bytes were taken once
abbrev pub host_after : Option Sent → HostState → HostState
host_after None h = h
host_after (Some s) h = record h { text = set_to h.text s.bytes; target = set_to h.target (Some s.target); begun = next h.begun; put = more h.put (length s.bytes) }

-- ---- The definition: what a command, a file, its text and the input make

-- the text that is handed over, and where it goes
abbrev pub sent_for : Action → List ℕ → Option Sent
sent_for action.Compile text = Some record { target = target_of None false; bytes = text }
sent_for (action.Run m) text = Some record { target = target_of None true; bytes = text }
sent_for (action.Exec m) text = None

-- how many steps a text is carried out for at most, where it is carried out
abbrev pub steps_for : Action → Option ℕ
steps_for action.Compile = None
steps_for (action.Run m) = Some m
steps_for (action.Exec m) = Some m

-- what its run shows
abbrev pub shown_for : Option ℕ → CProgram → List ℕ → Option Standing
shown_for None p input = None
shown_for (Some m) p input = Some (behaviour p input m)

abbrev pub came_for : Option Standing → Came
came_for None = Compiled
came_for (Some s) = came_of s

pub record Outcome : Type 0 where
  pub result : Result Came Stop
  pub text : Option Sent
  pub shown : Option Standing

abbrev pub accepted_outcome : Option Sent → Option Standing → Outcome
accepted_outcome sent shown = record { result = Ok (came_for shown); text = sent; shown = shown }

abbrev pub stopped_outcome : Stop → Outcome
stopped_outcome s = record { result = Err s; text = None; shown = None }

abbrev pub outcome_of : Option Refusal → Action → List ℕ → CProgram → List ℕ → Outcome
outcome_of (Some r) a text p input = stopped_outcome (stop.Refused r)
outcome_of None a text p input = accepted_outcome (sent_for a text) (shown_for (steps_for a) p input)

abbrev pub outcome : Option Command → Option Refusal → List ℕ → CProgram → List ℕ → Outcome
outcome None verdict text p input = stopped_outcome stop.Usage
outcome (Some c) verdict text p input = outcome_of verdict c.action text p input

-- ---- A whole call

abbrev pub IsFileOf : Option Command → HostState → List ℕ → Type 0
IsFileOf None h file = Unit {0}
IsFileOf (Some c) h file = IsFile h c.name file

abbrev pub JudgedFor : Option Command → List ℕ → Option Refusal → List ℕ → CProgram → Type 0
JudgedFor None file verdict text program = Unit {0}
JudgedFor (Some c) file verdict text program = Judged c.action file verdict text program

-- What a call has to do with: a file, which the host has where it tells its files; its refusal, if any; the program
-- that is made of it or read from it, and the text that is handed over; and the input, which is what the source has
-- where it tells that.
pub record Matter (c : Option Command) (old : Outside) : Type 0 where
  pub file : List ℕ
  pub verdict : Option Refusal
  pub text : List ℕ
  pub program : CProgram
  pub input : List ℕ
  pub is_file : IsFileOf c old.host file
  pub judged : JudgedFor c file verdict text program
  pub is_input : IsInput old.input input

abbrev pub outcome_for : (c : Option Command) (old : Outside) → Matter c old → Outcome
outcome_for c old m = outcome c m.verdict m.text m.program m.input

abbrev pub IsShown : Option Standing → Streams → Streams → Type 0
IsShown None old new = new ≡ old
IsShown (Some s) old new = Shown s old new

-- all as the definition says, and nothing else changed
pub record Meets (c : Option Command) (old new : Outside) (result : Result Came Stop) : Type 0 where
  pub matter : Matter c old
  pub answer : result ≡ (outcome_for c old matter).result
  pub host : new.host ≡ host_after (outcome_for c old matter).text old.host
  pub shown : IsShown (outcome_for c old matter).shown (streams old) (streams new)

-- the file could not be fetched, and nothing else changed
pub record FetchFault (c : Option Command) (old new : Outside) : Type 0 where
  pub command : Command
  pub is_command : c ≡ Some command
  pub fails : FetchFails command.name old.host new.host
  pub rest : new ≡ record old { host = new.host }

-- a fault cut the text short: the host took a part of it from the front, behind its target
pub record CutShort (sent : Sent) (old new : HostState) : Type 0 where
  pub count : ℕ
  pub short : count < length sent.bytes
  pub rose : Rose old.text_faults new.text_faults
  pub later : old.text_faults ≤ new.text_faults
  pub same : new ≡ record (host_after (Some (record sent { bytes = take count sent.bytes })) old) { text_faults = new.text_faults }

-- the text could not begin, and the host has none of it; or it was cut short
abbrev pub PartSent : Sent → HostState → HostState → Type 0
PartSent sent old new = TextNotBegun old new ⊎ CutShort sent old new

-- a part of the text at most is in the host, and nothing else changed
pub record TextFault (c : Option Command) (old new : Outside) : Type 0 where
  pub matter : Matter c old
  pub sent : Sent
  pub is_sent : (outcome_for c old matter).text ≡ Some sent
  pub part : PartSent sent old.host new.host
  pub rest : new ≡ record old { host = new.host }

-- the text, if one is handed over, was handed over whole, and then something stopped the run
pub record RunFault (Stopped : CProgram → List ℕ → ℕ → Streams → Streams → Type 0) (c : Option Command) (old new : Outside) : Type 0 where
  pub matter : Matter c old
  pub command : Command
  pub is_command : c ≡ Some command
  pub accepted : matter.verdict ≡ None
  pub most : ℕ
  pub is_run : steps_for command.action ≡ Some most
  pub host : new.host ≡ host_after (sent_for command.action matter.text) old.host
  pub stopped : Stopped matter.program matter.input most (streams old) (streams new)

-- The work of a call: as the definition says, or as far as a fault let it. Want of memory comes before any
-- change, or in a run.
abbrev pub Works : Option Command → Outside → Outside → Result Came Stop → Type 0
Works c old new (Err stop.ReadFault) = FetchFault c old new ⊎ RunFault InputFailed c old new
Works c old new (Err stop.WriteFault) = TextFault c old new ⊎ RunFault OutputFailed c old new
Works c old new (Err stop.Memory) = (new ≡ old) ⊎ RunFault MemoryWanted c old new
Works c old new result = Meets c old new result

-- these bytes were written whole, or a fault cut them short
abbrev pub Wrote : List ℕ → SinkState → SinkState → Result (Unit {0}) Failed → Type 0
Wrote bytes old new (Ok done) = new ≡ sink_with old bytes
Wrote bytes old new (Err fault) = PartWritten bytes old new

-- The line on err, whole; or a part of it, and then WRITE FAULT tried once.
abbrev pub Reports : Result Came Stop → SinkState → SinkState → Status → Type 0
Reports (Err stop.WriteFault) old new s = (s ≡ status.WriteFault) × Tried (line (Err stop.WriteFault)) old new
Reports result old new s =
    ((s ≡ status_of result) × (new ≡ sink_with old (line result)))
    ⊎ ((s ≡ status.WriteFault) × ((mid : SinkState) × PartWritten (line result) old mid × Tried (line (Err stop.WriteFault)) mid new))

pub record Ends (c : Option Command) (old new : Outside) (old_err new_err : SinkState) (s : Status) : Type 0 where
  pub result : Result Came Stop
  pub work : Works c old new result
  pub report : Reports result old_err new_err s

-- how many files were fetched, with those of a command: one, or none where the words name no command
abbrev pub fetches_of : Option Command → ℕ → ℕ
fetches_of None n = n
fetches_of (Some c) n = next n

-- ---- The steps of the work

-- a file of at most so many bytes that was fetched, or why it was not; one that is longer has this refusal
abbrev pub Fetched : Refusal → List ℕ → HostState → HostState → Result (List ℕ) Stop → Type 0
Fetched long name old new (Ok file) = (new ≡ old) × IsFile old name file × (length file ≤ long.place)
Fetched long name old new (Err stop.ReadFault) = FetchFails name old new
Fetched long name old new (Err (stop.Refused r)) = (new ≡ old) × (r ≡ long) × ((file : List ℕ) × IsFile old name file × (long.place < length file))
Fetched long name old new (Err stop.Memory) = new ≡ old
Fetched long name old new result = ⊥

-- what an error says of a source: its first refusal, or nothing but that memory was wanting
abbrev pub RefusesSource : List ℕ → LexStop → Type 0
RefusesSource file (lex_stop.Refused r) = IsRefusedSource file r
RefusesSource file lex_stop.Memory = Unit {0}

-- the same of the work's own stops
abbrev pub StopsAt : List ℕ → Stop → Type 0
StopsAt file (stop.Refused r) = IsRefusedSource file r
StopsAt file stop.Memory = Unit {0}
StopsAt file s = ⊥

-- a file that was compiled to a program and its text, or why it was not
abbrev pub Compiles : List ℕ → Result (CProgram × List ℕ) Stop → Type 0
Compiles file (Ok made) = IsCompiled file made.1 made.0
Compiles file (Err (stop.Refused r)) = IsRefusedSource file r
Compiles file (Err stop.Memory) = Unit {0}
Compiles file result = ⊥

-- the program and the text of the file of a name, or why there are none
abbrev pub Made : Action → List ℕ → HostState → HostState → Result (CProgram × List ℕ) Stop → Type 0
Made a name old new (Ok made) = (new ≡ old) × ((file : List ℕ) × IsFile old name file × IsProgramOf a file made.1 made.0)
Made a name old new (Err stop.ReadFault) = FetchFails name old new
Made a name old new (Err (stop.Refused r)) = (new ≡ old) × ((file : List ℕ) × IsFile old name file × HasReason a file r)
Made a name old new (Err stop.Memory) = new ≡ old
Made a name old new result = ⊥

-- the text is in the host, or a part of it
abbrev pub Sends : Sent → HostState → HostState → Result (Unit {0}) Stop → Type 0
Sends sent old new (Ok done) = new ≡ host_after (Some sent) old
Sends sent old new (Err stop.WriteFault) = PartSent sent old new
Sends sent old new result = ⊥

-- a program was carried out, behind its text if one is handed over
abbrev pub HandedOver : Option Sent → CProgram → ℕ → Outside → Outside → Result Came Stop → Type 0
HandedOver sent p most old new r = (new.host ≡ host_after sent old.host) × Carried p most (streams old) (streams new) r

abbrev pub PartHanded : Option Sent → Outside → Outside → Type 0
PartHanded None old new = ⊥
PartHanded (Some sent) old new = PartSent sent old.host new.host × (streams new ≡ streams old)

-- the same, or the text could not be handed over, or memory was wanting before any change
abbrev pub RanText : Option Sent → CProgram → ℕ → Outside → Outside → Result Came Stop → Type 0
RanText sent p most old new (Err stop.WriteFault) = PartHanded sent old new ⊎ HandedOver sent p most old new (Err stop.WriteFault)
RanText sent p most old new (Err stop.Memory) = (new ≡ old) ⊎ HandedOver sent p most old new (Err stop.Memory)
RanText sent p most old new r = HandedOver sent p most old new r

-- ---- What follows for each status, for readers of the contract

abbrev pub IsMissingFile : Option Command → HostState → Type 0
IsMissingFile None h = ⊥
IsMissingFile (Some c) h = IsMissing h.files c.name

-- why a read may fail: FILE could not be fetched, or is not there; or the run had to read, and the input failed
abbrev pub HasReadCause : Option Command → Outside → Outside → Type 0
HasReadCause c old new =
    Rose old.host.fetch_faults new.host.fetch_faults
    ⊎ (IsMissingFile c old.host ⊎ (Rose old.input.faults new.input.faults × RunFault InputFailed c old new))

-- why a write may fail
abbrev pub HasWriteCause : Outside → Outside → SinkState → SinkState → Type 0
HasWriteCause old new old_err new_err =
    Rose old.host.text_faults new.host.text_faults
    ⊎ (Rose old.out.faults new.out.faults ⊎ Rose old_err.faults new_err.faults)

-- a file was refused for this: err has the line, and all else is as at entry
pub record IsRefused (c : Option Command) (old new : Outside) (old_err new_err : SinkState) : Type 0 where
  pub command : Command
  pub is_command : c ≡ Some command
  pub file : List ℕ
  pub is_file : IsFile old.host command.name file
  pub reason : Refusal
  pub is_reason : HasReason command.action file reason
  pub line : new_err ≡ sink_with old_err (refusal_line reason)
  pub rest : new ≡ old

-- a file was accepted: if a text is handed over, the host has it whole, behind its target
pub record IsAccepted (command : Command) (old new : Outside) : Type 0 where
  pub file : List ℕ
  pub is_file : IsFile old.host command.name file
  pub text : List ℕ
  pub program : CProgram
  pub is_program : IsProgramOf command.action file text program
  pub host : new.host ≡ host_after (sent_for command.action text) old.host

-- no more was asked for: all else is as at entry
pub record IsCompiledOnly (c : Option Command) (old new : Outside) (old_err new_err : SinkState) : Type 0 where
  pub command : Command
  pub is_command : c ≡ Some command
  pub accepted : IsAccepted command old new
  pub only : command.action ≡ action.Compile
  pub rest : new ≡ record old { host = new.host }
  pub err : new_err ≡ old_err

-- The program was carried out besides: the output, the status and the line on err are those of that program, on the
-- input, for at most so many steps.
pub record IsRun (c : Option Command) (old new : Outside) (old_err new_err : SinkState) (s : Status) : Type 0 where
  pub command : Command
  pub is_command : c ≡ Some command
  pub accepted : IsAccepted command old new
  pub most : ℕ
  pub run : steps_for command.action ≡ Some most
  pub input : List ℕ
  pub is_input : IsInput old.input input
  pub shown : Shown (behaviour accepted.program input most) (streams old) (streams new)
  pub status : s ≡ status_of (Ok (came_of (behaviour accepted.program input most)))
  pub err : new_err ≡ sink_with old_err (line (Ok (came_of (behaviour accepted.program input most))))

-- the statuses of a run
abbrev pub IsOfRun : Status → Type 0
IsOfRun status.Faulted = Unit {0}
IsOfRun status.Spent = Unit {0}
IsOfRun status.Stuck = Unit {0}
IsOfRun _ = ⊥

-- the words name no command: err has the usage line, and all else is as at entry
pub record IsUsage (c : Option Command) (old new : Outside) (old_err new_err : SinkState) : Type 0 where
  pub command : c ≡ None
  pub line : new_err ≡ sink_with old_err usage_line
  pub rest : new ≡ old

-- every count of faults is as at entry
pub record KeepsCounts (old new : Outside) (old_err new_err : SinkState) : Type 0 where
  pub fetch : new.host.fetch_faults ≡ old.host.fetch_faults
  pub text : new.host.text_faults ≡ old.host.text_faults
  pub input : new.input.faults ≡ old.input.faults
  pub out : new.out.faults ≡ old.out.faults
  pub err : new_err.faults ≡ old_err.faults

-- not a fault, nor want of memory
abbrev pub IsAnswer : Status → Type 0
IsAnswer status.ReadFault = ⊥
IsAnswer status.WriteFault = ⊥
IsAnswer status.Memory = ⊥
IsAnswer _ = Unit {0}

-- the command carries a text out
abbrev pub CarriesOut : Option Command → Type 0
CarriesOut None = ⊥
CarriesOut (Some c) = (m : ℕ) × (steps_for c.action ≡ Some m)

-- the command carries out a C text
abbrev pub Executes : Option Command → Type 0
Executes None = ⊥
Executes (Some c) = (m : ℕ) × (c.action ≡ action.Exec m)

-- a count is as it was, or one higher
abbrev pub AtMostOnce : ℕ → ℕ → Type 0
AtMostOnce old new = (new ≡ old) ⊎ (new ≡ next old)

-- nothing of the text changed, nor was any begun or taken
pub record KeepsText (old new : HostState) : Type 0 where
  pub text : new.text ≡ old.text
  pub target : new.target ≡ old.target
  pub begun : new.begun ≡ old.begun
  pub put : new.put ≡ old.put

-- What a call says: the whole of it, and what follows from that for each status.
pub record Answers (c : Option Command) (old new : Outside) (old_err new_err : SinkState) (s : Status) : Type 0 where
  pub ends : Ends c old new old_err new_err s
  pub done : s ≡ status.Done → IsCompiledOnly c old new old_err new_err ⊎ IsRun c old new old_err new_err s
  pub ran : IsOfRun s → IsRun c old new old_err new_err s
  pub stuck : s ≡ status.Stuck → Executes c
  pub refused : s ≡ status.Refused → IsRefused c old new old_err new_err
  pub usage : s ≡ status.Usage → IsUsage c old new old_err new_err
  pub read_fault : s ≡ status.ReadFault → HasReadCause c old new
  pub write_fault : s ≡ status.WriteFault → HasWriteCause old new old_err new_err
  pub counts : IsAnswer s → KeepsCounts old new old_err new_err
  pub untouched : (CarriesOut c → ⊥) → (new.input ≡ old.input) × (new.out ≡ old.out)
  pub no_text : Executes c → KeepsText old.host new.host
  pub begun : AtMostOnce old.host.begun new.host.begun

-- ---- The program

-- why there are no words
abbrev pub no_words : ErrorKind → Stop
no_words OutOfMemory = stop.Memory
no_words _ = stop.Usage

-- There are no words, and nothing but err changed: it has the line for that.
pub record IsWordless (k : ErrorKind) (old new : Outside) (old_err new_err : SinkState) (s : Status) : Type 0 where
  pub report : Reports (Err (no_words k)) old_err new_err s
  pub rest : new ≡ old
