-- What a run comes to, over a source of input and a sink for output.
use Rattle.std.specs.Prelude.{◌≡◌, ℕ, ◌+◌, ◌-◌, ◌≤◌, List, [], ◌∷◌, ◌++◌, IsTrue, Result, Ok, Err}
use Rattle.aplc_io.specs.Outside.{SourceState, SinkState, SourceGives, SourceFails, IsAtEnd, sink_with}
use Rattle.aplc_io.specs.Parts.{PartWritten}
use Rattle.aplc_cprof.specs.declared.syntax.CProgram.{CProgram}
use Rattle.aplc_cprof.specs.declared.syntax.CStmt.{CStmt}
use Rattle.aplc_cprof.specs.declared.syntax.CStmt.TheVariants as stmt
use Rattle.aplc_cprof.specs.Machine.{State, Todo, run, code_of}
use Rattle.aplc_crun.specs.declared.live.Verdict.{Verdict}
use Rattle.aplc_crun.specs.declared.live.Verdict.TheVariants as verdict
use Rattle.aplc_crun.specs.declared.stop.RunStop.{RunStop}
use Rattle.aplc_crun.specs.declared.stop.RunStop.TheVariants as stop
use Rattle.aplc_crun.specs.declared.machine.Machine.{Machine}
use Rattle.aplc_crun.specs.Running.{Stands, Comes, CanRun}

-- ---- The statement due next

abbrev pub Reads : CStmt → Type 0
Reads (stmt.ReadText p) = Unit {0}
Reads (stmt.ReadNums p) = Unit {0}
Reads _ = ⊥

abbrev pub MayTakeMemory : CStmt → Type 0
MayTakeMemory (stmt.Cells p e) = Unit {0}
MayTakeMemory (stmt.Call k) = Unit {0}
MayTakeMemory s = Reads s

abbrev pub NextIs : (CStmt → Type 0) → Todo → Type 0
NextIs P [] = ⊥
NextIs P (item ∷ rest) = P item.1

-- the next statement due of a machine is one of these, whatever it stands for
abbrev pub IsDue : (CStmt → Type 0) → Machine → Type 0
IsDue P n = (p : CProgram) (given more : List ℕ) (st : State) → Stands p n given more st → NextIs P st.todo

-- ---- What a run comes to

-- A machine took steps: `taken` are the bytes that it read on the way, and `text` is the output that it handed
-- over, behind which `pending` is not handed over yet. The steps come to what the definition says, whatever
-- program the machine stands for, and whatever input may still come; none where a read has met the end. Once one
-- has, the source is not asked again.
pub record Went (m : Machine) (source left : SourceState) (sink filled : SinkState) (pending : List ℕ) (v : Verdict) (n : Machine) : Type 0 where
  pub taken : List ℕ
  pub gives : SourceGives taken source left
  pub end : (IsTrue m.ended → IsAtEnd source) → IsTrue n.ended → IsAtEnd left
  pub still : IsTrue m.ended → (taken ≡ []) × (left ≡ source) × IsTrue n.ended
  pub text : List ℕ
  pub wrote : filled ≡ sink_with sink text
  pub later : m.live.steps ≤ n.live.steps
  pub output : (p : CProgram) (given more : List ℕ) (st : State) → Stands p n given more st → st.output ≡ given ++ pending
  pub comes : (p : CProgram) (given more : List ℕ) (st : State) → (IsTrue n.ended → more ≡ []) → Stands p m given (taken ++ more) st → Comes p v n (given ++ text) more (run (code_of p) (n.live.steps - m.live.steps) st)

-- the input could not be read, at a statement that reads
pub record Unread (m : Machine) (source failed : SourceState) (sink filled : SinkState) (n : Machine) : Type 0 where
  pub left : SourceState
  pub went : Went m source left sink filled [] verdict.Held n
  pub asked : IsTrue n.ended → ⊥
  pub fails : SourceFails left failed
  pub is_due : IsDue Reads n

-- the output could not be handed over, or only a part of it
pub record Unwritten (m : Machine) (source left : SourceState) (sink failed : SinkState) (n : Machine) : Type 0 where
  pub filled : SinkState
  pub pending : List ℕ
  pub verdict : Verdict
  pub went : Went m source left sink filled pending verdict n
  pub part : PartWritten pending filled failed

abbrev pub Ran : Machine → SourceState → SinkState → ℕ → Machine → SourceState → SinkState → Result (Unit {0}) RunStop → Type 0
Ran m source sink budget n left filled (Ok done) = Went m source left sink filled [] verdict.Ended n
Ran m source sink budget n left filled (Err (stop.Fault k)) = Went m source left sink filled [] (verdict.Faulted k) n
Ran m source sink budget n left filled (Err stop.Spent) = Went m source left sink filled [] verdict.Going n × (n.live.steps ≡ m.live.steps + budget) × CanRun n
Ran m source sink budget n left filled (Err (stop.Stuck c k)) = Went m source left sink filled [] (verdict.Stuck c) n × (k ≡ n.live.at)
Ran m source sink budget n left filled (Err stop.ReadFault) = Unread m source left sink filled n
Ran m source sink budget n left filled (Err stop.WriteFault) = Unwritten m source left sink filled n
Ran m source sink budget n left filled (Err stop.Memory) = Went m source left sink filled [] verdict.Held n × IsDue MayTakeMemory n
