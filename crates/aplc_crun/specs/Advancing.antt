-- What steps come to where their output was handed over to a sink.
use Rattle.std.specs.Prelude.{◌≡◌, ℕ, ◌-◌, ◌≤◌, List, [], ◌++◌}
use Rattle.aplc_io.specs.Outside.{SinkState, sink_with}
use Rattle.aplc_io.specs.Parts.{PartWritten}
use Rattle.aplc_cprof.specs.declared.syntax.CProgram.{CProgram}
use Rattle.aplc_cprof.specs.Machine.{State, run, code_of}
use Rattle.aplc_crun.specs.declared.live.Verdict.{Verdict}
use Rattle.aplc_crun.specs.declared.machine.Machine.{Machine}
use Rattle.aplc_crun.specs.Flat.{Flat}
use Rattle.aplc_crun.specs.Running.{Stands, Comes}

abbrev pub emptied : Flat → Flat
emptied f = record f { output = [] }

-- A machine took steps to where it is now, the sink took a text, and the steps come to what the definition says,
-- whatever program the machine stands for, and whatever input may still come.
pub record Advanced (m : Machine) (old : SinkState) (v : Verdict) (n : Machine) (new : SinkState) : Type 0 where
  pub text : List ℕ
  pub wrote : new ≡ sink_with old text
  pub later : m.live.steps ≤ n.live.steps
  pub comes : (p : CProgram) (given more : List ℕ) (st : State) → Stands p m given more st → Comes p v n (given ++ text) more (run (code_of p) (n.live.steps - m.live.steps) st)

-- The same where the sink refused a part of the output: `text` was handed over before, and the rest is pending.
pub record Cut (m : Machine) (old : SinkState) (n : Machine) (new : SinkState) : Type 0 where
  pub text : List ℕ
  pub middle : SinkState
  pub verdict : Verdict
  pub wrote : middle ≡ sink_with old text
  pub part : PartWritten n.live.out.bytes.items middle new
  pub later : m.live.steps ≤ n.live.steps
  pub comes : (p : CProgram) (given more : List ℕ) (st : State) → Stands p m given more st → Comes p verdict n (given ++ text) more (run (code_of p) (n.live.steps - m.live.steps) st)
