-- A read that is due, and what steps without a source and a sink come to.
use Rattle.std.specs.Prelude.{◌≡◌, ℕ, ◌+◌, List, [], IsTrue, slice_get}
use Rattle.aplc_cprof.specs.declared.syntax.Buf.{Buf}
use Rattle.aplc_cprof.specs.declared.syntax.CProgram.{CProgram}
use Rattle.aplc_cprof.specs.Machine.{State, run, code_of}
use Rattle.aplc_crun.specs.declared.code.Node.{Node}
use Rattle.aplc_crun.specs.declared.code.Node.TheVariants as node
use Rattle.aplc_crun.specs.declared.decode.Form.{Form}
use Rattle.aplc_crun.specs.declared.decode.Form.TheVariants as kind
use Rattle.aplc_crun.specs.declared.live.Verdict.{Verdict}
use Rattle.aplc_crun.specs.declared.live.Verdict.TheVariants as verdict
use Rattle.aplc_crun.specs.declared.stop.RunStop.{RunStop}
use Rattle.aplc_crun.specs.declared.stop.RunStop.TheVariants as stop
use Rattle.aplc_crun.specs.declared.machine.Machine.{Machine}
use Rattle.aplc_crun.specs.Pausing.{ReadIsDue}
use Rattle.aplc_crun.specs.Running.{Stands, Comes}

-- the statement that reads in a form
abbrev pub node_of : Form → Buf → ℕ → Node
node_of kind.Text p next = node.ReadText p next
node_of kind.Numbers p next = node.ReadNums p next

-- so many steps were taken, none of which read from the source or wrote
pub record Stepped (m : Machine) (v : Verdict) (steps : ℕ) (n : Machine) : Type 0 where
  pub ended : n.ended ≡ m.ended
  pub ready : n.ready ≡ m.ready
  pub count : n.live.steps ≡ m.live.steps + steps
  pub silent : n.live.out.bytes.items ≡ m.live.out.bytes.items
  pub comes : (p : CProgram) (given more : List ℕ) (st : State) → (IsTrue m.ended → more ≡ []) → Stands p m given more st → Comes p v n given more (run (code_of p) steps st)

-- why the line at the front was not taken
abbrev pub Untaken : Machine → RunStop → Machine → Type 0
Untaken m (stop.Fault k) n = Stepped m (verdict.Faulted k) 1 n
Untaken m stop.Memory n = Stepped m verdict.Held 0 n × ReadIsDue (slice_get n.laid.nodes.items n.live.at)
Untaken m _ n = ⊥
