-- A run, turn by turn.
use Rattle.std.proofs.Common.{◌≡◌, ◌∙◌, ap, sym, refl, subst, ℕ, ◌+◌, List, [], ◌++◌, arith, append-nil, Bool}
use Rattle.std.specs.Prelude.{IsTrue, ◌↔◌, Result, Ok, Err, slice_get}
use Rattle.aplc_io.specs.Outside.{SourceState, SinkState}
use Rattle.aplc_io.proofs.Gives.{gives-nil}
use Rattle.aplc_io.proofs.Sent.{sink_with-nil}
use Rattle.aplc_cprof.specs.declared.syntax.CStmt.{CStmt}
use Rattle.aplc_cprof.specs.declared.syntax.CProgram.{CProgram}
use Rattle.aplc_cprof.specs.Machine.{State, run, code_of}
use Rattle.aplc_crun.specs.declared.live.Live.{Live}
use Rattle.aplc_crun.specs.declared.live.Verdict.{Verdict}
use Rattle.aplc_crun.specs.declared.live.Verdict.TheVariants as verdict
use Rattle.aplc_crun.specs.declared.stop.RunStop.{RunStop}
use Rattle.aplc_crun.specs.declared.stop.RunStop.TheVariants as stop
use Rattle.aplc_crun.specs.declared.machine.Machine.{Machine}
use Rattle.aplc_crun.specs.Advancing.{Advanced, Cut}
use Rattle.aplc_crun.specs.Pausing.{MemoryIsDue}
use Rattle.aplc_crun.specs.Running.{Stands}
use Rattle.aplc_crun.specs.Ran.{Reads, MayTakeMemory, IsDue, Went, Unwritten, Ran}
use Rattle.aplc_crun.proofs.ReadSteps.{went_on, memory_due, no_steps, pending_is}

-- ---- Steps up to a read

-- the source was not asked
advanced_at : (m : Machine) (live : Live) (v : Verdict) (s : SourceState) (k l : SinkState) → Advanced m k v (record m { live = live }) l → live.out.bytes.items ≡ [] → Went m s s k l [] v (record m { live = live })
advanced_at m live v s k l x empty = record {
  taken = [];
  gives = gives-nil s;
  end = λ at_end ended. at_end ended;
  still = λ was. (refl, refl, was);
  text = x.text;
  wrote = x.wrote;
  later = x.later;
  output = λ p given more st h. pending_is p (record m { live = live }) given more [] st empty h;
  comes = λ p given more st none h. x.comes p given more st h;
}

pub advanced_went : (m n : Machine) (v : Verdict) (s : SourceState) (k l : SinkState) → n ≡ record m { live = n.live } → Advanced m k v n l → n.live.out.bytes.items ≡ [] → Went m s s k l [] v n
advanced_went m n v s k l same x empty =
    subst (λ (o : Machine). Went m s s k l [] v o) (sym same)
    (advanced_at m n.live v s k l (subst (λ (o : Machine). Advanced m k v o l) same x) empty)

cut_at : (m : Machine) (live : Live) (s : SourceState) (k l : SinkState) → Cut m k (record m { live = live }) l → Unwritten m s s k l (record m { live = live })
cut_at m live s k l x = record {
  filled = x.middle;
  pending = live.out.bytes.items;
  verdict = x.verdict;
  went = record {
    taken = [];
    gives = gives-nil s;
    end = λ at_end ended. at_end ended;
    still = λ was. (refl, refl, was);
    text = x.text;
    wrote = x.wrote;
    later = x.later;
    output = λ p given more st h. pending_is p (record m { live = live }) given more live.out.bytes.items st refl h;
    comes = λ p given more st none h. x.comes p given more st h;
  };
  part = x.part;
}

pub cut_went : (m n : Machine) (s : SourceState) (k l : SinkState) → n ≡ record m { live = n.live } → Cut m k n l → Unwritten m s s k l n
cut_went m n s k l same x =
    subst (λ (o : Machine). Unwritten m s s k l o) (sym same)
    (cut_at m n.live s k l (subst (λ (o : Machine). Cut m k o l) same x))

pub refused_went : (m n : Machine) (s : SourceState) (k l : SinkState) → n ≡ record m { live = n.live } → Advanced m k verdict.Held n l → n.live.out.bytes.items ≡ [] → MemoryIsDue (slice_get n.laid.nodes.items n.live.at) → Went m s s k l [] verdict.Held n × IsDue MayTakeMemory n
refused_went m n s k l same x empty hungry = (advanced_went m n verdict.Held s k l same x empty, memory_due n hungry)

-- ---- Turns, one after the other

-- a run that goes on, and how it stops
pub ran_on : (m n o : Machine) (s t u : SourceState) (k l q : SinkState) (before : List ℕ) (budget left : ℕ) (r : Result (Unit {0}) RunStop) → n.live.steps + left ≡ m.live.steps + budget → Went m s t k l before verdict.Held n → Ran n t l left o u q r → Ran m s k budget o u q r
ran_on m n o s t u k l q before budget left (Ok done) steps w x = went_on m n o verdict.Ended s t u k l q before [] w x
ran_on m n o s t u k l q before budget left (Err (stop.Fault c)) steps w x = went_on m n o (verdict.Faulted c) s t u k l q before [] w x
ran_on m n o s t u k l q before budget left (Err stop.Spent) steps w x = (went_on m n o verdict.Going s t u k l q before [] w x.0, x.1 ∙ steps, x.2)
ran_on m n o s t u k l q before budget left (Err (stop.Stuck c j)) steps w x = (went_on m n o (verdict.Stuck c) s t u k l q before [] w x.0, x.1)
ran_on m n o s t u k l q before budget left (Err stop.ReadFault) steps w x = record {
  left = x.left;
  went = went_on m n o verdict.Held s t x.left k l q before [] w x.went;
  asked = x.asked;
  fails = x.fails;
  is_due = x.is_due;
}
ran_on m n o s t u k l q before budget left (Err stop.WriteFault) steps w x = record {
  filled = x.filled;
  pending = x.pending;
  verdict = x.verdict;
  went = went_on m n o x.verdict s t u k l x.filled before x.pending w x.went;
  part = x.part;
}
ran_on m n o s t u k l q before budget left (Err stop.Memory) steps w x = (went_on m n o verdict.Held s t u k l q before [] w x.0, x.1)

-- no turn yet
pub went_none : (m : Machine) (s : SourceState) (k : SinkState) → Went m s s k k m.live.out.bytes.items verdict.Held m
went_none m s k = record {
  taken = [];
  gives = gives-nil s;
  end = λ at_end ended. at_end ended;
  still = λ was. (refl, refl, was);
  text = [];
  wrote = sym (sink_with-nil k);
  later = omega arith;
  output = λ p given more st h. pending_is p m given more m.live.out.bytes.items st refl h;
  comes = λ p given more st none h. record {
    state = st;
    is = ap (λ n. run (code_of p) n st) (no_steps m.live.steps);
    stands = subst (λ (xs : List ℕ). Stands p m xs more st) (sym (append-nil given)) h;
  };
}

-- ---- Whether it can run again

ready_stands : (p : CProgram) (m : Machine) (b : Bool) (given more : List ℕ) (st : State) → Stands p m given more st → Stands p (record m { ready = b }) given more st
ready_stands p m b given more st s = record { due = s.due; laid = s.laid; program = s.program; marks = s.marks; few = s.few; sound = s.sound; state = s.state }

stands_ready : (p : CProgram) (m : Machine) (b : Bool) (given more : List ℕ) (st : State) → Stands p (record m { ready = b }) given more st → Stands p m given more st
stands_ready p m b given more st s = record { due = s.due; laid = s.laid; program = s.program; marks = s.marks; few = s.few; sound = s.sound; state = s.state }

went_ready : (m n : Machine) (b : Bool) (v : Verdict) (s t : SourceState) (k l : SinkState) (pending : List ℕ) → Went m s t k l pending v n → Went m s t k l pending v (record n { ready = b })
went_ready m n b v s t k l pending w = record {
  taken = w.taken;
  gives = w.gives;
  end = w.end;
  still = w.still;
  text = w.text;
  wrote = w.wrote;
  later = w.later;
  output = λ p given more st h. w.output p given more st (stands_ready p n b given more st h);
  comes = λ p given more st none h.
      let c = w.comes p given more st none h in
      record { state = c.state; is = c.is; stands = ready_stands p n b (given ++ w.text) more c.state c.stands };
}

due_ready : (P : CStmt → Type 0) (n : Machine) (b : Bool) → IsDue P n → IsDue P (record n { ready = b })
due_ready P n b h = λ p given more st s. h p given more st (stands_ready p n b given more st s)

-- a run that is over, or has spent its budget
pub ran_ready : (m n : Machine) (b : Bool) (s t : SourceState) (k l : SinkState) (budget : ℕ) (r : Result (Unit {0}) RunStop) → IsTrue b ↔ (r ≡ Err stop.Spent) → Ran m s k budget n t l r → Ran m s k budget (record n { ready = b }) t l r
ran_ready m n b s t k l budget (Ok done) is x = went_ready m n b verdict.Ended s t k l [] x
ran_ready m n b s t k l budget (Err (stop.Fault c)) is x = went_ready m n b (verdict.Faulted c) s t k l [] x
ran_ready m n b s t k l budget (Err stop.Spent) is x = (went_ready m n b verdict.Going s t k l [] x.0, x.1, is.1 refl)
ran_ready m n b s t k l budget (Err (stop.Stuck c j)) is x = (went_ready m n b (verdict.Stuck c) s t k l [] x.0, x.1)
ran_ready m n b s t k l budget (Err stop.ReadFault) is x = record {
  left = x.left;
  went = went_ready m n b verdict.Held s x.left k l [] x.went;
  asked = x.asked;
  fails = x.fails;
  is_due = due_ready Reads n b x.is_due;
}
ran_ready m n b s t k l budget (Err stop.WriteFault) is x = record {
  filled = x.filled;
  pending = x.pending;
  verdict = x.verdict;
  went = went_ready m n b x.verdict s t k x.filled x.pending x.went;
  part = x.part;
}
ran_ready m n b s t k l budget (Err stop.Memory) is x = (went_ready m n b verdict.Held s t k l [] x.0, due_ready MayTakeMemory n b x.1)
