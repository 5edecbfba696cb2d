-- From what the runner says of a run to what carrying a program out comes to.
use Rattle.std.proofs.Common.{◌≡◌, ℕ, ◌+◌, ◌-◌, ◌≤◌, Bool, false, true, List, [], ◌++◌, take, length, Option, None, Some, option_map, Ok, Err, refl, sym, ap, subst, ◌∙◌, arith, append-nil, length-append}
use Rattle.std.specs.Prelude.{IsTrue}
use Rattle.std.proofs.Math.Seq.{take-append-add}
use Rattle.aplc_scalar.specs.declared.kind.FaultKind.{FaultKind}
use Rattle.aplc_io.specs.Outside.{SourceState, SinkState, with, set_to, sink_with, Rose}
use Rattle.aplc_io.specs.Parts.{PartWritten}
use Rattle.aplc_io.proofs.Sent.{with-with}
use Rattle.aplc_cprof.specs.declared.syntax.CProgram.{CProgram}
use Rattle.aplc_cprof.specs.declared.syntax.StuckCause.{StuckCause}
use Rattle.aplc_cprof.specs.Machine.{State, Next, code_of, initial, run}
use Rattle.aplc_cprof.specs.Behaviour.{Standing, shown, behaviour, output, IsGoing}
use Rattle.aplc_cprof.specs.Behaviour as standing
use Rattle.aplc_cprof.proofs.Same.{machine_of}
use Rattle.aplc_crun.specs.declared.live.Verdict.{Verdict}
use Rattle.aplc_crun.specs.declared.live.Verdict.TheVariants as verdict
use Rattle.aplc_crun.specs.declared.machine.Machine.{Machine}
use Rattle.aplc_crun.specs.declared.stop.RunStop.TheVariants as run_stop
use Rattle.aplc_crun.specs.Running.{Stands, Comes, next_of, places_of}
use Rattle.aplc_crun.specs.Ran.{Went, Ran, Reads, MayTakeMemory, IsDue}
use Rattle.aplc_cprof.specs.declared.syntax.CStmt.{CStmt}
use Rattle.aplc_cli.specs.declared.status.Stop.TheVariants as stop
use Rattle.aplc_cli.specs.declared.status.Ending.TheVariants as ending
use Rattle.aplc_cli.specs.declared.status.RunEnd.TheVariants as end
use Rattle.aplc_cli.specs.Came.{Came, came_of, told}
use Rattle.aplc_cli.specs.Came as came
use Rattle.aplc_cli.specs.Carrying.{Streams, IsInput, WasRead, Shown, StoodAt, Carried}

-- ---- The input that may still come

abbrev still : Option (List ℕ) → List ℕ
still None = []
still (Some bytes) = bytes

input_was : (taken : List ℕ) (old left : Option (List ℕ)) → old ≡ option_map (λ xs. taken ++ xs) left → old ≡ set_to old (taken ++ still left)
input_was taken old None e = e ∙ sym (ap (λ t. set_to t (taken ++ [])) e)
input_was taken old (Some bytes) e = e ∙ sym (ap (λ t. set_to t (taken ++ bytes)) e)

some_is : (a b : List ℕ) → Some a ≡ Some b → a ≡ b
some_is a b e = ap still e

at_end : (left : Option (List ℕ)) → left ≡ set_to left [] → still left ≡ []
at_end None e = refl
at_end (Some bytes) e = some_is bytes [] e

never : (b : Bool) → b ≡ false → IsTrue b → ⊥
never true e t = cc
never false e t = cc

-- ---- The place where a machine stands

placed : (p : CProgram) (n : Machine) (given more : List ℕ) (st : State) → Stands p n given more st → st.places ≡ places_of n
placed p n given more st s = ap (λ (x : State). x.places) s.state

-- ---- A part of what is pending is a part of all

behind : (text pending : List ℕ) (old filled failed : SinkState) → filled ≡ sink_with old text → PartWritten pending filled failed → PartWritten (text ++ pending) old failed
behind text pending old filled failed e part =
    let faults : filled.faults ≡ old.faults = ap (λ (s : SinkState). s.faults) e in
    let written : filled.written ≡ with old.written text = ap (λ (s : SinkState). s.written) e in
    record {
      count = length text + part.count;
      short = (let s = part.short in omega (arith, length-append text pending));
      written = part.written ∙ ap (λ t. with t (take part.count pending)) written ∙ with-with old.written text (take part.count pending) ∙ ap (with old.written) (sym (take-append-add text pending part.count));
      rose = subst (λ k. Rose k failed.faults) faults part.rose;
      later = subst (λ k. k ≤ failed.faults) faults part.later;
    }

-- ---- A run that was over stays as it is

over_at : (p : CProgram) (input : List ℕ) (k most : ℕ) (s : Standing) → k ≤ most → behaviour p input k ≡ s → (IsGoing s → ⊥) → behaviour p input most ≡ s
over_at p input k most s le e over =
    let all : most ≡ k + (most - k) = omega arith in
    ap (behaviour p input) all ∙ (machine_of p input).stays k (most - k) (λ going. over (subst IsGoing e going)) ∙ e

-- what the definition shows after so many steps
shows : (p : CProgram) (input : List ℕ) (k : ℕ) (x : Next) → x ≡ run (code_of p) k (initial (code_of p) input) → behaviour p input k ≡ shown x
unfolding behaviour
shows p input k x e = sym (ap shown e)

of_output : (v : Verdict) (at : ℕ) (s : State) → output (shown (next_of v at s)) ≡ s.output
of_output verdict.Going at s = refl
of_output verdict.Ended at s = refl
of_output (verdict.Faulted k) at s = refl
of_output (verdict.Stuck c) at s = refl
of_output verdict.Held at s = refl

module _ (p : CProgram) (m n : Machine) (old : Streams) (most : ℕ) (stands : (i : List ℕ) → Stands p m [] i (initial (code_of p) i)) (fresh : m.live.steps ≡ 0) (unread : m.ended ≡ false) (within : n.live.steps ≤ m.live.steps + most) where
  module _ (left : SourceState) (filled : SinkState) (pending : List ℕ) (v : Verdict) (w : Went m old.input left old.out filled pending v n) where
    abbrev given : List ℕ
    given = w.taken ++ still left.left

    abbrev taken : ℕ
    taken = n.live.steps - m.live.steps

    all_taken : taken ≤ most
    all_taken = omega arith

    is_given : IsInput old.input given
    is_given = input_was w.taken old.input.left left.left w.gives.left

    none_left : IsTrue n.ended → still left.left ≡ []
    none_left ended = at_end left.left (w.end (λ t. absurd (never m.ended unread t)) ended)

    abbrev comes : Comes p v n ([] ++ w.text) (still left.left) (run (code_of p) taken (initial (code_of p) given))
    comes = w.comes p [] (still left.left) (initial (code_of p) given) none_left (stands given)

    was_read : WasRead old.input left
    was_read = record { taken = w.taken; gives = w.gives }

    printed : comes.state.output ≡ w.text ++ pending
    printed = w.output p ([] ++ w.text) (still left.left) comes.state comes.stands

    stood : behaviour p given taken ≡ shown (next_of v n.live.at comes.state)
    stood = shows p given taken (next_of v n.live.at comes.state) comes.is

  module _ (left : SourceState) (filled : SinkState) (v : Verdict) (w : Went m old.input left old.out filled [] v n) where
    handed_over : (s : Standing) → behaviour p (given left filled [] v w) most ≡ s → output s ≡ (comes left filled [] v w).state.output → Shown (behaviour p (given left filled [] v w) most) old (record { input = left; out = filled })
    handed_over s e o = record {
      read = was_read left filled [] v w;
      out = w.wrote ∙ ap (sink_with old.out) (sym (append-nil w.text) ∙ sym (printed left filled [] v w) ∙ sym o ∙ sym (ap output e));
    }

    came_to : (came : Came) (s : Standing) → behaviour p (given left filled [] v w) most ≡ s → output s ≡ (comes left filled [] v w).state.output → came ≡ came_of s → Carried p most old (record { input = left; out = filled }) (Ok came)
    came_to came s e o c = record {
      input = given left filled [] v w;
      is_input = is_given left filled [] v w;
      carries = (c ∙ sym (ap came_of e), handed_over s e o);
    }

  stood_at : (Due : CStmt → Type 0) (left : SourceState) (filled : SinkState) (w : Went m old.input left old.out filled [] verdict.Held n) → IsDue Due n → (input : SourceState) → StoodAt Due p (given left filled [] verdict.Held w) most old (record { input = input; out = filled })
  stood_at Due left filled w is_due input =
      let c = comes left filled [] verdict.Held w in
      record {
        steps = taken left filled [] verdict.Held w;
        within = all_taken left filled [] verdict.Held w;
        state = c.state;
        stands = sym c.is;
        due = is_due p ([] ++ w.text) (still left.left) c.state c.stands;
        out = w.wrote ∙ ap (sink_with old.out) (sym (append-nil w.text) ∙ sym (printed left filled [] verdict.Held w));
      }

  pub ended : (left : SourceState) (filled : SinkState) → Ran m old.input old.out most n left filled (Ok tt) → Carried p most old (record { input = left; out = filled }) (Ok (told (ending.Ran end.Ended n)))
  ended left filled w =
      let s = (comes left filled [] verdict.Ended w).state in
      came_to left filled verdict.Ended w came.Ended (standing.Ended s.output s.marks)
      (over_at p (given left filled [] verdict.Ended w) (taken left filled [] verdict.Ended w) most (standing.Ended s.output s.marks) (all_taken left filled [] verdict.Ended w) (stood left filled [] verdict.Ended w) (λ h. h))
      refl refl

  pub faulted : (k : FaultKind) (left : SourceState) (filled : SinkState) → Ran m old.input old.out most n left filled (Err (run_stop.Fault k)) → Carried p most old (record { input = left; out = filled }) (Ok (told (ending.Ran (end.Faulted k) n)))
  faulted k left filled w =
      let v : Verdict = verdict.Faulted k in
      let c = comes left filled [] v w in
      let s = c.state in
      let over : Standing = standing.Faulted s.output s.marks k s.places in
      came_to left filled v w (told (ending.Ran (end.Faulted k) n)) over
      (over_at p (given left filled [] v w) (taken left filled [] v w) most over (all_taken left filled [] v w) (stood left filled [] v w) (λ h. h))
      refl
      (sym (ap (came.Faulted k) (placed p n ([] ++ w.text) (still left.left) s c.stands)))

  pub spent : (left : SourceState) (filled : SinkState) → Ran m old.input old.out most n left filled (Err run_stop.Spent) → Carried p most old (record { input = left; out = filled }) (Ok (told (ending.Ran end.Spent n)))
  spent left filled r =
      let w = r.0 in
      let s = (comes left filled [] verdict.Going w).state in
      let all : most ≡ taken left filled [] verdict.Going w = (let e = r.1 in omega arith) in
      came_to left filled verdict.Going w came.Spent (standing.Going s.output s.marks)
      (ap (behaviour p (given left filled [] verdict.Going w)) all ∙ stood left filled [] verdict.Going w)
      refl refl

  pub stuck : (c : StuckCause) (k : ℕ) (left : SourceState) (filled : SinkState) → Ran m old.input old.out most n left filled (Err (run_stop.Stuck c k)) → Carried p most old (record { input = left; out = filled }) (Ok (told (ending.Ran (end.Stuck c k) n)))
  stuck c k left filled r =
      let w = r.0 in
      let v : Verdict = verdict.Stuck c in
      let s = (comes left filled [] v w).state in
      let over : Standing = standing.Stuck s.output s.marks c n.live.at in
      came_to left filled v w (came.Stuck c k) over
      (over_at p (given left filled [] v w) (taken left filled [] v w) most over (all_taken left filled [] v w) (stood left filled [] v w) (λ h. h))
      refl
      (ap (λ i. came.Stuck c i) r.1)

  pub unreadable : (failed : SourceState) (filled : SinkState) → Ran m old.input old.out most n failed filled (Err run_stop.ReadFault) → Carried p most old (record { input = failed; out = filled }) (Err stop.ReadFault)
  unreadable failed filled r = record {
    input = given r.left filled [] verdict.Held r.went;
    is_input = is_given r.left filled [] verdict.Held r.went;
    carries = record {
      stood = stood_at Reads r.left filled r.went r.is_due failed;
      left = r.left;
      read = was_read r.left filled [] verdict.Held r.went;
      fails = r.fails;
    };
  }

  pub unwritable : (left : SourceState) (failed : SinkState) → Ran m old.input old.out most n left failed (Err run_stop.WriteFault) → Carried p most old (record { input = left; out = failed }) (Err stop.WriteFault)
  unwritable left failed r =
      let c = comes left r.filled r.pending r.verdict r.went in
      let whole : r.went.text ++ r.pending ≡ output (behaviour p (given left r.filled r.pending r.verdict r.went) (taken left r.filled r.pending r.verdict r.went)) =
      sym (printed left r.filled r.pending r.verdict r.went) ∙ sym (of_output r.verdict n.live.at c.state) ∙ sym (ap output (stood left r.filled r.pending r.verdict r.went)) in
      record {
        input = given left r.filled r.pending r.verdict r.went;
        is_input = is_given left r.filled r.pending r.verdict r.went;
        carries = record {
          steps = taken left r.filled r.pending r.verdict r.went;
          within = all_taken left r.filled r.pending r.verdict r.went;
          read = was_read left r.filled r.pending r.verdict r.went;
          part = subst (λ l. PartWritten l old.out failed) whole (behind r.went.text r.pending old.out r.filled failed r.went.wrote r.part);
        };
      }

  pub wanting : (left : SourceState) (filled : SinkState) → Ran m old.input old.out most n left filled (Err run_stop.Memory) → Carried p most old (record { input = left; out = filled }) (Err stop.Memory)
  wanting left filled r = record {
    input = given left filled [] verdict.Held r.0;
    is_input = is_given left filled [] verdict.Held r.0;
    carries = record {
      stood = stood_at MayTakeMemory left filled r.0 r.1 left;
      read = was_read left filled [] verdict.Held r.0;
    };
  }
