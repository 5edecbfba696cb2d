-- Rounds of steps and of handing output over.
use Rattle.std.proofs.Common.{◌≡◌, ◌∙◌, ap, sym, refl, subst, ℕ, ◌+◌, ◌-◌, ◌*◌, ◌<◌, ◌≤◌, min, List, [], ◌∷◌, ◌++◌, length, append_assoc, arith, Bool, true, false}
use Rattle.std.specs.Prelude.{IsTrue, ◌↔◌, Option}
use mathlib.Core.List.{append-nil}
use Rattle.aplc_io.specs.Outside.{SinkState, sink_with}
use Rattle.aplc_io.specs.Parts.{PartWritten}
use Rattle.aplc_io.proofs.Sent.{sink_with-nil, sink_with-with}
use Rattle.aplc_cprof.specs.declared.syntax.CProgram.{CProgram}
use Rattle.aplc_cprof.specs.Machine.{State, run, code_of, and_then}
use Rattle.aplc_cprof.proofs.Runs.{run_sum}
use Rattle.aplc_crun.specs.declared.code.Node.{Node}
use Rattle.aplc_crun.specs.declared.live.Verdict.{Verdict}
use Rattle.aplc_crun.specs.declared.live.Verdict.TheVariants as verdict
use Rattle.aplc_crun.specs.declared.live.Live.{Live}
use Rattle.aplc_crun.specs.declared.machine.Machine.{Machine}
use Rattle.aplc_crun.specs.Flat.{Flat, Going, flat_of, layout_of, flat_run}
use Rattle.aplc_crun.specs.Laying.{Setting, Sound, state_of}
use Rattle.aplc_crun.specs.Building.{globals}
use Rattle.aplc_crun.specs.Pausing.{paused, ReadIsDue}
use Rattle.aplc_crun.specs.Running.{setting, Stands, next_of, Comes}
use Rattle.aplc_crun.specs.Advancing.{emptied, Advanced, Cut}
use Rattle.aplc_crun.proofs.Standing.{run_comes}

-- the pending output was handed over
empty_stands : (p : CProgram) (m : Machine) (live : Live) (given more : List ℕ) (st : State) → flat_of live ≡ emptied (flat_of m.live) → Stands p m given more st → Stands p (record m { live = live }) (given ++ m.live.out.bytes.items) more st
empty_stands p m live given more st e s =
    let w : Setting = setting s.due m.laid s.marks (given ++ m.live.out.bytes.items) (m.ahead.items ++ more) in
    let room : Sound (globals p.ints p.bufs) s.due s.marks (emptied (flat_of m.live)) = record { ints = s.sound.ints; bufs = s.sound.bufs; global_ints = s.sound.global_ints; global_bufs = s.sound.global_bufs; callers = s.sound.callers; held = s.sound.held; marks = s.sound.marks } in
    record {
      due = s.due;
      laid = s.laid;
      program = s.program;
      marks = s.marks;
      few = subst (λ (n : ℕ). length s.marks ≤ n) (sym (ap (λ (f : Flat). f.steps) e)) s.few;
      sound = subst (λ (f : Flat). Sound (globals p.ints p.bufs) s.due s.marks f) (sym e) room;
      state =
          s.state
          ∙ ap (λ (o : List ℕ). record (state_of w (emptied (flat_of m.live))) { output = o }) (sym (append-nil (given ++ m.live.out.bytes.items)))
          ∙ ap (λ (f : Flat). state_of w f) (sym e);
    }

round_comes : (p : CProgram) (m : Machine) (mid live : Live) (v : Verdict) (steps : ℕ) (given more : List ℕ) (st : State) → m.live.steps + steps ≤ mid.steps → paused v (flat_of mid) ≡ flat_run (layout_of m.laid) steps (flat_of m.live) → flat_of live ≡ emptied (flat_of mid) → Stands p m given more st → Comes p v (record m { live = live }) (given ++ mid.out.bytes.items) more (run (code_of p) steps st)
round_comes p m mid live v steps given more st later ran e s =
    let c : Comes p v (record m { live = mid }) given more (run (code_of p) steps st) = run_comes p m mid v steps given more st later ran s in
    let same : mid.at ≡ live.at = sym (ap (λ (f : Flat). f.at) e) in
    record {
      state = c.state;
      is = ap (λ n. next_of v n c.state) (sym same) ∙ c.is;
      stands = empty_stands p (record m { live = mid }) live given more c.state e c.stands;
    }

-- steps were taken, and what they wrote was handed over
pub round_ok : (m : Machine) (mid live : Live) (v : Verdict) (old new : SinkState) → m.live.steps ≤ mid.steps → paused v (flat_of mid) ≡ flat_run (layout_of m.laid) (mid.steps - m.live.steps) (flat_of m.live) → flat_of live ≡ emptied (flat_of mid) → new ≡ sink_with old mid.out.bytes.items → Advanced m old v (record m { live = live }) new
round_ok m mid live v old new least ran e wrote =
    let same : live.steps ≡ mid.steps = ap (λ (f : Flat). f.steps) e in
    record {
      text = mid.out.bytes.items;
      wrote = wrote;
      later = omega arith;
      comes = λ p given more st s.
          subst (λ (n : ℕ). Comes p v (record m { live = live }) (given ++ mid.out.bytes.items) more (run (code_of p) (n - m.live.steps) st)) (sym same)
          (round_comes p m mid live v (mid.steps - m.live.steps) given more st (omega (arith, least)) ran e s);
    }

-- steps were taken, and the sink refused what they wrote
pub round_cut : (m : Machine) (mid live : Live) (v : Verdict) (old new : SinkState) → m.live.steps ≤ mid.steps → paused v (flat_of mid) ≡ flat_run (layout_of m.laid) (mid.steps - m.live.steps) (flat_of m.live) → flat_of live ≡ flat_of mid → PartWritten mid.out.bytes.items old new → Cut m old (record m { live = live }) new
round_cut m mid live v old new least ran e part =
    let same : live.steps ≡ mid.steps = ap (λ (f : Flat). f.steps) e in
    let ran2 : paused v (flat_of live) ≡ flat_run (layout_of m.laid) (live.steps - m.live.steps) (flat_of m.live) =
    ap (paused v) e ∙ ran ∙ ap (λ n. flat_run (layout_of m.laid) (n - m.live.steps) (flat_of m.live)) (sym same) in
    record {
      text = [];
      middle = old;
      verdict = v;
      wrote = sym (sink_with-nil old);
      part = subst (λ (xs : List ℕ). PartWritten xs old new) (sym (ap (λ (f : Flat). f.output) e)) part;
      later = omega arith;
      comes = λ p given more st s.
          subst (λ (xs : List ℕ). Comes p v (record m { live = live }) xs more (run (code_of p) (live.steps - m.live.steps) st)) (sym (append-nil given))
          (run_comes p m live v (live.steps - m.live.steps) given more st (omega (arith, least, same)) ran2 s);
    }

-- the same where memory was refused afterwards
pub round_ok_kept : (m : Machine) (mid live : Live) (old new : SinkState) → m.live.steps ≤ mid.steps → Going (flat_of mid) ≡ flat_run (layout_of m.laid) (mid.steps - m.live.steps) (flat_of m.live) → flat_of live ≡ emptied (flat_of mid) → new ≡ sink_with old mid.out.bytes.items → Advanced m old verdict.Held (record m { live = live }) new
round_ok_kept m mid live old new least ran e wrote = round_ok m mid live verdict.Held old new least ran e wrote

pub round_cut_kept : (m : Machine) (mid live : Live) (old new : SinkState) → m.live.steps ≤ mid.steps → Going (flat_of mid) ≡ flat_run (layout_of m.laid) (mid.steps - m.live.steps) (flat_of m.live) → flat_of live ≡ flat_of mid → PartWritten mid.out.bytes.items old new → Cut m old (record m { live = live }) new
round_cut_kept m mid live old new least ran e part = round_cut m mid live verdict.Held old new least ran e part

pub ruleset rounds = (round_ok, round_cut, round_ok_kept, round_cut_kept)

-- ---- Rounds, one after the other

-- no step was taken
pub advanced_none : (m : Machine) (s : SinkState) → Advanced m s verdict.Held m s
advanced_none m s = record {
  text = [];
  wrote = sym (sink_with-nil s);
  later = omega arith;
  comes = λ p given more st h.
      let none : 0 ≡ m.live.steps - m.live.steps = omega arith in
      record {
        state = st;
        is = ap (λ n. run (code_of p) n st) none;
        stands = subst (λ (xs : List ℕ). Stands p m xs more st) (sym (append-nil given)) h;
      };
}

-- steps and then others, with what may come before these and what may come after them
pub comes_on : (p : CProgram) (m n o : Machine) (v : Verdict) (a b given more rest : List ℕ) (st : State) → m.live.steps ≤ n.live.steps → n.live.steps ≤ o.live.steps → Comes p verdict.Held n (given ++ a) more (run (code_of p) (n.live.steps - m.live.steps) st) → ((z : State) → Stands p n (given ++ a) more z → Comes p v o ((given ++ a) ++ b) rest (run (code_of p) (o.live.steps - n.live.steps) z)) → Comes p v o (given ++ (a ++ b)) rest (run (code_of p) (o.live.steps - m.live.steps) st)
comes_on p m n o v a b given more rest st l1 l2 c next =
    let d = next c.state c.stands in
    let all : (n.live.steps - m.live.steps) + (o.live.steps - n.live.steps) ≡ o.live.steps - m.live.steps = omega arith in
    record {
      state = d.state;
      is =
          d.is
          ∙ ap (λ x. and_then x (run (code_of p) (o.live.steps - n.live.steps))) c.is
          ∙ sym (run_sum (code_of p) (n.live.steps - m.live.steps) (o.live.steps - n.live.steps) st)
          ∙ ap (λ k. run (code_of p) k st) all;
      stands = subst (λ (xs : List ℕ). Stands p o xs rest d.state) (append_assoc given a b) d.stands;
    }

-- a round after others
pub advanced_on : (m n o : Machine) (v : Verdict) (s t u : SinkState) → Advanced m s verdict.Held n t → Advanced n t v o u → Advanced m s v o u
advanced_on m n o v s t u x y = record {
  text = x.text ++ y.text;
  wrote = y.wrote ∙ ap (λ w. sink_with w y.text) x.wrote ∙ sink_with-with s x.text y.text;
  later = omega (arith, x.later, y.later);
  comes = λ p given more st h. comes_on p m n o v x.text y.text given more more st x.later y.later (x.comes p given more st h) (λ z k. y.comes p (given ++ x.text) more z k);
}

-- a round that the sink cut short, after others
pub cut_on : (m n o : Machine) (s t u : SinkState) → Advanced m s verdict.Held n t → Cut n t o u → Cut m s o u
cut_on m n o s t u x y = record {
  text = x.text ++ y.text;
  middle = y.middle;
  verdict = y.verdict;
  wrote = y.wrote ∙ ap (λ w. sink_with w y.text) x.wrote ∙ sink_with-with s x.text y.text;
  part = y.part;
  later = omega (arith, x.later, y.later);
  comes = λ p given more st h. comes_on p m n o y.verdict x.text y.text given more more st x.later y.later (x.comes p given more st h) (λ z k. y.comes p (given ++ x.text) more z k);
}

not_true : (b : Bool) → b ≡ false → IsTrue b → ⊥
not_true true e h = cc
not_true false e h = cc

-- a round in which no read is due leaves less to do
pub round_smaller : (old new left : ℕ) (o n : List ℕ) (nd : Option Node) (b : Bool) → b ≡ false → IsTrue b ↔ ReadIsDue nd → n ≡ [] → (o ≡ [] → (ReadIsDue nd → ⊥) → old < new) → old ≤ new → new ≤ old + left → 2 * (left - (new - old)) + min 1 (length n) < 2 * left + min 1 (length o)
round_smaller old new left [] n nd b is due none more le most =
    let none2 : length n ≡ 0 = ap length none in
    let less : old < new = more refl (λ r. not_true b is (due.1 r)) in
    omega arith
round_smaller old new left (x ∷ o) n nd b is due none more le most =
    let none2 : length n ≡ 0 = ap length none in
    omega arith

pub ruleset advances = (advanced_none, advanced_on, cut_on)
