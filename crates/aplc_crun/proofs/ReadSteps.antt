-- A read that is due: the bytes that are read ahead for it, and the line that it takes.
use Rattle.std.proofs.Common.{◌≡◌, ◌∙◌, ap, sym, refl, subst, ℕ, zero, ◌+◌, ◌-◌, ◌<◌, ◌≤◌, ◌^◌, List, [], ◌∷◌, ◌++◌, length, take, drop, append_assoc, append-nil, arith, zero-add, Bool, ℤ, pos, Option, Some, None, option_and_then, Vec}
use Rattle.std.specs.Prelude.{IsTrue, slice_get, sum_by, Err}
use Rattle.std.proofs.lemmas.List.{length-map}
use Rattle.std.specs.Str.{chars}
use Rattle.std.specs.declared.alloc.Global.{Global}
use Rattle.aplc_io.specs.Outside.{SourceState, SinkState, IsAtEnd, sink_with}
use Rattle.aplc_io.proofs.Gives.{gives-nil, gives-gives}
use Rattle.aplc_io.proofs.Sent.{sink_with-nil, sink_with-with}
use Rattle.aplc_scalar.specs.declared.kind.FaultKind.{FaultKind}
use Rattle.aplc_scalar.specs.declared.kind.FaultKind.TheVariants as fault
use Rattle.aplc_scalar.specs.Input.{InputLine, Line, decoded, read_line, line_or_fault, input_line, number_line, codes_of, numbers, line_text}
use Rattle.aplc_scalar.specs.Input.{Unread as machine_unread}
use Rattle.aplc_scalar.proofs.InputLaws.{input_line_is, number_line_is}
use Rattle.aplc_cprof.specs.declared.syntax.Buf.{Buf}
use Rattle.aplc_cprof.specs.declared.syntax.Buf.TheVariants as buf
use Rattle.aplc_cprof.specs.declared.syntax.CStmt.{CStmt}
use Rattle.aplc_cprof.specs.declared.syntax.CStmt.TheVariants as stmt
use Rattle.aplc_cprof.specs.declared.syntax.CProgram.{CProgram}
use Rattle.aplc_cprof.specs.Machine.{Place, State, Todo, Code, Next, run, step, code_of, and_then, settled, settled_next, read_cells, with_line, onward, due, act, cells_of}
use Rattle.aplc_cprof.specs.Machine as machine
use Rattle.aplc_crun.specs.declared.code.Node.{Node}
use Rattle.aplc_crun.specs.declared.code.Node.TheVariants as form
use Rattle.aplc_crun.specs.declared.decode.Form.{Form}
use Rattle.aplc_crun.specs.declared.decode.Form.TheVariants as kind
use Rattle.aplc_crun.specs.declared.gather.Extent.{Extent}
use Rattle.aplc_crun.specs.declared.live.Live.{Live}
use Rattle.aplc_crun.specs.declared.live.Verdict.{Verdict}
use Rattle.aplc_crun.specs.declared.live.Verdict.TheVariants as verdict
use Rattle.aplc_crun.specs.declared.stop.RunStop.{RunStop}
use Rattle.aplc_crun.specs.declared.stop.RunStop.TheVariants as stop
use Rattle.aplc_crun.specs.declared.machine.Machine.{Machine}
use Rattle.aplc_crun.specs.Flat.{Flat, Going, Layout, flat_of, layout_of, with_read, lined, counted, TakesMemory}
use Rattle.aplc_crun.specs.Laying.{Due, Globals, Falls, BufIn, NodeOk, PartOk, Sound, Setting, code_for, state_of}
use Rattle.aplc_crun.specs.Building.{globals}
use Rattle.aplc_crun.specs.Pausing.{IsRead, ReadIsDue, MemoryIsDue}
use Rattle.aplc_crun.specs.Running.{setting, Stands, Comes}
use Rattle.aplc_crun.specs.Ran.{Reads, MayTakeMemory, NextIs, IsDue, Went, Unread, Ran}
use Rattle.aplc_crun.specs.Gathering.{Gathered, Missed, IsLine, IsNoLine}
use Rattle.aplc_crun.specs.Decoding.{meaning_of}
use Rattle.aplc_crun.specs.Reading.{node_of, Stepped, Untaken}
use Rattle.aplc_crun.proofs.Advancing.{comes_on}
use Rattle.aplc_crun.proofs.Frames.{held_more}
use Rattle.aplc_crun.proofs.Follow.{Meet, buf_meets, settle_meets, at_due, node_at, counted_sound, counted_state}

-- ---- The statement that is due

-- a node is what its place says
node_here : (g : Globals) (k : Due) (nodes : List Node) (at : ℕ) (nd : Node) → PartOk g k 0 nodes → slice_get nodes at ≡ Some nd → NodeOk g k at nd
node_here g k nodes at nd h e = subst (λ (m : ℕ). NodeOk g k m nd) (zero-add at) (node_at g k 0 at nodes nd h e)

-- a statement that reads, by its form
record ReadForm (nd : Node) : Type 0 where
  form : Form
  buf : Buf
  next : ℕ
  is : nd ≡ node_of form buf next

read_form : (nd : Node) → IsRead nd → ReadForm nd
read_form (form.ReadText p next) r = record { form = kind.Text; buf = p; next = next; is = refl }
read_form (form.ReadNums p next) r = record { form = kind.Numbers; buf = p; next = next; is = refl }
read_form _ r = absurd r

reads_first : (P : CStmt → Type 0) → ((p : Buf) → P (stmt.ReadText p)) → ((p : Buf) → P (stmt.ReadNums p)) → (g : Globals) (k : Due) (n : ℕ) (nd : Node) → IsRead nd → NodeOk g k n nd → NextIs P (k n).todo
reads_first P text nums g k n nd r ok = let x = read_form nd r in by_form x.form x.buf x.next (subst (NodeOk g k n) x.is ok)
  where
    by_form : (kd : Form) (p : Buf) (next : ℕ) → NodeOk g k n (node_of kd p next) → NextIs P (k n).todo
    by_form kind.Text p next ok = subst (NextIs P) (sym ok.0.due) (text p)
    by_form kind.Numbers p next ok = subst (NextIs P) (sym ok.0.due) (nums p)

takes_first : (g : Globals) (k : Due) (n : ℕ) (nd : Node) → TakesMemory nd → NodeOk g k n nd → NextIs MayTakeMemory (k n).todo
takes_first g k n (form.Cells p e next) r ok = subst (NextIs MayTakeMemory) (sym ok.0.due) tt
takes_first g k n (form.Call f next) r ok = subst (NextIs MayTakeMemory) (sym ok.due) tt
takes_first g k n _ r ok = absurd r

-- whatever a machine stands for
due_is : (P : CStmt → Type 0) (Q : Node → Type 0) (n : Machine) (o : Option Node) → ((g : Globals) (k : Due) (at : ℕ) (nd : Node) → Q nd → NodeOk g k at nd → NextIs P (k at).todo) → slice_get n.laid.nodes.items n.live.at ≡ o → (nd : Node) → o ≡ Some nd → Q nd → IsDue P n
due_is P Q n o first e nd is q = λ p given more st s.
    subst (λ (x : State). NextIs P x.todo) (sym s.state)
    (first (globals p.ints p.bufs) s.due n.live.at nd q (node_here (globals p.ints p.bufs) s.due n.laid.nodes.items n.live.at nd s.laid.nodes (e ∙ is)))

read_due_as : (P : CStmt → Type 0) → ((p : Buf) → P (stmt.ReadText p)) → ((p : Buf) → P (stmt.ReadNums p)) → (n : Machine) → ReadIsDue (slice_get n.laid.nodes.items n.live.at) → IsDue P n
read_due_as P text nums n r = by_node (slice_get n.laid.nodes.items n.live.at) refl r
  where
    by_node : (o : Option Node) → slice_get n.laid.nodes.items n.live.at ≡ o → ReadIsDue o → IsDue P n
    by_node None e r = absurd r
    by_node (Some nd) e r = due_is P IsRead n (Some nd) (reads_first P text nums) e nd refl r

pub reads_due : (n : Machine) → ReadIsDue (slice_get n.laid.nodes.items n.live.at) → IsDue Reads n
reads_due n r = read_due_as Reads (λ p. tt) (λ p. tt) n r

-- a read may take memory too
pub read_memory_due : (n : Machine) → ReadIsDue (slice_get n.laid.nodes.items n.live.at) → IsDue MayTakeMemory n
read_memory_due n r = read_due_as MayTakeMemory (λ p. tt) (λ p. tt) n r

pub memory_due : (n : Machine) → MemoryIsDue (slice_get n.laid.nodes.items n.live.at) → IsDue MayTakeMemory n
memory_due n r = by_node (slice_get n.laid.nodes.items n.live.at) refl r
  where
    by_node : (o : Option Node) → slice_get n.laid.nodes.items n.live.at ≡ o → MemoryIsDue o → IsDue MayTakeMemory n
    by_node None e r = absurd r
    by_node (Some nd) e r = due_is MayTakeMemory TakesMemory n (Some nd) takes_first e nd refl r

-- ---- The line that is taken

-- the definition's step at a statement that reads
read_at : (g : Globals) (s : Setting) (l : Layout) (f : Flat) (kd : Form) (p : Buf) (next : ℕ) → NodeOk g s.due f.at (node_of kd p next) → step (code_for s.due l) (state_of s f) ≡ settled_next (read_cells p (read_line (meaning_of kd) s.input) (s.due next).todo (state_of s f))
unfolding step input_line number_line
read_at g s l f kind.Text p next ok = ap settled_next (sym (at_due (code_for s.due l) (s.due f.at).todo f.at (stmt.ReadText p) _ (s.due next).todo (state_of s f) ok.0.due (stmt.outs-ReadText p)))
read_at g s l f kind.Numbers p next ok = ap settled_next (sym (at_due (code_for s.due l) (s.due f.at).todo f.at (stmt.ReadNums p) _ (s.due next).todo (state_of s f) ok.0.due (stmt.outs-ReadNums p)))

read_falls : (g : Globals) (k : Due) (n : ℕ) (kd : Form) (p : Buf) (next : ℕ) → NodeOk g k n (node_of kd p next) → Falls (k n) (k next)
read_falls g k n kind.Text p next ok = ok.0.falls
read_falls g k n kind.Numbers p next ok = ok.0.falls

read_within : (g : Globals) (k : Due) (n : ℕ) (kd : Form) (p : Buf) (next : ℕ) → NodeOk g k n (node_of kd p next) → BufIn g (k n) p
read_within g k n kind.Text p next ok = ok.1
read_within g k n kind.Numbers p next ok = ok.1

put_sound : (g : Globals) (k : Due) (ms : List Place) (cells : List ℤ) (f : Flat) → Sound g k ms f → Sound g k ms (with_read cells f)
put_sound g k ms cells f sound = record {
  ints = sound.ints;
  bufs = sound.bufs;
  global_ints = sound.global_ints;
  global_bufs = sound.global_bufs;
  callers = sound.callers;
  marks = sound.marks;
  held =
      let e : sum_by cells_of (f.heap ++ Some cells ∷ []) ≡ sum_by cells_of f.heap + length cells = held_more f.heap (Some cells) in
      omega (arith, sound.held);
}

-- the input with other bytes left
abbrev left_in : Setting → List ℕ → Setting
left_in s left = record s { input = left }

line_meets : (g : Globals) (s : Setting) (f : Flat) (kd : Form) (p : Buf) (next : ℕ) (cells : List ℤ) (left : List ℕ) → NodeOk g s.due f.at (node_of kd p next) → Sound g s.due s.marks f → Meet g (left_in s left) (counted (lined p cells next f)) (machine.Going (state_of (left_in s left) (counted (lined p cells next f)))) (settled_next (read_cells p (Line cells left) (s.due next).todo (state_of s f)))
line_meets g s f kd p next cells left ok sound =
    settle_meets g (left_in s left) (Going (lined p cells next f)) _
    (buf_meets g (left_in s left) p (Some (length f.heap)) next (with_read cells f) (read_falls g s.due f.at kd p next ok) (read_within g s.due f.at kd p next ok) (put_sound g s.due s.marks cells f sound))

run_one : (c : Code) (st : State) → run c 1 st ≡ step c st
run_one c st = by_next (step c st)
  where
    by_next : (x : Next) → and_then x (run c zero) ≡ x
    by_next (machine.Going s) = refl
    by_next (machine.Ended s) = refl
    by_next (machine.Faulted k s) = refl
    by_next (machine.Stuck k n s) = refl

-- ---- Bytes that are read ahead

-- a machine that has read more
abbrev pub ahead_of : Machine → Vec ℕ Global → Bool → Machine
ahead_of m v e = record m { ahead = v; ended = e }

-- stands for the same state, of which less may still come
pub ahead_stands : (p : CProgram) (m : Machine) (v : Vec ℕ Global) (e : Bool) (taken given more : List ℕ) (st : State) → v.items ≡ m.ahead.items ++ taken → Stands p m given (taken ++ more) st → Stands p (ahead_of m v e) given more st
ahead_stands p m v e taken given more st is s = record {
  due = s.due;
  laid = s.laid;
  program = s.program;
  marks = s.marks;
  few = s.few;
  sound = s.sound;
  state =
      s.state
      ∙ ap (λ (i : List ℕ). state_of (record { due = s.due; nodes = m.laid.nodes.items; marks = s.marks; given = given; input = i }) (flat_of m.live)) (sym (append_assoc m.ahead.items taken more))
      ∙ ap (λ (xs : List ℕ). state_of (setting s.due m.laid s.marks given (xs ++ more)) (flat_of m.live)) (sym is);
}

pub no_steps : (n : ℕ) → 0 ≡ n - n
no_steps n = omega arith

-- what a machine has not handed over is its output
pub pending_is : (p : CProgram) (n : Machine) (given more pending : List ℕ) (st : State) → n.live.out.bytes.items ≡ pending → Stands p n given more st → st.output ≡ given ++ pending
pending_is p n given more pending st e s = ap (λ (x : State). x.output) s.state ∙ ap (λ l. given ++ l) e

pub gathered_went : (m : Machine) (v : Vec ℕ Global) (e : Bool) (s t : SourceState) (sink : SinkState) → Gathered m.ahead.items m.ended s v.items e t → m.live.out.bytes.items ≡ [] → Went m s t sink sink [] verdict.Held (ahead_of m v e)
gathered_went m v e s t sink g empty = record {
  taken = g.taken;
  gives = g.gives;
  end = g.end;
  still = g.still;
  text = [];
  wrote = sym (sink_with-nil sink);
  later = omega arith;
  output = λ p given more st h. pending_is p (ahead_of m v e) given more [] st empty h;
  comes = λ p given more st none h. record {
    state = st;
    is = ap (λ n. run (code_of p) n st) (no_steps m.live.steps);
    stands = subst (λ (xs : List ℕ). Stands p (ahead_of m v e) xs more st) (sym (append-nil given)) (ahead_stands p m v e g.taken given more st g.items h);
  };
}

-- ---- Steps without a source

pub stepped_went : (m n : Machine) (v : Verdict) (k : ℕ) (s : SourceState) (sink : SinkState) → Stepped m v k n → m.live.out.bytes.items ≡ [] → Went m s s sink sink [] v n
stepped_went m n v k s sink x empty =
    let count = x.count in
    record {
      taken = [];
      gives = gives-nil s;
      end = λ at_end ended. at_end (sym x.ended ∙ ended);
      still = λ was. (refl, refl, x.ended ∙ was);
      text = [];
      wrote = sym (sink_with-nil sink);
      later = omega arith;
      output = λ p given more st h. pending_is p n given more [] st (x.silent ∙ empty) h;
      comes = λ p given more st none h.
          let steps : k ≡ n.live.steps - m.live.steps = omega arith in
          subst (λ (j : ℕ). Comes p v n (given ++ []) more (run (code_of p) j st)) steps
          (subst (λ (xs : List ℕ). Comes p v n xs more (run (code_of p) k st)) (sym (append-nil given)) (x.comes p given more st (λ was. none (x.ended ∙ was)) h));
    }

-- nothing but what is kept has changed
waited : (m : Machine) (live : Live) → flat_of live ≡ flat_of m.live → Stepped m verdict.Held 0 (record m { live = live })
waited m live e = record {
  ended = refl;
  ready = refl;
  count = ap (λ (f : Flat). f.steps) e ∙ omega arith;
  silent = ap (λ (f : Flat). f.output) e;
  comes = λ p given more st none s. record {
    state = st;
    is = refl;
    stands = record {
      due = s.due;
      laid = s.laid;
      program = s.program;
      marks = s.marks;
      few = subst (λ (n : ℕ). length s.marks ≤ n) (sym (ap (λ (f : Flat). f.steps) e)) s.few;
      sound = subst (λ (f : Flat). Sound (globals p.ints p.bufs) s.due s.marks f) (sym e) s.sound;
      state = s.state ∙ ap (λ (f : Flat). state_of (setting s.due m.laid s.marks given (m.ahead.items ++ more)) f) (sym e);
    };
  };
}

-- the step of a read that is a fault
faulted : (m : Machine) (live : Live) (kd : Form) (p : Buf) (next : ℕ) (k : FaultKind) → slice_get m.laid.nodes.items m.live.at ≡ Some (node_of kd p next) → ((more : List ℕ) → (IsTrue m.ended → more ≡ []) → read_line (meaning_of kd) (m.ahead.items ++ more) ≡ machine_unread k) → flat_of live ≡ counted (flat_of m.live) → Stepped m (verdict.Faulted k) 1 (record m { live = live })
faulted m live kd p next k here reads e = record {
  ended = refl;
  ready = refl;
  count = ap (λ (f : Flat). f.steps) e;
  silent = ap (λ (f : Flat). f.output) e;
  comes = λ prog given more st none s.
      let g : Globals = globals prog.ints prog.bufs in
      let w : Setting = setting s.due m.laid s.marks given (m.ahead.items ++ more) in
      let ok = node_here g s.due m.laid.nodes.items m.live.at (node_of kd p next) s.laid.nodes here in
      record {
        state = state_of w (flat_of live);
        is =
            ap (λ (f : Flat). machine.Faulted k (state_of w f)) e
            ∙ ap (machine.Faulted k) (counted_state g w (flat_of m.live) s.sound)
            ∙ ap (λ (x : InputLine). settled_next (read_cells p x (s.due next).todo (state_of w (flat_of m.live)))) (sym (reads more none))
            ∙ sym (read_at g w (layout_of m.laid) (flat_of m.live) kd p next ok)
            ∙ sym (run_one (code_for s.due (layout_of m.laid)) (state_of w (flat_of m.live)))
            ∙ ap (λ (c : Code). run c 1 (state_of w (flat_of m.live))) (sym s.program)
            ∙ ap (run (code_of prog) 1) (sym s.state);
        stands = record {
          due = s.due;
          laid = s.laid;
          program = s.program;
          marks = s.marks;
          few = let one : live.steps ≡ m.live.steps + 1 = ap (λ (f : Flat). f.steps) e in omega (arith, s.few);
          sound = subst (λ (f : Flat). Sound g s.due s.marks f) (sym e) (counted_sound g s.due s.marks (flat_of m.live) s.sound);
          state = refl;
        };
      };
}

-- the step of a read that takes a line
taken_line : (m : Machine) (live : Live) (v : Vec ℕ Global) (kd : Form) (p : Buf) (next : ℕ) (cells : List ℤ) → slice_get m.laid.nodes.items m.live.at ≡ Some (node_of kd p next) → ((more : List ℕ) → (IsTrue m.ended → more ≡ []) → read_line (meaning_of kd) (m.ahead.items ++ more) ≡ Line cells (v.items ++ more)) → flat_of live ≡ counted (lined p cells next (flat_of m.live)) → Stepped m verdict.Going 1 (record m { live = live; ahead = v })
taken_line m live v kd p next cells here reads e = record {
  ended = refl;
  ready = refl;
  count = ap (λ (f : Flat). f.steps) e ∙ lined_steps p;
  silent = ap (λ (f : Flat). f.output) e ∙ lined_output p;
  comes = λ prog given more st none s.
      let g : Globals = globals prog.ints prog.bufs in
      let w : Setting = setting s.due m.laid s.marks given (m.ahead.items ++ more) in
      let u : Setting = setting s.due m.laid s.marks given (v.items ++ more) in
      let ok = node_here g s.due m.laid.nodes.items m.live.at (node_of kd p next) s.laid.nodes here in
      let h : Meet g u (counted (lined p cells next (flat_of m.live))) (machine.Going (state_of u (counted (lined p cells next (flat_of m.live))))) (settled_next (read_cells p (Line cells (v.items ++ more)) (s.due next).todo (state_of w (flat_of m.live)))) =
      line_meets g w (flat_of m.live) kd p next cells (v.items ++ more) ok s.sound in
      record {
        state = state_of u (flat_of live);
        is =
            ap (λ (f : Flat). machine.Going (state_of u f)) e
            ∙ h.state
            ∙ ap (λ (x : InputLine). settled_next (read_cells p x (s.due next).todo (state_of w (flat_of m.live)))) (sym (reads more none))
            ∙ sym (read_at g w (layout_of m.laid) (flat_of m.live) kd p next ok)
            ∙ sym (run_one (code_for s.due (layout_of m.laid)) (state_of w (flat_of m.live)))
            ∙ ap (λ (c : Code). run c 1 (state_of w (flat_of m.live))) (sym s.program)
            ∙ ap (run (code_of prog) 1) (sym s.state);
        stands = record {
          due = s.due;
          laid = s.laid;
          program = s.program;
          marks = s.marks;
          few = let one : live.steps ≡ m.live.steps + 1 = ap (λ (f : Flat). f.steps) e ∙ lined_steps p in omega (arith, s.few);
          sound = subst (λ (f : Flat). Sound g s.due s.marks f) (sym e) h.sound;
          state = refl;
        };
      };
}
  where
    lined_steps : (p : Buf) → (counted (lined p cells next (flat_of m.live))).steps ≡ m.live.steps + 1
    lined_steps (buf.Local n) = refl
    lined_steps (buf.Global n) = refl

    lined_output : (p : Buf) → (lined p cells next (flat_of m.live)).output ≡ m.live.out.bytes.items
    lined_output (buf.Local n) = refl
    lined_output (buf.Global n) = refl

-- ---- What the code comes to

read_none : (m : Machine) (kd : Form) (x : Extent) (text : List ℕ) → IsLine m.ahead.items m.ended x → text ≡ take x.text m.ahead.items → None ≡ option_and_then (meaning_of kd) (decoded text) → (more : List ℕ) → (IsTrue m.ended → more ≡ []) → read_line (meaning_of kd) (m.ahead.items ++ more) ≡ machine_unread fault.Input
read_none m kd x text line is none more end = line.reads (meaning_of kd) more end ∙ ap (λ t. line_or_fault (option_and_then (meaning_of kd) (decoded t)) (drop x.taken m.ahead.items ++ more)) (sym is) ∙ ap (λ o. line_or_fault o (drop x.taken m.ahead.items ++ more)) (sym none)

read_some : (m : Machine) (kd : Form) (x : Extent) (text : List ℕ) (cells : List ℤ) → IsLine m.ahead.items m.ended x → text ≡ take x.text m.ahead.items → Some cells ≡ option_and_then (meaning_of kd) (decoded text) → (more : List ℕ) → (IsTrue m.ended → more ≡ []) → read_line (meaning_of kd) (m.ahead.items ++ more) ≡ Line cells (drop x.taken m.ahead.items ++ more)
read_some m kd x text cells line is some more end = line.reads (meaning_of kd) more end ∙ ap (λ t. line_or_fault (option_and_then (meaning_of kd) (decoded t)) (drop x.taken m.ahead.items ++ more)) (sym is) ∙ ap (λ o. line_or_fault o (drop x.taken m.ahead.items ++ more)) (sym some)

few_characters : (input : List ℕ) (cells : List ℤ) (left : List ℕ) → read_line codes_of input ≡ Line cells left → length cells < 2 ^ 31
unfolding input_line
few_characters input cells left e =
    let h = input_line_is input cells left e in
    let few = h.2 in
    let same : length cells ≡ length (chars (line_text input)) = ap length h.0 ∙ length-map (chars (line_text input)) pos in
    omega arith

few_numbers : (input : List ℕ) (cells : List ℤ) (left : List ℕ) → read_line numbers input ≡ Line cells left → length cells < 2 ^ 31
unfolding number_line
few_numbers input cells left e = let h = number_line_is input cells left e in let few = h.1 in omega arith

-- a line has no more cells than a buffer may have
pub few_cells : (m : Machine) (kd : Form) (x : Extent) (text : List ℕ) (cells : List ℤ) → IsLine m.ahead.items m.ended x → text ≡ take x.text m.ahead.items → Some cells ≡ option_and_then (meaning_of kd) (decoded text) → length cells < 2 ^ 31
few_cells m kd x text cells line is some = by_form kd (read_some m kd x text cells line is some [] (λ end. refl))
  where
    by_form : (kd : Form) → read_line (meaning_of kd) (m.ahead.items ++ []) ≡ Line cells (drop x.taken m.ahead.items ++ []) → length cells < 2 ^ 31
    by_form kind.Text e = few_characters (m.ahead.items ++ []) cells (drop x.taken m.ahead.items ++ []) e
    by_form kind.Numbers e = few_numbers (m.ahead.items ++ []) cells (drop x.taken m.ahead.items ++ []) e

pub line_faulted : (m : Machine) (live : Live) (kd : Form) (p : Buf) (next : ℕ) (x : Extent) (text : List ℕ) → slice_get m.laid.nodes.items m.live.at ≡ Some (node_of kd p next) → IsLine m.ahead.items m.ended x → text ≡ take x.text m.ahead.items → None ≡ option_and_then (meaning_of kd) (decoded text) → flat_of live ≡ counted (flat_of m.live) → Stepped m (verdict.Faulted fault.Input) 1 (record m { live = live })
line_faulted m live kd p next x text here line is none e = faulted m live kd p next fault.Input here (read_none m kd x text line is none) e

pub line_taken : (m : Machine) (live : Live) (v : Vec ℕ Global) (kd : Form) (p : Buf) (next : ℕ) (x : Extent) (text : List ℕ) (cells : List ℤ) → slice_get m.laid.nodes.items m.live.at ≡ Some (node_of kd p next) → IsLine m.ahead.items m.ended x → text ≡ take x.text m.ahead.items → Some cells ≡ option_and_then (meaning_of kd) (decoded text) → flat_of live ≡ counted (lined p cells next (flat_of m.live)) → v.items ≡ drop x.taken m.ahead.items → Stepped m verdict.Going 1 (record m { live = live; ahead = v })
line_taken m live v kd p next x text cells here line is some e left =
    taken_line m live v kd p next cells here (λ more end. read_some m kd x text cells line is some more end ∙ ap (λ l. Line cells (l ++ more)) (sym left)) e

pub line_waited : (m : Machine) (live : Live) → ReadIsDue (slice_get m.laid.nodes.items m.live.at) → flat_of live ≡ flat_of m.live → Stepped m verdict.Held 0 (record m { live = live }) × ReadIsDue (slice_get m.laid.nodes.items live.at)
line_waited m live due e = (waited m live e, subst (λ (n : ℕ). ReadIsDue (slice_get m.laid.nodes.items n)) (sym (ap (λ (f : Flat). f.at) e)) due)

-- where memory was refused before anything
pub line_kept : (m : Machine) → ReadIsDue (slice_get m.laid.nodes.items m.live.at) → Stepped m verdict.Held 0 m × ReadIsDue (slice_get m.laid.nodes.items m.live.at)
line_kept m due = line_waited m m.live due refl

pub ruleset takes = (line_faulted, line_taken, line_waited, line_kept, few_cells)

-- ---- One after the other

same_end : (m n o : Machine) (s t u : SourceState) → ((IsTrue m.ended → IsAtEnd s) → IsTrue n.ended → IsAtEnd t) → ((IsTrue n.ended → IsAtEnd t) → IsTrue o.ended → IsAtEnd u) → (IsTrue m.ended → IsAtEnd s) → IsTrue o.ended → IsAtEnd u
same_end m n o s t u a b h = b (a h)

-- a run that goes on, and what follows it
pub went_on : (m n o : Machine) (v : Verdict) (s t u : SourceState) (k l q : SinkState) (before pending : List ℕ) → Went m s t k l before verdict.Held n → Went n t u l q pending v o → Went m s u k q pending v o
went_on m n o v s t u k l q before pending a b = record {
  taken = a.taken ++ b.taken;
  gives = gives-gives a.taken b.taken s t u a.gives b.gives;
  end = same_end m n o s t u a.end b.end;
  still = λ was.
      let x = a.still was in
      let y = b.still x.2 in
      (ap (λ l. l ++ b.taken) x.0 ∙ y.0, y.1 ∙ x.1, y.2);
  text = a.text ++ b.text;
  wrote = b.wrote ∙ ap (λ w. sink_with w b.text) a.wrote ∙ sink_with-with k a.text b.text;
  later = let x = a.later in let y = b.later in omega arith;
  output = b.output;
  comes = λ p given more st none h.
      let none_first : IsTrue n.ended → b.taken ++ more ≡ [] = λ ended. let y = b.still ended in ap (λ l. l ++ more) y.0 ∙ none y.2 in
      let here : Stands p m given (a.taken ++ (b.taken ++ more)) st = subst (λ (l : List ℕ). Stands p m given l st) (append_assoc a.taken b.taken more) h in
      let c = a.comes p given (b.taken ++ more) st none_first here in
      comes_on p m n o v a.text b.text given (b.taken ++ more) more st a.later b.later c (λ z g. b.comes p (given ++ a.text) more z none g);
}

-- a step that was taken, and one after which the run goes on
pub went_held : (m n : Machine) (s t : SourceState) (k l : SinkState) (pending : List ℕ) → Went m s t k l pending verdict.Going n → Went m s t k l pending verdict.Held n
went_held m n s t k l pending w = record {
  taken = w.taken;
  gives = w.gives;
  end = w.end;
  still = w.still;
  text = w.text;
  wrote = w.wrote;
  later = w.later;
  output = w.output;
  comes = λ p given more st none h. let c = w.comes p given more st none h in record { state = c.state; is = c.is; stands = c.stands };
}

-- ---- A read

module _ (m : Machine) (v : Vec ℕ Global) (e : Bool) (s t : SourceState) (sink : SinkState) (empty : m.live.out.bytes.items ≡ []) where
  abbrev read_ahead : Machine
  read_ahead = ahead_of m v e

  pub read_missed : ReadIsDue (slice_get m.laid.nodes.items m.live.at) → Missed m.ahead.items m.ended s v.items e t → Unread m s t sink sink read_ahead
  read_missed due x = record {
    left = x.left;
    went = gathered_went m v e s x.left sink x.gathered empty;
    asked = x.asked;
    fails = x.fails;
    is_due = reads_due read_ahead due;
  }

  pub read_refused : ReadIsDue (slice_get m.laid.nodes.items m.live.at) → Gathered m.ahead.items m.ended s v.items e t → Went m s t sink sink [] verdict.Held read_ahead × IsDue MayTakeMemory read_ahead
  read_refused due x = (gathered_went m v e s t sink x empty, read_memory_due read_ahead due)

  pub read_then : (w : Verdict) (k : ℕ) (n : Machine) → Gathered m.ahead.items m.ended s v.items e t → Stepped read_ahead w k n → Went m s t sink sink [] w n
  read_then w k n x y = went_on m read_ahead n w s t t sink sink sink [] [] (gathered_went m v e s t sink x empty) (stepped_went read_ahead n w k t sink y empty)

  pub read_no_line : (live : Live) (k : FaultKind) → ReadIsDue (slice_get m.laid.nodes.items m.live.at) → Gathered m.ahead.items m.ended s v.items e t → IsNoLine v.items e k → flat_of live ≡ counted (flat_of m.live) → Went m s t sink sink [] (verdict.Faulted k) (record m { live = live; ahead = v; ended = e })
  read_no_line live k reads g none f = by_node (slice_get m.laid.nodes.items m.live.at) refl reads
    where
      by_node : (o : Option Node) → slice_get m.laid.nodes.items m.live.at ≡ o → ReadIsDue o → Went m s t sink sink [] (verdict.Faulted k) (record m { live = live; ahead = v; ended = e })
      by_node None here r = absurd r
      by_node (Some nd) here r =
          let x = read_form nd r in
          read_then (verdict.Faulted k) 1 (record m { live = live; ahead = v; ended = e }) g
          (faulted read_ahead live x.form x.buf x.next k (here ∙ ap Some x.is) (λ more end. none.reads (meaning_of x.form) more end) f)

-- the line that was found was not taken
pub read_untaken : (m : Machine) (v : Vec ℕ Global) (e : Bool) (n : Machine) (s t : SourceState) (sink : SinkState) (budget : ℕ) (x : RunStop) → m.live.out.bytes.items ≡ [] → Gathered m.ahead.items m.ended s v.items e t → Untaken (ahead_of m v e) x n → Ran m s sink budget n t sink (Err x)
read_untaken m v e n s t sink budget (stop.Fault k) empty g u = read_then m v e s t sink empty (verdict.Faulted k) 1 n g u
read_untaken m v e n s t sink budget stop.Memory empty g u = (read_then m v e s t sink empty verdict.Held 0 n g u.0, read_memory_due n u.1)
read_untaken m v e n s t sink budget stop.Spent empty g u = absurd u
read_untaken m v e n s t sink budget (stop.Stuck c k) empty g u = absurd u
read_untaken m v e n s t sink budget stop.ReadFault empty g u = absurd u
read_untaken m v e n s t sink budget stop.WriteFault empty g u = absurd u
