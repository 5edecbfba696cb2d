-- The clauses of same behaviour follow from one simulation, in one direction.
use Rattle.std.proofs.Common.{◌≡◌, ℕ, zero, suc, ◌+◌, ◌-◌, ◌≤◌, List, [], ◌∷◌, ◌++◌, ◌⊎◌, inl, inr, ⊎_elim, refl, sym, ap, ◌∙◌, subst, arith, append_assoc, append-nil, ℤ, pos, negsuc, Bool, true, false, cond}
use Rattle.std.specs.Prelude.{Option, Some, None, nat_lt, nat_le, length, ◌^◌, slice_get, encode_utf8}
use Rattle.std.proofs.lemmas.Bool.{cases_lt}
use Rattle.aplc_scalar.specs.Input.{InputLine, Line, Unread, input_line, number_line}
use Rattle.aplc_cprof.specs.declared.syntax.Int.{Int}
use Rattle.aplc_cprof.specs.declared.syntax.Int.TheVariants as int
use Rattle.aplc_cprof.specs.declared.syntax.Buf.{Buf}
use Rattle.aplc_cprof.specs.declared.syntax.Buf.TheVariants as buf
use Rattle.aplc_cprof.specs.declared.syntax.Arm.{Arm}
use Rattle.aplc_cprof.specs.declared.syntax.CStmt.{CStmt, out-CStmt}
use Rattle.aplc_cprof.specs.declared.syntax.CStmt.TheOpen.{CStmt-F}
use Rattle.aplc_cprof.specs.declared.syntax.CProgram.{CProgram}
use Rattle.aplc_cprof.specs.Machine.{Todo, Code, Caller, State, Value, Is, Bad, Next, value, ranged, exact, read_int, named_buf, buf_or_null, set_int, set_buf, onward, with_value, limit_or, padded_text, printed, put_number, put_character, is_scalar, new_cells, free_cells, free_named, write_place, write_live, write_cell, read_cells, enter, leave, Place, all_places, most_places, deeper, enter_place, leave_place, state_of, act, due, settled_next, step, and_then, run, code_of, initial}
use Rattle.aplc_cprof.specs.Machine as machine
use Rattle.aplc_cprof.specs.Behaviour.{Standing, Ended, Faulted, Going, Stuck, shown, behaviour, after, output, marks, IsGoing, IsStuck, IsPrefix, IsPartOf, Agrees, Alike}
use Rattle.aplc_cprof.proofs.Runs.{run_sum}

-- a list is a prefix of itself
pub prefix_refl : {A : Type 0} (xs : List A) → IsPrefix xs xs
prefix_refl xs = ([], sym (append-nil xs))

-- a prefix of a prefix is one
pub prefix_trans : {A : Type 0} (xs ys zs : List A) → IsPrefix xs ys → IsPrefix ys zs → IsPrefix xs zs
prefix_trans xs ys zs (a, p) (b, q) = (a ++ b, q ∙ ap (λ l. l ++ b) p ∙ append_assoc xs a b)

-- output and marks of a run are part of themselves, and a part of a part is one
pub part_refl : (r : Standing) → IsPartOf r r
part_refl r = record { output = prefix_refl (output r); marks = prefix_refl (marks r) }

pub part_trans : (r s t : Standing) → IsPartOf r s → IsPartOf s t → IsPartOf r t
part_trans r s t p q = record {
  output = prefix_trans (output r) (output s) (output t) p.output q.output;
  marks = prefix_trans (marks r) (marks s) (marks t) p.marks q.marks;
}

-- ---- What one step adds to output and marks.

-- output and marks of what a step comes to begin with the state's
abbrev pub Extends : State → Next → Type 0
Extends s x = IsPrefix s.output (output (shown x)) × IsPrefix s.marks (marks (shown x))

-- both as they were
kept : (s : State) → IsPrefix s.output s.output × IsPrefix s.marks s.marks
kept s = (prefix_refl s.output, prefix_refl s.marks)

extends_if : (s : State) (b : Bool) (x y : Next) → Extends s x → Extends s y → Extends s (cond b x y)
extends_if s true x y p q = p
extends_if s false x y p q = q

extends_value : (v : Value) (n : ℕ) (s : State) (go : ℤ → Next) → ((a : ℤ) → Extends s (go a)) → Extends s (with_value v n s go)
extends_value (Bad c) n s go p = kept s
extends_value (Is v) n s go p = p v

extends_limit : (v : Value) (s : State) (go : ℤ → Next) → ((a : ℤ) → Extends s (go a)) → Extends s (limit_or v s go)
extends_limit (Bad c) s go p = kept s
extends_limit (Is v) s go p = p v

extends_set : (x : Int) (v : ℤ) (rest : Todo) (s : State) → Extends s (onward rest (set_int x v s))
extends_set (int.Local k) v rest s = kept s
extends_set (int.Global k) v rest s = kept s

extends_set_buf : (p : Buf) (b : Option ℕ) (rest : Todo) (s : State) → Extends s (onward rest (set_buf p b s))
extends_set_buf (buf.Local k) b rest s = kept s
extends_set_buf (buf.Global k) b rest s = kept s

extends_printed : (text : List ℕ) (rest : Todo) (s : State) → Extends s (printed text rest s)
extends_printed text rest s = ((text, refl), prefix_refl s.marks)

extends_put : (v w : ℤ) (n : ℕ) (rest : Todo) (s : State) → Extends s (put_number v w n rest s)
extends_put v (pos w) n rest s = extends_if s (nat_le w 20) (printed (padded_text v w) rest s) (machine.Stuck _ n s) (extends_printed (padded_text v w) rest s) (kept s)
extends_put v (negsuc w) n rest s = kept s

extends_char : (v : ℤ) (n : ℕ) (rest : Todo) (s : State) → Extends s (put_character v n rest s)
extends_char (pos c) n rest s = extends_if s (is_scalar c) (printed (encode_utf8 c) rest s) (machine.Stuck _ n s) (extends_printed (encode_utf8 c) rest s) (kept s)
extends_char (negsuc c) n rest s = kept s

extends_cells : (p : Buf) (k : ℤ) (n : ℕ) (rest : Todo) (s : State) → Extends s (new_cells p k n rest s)
extends_cells (buf.Local i) (pos k) n rest s = extends_if s (nat_lt k (2 ^ 31)) _ (machine.Stuck _ n s) (kept s) (kept s)
extends_cells (buf.Global i) (pos k) n rest s = extends_if s (nat_lt k (2 ^ 31)) _ (machine.Stuck _ n s) (kept s) (kept s)
extends_cells (buf.Local i) (negsuc k) n rest s = kept s
extends_cells (buf.Global i) (negsuc k) n rest s = kept s

extends_free_cells : (b : ℕ) (cells : Option (Option (List ℤ))) (n : ℕ) (rest : Todo) (s : State) → Extends s (free_cells b cells n rest s)
extends_free_cells b None n rest s = kept s
extends_free_cells b (Some None) n rest s = kept s
extends_free_cells b (Some (Some cells)) n rest s = kept s

extends_free : (b : Option ℕ) (n : ℕ) (rest : Todo) (s : State) → Extends s (free_named b n rest s)
extends_free None n rest s = kept s
extends_free (Some b) n rest s = extends_free_cells b (slice_get s.heap b) n rest s

extends_place : (b : ℕ) (cells : List ℤ) (k v : ℤ) (n : ℕ) (rest : Todo) (s : State) → Extends s (write_place b cells k v n rest s)
extends_place b cells (pos k) v n rest s = extends_if s (nat_lt k (length cells)) _ (machine.Stuck _ n s) (kept s) (kept s)
extends_place b cells (negsuc k) v n rest s = kept s

extends_live : (b : ℕ) (cells : Option (Option (List ℤ))) (k v : ℤ) (n : ℕ) (rest : Todo) (s : State) → Extends s (write_live b cells k v n rest s)
extends_live b None k v n rest s = kept s
extends_live b (Some None) k v n rest s = kept s
extends_live b (Some (Some cells)) k v n rest s = extends_place b cells k v n rest s

extends_write : (b : Option ℕ) (k v : ℤ) (n : ℕ) (rest : Todo) (s : State) → Extends s (write_cell b k v n rest s)
extends_write None k v n rest s = kept s
extends_write (Some b) k v n rest s = extends_live b (slice_get s.heap b) k v n rest s

extends_read : (p : Buf) (line : InputLine) (rest : Todo) (s : State) → Extends s (read_cells p line rest s)
extends_read (buf.Local i) (Line cells left) rest s = kept s
extends_read (buf.Global i) (Line cells left) rest s = kept s
extends_read p (Unread k) rest s = kept s

extends_enter : (body : Option Todo) (n : ℕ) (rest : Todo) (s : State) → Extends s (enter body n rest s)
extends_enter None n rest s = kept s
extends_enter (Some body) n rest s = kept s

extends_leave : (callers : List Caller) (s : State) → Extends s (leave callers s)
extends_leave [] s = kept s
extends_leave (c ∷ cs) s = kept s

extends_enter_place : (n : ℕ) (rest : Todo) (s : State) → Extends s (enter_place n rest s)
extends_enter_place n rest s = extends_if s (nat_lt (length (all_places s.places)) most_places) (onward rest (record s { places = deeper s.places })) (machine.Stuck _ n s) (kept s) (kept s)

extends_leave_place : (ps : List Place) (n : ℕ) (rest : Todo) (s : State) → Extends s (leave_place ps n rest s)
extends_leave_place [] n rest s = kept s
extends_leave_place (p ∷ ps) n rest s = kept s

pub act_extends : (c : Code) (form : CStmt-F CStmt Arm) (n : ℕ) (st : CStmt) (rest : Todo) (s : State) → Extends s (act c form n st rest s)
act_extends c (CStmt-F.Set x e) n st rest s = extends_value (value e c.tables s) n s _ (λ v. extends_set x v rest s)
act_extends c (CStmt-F.SetCell p e f) n st rest s = extends_value (value e c.tables s) n s _ (λ k. extends_value (value f c.tables s) n s _ (λ v. extends_write (named_buf p s) k v n rest s))
act_extends c (CStmt-F.SetBuf p q) n st rest s = extends_set_buf p (buf_or_null q s) rest s
act_extends c (CStmt-F.Cells p e) n st rest s = extends_value (value e c.tables s) n s _ (λ k. extends_cells p k n rest s)
act_extends c (CStmt-F.Free p) n st rest s = extends_free (named_buf p s) n rest s
act_extends c (CStmt-F.Check x o e f) n st rest s =
    extends_value (value e c.tables s) n s _ (λ a. extends_value (value f c.tables s) n s _ (λ b. extends_limit (ranged (exact o a b)) s _ (λ v. extends_set x v rest s)))
act_extends c (CStmt-F.Width x e) n st rest s = extends_value (value e c.tables s) n s _ (λ v. extends_set x _ rest s)
act_extends c (CStmt-F.PutNum e f) n st rest s = extends_value (value e c.tables s) n s _ (λ v. extends_value (value f c.tables s) n s _ (λ w. extends_put v w n rest s))
act_extends c (CStmt-F.PutChar e) n st rest s = extends_value (value e c.tables s) n s _ (λ v. extends_char v n rest s)
act_extends c (CStmt-F.ReadText p) n st rest s = extends_read p (input_line s.input) rest s
act_extends c (CStmt-F.ReadNums p) n st rest s = extends_read p (number_line s.input) rest s
act_extends c (CStmt-F.ReadCount x) n st rest s = extends_set x s.read_count rest s
act_extends c (CStmt-F.At name l) n st rest s = (prefix_refl s.output, (record { name = name; line = l } ∷ [], refl))
act_extends c CStmt-F.Enter n st rest s = extends_enter_place n rest s
act_extends c CStmt-F.Leave n st rest s = extends_leave_place s.places.behind n rest s
act_extends c (CStmt-F.Fault k) n st rest s = kept s
act_extends c (CStmt-F.Call k) n st rest s = extends_enter (slice_get c.bodies k) n rest s
act_extends c CStmt-F.Return n st rest s = extends_leave s.callers s
act_extends c (CStmt-F.If e a o) n st rest s = extends_value (value e c.tables s) n s _ (λ v. kept s)
act_extends c (CStmt-F.While e a) n st rest s = extends_value (value e c.tables s) n s _ (λ v. kept s)
act_extends c (CStmt-F.Switch x arms d) n st rest s = extends_value (read_int x s) n s _ (λ v. kept s)

extends_settled : (s : State) (x : Next) → Extends s x → Extends s (settled_next x)
extends_settled s (machine.Going t) p = p
extends_settled s (machine.Ended t) p = p
extends_settled s (machine.Faulted k t) p = p
extends_settled s (machine.Stuck c n t) p = p

extends_due : (c : Code) (todo : Todo) (s : State) → Extends s (due c todo s)
extends_due c [] s = extends_leave s.callers s
extends_due c (item ∷ rest) s = act_extends c (out-CStmt item.1) item.0 item.1 rest s

-- a step keeps output and marks, or adds to their ends
pub step_extends : (c : Code) (s : State) → Extends s (step c s)
unfolding step
step_extends c s = extends_settled s (due c s.todo s) (extends_due c s.todo s)

extends_then : (s : State) (x : Next) (go : State → Next) → Extends s x → ((t : State) → Extends t (go t)) → Extends s (and_then x go)
extends_then s (machine.Going t) go p q = let r = q t in (prefix_trans s.output t.output (output (shown (go t))) p.0 r.0, prefix_trans s.marks t.marks (marks (shown (go t))) p.1 r.1)
extends_then s (machine.Ended t) go p q = p
extends_then s (machine.Faulted k t) go p q = p
extends_then s (machine.Stuck c n t) go p q = p

-- so does a run
pub run_extends : (c : Code) (k : ℕ) (s : State) → Extends s (run c k s)
run_extends c zero s = kept s
run_extends c (suc k) s = extends_then s (step c s) (run c k) (step_extends c s) (run_extends c k)

-- ---- What is known of every run.

-- what stands after so many steps: a run that is over stays as it is, and output and marks only grow
pub record IsMachine (c : ℕ → Standing) : Type 0 where
  pub stays : (m k : ℕ) → (IsGoing (c m) → ⊥) → c (m + k) ≡ c m
  pub grows : (m k : ℕ) → IsPartOf (c m) (c (m + k))

over_stays : (x : Next) (go : State → Next) → (IsGoing (shown x) → ⊥) → shown (and_then x go) ≡ shown x
over_stays (machine.Going s) go over = absurd (over tt)
over_stays (machine.Ended s) go over = refl
over_stays (machine.Faulted k s) go over = refl
over_stays (machine.Stuck c n s) go over = refl

next_grows : (x : Next) (go : State → Next) → ((t : State) → Extends t (go t)) → IsPartOf (shown x) (shown (and_then x go))
next_grows (machine.Going s) go p = let r = p s in record { output = r.0; marks = r.1 }
next_grows (machine.Ended s) go p = part_refl (shown (machine.Ended s))
next_grows (machine.Faulted k s) go p = part_refl (shown (machine.Faulted k s))
next_grows (machine.Stuck c n s) go p = part_refl (shown (machine.Stuck c n s))

-- the behaviour of a program is such a run
pub machine_of : (p : CProgram) (input : List ℕ) → IsMachine (behaviour p input)
unfolding behaviour
machine_of p input =
    let c = code_of p in
    let start = initial c input in
    record {
      stays = λ m k over. ap shown (run_sum c m k start) ∙ over_stays (run c m start) (run c k) over;
      grows = λ m k. subst (λ x. IsPartOf (shown (run c m start)) (shown x)) (sym (run_sum c m k start)) (next_grows (run c m start) (run c k) (run_extends c k));
    }

-- ---- The simulation.

-- after some number of steps the program has come to what the source has after n lines
pub record Follows (source c : ℕ → Standing) (n : ℕ) : Type 0 where
  pub steps : ℕ
  pub same : c steps ≡ source n

-- the source is never stuck, the program follows it, and where the source goes on for ever the program does too
pub record Simulates (source c : ℕ → Standing) : Type 0 where
  pub fine : (n : ℕ) → IsStuck (source n) → ⊥
  pub follows : (n : ℕ) → Follows source c n
  pub far : (m : ℕ) → (n : ℕ) × (IsGoing (source n) → m ≤ (follows n).steps)

going_or_over : (r : Standing) → IsGoing r ⊎ (IsGoing r → ⊥)
going_or_over (Going o ms) = inl tt
going_or_over (Ended o ms) = inr (λ h. h)
going_or_over (Faulted o ms k ps) = inr (λ h. h)
going_or_over (Stuck o ms c n) = inr (λ h. h)

stuck_is_over : (r : Standing) → IsStuck r → IsGoing r → ⊥
stuck_is_over (Going o ms) h g = h
stuck_is_over (Ended o ms) h g = h
stuck_is_over (Faulted o ms k ps) h g = h
stuck_is_over (Stuck o ms c n) h g = g

-- what stands agrees with the source, and is not stuck
abbrev Fits : Standing → Standing → Type 0
Fits r source = (IsStuck r → ⊥) × Agrees r source

module _ (source c : ℕ → Standing) (mc : IsMachine c) (sim : Simulates source c) where
  -- the program after m steps, where it is later as the source says
  earlier : (m k n : ℕ) → c (m + k) ≡ source n → Fits (c m) (source n)
  earlier m k n e =
      ⊎_elim
      (λ going. ((λ s. stuck_is_over (c m) s going), inr (going, subst (λ r. IsPartOf (c m) r) e (mc.grows m k))))
      (λ over. let same : source n ≡ c m = sym e ∙ mc.stays m k over in ((λ s. sim.fine n (subst IsStuck (sym same) s)), inl (over, same)))
      (going_or_over (c m))

  -- the program after more steps than it took to where the source was over
  later : (m k n : ℕ) → (IsGoing (source n) → ⊥) → c m ≡ source n → Fits (c (m + k)) (source n)
  later m k n over e =
      let same : source n ≡ c (m + k) = sym e ∙ sym (mc.stays m k (λ h. over (subst IsGoing e h))) in
      ((λ s. sim.fine n (subst IsStuck (sym same) s)), inl ((λ h. over (subst IsGoing (sym same) h)), same))

  -- the program after any number of steps, beside a source whose standing it comes to at j
  at_any : (m n j : ℕ) → (IsGoing (source n) → m ≤ j) → c j ≡ source n → Fits (c m) (source n)
  at_any m n j far e =
      ⊎_elim
      (λ lt. let k : j + (m - j) ≡ m = omega (arith, lt) in
      let over : IsGoing (source n) → ⊥ = λ h. let le = far h in omega (arith, lt, le) in
      subst (λ i. Fits (c i) (source n)) k (later j (m - j) n over e))
      (λ le. let k : j ≡ m + (j - m) = omega (arith, le) in earlier m (j - m) n (ap c (sym k) ∙ e))
      (cases_lt j m)

  fits : (m : ℕ) → (n : ℕ) × Fits (c m) (source n)
  fits m = let f = sim.far m in (f.0, at_any m f.0 (sim.follows f.0).steps f.1 (sim.follows f.0).same)

  -- a program that follows its source behaves like it
  pub alike : Alike source c
  alike = record {
    comes = λ n over. let f = sim.follows n in (f.steps, f.same);
    never_stuck = λ m s. let f = fits m in f.1.0 s;
    no_more = λ m. let f = fits m in (f.0, f.1.1);
    none_withheld = λ n. let f = sim.follows n in (f.steps, subst (λ r. IsPartOf (source n) r) (sym f.same) (part_refl (source n)));
  }

-- ---- What a run shows is told by its state.

shown_output : (x : Next) → output (shown x) ≡ (state_of x).output
shown_output (machine.Going s) = refl
shown_output (machine.Ended s) = refl
shown_output (machine.Faulted k s) = refl
shown_output (machine.Stuck c n s) = refl

shown_marks : (x : Next) → marks (shown x) ≡ (state_of x).marks
shown_marks (machine.Going s) = refl
shown_marks (machine.Ended s) = refl
shown_marks (machine.Faulted k s) = refl
shown_marks (machine.Stuck c n s) = refl

pub output_after : (p : CProgram) (input : List ℕ) (m : ℕ) → output (behaviour p input m) ≡ (after p input m).output
unfolding behaviour after
output_after p input m = shown_output (run (code_of p) m (initial (code_of p) input))

pub marks_after : (p : CProgram) (input : List ℕ) (m : ℕ) → marks (behaviour p input m) ≡ (after p input m).marks
unfolding behaviour after
marks_after p input m = shown_marks (run (code_of p) m (initial (code_of p) input))
