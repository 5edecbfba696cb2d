-- Paths of the machine, and what a piece of code does.
use Rattle.std.proofs.Common.{◌≡◌, ℕ, zero, suc, ◌+◌, ◌*◌, ◌<◌, ◌≤◌, List, [], ◌∷◌, ◌++◌, ◌⊎◌, inl, inr, refl, sym, ap, ◌∙◌, subst, arith, append_assoc, append-nil, ℤ, Bool, true, false, cond}
use Rattle.std.specs.Prelude.{Option, Some, None, map, pos, ◌^◌, length, replicate, slice_get, slice_set, encode_utf8}
use Rattle.aplc_scalar.specs.Scalar.{int_eq}
use Rattle.aplc_scalar.specs.Input.{Line, Unread, input_line, number_line}
use Rattle.aplc_scalar.specs.declared.kind.FaultKind.{FaultKind}
use Rattle.aplc_scalar.specs.declared.kind.FaultKind.TheVariants as fault
use Rattle.aplc_cprof.specs.declared.syntax.Int.{Int}
use Rattle.aplc_cprof.specs.declared.syntax.Int.TheVariants as int
use Rattle.aplc_cprof.specs.declared.syntax.Buf.{Buf}
use Rattle.aplc_cprof.specs.declared.syntax.Buf.TheVariants as buf
use Rattle.aplc_cprof.specs.declared.syntax.Arm.{Arm}
use Rattle.aplc_cprof.specs.declared.syntax.CFunction.{CFunction}
use Rattle.aplc_cprof.specs.declared.syntax.CProgram.{CProgram}
use Rattle.aplc_cprof.specs.declared.syntax.Checked.{Checked}
use Rattle.aplc_cprof.specs.declared.syntax.StuckCause.{StuckCause}
use Rattle.aplc_cprof.specs.declared.syntax.CExpr.{CExpr}
use Rattle.aplc_cprof.specs.declared.syntax.CStmt.{CStmt}
use Rattle.aplc_cprof.specs.declared.syntax.CStmt.TheVariants as stmt
use Rattle.aplc_cprof.specs.Machine.{total, size, numbered, numbered_if, is_zero, chosen, read_int, named_buf, buf_or_null, set_buf, text_width, code_of, initial, first_body, bodies_from, no_ints, no_bufs, Place, all_places, most_places, placed, deeper, Todo, Code, State, Is, Bad, Going, Ended, Faulted, ranged, exact, set_int, with_line, padded_text, is_scalar, value, settled, step, and_then, run}
use Rattle.aplc_cprof.specs.Behaviour.{shown, behaviour}
use Rattle.aplc_cprof.specs.Behaviour as standing
use Rattle.aplc_cprof.proofs.Values.{value_todo}
use Rattle.aplc_cprof.proofs.Runs.{step_Set, step_Check, step_Check_limit, step_PutNum, step_PutChar, step_At, step_Enter, step_Leave, step_Fault, step_If, step_While, step_Width, step_ReadText, step_ReadText_fault, step_ReadNums, step_ReadNums_fault, step_ReadCount, step_SetBuf, step_Cells, step_SetCell, step_Free, step_Free_null, step_Switch, step_Call, step_leave, step_end}

-- numbers run on from one piece of code to the next
pub numbered-append : (n : ℕ) (a b : List CStmt) → numbered n (a ++ b) ≡ numbered n a ++ numbered (n + total (map size a)) b
numbered-append n [] b = ap (λ m. numbered m b) (omega arith)
numbered-append n (s ∷ a) b =
    let m : n + size s + total (map size a) ≡ n + (size s + total (map size a)) = omega arith in
    ap (λ r. (n, s) ∷ r) (numbered-append (n + size s) a b ∙ ap (λ m. numbered (n + size s) a ++ numbered m b) m)

-- the statements of an if where its condition is 0
abbrev pub other_part : Option (List CStmt) → List CStmt
other_part None = []
other_part (Some b) = b

pub numbered_other : (n : ℕ) (o : Option (List CStmt)) → numbered n (other_part o) ≡ numbered_if n o
numbered_other n None = refl
numbered_other n (Some b) = refl

set_todo : (x : Int) (v : ℤ) (s : State) (todo rest : Todo) → record (set_int x v (record s { todo = todo })) { todo = rest } ≡ record (set_int x v s) { todo = rest }
set_todo (int.Local k) v s todo rest = refl
set_todo (int.Global k) v s todo rest = refl

set_due : (x : Int) (v : ℤ) (s : State) (rest : Todo) → (record (set_int x v s) { todo = rest }).todo ≡ rest
set_due (int.Local k) v s rest = refl
set_due (int.Global k) v s rest = refl

named_todo : (p : Buf) (s : State) (todo : Todo) → named_buf p (record s { todo = todo }) ≡ named_buf p s
named_todo (buf.Local k) s todo = refl
named_todo (buf.Global k) s todo = refl

null_todo : (q : Option Buf) (s : State) (todo : Todo) → buf_or_null q (record s { todo = todo }) ≡ buf_or_null q s
null_todo None s todo = refl
null_todo (Some q) s todo = named_todo q s todo

pub read_todo : (x : Int) (s : State) (todo : Todo) → read_int x (record s { todo = todo }) ≡ read_int x s
read_todo (int.Local k) s todo = refl
read_todo (int.Global k) s todo = refl

buf_todo : (p : Buf) (b : Option ℕ) (s : State) (todo rest : Todo) → record (set_buf p b (record s { todo = todo })) { todo = rest } ≡ record (set_buf p b s) { todo = rest }
buf_todo (buf.Local k) b s todo rest = refl
buf_todo (buf.Global k) b s todo rest = refl

buf_due : (p : Buf) (b : Option ℕ) (s : State) (rest : Todo) → (record (set_buf p b s) { todo = rest }).todo ≡ rest
buf_due (buf.Local k) b s rest = refl
buf_due (buf.Global k) b s rest = refl

-- the statements of a switch at a number
abbrev pub picked : ℤ → List Arm → List CStmt → List CStmt
picked v [] d = d
picked v (a ∷ arms) d = cond (int_eq v a.value) a.body (picked v arms d)

pub chosen_is : (v : ℤ) (n : ℕ) (arms : List Arm) (d : List CStmt) → (m : ℕ) × (chosen v n arms d ≡ numbered m (picked v arms d))
chosen_is v n [] d = (n, refl)
chosen_is v n (a ∷ arms) d = by_test (int_eq v a.value) (chosen_is v (n + total (map size a.body)) arms d)
  where
    by_test : (b : Bool) → (m : ℕ) × (chosen v (n + total (map size a.body)) arms d ≡ numbered m (picked v arms d)) → (m : ℕ) × (cond b (numbered n a.body) (chosen v (n + total (map size a.body)) arms d) ≡ numbered m (cond b a.body (picked v arms d)))
    by_test true h = (n, refl)
    by_test false h = h

module _ (c : Code) where
  -- k steps, after each of which Q holds
  abbrev pub Path : (State → Type 0) → ℕ → State → State → Type 0
  Path Q zero s t = s ≡ t
  Path Q (suc k) s t = (u : State) × (step c s ≡ Going u) × Q u × Path Q k u t

  -- a path of which more holds is one of which less does
  pub weaken : (Q R : State → Type 0) → ((u : State) → Q u → R u) → (k : ℕ) (s t : State) → Path Q k s t → Path R k s t
  weaken Q R f zero s t p = p
  weaken Q R f (suc k) s t (u, h, q, p) = (u, h, f u q, weaken Q R f k u t p)

  -- one path after another
  pub path_then : (Q : State → Type 0) (j k : ℕ) (s t u : State) → Path Q j s t → Path Q k t u → Path Q (j + k) s u
  path_then Q zero k s t u p r =
      let n : k ≡ 0 + k = omega arith in
      subst (λ n. Path Q n s u) n (subst (λ s. Path Q k s u) (sym p) r)
  path_then Q (suc j) k s t u (v, h, q, p) r =
      let n : suc (j + k) ≡ suc j + k = omega arith in
      subst (λ n. Path Q n s u) n (v, h, q, path_then Q j k v t u p r)

  -- a path moves the machine on by just its number of steps
  pub run-path : (Q : State → Type 0) (k : ℕ) (s t : State) → Path Q k s t → (n : ℕ) → run c (k + n) s ≡ run c n t
  run-path Q zero s t p n =
      let e : 0 + n ≡ n = omega arith in
      ap (λ m. run c m s) e ∙ ap (run c n) p
  run-path Q (suc k) s t (u, h, q, p) n =
      let m : suc k + n ≡ suc (k + n) = omega arith in
      ap (λ m. run c m s) m ∙ ap (λ x. and_then x (run c (k + n))) h ∙ run-path Q k u t p n

  -- after any number of steps on a path the machine goes on, and Q holds
  pub path_at : (Q : State → Type 0) (k : ℕ) (s t : State) → Path Q k s t → Q s → (m : ℕ) → m ≤ k → (u : State) × (run c m s ≡ Going u) × Q u
  path_at Q zero s t p q zero le = (s, refl, q)
  path_at Q zero s t p q (suc m) le = absurd (omega (arith, le))
  path_at Q (suc k) s t (u, h, qu, p) q zero le = (s, refl, q)
  path_at Q (suc k) s t (u, h, qu, p) q (suc m) le =
      let r = path_at Q k u t p qu m (omega (arith, le)) in
      (r.0, ap (λ x. and_then x (run c m)) h ∙ r.1, r.2)

  -- comes in at most k steps to where `rest` is still to do
  pub record Arrives (Q : State → Type 0) (k : ℕ) (s : State) (rest : Todo) (Post : State → Type 0) : Type 0 where
    pub steps : ℕ
    pub within : steps ≤ k
    pub to : State
    pub path : Path Q steps s to
    pub due : to.todo ≡ rest
    pub post : Post to

  -- comes in at most k steps to where the next one faults
  pub record Fails (Q : State → Type 0) (k : ℕ) (s : State) (Fail : FaultKind → State → Type 0) : Type 0 where
    pub steps : ℕ
    pub within : steps ≤ k
    pub at : State
    pub path : Path Q steps s at
    pub kind : FaultKind
    pub faults : step c at ≡ Faulted kind (settled at)
    pub fail : Fail kind at

  abbrev pub Led : (Q : State → Type 0) → ℕ → State → Todo → (State → Type 0) → (FaultKind → State → Type 0) → Type 0
  Led Q k s rest Post Fail = Arrives Q k s rest Post ⊎ Fails Q k s Fail

  -- what a piece of code does from a state, whatever its first number is and whatever follows it
  pub record Does (Q : State → Type 0) (k : ℕ) (code : List CStmt) (s : State) (Post : State → Type 0) (Fail : FaultKind → State → Type 0) : Type 0 where
    pub by : (n : ℕ) (rest : Todo) → Led Q k (record s { todo = numbered n code ++ rest }) rest Post Fail

  -- a path, and then what comes of its end
  pub led_after : (Q : State → Type 0) (j k m : ℕ) (s t : State) (rest : Todo) (Post : State → Type 0) (Fail : FaultKind → State → Type 0) → Path Q j s t → j + k ≤ m → Led Q k t rest Post Fail → Led Q m s rest Post Fail
  led_after Q j k m s t rest Post Fail p le (inl a) =
      inl record { steps = j + a.steps; within = omega (arith, a.within, le); to = a.to; path = path_then Q j a.steps s t a.to p a.path; due = a.due; post = a.post }
  led_after Q j k m s t rest Post Fail p le (inr f) =
      inr record { steps = j + f.steps; within = omega (arith, f.within, le); at = f.at; path = path_then Q j f.steps s t f.at p f.path; kind = f.kind; faults = f.faults; fail = f.fail }

  led_weaken : (Q R : State → Type 0) (j k : ℕ) (s : State) (rest : Todo) (Post Post' : State → Type 0) (Fail Fail' : FaultKind → State → Type 0) → ((u : State) → Q u → R u) → ((u : State) → Post u → Post' u) → ((f : FaultKind) (u : State) → Fail f u → Fail' f u) → j ≤ k → Led Q j s rest Post Fail → Led R k s rest Post' Fail'
  led_weaken Q R j k s rest Post Post' Fail Fail' q p f le (inl a) =
      inl record { steps = a.steps; within = omega (arith, a.within, le); to = a.to; path = weaken Q R q a.steps s a.to a.path; due = a.due; post = p a.to a.post }
  led_weaken Q R j k s rest Post Post' Fail Fail' q p f le (inr x) =
      inr record { steps = x.steps; within = omega (arith, x.within, le); at = x.at; path = weaken Q R q x.steps s x.at x.path; kind = x.kind; faults = x.faults; fail = f x.kind x.at x.fail }

  -- more steps, and less of what holds on the way, at the end and at a fault
  pub does_weaken : (Q R : State → Type 0) (j k : ℕ) (code : List CStmt) (s : State) (Post Post' : State → Type 0) (Fail Fail' : FaultKind → State → Type 0) → ((u : State) → Q u → R u) → ((u : State) → Post u → Post' u) → ((f : FaultKind) (u : State) → Fail f u → Fail' f u) → j ≤ k → Does Q j code s Post Fail → Does R k code s Post' Fail'
  does_weaken Q R j k code s Post Post' Fail Fail' q p f le d =
      record { by = λ n rest. led_weaken Q R j k (record s { todo = numbered n code ++ rest }) rest Post Post' Fail Fail' q p f le (d.by n rest) }

  -- no code does nothing
  pub does_none : (Q : State → Type 0) (s : State) (Post : State → Type 0) (Fail : FaultKind → State → Type 0) → ((todo : Todo) → Post (record s { todo = todo })) → Does Q 0 [] s Post Fail
  does_none Q s Post Fail post =
      record { by = λ n rest. inl record { steps = 0; within = omega arith; to = record s { todo = rest }; path = refl; due = refl; post = post rest } }

  -- what a state comes to, where it is known what is still to do there
  led_due : (Q : State → Type 0) (k : ℕ) (t : State) (todo rest : Todo) (Post : State → Type 0) (Fail : FaultKind → State → Type 0) → t.todo ≡ todo → Led Q k (record t { todo = todo }) rest Post Fail → Led Q k t rest Post Fail
  led_due Q k t todo rest Post Fail h d =
      let e : t ≡ record t { todo = todo } = ap (λ (l : Todo). record t { todo = l }) h in
      subst (λ (u : State). Led Q k u rest Post Fail) (sym e) d

  -- one piece of code after another
  pub does_then : (Q : State → Type 0) (j k : ℕ) (a b : List CStmt) (s : State) (Mid Post : State → Type 0) (Fail : FaultKind → State → Type 0) → Does Q j a s Mid Fail → ((t : State) → Mid t → Does Q k b t Post Fail) → Does Q (j + k) (a ++ b) s Post Fail
  does_then Q j k a b s Mid Post Fail da db =
      record {
        by = λ n rest.
            let m = n + total (map size a) in
            let e : numbered n a ++ (numbered m b ++ rest) ≡ numbered n (a ++ b) ++ rest = sym (append_assoc (numbered n a) (numbered m b) rest) ∙ ap (λ l. l ++ rest) (sym (numbered-append n a b)) in
            subst (λ (l : Todo). Led Q (j + k) (record s { todo = l }) rest Post Fail) e (join m rest (record s { todo = numbered n a ++ (numbered m b ++ rest) }) (da.by n (numbered m b ++ rest)));
      }
    where
      join : (m : ℕ) (rest : Todo) (from : State) → Led Q j from (numbered m b ++ rest) Mid Fail → Led Q (j + k) from rest Post Fail
      join m rest from (inl x) =
          led_after Q x.steps k (j + k) from x.to rest Post Fail x.path (omega (arith, x.within)) (led_due Q k x.to (numbered m b ++ rest) rest Post Fail x.due ((db x.to x.post).by m rest))
      join m rest from (inr f) =
          inr record { steps = f.steps; within = omega (arith, f.within); at = f.at; path = f.path; kind = f.kind; faults = f.faults; fail = f.fail }

  -- what one step on comes to
  led_step : (Q : State → Type 0) (k m : ℕ) (s t : State) (rest : Todo) (Post : State → Type 0) (Fail : FaultKind → State → Type 0) → step c s ≡ Going t → Q t → 1 + k ≤ m → Led Q k t rest Post Fail → Led Q m s rest Post Fail
  led_step Q k m s t rest Post Fail h q le d = led_after Q 1 k m s t rest Post Fail (t, h, q, refl) le d

  -- a statement that steps on
  pub does_one : (Q : State → Type 0) (st : CStmt) (s : State) (Post : State → Type 0) (Fail : FaultKind → State → Type 0) → ((n : ℕ) (rest : Todo) → (t : State) × (step c (record s { todo = (n, st) ∷ rest }) ≡ Going t) × (t.todo ≡ rest) × Q t × Post t) → Does Q 1 (st ∷ []) s Post Fail
  does_one Q st s Post Fail goes =
      record { by = λ n rest. let g = goes n rest in inl record { steps = 1; within = omega arith; to = g.0; path = (g.0, g.1, g.3, refl); due = g.2; post = g.4 } }

  -- a statement that faults
  pub does_fault : (Q : State → Type 0) (st : CStmt) (s : State) (Post : State → Type 0) (Fail : FaultKind → State → Type 0) (kind : FaultKind) → ((n : ℕ) (rest : Todo) → step c (record s { todo = (n, st) ∷ rest }) ≡ Faulted kind (settled (record s { todo = (n, st) ∷ rest }))) → ((todo : Todo) → Fail kind (record s { todo = todo })) → Does Q 0 (st ∷ []) s Post Fail
  does_fault Q st s Post Fail kind faults fail =
      record { by = λ n rest. inr record { steps = 0; within = omega arith; at = record s { todo = (n, st) ∷ rest }; path = refl; kind = kind; faults = faults n rest; fail = fail ((n, st) ∷ rest) } }

  -- a statement that steps on to a state of which it is known what it is
  pub does_step : (Q : State → Type 0) (st : CStmt) (s : State) (Post : State → Type 0) (Fail : FaultKind → State → Type 0) (to : Todo → State) → ((n : ℕ) (rest : Todo) → step c (record s { todo = (n, st) ∷ rest }) ≡ Going (to rest)) → ((rest : Todo) → (to rest).todo ≡ rest) → ((rest : Todo) → Q (to rest)) → ((rest : Todo) → Post (to rest)) → Does Q 1 (st ∷ []) s Post Fail
  does_step Q st s Post Fail to goes due q post = does_one Q st s Post Fail (λ n rest. (to rest, goes n rest, due rest, q rest, post rest))

  -- a variable is set to the value
  pub does_Set : (Q : State → Type 0) (x : Int) (e : CExpr) (s : State) (Post : State → Type 0) (Fail : FaultKind → State → Type 0) (v : ℤ) → value e c.tables s ≡ Is v → ((rest : Todo) → Q (settled (record (set_int x v s) { todo = rest }))) → ((rest : Todo) → Post (settled (record (set_int x v s) { todo = rest }))) → Does Q 1 (stmt.Set x e ∷ []) s Post Fail
  does_Set Q x e s Post Fail v is =
      does_step Q (stmt.Set x e) s Post Fail (λ rest. settled (record (set_int x v s) { todo = rest }))
      (λ n rest. let todo : Todo = (n, stmt.Set x e) ∷ rest in
      step_Set c n x e rest (record s { todo = todo }) v refl (value_todo e c.tables s todo ∙ is) ∙ ap (λ (t : State). Going (settled t)) (set_todo x v s todo rest))
      (set_due x v s)

  -- checked arithmetic whose result is in range sets the variable
  pub does_Check : (Q : State → Type 0) (x : Int) (o : Checked) (e f : CExpr) (s : State) (Post : State → Type 0) (Fail : FaultKind → State → Type 0) (a b v : ℤ) → value e c.tables s ≡ Is a → value f c.tables s ≡ Is b → ranged (exact o a b) ≡ Is v → ((rest : Todo) → Q (settled (record (set_int x v s) { todo = rest }))) → ((rest : Todo) → Post (settled (record (set_int x v s) { todo = rest }))) → Does Q 1 (stmt.Check x o e f ∷ []) s Post Fail
  does_Check Q x o e f s Post Fail a b v is_a is_b is =
      does_step Q (stmt.Check x o e f) s Post Fail (λ rest. settled (record (set_int x v s) { todo = rest }))
      (λ n rest. let todo : Todo = (n, stmt.Check x o e f) ∷ rest in
      step_Check c n x o e f rest (record s { todo = todo }) a b v refl (value_todo e c.tables s todo ∙ is_a) (value_todo f c.tables s todo ∙ is_b) is ∙ ap (λ (t : State). Going (settled t)) (set_todo x v s todo rest))
      (set_due x v s)

  -- checked arithmetic whose result is out of range faults
  pub does_Check_limit : (Q : State → Type 0) (x : Int) (o : Checked) (e f : CExpr) (s : State) (Post : State → Type 0) (Fail : FaultKind → State → Type 0) (a b : ℤ) (why : StuckCause) → value e c.tables s ≡ Is a → value f c.tables s ≡ Is b → ranged (exact o a b) ≡ Bad why → ((todo : Todo) → Fail fault.Limit (record s { todo = todo })) → Does Q 0 (stmt.Check x o e f ∷ []) s Post Fail
  does_Check_limit Q x o e f s Post Fail a b why is_a is_b is =
      does_fault Q (stmt.Check x o e f) s Post Fail fault.Limit
      (λ n rest. let todo : Todo = (n, stmt.Check x o e f) ∷ rest in
      step_Check_limit c n x o e f rest (record s { todo = todo }) a b why refl (value_todo e c.tables s todo ∙ is_a) (value_todo f c.tables s todo ∙ is_b) is)

  -- a number is printed, right-justified to a width of at most 20
  pub does_PutNum : (Q : State → Type 0) (e f : CExpr) (s : State) (Post : State → Type 0) (Fail : FaultKind → State → Type 0) (v : ℤ) (w : ℕ) → value e c.tables s ≡ Is v → value f c.tables s ≡ Is (pos w) → w ≤ 20 → ((rest : Todo) → Q (settled (record s { todo = rest; output = s.output ++ padded_text v w }))) → ((rest : Todo) → Post (settled (record s { todo = rest; output = s.output ++ padded_text v w }))) → Does Q 1 (stmt.PutNum e f ∷ []) s Post Fail
  does_PutNum Q e f s Post Fail v w is_v is_w le =
      does_step Q (stmt.PutNum e f) s Post Fail (λ rest. settled (record s { todo = rest; output = s.output ++ padded_text v w }))
      (λ n rest. let todo : Todo = (n, stmt.PutNum e f) ∷ rest in
      step_PutNum c n e f rest (record s { todo = todo }) v w refl (value_todo e c.tables s todo ∙ is_v) (value_todo f c.tables s todo ∙ is_w) le)
      (λ rest. refl)

  -- a scalar value is printed as its UTF-8 bytes
  pub does_PutChar : (Q : State → Type 0) (e : CExpr) (s : State) (Post : State → Type 0) (Fail : FaultKind → State → Type 0) (k : ℕ) → value e c.tables s ≡ Is (pos k) → is_scalar k ≡ true → ((rest : Todo) → Q (settled (record s { todo = rest; output = s.output ++ encode_utf8 k }))) → ((rest : Todo) → Post (settled (record s { todo = rest; output = s.output ++ encode_utf8 k }))) → Does Q 1 (stmt.PutChar e ∷ []) s Post Fail
  does_PutChar Q e s Post Fail k is scalar =
      does_step Q (stmt.PutChar e) s Post Fail (λ rest. settled (record s { todo = rest; output = s.output ++ encode_utf8 k }))
      (λ n rest. let todo : Todo = (n, stmt.PutChar e) ∷ rest in step_PutChar c n e rest (record s { todo = todo }) k refl (value_todo e c.tables s todo ∙ is) scalar)
      (λ rest. refl)

  -- the innermost place is set, and leaves a mark
  pub does_At : (Q : State → Type 0) (name : List ℕ) (l : ℤ) (s : State) (Post : State → Type 0) (Fail : FaultKind → State → Type 0) → ((rest : Todo) → Q (settled (record (placed (record { name = name; line = l }) s) { todo = rest }))) → ((rest : Todo) → Post (settled (record (placed (record { name = name; line = l }) s) { todo = rest }))) → Does Q 1 (stmt.At name l ∷ []) s Post Fail
  does_At Q name l s Post Fail =
      does_step Q (stmt.At name l) s Post Fail (λ rest. settled (record (placed (record { name = name; line = l }) s) { todo = rest }))
      (λ n rest. step_At c n name l rest (record s { todo = (n, stmt.At name l) ∷ rest }) refl)
      (λ rest. refl)

  -- an empty place before the others, where fewer than 4,096 stand
  pub does_Enter : (Q : State → Type 0) (s : State) (Post : State → Type 0) (Fail : FaultKind → State → Type 0) → length (all_places s.places) < most_places → ((rest : Todo) → Q (settled (record s { todo = rest; places = deeper s.places }))) → ((rest : Todo) → Post (settled (record s { todo = rest; places = deeper s.places }))) → Does Q 1 (stmt.Enter ∷ []) s Post Fail
  does_Enter Q s Post Fail lt =
      does_step Q stmt.Enter s Post Fail (λ rest. settled (record s { todo = rest; places = deeper s.places }))
      (λ n rest. step_Enter c n rest (record s { todo = (n, stmt.Enter) ∷ rest }) refl lt)
      (λ rest. refl)

  -- the innermost place goes, where it is not the last
  pub does_Leave : (Q : State → Type 0) (s : State) (Post : State → Type 0) (Fail : FaultKind → State → Type 0) (p : Place) (ps : List Place) → s.places.behind ≡ p ∷ ps → ((rest : Todo) → Q (settled (record s { todo = rest; places = record { here = p; behind = ps } }))) → ((rest : Todo) → Post (settled (record s { todo = rest; places = record { here = p; behind = ps } }))) → Does Q 1 (stmt.Leave ∷ []) s Post Fail
  does_Leave Q s Post Fail p ps is =
      does_step Q stmt.Leave s Post Fail (λ rest. settled (record s { todo = rest; places = record { here = p; behind = ps } }))
      (λ n rest. step_Leave c n rest (record s { todo = (n, stmt.Leave) ∷ rest }) p ps refl is)
      (λ rest. refl)

  -- a variable is set to the number of characters of a number's text
  pub does_Width : (Q : State → Type 0) (x : Int) (e : CExpr) (s : State) (Post : State → Type 0) (Fail : FaultKind → State → Type 0) (v : ℤ) → value e c.tables s ≡ Is v → ((rest : Todo) → Q (settled (record (set_int x (pos (text_width v)) s) { todo = rest }))) → ((rest : Todo) → Post (settled (record (set_int x (pos (text_width v)) s) { todo = rest }))) → Does Q 1 (stmt.Width x e ∷ []) s Post Fail
  does_Width Q x e s Post Fail v is =
      does_step Q (stmt.Width x e) s Post Fail (λ rest. settled (record (set_int x (pos (text_width v)) s) { todo = rest }))
      (λ n rest. let todo : Todo = (n, stmt.Width x e) ∷ rest in
      step_Width c n x e rest (record s { todo = todo }) v refl (value_todo e c.tables s todo ∙ is) ∙ ap (λ (t : State). Going (settled t)) (set_todo x (pos (text_width v)) s todo rest))
      (set_due x (pos (text_width v)) s)

  -- a buffer variable is set to another's buffer, or to none
  pub does_SetBuf : (Q : State → Type 0) (p : Buf) (q : Option Buf) (s : State) (Post : State → Type 0) (Fail : FaultKind → State → Type 0) → ((rest : Todo) → Q (settled (record (set_buf p (buf_or_null q s) s) { todo = rest }))) → ((rest : Todo) → Post (settled (record (set_buf p (buf_or_null q s) s) { todo = rest }))) → Does Q 1 (stmt.SetBuf p q ∷ []) s Post Fail
  does_SetBuf Q p q s Post Fail =
      does_step Q (stmt.SetBuf p q) s Post Fail (λ rest. settled (record (set_buf p (buf_or_null q s) s) { todo = rest }))
      (λ n rest. let todo : Todo = (n, stmt.SetBuf p q) ∷ rest in
      step_SetBuf c n p q rest (record s { todo = todo }) refl
      ∙ ap (λ (b : Option ℕ). Going (settled (record (set_buf p b (record s { todo = todo })) { todo = rest }))) (null_todo q s todo)
      ∙ ap (λ (t : State). Going (settled t)) (buf_todo p (buf_or_null q s) s todo rest))
      (buf_due p (buf_or_null q s) s)

  -- the state with a new buffer of k cells, all 0
  abbrev pub with_cells : Buf → ℕ → State → State
  with_cells p k s = set_buf p (Some (length s.heap)) (record s { heap = s.heap ++ Some (replicate k (pos 0)) ∷ [] })

  -- a new buffer of fewer than 2 ^ 31 cells, all 0
  pub does_Cells : (Q : State → Type 0) (p : Buf) (e : CExpr) (s : State) (Post : State → Type 0) (Fail : FaultKind → State → Type 0) (k : ℕ) → value e c.tables s ≡ Is (pos k) → k < 2 ^ 31 → ((rest : Todo) → Q (settled (record (with_cells p k s) { todo = rest }))) → ((rest : Todo) → Post (settled (record (with_cells p k s) { todo = rest }))) → Does Q 1 (stmt.Cells p e ∷ []) s Post Fail
  does_Cells Q p e s Post Fail k is lt =
      let made : State = record s { heap = s.heap ++ Some (replicate k (pos 0)) ∷ [] } in
      does_step Q (stmt.Cells p e) s Post Fail (λ rest. settled (record (with_cells p k s) { todo = rest }))
      (λ n rest. let todo : Todo = (n, stmt.Cells p e) ∷ rest in
      step_Cells c n p e rest (record s { todo = todo }) k refl (value_todo e c.tables s todo ∙ is) lt ∙ ap (λ (t : State). Going (settled t)) (buf_todo p (Some (length s.heap)) made todo rest))
      (buf_due p (Some (length s.heap)) made)

  -- the next line is read as characters into a new buffer
  pub does_ReadText : (Q : State → Type 0) (p : Buf) (s : State) (Post : State → Type 0) (Fail : FaultKind → State → Type 0) (cells : List ℤ) (left : List ℕ) → input_line s.input ≡ Line cells left → ((rest : Todo) → Q (settled (record (with_line p cells left s) { todo = rest }))) → ((rest : Todo) → Post (settled (record (with_line p cells left s) { todo = rest }))) → Does Q 1 (stmt.ReadText p ∷ []) s Post Fail
  does_ReadText Q p s Post Fail cells left is =
      let read : State = record s { heap = s.heap ++ Some cells ∷ []; read_count = pos (length cells); input = left } in
      does_step Q (stmt.ReadText p) s Post Fail (λ rest. settled (record (with_line p cells left s) { todo = rest }))
      (λ n rest. let todo : Todo = (n, stmt.ReadText p) ∷ rest in
      step_ReadText c n p rest (record s { todo = todo }) cells left refl is ∙ ap (λ (t : State). Going (settled t)) (buf_todo p (Some (length s.heap)) read todo rest))
      (buf_due p (Some (length s.heap)) read)

  -- a line that can't be read as characters faults
  pub does_ReadText_fault : (Q : State → Type 0) (p : Buf) (s : State) (Post : State → Type 0) (Fail : FaultKind → State → Type 0) (k : FaultKind) → input_line s.input ≡ Unread k → ((todo : Todo) → Fail k (record s { todo = todo })) → Does Q 0 (stmt.ReadText p ∷ []) s Post Fail
  does_ReadText_fault Q p s Post Fail k is =
      does_fault Q (stmt.ReadText p) s Post Fail k (λ n rest. step_ReadText_fault c n p rest (record s { todo = (n, stmt.ReadText p) ∷ rest }) k refl is)

  -- the next line is read as numbers into a new buffer
  pub does_ReadNums : (Q : State → Type 0) (p : Buf) (s : State) (Post : State → Type 0) (Fail : FaultKind → State → Type 0) (cells : List ℤ) (left : List ℕ) → number_line s.input ≡ Line cells left → ((rest : Todo) → Q (settled (record (with_line p cells left s) { todo = rest }))) → ((rest : Todo) → Post (settled (record (with_line p cells left s) { todo = rest }))) → Does Q 1 (stmt.ReadNums p ∷ []) s Post Fail
  does_ReadNums Q p s Post Fail cells left is =
      let read : State = record s { heap = s.heap ++ Some cells ∷ []; read_count = pos (length cells); input = left } in
      does_step Q (stmt.ReadNums p) s Post Fail (λ rest. settled (record (with_line p cells left s) { todo = rest }))
      (λ n rest. let todo : Todo = (n, stmt.ReadNums p) ∷ rest in
      step_ReadNums c n p rest (record s { todo = todo }) cells left refl is ∙ ap (λ (t : State). Going (settled t)) (buf_todo p (Some (length s.heap)) read todo rest))
      (buf_due p (Some (length s.heap)) read)

  -- a line that can't be read as numbers faults
  pub does_ReadNums_fault : (Q : State → Type 0) (p : Buf) (s : State) (Post : State → Type 0) (Fail : FaultKind → State → Type 0) (k : FaultKind) → number_line s.input ≡ Unread k → ((todo : Todo) → Fail k (record s { todo = todo })) → Does Q 0 (stmt.ReadNums p ∷ []) s Post Fail
  does_ReadNums_fault Q p s Post Fail k is =
      does_fault Q (stmt.ReadNums p) s Post Fail k (λ n rest. step_ReadNums_fault c n p rest (record s { todo = (n, stmt.ReadNums p) ∷ rest }) k refl is)

  -- a variable is set to the count of the last read
  pub does_ReadCount : (Q : State → Type 0) (x : Int) (s : State) (Post : State → Type 0) (Fail : FaultKind → State → Type 0) → ((rest : Todo) → Q (settled (record (set_int x s.read_count s) { todo = rest }))) → ((rest : Todo) → Post (settled (record (set_int x s.read_count s) { todo = rest }))) → Does Q 1 (stmt.ReadCount x ∷ []) s Post Fail
  does_ReadCount Q x s Post Fail =
      does_step Q (stmt.ReadCount x) s Post Fail (λ rest. settled (record (set_int x s.read_count s) { todo = rest }))
      (λ n rest. let todo : Todo = (n, stmt.ReadCount x) ∷ rest in
      step_ReadCount c n x rest (record s { todo = todo }) refl ∙ ap (λ (t : State). Going (settled t)) (set_todo x s.read_count s todo rest))
      (set_due x s.read_count s)

  -- a cell of a buffer that is not freed is written
  pub does_SetCell : (Q : State → Type 0) (p : Buf) (e f : CExpr) (s : State) (Post : State → Type 0) (Fail : FaultKind → State → Type 0) (b : ℕ) (cells : List ℤ) (k : ℕ) (v : ℤ) → value e c.tables s ≡ Is (pos k) → value f c.tables s ≡ Is v → named_buf p s ≡ Some b → slice_get s.heap b ≡ Some (Some cells) → k < length cells → ((rest : Todo) → Q (settled (record s { todo = rest; heap = slice_set s.heap b (Some (slice_set cells k v)) }))) → ((rest : Todo) → Post (settled (record s { todo = rest; heap = slice_set s.heap b (Some (slice_set cells k v)) }))) → Does Q 1 (stmt.SetCell p e f ∷ []) s Post Fail
  does_SetCell Q p e f s Post Fail b cells k v is_k is_v is_b live lt =
      does_step Q (stmt.SetCell p e f) s Post Fail (λ rest. settled (record s { todo = rest; heap = slice_set s.heap b (Some (slice_set cells k v)) }))
      (λ n rest. let todo : Todo = (n, stmt.SetCell p e f) ∷ rest in
      step_SetCell c n p e f rest (record s { todo = todo }) b cells k v refl (value_todo e c.tables s todo ∙ is_k) (value_todo f c.tables s todo ∙ is_v) (named_todo p s todo ∙ is_b) live lt)
      (λ rest. refl)

  -- freeing null does nothing
  pub does_Free_null : (Q : State → Type 0) (p : Buf) (s : State) (Post : State → Type 0) (Fail : FaultKind → State → Type 0) → named_buf p s ≡ None → ((rest : Todo) → Q (settled (record s { todo = rest }))) → ((rest : Todo) → Post (settled (record s { todo = rest }))) → Does Q 1 (stmt.Free p ∷ []) s Post Fail
  does_Free_null Q p s Post Fail is =
      does_step Q (stmt.Free p) s Post Fail (λ rest. settled (record s { todo = rest }))
      (λ n rest. let todo : Todo = (n, stmt.Free p) ∷ rest in step_Free_null c n p rest (record s { todo = todo }) refl (named_todo p s todo ∙ is))
      (λ rest. refl)

  -- a buffer is freed
  pub does_Free : (Q : State → Type 0) (p : Buf) (s : State) (Post : State → Type 0) (Fail : FaultKind → State → Type 0) (b : ℕ) (cells : List ℤ) → named_buf p s ≡ Some b → slice_get s.heap b ≡ Some (Some cells) → ((rest : Todo) → Q (settled (record s { todo = rest; heap = slice_set s.heap b None }))) → ((rest : Todo) → Post (settled (record s { todo = rest; heap = slice_set s.heap b None }))) → Does Q 1 (stmt.Free p ∷ []) s Post Fail
  does_Free Q p s Post Fail b cells is live =
      does_step Q (stmt.Free p) s Post Fail (λ rest. settled (record s { todo = rest; heap = slice_set s.heap b None }))
      (λ n rest. let todo : Todo = (n, stmt.Free p) ∷ rest in step_Free c n p rest (record s { todo = todo }) b cells refl (named_todo p s todo ∙ is) live)
      (λ rest. refl)

  -- a fault faults
  pub does_Fault : (Q : State → Type 0) (k : FaultKind) (s : State) (Post : State → Type 0) (Fail : FaultKind → State → Type 0) → ((todo : Todo) → Fail k (record s { todo = todo })) → Does Q 0 (stmt.Fault k ∷ []) s Post Fail
  does_Fault Q k s Post Fail = does_fault Q (stmt.Fault k) s Post Fail k (λ n rest. step_Fault c n k rest (record s { todo = (n, stmt.Fault k) ∷ rest }) refl)

  -- an if whose condition is not 0 does its first part
  pub does_if : (Q : State → Type 0) (k : ℕ) (e : CExpr) (a : List CStmt) (o : Option (List CStmt)) (s : State) (Post : State → Type 0) (Fail : FaultKind → State → Type 0) (v : ℤ) → value e c.tables s ≡ Is v → is_zero v ≡ false → ((todo : Todo) → Q (settled (record s { todo = todo }))) → Does Q k a (settled s) Post Fail → Does Q (k + 1) (stmt.If e a o ∷ []) s Post Fail
  does_if Q k e a o s Post Fail v is test q d =
      record {
        by = λ n rest.
            let from : State = record s { todo = (n, stmt.If e a o) ∷ rest } in
            let inner = numbered (n + 1) a ++ rest in
            led_step Q k (k + 1) from (settled (record s { todo = inner })) rest Post Fail
            (step_If c n e a o rest from v false refl (value_todo e c.tables s ((n, stmt.If e a o) ∷ rest) ∙ is) test) (q inner) (omega arith) (d.by (n + 1) rest);
      }

  -- an if whose condition is 0 does its other part
  pub does_else : (Q : State → Type 0) (k : ℕ) (e : CExpr) (a : List CStmt) (o : Option (List CStmt)) (s : State) (Post : State → Type 0) (Fail : FaultKind → State → Type 0) (v : ℤ) → value e c.tables s ≡ Is v → is_zero v ≡ true → ((todo : Todo) → Q (settled (record s { todo = todo }))) → Does Q k (other_part o) (settled s) Post Fail → Does Q (k + 1) (stmt.If e a o ∷ []) s Post Fail
  does_else Q k e a o s Post Fail v is test q d =
      record {
        by = λ n rest.
            let from : State = record s { todo = (n, stmt.If e a o) ∷ rest } in
            let m = n + 1 + total (map size a) in
            let inner = numbered_if m o ++ rest in
            led_step Q k (k + 1) from (settled (record s { todo = inner })) rest Post Fail
            (step_If c n e a o rest from v true refl (value_todo e c.tables s ((n, stmt.If e a o) ∷ rest) ∙ is) test) (q inner) (omega arith)
            (subst (λ (l : Todo). Led Q k (record (settled s) { todo = l ++ rest }) rest Post Fail) (numbered_other m o) (d.by m rest));
      }

  -- a switch does the arm of the variable's number, or the default
  pub does_Switch : (Q : State → Type 0) (k : ℕ) (x : Int) (arms : List Arm) (d : List CStmt) (s : State) (Post : State → Type 0) (Fail : FaultKind → State → Type 0) (v : ℤ) → read_int x s ≡ Is v → ((todo : Todo) → Q (settled (record s { todo = todo }))) → Does Q k (picked v arms d) (settled s) Post Fail → Does Q (k + 1) (stmt.Switch x arms d ∷ []) s Post Fail
  does_Switch Q k x arms d s Post Fail v is q does =
      record {
        by = λ n rest.
            let todo : Todo = (n, stmt.Switch x arms d) ∷ rest in
            let from : State = record s { todo = todo } in
            let inner = chosen v (n + 1) arms d ++ rest in
            let m = chosen_is v (n + 1) arms d in
            led_step Q k (k + 1) from (settled (record s { todo = inner })) rest Post Fail
            (step_Switch c n x arms d rest from v refl (read_todo x s todo ∙ is)) (q inner) (omega arith)
            (subst (λ (l : Todo). Led Q k (record (settled s) { todo = l ++ rest }) rest Post Fail) (sym m.1) (does.by m.0 rest));
      }

  -- the condition of a while is 0, so the loop is over
  pub record Leaves (Q : State → Type 0) (e : CExpr) (s : State) (Post : State → Type 0) : Type 0 where
    pub test : ℤ
    pub is : value e c.tables s ≡ Is test
    pub over : is_zero test ≡ true
    pub way : (todo : Todo) → Q (settled (record s { todo = todo }))
    pub post : (todo : Todo) → Post (settled (record s { todo = todo }))

  -- the condition of a while is not 0, and the body does a turn
  pub record Turns (Q : State → Type 0) (b : ℕ) (e : CExpr) (body : List CStmt) (s : State) (After : State → Type 0) (Fail : FaultKind → State → Type 0) : Type 0 where
    pub test : ℤ
    pub is : value e c.tables s ≡ Is test
    pub more : is_zero test ≡ false
    pub way : (todo : Todo) → Q (settled (record s { todo = todo }))
    pub turn : Does Q b body (settled s) After Fail

  -- a loop that has n turns left where I n holds, each of at most b steps
  pub does_while : (Q : State → Type 0) (b : ℕ) (e : CExpr) (body : List CStmt) (I : ℕ → State → Type 0) (Post : State → Type 0) (Fail : FaultKind → State → Type 0) → ((s : State) → I 0 s → Leaves Q e s Post) → ((n : ℕ) (s : State) → I (suc n) s → Turns Q b e body s (I n) Fail) → (n : ℕ) (s : State) → I n s → Does Q (n * (b + 1) + 1) (stmt.While e body ∷ []) s Post Fail
  does_while Q b e body I Post Fail last turns zero s i =
      let l = last s i in
      record {
        by = λ n rest.
            let from : State = record s { todo = (n, stmt.While e body) ∷ rest } in
            inl record {
              steps = 1;
              within = omega arith;
              to = settled (record s { todo = rest });
              path = (settled (record s { todo = rest }), step_While c n e body rest from l.test true refl (value_todo e c.tables s ((n, stmt.While e body) ∷ rest) ∙ l.is) l.over, l.way rest, refl);
              due = refl;
              post = l.post rest;
            };
      }
  does_while Q b e body I Post Fail last turns (suc left) s i =
      let t = turns left s i in
      record {
        by = λ n rest.
            let loop : Todo = (n, stmt.While e body) ∷ rest in
            let from : State = record s { todo = loop } in
            let inner = numbered (n + 1) body ++ loop in
            led_step Q (b + (left * (b + 1) + 1)) (suc left * (b + 1) + 1) from (settled (record s { todo = inner })) rest Post Fail
            (step_While c n e body rest from t.test false refl (value_todo e c.tables s loop ∙ t.is) t.more) (t.way inner) (omega arith)
            (again n rest (settled (record s { todo = inner })) (λ u j. does_while Q b e body I Post Fail last turns left u j) (t.turn.by (n + 1) loop));
      }
    where
      again : (n : ℕ) (rest : Todo) (from : State) → ((u : State) → I left u → Does Q (left * (b + 1) + 1) (stmt.While e body ∷ []) u Post Fail) → Led Q b from ((n, stmt.While e body) ∷ rest) (I left) Fail → Led Q (b + (left * (b + 1) + 1)) from rest Post Fail
      again n rest from next (inl x) =
          led_after Q x.steps (left * (b + 1) + 1) (b + (left * (b + 1) + 1)) from x.to rest Post Fail x.path (omega (arith, x.within)) (led_due Q (left * (b + 1) + 1) x.to ((n, stmt.While e body) ∷ rest) rest Post Fail x.due ((next x.to x.post).by n rest))
      again n rest from next (inr f) =
          inr record { steps = f.steps; within = omega (arith, f.within); at = f.at; path = f.path; kind = f.kind; faults = f.faults; fail = f.fail }

  -- the state in a function that was called, with `rest` still to do after it
  abbrev pub called : State → Todo → Todo → State
  called s rest body = settled (record s { ints = no_ints; bufs = no_bufs; todo = body; callers = record { ints = s.ints; bufs = s.bufs; todo = rest } ∷ s.callers })

  -- the state after a function that was called from s and came to t
  abbrev pub returned : State → Todo → State → State
  returned s rest t = settled (record t { ints = s.ints; bufs = s.bufs; todo = rest; callers = s.callers })

  -- a call does what the function's body does, and takes a step before and one after it
  pub does_Call : (Q : State → Type 0) (k i m : ℕ) (body : List CStmt) (s : State) (Mid : Todo → State → Type 0) (Post : State → Type 0) (Fail : FaultKind → State → Type 0) → slice_get c.bodies i ≡ Some (numbered m body) → ((rest todo : Todo) → Q (called s rest todo)) → ((rest : Todo) → Does Q k body (called s rest []) (Mid rest) Fail) → ((rest : Todo) (t : State) → Mid rest t → (t.callers ≡ record { ints = s.ints; bufs = s.bufs; todo = rest } ∷ s.callers) × Q (returned s rest t) × Post (returned s rest t)) → Does Q (k + 2) (stmt.Call i ∷ []) s Post Fail
  does_Call Q k i m body s Mid Post Fail is enters d leaves =
      record {
        by = λ n rest.
            let from : State = record s { todo = (n, stmt.Call i) ∷ rest } in
            let inner = numbered m body in
            led_step Q (k + 1) (k + 2) from (called s rest inner) rest Post Fail (step_Call c n i inner rest from refl is) (enters rest inner) (omega arith)
            (back rest (called s rest inner) (subst (λ (l : Todo). Led Q k (called s rest l) [] (Mid rest) Fail) (append-nil inner) ((d rest).by m [])));
      }
    where
      back : (rest : Todo) (from : State) → Led Q k from [] (Mid rest) Fail → Led Q (k + 1) from rest Post Fail
      back rest from (inl x) =
          let l = leaves rest x.to x.post in
          inl record {
            steps = x.steps + 1;
            within = omega (arith, x.within);
            to = returned s rest x.to;
            path = path_then Q x.steps 1 from x.to (returned s rest x.to) x.path (returned s rest x.to, step_leave c x.to (record { ints = s.ints; bufs = s.bufs; todo = rest }) s.callers x.due l.0, l.1, refl);
            due = refl;
            post = l.2;
          }
      back rest from (inr f) =
          inr record { steps = f.steps; within = omega (arith, f.within); at = f.at; path = f.path; kind = f.kind; faults = f.faults; fail = f.fail }

  -- in at most k + 1 steps the run ends where Post holds, or faults where Fail holds
  pub record Closes (k : ℕ) (s : State) (Post : State → Type 0) (Fail : FaultKind → State → Type 0) : Type 0 where
    pub steps : ℕ
    pub within : steps ≤ k + 1
    pub at : State
    pub verdict : ((run c steps s ≡ Ended (settled at)) × Post at) ⊎ ((kind : FaultKind) × (run c steps s ≡ Faulted kind (settled at)) × Fail kind at)

  -- the body that is entered first, from its beginning to the end of the run
  pub does_closes : (Q : State → Type 0) (k : ℕ) (n : ℕ) (code : List CStmt) (s : State) (Post : State → Type 0) (Fail : FaultKind → State → Type 0) → s.todo ≡ numbered n code → ((t : State) → Post t → t.callers ≡ []) → Does Q k code s Post Fail → Closes k s Post Fail
  does_closes Q k n code s Post Fail h first d =
      let e : numbered n code ++ [] ≡ s.todo = append-nil (numbered n code) ∙ sym h in
      close (subst (λ (l : Todo). Led Q k (record s { todo = l }) [] Post Fail) e (d.by n []))
    where
      close : Led Q k s [] Post Fail → Closes k s Post Fail
      close (inl a) = record {
        steps = a.steps + 1;
        within = omega (arith, a.within);
        at = a.to;
        verdict = inl (run-path Q a.steps s a.to a.path 1 ∙ ap (λ x. and_then x (run c 0)) (step_end c a.to a.due (first a.to a.post)), a.post);
      }
      close (inr f) = record {
        steps = f.steps + 1;
        within = omega (arith, f.within);
        at = f.at;
        verdict = inr (f.kind, run-path Q f.steps s f.at f.path 1 ∙ ap (λ x. and_then x (run c 0)) f.faults, f.fail);
      }

-- a program's run shows its end where Post holds, or its fault where Fail holds, after at most k + 1 steps
pub record Shows (p : CProgram) (input : List ℕ) (k : ℕ) (Post : State → Type 0) (Fail : FaultKind → State → Type 0) : Type 0 where
  pub steps : ℕ
  pub within : steps ≤ k + 1
  pub at : State
  pub verdict : ((behaviour p input steps ≡ standing.Ended at.output at.marks) × Post at) ⊎ ((kind : FaultKind) × (behaviour p input steps ≡ standing.Faulted at.output at.marks kind at.places) × Fail kind at)

-- what the first function's body does is what the program shows
pub does_shows : (p : CProgram) (input : List ℕ) (f : CFunction) (fs : List CFunction) (Q : State → Type 0) (k : ℕ) (Post : State → Type 0) (Fail : FaultKind → State → Type 0) → p.functions ≡ f ∷ fs → ((t : State) → Post t → t.callers ≡ []) → Does (code_of p) Q k f.body (initial (code_of p) input) Post Fail → Shows p input k Post Fail
unfolding behaviour
does_shows p input f fs Q k Post Fail h first d =
    let c = code_of p in
    let r = does_closes c Q k 1 f.body (initial c input) Post Fail (ap (λ (l : List CFunction). first_body (bodies_from 1 l)) h) first d in
    record { steps = r.steps; within = r.within; at = r.at; verdict = shows r.steps r.at r.verdict }
  where
    shows : (m : ℕ) (t : State) → ((run (code_of p) m (initial (code_of p) input) ≡ Ended (settled t)) × Post t) ⊎ ((kind : FaultKind) × (run (code_of p) m (initial (code_of p) input) ≡ Faulted kind (settled t)) × Fail kind t) → ((behaviour p input m ≡ standing.Ended t.output t.marks) × Post t) ⊎ ((kind : FaultKind) × (behaviour p input m ≡ standing.Faulted t.output t.marks kind t.places) × Fail kind t)
    shows m t (inl v) = inl (ap shown v.0, v.1)
    shows m t (inr v) = inr (v.0, ap shown v.1, v.2)
