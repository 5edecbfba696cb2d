-- Rules of loops, with no bound on their turns.
-- A loop may be over, stop within a turn, or stop before one; how many turns there are need not be known.
use Rattle.std.proofs.Common.{◌≡◌, ℕ, zero, suc, ◌+◌, ◌<◌, ◌≤◌, List, [], ◌∷◌, ◌++◌, inl, inr, refl, sym, ◌∙◌, subst, arith, ℤ, Bool, true, false, cond}
use Rattle.aplc_cprof.specs.declared.syntax.Int.{Int}
use Rattle.aplc_cprof.specs.declared.syntax.Int.TheVariants as int
use Rattle.aplc_cprof.specs.declared.syntax.Arm.{Arm}
use Rattle.aplc_cprof.specs.declared.syntax.CExpr.{CExpr}
use Rattle.aplc_cprof.specs.declared.syntax.CStmt.{CStmt}
use Rattle.aplc_cprof.specs.declared.syntax.CStmt.TheVariants as stmt
use Rattle.aplc_cprof.specs.Machine.{numbered, is_zero, chosen, read_int, Todo, Code, State, Is, value, settled}
use Rattle.aplc_cprof.proofs.Values.{value_todo}
use Rattle.aplc_cprof.proofs.Runs.{step_While, step_Switch}
use Rattle.aplc_cprof.proofs.Paths.{chosen_is, picked}
use Rattle.aplc_cprof.proofs.Rules.{Comes, Reaches, Runs, comes_now, comes_step, comes_due, comes_runs}

read_settled : (x : Int) (s : State) (todo : Todo) → read_int x (settled (record s { todo = todo })) ≡ read_int x s
read_settled (int.Local k) s todo = refl
read_settled (int.Global k) s todo = refl

module _ (c : Code) (Q : State → Type 0) where
  -- ---- A loop that is due

  -- it goes on with its body and itself, or with what follows it
  pub comes_While : (n : ℕ) (e : CExpr) (body : List CStmt) (rest : Todo) (s : State) (Goal : State → Type 0) (v : ℤ) (over : Bool) → s.todo ≡ (n, stmt.While e body) ∷ rest → value e c.tables s ≡ Is v → is_zero v ≡ over → ((todo : Todo) → Q (settled (record s { todo = todo }))) → Comes c Q (settled (record s { todo = cond over rest (numbered (n + 1) body ++ ((n, stmt.While e body) ∷ rest)) })) Goal → Comes c Q s Goal
  comes_While n e body rest s Goal v over due is test q x =
      let to : Todo = cond over rest (numbered (n + 1) body ++ ((n, stmt.While e body) ∷ rest)) in
      comes_step c Q s (settled (record s { todo = to })) Goal (step_While c n e body rest s v over due is test) (q to) x

  -- where its condition holds, it does its body, and then it is due again
  pub comes_turn : (n : ℕ) (e : CExpr) (body : List CStmt) (rest : Todo) (s : State) (Mid Stop Goal : State → Type 0) (v : ℤ) → s.todo ≡ (n, stmt.While e body) ∷ rest → value e c.tables s ≡ Is v → is_zero v ≡ false → ((todo : Todo) → Q (settled (record s { todo = todo }))) → Runs c Q body (settled s) Mid Stop → ((t : State) → t.todo ≡ (n, stmt.While e body) ∷ rest → Mid t → Comes c Q t Goal) → ((t : State) → Stop t → Comes c Q t Goal) → Comes c Q s Goal
  comes_turn n e body rest s Mid Stop Goal v due is more q r again out =
      let loop : Todo = (n, stmt.While e body) ∷ rest in
      let inner = numbered (n + 1) body ++ loop in
      comes_step c Q s (settled (record s { todo = inner })) Goal (step_While c n e body rest s v false due is more) (q inner)
      (comes_runs c Q (n + 1) body loop (settled (record s { todo = inner })) Mid Stop Goal refl (record { by = r.by }) again out)

  -- a loop that is one switch goes on with the arm of the variable's number, or with the default, and then with itself
  pub comes_picked : (h : ℕ) (e : CExpr) (x : Int) (arms : List Arm) (d : List CStmt) (rest : Todo) (s : State) (Goal : State → Type 0) (u v : ℤ) → s.todo ≡ (h, stmt.While e (stmt.Switch x arms d ∷ [])) ∷ rest → value e c.tables s ≡ Is u → is_zero u ≡ false → read_int x s ≡ Is v → ((todo : Todo) → Q (settled (record s { todo = todo }))) → ((todo : Todo) → Q (settled (settled (record s { todo = todo })))) → ((m : ℕ) → Comes c Q (settled (settled (record s { todo = numbered m (picked v arms d) ++ ((h, stmt.While e (stmt.Switch x arms d ∷ [])) ∷ rest) }))) Goal) → Comes c Q s Goal
  comes_picked h e x arms d rest s Goal u v due is more reads q1 q2 goes =
      let loop : Todo = (h, stmt.While e (stmt.Switch x arms d ∷ [])) ∷ rest in
      let first : Todo = (h + 1, stmt.Switch x arms d) ∷ loop in
      let inside : State = settled (record s { todo = first }) in
      let m = chosen_is v (h + 1 + 1) arms d in
      let inner = chosen v (h + 1 + 1) arms d ++ loop in
      comes_step c Q s inside Goal (step_While c h e (stmt.Switch x arms d ∷ []) rest s u false due is more) (q1 first)
      (comes_step c Q inside (settled (settled (record s { todo = inner }))) Goal
      (step_Switch c (h + 1) x arms d loop inside v refl (read_settled x s first ∙ reads)) (q2 inner)
      (subst (λ (l : Todo). Comes c Q (settled (settled (record s { todo = l ++ loop }))) Goal) (sym m.1) (goes m.0)))

  -- ---- A loop as a piece of code

  -- the condition holds no more
  pub record Over (e : CExpr) (s : State) (Post : State → Type 0) : Type 0 where
    pub test : ℤ
    pub is : value e c.tables s ≡ Is test
    pub over : is_zero test ≡ true
    pub way : (todo : Todo) → Q (settled (record s { todo = todo }))
    pub post : (todo : Todo) → Post (settled (record s { todo = todo }))

  -- the condition holds, and the body does a turn
  pub record Turn (e : CExpr) (body : List CStmt) (s : State) (After Stop : State → Type 0) : Type 0 where
    pub test : ℤ
    pub is : value e c.tables s ≡ Is test
    pub more : is_zero test ≡ false
    pub way : (todo : Todo) → Q (settled (record s { todo = todo }))
    pub turn : Runs c Q body (settled s) After Stop

  -- what comes of the head of a loop where I n holds: n falls with each turn, by as much as the turn likes
  pub data Head (e : CExpr) (body : List CStmt) (I : ℕ → State → Type 0) (Post Stop : State → Type 0) (n : ℕ) (s : State) : Type 0 where
    over : Over e s Post → Head e body I Post Stop n s
    stops : ((todo : Todo) → Stop (record s { todo = todo })) → Head e body I Post Stop n s
    turns : Turn e body s (λ t. (m : ℕ) × (m < n) × I m t) Stop → Head e body I Post Stop n s

  -- a loop: what is known at its head is enough
  pub runs_While : (e : CExpr) (body : List CStmt) (I : ℕ → State → Type 0) (Post Stop : State → Type 0) → ((n : ℕ) (s : State) → I n s → Head e body I Post Stop n s) → (n : ℕ) (s : State) → I n s → Runs c Q (stmt.While e body ∷ []) s Post Stop
  runs_While e body I Post Stop heads n s i = within n n s (omega arith) i
    where
      loops : (b n : ℕ) (s : State) → n ≤ b → ((m : ℕ) (t : State) → m < b → I m t → Runs c Q (stmt.While e body ∷ []) t Post Stop) → Head e body I Post Stop n s → Runs c Q (stmt.While e body ∷ []) s Post Stop
      loops b n s le again (over l) =
          record {
            by = λ k rest.
                comes_While k e body rest (record s { todo = (k, stmt.While e body) ∷ rest }) (Reaches rest Post Stop) l.test true refl (value_todo e c.tables s ((k, stmt.While e body) ∷ rest) ∙ l.is) l.over l.way
                (comes_now c Q (settled (record s { todo = rest })) (Reaches rest Post Stop) (inl (refl, l.post rest)));
          }
      loops b n s le again (stops h) = record { by = λ k rest. comes_now c Q (record s { todo = (k, stmt.While e body) ∷ rest }) (Reaches rest Post Stop) (inr (h ((k, stmt.While e body) ∷ rest))) }
      loops b n s le again (turns t) =
          record {
            by = λ k rest.
                let loop : Todo = (k, stmt.While e body) ∷ rest in
                comes_turn k e body rest (record s { todo = loop }) (λ u. (m : ℕ) × (m < n) × I m u) Stop (Reaches rest Post Stop) t.test refl (value_todo e c.tables s loop ∙ t.is) t.more t.way (record { by = t.turn.by })
                (λ u due j. comes_due c Q u loop (Reaches rest Post Stop) due ((again j.0 u (let lt = j.1 in omega (arith, lt, le)) j.2).by k rest))
                (λ u h. comes_now c Q u (Reaches rest Post Stop) (inr h));
          }

      within : (b n : ℕ) (s : State) → n ≤ b → I n s → Runs c Q (stmt.While e body ∷ []) s Post Stop
      within zero n s le i = loops 0 n s le (λ m t lt j. absurd (omega (arith, lt))) (heads n s i)
      within (suc b) n s le i = loops (suc b) n s le (λ m t lt j. within b m t (omega (arith, lt)) j) (heads n s i)
