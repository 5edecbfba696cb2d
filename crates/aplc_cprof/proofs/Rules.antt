-- Rules of code with every way out: a piece comes to what follows it, or stops: at a fault, before leaving, or where it waits.
-- They know no source, and count no steps: a state counts its own.
use Rattle.std.proofs.Common.{◌≡◌, ℕ, suc, ◌+◌, List, [], ◌∷◌, ◌++◌, ◌⊎◌, inl, inr, refl, sym, ap, ◌∙◌, subst, append_assoc, ℤ, Bool, true, false, cond}
use Rattle.std.specs.Prelude.{Option, map}
use Rattle.aplc_scalar.specs.declared.kind.FaultKind.{FaultKind}
use Rattle.aplc_cprof.specs.declared.syntax.Int.{Int}
use Rattle.aplc_cprof.specs.declared.syntax.Arm.{Arm}
use Rattle.aplc_cprof.specs.declared.syntax.CExpr.{CExpr}
use Rattle.aplc_cprof.specs.declared.syntax.CStmt.{CStmt}
use Rattle.aplc_cprof.specs.declared.syntax.CStmt.TheVariants as stmt
use Rattle.aplc_cprof.specs.Machine.{total, size, numbered, numbered_if, is_zero, chosen, read_int, Todo, Code, State, Is, Going, Faulted, value, settled, step}
use Rattle.aplc_cprof.proofs.Values.{value_todo}
use Rattle.aplc_cprof.proofs.Runs.{step_If, step_Switch}
use Rattle.aplc_cprof.proofs.Paths.{numbered-append, numbered_other, chosen_is, read_todo, other_part, picked, Path, path_then, Led, Does}

-- nothing is asked of the states on the way
abbrev pub Any : State → Type 0
Any s = Unit {0}

-- the rest is due, or the piece has stopped; what stops does not know the rest
abbrev pub Reaches : Todo → (State → Type 0) → (State → Type 0) → State → Type 0
Reaches rest Post Stop t = ((t.todo ≡ rest) × Post t) ⊎ Stop t

-- a state in which the next step faults
abbrev pub FaultsAt : Code → FaultKind → State → Type 0
FaultsAt c kind t = step c t ≡ Faulted kind (settled t)

module _ (c : Code) (Q : State → Type 0) where
  -- ---- Paths to a goal

  -- a path, on which Q holds, to a state where the goal does
  pub record Comes (s : State) (Goal : State → Type 0) : Type 0 where
    pub steps : ℕ
    pub to : State
    pub path : Path c Q steps s to
    pub goal : Goal to

  -- the goal holds here
  pub comes_now : (s : State) (Goal : State → Type 0) → Goal s → Comes s Goal
  comes_now s Goal g = record { steps = 0; to = s; path = refl; goal = g }

  -- a goal that follows
  pub comes_less : (s : State) (Goal Goal' : State → Type 0) → ((t : State) → Goal t → Goal' t) → Comes s Goal → Comes s Goal'
  comes_less s Goal Goal' f x = record { steps = x.steps; to = x.to; path = x.path; goal = f x.to x.goal }

  -- one goal after another
  pub comes_then : (s : State) (Mid Goal : State → Type 0) → ((t : State) → Mid t → Comes t Goal) → Comes s Mid → Comes s Goal
  comes_then s Mid Goal f x = join (f x.to x.goal)
    where
      join : Comes x.to Goal → Comes s Goal
      join y = record { steps = x.steps + y.steps; to = y.to; path = path_then c Q x.steps y.steps s x.to y.to x.path y.path; goal = y.goal }

  -- a step first
  pub comes_step : (s t : State) (Goal : State → Type 0) → step c s ≡ Going t → Q t → Comes t Goal → Comes s Goal
  comes_step s t Goal h q x = record { steps = suc x.steps; to = x.to; path = (t, h, q, x.path); goal = x.goal }

  -- from where it is known what is due
  pub comes_due : (t : State) (todo : Todo) (Goal : State → Type 0) → t.todo ≡ todo → Comes (record t { todo = todo }) Goal → Comes t Goal
  comes_due t todo Goal h x =
      let e : t ≡ record t { todo = todo } = ap (λ (l : Todo). record t { todo = l }) h in
      subst (λ (u : State). Comes u Goal) (sym e) x

  -- ---- Pieces of code

  -- what a piece of code does, whatever its first number is and whatever follows it
  pub record Runs (code : List CStmt) (s : State) (Post Stop : State → Type 0) : Type 0 where
    pub by : (n : ℕ) (rest : Todo) → Comes (record s { todo = numbered n code ++ rest }) (Reaches rest Post Stop)

  -- less is asked of what the piece comes to
  pub runs_less : (code : List CStmt) (s : State) (Post Post' Stop Stop' : State → Type 0) → ((t : State) → Post t → Post' t) → ((t : State) → Stop t → Stop' t) → Runs code s Post Stop → Runs code s Post' Stop'
  runs_less code s Post Post' Stop Stop' f g r = record { by = λ n rest. comes_less (record s { todo = numbered n code ++ rest }) (Reaches rest Post Stop) (Reaches rest Post' Stop') (less rest) (r.by n rest) }
    where
      less : (rest : Todo) (t : State) → Reaches rest Post Stop t → Reaches rest Post' Stop' t
      less rest t (inl p) = inl (p.0, f t p.1)
      less rest t (inr q) = inr (g t q)

  -- no code
  pub runs_none : (s : State) (Post Stop : State → Type 0) → ((rest : Todo) → Post (record s { todo = rest })) → Runs [] s Post Stop
  runs_none s Post Stop post = record { by = λ n rest. comes_now (record s { todo = rest }) (Reaches rest Post Stop) (inl (refl, post rest)) }

  -- code that is not begun, since all has stopped before it
  pub runs_stop : (code : List CStmt) (s : State) (Post Stop : State → Type 0) → ((todo : Todo) → Stop (record s { todo = todo })) → Runs code s Post Stop
  runs_stop code s Post Stop stop = record { by = λ n rest. comes_now (record s { todo = numbered n code ++ rest }) (Reaches rest Post Stop) (inr (stop (numbered n code ++ rest))) }

  -- one piece after another: what stops in the first one stops both
  pub runs_then : (a b : List CStmt) (s : State) (Mid Post Stop : State → Type 0) → Runs a s Mid Stop → ((t : State) → Mid t → Runs b t Post Stop) → Runs (a ++ b) s Post Stop
  runs_then a b s Mid Post Stop da db =
      record {
        by = λ n rest.
            let m = n + total (map size a) in
            let e : numbered n a ++ (numbered m b ++ rest) ≡ numbered n (a ++ b) ++ rest = sym (append_assoc (numbered n a) (numbered m b) rest) ∙ ap (λ l. l ++ rest) (sym (numbered-append n a b)) in
            subst (λ (l : Todo). Comes (record s { todo = l }) (Reaches rest Post Stop)) e
            (comes_then (record s { todo = numbered n a ++ (numbered m b ++ rest) }) (Reaches (numbered m b ++ rest) Mid Stop) (Reaches rest Post Stop) (onward m rest) (da.by n (numbered m b ++ rest)));
      }
    where
      onward : (m : ℕ) (rest : Todo) (t : State) → Reaches (numbered m b ++ rest) Mid Stop t → Comes t (Reaches rest Post Stop)
      onward m rest t (inl p) = comes_due t (numbered m b ++ rest) (Reaches rest Post Stop) p.0 ((db t p.1).by m rest)
      onward m rest t (inr q) = comes_now t (Reaches rest Post Stop) (inr q)

  -- a piece that is due, and then what comes of where it leads
  pub comes_runs : (n : ℕ) (code : List CStmt) (rest : Todo) (s : State) (Mid Stop Goal : State → Type 0) → s.todo ≡ numbered n code ++ rest → Runs code s Mid Stop → ((t : State) → t.todo ≡ rest → Mid t → Comes t Goal) → ((t : State) → Stop t → Comes t Goal) → Comes s Goal
  comes_runs n code rest s Mid Stop Goal due r on out =
      comes_due s (numbered n code ++ rest) Goal due
      (comes_then (record s { todo = numbered n code ++ rest }) (Reaches rest Mid Stop) Goal onward (r.by n rest))
    where
      onward : (t : State) → Reaches rest Mid Stop t → Comes t Goal
      onward t (inl p) = on t p.0 p.1
      onward t (inr h) = out t h

  -- ---- Statements

  -- the rules of pieces that arrive or fault
  pub runs_does : (k : ℕ) (code : List CStmt) (s : State) (Post Stop : State → Type 0) (Fail : FaultKind → State → Type 0) → ((kind : FaultKind) (t : State) → FaultsAt c kind t → Fail kind t → Stop t) → Does c Q k code s Post Fail → Runs code s Post Stop
  runs_does k code s Post Stop Fail stops d = record { by = λ n rest. by_led n rest (d.by n rest) }
    where
      by_led : (n : ℕ) (rest : Todo) → Led c Q k (record s { todo = numbered n code ++ rest }) rest Post Fail → Comes (record s { todo = numbered n code ++ rest }) (Reaches rest Post Stop)
      by_led n rest (inl a) = record { steps = a.steps; to = a.to; path = a.path; goal = inl (a.due, a.post) }
      by_led n rest (inr f) = record { steps = f.steps; to = f.at; path = f.path; goal = inr (stops f.kind f.at f.faults f.fail) }

  -- of those that can't fault
  pub runs_sure : (k : ℕ) (code : List CStmt) (s : State) (Post Stop : State → Type 0) → Does c Q k code s Post (λ kind t. ⊥) → Runs code s Post Stop
  runs_sure k code s Post Stop d = runs_does k code s Post Stop (λ kind t. ⊥) (λ kind t h none. absurd none) d

  -- and of those that fault
  pub runs_faults : (k : ℕ) (code : List CStmt) (s : State) (Post Stop : State → Type 0) → Does c Q k code s Post (λ kind t. FaultsAt c kind t → Stop t) → Runs code s Post Stop
  runs_faults k code s Post Stop d = runs_does k code s Post Stop (λ kind t. FaultsAt c kind t → Stop t) (λ kind t h g. g h) d

  -- ---- Branches

  -- an if does the part that its condition chooses
  pub runs_If : (e : CExpr) (a : List CStmt) (o : Option (List CStmt)) (s : State) (Post Stop : State → Type 0) (v : ℤ) (over : Bool) → value e c.tables s ≡ Is v → is_zero v ≡ over → ((todo : Todo) → Q (settled (record s { todo = todo }))) → Runs (cond over (other_part o) a) (settled s) Post Stop → Runs (stmt.If e a o ∷ []) s Post Stop
  runs_If e a o s Post Stop v false is test q r =
      record {
        by = λ n rest.
            let from : State = record s { todo = (n, stmt.If e a o) ∷ rest } in
            let inner = numbered (n + 1) a ++ rest in
            comes_step from (settled (record s { todo = inner })) (Reaches rest Post Stop)
            (step_If c n e a o rest from v false refl (value_todo e c.tables s ((n, stmt.If e a o) ∷ rest) ∙ is) test) (q inner) (r.by (n + 1) rest);
      }
  runs_If e a o s Post Stop v true is test q r =
      record {
        by = λ n rest.
            let from : State = record s { todo = (n, stmt.If e a o) ∷ rest } in
            let m = n + 1 + total (map size a) in
            let inner = numbered_if m o ++ rest in
            comes_step from (settled (record s { todo = inner })) (Reaches rest Post Stop)
            (step_If c n e a o rest from v true refl (value_todo e c.tables s ((n, stmt.If e a o) ∷ rest) ∙ is) test) (q inner)
            (subst (λ (l : Todo). Comes (record (settled s) { todo = l ++ rest }) (Reaches rest Post Stop)) (numbered_other m o) (r.by m rest));
      }

  -- a switch does the arm of the variable's number, or the default
  pub runs_Switch : (x : Int) (arms : List Arm) (d : List CStmt) (s : State) (Post Stop : State → Type 0) (v : ℤ) → read_int x s ≡ Is v → ((todo : Todo) → Q (settled (record s { todo = todo }))) → Runs (picked v arms d) (settled s) Post Stop → Runs (stmt.Switch x arms d ∷ []) s Post Stop
  runs_Switch x arms d s Post Stop v is q r =
      record {
        by = λ n rest.
            let todo : Todo = (n, stmt.Switch x arms d) ∷ rest in
            let from : State = record s { todo = todo } in
            let inner = chosen v (n + 1) arms d ++ rest in
            let m = chosen_is v (n + 1) arms d in
            comes_step from (settled (record s { todo = inner })) (Reaches rest Post Stop)
            (step_Switch c n x arms d rest from v refl (read_todo x s todo ∙ is)) (q inner)
            (subst (λ (l : Todo). Comes (record (settled s) { todo = l ++ rest }) (Reaches rest Post Stop)) (sym m.1) (r.by m.0 rest));
      }
