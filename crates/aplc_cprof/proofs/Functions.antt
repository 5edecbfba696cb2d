-- Rules of functions: how a body is left, and what a call comes to.
-- They know no source, and count no steps.
use Rattle.std.proofs.Common.{◌≡◌, ℕ, zero, suc, ◌+◌, List, [], ◌∷◌, ◌++◌, ◌⊎◌, inl, inr, refl, sym, ap, ◌∙◌, append-nil}
use Rattle.std.specs.Prelude.{Some, map, slice_get}
use Rattle.aplc_cprof.specs.declared.syntax.CFunction.{CFunction}
use Rattle.aplc_cprof.specs.declared.syntax.CProgram.{CProgram}
use Rattle.aplc_cprof.specs.declared.syntax.CStmt.{CStmt}
use Rattle.aplc_cprof.specs.declared.syntax.CStmt.TheVariants as stmt
use Rattle.aplc_cprof.specs.Machine.{total, size, numbered, bodies_from, first_body, code_of, initial, Todo, Code, Caller, State, settled_next, leave, step}
use Rattle.aplc_cprof.proofs.Runs.{step_Call, step_Return, step_Return_end, step_leave, step_end}
use Rattle.aplc_cprof.proofs.Paths.{called, returned}
use Rattle.aplc_cprof.proofs.Rules.{Comes, Reaches, Runs, comes_now, comes_less, comes_then, comes_due, comes_step}

-- ---- The bodies of a program

body_from : (n i : ℕ) (fs : List CFunction) (f : CFunction) → slice_get fs i ≡ Some f → (m : ℕ) × (slice_get (bodies_from n fs) i ≡ Some (numbered m f.body))
body_from n i [] f is = absurd (cc)
body_from n zero (x ∷ fs) f is = let e : x ≡ f = cc in (n, ap (λ (f : CFunction). Some (numbered n f.body)) e)
body_from n (suc i) (x ∷ fs) f is = body_from (n + total (map size x.body)) i fs f is

-- each function has its body
pub body_of : (p : CProgram) (i : ℕ) (f : CFunction) → slice_get p.functions i ≡ Some f → (m : ℕ) × (slice_get (code_of p).bodies i ≡ Some (numbered m f.body))
body_of p i f is = body_from 1 i p.functions f is

-- that of the first one is due at the start
pub first_due : (p : CProgram) (input : List ℕ) (f : CFunction) → slice_get p.functions 0 ≡ Some f → (initial (code_of p) input).todo ≡ numbered 1 f.body
first_due p input f is = due_of p.functions is
  where
    due_of : (fs : List CFunction) → slice_get fs 0 ≡ Some f → first_body (bodies_from 1 fs) ≡ numbered 1 f.body
    due_of [] is = absurd (cc)
    due_of (x ∷ fs) is = let e : x ≡ f = cc in ap (λ (f : CFunction). numbered 1 f.body) e

-- the next step leaves the function
abbrev pub Leaves : Code → State → Type 0
Leaves c t = step c t ≡ settled_next (leave t.callers t)

-- the callers within a call from s, with `rest` to do after it
abbrev pub above : State → Todo → List Caller
above s rest = record { ints = s.ints; bufs = s.bufs; todo = rest } ∷ s.callers

-- the function that was called from s is about to be left, or has stopped
abbrev pub Left : Code → State → Todo → (State → Type 0) → (State → Type 0) → State → Type 0
Left c s rest Post Stop t = (Leaves c t × (t.callers ≡ above s rest) × Post t) ⊎ Stop t

module _ (c : Code) (Q : State → Type 0) where
  -- ---- Leaving

  -- a return is such a step
  leaves_Return : (n : ℕ) (rest : Todo) (s : State) (cs : List Caller) → s.todo ≡ (n, stmt.Return) ∷ rest → s.callers ≡ cs → Leaves c s
  leaves_Return n rest s [] h is = step_Return_end c n rest s h is ∙ sym (ap (λ cs. settled_next (leave cs s)) is)
  leaves_Return n rest s (f ∷ fs) h is = step_Return c n rest s f fs h is ∙ sym (ap (λ cs. settled_next (leave cs s)) is)

  -- so is the end of a body
  leaves_at : (s : State) (cs : List Caller) → s.todo ≡ [] → s.callers ≡ cs → Leaves c s
  leaves_at s [] h is = step_end c s h is ∙ sym (ap (λ cs. settled_next (leave cs s)) is)
  leaves_at s (f ∷ fs) h is = step_leave c s f fs h is ∙ sym (ap (λ cs. settled_next (leave cs s)) is)

  -- a return is a way out: nothing that follows it is done
  pub runs_Return : (s : State) (Post Stop : State → Type 0) → ((todo : Todo) → Leaves c (record s { todo = todo }) → Stop (record s { todo = todo })) → Runs c Q (stmt.Return ∷ []) s Post Stop
  runs_Return s Post Stop stop =
      record {
        by = λ n rest.
            let from : State = record s { todo = (n, stmt.Return) ∷ rest } in
            comes_now c Q from (Reaches rest Post Stop) (inr (stop ((n, stmt.Return) ∷ rest) (leaves_Return n rest from s.callers refl refl)));
      }

  -- a whole body, from its beginning to where it is left at its end, or has stopped
  pub comes_body : (n : ℕ) (code : List CStmt) (s : State) (Post Stop : State → Type 0) → s.todo ≡ numbered n code → Runs c Q code s Post Stop → Comes c Q s (λ t. (Leaves c t × Post t) ⊎ Stop t)
  comes_body n code s Post Stop due r =
      comes_due c Q s (numbered n code ++ []) Goal (due ∙ sym (append-nil (numbered n code)))
      (comes_less c Q (record s { todo = numbered n code ++ [] }) (Reaches [] Post Stop) Goal ends (r.by n []))
    where
      Goal : State → Type 0
      Goal t = (Leaves c t × Post t) ⊎ Stop t

      ends : (t : State) → Reaches [] Post Stop t → Goal t
      ends t (inl p) = inl (leaves_at t t.callers p.0 refl, p.1)
      ends t (inr h) = inr h

  -- a body that does not come to its end
  pub comes_out : (n : ℕ) (code : List CStmt) (s : State) (Stop : State → Type 0) → s.todo ≡ numbered n code → Runs c Q code s (λ t. ⊥) Stop → Comes c Q s Stop
  comes_out n code s Stop due r =
      comes_less c Q s (λ t. (Leaves c t × ⊥) ⊎ Stop t) Stop only (comes_body n code s (λ t. ⊥) Stop due r)
    where
      only : (t : State) → (Leaves c t × ⊥) ⊎ Stop t → Stop t
      only t (inl p) = absurd p.1
      only t (inr h) = h

  -- ---- Calls

  -- a call does what the function's body does up to where it is left; what stops in the body stops the call
  pub runs_Call : (i m : ℕ) (body : List CStmt) (s : State) (Mid : Todo → State → Type 0) (Post Stop : State → Type 0) → slice_get c.bodies i ≡ Some (numbered m body) → ((rest todo : Todo) → Q (called c s rest todo)) → ((rest : Todo) → Comes c Q (called c s rest (numbered m body)) (Left c s rest (Mid rest) Stop)) → ((rest : Todo) (t : State) → Mid rest t → Q (returned c s rest t) × Post (returned c s rest t)) → Runs c Q (stmt.Call i ∷ []) s Post Stop
  runs_Call i m body s Mid Post Stop is enters b leaves =
      record {
        by = λ n rest.
            let from : State = record s { todo = (n, stmt.Call i) ∷ rest } in
            comes_step c Q from (called c s rest (numbered m body)) (Reaches rest Post Stop) (step_Call c n i (numbered m body) rest from refl is) (enters rest (numbered m body))
            (comes_then c Q (called c s rest (numbered m body)) (Left c s rest (Mid rest) Stop) (Reaches rest Post Stop) (onward rest) (b rest));
      }
    where
      onward : (rest : Todo) (t : State) → Left c s rest (Mid rest) Stop t → Comes c Q t (Reaches rest Post Stop)
      onward rest t (inl p) =
          let l = leaves rest t p.2 in
          comes_step c Q t (returned c s rest t) (Reaches rest Post Stop) (p.0 ∙ ap (λ cs. settled_next (leave cs t)) p.1) l.0
          (comes_now c Q (returned c s rest t) (Reaches rest Post Stop) (inl (refl, l.1)))
      onward rest t (inr h) = comes_now c Q t (Reaches rest Post Stop) (inr h)
