-- A piece of code beside a computation of the source: what the computation comes to says what the code may do.
-- It must not know the source: of its states it knows nothing, and of a computation what it comes to.
use Rattle.std.proofs.Common.{◌≡◌, ℕ, ◌+◌, List, [], ◌∷◌, ◌++◌, ◌⊎◌, inl, inr, refl, sym, ap, ◌∙◌, subst, arith}
use Rattle.std.specs.Prelude.{Some, slice_get}
use Rattle.aplc_scalar.specs.declared.kind.FaultKind.{FaultKind}
use Rattle.aplc_cprof.specs.declared.syntax.CStmt.{CStmt}
use Rattle.aplc_cprof.specs.declared.syntax.CStmt.TheVariants as stmt
use Rattle.aplc_cprof.specs.Machine.{numbered, Todo, Code, State, settled, settled_next, leave, run}
use Rattle.aplc_cprof.specs.Machine as machine
use Rattle.aplc_cprof.proofs.Paths.{called, returned, Path, run-path}
use Rattle.aplc_cprof.proofs.Counted.{path_steps}
use Rattle.aplc_cprof.proofs.Rules.{Comes, Runs, comes_now, comes_less, comes_runs, runs_less, runs_then, runs_none, runs_faults, FaultsAt}
use Rattle.aplc_cprof.proofs.Paths.{does_Fault}
use Rattle.aplc_cprof.proofs.Functions.{Leaves, Left, above, comes_body, runs_Call, runs_Return}

-- ---- Computations

-- what a computation comes to: it gives a value, it faults, or it would go on where it may not; each with the source's state then
pub data Course (S A : Type 0) : Type 0 where
  gives : A → S → Course S A
  faults : FaultKind → S → Course S A
  goes_on : S → Course S A

-- one computation after another
abbrev pub and_then : {S A B : Type 0} → Course S A → (A → S → Course S B) → Course S B
and_then (gives a t) k = k a t
and_then (faults e t) k = faults e t
and_then (goes_on t) k = goes_on t

-- the relation holds of what the computation gives
abbrev pub Done : {S A : Type 0} → Course S A → (A → S → State → Type 0) → State → Type 0
Done (gives a T) Rel t = Rel a T t
Done (faults e T) Rel t = ⊥
Done (goes_on T) Rel t = ⊥

-- In a source whose states are S, Fails says what is known where both sides fault, beside that the machine does,
-- and Waits what is known where the source would go on.
module _ (c : Code) (Q : State → Type 0) (S : Type 0) (Fails : FaultKind → S → State → Type 0) (Waits : S → State → Type 0) where
  -- the machine has stopped as the computation has
  abbrev pub Stopped : {A : Type 0} → Course S A → State → Type 0
  Stopped (gives a T) t = ⊥
  Stopped (faults e T) t = FaultsAt c e t × Fails e T t
  Stopped (goes_on T) t = Waits T t

  -- from s on, the code does what the computation comes to
  abbrev pub Matches : {A : Type 0} → List CStmt → State → Course S A → (A → S → State → Type 0) → Type 0
  Matches code s out Rel = Runs c Q code s (Done out Rel) (Stopped out)

  -- what has stopped a computation stops all that comes after it
  pub stopped_then : {A B : Type 0} (out : Course S A) (k : A → S → Course S B) (t : State) → Stopped out t → Stopped (and_then out k) t
  stopped_then (gives a T) k t h = absurd h
  stopped_then (faults e T) k t h = h
  stopped_then (goes_on T) k t h = h

  -- less is asked of what is given
  pub done_less : {A : Type 0} (out : Course S A) (Rel Rel' : A → S → State → Type 0) → ((a : A) (T : S) (t : State) → out ≡ gives a T → Rel a T t → Rel' a T t) → (t : State) → Done out Rel t → Done out Rel' t
  done_less (gives a T) Rel Rel' f t h = f a T t refl h
  done_less (faults e T) Rel Rel' f t h = h
  done_less (goes_on T) Rel Rel' f t h = h

  -- and so of code beside it
  pub matches_less : {A : Type 0} (code : List CStmt) (s : State) (out : Course S A) (Rel Rel' : A → S → State → Type 0) → ((a : A) (T : S) (t : State) → out ≡ gives a T → Rel a T t → Rel' a T t) → Matches code s out Rel → Matches code s out Rel'
  matches_less code s out Rel Rel' f r = runs_less c Q code s (Done out Rel) (Done out Rel') (Stopped out) (Stopped out) (done_less out Rel Rel' f) (λ t h. h) r

  -- a computation that is another one
  pub matches_is : {A : Type 0} (code : List CStmt) (s : State) (out out' : Course S A) (Rel : A → S → State → Type 0) → out ≡ out' → Matches code s out Rel → Matches code s out' Rel
  matches_is {A = A} code s out out' Rel e r = subst (λ (o : Course S A). Matches code s o Rel) e r

  -- The rule: code after code is computation after computation.
  pub matches_then : {A B : Type 0} (a b : List CStmt) (s : State) (out : Course S A) (k : A → S → Course S B) (Mid : A → S → State → Type 0) (Rel : B → S → State → Type 0) → Matches a s out Mid → ((x : A) (T : S) (t : State) → Mid x T t → Matches b t (k x T) Rel) → Matches (a ++ b) s (and_then out k) Rel
  matches_then {A = A} a b s out k Mid Rel da db =
      runs_then c Q a b s (Done out Mid) (Done (and_then out k) Rel) (Stopped (and_then out k))
      (runs_less c Q a s (Done out Mid) (Done out Mid) (Stopped out) (Stopped (and_then out k)) (λ t h. h) (stopped_then out k) da)
      (onward out)
    where
      onward : (out : Course S A) (t : State) → Done out Mid t → Runs c Q b t (Done (and_then out k) Rel) (Stopped (and_then out k))
      onward (gives x T) t h = db x T t h
      onward (faults e T) t h = absurd h
      onward (goes_on T) t h = absurd h

  -- no code, where something is given
  pub matches_none : {A : Type 0} (s : State) (a : A) (T : S) (Rel : A → S → State → Type 0) → ((rest : Todo) → Rel a T (record s { todo = rest })) → Matches [] s (gives a T) Rel
  matches_none s a T Rel post = runs_none c Q s (Rel a T) (λ t. ⊥) post

  -- a fault of the source is one of the code
  pub matches_Fault : {A : Type 0} (e : FaultKind) (s : State) (T : S) (Rel : A → S → State → Type 0) → ((todo : Todo) → Fails e T (record s { todo = todo })) → Matches (stmt.Fault e ∷ []) s (faults e T) Rel
  matches_Fault e s T Rel known =
      runs_faults c Q 0 (stmt.Fault e ∷ []) s (λ t. ⊥) (λ t. FaultsAt c e t × Fails e T t)
      (does_Fault c Q e s (λ t. ⊥) (λ kind t. FaultsAt c kind t → FaultsAt c e t × Fails e T t) (λ todo h. (h, known todo)))

  -- ---- Functions

  -- the function is about to be left with what the computation gives, or both have stopped
  abbrev pub Ends : {A : Type 0} → Course S A → (A → S → State → Type 0) → State → Type 0
  Ends out Gone t = (Leaves c t × Done out Gone t) ⊎ Stopped out t

  -- less is asked of what is given there
  pub ends_less : {A : Type 0} (out : Course S A) (Gone Gone' : A → S → State → Type 0) → ((a : A) (T : S) (t : State) → out ≡ gives a T → Gone a T t → Gone' a T t) → (t : State) → Ends out Gone t → Ends out Gone' t
  ends_less out Gone Gone' f t (inl d) = inl (d.0, done_less out Gone Gone' f t d.1)
  ends_less out Gone Gone' f t (inr h) = inr h

  -- a body that is left at its end
  pub ends_body : {A : Type 0} (n : ℕ) (code : List CStmt) (s : State) (out : Course S A) (Gone : A → S → State → Type 0) → s.todo ≡ numbered n code → Matches code s out Gone → Comes c Q s (Ends out Gone)
  ends_body n code s out Gone due r = comes_body c Q n code s (Done out Gone) (Stopped out) due r

  -- a return leaves with what is given
  pub ends_Return : {A : Type 0} (s : State) (Post : State → Type 0) (a : A) (T : S) (Gone : A → S → State → Type 0) → ((todo : Todo) → Gone a T (record s { todo = todo })) → Runs c Q (stmt.Return ∷ []) s Post (Ends (gives a T) Gone)
  ends_Return s Post a T Gone known = runs_Return c Q s Post (Ends (gives a T) Gone) (λ todo h. inl (h, known todo))

  -- a piece that is due in a body, and then what comes of the rest
  pub ends_then : {A B : Type 0} (n : ℕ) (code : List CStmt) (rest : Todo) (s : State) (out : Course S A) (k : A → S → Course S B) (Mid : A → S → State → Type 0) (Gone : B → S → State → Type 0) → s.todo ≡ numbered n code ++ rest → Matches code s out Mid → ((x : A) (T : S) (t : State) → t.todo ≡ rest → Mid x T t → Comes c Q t (Ends (k x T) Gone)) → Comes c Q s (Ends (and_then out k) Gone)
  ends_then {A = A} n code rest s out k Mid Gone due r next =
      comes_runs c Q n code rest s (Done out Mid) (Stopped out) (Ends (and_then out k) Gone) due r
      (λ t at h. onward out t at h)
      (λ t h. comes_now c Q t (Ends (and_then out k) Gone) (inr (stopped_then out k t h)))
    where
      onward : (out : Course S A) (t : State) → t.todo ≡ rest → Done out Mid t → Comes c Q t (Ends (and_then out k) Gone)
      onward (gives x T) t at h = next x T t at h
      onward (faults e T) t at h = absurd h
      onward (goes_on T) t at h = absurd h

  -- A call does what the function does. In Gone the frame of the caller is still there; it comes back with the return.
  pub matches_Call : {A : Type 0} (i m : ℕ) (body : List CStmt) (s : State) (out : Course S A) (Gone : Todo → A → S → State → Type 0) (Rel : A → S → State → Type 0) → slice_get c.bodies i ≡ Some (numbered m body) → ((rest todo : Todo) → Q (called c s rest todo)) → ((rest : Todo) → Comes c Q (called c s rest (numbered m body)) (Ends out (λ a T t. (t.callers ≡ above s rest) × Gone rest a T t))) → ((rest : Todo) (a : A) (T : S) (t : State) → out ≡ gives a T → Gone rest a T t → Q (returned c s rest t) × Rel a T (returned c s rest t)) → Matches (stmt.Call i ∷ []) s out Rel
  matches_Call {A = A} i m body s out Gone Rel is enters runs back =
      runs_Call c Q i m body s (λ rest. Done out (Gone rest)) (Done out Rel) (Stopped out) is enters
      (λ rest. comes_less c Q (called c s rest (numbered m body)) (Ends out (λ a T t. (t.callers ≡ above s rest) × Gone rest a T t)) (Left c s rest (Done out (Gone rest)) (Stopped out)) (left rest) (runs rest))
      (λ rest t d. given rest out t (λ a T e g. back rest a T t e g) d)
    where
      left_of : (rest : Todo) (out : Course S A) (t : State) → Done out (λ a T t. (t.callers ≡ above s rest) × Gone rest a T t) t → (t.callers ≡ above s rest) × Done out (Gone rest) t
      left_of rest (gives a T) t h = h
      left_of rest (faults e T) t h = absurd h
      left_of rest (goes_on T) t h = absurd h

      left : (rest : Todo) (t : State) → Ends out (λ a T t. (t.callers ≡ above s rest) × Gone rest a T t) t → Left c s rest (Done out (Gone rest)) (Stopped out) t
      left rest t (inl d) = let l = left_of rest out t d.1 in inl (d.0, l.0, l.1)
      left rest t (inr h) = inr h

      given : (rest : Todo) (out : Course S A) (t : State) → ((a : A) (T : S) → out ≡ gives a T → Gone rest a T t → Q (returned c s rest t) × Rel a T (returned c s rest t)) → Done out (Gone rest) t → Q (returned c s rest t) × Done out Rel (returned c s rest t)
      given rest (gives a T) t f h = f a T refl h
      given rest (faults e T) t f h = absurd h
      given rest (goes_on T) t f h = absurd h

  -- ---- Runs

  -- what the run from s comes to: its end, the fault, or a state where the source would go on
  abbrev pub Finishes : {A : Type 0} → State → Course S A → (A → S → State → Type 0) → Type 0
  Finishes s (gives a T) Gone = (k : ℕ) × (t : State) × (run c k s ≡ machine.Ended (settled t)) × Gone a T t
  Finishes s (faults e T) Gone = (k : ℕ) × (t : State) × (run c k s ≡ machine.Faulted e (settled t)) × Fails e T t
  Finishes s (goes_on T) Gone = (k : ℕ) × (t : State) × (run c k s ≡ machine.Going t) × (t.steps ≡ s.steps + k) × Waits T t

  -- the run of the frame that was there from the start
  pub ends_run : {A : Type 0} (s : State) (out : Course S A) (Gone : A → S → State → Type 0) → ((a : A) (T : S) (t : State) → Gone a T t → t.callers ≡ []) → Comes c Q s (Ends out Gone) → Finishes s out Gone
  ends_run s out Gone first x = by_end out first x.to x.steps x.path x.goal
    where
      by_end : {A : Type 0} (out : Course S A) {Gone : A → S → State → Type 0} → ((a : A) (T : S) (t : State) → Gone a T t → t.callers ≡ []) → (t : State) (k : ℕ) → Path c Q k s t → Ends out Gone t → Finishes s out Gone
      by_end (gives a T) first t k path (inl d) = (k + 1, t, run-path c Q k s t path 1 ∙ ap (λ x. machine.and_then x (run c 0)) (d.0 ∙ ap (λ cs. settled_next (leave cs t)) (first a T t d.1)), d.1)
      by_end (gives a T) first t k path (inr h) = absurd h
      by_end (faults e T) first t k path (inl d) = absurd d.1
      by_end (faults e T) first t k path (inr h) = (k + 1, t, run-path c Q k s t path 1 ∙ ap (λ x. machine.and_then x (run c 0)) h.0, h.1)
      by_end (goes_on T) first t k path (inl d) = absurd d.1
      by_end (goes_on T) first t k path (inr h) =
          let none : k + 0 ≡ k = omega arith in
          (k, t, ap (λ k. run c k s) (sym none) ∙ run-path c Q k s t path 0, path_steps c Q k s t path, h)
