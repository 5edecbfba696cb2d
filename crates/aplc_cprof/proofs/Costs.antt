-- How many steps a piece of code has counted where it ends, and how much it has held on the way.
-- It must not know what the code does.
use Rattle.std.proofs.Common.{◌≡◌, ℕ, ◌+◌, ◌≤◌, List, ◌++◌, inl, inr, ap, arith}
use Rattle.std.specs.Prelude.{sum_by}
use Rattle.aplc_scalar.specs.declared.kind.FaultKind.{FaultKind}
use Rattle.aplc_cprof.specs.declared.syntax.CStmt.{CStmt}
use Rattle.aplc_cprof.specs.Machine.{State, Code, Todo, numbered, cells_of, held}
use Rattle.aplc_cprof.specs.Frames.{Stays}
use Rattle.aplc_cprof.proofs.Paths.{Led, Does}
use Rattle.aplc_cprof.proofs.Counted.{path_steps, path_peak}

-- where all stays, as many cells are held
pub stays_held : (n m : ℕ) (s t : State) → Stays n m s t → held t ≡ held s
stays_held n m s t a = ap (sum_by cells_of) a.heap

module _ (c : Code) (Q : State → Type 0) where
  -- a piece of at most k steps counts at most k, at its end and at a fault
  pub does_count : (k : ℕ) (code : List CStmt) (s : State) (Post : State → Type 0) (Fail : FaultKind → State → Type 0) → Does c Q k code s Post Fail → Does c Q k code s (λ t. Post t × (t.steps ≤ s.steps + k)) (λ kind t. Fail kind t × (t.steps ≤ s.steps + k))
  does_count k code s Post Fail d = record { by = λ n rest. by_led rest (record s { todo = numbered n code ++ rest }) (omega arith) (d.by n rest) }
    where
      by_led : (rest : Todo) (from : State) → from.steps ≤ s.steps → Led c Q k from rest Post Fail → Led c Q k from rest (λ t. Post t × (t.steps ≤ s.steps + k)) (λ kind t. Fail kind t × (t.steps ≤ s.steps + k))
      by_led rest from le (inl a) =
          let e = path_steps c Q a.steps from a.to a.path in
          inl record { steps = a.steps; within = a.within; to = a.to; path = a.path; due = a.due; post = (a.post, let w = a.within in omega (arith, e, w, le)) }
      by_led rest from le (inr f) =
          let e = path_steps c Q f.steps from f.at f.path in
          inr record { steps = f.steps; within = f.within; at = f.at; path = f.path; kind = f.kind; faults = f.faults; fail = (f.fail, let w = f.within in omega (arith, e, w, le)) }

  -- and where no state on the way holds more than b, the peak is at most b, if it was before
  pub does_hold : (b k : ℕ) (code : List CStmt) (s : State) (Post : State → Type 0) (Fail : FaultKind → State → Type 0) → ((u : State) → Q u → held u ≤ b) → s.peak ≤ b → Does c Q k code s Post Fail → Does c Q k code s (λ t. Post t × (t.peak ≤ b)) (λ kind t. Fail kind t × (t.peak ≤ b))
  does_hold b k code s Post Fail most le d = record { by = λ n rest. by_led rest (record s { todo = numbered n code ++ rest }) le (d.by n rest) }
    where
      by_led : (rest : Todo) (from : State) → from.peak ≤ b → Led c Q k from rest Post Fail → Led c Q k from rest (λ t. Post t × (t.peak ≤ b)) (λ kind t. Fail kind t × (t.peak ≤ b))
      by_led rest from le (inl a) = inl record { steps = a.steps; within = a.within; to = a.to; path = a.path; due = a.due; post = (a.post, path_peak c Q b a.steps from a.to most le a.path) }
      by_led rest from le (inr f) = inr record { steps = f.steps; within = f.within; at = f.at; path = f.path; kind = f.kind; faults = f.faults; fail = (f.fail, path_peak c Q b f.steps from f.at most le f.path) }
