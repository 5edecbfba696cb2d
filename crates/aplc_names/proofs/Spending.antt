-- Lines are started one by one: after an evaluation no more are left than before, and it goes on only where none is left.
use Rattle.std.proofs.Common.{◌≡◌, ℕ, zero, suc, ◌+◌, ◌<◌, ◌≤◌, List, Option, Some, None, refl, arith, Bool, true, false}
use Rattle.std.specs.Prelude.{slice_get, nat_lt, if◌then◌else◌}
use Rattle.aplc_scalar.specs.declared.kind.FaultKind.TheVariants as fault
use Rattle.aplc_scalar.specs.declared.kind.Kind.TheVariants.{Num, Char}
use Rattle.aplc_scalar.specs.Input.{input_line, number_line}
use Rattle.aplc_arr.specs.Arrays.{Array}
use Rattle.aplc_arr.specs.Delayed.{computed}
use Rattle.aplc_arr.specs.Indexing.{indexed, changed}
use Rattle.aplc_names.specs.declared.scope.Scope.{Scope}
use Rattle.aplc_names.specs.declared.scope.Scope.TheVariants as scope
use Rattle.aplc_names.specs.PlainPrograms.{Action, Routine, PlainProgram, main_routine}
use Rattle.aplc_names.specs.Primitives.{mono_of, dyad_of}
use Rattle.aplc_names.specs.States.{depth, World, State, Marking, Outcome, Gives, Faulted, Going, and_then, final, on_world}
use Rattle.aplc_names.specs.Eager.{with_value, statement}
use Rattle.aplc_names.specs.Runs.{Runner, entered, back, call_routine, line_at, started, from_line, context, run, run_main, run_of, initial, eager}
use Rattle.aplc_names.specs.RunLaws.{IsGoing, GoesOnAtNone}
use Rattle.aplc_names.proofs.Carried.{OnSome, Keeps, Comes, Calls, Any, comes-then, comes-statement}
use Rattle.aplc_names.proofs.Growing.{AnyValue, some-any, done-any, line-any, action-any}

-- at most n lines may still start
abbrev Few : ℕ → World → Type 0
Few n w = w.left ≤ n

-- none may
abbrev Spent : World → Type 0
Spent w = w.left ≡ 0

few-named : (k : ℕ) (x : Scope) (n : ℕ) (v : Array) (w : World) → Few k w → Few k (with_value x n v w)
few-named k scope.Local n v w h = h
few-named k scope.Global n v w h = h
few-named k (scope.Label z) n v w h = h
few-named k (scope.Function j) n v w h = h

few : (k : ℕ) → Keeps Any (Few k) AnyValue
few k = record {
  noting = λ i n v w good h. h;
  working = λ n w h. h;
  reading = λ rest w h. h;
  putting = λ v w good h. h;
  naming = λ x n v w good h. few-named k x n v w h;
  globals = λ n w h. some-any (w.globals n);
  locals = λ n w h. some-any (w.locals n);
  text_lines = λ w. line-any Char (input_line w.input);
  number_lines = λ w. line-any Num (number_line w.input);
  monos = λ o f y origin good. done-any (computed (mono_of o f y));
  dyads = λ o f x y origin good well. done-any (computed (dyad_of o f x y));
  indices = λ o x js origin good each. done-any (computed (indexed o x js));
  changes = λ o x js v origin good each well. done-any (changed o x js v);
}

abbrev Spends : {A : Type 0} → (A → Type 0) → ℕ → Outcome A → Type 0
Spends Q n o = Comes Any (Few n) Spent AnyValue (few n) Q o

fewer : {A : Type 0} (Q : A → Type 0) (m n : ℕ) (o : Outcome A) → m ≤ n → Spends Q m o → Spends Q n o
fewer Q m n (Gives v s) le h = (h.0, omega (arith, le, h.1))
fewer Q m n (Faulted k s) le h = omega (arith, le, h)
fewer Q m n (Going s) le h = h

abbrev Answers : Option Array → Type 0
Answers r = OnSome AnyValue r

-- where fewer lines than b are left, runs spend them
abbrev SpendsRuns : ℕ → Runner → Type 0
SpendsRuns b r = (f : Routine) (l n : ℕ) (s : State) → Few n s.world → n < b → Spends Answers n (r f l s)

spends-call : (b : ℕ) (r : Runner) → SpendsRuns b r → (o : Option Routine) (x y : Option Array) (n : ℕ) (s : State) → Few n s.world → n < b → Spends Answers n (call_routine r o x y s)
spends-call b r runs None x y n s h below = h
spends-call b r runs (Some f) x y n s h below = by_depth (nat_lt (depth s.world.places) 4096)
  where
    by_depth : (t : Bool) → Spends Answers n (if t then and_then (r f 1 (entered f x y s)) (λ v w. Gives v (back f s w)) else Faulted fault.Limit s)
    by_depth true = comes-then Any (Few n) Spent AnyValue (few n) Answers Answers (r f 1 (entered f x y s)) _ (runs f 1 n (entered f x y s) h below) (λ v w q g. (q, g))
    by_depth false = h

calls-spend : (p : PlainProgram) (m : Marking) (b : ℕ) (r : Runner) → SpendsRuns b r → (f : Routine) (n : ℕ) → n < b → Calls Any (Few n) Spent AnyValue (few n) (context p m r f)
calls-spend p m b r runs f n below = record {
  origin = tt;
  calls = λ j x y s good well h. spends-call b r runs (slice_get p.routines j) x y n s h below;
  labels = λ k z e. tt;
}

spends-line : (p : PlainProgram) (m : Marking) (b : ℕ) (r : Runner) → SpendsRuns b r → (f : Routine) (l : ℕ) (x : Option Action) (k n : ℕ) (s : State) → s.world.left ≡ k → k ≤ n → n < suc b → Spends Answers n (from_line (context p m r f) f (r f) l x k s)
spends-line p m b r runs f l None k n s e le below = (some-any _, omega (arith, e, le))
spends-line p m b r runs f l (Some x) zero n s e le below = e
spends-line p m b r runs f l (Some x) (suc k) n s e le below =
    let here : k < b = omega (arith, le, below) in
    fewer Answers k n _ (omega (arith, le))
    (comes-then Any (Few k) Spent AnyValue (few k) Any Answers (statement (context p m r f) x (on_world (started l x k) s)) _
    (comes-statement Any (Few k) Spent AnyValue (few k) (context p m r f) (calls-spend p m b r runs f k here) x (action-any x) (on_world (started l x k) s) (omega arith))
    (λ to t q g. runs f _ k t g here))

spends-run : (p : PlainProgram) (m : Marking) (k : ℕ) → SpendsRuns k (run p m k)
spends-run p m zero f l n s h below = absurd (omega (arith, below))
spends-run p m (suc k) f l n s h below = spends-line p m k (run p m k) (spends-run p m k) f l (line_at f.lines l) s.world.left n s refl h below

spent : (n : ℕ) (o : Outcome (Option Array)) → Spends Answers n o → IsGoing (run_of o) → (final o).world.left ≡ 0
spent n (Gives v s) h g = absurd g
spent n (Faulted k s) h g = absurd g
spent n (Going s) h g = h

spent-main : (p : PlainProgram) (m : Marking) (input : List ℕ) (n : ℕ) (f : Routine) → IsGoing (run_of (run_main p m input n f)) → (final (run_main p m input n f)).world.left ≡ 0
spent-main p m input n f g = spent n _ (spends-run p m (n + 1) f 1 n (initial f input n) (omega arith) (omega arith)) g

pub goes_on_at_none : (p : PlainProgram) → GoesOnAtNone p
unfolding eager
goes_on_at_none p m input n g = spent-main p m input n (main_routine p) g
