-- The laws of facts for statements, lines and whole runs.
use Rattle.std.proofs.Common.{◌≡◌, ◌∙◌, sym, ap, refl, subst, ℕ, zero, suc, ◌+◌, ◌<◌, List, [], ◌∷◌, ◌++◌, length, Option, Some, None, Ok, Err, Bool, true, false, arith}
use Rattle.std.specs.Prelude.{Result, slice_get, unwrap_or, option_and_then, nat_eq, nat_lt, ◌≢◌, if◌then◌else◌}
use Rattle.std.proofs.lemmas.Bool.Decides.{nat_tests}
use Rattle.aplc_lex.specs.declared.token.Refusal.{Refusal}
use Rattle.aplc_scalar.specs.declared.kind.FaultKind.{FaultKind}
use Rattle.aplc_scalar.specs.declared.kind.FaultKind.TheVariants as fault
use Rattle.aplc_syntax.specs.PlainTrees.{Tree}
use Rattle.aplc_arr.specs.Arrays.{Array}
use Rattle.aplc_arr.specs.Delayed.{first_n}
use Rattle.aplc_names.specs.Outlines.{argument_mentions}
use Rattle.aplc_names.specs.PlainPrograms.{Action, nothing, quiet, perform, display, branch, Routine, PlainProgram, no_routine}
use Rattle.aplc_names.specs.States.{Values, World, depth, State, Marking, Gives, Faulted, and_then, on_world, no_values}
use Rattle.aplc_names.specs.Eager.{passed, displayed, value, branch_to, branched, statement}
use Rattle.aplc_names.specs.Runs.{Runner, depth_limit, set_some, entered, back, call_routine, caller, line_at, started, after, result_of, from_line, context, run, initial, run_main, evaluated}
use Rattle.aplc_infer.specs.declared.fact.Inferred.{Inferred}
use Rattle.aplc_infer.specs.declared.fact.Inferred.TheVariants.{Unset}
use Rattle.aplc_infer.specs.declared.cell.Cell.TheVariants as cell
use Rattle.aplc_infer.specs.Facts.{below}
use Rattle.aplc_infer.specs.Rules.{fact_of, branch_fact}
use Rattle.aplc_infer.specs.Seeing.{Family, Declarations, declarations, Progress, fresh, denied_by, function_of, local_names, number_in, binding_of, binding_in, context_of, at, see, see_argument, see_statement, branch_flow, flow_of, leads}
use Rattle.aplc_infer.specs.Seeing as seeing
use Rattle.aplc_infer.specs.Families.{AreMet, IsAnswered, ReachesLine, Reaches, at_start, with_parameter, at_entry, seen_line, IsLine, Fits}
use Rattle.aplc_soundness.specs.Holding.{HoldsOf}
use Rattle.aplc_soundness.specs.RulesHold.{RulesHold}
use Rattle.aplc_infer.specs.RulesRise.{RulesRise}
use Rattle.aplc_infer.proofs.Trials.{equal_test}
use Rattle.aplc_infer.proofs.Monotone.{met_left}
use Rattle.aplc_soundness.proofs.Held.{not_rank, holds_of_above}
use Rattle.aplc_soundness.proofs.HeldElements.{length_first}
use Rattle.aplc_soundness.proofs.LocalNames.{set_length, IsNumbered, HasNumber, AreNumbered, left_numbered, right_numbered, mention_parts, line_numbered}
use Rattle.aplc_soundness.proofs.Stays.{denied_stays, passed_stays, see_argument_stays}
use Rattle.aplc_soundness.proofs.HeldNames.{outside, Agrees, AgreesOutside, locals_set, rule_ok, ruled_same}
use Rattle.aplc_soundness.proofs.Comes.{Comes, comes_then, comes_and, comes_map}
use Rattle.aplc_soundness.proofs.HeldNodes.{Setting, running, typing, Outside, Agreeing, Fitting, same_names, see_clear}
use Rattle.aplc_soundness.proofs.HeldTrees.{passed_names, fits_call, fits_value, fits_argument}
use Rattle.aplc_soundness.proofs.HeldFlows.{LeadsTo, leads_value}

-- ---- Statements

-- facts of names agree with the world after, and the line led to is one to which the statement may lead
abbrev pub Leading : Setting → Action → ℕ → List Inferred → Option ℕ → World → Type 0
Leading c x l ns to w = Agreeing c ns w × (leads (flow_of (binding_in c.routine) x) l (after l to) ≡ true)

onward : (l : ℕ) → nat_eq (l + 1) (l + 1) ≡ true
onward l = equal_test (l + 1) (l + 1) refl

fits_branched : (c : Setting) (p : ℕ) (t : Tree) (l : ℕ) (r : Result (Option ℕ) FaultKind) (s : State) (ns : List Inferred) → Agreeing c ns s.world → (r ≢ Err fault.Rank) → LeadsTo (branch_flow (binding_in c.routine) t) l r → Comes (Outside c) (Leading c (branch p t) l ns) (branched r s)
fits_branched c p t l (Err e) s ns a fair h = (outside c.declared c.routine c.family ns s.world a, λ q. fair (ap Err q))
fits_branched c p t l (Ok to) s ns a fair h = (record { size = a.size; globals = a.globals; locals = a.locals; given = a.given }, h)

pub fits_statement : (c : Setting) (x : Action) (l : ℕ) (w : Progress) (s : State) → AreNumbered c.routine (seeing.action_mentions x) → Agreeing c w.names s.world → AreMet c.family (see_statement (typing c) c.family x w).demands → (see_statement (typing c) c.family x w).refused ≡ [] → Comes (Outside c) (Leading c x l (see_statement (typing c) c.family x w).names) (statement (running c) x s)
fits_statement c nothing l w s nb a met fine = (a, onward l)
fits_statement c (quiet t) l w s nb a met fine =
    let y = see (typing c) c.family t w in
    comes_then (Outside c) (Fitting c y.fact y.progress.names) (Leading c (quiet t) l y.progress.names) (value (running c) t passed s) _ (fits_value c t passed w s nb a met fine) (λ v s1 h.
    (record { size = h.1.size; globals = h.1.globals; locals = h.1.locals; given = h.1.given }, onward l))
fits_statement c (display t) l w s nb a met fine =
    let y = see (typing c) c.family t w in
    comes_then (Outside c) (Fitting c y.fact y.progress.names) (Leading c (display t) l y.progress.names) (value (running c) t displayed s) _ (fits_value c t displayed w s nb a met fine) (λ v s1 h.
    (record { size = h.1.size; globals = h.1.globals; locals = h.1.locals; given = h.1.given }, onward l))
fits_statement c (perform i p n a b) l w s nb ag met fine =
    let g = c.family in
    let y = see_argument (typing c) g b w in
    let x = see_argument (typing c) g a y.progress in
    let j = function_of ((typing c).binding n) in
    let given = seeing.passed j x.fact y.fact x.progress in
    let parts = mention_parts (HasNumber c.routine) (argument_mentions a) (argument_mentions b) nb.1 in
    let q1 = passed_stays g j x.fact y.fact x.progress in
    let q2 = see_argument_stays g (typing c) a y.progress in
    let f1 = q1.fine fine in
    let m0 = met_left g given.demands _ met in
    let m1 = q1.met m0 in
    fits_call c n a b x y s (Leading c (perform i p n a b) l given.names) _
    (fits_argument c b w s parts.1 ag (q2.met m1) (q2.fine f1)) (λ t h. fits_argument c a y.progress t parts.0 h m1 f1) m0 (λ r t held h.
    let k = subst (λ ns. Agreeing c ns t.world) (sym (passed_names j x.fact y.fact x.progress)) h in
    (record { size = k.size; globals = k.globals; locals = k.locals; given = k.given }, onward l))
fits_statement c (branch p t) l w s nb a met fine =
    let g = c.family in
    let y = see (typing c) g t w in
    let r = branch_fact y.fact in
    let q = denied_stays g p r y.progress in
    let f = q.fine fine in
    let end = denied_by p r y.progress in
    comes_then (Outside c) (λ v x. LeadsTo (branch_flow (binding_in c.routine) t) l (branch_to v) × Fitting c y.fact y.progress.names v x) (Leading c (branch p t) l end.names) (value (running c) t passed s) _
    (comes_and (Outside c) (Fitting c y.fact y.progress.names) (λ v. LeadsTo (branch_flow (binding_in c.routine) t) l (branch_to v)) _ (fits_value c t passed w s nb a (q.met met) f) (leads_value (running c) (λ n. number_in n (local_names c.routine)) t passed l s)) (λ v s1 h.
    fits_branched c p t l (branch_to v) s1 end.names (same_names c y.progress end s1.world (ruled_same p r y.progress fine) h.1.1) (c.hold.branch v y.fact (fact_of r) h.1.0 (see_clear c t w f) (rule_ok p r y.progress fine)) h.0)

-- ---- Facts at the start of lines

at_before : (xs ys : List Inferred) (k : ℕ) → k < length xs → at (xs ++ ys) k ≡ at xs k
at_before [] ys k h = absurd (omega (arith, h))
at_before (x ∷ xs) ys zero h = refl
at_before (x ∷ xs) ys (suc k) h = at_before xs ys k (omega (arith, h))

at_last : (xs : List Inferred) (y : Inferred) (k : ℕ) → k ≡ length xs → at (xs ++ y ∷ []) k ≡ y
at_last [] y zero e = refl
at_last [] y (suc k) e = absurd (omega (arith, e))
at_last (x ∷ xs) y zero e = absurd (omega (arith, e))
at_last (x ∷ xs) y (suc k) e = at_last xs y k (omega (arith, e))

at_first : (F : ℕ → Inferred) (n k : ℕ) → k < n → at (first_n F n) k ≡ F k
at_first F zero k h = absurd (omega (arith, h))
at_first F (suc n) k h = by_test (at_first F n k) (nat_lt k n) refl
  where
    smaller : nat_lt k n ≡ true → k < n
    smaller e = grind (arith, nat_tests)

    last : nat_lt k n ≡ false → k ≡ n
    last e = grind (arith, nat_tests)

    by_test : (k < n → at (first_n F n) k ≡ F k) → (b : Bool) → nat_lt k n ≡ b → at (first_n F (suc n)) k ≡ F k
    by_test again true e = let h1 = smaller e in at_before (first_n F n) (F n ∷ []) k (omega (arith, h1, length_first F n)) ∙ again h1
    by_test again false e = at_last (first_n F n) (F n) k (last e ∙ sym (length_first F n)) ∙ ap F (sym (last e))

at_beyond : (xs : List Inferred) (k : ℕ) → (k < length xs → ⊥) → at xs k ≡ Unset
at_beyond [] k h = refl
at_beyond (x ∷ xs) zero h = absurd (h (omega arith))
at_beyond (x ∷ xs) (suc k) h = at_beyond xs k (λ q. h (omega (arith, q)))

start_above : (ns : List Inferred) (F : ℕ → Inferred) (n : ℕ) → length ns ≡ n → ((k : ℕ) → below (at ns k) (F k) ≡ true) → (k : ℕ) → below (at ns k) (at (first_n F n) k) ≡ true
start_above ns F n size h k = by_test (nat_lt k n) refl
  where
    smaller : nat_lt k n ≡ true → k < n
    smaller e = grind (arith, nat_tests)

    not_smaller : nat_lt k n ≡ false → k < n → ⊥
    not_smaller e q = grind (arith, nat_tests)

    by_test : (b : Bool) → nat_lt k n ≡ b → below (at ns k) (at (first_n F n) k) ≡ true
    by_test true e = subst (λ x. below (at ns k) x ≡ true) (sym (at_first F n k (smaller e))) (h k)
    by_test false e = subst (λ x. below x (at (first_n F n) k) ≡ true) (sym (at_beyond ns k (λ q. not_smaller e (omega (arith, q, size))))) refl

agrees_start : (d : Declarations) (g : Family) (j : ℕ) (f : Routine) (l : ℕ) (ns : List Inferred) (w : World) → Agrees d f g ns w → ((k : ℕ) → below (at ns k) (g (cell.Start j l k)) ≡ true) → Agrees d f g (at_start g j f l) w
agrees_start d g j f l ns w a h =
    let F : ℕ → Inferred = λ k. g (cell.Start j l k) in
    record {
      size = length_first F (length (local_names f));
      globals = a.globals;
      locals = λ n. holds_of_above (at ns (number_in n (local_names f))) _ (w.locals n) (start_above ns F (length (local_names f)) a.size h (number_in n (local_names f))) (a.locals n);
      given = a.given;
    }

-- ---- Entry

parameter_length : (f : Routine) (o : Option ℕ) (x : Inferred) (ns : List Inferred) → length (with_parameter f o x ns) ≡ length ns
parameter_length f None x ns = refl
parameter_length f (Some n) x ns = set_length ns (number_in n (local_names f)) x

parameter_holds : (f : Routine) (o : Option ℕ) (x : Inferred) (ns : List Inferred) (v : Option Array) (values : Values) → length ns ≡ length (local_names f) → ((n : ℕ) → o ≡ Some n → IsNumbered n (local_names f)) → HoldsOf x v → ((m : ℕ) → HoldsOf (at ns (number_in m (local_names f))) (values m)) → (m : ℕ) → HoldsOf (at (with_parameter f o x ns) (number_in m (local_names f))) (set_some o v values m)
parameter_holds f None x ns v values size h p q m = q m
parameter_holds f (Some n) x ns v values size h p q m = locals_set f n x ns v values size (h n refl) p q m

agrees_entered : (d : Declarations) (g : Family) (j : ℕ) (f : Routine) (x y : Option Array) (s : State) → HoldsOf (g (cell.Left j)) x → HoldsOf (g (cell.Right j)) y → AgreesOutside d g s.world → Agrees d f g (at_entry g j f) (entered f x y s).world
agrees_entered d g j f x y s hx hy a =
    let none = first_n (λ k. Unset) (length (local_names f)) in
    let right = with_parameter f f.right (g (cell.Right j)) none in
    let size : length right ≡ length (local_names f) = parameter_length f f.right (g (cell.Right j)) none ∙ length_first (λ k. Unset) (length (local_names f)) in
    record {
      size = parameter_length f f.left (g (cell.Left j)) right ∙ size;
      globals = a.globals;
      locals = parameter_holds f f.left (g (cell.Left j)) right x (set_some f.right y no_values) size (left_numbered f) hx (parameter_holds f f.right (g (cell.Right j)) none y no_values (length_first (λ k. Unset) (length (local_names f))) (right_numbered f) hy (λ m. tt));
      given = a.given;
    }

-- ---- Runs

-- what the run of a function leaves
abbrev pub Answering : Declarations → Family → ℕ → Option Array → World → Type 0
Answering d g j z w = HoldsOf (g (cell.Answer j)) z × AgreesOutside d g w

abbrev pub FitsRuns : Declarations → PlainProgram → Family → Runner → Type 0
FitsRuns d p g r = (j : ℕ) (f : Routine) (l : ℕ) (ns : List Inferred) (s : State) → slice_get p.routines j ≡ Some f → Agrees d f g ns s.world → Reaches g j f ns l → Comes (AgreesOutside d g) (Answering d g j) (r f l s)

answer_holds : (d : Declarations) (g : Family) (j : ℕ) (f : Routine) (o : Option ℕ) (ns : List Inferred) (w : World) → Agrees d f g ns w → IsAnswered g j f o ns → HoldsOf (g (cell.Answer j)) (result_of o w.locals)
answer_holds d g j f None ns w a h = tt
answer_holds d g j f (Some n) ns w a h = holds_of_above (at ns (number_in n (local_names f))) (g (cell.Answer j)) (w.locals n) h (a.locals n)

none_listed : (rs : List Refusal) → ((i : ℕ) (r : Refusal) → slice_get rs i ≡ Some r → ⊥) → rs ≡ []
none_listed [] h = refl
none_listed (r ∷ rs) h = absurd (h 0 r refl)

-- no refusal stands in a line
pub line_fine : (d : Declarations) (p : PlainProgram) (g : Family) → Fits d p g → (j l : ℕ) (f : Routine) (x : Action) → IsLine p j l f x → (seen_line d p g j f l x).refused ≡ []
line_fine d p g fits j l f x there = none_listed (seen_line d p g j f l x).refused (λ i r e. fits.fine r (record { function = j; line = l; routine = f; action = x; there = there; index = i; listed = e }))

-- what a run comes to: facts hold of the values of global names, and of all that was given
abbrev pub Keeping : Declarations → Family → Option Array → World → Type 0
Keeping d g z w = AgreesOutside d g w

module _ (d : Declarations) (p : PlainProgram) (g : Family) (hold : RulesHold p.origin) (rise : RulesRise p.origin) (fits : Fits d p g) (m : Marking) where
  fits_call_routine : (r : Runner) → FitsRuns d p g r → (j : ℕ) (o : Option Routine) → slice_get p.routines j ≡ o → (x y : Option Array) (s : State) → HoldsOf (g (cell.Left j)) x → HoldsOf (g (cell.Right j)) y → AgreesOutside d g s.world → Comes (AgreesOutside d g) (λ z w. HoldsOf (g (cell.Answer j)) z × AgreesOutside d g w × (w.locals ≡ s.world.locals)) (call_routine r o x y s)
  fits_call_routine r runs j None e x y s hx hy a = (a, not_rank fault.Value refl)
  fits_call_routine r runs j (Some f) e x y s hx hy a = by_depth (nat_lt (depth s.world.places) depth_limit)
    where
      by_depth : (b : Bool) → Comes (AgreesOutside d g) (λ z w. HoldsOf (g (cell.Answer j)) z × AgreesOutside d g w × (w.locals ≡ s.world.locals)) (if b then and_then (r f 1 (entered f x y s)) (λ v t. Gives v (back f s t)) else Faulted fault.Limit s)
      by_depth true =
          comes_then (AgreesOutside d g) (Answering d g j) _ (r f 1 (entered f x y s)) _ (runs j f 1 (at_entry g j f) (entered f x y s) e (agrees_entered d g j f x y s hx hy a) (fits.rules.entries j f e)) (λ v t h.
          (h.0, record { globals = h.1.globals; given = h.1.given }, refl))
      by_depth false = (a, not_rank fault.Limit refl)

  fits_from_line : (r : Runner) → FitsRuns d p g r → (j : ℕ) (f : Routine) (l : ℕ) (x : Option Action) (left : ℕ) (ns : List Inferred) (s : State) → slice_get p.routines j ≡ Some f → line_at f.lines l ≡ x → Agrees d f g ns s.world → ReachesLine g j f ns l x → Comes (AgreesOutside d g) (Answering d g j) (from_line (context p m r f) f (r f) l x left s)
  fits_from_line r runs j f l None left ns s e here a h = (answer_holds d g j f f.result ns s.world a h, outside d f g ns s.world a)
  fits_from_line r runs j f l (Some x) zero ns s e here a h = outside d f g ns s.world a
  fits_from_line r runs j f l (Some x) (suc left) ns s e here a h =
      let c : Setting = record { origin = p.origin; declared = d; routine = f; family = g; marking = m; call = caller p r; hold = hold; rise = rise; calls = λ i y z t. fits_call_routine r runs i (slice_get p.routines i) refl y z t } in
      let there : IsLine p j l f x = record { routine = e; here = here } in
      let line = fits.rules.lines j l f x there in
      let start = agrees_start d g j f l ns s.world a h in
      comes_then (AgreesOutside d g) (Leading c x l (seen_line d p g j f l x).names) (Answering d g j) _ _
      (fits_statement c x l (fresh (at_start g j f l)) (on_world (started l x left) s) (line_numbered f l x here) (record { size = start.size; globals = start.globals; locals = start.locals; given = start.given }) line.demands (line_fine d p g fits j l f x there)) (λ to t q.
      runs j f (after l to) (seen_line d p g j f l x).names t e q.0 (line.flows (after l to) q.1))

  fits_run : (k : ℕ) → FitsRuns d p g (run p m k)
  fits_run zero j f l ns s e a h = outside d f g ns s.world a
  fits_run (suc k) j f l ns s e a h = fits_from_line (run p m k) (fits_run k) j f l (line_at f.lines l) s.world.left ns s e refl a h

  -- ---- Whole runs

  fits_nothing : (k : ℕ) (input : List ℕ) (n : ℕ) → Comes (AgreesOutside d g) (Keeping d g) (run p m k no_routine 1 (initial no_routine input n))
  fits_nothing zero input n = record { globals = λ i. tt; given = tt }
  fits_nothing (suc k) input n = record { globals = λ i. tt; given = tt }

  fits_function : (k : ℕ) (input : List ℕ) (n j : ℕ) (f : Routine) → slice_get p.routines j ≡ Some f → Comes (AgreesOutside d g) (Keeping d g) (run p m k f 1 (initial f input n))
  fits_function k input n j f e =
      comes_map (AgreesOutside d g) (Answering d g j) (Keeping d g) _ (fits_run k j f 1 (at_entry g j f) (initial f input n) e (agrees_initial j f input n) (fits.rules.entries j f e)) (λ z w h. h.1)
    where
      agrees_initial : (j : ℕ) (f : Routine) (input : List ℕ) (n : ℕ) → Agrees d f g (at_entry g j f) (initial f input n).world
      agrees_initial j f input n =
          let a = agrees_entered d g j f None None (initial f input n) tt tt (record { globals = λ i. tt; given = tt }) in
          record { size = a.size; globals = a.globals; locals = λ i. tt; given = a.given }

  pub fits_evaluated : (input : List ℕ) (n : ℕ) → Comes (AgreesOutside d g) (Keeping d g) (evaluated p m input n)
  fits_evaluated input n = by_start p.start
    where
      by_routine : (j : ℕ) (o : Option Routine) → slice_get p.routines j ≡ o → Comes (AgreesOutside d g) (Keeping d g) (run_main p m input n (unwrap_or o no_routine))
      by_routine j None e = fits_nothing (n + 1) input n
      by_routine j (Some f) e = fits_function (n + 1) input n j f e

      by_start : (o : Option ℕ) → Comes (AgreesOutside d g) (Keeping d g) (run_main p m input n (unwrap_or (option_and_then (slice_get p.routines) o) no_routine))
      by_start None = fits_nothing (n + 1) input n
      by_start (Some j) = by_routine j (slice_get p.routines j) refl
