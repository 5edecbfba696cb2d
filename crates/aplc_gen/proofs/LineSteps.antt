-- The code of the steps of a line does what they do.
use Rattle.std.proofs.Common.{◌≡◌, ℕ, zero, suc, ◌+◌, ◌≤◌, List, [], ◌∷◌, ◌++◌, refl, sym, ap, ◌∙◌, subst, arith, ℤ, Bool, true, false, cond}
use Rattle.std.specs.Prelude.{Option, Some, None, drop, nat_le}
use Rattle.std.proofs.lemmas.Bool.Decides.{nat_tests}
use Rattle.aplc_arr.specs.Arrays.{Array}
use Rattle.aplc_cprof.specs.declared.syntax.Int.TheVariants as int
use Rattle.aplc_cprof.specs.declared.syntax.CStmt.{CStmt}
use Rattle.aplc_cprof.specs.declared.syntax.CStmt.TheVariants as stmt
use Rattle.aplc_cprof.specs.Machine.{Code, Caller, Is, read_int, Todo}
use Rattle.aplc_cprof.specs.Machine as machine
use Rattle.aplc_cprof.proofs.Rules.{Any, runs_less}
use Rattle.aplc_cprof.proofs.Matching.{Course, gives, faults, goes_on, Done, Stopped, Matches, stopped_then, matches_is, matches_less, matches_then, matches_none}
use Rattle.aplc_cprof.proofs.Matching as matching
use Rattle.aplc_cprof.proofs.Writes.{Written, written_here}
use Rattle.aplc_names.specs.States.{Places, World, State, Marking, Outcome, and_then, is_among, on_account, ended}
use Rattle.aplc_names.specs.Eager.{Context, line_named, branch_to, branched}
use Rattle.aplc_core.specs.PlainSteps.{Effect, Term, Keep, Store, StoreAt, Call, ReadText, ReadNums, Show, Branch}
use Rattle.aplc_core.specs.CoreRuns.{Told, Slots, CoreRoutine, PlainCore, told, no_slots, term_value, step_done, steps_done, core_context, core_run}
use Rattle.aplc_gen.specs.Sound.{Ready, ready_after, nothing_ready, is_term, is_effect, are_effects, effect_cost, effects_cost, term_cost, is_line, is_read}
use Rattle.aplc_gen.specs.Sound as sound
use Rattle.aplc_gen.specs.Layouts.{Site, the_routine, line_place, base}
use Rattle.aplc_gen.specs.Emitted.{lead, landing, lead_at, lead_of_line, lead_by, known_number, operand, tree_code, known_after, known_behind, known_through, is_branch, step_code, jump_code, work_code}
use Rattle.aplc_gen.specs.Laid.{is_laid_term, is_laid_step, are_laid_steps, step_falls, steps_fall}
use Rattle.aplc_gen.specs.Relation.{course, Fails, Waits, IsNumber, Bounds, Here, Between, HasRoom, Sim, Computed, TreesDo, StepsDo, works, effect_works, bounds_behind, pay_if, owe, pay}
use Rattle.aplc_gen.specs.Codes.{ending, LeadsBy, LeadsOn, for_rest, LineOver, LineDoes, IsServed}
use Rattle.aplc_core.specs.PlainSteps as term
use Rattle.aplc_core.specs.CoreRuns as corerun
use Rattle.aplc_gen.proofs.Writes.{set_does, quiet_written, quiet_todo, globals_local, locals_local, between_kept, Looser, looser_trans, between_looser}
use Rattle.aplc_gen.proofs.Frames.{and_left, and_right}
use Rattle.aplc_gen.proofs.Outcomes.{course_then, steps_cons}
use Rattle.aplc_gen.proofs.Knowing.{knows_less, after_more}
use Rattle.aplc_gen.proofs.Computing.{value_literal, here_computed}
use Rattle.aplc_gen.proofs.Stepping.{is_same, static_of, branch_number, first_works, here_between}

-- ---- What steps may cost

budget_step : (w e : Bool) (d r : ℕ) (b target : Bounds) → (w ≡ true → e ≡ true) → Looser (pay_if w (owe (d + r) b)) target → Looser (pay_if e (owe d b)) target
budget_step true true d r b target works l = let a = l.lines in let f = l.fuel in let q = l.credit in record { lines = omega (arith, a); fuel = omega (arith, f); credit = omega (arith, q); set = l.set }
budget_step true false d r b target works l = let h = works refl in absurd (cc)
budget_step false true d r b target works l = let a = l.lines in let f = l.fuel in let q = l.credit in record { lines = omega (arith, a); fuel = omega (arith, f); credit = omega (arith, q); set = l.set }
budget_step false false d r b target works l = let a = l.lines in let f = l.fuel in let q = l.credit in record { lines = omega (arith, a); fuel = omega (arith, f); credit = omega (arith, q); set = l.set }

budget_more : (w e : Bool) (d r : ℕ) (b target : Bounds) → (w ≡ true → e ≡ true) → Looser (pay_if w (owe (d + r) b)) target → Looser (pay_if false (owe r (pay_if e (owe d b)))) target
budget_more true true d r b target works l = let a = l.lines in let f = l.fuel in let q = l.credit in record { lines = omega (arith, a); fuel = omega (arith, f); credit = omega (arith, q); set = l.set }
budget_more true false d r b target works l = let h = works refl in absurd (cc)
budget_more false true d r b target works l = let a = l.lines in let f = l.fuel in let q = l.credit in record { lines = omega (arith, a); fuel = omega (arith, f); credit = omega (arith, q); set = l.set }
budget_more false false d r b target works l = let a = l.lines in let f = l.fuel in let q = l.credit in record { lines = omega (arith, a); fuel = omega (arith, f); credit = omega (arith, q); set = l.set }

budget_none : (w : Bool) (b target : Bounds) → (w ≡ true → false ≡ true) → Looser (pay_if w (owe 0 b)) target → Looser b target
budget_none true b target works l = let h = works refl in absurd (cc)
budget_none false b target works l = let a = l.lines in let f = l.fuel in let q = l.credit in record { lines = omega (arith, a); fuel = omega (arith, f); credit = omega (arith, q); set = l.set }

budget_lines : (w : Bool) (d : ℕ) (b target : Bounds) → Looser (pay_if w (owe d b)) target → target.lines ≤ b.lines
budget_lines true d b target l = let a = l.lines in omega (arith, a)
budget_lines false d b target l = let a = l.lines in omega (arith, a)

fuel_kept : (e : Bool) (d : ℕ) (b : Bounds) → (pay_if e (owe d b)).fuel ≡ b.fuel
fuel_kept true d b = refl
fuel_kept false d b = refl

pay_owe : (w : Bool) (d : ℕ) (b : Bounds) → Looser (owe 1 (pay_if w (owe d b))) (pay_if w (owe (1 + d) b))
pay_owe true d b = record { lines = omega arith; fuel = omega arith; credit = omega arith; set = λ n h. h }
pay_owe false d b = record { lines = omega arith; fuel = omega arith; credit = omega arith; set = λ n h. h }

pay_less : (w : Bool) (d : ℕ) (b : Bounds) → Looser (pay_if w (owe d b)) (pay_if w (owe (1 + d) b))
pay_less true d b = record { lines = omega arith; fuel = omega arith; credit = omega arith; set = λ n h. h }
pay_less false d b = record { lines = omega arith; fuel = omega arith; credit = omega arith; set = λ n h. h }

-- ---- Equations

work_cons : (g : Site) (known : List ℕ) (x : Effect) (xs : List Effect) → is_branch x ≡ false → work_code g known (x ∷ xs) ≡ step_code g known x ++ work_code g (known_behind known x) xs
work_cons g known (Keep k t) xs not = refl
work_cons g known (Store i n t) xs not = refl
work_cons g known (StoreAt i n ts t) xs not = refl
work_cons g known (Call i n a b r) xs not = refl
work_cons g known (ReadText i k) xs not = refl
work_cons g known (ReadNums i k) xs not = refl
work_cons g known (Show i t) xs not = refl
work_cons g known (Branch t) xs not = absurd (cc)

pub ending_cons : (x : Effect) (xs : List Effect) → is_branch x ≡ false → ending (x ∷ xs) ≡ ending xs
ending_cons (Keep k t) xs not = refl
ending_cons (Store i n t) xs not = refl
ending_cons (StoreAt i n ts t) xs not = refl
ending_cons (Call i n a b r) xs not = refl
ending_cons (ReadText i k) xs not = refl
ending_cons (ReadNums i k) xs not = refl
ending_cons (Show i t) xs not = refl
ending_cons (Branch t) xs not = absurd (cc)

-- a branch with a number that is known has no code
no_jump : (g : Site) (known : List ℕ) (t : Term) (f : CoreRoutine) (l : ℕ) → jump_code g known t (lead_of_line f l) ≡ []
no_jump g known t f zero = refl
no_jump g known t f (suc l) = by (landing (suc l) (drop l f.steps))
  where
    by : (k : ℕ) → jump_code g known t (lead_at k) ≡ []
    by zero = refl
    by (suc k) = refl

-- the first step of a line has a value of its own
works_first : (p : PlainCore) (f : CoreRoutine) (x : Effect) (more : List Effect) → is_effect p f.header.scope (told (x ∷ more)) nothing_ready x ≡ true → effect_works (told (x ∷ more)) x ≡ true
works_first p f (Keep k t) more ok = term_works f (told (Keep k t ∷ more)) t ok
  where
    term_works : (f : CoreRoutine) (l : corerun.Told) (t : Term) → is_term f.header.scope l nothing_ready t ≡ true → works l t ≡ true
    term_works f l (term.Literal i k zs) ok = refl
    term_works f l (term.Read i n) ok = by (is_among i l.assigned) ok
      where
        by : (b : Bool) → is_read b [] n (f.header.scope n) ≡ true → cond b false true ≡ true
        by false ok = refl
        by true ok = let a = and_right (sound.is_variable (f.header.scope n)) false ok in absurd (cc)
    term_works f l (term.Slot i k) ok = absurd (cc)
    term_works f l (term.Mono i q b) ok = refl
    term_works f l (term.Dyad i q a b) ok = refl
    term_works f l (term.Index i a xs) ok = refl
works_first p f (Branch t) more ok = term_works f (told (Branch t ∷ more)) t ok
  where
    term_works : (f : CoreRoutine) (l : corerun.Told) (t : Term) → is_term f.header.scope l nothing_ready t ≡ true → works l t ≡ true
    term_works f l (term.Literal i k zs) ok = refl
    term_works f l (term.Read i n) ok = by (is_among i l.assigned) ok
      where
        by : (b : Bool) → is_read b [] n (f.header.scope n) ≡ true → cond b false true ≡ true
        by false ok = refl
        by true ok = let a = and_right (sound.is_variable (f.header.scope n)) false ok in absurd (cc)
    term_works f l (term.Slot i k) ok = absurd (cc)
    term_works f l (term.Mono i q b) ok = refl
    term_works f l (term.Dyad i q a b) ok = refl
    term_works f l (term.Index i a xs) ok = refl
works_first p f (Store i n t) more ok = refl
works_first p f (StoreAt i n ts t) more ok = refl
works_first p f (Call i n a b r) more ok = refl
works_first p f (ReadText i k) more ok = refl
works_first p f (ReadNums i k) more ok = refl
works_first p f (Show i t) more ok = refl

-- ---- A step that is the last one

module _ (c : Code) (n : ℕ) where
  sim_last : {A B : Type 0} (code : List CStmt) (s : machine.State) (o : Outcome A) (k : A → State → Outcome B) (Mid : A → State → machine.State → Type 0) (Rel : B → State → machine.State → Type 0) →
      Sim c n code s o Mid → ((x : A) (T : State) (t : machine.State) → Mid x T t → Done (course (k x T)) Rel t) → Sim c n code s (and_then o k) Rel
  sim_last {A = A} code s o k Mid Rel r f =
      matches_is c Any State Fails (Waits n) code s (matching.and_then (course o) (λ x T. course (k x T))) (course (and_then o k)) Rel (sym (course_then o k))
      (runs_less c Any code s (Done (course o) Mid) (Done (matching.and_then (course o) (λ x T. course (k x T))) Rel) (Stopped c Any State Fails (Waits n) (course o)) (Stopped c Any State Fails (Waits n) (matching.and_then (course o) (λ x T. course (k x T))))
      (onward (course o)) (stopped_then c Any State Fails (Waits n) (course o) (λ x T. course (k x T))) r)
    where
      onward : (out : Course State A) (t : machine.State) → Done out Mid t → Done (matching.and_then out (λ x T. course (k x T))) Rel t
      onward (gives x T) t h = f x T t h
      onward (faults e T) t h = absurd h
      onward (goes_on T) t h = absurd h

-- ---- The steps of a line

-- what is due is not seen
between_todo : (g : Site) (b e : Bounds) (known : List ℕ) (ps : Places) (cs : List Caller) (S : World) (s : machine.State) (todo : Todo) → Looser b e → Between g b known ps.here ps.behind cs S s → Between g e known ps.here ps.behind cs S (record s { todo = todo })
between_todo g b e known ps cs S s todo l h =
    let t : machine.State = record s { todo = todo } in
    let a = l.lines in
    let f = l.fuel in
    let q = l.credit in
    between_looser g (owe 0 b) e known ps.here ps.behind cs S t (record { lines = omega (arith, a); fuel = omega (arith, f); credit = omega (arith, q); set = l.set })
    (between_kept g b 0 known ps.here ps.behind cs S s t (quiet_todo s todo) (λ x of. refl) (λ x lt. refl) h)

-- less is known
between_less : (g : Site) (b : Bounds) (xs ys : List ℕ) (ps : Places) (cs : List Caller) (S : World) (s : machine.State) → ((e : ℕ) → is_among e xs ≡ true → is_among e ys ≡ true) → Between g b ys ps.here ps.behind cs S s → Between g b xs ps.here ps.behind cs S s
between_less g b xs ys ps cs S s sub h = record { common = h.common; locals = h.locals; knows = knows_less g xs ys S sub h.knows; function = h.function; around = h.around; callers = h.callers }

module _ (c : Code) (n : ℕ) (m : Marking) (rank : ℕ → ℕ) (k : ℕ) (trees : TreesDo c n) (g : Site) (steps : StepsDo c n g.program g.layout m rank k) where
  abbrev f : CoreRoutine
  f = the_routine g

  abbrev context : Context
  context = core_context g.program m (core_run g.program m k) (the_routine g)

  -- behind the steps of line l, where only bounds are told in place of what they cost
  abbrev Over : ℕ → Bounds → List ℕ → List Effect → Places → List Caller → Option ℕ → State → machine.State → Type 0
  Over l e known xs ps cs on T u = Between g e (known_through known xs) ps.here ps.behind cs T.world u × LeadsOn g l (ending xs) on u

  abbrev WorkDoes : ℕ → Told → List Effect → Type 0
  WorkDoes l t xs = (known : List ℕ) (r : Ready) (slots : Slots) (b e : Bounds) (ps : Places) (cs : List Caller) (w : Bool) (S : State) (s : machine.State) →
      n ≤ e.lines → b.fuel ≡ k → HasRoom g.layout rank g.number ps →
      are_effects g.program (the_routine g).header.scope t r xs ≡ true → are_laid_steps g known xs ≡ true → (g.layout.counted ≡ false → steps_fall rank g.number (the_routine g) xs ≡ true) →
      (w ≡ true → first_works t xs ≡ true) → Looser (pay_if w (owe (effects_cost xs) b)) e → Here g b known r slots ps cs S.world s →
      Sim c n (work_code g known xs) s (steps_done (core_context g.program m (core_run g.program m k) (the_routine g)) t xs slots S) (Over l e known xs ps cs)

  none_do : (l : ℕ) (t : Told) → WorkDoes l t []
  none_do l t known r slots b e ps cs w S s more fuel room ok laid falls works budget h =
      matches_none c Any State Fails (Waits n) s None (on_account ended S) (Over l e known [] ps cs)
      (λ todo. (between_todo g b e known ps cs S.world s todo (budget_none w b e works budget) (here_between g b known r slots ps cs ps.here ps.behind S.world s refl refl h), refl))

  plain_do : (l : ℕ) (t : Told) (x : Effect) (xs : List Effect) → is_branch x ≡ false → WorkDoes l t xs → WorkDoes l t (x ∷ xs)
  plain_do l t x xs plain ih known r slots b e ps cs w S s more fuel room ok laid falls works budget h =
      subst (λ (code : List CStmt). Sim c n code s (steps_done context t (x ∷ xs) slots S) (Over l e known (x ∷ xs) ps cs)) (sym (work_cons g known x xs plain))
      (matches_is c Any State Fails (Waits n) (code ++ later) s (matching.and_then (course out) (λ z T. course (steps_done context t xs z T))) (course (steps_done context t (x ∷ xs) slots S)) (Over l e known (x ∷ xs) ps cs) (sym whole)
      (matches_then c Any State Fails (Waits n) code later s (course out) (λ z T. course (steps_done context t xs z T)) (λ z T u. Here g (bounds_behind t b x) (known_behind known x) (ready_after r x) z ps cs T.world u) (Over l e known (x ∷ xs) ps cs)
      (steps g t b known r slots ps cs x S s refl refl (let q = budget_lines w (effects_cost (x ∷ xs)) b e budget in omega (arith, q, more)) fuel room plain
      (and_left (is_effect g.program f.header.scope t r x) (are_effects g.program f.header.scope t (ready_after r x) xs) ok) (and_left (is_laid_step g known x) (are_laid_steps g (known_behind known x) xs) laid) (λ none. and_left (step_falls rank g.number f x) (steps_fall rank g.number f xs) (falls none)) h)
      (λ z T u q.
      subst (λ (d : Option Term). Sim c n later u (steps_done context t xs z T) (λ on U v. Between g e (known_through known (x ∷ xs)) ps.here ps.behind cs U.world v × LeadsOn g l d on v)) (sym (ending_cons x xs plain))
      (subst (λ (ks : List ℕ). Sim c n later u (steps_done context t xs z T) (λ on U v. Between g e ks ps.here ps.behind cs U.world v × LeadsOn g l (ending xs) on v)) (sym through)
      (ih (known_behind known x) (ready_after r x) z (bounds_behind t b x) e ps cs false T u more (fuel_kept (effect_works t x) (effect_cost x) b ∙ fuel) room
      (and_right (is_effect g.program f.header.scope t r x) (are_effects g.program f.header.scope t (ready_after r x) xs) ok) (and_right (is_laid_step g known x) (are_laid_steps g (known_behind known x) xs) laid) (λ none. and_right (step_falls rank g.number f x) (steps_fall rank g.number f xs) (falls none))
      (λ none. absurd (cc)) (budget_more w (effect_works t x) (effect_cost x) (effects_cost xs) b e works budget) q)))))
    where
      code : List CStmt
      code = step_code g known x

      later : List CStmt
      later = work_code g (known_behind known x) xs

      out : Outcome Slots
      out = step_done (core_context g.program m (core_run g.program m k) (the_routine g)) t x slots S

      whole : course (steps_done (core_context g.program m (core_run g.program m k) (the_routine g)) t (x ∷ xs) slots S) ≡ matching.and_then (course out) (λ z T. course (steps_done (core_context g.program m (core_run g.program m k) (the_routine g)) t xs z T))
      whole = ap course (steps_cons context t x xs slots S plain) ∙ course_then out (λ z T. steps_done context t xs z T)

      through : known_through known (x ∷ xs) ≡ known_through (known_behind known x) xs
      through = ap (λ (z : Bool). cond z known (known_through (known_behind known x) xs)) plain

  branch_does : (l : ℕ) (t : Told) (x : Term) (xs : List Effect) → WorkDoes l t (Branch x ∷ xs)
  branch_does l t x xs known r slots b e ps cs w S s more fuel room ok laid falls works' budget h = by (known_number f.header.scope x) refl
    where
      value : Outcome Array
      value = term_value (core_context g.program m (core_run g.program m k) (the_routine g)) t slots x S

      good : is_term f.header.scope t r x ≡ true
      good = and_left (is_effect g.program f.header.scope t r (Branch x)) (are_effects g.program f.header.scope t r xs) ok

      served : is_laid_term g known x ≡ true
      served = and_left (is_laid_step g known (Branch x)) (are_laid_steps g known xs) laid

      paid : Looser (pay_if (works t x) (owe (1 + term_cost x) b)) e
      paid = budget_step w (effect_works t (Branch x)) (effect_cost (Branch x)) (effects_cost xs) b e works' budget

      tree : Sim c n (tree_code g known (base g) x) s value (Computed c n g known (base g) t x S s)
      tree = trees g context t b known r slots ps cs (base g) x S s refl (omega arith) good served h

      -- behind the tree
      behind : (v : Array) (T : State) (u : machine.State) → Computed c n g known (base g) t x S s v T u → Between g (pay_if (works t x) (owe (term_cost x) b)) known ps.here ps.behind cs T.world u
      behind v T u q =
          let d = pay_if (works t x) (owe (term_cost x) b) in
          between_less g d known (known_after known x) ps cs T.world u (λ i among. after_more known x i among)
          (here_between g d (known_after known x) r slots ps cs ps.here ps.behind T.world u refl refl (here_computed c n g b known r slots ps cs (base g) t x S s v T u (omega arith) q h))

      Rel : Option ℤ → Option ℕ → State → machine.State → Type 0
      Rel o on T u = Between g e known ps.here ps.behind cs T.world u × LeadsBy g l o on u

      by : (o : Option ℤ) → known_number f.header.scope x ≡ o → Sim c n (jump_code g known x (lead f x)) s (and_then value (λ v T. branched (branch_to v) T)) (Rel (known_number f.header.scope x))
      by (Some z) is =
          let static = static_of g known (base g) t r x z is good in
          let d = pay_if (works t x) (owe (term_cost x) b) in
          let less = looser_trans d (pay_if (works t x) (owe (1 + term_cost x) b)) e (pay_less (works t x) (term_cost x) b) paid in
          subst (λ (o : Option ℤ). Sim c n (jump_code g known x (lead f x)) s (and_then value (λ v T. branched (branch_to v) T)) (Rel o)) (sym is)
          (subst (λ (code : List CStmt). Sim c n code s (and_then value (λ v T. branched (branch_to v) T)) (Rel (Some z))) (static.code ∙ sym (ap (λ (o : Option ℤ). jump_code g known x (lead_by f o)) is ∙ no_jump g known x f (line_named z)))
          (sim_last c n (tree_code g known (base g) x) s value (λ v T. branched (branch_to v) T) (Computed c n g known (base g) t x S s) (Rel (Some z)) tree
          (λ v T u q.
          let same = is_same q.holds.number z (sym q.holds.value ∙ ap (λ i. machine.value i c.tables u) static.operand_is ∙ value_literal c z u static.fits) in
          subst (λ (o : Outcome (Option ℕ)). Done (course o) (Rel (Some z)) u) (sym (branch_number v z T (subst (λ i. IsNumber v i) same q.holds.is)))
          (between_looser g d e known ps.here ps.behind cs T.world u less (behind v T u q), refl))))
      by None is =
          let set : CStmt = stmt.Set (int.Local (line_place g)) (operand g (base g) x) in
          let d = pay_if (works t x) (owe (term_cost x) b) in
          subst (λ (o : Option ℤ). Sim c n (jump_code g known x (lead_by f o)) s (and_then value (λ v T. branched (branch_to v) T)) (Rel o)) (sym is)
          (matches_is c Any State Fails (Waits n) (tree_code g known (base g) x ++ set ∷ []) s (matching.and_then (course value) (λ v T. course (branched (branch_to v) T))) (course (and_then value (λ v T. branched (branch_to v) T))) (Rel None) (sym (course_then value (λ v T. branched (branch_to v) T)))
          (matches_then c Any State Fails (Waits n) (tree_code g known (base g) x) (set ∷ []) s (course value) (λ v T. course (branched (branch_to v) T)) (Computed c n g known (base g) t x S s) (Rel None) tree
          (λ v T u q.
          let z = q.holds.number in
          subst (λ (o : Outcome (Option ℕ)). Sim c n (set ∷ []) u o (Rel None)) (sym (branch_number v z T q.holds.is))
          (runs_less c Any (set ∷ []) u (Written (int.Local (line_place g)) z u) (Rel None (Some (line_named z)) (on_account ended T)) (λ i. ⊥) (λ i. ⊥)
          (λ i written. (
            between_looser g (owe 1 d) e known ps.here ps.behind cs T.world i (looser_trans (owe 1 d) (pay_if (works t x) (owe (1 + term_cost x) b)) e (pay_owe (works t x) (term_cost x) b) paid)
                (between_kept g d 1 known ps.here ps.behind cs T.world u i (quiet_written (int.Local (line_place g)) z u i written) (globals_local g.layout (line_place g) z u i written) (locals_local g (line_place g) z u i (omega arith) written) (behind v T u q)),
            (z, written_here (int.Local (line_place g)) z u i written, refl),
          ))
          (λ i none. none)
          (set_does c (int.Local (line_place g)) (operand g (base g) x) u (λ i. ⊥) z q.holds.value)))))

  works_do : (l : ℕ) (t : Told) (xs : List Effect) → WorkDoes l t xs
  works_do l t [] = none_do l t
  works_do l t (Branch x ∷ xs) = branch_does l t x xs
  works_do l t (Keep q x ∷ xs) = plain_do l t (Keep q x) xs refl (works_do l t xs)
  works_do l t (Store q x z ∷ xs) = plain_do l t (Store q x z) xs refl (works_do l t xs)
  works_do l t (StoreAt q x z v ∷ xs) = plain_do l t (StoreAt q x z v) xs refl (works_do l t xs)
  works_do l t (Call q x z v o ∷ xs) = plain_do l t (Call q x z v o) xs refl (works_do l t xs)
  works_do l t (ReadText q x ∷ xs) = plain_do l t (ReadText q x) xs refl (works_do l t xs)
  works_do l t (ReadNums q x ∷ xs) = plain_do l t (ReadNums q x) xs refl (works_do l t xs)
  works_do l t (Show q x ∷ xs) = plain_do l t (Show q x) xs refl (works_do l t xs)

pub line_does : (c : Code) (n : ℕ) (m : Marking) (rank : ℕ → ℕ) (k : ℕ) (trees : TreesDo c n) (g : Site) (known : List ℕ) (l : ℕ) (x : Effect) (xs : List Effect) → IsServed g known (x ∷ xs) → StepsDo c n g.program g.layout m rank k → LineDoes c n m rank k g known l (x ∷ xs) (work_code g known (x ∷ xs))
line_does c n m rank k trees g known l x xs served steps b ps cs S s more fuel room falls h =
    let scope = (the_routine g).header.scope in
    let ok = and_left (are_effects g.program scope (told (x ∷ xs)) nothing_ready (x ∷ xs)) (nat_le (effects_cost (x ∷ xs)) 2000) served.line in
    let cheap = le_of (effects_cost (x ∷ xs)) (and_right (are_effects g.program scope (told (x ∷ xs)) nothing_ready (x ∷ xs)) (nat_le (effects_cost (x ∷ xs)) 2000) served.line) in
    let out = steps_done (core_context g.program m (core_run g.program m k) (the_routine g)) (told (x ∷ xs)) (x ∷ xs) no_slots S in
    matches_less c Any State Fails (Waits n) (work_code g known (x ∷ xs)) s (course out) (λ on T u. Between g (pay for_rest b) (known_through known (x ∷ xs)) ps.here ps.behind cs T.world u × LeadsOn g l (ending (x ∷ xs)) on u) (λ on T u. LineOver g b known l (x ∷ xs) ps cs on T.world u)
    (λ on T u is q. record { state = q.0; leads = q.1 })
    (works_do c n m rank k trees g steps l (told (x ∷ xs)) (x ∷ xs) known nothing_ready no_slots b (pay for_rest b) ps cs true S s more fuel room ok served.laid falls
    (λ w. works_first g.program (the_routine g) x xs (and_left (is_effect g.program scope (told (x ∷ xs)) nothing_ready x) (are_effects g.program scope (told (x ∷ xs)) (sound.ready_after nothing_ready x) xs) ok))
    (record { lines = omega arith; fuel = omega arith; credit = let le = cheap in omega (arith, le); set = λ n h. h }) h)
  where
    le_of : (k : ℕ) → nat_le k 2000 ≡ true → k ≤ 2000
    le_of k h = grind (arith, nat_tests, h)
