-- A call does what the function's run says.
use Rattle.std.proofs.Common.{◌≡◌, ℕ, suc, ◌+◌, ◌≤◌, List, [], ◌∷◌, ◌++◌, inl, inr, ⊎_elim, refl, sym, ap, ◌∙◌, subst, arith, pos, Bool, true, false, cond, length}
use Rattle.std.specs.Prelude.{Option, Some, None, ◌&&◌, nat_eq, slice_get}
use Rattle.std.specs.Option.{option_to_list}
use Rattle.std.proofs.lemmas.Bool.{eq-eqb}
use Rattle.aplc_arr.specs.Arrays.{Array}
use Rattle.aplc_cprof.specs.declared.syntax.Int.TheVariants as int
use Rattle.aplc_cprof.specs.declared.syntax.CExpr.TheVariants as expr
use Rattle.aplc_cprof.specs.declared.syntax.CStmt.{CStmt}
use Rattle.aplc_cprof.specs.declared.syntax.CStmt.TheVariants as stmt
use Rattle.aplc_cprof.specs.Machine.{Todo, Code, Caller, Is, read_int, numbered, size, total, settled}
use Rattle.aplc_cprof.specs.Machine as machine
use Rattle.aplc_cprof.proofs.Paths.{returned}
use Rattle.aplc_cprof.proofs.Values.{value_Lit}
use Rattle.aplc_cprof.proofs.Rules.{Any, Comes, comes_runs}
use Rattle.aplc_cprof.proofs.Functions.{above}
use Rattle.aplc_cprof.proofs.Matching.{Ends}
use Rattle.aplc_cprof.proofs.Writes.{Written, written_here}
use Rattle.aplc_names.specs.PlainPrograms.{Routine}
use Rattle.aplc_names.specs.States.{Places, Place, World, State, Marking, Outcome, Gives, Faulted, Going, and_then, is_among}
use Rattle.aplc_names.specs.Eager.{value_of_name}
use Rattle.aplc_names.specs.Runs.{place_of, frame, back}
use Rattle.aplc_core.specs.CoreRuns.{CoreRoutine, PlainCore, core_run}
use Rattle.aplc_gen.specs.Shown.{place_shown}
use Rattle.aplc_gen.specs.Sound.{is_own, is_own_name, has_own_names}
use Rattle.aplc_gen.specs.Layouts.{Layout, Site, frame_of, function_place, the_routine, the_frame, line_place, global_base}
use Rattle.aplc_gen.specs.Emitted.{landing, first_line, is_entry, entry_known, first_known, lines_loop, steps_loop, go_to, enter_by, enter_code, count_up, clear_code, take_code, site_at}
use Rattle.aplc_gen.specs.Codes.{turn_code, IsRun}
use Rattle.aplc_gen.specs.Relation.{course, Fails, Waits, Returned, Bounds, Between, owe, pay}
use Rattle.aplc_gen.proofs.Writes.{set_does, quiet_written, globals_kept, counted_same, counted_other, globals_local, locals_local, between_kept, between_looser}
use Rattle.aplc_gen.proofs.Frames.{Gone, and_left, and_right, own_value, result_kept}
use Rattle.aplc_gen.proofs.Entered.{entered_world}
use Rattle.aplc_gen.proofs.Leaving.{Stands, Goal}
use Rattle.aplc_gen.specs.Emitted as emitted
use Rattle.aplc_gen.proofs.Landing.{Lines, From, from_all, from_next, eq_of, or_cases, or_left}
use Rattle.aplc_gen.proofs.Reaching.{landing_full}
use Rattle.aplc_gen.proofs.Lines.{at_line, with_fuel, Sits, Room, Line, LinesDo, skips}
use Rattle.aplc_gen.proofs.Heads.{loop_full}

-- ---- The beginning of a function's lines

no_loop : (f : CoreRoutine) (l : ℕ) (xs : Lines) → 1 ≤ l → lines_loop f xs ≡ true → landing l xs ≡ 0 → ⊥
no_loop f l [] le h e = absurd (cc)
no_loop f l ([] ∷ xs) le h e = no_loop f (l + 1) xs (omega arith) h e
no_loop f l ((x ∷ more) ∷ xs) le h e = absurd (omega (arith, le, e))

-- the first line that has steps is a line
landing_inside : (f : CoreRoutine) (l : ℕ) (xs : Lines) (e : ℕ) → From f l xs → landing l xs ≡ suc e → suc e ≤ length f.steps
landing_inside f l [] e from h = absurd (omega (arith, h))
landing_inside f l ([] ∷ xs) e from h = landing_inside f (l + 1) xs e (landing_next f l xs from) h
  where
    landing_next : (f : CoreRoutine) (l : ℕ) (xs : Lines) → From f l ([] ∷ xs) → From f (l + 1) xs
    landing_next f l xs from = from_next f l [] xs from
landing_inside f l ((x ∷ more) ∷ xs) e from h = let count = from.count in omega (arith, count, h)

module _ (c : Code) (n : ℕ) (p : PlainCore) (y : Layout) (m : Marking) (rank : ℕ → ℕ) where
  -- from before the first line
  pub run_starts : (first : Bool) (j k i : ℕ) (code : List CStmt) (a : Bounds) (behind : List Place) (outer : Places) (cs : List Caller) (S : State) (s : machine.State) → ((i : ℕ) → i ≤ k → LinesDo c n p y m rank false i) → n ≤ a.lines → Sits y p rank first j → Stands (site_at y p first j) outer behind cs → Room y rank j behind →
      IsRun (Line (site_at y p first j)) (site_at y p first j) (lines_loop (the_routine (site_at y p first j)) (the_routine (site_at y p first j)).steps) code → s.todo ≡ numbered i code ++ [] →
      Between (site_at y p first j) (pay 80 (at_line a 1 k)) (first_known (site_at y p first j)) (place_of (the_routine (site_at y p first j)).header) behind cs S.world s →
      Comes c Any s (Goal c n (site_at y p first j) (with_fuel k a) outer cs (core_run p m k (the_routine (site_at y p first j)) 1 S))
  run_starts first j k i code a behind outer cs S s does more sits stands room its due h = by (lines_loop (the_routine (site_at y p first j)) (the_routine (site_at y p first j)).steps) refl its
    where
      g : Site
      g = site_at y p first j

      f : CoreRoutine
      f = the_routine (site_at y p first j)

      by : (b : Bool) → lines_loop (the_routine (site_at y p first j)) (the_routine (site_at y p first j)).steps ≡ b → IsRun (Line (site_at y p first j)) (site_at y p first j) b code → Comes c Any s (Goal c n (site_at y p first j) (with_fuel k a) outer cs (core_run p m k (the_routine (site_at y p first j)) 1 S))
      by false none its =
          does k (omega arith) first j 1 i f.steps code (first_known g) [] a behind outer cs S s more sits stands room (λ looping. absurd (differ looping none)) (λ t. absurd (cc)) (from_all f) sits.laid.lines sits.laid.sure its due
          (between_looser g (pay 80 (at_line a 1 k)) (pay 60 (at_line a 1 k)) (first_known g) (place_of f.header) behind cs S.world s (record { lines = omega arith; fuel = omega arith; credit = omega arith; set = λ n h. h }) h)
        where
          differ : lines_loop f f.steps ≡ true → lines_loop f f.steps ≡ false → ⊥
          differ a b = absurd (cc)
      by true looping (all, at, arms) =
          skips c n p y m rank first j 80 k 1 f.steps (first_known g) a behind outer cs S s more sits.few (from_all f) h
          (λ i' e T le found h'.
          comes_runs c Any i (go_to g (first_line f)) (numbered (i + size (stmt.Set (int.Local (line_place g)) (expr.Lit (pos (first_line f))))) (turn_code g all ∷ []) ++ []) s (Written (int.Local (line_place g)) (pos (first_line f)) s) (λ u. ⊥) (Goal c n g (with_fuel i' a) outer cs (core_run p m i' f (suc e) T))
          (due ∙ ap (λ (zs : List CStmt). numbered i zs ++ []) at)
          (set_does c (int.Local (line_place g)) (expr.Lit (pos (first_line f))) s (λ u. ⊥) (pos (first_line f)) (value_Lit (pos (first_line f)) c.tables s))
          (λ u due w.
          loop_full c n p y m rank first j i' (does i' le) e (i + size (stmt.Set (int.Local (line_place g)) (expr.Lit (pos (first_line f))))) all [] (first_known g) a behind outer cs T u more sits stands room arms
          (landing_inside f 1 f.steps e (from_all f) found)
          (or_left (nat_eq (suc e) (first_line f)) (emitted.lines_lead f f.steps (suc e)) (eq-eqb (suc e) (first_line f) (sym found)))
          (landing_full f 1 f.steps e (from_all f) found)
          (λ q among. subst (λ (zs : List ℕ). is_among q zs ≡ true) (ap (λ (b : Bool). cond b (first_known g) (the_frame g).sure) (eq-eqb (suc e) (first_line f) (sym found))) among)
          due (written_here (int.Local (line_place g)) (pos (first_line f)) s u w ∙ ap (λ l. Is (pos l)) found)
          (between_looser g (owe 1 (pay 80 (with_fuel i' a))) (pay 66 (with_fuel i' a)) (first_known g) (place_of f.header) behind cs T.world u (record { lines = omega arith; fuel = omega arith; credit = omega arith; set = λ n h. h })
          (between_kept g (pay 80 (with_fuel i' a)) 1 (first_known g) (place_of f.header) behind cs T.world s u (quiet_written (int.Local (line_place g)) (pos (first_line f)) s u w) (globals_local y (line_place g) (pos (first_line f)) s u w) (locals_local g (line_place g) (pos (first_line f)) s u (omega arith) w) h')))
          (λ u none. absurd none))
          (λ i' T found h'. absurd (no_loop f 1 f.steps (omega arith) looping found))

  -- ---- Arguments

  -- an argument's name is local, and has its value
  pub reads : (f : Routine) (x z : Option Array) (S : World) → has_own_names f ≡ true → (q : ℕ) → is_among q (option_to_list f.left ++ option_to_list f.right) ≡ true → (v : Array) × (frame f x z q ≡ Some v) → (v : Array) × (value_of_name (f.scope q) q (entered_world f x z S) ≡ Some v)
  reads f x z S own q among (v, is) = (v, own_value (f.scope q) q (entered_world f x z S) (own_of f.left f.right among (and_left (is_own_name f.scope f.left) (is_own_name f.scope f.right && is_own_name f.scope f.result) own) (and_left (is_own_name f.scope f.right) (is_own_name f.scope f.result) (and_right (is_own_name f.scope f.left) (is_own_name f.scope f.right && is_own_name f.scope f.result) own))) ∙ is)
    where
      one : (r : Option ℕ) → is_among q (option_to_list r) ≡ true → is_own_name f.scope r ≡ true → is_own (f.scope q) ≡ true
      one None h o = absurd (cc)
      one (Some w) h o = ⊎_elim (λ e. subst (λ i. is_own (f.scope i) ≡ true) (sym (eq_of q w e)) o) (λ e. absurd (cc)) (or_cases (nat_eq q w) false h)

      own_of : (l r : Option ℕ) → is_among q (option_to_list l ++ option_to_list r) ≡ true → is_own_name f.scope l ≡ true → is_own_name f.scope r ≡ true → is_own (f.scope q) ≡ true
      own_of None r h a b = one r h b
      own_of (Some w) r h a b = ⊎_elim (λ e. subst (λ i. is_own (f.scope i) ≡ true) (sym (eq_of q w e)) a) (λ e. one r e b) (or_cases (nat_eq q w) (is_among q (option_to_list r)) h)

  -- ---- Calls

  -- what holds of a function that is called
  pub record Callable (j : ℕ) : Type 0 where
    pub sits : Sits y p rank false j
    pub base_is : global_base y ≡ 5
    pub own : has_own_names (the_routine (site_at y p false j)).header ≡ true
    pub place : ℕ
    pub run : List CStmt
    pub is_run : IsRun (Line (site_at y p false j)) (site_at y p false j) (lines_loop (the_routine (site_at y p false j)) (the_routine (site_at y p false j)).steps) run
    pub body : slice_get c.bodies (function_place y j) ≡ Some (numbered place (enter_code (site_at y p false j) ++ run))

  -- what comes back of it
  abbrev pub Back : (j k : ℕ) (b : Bounds) (S : State) (s : machine.State) → Todo → Option Array → State → machine.State → Type 0
  Back j k b S s rest v T t = (U : State) × (T ≡ back (the_routine (site_at y p false j)).header S U) × Gone (site_at y p false j) (with_fuel k (pay 3000 b)) S.world.places (above s rest) v U.world t

  pub ends_back : (j k : ℕ) (b : Bounds) (S : State) (s : machine.State) (rest : Todo) (o : Outcome (Option Array)) (t : machine.State) → Goal c n (site_at y p false j) (with_fuel k (pay 3000 b)) S.world.places (above s rest) o t → Ends c Any State Fails (Waits n) (course (and_then o (λ v U. Gives v (back (the_routine (site_at y p false j)).header S U)))) (λ v T t. (t.callers ≡ above s rest) × Back j k b S s rest v T t) t
  ends_back j k b S s rest (Gives v U) t (inl d) = inl (d.0, (d.1.callers, (U, refl, d.1)))
  ends_back j k b S s rest (Gives v U) t (inr h) = absurd h
  ends_back j k b S s rest (Faulted e U) t (inl d) = absurd d.1
  ends_back j k b S s rest (Faulted e U) t (inr h) = inr h
  ends_back j k b S s rest (Going U) t (inl d) = absurd d.1
  ends_back j k b S s rest (Going U) t (inr h) = inr h

  pub returned_of : (j k : ℕ) (b : Bounds) (S : State) (s : machine.State) (rest : Todo) (v : Option Array) (T : State) (t : machine.State) → b.fuel ≡ k → s.places.here ≡ place_shown S.world.places.here → Back j k b S s rest v T t → Returned y j (the_routine (site_at y p false j)) b S s v T (returned c s rest t)
  returned_of j k b S s rest v T t fuel here (U, is, gone) =
      let x = gone.common in
      let u = returned c s rest t in
      let below = x.below in
      let count = x.count in
      let taken = x.taken in
      subst (λ (T : State). Returned y j (the_routine (site_at y p false j)) b S s v T u) (sym is)
      (record {
        common = record {
          globals = globals_kept y U.world t u (λ q le. refl) x.globals;
          counted = counted_other y.counted (record U.world { places = S.world.places }) (back (the_routine (site_at y p false j)).header S U).world u refl (counted_same y.counted (record U.world { places = S.world.places }) t u refl x.counted);
          output = x.output;
          marks = x.marks;
          behind = x.behind;
          input = x.input;
          below = omega (arith, below, fuel);
          count = omega (arith, count);
          taken = omega (arith, taken);
          set = x.set;
        };
        locals = refl;
        places = refl;
        here = gone.here ∙ sym here;
        ints = refl;
        callers = refl;
        result = result_kept (is_giving (frame_of y j).sure (the_routine (site_at y p false j)).header.result) (the_routine (site_at y p false j)).header.result v t u refl refl gone.result;
      })
    where
      is_giving : List ℕ → Option ℕ → Bool
      is_giving = emitted.is_giving
