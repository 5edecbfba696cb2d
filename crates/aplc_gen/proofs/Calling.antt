-- Every call, and the whole induction.
use Rattle.std.proofs.Common.{◌≡◌, ℕ, zero, suc, ◌+◌, ◌*◌, ◌<◌, ◌≤◌, List, [], ◌∷◌, ◌++◌, ◌⊎◌, inl, inr, ⊎_elim, refl, sym, ap, ◌∙◌, subst, arith, append_assoc, append-nil, Bool, true, false, cond, length}
use Rattle.std.specs.Prelude.{Option, Some, None, ◌&&◌, map, nat_lt, slice_get, unwrap_or}
use Rattle.std.proofs.lemmas.Bool.{cases_lt}
use Rattle.std.proofs.lemmas.Bool.Decides.{nat_tests}
use Rattle.aplc_scalar.specs.declared.kind.FaultKind.TheVariants as fault
use Rattle.aplc_arr.specs.Arrays.{Array}
use Rattle.aplc_cprof.specs.declared.syntax.Int.TheVariants as int
use Rattle.aplc_cprof.specs.declared.syntax.CStmt.{CStmt}
use Rattle.aplc_cprof.specs.declared.syntax.CStmt.TheVariants as stmt
use Rattle.aplc_cprof.specs.Machine.{Todo, Code, Caller, numbered, size, total, settled}
use Rattle.aplc_cprof.specs.Machine as machine
use Rattle.aplc_cprof.proofs.Paths.{numbered-append, called}
use Rattle.aplc_cprof.proofs.Rules as rules
use Rattle.aplc_cprof.proofs.Rules.{Any, Comes, FaultsAt, comes_now, comes_less, comes_runs}
use Rattle.aplc_cprof.proofs.Functions.{above}
use Rattle.aplc_cprof.proofs.Matching.{Course, gives, faults, Ends, matches_Call}
use Rattle.aplc_cprof.proofs.Matching as matching
use Rattle.aplc_names.specs.PlainPrograms.{Routine, header_count}
use Rattle.aplc_names.specs.States.{State, Marking, Outcome, Gives, Faulted, and_then, is_among, depth}
use Rattle.aplc_names.specs.Runs.{place_of, entered, back}
use Rattle.aplc_core.specs.CoreRuns.{CoreRoutine, PlainCore, no_core, core_run, core_called}
use Rattle.aplc_gen.specs.Shown.{place_shown}
use Rattle.aplc_gen.specs.Layouts.{Layout, Site, function_place, routine_at, the_routine, the_frame, global_base}
use Rattle.aplc_gen.specs.Layouts as layouts
use Rattle.aplc_gen.specs.Sound.{is_own_name}
use Rattle.aplc_gen.specs.Emitted.{first_known, enter_by, count_up, clear_code, take_code, site_at}
use Rattle.aplc_gen.specs.Relation.{course, Fails, Waits, Passed, Returned, Bounds, IsCounted, Common, Between, CallsDo, owe, pay}
use Rattle.aplc_gen.proofs.Writes.{globals_kept, counted_same, Looser, between_looser}
use Rattle.aplc_gen.proofs.Frames.{and_right}
use Rattle.aplc_gen.proofs.Entries.{count_up_faults}
use Rattle.aplc_gen.proofs.Entered.{entered_world, enter_does}
use Rattle.aplc_gen.proofs.Leaving.{Goal}
use Rattle.aplc_gen.proofs.Lines.{at_line, with_fuel, tick, LinesDo, HeadDoes}
use Rattle.aplc_gen.proofs.Heads.{head_of}
use Rattle.aplc_gen.proofs.Induction.{none_do, fresh_do, through_do}
use Rattle.aplc_gen.proofs.Calls.{run_starts, reads, Callable, Back, ends_back, returned_of}

module _ (c : Code) (n : ℕ) (p : PlainCore) (y : Layout) (m : Marking) (rank : ℕ → ℕ) (callable : (j : ℕ) → is_among j y.called ≡ true → Callable c n p y m rank j) where
  module _ (k : ℕ) (does : (i : ℕ) → i ≤ k → LinesDo c n p y m rank false i) where
    -- of a function, by its number
    abbrev CallOf : ℕ → CoreRoutine → Type 0
    CallOf j f = (a x : Option Array) (b : Bounds) (S : State) (s : machine.State) →
        n ≤ b.lines → b.fuel ≡ k → is_among j y.called ≡ true → depth S.world.places ≤ 4096 → (y.counted ≡ false → depth S.world.places + 1 + rank j ≤ 4096) →
        Common y b S.world s → s.places.here ≡ place_shown S.world.places.here → Passed f.header.left layouts.left_passed a s → Passed f.header.right layouts.right_passed x s →
        matching.Matches c Any State Fails (Waits n) (stmt.Call (function_place y j) ∷ []) s (course (core_called (core_run p m k) (Some f) a x S)) (Returned y j f b S s)

    call_of : (j : ℕ) → CallOf j (the_routine (site_at y p false j))
    call_of j a x b S s more fuel among few shallow h here left right = by (nat_lt (depth S.world.places) 4096) refl
      where
        g : Site
        g = site_at y p false j

        f : CoreRoutine
        f = the_routine (site_at y p false j)

        k_is : Callable c n p y m rank j
        k_is = callable j among

        o : Outcome (Option Array)
        o = core_run p m k (the_routine (site_at y p false j)) 1 (entered (the_routine (site_at y p false j)).header a x S)

        kont : Option Array → State → Outcome (Option Array)
        kont v U = Gives v (back (the_routine (site_at y p false j)).header S U)

        out_of : Bool → Outcome (Option Array)
        out_of z = cond z (and_then o kont) (Faulted fault.Limit S)

        Start : Todo → Todo → machine.State
        Start rest todo = called c s rest todo

        -- a call takes a step
        ticked : (rest todo : Todo) → Common y (tick b) S.world (called c s rest todo)
        ticked rest todo =
            let t = called c s rest todo in
            let count = h.count in
            let taken = h.taken in
            record {
              globals = globals_kept y S.world s t (λ q le. refl) h.globals;
              counted = counted_same y.counted S.world s t refl h.counted;
              output = h.output;
              marks = h.marks;
              behind = h.behind;
              input = h.input;
              below = h.below;
              count = omega (arith, count);
              taken = omega (arith, taken);
              set = h.set;
            }

        passed_called : (r : Option ℕ) (q : ℕ) (v : Option Array) (rest todo : Todo) → Passed r (int.Global q) v s → Passed r (int.Global q) v (called c s rest todo)
        passed_called None q v rest todo h = tt
        passed_called (Some i) q None rest todo h = h
        passed_called (Some i) q (Some v) rest todo h = record { number = h.number; is = h.is; value = h.value }

        body : List CStmt
        body = enter_by (site_at y p false j) false ++ (callable j among).run

        goes : nat_lt (depth S.world.places) 4096 ≡ true → (rest : Todo) → Comes c Any (called c s rest (numbered k_is.place body)) (Ends c Any State Fails (Waits n) (course (and_then o kont)) (λ v T t. (t.callers ≡ above s rest) × Back c n p y m rank j k b S s rest v T t))
        goes lt rest =
            let s0 = called c s rest (numbered k_is.place body) in
            let enter = enter_by g false in
            let i = k_is.place + total (map size enter) in
            let sits = k_is.sits in
            let less = below lt in
            let run = k_is.run in
            comes_less c Any s0 (Goal c n g (with_fuel k (pay 3000 b)) S.world.places (above s rest) o) (Ends c Any State Fails (Waits n) (course (and_then o kont)) (λ v T t. (t.callers ≡ above s rest) × Back c n p y m rank j k b S s rest v T t))
            (λ t d. ends_back c n p y m rank j k b S s rest o t d)
            (comes_runs c Any k_is.place enter (numbered i run ++ []) s0 (Between g (owe (7 + length (the_frame g).unsure) (pay (4096 * header_count f.header) (tick b))) (first_known g) (place_of f.header) (S.world.places.here ∷ S.world.places.behind) (above s rest) (entered_world f.header a x S.world)) (λ u. ⊥) (Goal c n g (with_fuel k (pay 3000 b)) S.world.places (above s rest) o)
            (numbered-append k_is.place enter run ∙ ap (λ (zs : Todo). numbered k_is.place enter ++ zs) (sym (append-nil (numbered i run))))
            (enter_does c g k_is.base_is refl a x (tick b) (above s rest) S.world s0 (λ u. ⊥) sits.laid.left sits.laid.right (reads c n p y m rank f.header a x S.world k_is.own) less (ticked rest (numbered k_is.place body)) here refl (passed_called f.header.left 2 a rest (numbered k_is.place body) left) (passed_called f.header.right 1 x rest (numbered k_is.place body) right))
            (λ u at q.
            run_starts c n p y m rank false j k i run (pay 3000 b) (S.world.places.here ∷ S.world.places.behind) S.world.places (above s rest) (entered f.header a x S) u does more sits
            (record { calls = λ e. k_is.base_is; called = λ e. refl; alone = λ e. absurd (cc); few = omega (arith, less); laid = sits.laid.result; own = and_right (is_own_name f.header.scope f.header.right) (is_own_name f.header.scope f.header.result) (and_right (is_own_name f.header.scope f.header.left) (and_of f.header) k_is.own) })
            (record { few = omega (arith, less); shallow = λ e. let low = shallow e in omega (arith, low) })
            k_is.is_run at
            (between_looser g (owe (7 + length (the_frame g).unsure) (pay (4096 * header_count f.header) (tick b))) (pay 80 (at_line (pay 3000 b) 1 k)) (first_known g) (place_of f.header) (S.world.places.here ∷ S.world.places.behind) (above s rest) (entered_world f.header a x S.world) u (enough sits.laid.few) q))
            (λ u none. absurd none))
          where
            below : nat_lt (depth S.world.places) 4096 ≡ true → depth S.world.places < 4096
            below h = grind (arith, nat_tests, h)

            and_of : Routine → Bool
            and_of f = is_own_name f.scope f.right && is_own_name f.scope f.result

            enough : length (the_frame g).unsure ≤ header_count f.header → Looser (owe (7 + length (the_frame g).unsure) (pay (4096 * header_count f.header) (tick b))) (pay 80 (at_line (pay 3000 b) 1 k))
            enough le = let e = fuel in record { lines = omega arith; fuel = omega (arith, e); credit = omega (arith, le); set = λ n h. h }

        by : (z : Bool) → nat_lt (depth S.world.places) 4096 ≡ z → matching.Matches c Any State Fails (Waits n) (stmt.Call (function_place y j) ∷ []) s (course (core_called (core_run p m k) (Some (the_routine (site_at y p false j))) a x S)) (Returned y j (the_routine (site_at y p false j)) b S s)
        by true lt =
            subst (λ (z : Bool). matching.Matches c Any State Fails (Waits n) (stmt.Call (function_place y j) ∷ []) s (course (out_of z)) (Returned y j f b S s)) (sym lt)
            (matches_Call c Any State Fails (Waits n) (function_place y j) k_is.place body s (course (and_then o kont)) (Back c n p y m rank j k b S s) (Returned y j f b S s) k_is.body (λ rest todo. tt) (goes lt)
            (λ rest v T t is q. (tt, returned_of c n p y m rank j k b S s rest v T t fuel here q)))
        by false ge =
            subst (λ (z : Bool). matching.Matches c Any State Fails (Waits n) (stmt.Call (function_place y j) ∷ []) s (course (out_of z)) (Returned y j f b S s)) (sym ge)
            (matches_Call c Any State Fails (Waits n) (function_place y j) k_is.place body s limited (λ rest v T t. ⊥) (Returned y j f b S s) k_is.body (λ rest todo. tt) limit
            (λ rest v T t is none. absurd none))
          where
            full : 4096 ≤ depth S.world.places
            full = not_below (depth S.world.places) ge
              where
                not_below : (d : ℕ) → nat_lt d 4096 ≡ false → 4096 ≤ d
                not_below d h = grind (arith, nat_tests, h)

            counts : y.counted ≡ true
            counts = known y.counted refl
              where
                known : (z : Bool) → y.counted ≡ z → y.counted ≡ true
                known true e = e
                known false e = let low = shallow e in let ge = full in absurd (omega (arith, low, ge))

            more_code : List CStmt
            more_code = stmt.Enter ∷ (clear_code g (length (the_frame g).unsure) ++ (take_code g layouts.right_passed f.header.right ++ take_code g layouts.left_passed f.header.left))

            limited : Course State (Option Array)
            limited = faults fault.Limit S

            limit : (rest : Todo) → Comes c Any (called c s rest (numbered k_is.place body)) (Ends c Any State Fails (Waits n) limited (λ v T t. (t.callers ≡ above s rest) × ⊥))
            limit rest =
                let s0 = called c s rest (numbered k_is.place body) in
                let run = k_is.run in
                let i = k_is.place + total (map size (count_up y.counted)) in
                let q = ticked rest (numbered k_is.place body) in
                comes_runs c Any k_is.place (count_up y.counted) (numbered i (more_code ++ run)) s0 (λ u. ⊥) (λ u. FaultsAt c fault.Limit u × Fails fault.Limit S u) (Ends c Any State Fails (Waits n) limited (λ v T t. (t.callers ≡ above s rest) × ⊥))
                (ap (λ (zs : List CStmt). numbered k_is.place zs) (append_assoc (count_up y.counted) more_code run) ∙ numbered-append k_is.place (count_up y.counted) (more_code ++ run))
                (subst (λ (z : Bool). rules.Runs c Any (count_up z) s0 (λ u. ⊥) (λ u. FaultsAt c fault.Limit u × Fails fault.Limit S u)) (sym counts)
                (count_up_faults c g (depth S.world.places) s0 (λ u. ⊥) (λ u. FaultsAt c fault.Limit u × Fails fault.Limit S u) full (counted_of counts q.counted)
                (λ todo stops. (stops, record { output = q.output; marks = q.marks; here = here; behind = q.behind }))))
                (λ u at none. absurd none)
                (λ u stops. comes_now c Any u (Ends c Any State Fails (Waits n) limited (λ v T t. (t.callers ≡ above s rest) × ⊥)) (inr stops))
              where
                counted_of : y.counted ≡ true → IsCounted y.counted S.world (called c s rest (numbered k_is.place body)) → IsCounted true S.world (called c s rest (numbered k_is.place body))
                counted_of e h = subst (λ (z : Bool). IsCounted z S.world (called c s rest (numbered k_is.place body))) e h

    -- the function of a number
    at_number : (j : ℕ) (f : CoreRoutine) → slice_get p.routines j ≡ Some f → routine_at p j ≡ f
    at_number j f is = ap (λ (r : Option CoreRoutine). unwrap_or r no_core) is

    pub calls_of : CallsDo c n p y m rank k
    calls_of j f a x b S s more fuel is among few shallow h here left right =
        subst (λ (f : CoreRoutine). CallOf j f) (at_number j f is) (call_of j) a x b S s more fuel among few shallow h here left right

  -- ---- The induction

  abbrev Both : ℕ → Type 0
  Both k = LinesDo c n p y m rank false k × LinesDo c n p y m rank true k

  abbrev All : ℕ → Type 0
  All k = (i : ℕ) → i ≤ k → Both i

  fresh : (k : ℕ) → All k → (i : ℕ) → i ≤ k → LinesDo c n p y m rank false i
  fresh k all i le = (all i le).0

  next_both : (k : ℕ) → All k → Both (suc k)
  next_both k all =
      let heads : (i : ℕ) → i ≤ k → HeadDoes c n p y m rank i = λ i le. head_of c n p y m rank i (λ q less. (all q (omega (arith, less, le))).0) in
      let calls = calls_of k (fresh k all) in
      let a = fresh_do c n p y m rank k heads calls (all k (omega arith)).0 (all k (omega arith)).1 in
      (a, through_do c n p y m rank k heads calls (all k (omega arith)).0 (all k (omega arith)).1 (head_of c n p y m rank (suc k) (λ q less. below q less a)))
    where
      below : (q : ℕ) → q ≤ suc k → LinesDo c n p y m rank false (suc k) → LinesDo c n p y m rank false q
      below q less a = ⊎_elim (λ lt. (all q (omega (arith, lt))).0) (λ ge. let e : suc k ≡ q = omega (arith, ge, less) in subst (λ i. LinesDo c n p y m rank false i) e a) (cases_lt q (suc k))

  pub all_do : (k : ℕ) → All k
  all_do zero i le = let e : 0 ≡ i = omega (arith, le) in subst Both e (none_do c n p y m rank false, none_do c n p y m rank true)
  all_do (suc k) i le = by (all_do k) (cases_lt i (suc k))
    where
      by : All k → (i < suc k) ⊎ (suc k ≤ i) → Both i
      by all (inl lt) = all i (omega (arith, lt))
      by all (inr ge) = let e : suc k ≡ i = omega (arith, ge, le) in subst Both e (next_both k all)

  -- the code of lines at which the function or an arm begins does what runs say
  pub lines_do : (k i : ℕ) → i ≤ k → LinesDo c n p y m rank false i
  lines_do k i le = (all_do k i le).0
