-- The start of a run, and its end: the C program behaves as the core run does.
use Rattle.std.proofs.Common.{◌≡◌, ℕ, ◌+◌, ◌*◌, ◌<◌, ◌≤◌, List, [], ◌++◌, refl, sym, ap, ◌∙◌, subst, arith, append-nil, pos, Bool, true, false, length}
use Rattle.std.specs.Prelude.{Option, None, ◌&&◌, map, slice_get, unwrap_or, option_and_then}
use Rattle.aplc_arr.specs.Arrays.{Array}
use Rattle.aplc_cprof.specs.declared.syntax.Int.TheVariants as int
use Rattle.aplc_cprof.specs.declared.syntax.CExpr.TheVariants as expr
use Rattle.aplc_cprof.specs.declared.syntax.CStmt.{CStmt}
use Rattle.aplc_cprof.specs.declared.syntax.CFunction.{CFunction}
use Rattle.aplc_cprof.specs.declared.syntax.CProgram.{CProgram}
use Rattle.aplc_cprof.specs.Machine.{Todo, Code, Is, read_int, numbered, size, total, code_of, settled, run}
use Rattle.aplc_cprof.specs.Machine as machine
use Rattle.aplc_cprof.specs.Behaviour.{Standing, behaviour, shown, Alike, IsGoing, IsStuck}
use Rattle.aplc_cprof.specs.Behaviour as standing
use Rattle.aplc_cprof.proofs.Paths.{numbered-append}
use Rattle.aplc_cprof.proofs.Values.{value_Lit}
use Rattle.aplc_cprof.proofs.Same.{machine_of, alike}
use Rattle.aplc_cprof.proofs.Rules.{Any, Comes, Runs, runs_then, runs_less, runs_none, comes_runs}
use Rattle.aplc_cprof.proofs.Functions.{first_due}
use Rattle.aplc_cprof.proofs.Matching.{ends_run, Finishes}
use Rattle.aplc_cprof.proofs.Writes.{Written, written_here, written_other}
use Rattle.aplc_names.specs.States.{Places, World, State, Marking, Outcome, Gives, Faulted, Going, is_among}
use Rattle.aplc_names.specs.Runs.{place_of, initial, run_of}
use Rattle.aplc_core.specs.CoreRuns.{CoreRoutine, PlainCore, core_evaluated, core, core_run}
use Rattle.aplc_gen.specs.Shown.{place_shown, run_shown, core_behaviour}
use Rattle.aplc_gen.specs.Sound.{is_own_name, begins, are_routines, is_sound}
use Rattle.aplc_gen.specs.Layouts.{Layout, Site, place_in, routine_at, the_routine, the_frame, global_base, global_value, global_flag}
use Rattle.aplc_gen.specs.Layouts as layouts
use Rattle.aplc_gen.specs.Emitted.{first_known, count_first, clear_code, site_at}
use Rattle.aplc_gen.specs.Codes.{IsProgramOf}
use Rattle.aplc_gen.specs.Laid.{IsLaid}
use Rattle.aplc_gen.specs.Relation.{course, Fails, Waits, IsNamed, Bounds, IsCounted, Between, pay}
use Rattle.aplc_gen.proofs.Writes.{set_does, place_below, counted_same, between_looser}
use Rattle.aplc_gen.proofs.Frames.{and_right}
use Rattle.aplc_gen.proofs.Entries.{Cleared, clear_does, none_set}
use Rattle.aplc_gen.proofs.Leaving.{Left, Goal}
use Rattle.aplc_gen.proofs.Lines.{at_line, with_fuel, Sits}
use Rattle.aplc_gen.proofs.Calls.{run_starts}
use Rattle.aplc_gen.proofs.Calling.{lines_do}
use Rattle.aplc_gen.proofs.Programs.{ranked, routine_fine, sits_of, callable, source_fine, main_is, run_of_function}

-- what is there when the count of calls is set
record Counting (y : Layout) (input : List ℕ) (W : World) (u : machine.State) : Type 0 where
  pub globals : (x : ℕ) → 0 < x → read_int (int.Global x) u ≡ Is (pos 0)
  pub counted : IsCounted y.counted W u
  pub output : u.output ≡ []
  pub marks : u.marks ≡ []
  pub behind : u.places.behind ≡ []
  pub callers : u.callers ≡ []
  pub input_is : u.input ≡ input
  pub steps : u.steps ≤ 1

-- after so many steps the machine shows what the source does; where the source goes on, it has come far
record Following (z : CProgram) (p : PlainCore) (m : Marking) (input : List ℕ) (n : ℕ) : Type 0 where
  pub steps : ℕ
  pub same : behaviour z input steps ≡ core_behaviour p m input n
  pub far : IsGoing (core_behaviour p m input n) → n ≤ 1000 * steps + 1000

module _ (z : CProgram) (y : Layout) (p : PlainCore) (whole : IsProgramOf y p z) (is : is_sound p ≡ true) (laid : IsLaid y p) (m : Marking) (input : List ℕ) where
  abbrev c : Code
  c = code_of z

  abbrev j : ℕ
  j = unwrap_or p.start 0

  abbrev g : Site
  g = site_at y p true (unwrap_or p.start 0)

  abbrev f : CoreRoutine
  f = routine_at p (unwrap_or p.start 0)

  module _ (n : ℕ) where
    abbrev W : World
    W = (initial (routine_at p (unwrap_or p.start 0)).header input n).world

    abbrev s0 : machine.State
    s0 = machine.initial (code_of z) input

    count_does : (b : Bool) → y.counted ≡ b → Runs (code_of z) Any (count_first b) s0 (Counting y input W) (λ u. ⊥)
    count_does false e = runs_none c Any s0 (Counting y input W) (λ u. ⊥) (λ rest. record { globals = λ x lt. refl; counted = subst (λ (b : Bool). IsCounted b W (record s0 { todo = rest })) (sym e) tt; output = refl; marks = refl; behind = refl; callers = refl; input_is = refl; steps = omega arith })
    count_does true e =
        runs_less c Any (count_first true) s0 (Written layouts.depth (pos 1) s0) (Counting y input W) (λ u. ⊥) (λ u. ⊥)
        (λ u w. let steps = w.steps in record { globals = λ x lt. written_other layouts.depth (int.Global x) (pos 1) s0 u w (global_apart x lt); counted = subst (λ (b : Bool). IsCounted b W u) (sym e) (written_here layouts.depth (pos 1) s0 u w); output = w.output; marks = w.marks; behind = ap (λ (ps : machine.Places). ps.behind) w.places; callers = w.callers; input_is = w.input; steps = omega (arith, steps) })
        (λ u w. w)
        (set_does c layouts.depth (expr.Lit (pos 1)) s0 (λ u. ⊥) (pos 1) (value_Lit (pos 1) c.tables s0))
      where
        global_apart : (x : ℕ) → 0 < x → int.Global x ≡ int.Global 0 → ⊥
        global_apart x lt e = let same : x ≡ 0 = cc in omega (arith, lt, same)

    -- before the first line
    abbrev begin_bounds : Bounds
    begin_bounds = record { lines = n + 1000; fuel = n + 1; paid = 80; owed = 0; set = λ k. false }

    sits : Sits y p (ranked y p laid).rank true (unwrap_or p.start 0)
    sits = sits_of z y p whole is laid m input true (unwrap_or p.start 0) laid.begins

    begins_between : (u w : machine.State) → Counting y input W u → Cleared (code_of z) (site_at y p true (unwrap_or p.start 0)) (length (the_frame (site_at y p true (unwrap_or p.start 0))).unsure) u w → Between (site_at y p true (unwrap_or p.start 0)) begin_bounds (first_known (site_at y p true (unwrap_or p.start 0))) (place_of f.header) [] [] W w
    begins_between u w q k =
        let few = sits.laid.few in
        let steps = q.steps in
        let cost = k.only.quiet.cost in
        record {
          common = record {
            globals = λ i among. unset i among (is_among i y.unsure) refl;
            counted = counted_same y.counted W u w (k.only.globals 0) q.counted;
            output = k.only.quiet.output ∙ q.output;
            marks = k.only.quiet.marks ∙ q.marks;
            behind = ap (λ (ps : machine.Places). ps.behind) k.only.quiet.places ∙ q.behind;
            input = k.only.quiet.input ∙ q.input_is;
            below = omega arith;
            count = omega arith;
            taken = omega (arith, few, steps, cost);
            set = λ i h. absurd (cc);
          };
          locals = (none_set c g [] W u w k).locals;
          knows = λ i among. absurd (cc);
          function = refl;
          around = refl;
          callers = k.only.quiet.callers ∙ q.callers;
        }
      where
        unset : (i : ℕ) → is_among i y.globals ≡ true → (b : Bool) → is_among i y.unsure ≡ b → IsNamed b (global_value y i) (global_flag y i) None w
        unset i among true e = k.only.globals (global_base y + length y.globals + place_in y.unsure i) ∙ q.globals (global_base y + length y.globals + place_in y.unsure i) (let lt = place_below y.globals i among in omega (arith, lt))
        unset i among false e = tt

    abbrev a : Bounds
    a = record { lines = n; fuel = n + 1; paid = 0; owed = 0; set = λ k. false }

    abbrev outer : Places
    outer = (initial (routine_at p (unwrap_or p.start 0)).header input n).world.places

    comes : Comes (code_of z) Any s0 (Goal (code_of z) n (site_at y p true (unwrap_or p.start 0)) (with_fuel (n + 1) a) outer [] (core_run p m (n + 1) (routine_at p (unwrap_or p.start 0)) 1 (initial (routine_at p (unwrap_or p.start 0)).header input n)))
    comes =
        let k = (ranked y p laid).rank in
        let count = count_first y.counted in
        let clear = clear_code g (length (the_frame g).unsure) in
        let body = run_of_function g whole.first whole.begins in
        let run = body.0 in
        let i = 1 + total (map size (count ++ clear)) in
        let own = (routine_fine p p.routines j (and_right (begins (option_and_then (slice_get p.routines) p.start)) (are_routines p p.routines) is)).own in
        comes_runs c Any 1 (count ++ clear) (numbered i run ++ []) s0 (λ w. (u : machine.State) × Counting y input W u × Cleared c g (length (the_frame g).unsure) u w) (λ u. ⊥) (Goal c n g (with_fuel (n + 1) a) outer [] (core_run p m (n + 1) f 1 (initial f.header input n)))
        (first_due z input whole.first (ap (λ (fs : List CFunction). slice_get fs 0) whole.functions) ∙ ap (λ (zs : List CStmt). numbered 1 zs) body.1 ∙ numbered-append 1 (count ++ clear) run ∙ ap (λ (zs : Todo). numbered 1 (count ++ clear) ++ zs) (sym (append-nil (numbered i run))))
        (runs_then c Any count clear s0 (Counting y input W) (λ w. (u : machine.State) × Counting y input W u × Cleared c g (length (the_frame g).unsure) u w) (λ u. ⊥) (count_does y.counted refl)
        (λ u q. runs_less c Any clear u (Cleared c g (length (the_frame g).unsure) u) (λ w. (u : machine.State) × Counting y input W u × Cleared c g (length (the_frame g).unsure) u w) (λ u. ⊥) (λ u. ⊥) (λ w z. (u, q, z)) (λ w z. z) (clear_does c g (length (the_frame g).unsure) u (λ u. ⊥))))
        (λ w at q.
        run_starts c n p y m k true j (n + 1) i run a [] outer [] (initial f.header input n) w (λ i le. lines_do c n p y m k (callable z y p whole is laid m input n) (n + 1) i le) (omega arith) sits
        (record { calls = λ e. absurd (cc); called = λ e. absurd (cc); alone = λ e. refl; few = omega arith; laid = sits.laid.result; own = and_right (is_own_name f.header.scope f.header.right) (is_own_name f.header.scope f.header.result) (and_right (is_own_name f.header.scope f.header.left) (is_own_name f.header.scope f.header.right && is_own_name f.header.scope f.header.result) own) })
        (record { few = omega arith; shallow = λ e. let low = (ranked y p laid).low e j in omega (arith, low) })
        body.2 at
        (between_looser g begin_bounds (pay 80 (at_line a 1 (n + 1))) (first_known g) (place_of f.header) [] [] W w (record { lines = omega arith; fuel = omega arith; credit = omega arith; set = λ n h. h }) (begins_between q.0 w q.1 q.2)))
        (λ u none. absurd none)

    -- what the run comes to
    finish : (o : Outcome (Option Array)) → Finishes (code_of z) Any State Fails (Waits n) s0 (course o) (Left (site_at y p true (unwrap_or p.start 0)) (with_fuel (n + 1) a) outer []) → (k : ℕ) × (shown (run (code_of z) k s0) ≡ run_shown (run_of o)) × (IsGoing (run_shown (run_of o)) → n ≤ 1000 * k + 1000)
    finish (Gives v T) (k, t, ran, left) = (k, ap shown ran ∙ ap (λ o. standing.Ended o t.marks) left.output ∙ ap (standing.Ended T.world.output) left.marks, λ going. absurd going)
    finish (Faulted e T) (k, t, ran, fails) = (
      k,
      ap shown ran
          ∙ ap (λ o. standing.Faulted o t.marks e t.places) fails.output
          ∙ ap (λ ms. standing.Faulted T.world.output ms e t.places) fails.marks
          ∙ ap (λ (q : machine.Place). standing.Faulted T.world.output (map place_shown T.world.marks) e (record { here = q; behind = t.places.behind })) fails.here
          ∙ ap (λ (qs : List machine.Place). standing.Faulted T.world.output (map place_shown T.world.marks) e (record { here = place_shown T.world.places.here; behind = qs })) fails.behind,
      λ going. absurd going,
    )
    finish (Going T) (k, t, ran, taken, waits) =
        let count = waits.count in
        (k, ap shown ran ∙ ap (λ o. standing.Going o t.marks) waits.output ∙ ap (standing.Going T.world.output) waits.marks, λ going. omega (arith, count, taken))

    follows : Following z p m input n
    unfolding behaviour core
    follows =
        let main = main_is z y p whole is laid m input in
        let out : Outcome (Option Array) = core_run p m (n + 1) f 1 (initial f.header input n) in
        let same : core_evaluated p m input n ≡ out = ap (λ (r : CoreRoutine). core_run p m (n + 1) r 1 (initial r.header input n)) main in
        let e = finish out (ends_run c Any State Fails (Waits n) s0 (course out) (Left g (with_fuel (n + 1) a) outer []) (λ v T t left. left.callers) comes) in
        record { steps = e.0; same = e.1 ∙ ap (λ (o : Outcome (Option Array)). run_shown (run_of o)) (sym same); far = λ going. e.2 (subst (λ (o : Outcome (Option Array)). IsGoing (run_shown (run_of o))) same going) }

  -- ---- Same behaviour

  -- the C program behaves as the core run does
  pub programs_alike : Alike (core_behaviour p m input) (behaviour z input)
  programs_alike =
      alike (core_behaviour p m input) (behaviour z input) (machine_of z input) record {
        fine = λ n. source_fine (core p m input n);
        follows = λ n. let q = follows n in record { steps = q.steps; same = q.same };
        far = λ i. (1000 * i + 1000, λ going. let q = follows (1000 * i + 1000) in let le = q.far going in omega (arith, le));
      }
