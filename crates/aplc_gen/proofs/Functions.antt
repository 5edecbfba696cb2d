-- The induction: the code of lines does what runs say, however deep calls and lines nest.
use Rattle.std.proofs.Common.{◌≡◌, ℕ, zero, suc, ◌+◌, ◌≤◌, List, [], ◌∷◌, ◌++◌, ⊎_elim, refl, sym, ap, ◌∙◌, subst, arith, append_assoc, append-nil, pos, Bool, true, false, cond, length}
use Rattle.std.specs.Prelude.{Option, Some, None, map, slice_get}
use Rattle.std.proofs.lemmas.List.{map-append}
use Rattle.aplc_arr.specs.Arrays.{Array}
use Rattle.aplc_cprof.specs.declared.syntax.CStmt.{CStmt}
use Rattle.aplc_cprof.specs.declared.syntax.CStmt.TheVariants as stmt
use Rattle.aplc_cprof.specs.Machine.{Todo, Code, Caller, Is, read_int, numbered, size, total, settled, placed}
use Rattle.aplc_cprof.specs.Machine as machine
use Rattle.aplc_cprof.proofs.Rules.{Any, Comes, comes_less, comes_runs}
use Rattle.aplc_cprof.proofs.Paths.{numbered-append}
use Rattle.aplc_cprof.proofs.Matching.{Course, ends_then}
use Rattle.aplc_cprof.proofs.Matching as matching
use Rattle.aplc_cprof.proofs.Singles.{runs_At}
use Rattle.aplc_names.specs.States.{Places, Place, World, State, Marking, Outcome, Gives, and_then, is_among, on_world, depth}
use Rattle.aplc_names.specs.Runs.{place_of, after}
use Rattle.aplc_core.specs.PlainSteps.{Effect, Term, Keep, Store, StoreAt, Call, ReadText, ReadNums, Show, Branch}
use Rattle.aplc_core.specs.CoreRuns.{told, no_slots, CoreRoutine, PlainCore, steps_at, steps_done, begun, core_context, core_run}
use Rattle.aplc_gen.specs.Shown.{place_shown}
use Rattle.aplc_gen.specs.Sound.{nothing_ready, is_line, are_lines}
use Rattle.aplc_gen.specs.Layouts.{Layout, Site, the_routine, the_frame}
use Rattle.aplc_gen.specs.Emitted.{Lead, out, to, computed, lead, may_lead, steps_lead, step_leads, lines_lead, steps_loop, step_loops, lines_loop, landing, first_line, is_entry, known_through, branches, go_to, leave_code, site_at}
use Rattle.aplc_gen.specs.Emitted as emitted
use Rattle.aplc_names.specs.States as states
use Rattle.aplc_gen.specs.Laid.{are_laid_steps, are_laid_lines, known_at_end, steps_fall, lines_fall}
use Rattle.aplc_gen.specs.Relation.{course, Fails, Waits, Bounds, Here, Between, CallsDo, owe, pay}
use Rattle.aplc_gen.specs.Codes.{ending, LeadsOn, for_rest, LineOver, LineDoes, exit_code, end_code, whole_line, Either, AreLines}
use Rattle.aplc_gen.proofs.Writes.{globals_kept, counted_same, counted_other, locals_kept, Looser, between_looser}
use Rattle.aplc_gen.proofs.Frames.{and_left, and_right}
use Rattle.aplc_gen.proofs.Outcomes.{course_then, run_waits, run_line}
use Rattle.aplc_gen.proofs.Leaving.{Left, Stands, Goal}
use Rattle.aplc_gen.proofs.Landing.{Lines, From, from_all, from_next, from_here, or_left, or_right, or_cases}
use Rattle.aplc_gen.proofs.Reaching.{entry_of, loop_of}
use Rattle.aplc_gen.proofs.Knowing.{Among, knows_other}
use Rattle.aplc_gen.proofs.Lines.{at_line, with_fuel, spare, Sits, Room, Line, IsHead, LinesDo, HeadDoes, goal_fuel, waits_here}
use Rattle.aplc_gen.proofs.Stepping.{line_over}
use Rattle.aplc_gen.proofs.Branching.{branch_leads}

-- ---- Lines of the function

line_ok : (p : PlainCore) (f : CoreRoutine) (xs : Lines) (l : ℕ) (x : List Effect) → are_lines p f.header.scope xs ≡ true → slice_get xs l ≡ Some x → is_line p f.header.scope x ≡ true
line_ok p f [] l x ok is = absurd (cc)
line_ok p f (z ∷ zs) zero x ok is = let e : z ≡ x = cc in subst (λ (x : List Effect). is_line p f.header.scope x ≡ true) e (and_left (is_line p f.header.scope z) (are_lines p f.header.scope zs) ok)
line_ok p f (z ∷ zs) (suc l) x ok is = line_ok p f zs l x (and_right (is_line p f.header.scope z) (are_lines p f.header.scope zs) ok) is

pub line_sound : (p : PlainCore) (f : CoreRoutine) (l : ℕ) (x : List Effect) → are_lines p f.header.scope f.steps ≡ true → steps_at f.steps l ≡ Some x → is_line p f.header.scope x ≡ true
line_sound p f zero x ok is = absurd (cc)
line_sound p f (suc l) x ok is = line_ok p f f.steps l x ok is

fall_ok : (rank : ℕ → ℕ) (j : ℕ) (f : CoreRoutine) (xs : Lines) (l : ℕ) (x : List Effect) → lines_fall rank j f xs ≡ true → slice_get xs l ≡ Some x → steps_fall rank j f x ≡ true
fall_ok rank j f [] l x ok is = absurd (cc)
fall_ok rank j f (z ∷ zs) zero x ok is = let e : z ≡ x = cc in subst (λ (x : List Effect). steps_fall rank j f x ≡ true) e (and_left (steps_fall rank j f z) (lines_fall rank j f zs) ok)
fall_ok rank j f (z ∷ zs) (suc l) x ok is = fall_ok rank j f zs l x (and_right (steps_fall rank j f z) (lines_fall rank j f zs) ok) is

line_falls : (rank : ℕ → ℕ) (j : ℕ) (f : CoreRoutine) (l : ℕ) (x : List Effect) → lines_fall rank j f f.steps ≡ true → steps_at f.steps l ≡ Some x → steps_fall rank j f x ≡ true
line_falls rank j f zero x ok is = absurd (cc)
line_falls rank j f (suc l) x ok is = fall_ok rank j f f.steps l x ok is

-- the first line that has steps is not behind another one
first_before : (f : CoreRoutine) (i : ℕ) (xs : Lines) (l : ℕ) (x : Effect) (more : List Effect) → From f i xs → i ≤ l → steps_at f.steps l ≡ Some (x ∷ more) → landing i xs ≤ l
first_before f i [] l x more from le is = omega arith
first_before f i ([] ∷ xs) l x more from le is = first_before f (i + 1) xs l x more (from_next f i [] xs from) (above (λ e. clash (subst (λ k. steps_at f.steps k ≡ Some []) e (from_here f i [] xs from)))) is
  where
    clash : steps_at f.steps l ≡ Some [] → ⊥
    clash a = absurd (cc)

    above : (i ≡ l → ⊥) → i + 1 ≤ l
    above ne = grind (arith, le, ne)
first_before f i ((z ∷ zs) ∷ xs) l x more from le is = le

-- a line to which a branch leads makes the function loop
leads_loop_step : (f : CoreRoutine) (x : Effect) (q : ℕ) → step_leads f x q ≡ true → step_loops f x ≡ true
leads_loop_step f (Branch t) q h = by (lead f t) h
  where
    by : (d : Lead) → may_lead d q ≡ true → cond (emitted.is_out d) false true ≡ true
    by out h = absurd (cc)
    by (to k) h = refl
    by computed h = refl
leads_loop_step f (Keep k t) q h = absurd (cc)
leads_loop_step f (Store i n t) q h = absurd (cc)
leads_loop_step f (StoreAt i n ts t) q h = absurd (cc)
leads_loop_step f (Call i n a b r) q h = absurd (cc)
leads_loop_step f (ReadText i k) q h = absurd (cc)
leads_loop_step f (ReadNums i k) q h = absurd (cc)
leads_loop_step f (Show i t) q h = absurd (cc)

leads_loop_steps : (f : CoreRoutine) (xs : List Effect) (q : ℕ) → steps_lead f xs q ≡ true → steps_loop f xs ≡ true
leads_loop_steps f [] q h = absurd (cc)
leads_loop_steps f (x ∷ xs) q h = ⊎_elim (λ a. or_left (step_loops f x) (steps_loop f xs) (leads_loop_step f x q a)) (λ a. or_right (step_loops f x) (steps_loop f xs) (leads_loop_steps f xs q a)) (or_cases (step_leads f x q) (steps_lead f xs q) h)

pub leads_loop : (f : CoreRoutine) (xs : Lines) (q : ℕ) → lines_lead f xs q ≡ true → lines_loop f xs ≡ true
leads_loop f [] q h = absurd (cc)
leads_loop f (x ∷ xs) q h = ⊎_elim (λ a. or_left (steps_loop f x) (lines_loop f xs) (leads_loop_steps f x q a)) (λ a. or_right (steps_loop f x) (lines_loop f xs) (leads_loop f xs q a)) (or_cases (steps_lead f x q) (lines_lead f xs q) h)

-- ---- The branch that ends a line

pub no_branch : (xs : List Effect) → ending xs ≡ None → branches xs ≡ false
no_branch [] e = refl
no_branch (Branch t ∷ xs) e = absurd (cc)
no_branch (Keep k t ∷ xs) e = no_branch xs e
no_branch (Store i n t ∷ xs) e = no_branch xs e
no_branch (StoreAt i n ts t ∷ xs) e = no_branch xs e
no_branch (Call i n a b r ∷ xs) e = no_branch xs e
no_branch (ReadText i k ∷ xs) e = no_branch xs e
no_branch (ReadNums i k ∷ xs) e = no_branch xs e
no_branch (Show i t ∷ xs) e = no_branch xs e

pub branch_there : (xs : List Effect) (t : Term) → ending xs ≡ Some t → branches xs ≡ true
branch_there [] t e = absurd (cc)
branch_there (Branch u ∷ xs) t e = refl
branch_there (Keep k u ∷ xs) t e = branch_there xs t e
branch_there (Store i n u ∷ xs) t e = branch_there xs t e
branch_there (StoreAt i n ts u ∷ xs) t e = branch_there xs t e
branch_there (Call i n a b r ∷ xs) t e = branch_there xs t e
branch_there (ReadText i k ∷ xs) t e = branch_there xs t e
branch_there (ReadNums i k ∷ xs) t e = branch_there xs t e
branch_there (Show i u ∷ xs) t e = branch_there xs t e

-- where it leads, the line does
ending_leads : (f : CoreRoutine) (xs : List Effect) (t : Term) → ending xs ≡ Some t → (q : ℕ) → may_lead (lead f t) q ≡ true → steps_lead f xs q ≡ true
ending_leads f [] t e q h = absurd (cc)
ending_leads f (Branch u ∷ xs) t e q h = let same : u ≡ t = cc in or_left (may_lead (lead f u) q) (steps_lead f xs q) (ap (λ (v : Term). may_lead (lead f v) q) same ∙ h)
ending_leads f (Keep k u ∷ xs) t e q h = ending_leads f xs t e q h
ending_leads f (Store i n u ∷ xs) t e q h = ending_leads f xs t e q h
ending_leads f (StoreAt i n ts u ∷ xs) t e q h = ending_leads f xs t e q h
ending_leads f (Call i n a b r ∷ xs) t e q h = ending_leads f xs t e q h
ending_leads f (ReadText i k ∷ xs) t e q h = ending_leads f xs t e q h
ending_leads f (ReadNums i k ∷ xs) t e q h = ending_leads f xs t e q h
ending_leads f (Show i u ∷ xs) t e q h = ending_leads f xs t e q h

ending_loops : (f : CoreRoutine) (xs : List Effect) (t : Term) → ending xs ≡ Some t → emitted.is_out (lead f t) ≡ false → steps_loop f xs ≡ true
ending_loops f [] t e h = absurd (cc)
ending_loops f (Branch u ∷ xs) t e h = let same : u ≡ t = cc in or_left (step_loops f (Branch u)) (steps_loop f xs) (ap (λ (v : Term). cond (emitted.is_out (lead f v)) false true) same ∙ ap (λ (z : Bool). cond z false true) h)
ending_loops f (Keep k u ∷ xs) t e h = ending_loops f xs t e h
ending_loops f (Store i n u ∷ xs) t e h = ending_loops f xs t e h
ending_loops f (StoreAt i n ts u ∷ xs) t e h = ending_loops f xs t e h
ending_loops f (Call i n a b r ∷ xs) t e h = ending_loops f xs t e h
ending_loops f (ReadText i k ∷ xs) t e h = ending_loops f xs t e h
ending_loops f (ReadNums i k ∷ xs) t e h = ending_loops f xs t e h
ending_loops f (Show i u ∷ xs) t e h = ending_loops f xs t e h

module _ (c : Code) (n : ℕ) (p : PlainCore) (y : Layout) (m : Marking) (rank : ℕ → ℕ) where
  module _ (first : Bool) (j k : ℕ) (heads : (i : ℕ) → i ≤ k → HeadDoes c n p y m rank i) (calls : CallsDo c n p y m rank k) (lines : LinesDo c n p y m rank true k) where
    abbrev g : Site
    g = site_at y p first j

    abbrev f : CoreRoutine
    f = the_routine (site_at y p first j)

    -- a line that has steps, and that is not left to its arm
    pub body_comes : (through : Bool) (l i : ℕ) (x : Effect) (more_steps : List Effect) (ls : Lines) (mine rest : List CStmt) (known : List ℕ) (head : Todo) (a : Bounds) (behind : List Place) (outer : Places) (cs : List Caller) (S : State) (s : machine.State) →
        n ≤ a.lines → Sits y p rank first j → Stands (site_at y p first j) outer behind cs → Room y rank j behind → (lines_loop f f.steps ≡ true → IsHead (site_at y p first j) head) →
        From f l ((x ∷ more_steps) ∷ ls) → are_laid_steps (site_at y p first j) known (x ∷ more_steps) ≡ true →
        (branches (x ∷ more_steps) ≡ false → are_laid_lines (site_at y p first j) (known_through known (x ∷ more_steps)) true (l + 1) ls ≡ true) →
        (branches (x ∷ more_steps) ≡ true → Among (the_frame (site_at y p first j)).sure (known_through known (x ∷ more_steps))) →
        (branches (x ∷ more_steps) ≡ false → Among (the_frame (site_at y p first j)).sure (known_at_end (site_at y p first j) (known_through known (x ∷ more_steps)) true (l + 1) ls)) →
        Line (site_at y p first j) known l (x ∷ more_steps) mine →
        Either (branches (x ∷ more_steps)) (rest ≡ []) (AreLines (Line (site_at y p first j)) (site_at y p first j) (known_through known (x ∷ more_steps)) true (l + 1) ls rest) →
        s.todo ≡ numbered i (whole_line (site_at y p first j) l (x ∷ more_steps) mine ++ rest) ++ head →
        Between (site_at y p first j) (pay (spare through) (at_line a l (suc k))) known (place_of f.header) behind cs S.world s →
        Comes c Any s (Goal c n (site_at y p first j) (with_fuel (suc k) a) outer cs (core_run p m (suc k) f l S))
    body_comes through l i x more_steps ls mine rest known head a behind outer cs S s more sits stands room loops from laid laid_next sure_now sure_next its later due h = by S.world.left refl
      where
        is : steps_at f.steps l ≡ Some (x ∷ more_steps)
        is = from_here f l (x ∷ more_steps) ls from

        first_le : first_line f ≤ l
        first_le = first_before f 1 f.steps l x more_steps (from_all f) (positive l is) is
          where
            positive : (l : ℕ) → steps_at f.steps l ≡ Some (x ∷ more_steps) → 1 ≤ l
            positive zero e = absurd (cc)
            positive (suc l) e = omega arith

        does : LineDoes c n m rank k (site_at y p first j) known l (x ∷ more_steps) mine
        does = its (record { line = line_sound p f l (x ∷ more_steps) sits.lines is; laid = laid; counts = sits.counts }) c n m rank k calls

        -- where the line's location is set
        mark_bounds : Bounds
        mark_bounds = owe 1 (pay (spare through) (record a { lines = a.lines + 1000; fuel = k }))

        here_marked : (i' : ℕ) (todo : Todo) → S.world.left ≡ suc i' → Here g mark_bounds known nothing_ready no_slots (states.at_line l S.world.places) cs (begun l (x ∷ more_steps) i' S.world) (settled (record (placed (record { name = f.header.title; line = pos l }) s) { todo = todo }))
        here_marked i' todo left =
            let u : machine.State = settled (record (placed (record { name = f.header.title; line = pos l }) s) { todo = todo }) in
            let q = h.common in
            let below = q.below in
            let count = q.count in
            let taken = q.taken in
            let lines = from.count in
            let few = sits.few in
            record {
              common = record {
                globals = globals_kept y S.world s u (λ k le. refl) q.globals;
                counted = counted_other y.counted S.world (begun l (x ∷ more_steps) i' S.world) u refl (counted_same y.counted S.world s u refl q.counted);
                output = q.output;
                marks = ap (λ (ms : List machine.Place). ms ++ record { name = f.header.title; line = pos l } ∷ []) q.marks ∙ ap (λ (name : List ℕ). map place_shown S.world.marks ++ record { name = name; line = pos l } ∷ []) (sym h.function) ∙ sym (map-append place_shown S.world.marks ((states.at_line l S.world.places).here ∷ []));
                behind = q.behind;
                input = q.input;
                below = omega (arith, below, left);
                count = omega (arith, count, left, lines, few);
                taken = omega (arith, taken);
                set = q.set;
              };
              locals = locals_kept g S.world s u (λ k lt. refl) h.locals;
              knows = knows_other g known S.world (begun l (x ∷ more_steps) i' S.world) refl refl h.knows;
              stored = λ k among. absurd (cc);
              ready = λ k i kept. absurd (cc);
              here = ap (λ (name : List ℕ). record { name = name; line = pos l }) (sym h.function);
              places = refl;
              callers = h.callers;
            }

        Next : Option ℕ → State → Outcome (Option Array)
        Next on T = core_run p m k (the_routine (site_at y p first j)) (after l on) T

        -- no branch ends the line
        goes_on : branches (x ∷ more_steps) ≡ false → Either (branches (x ∷ more_steps)) (rest ≡ []) (AreLines (Line (site_at y p first j)) (site_at y p first j) (known_through known (x ∷ more_steps)) true (l + 1) ls rest) → (i' : ℕ) (T : State) (u : machine.State) → u.todo ≡ numbered i' rest ++ head → Between (site_at y p first j) (line_over k a) (known_through known (x ∷ more_steps)) (place_of f.header) behind cs T.world u → Comes c Any u (Goal c n (site_at y p first j) (with_fuel k a) outer cs (core_run p m k (the_routine (site_at y p first j)) (l + 1) T))
        goes_on going code i' T u at b =
            lines first j (l + 1) i' ls rest (known_through known (x ∷ more_steps)) head a behind outer cs T u more sits stands room loops (λ t. let le = first_le in omega (arith, le)) (from_next f l (x ∷ more_steps) ls from) (laid_next going) (sure_next going)
            (subst (λ (z : Bool). Either z (rest ≡ []) (AreLines (Line g) g (known_through known (x ∷ more_steps)) true (l + 1) ls rest)) going code) at
            (between_looser g (line_over k a) (pay 95 (at_line a (l + 1) k)) (known_through known (x ∷ more_steps)) (place_of f.header) behind cs T.world u (record { lines = omega arith; fuel = omega arith; credit = omega arith; set = λ n h. h }) b)

        -- behind the steps
        ends_with : (o : Option Term) → ending (x ∷ more_steps) ≡ o → (i' : ℕ) (on : Option ℕ) (T : State) (u : machine.State) → u.todo ≡ numbered i' (end_code (site_at y p first j) o ++ rest) ++ head → LeadsOn (site_at y p first j) l o on u → Between (site_at y p first j) (line_over k a) (known_through known (x ∷ more_steps)) (place_of f.header) behind cs T.world u → Comes c Any u (Goal c n (site_at y p first j) (with_fuel k a) outer cs (Next on T))
        ends_with None e i' on T u at none b =
            subst (λ (o : Option ℕ). Comes c Any u (Goal c n (site_at y p first j) (with_fuel k a) outer cs (Next o T))) (sym none)
            (goes_on (no_branch (x ∷ more_steps) e) later i' T u at b)
        ends_with (Some t) e i' on T u at to_where b =
            let e' = branch_there (x ∷ more_steps) t e in
            let no_rest : rest ≡ [] = subst (λ (z : Bool). Either z (rest ≡ []) (AreLines (Line g) g (known_through known (x ∷ more_steps)) true (l + 1) ls rest)) e' later in
            branch_leads c n p y m rank first j k heads head a behind outer cs more sits stands room l i' t (known_through known (x ∷ more_steps)) on T u
            (λ q leads. entry_of f l q (x ∷ more_steps) is (ending_leads f (x ∷ more_steps) t e q leads)) (λ inside. loops (loop_of f l (x ∷ more_steps) is (ending_loops f (x ∷ more_steps) t e inside))) (sure_now e')
            (at ∙ ap (λ (zs : List CStmt). numbered i' (exit_code g (lead f t) ++ zs) ++ head) no_rest ∙ ap (λ (zs : List CStmt). numbered i' zs ++ head) (append-nil (exit_code g (lead f t)))) to_where b

        by : (left : ℕ) → S.world.left ≡ left → Comes c Any s (Goal c n (site_at y p first j) (with_fuel (suc k) a) outer cs (core_run p m (suc k) f l S))
        by zero none = waits_here c n p y m rank first j (pay (spare through) (at_line a l (suc k))) known (place_of f.header) behind (with_fuel (suc k) a) outer cs S s (core_run p m (suc k) f l S) (omega (arith, more)) none (run_waits p m k f l (x ∷ more_steps) S is none) h
        by (suc i') some =
            let T : State = on_world (begun l (x ∷ more_steps) i') S in
            let last : List CStmt = end_code g (ending (x ∷ more_steps)) in
            let code = mine ++ (last ++ rest) in
            let i2 = i + size (stmt.At f.header.title (pos l)) in
            let i3 = i2 + total (map size mine) in
            let ps = states.at_line l S.world.places in
            let done : Outcome (Option ℕ) = steps_done (core_context p m (core_run p m k) f) (told (x ∷ more_steps)) (x ∷ more_steps) no_slots T in
            let out : Outcome (Option Array) = and_then done (λ on t. core_run p m k f (after l on) t) in
            subst (λ (o : Outcome (Option Array)). Comes c Any s (Goal c n (site_at y p first j) (with_fuel (suc k) a) outer cs o)) (sym (run_line p m k f l (x ∷ more_steps) S i' is some))
            (comes_less c Any s (Goal c n g (with_fuel k a) outer cs out) (Goal c n g (with_fuel (suc k) a) outer cs out) (λ t d. goal_fuel c n p y m rank first j k (suc k) a outer cs out t (omega arith) d)
            (comes_runs c Any i (stmt.At f.header.title (pos l) ∷ []) (numbered i2 code ++ head) s (Here g mark_bounds known nothing_ready no_slots ps cs T.world) (λ u. ⊥) (Goal c n g (with_fuel k a) outer cs out)
            (due ∙ ap (λ (zs : List CStmt). numbered i (stmt.At f.header.title (pos l) ∷ zs) ++ head) (append_assoc mine last rest))
            (runs_At c Any f.header.title (pos l) s (Here g mark_bounds known nothing_ready no_slots ps cs T.world) (λ u. ⊥) (λ todo. tt) (λ todo. here_marked i' todo some))
            (λ u at q.
            subst (λ (o : Course State (Option Array)). Comes c Any u (matching.Ends c Any State Fails (Waits n) o (Left g (with_fuel k a) outer cs))) (sym (course_then done (λ on t. core_run p m k f (after l on) t)))
            (ends_then c Any State Fails (Waits n) i2 mine (numbered i3 (last ++ rest) ++ head) u (course done) (λ on t. course (core_run p m k f (after l on) t)) (λ on U v. LineOver g mark_bounds known l (x ∷ more_steps) ps cs on U.world v) (Left g (with_fuel k a) outer cs)
            (at ∙ ap (λ (zs : Todo). zs ++ head) (numbered-append i2 mine (last ++ rest)) ∙ append_assoc (numbered i2 mine) (numbered i3 (last ++ rest)) head)
            (does mark_bounds ps cs T u (omega (arith, more)) refl
            (record { few = let few = room.few in let long = around in omega (arith, few, long); shallow = λ none. let low = room.shallow none in let long = around in omega (arith, low, long) })
            (λ none. line_falls rank j f l (x ∷ more_steps) (sits.falls none) is) q)
            (λ on U v at' over.
            ends_with (ending (x ∷ more_steps)) refl i3 on U v at' over.leads
            (between_at U.world v (between_looser g (pay for_rest mark_bounds) (line_over k a) (known_through known (x ∷ more_steps)) ps.here ps.behind cs U.world v (budget through) over.state)))))
            (λ u none. absurd none)))
          where
            around : length S.world.places.behind ≡ length behind
            around = ap (λ (qs : List Place). length qs) h.around

            budget : (t : Bool) → Looser (pay for_rest (owe 1 (pay (spare t) (record a { lines = a.lines + 1000; fuel = k })))) (line_over k a)
            budget true = record { lines = omega arith; fuel = omega arith; credit = omega arith; set = λ n h. h }
            budget false = record { lines = omega arith; fuel = omega arith; credit = omega arith; set = λ n h. h }

            -- the frame is that of the line
            between_at : (W : World) (v : machine.State) → Between g (line_over k a) (known_through known (x ∷ more_steps)) (states.at_line l S.world.places).here (states.at_line l S.world.places).behind cs W v → Between g (line_over k a) (known_through known (x ∷ more_steps)) (place_of f.header) behind cs W v
            between_at W v b = record { common = b.common; locals = b.locals; knows = b.knows; function = b.function ∙ h.function; around = b.around ∙ h.around; callers = b.callers }
