-- What is proved of lines, and how empty lines are gone over.
use Rattle.std.proofs.Common.{◌≡◌, ℕ, zero, suc, ◌+◌, ◌-◌, ◌<◌, ◌≤◌, List, [], ◌∷◌, ◌++◌, ◌⊎◌, inl, inr, refl, sym, ap, ◌∙◌, subst, arith, append-nil, ℤ, Bool, true, false, length}
use Rattle.std.specs.Prelude.{Option, Some, map}
use Rattle.aplc_arr.specs.Arrays.{Array}
use Rattle.aplc_cprof.specs.declared.syntax.Int.TheVariants as int
use Rattle.aplc_cprof.specs.declared.syntax.Arm.{Arm}
use Rattle.aplc_cprof.specs.declared.syntax.CStmt.{CStmt}
use Rattle.aplc_cprof.specs.declared.syntax.CStmt.TheVariants as stmt
use Rattle.aplc_cprof.specs.Machine.{Todo, Code, Caller, Is, read_int, numbered, settled}
use Rattle.aplc_cprof.specs.Machine as machine
use Rattle.aplc_cprof.proofs.Rules.{Any, Comes, comes_now, comes_less}
use Rattle.aplc_names.specs.States.{Places, Place, World, State, Marking, Outcome, Gives, Going, depth, is_among, on_world}
use Rattle.aplc_names.specs.States as outcome
use Rattle.aplc_names.specs.Eager.{line_named}
use Rattle.aplc_names.specs.Runs.{result_of, place_of}
use Rattle.aplc_core.specs.PlainSteps.{Effect}
use Rattle.aplc_core.specs.CoreRuns.{CoreRoutine, PlainCore, steps_at, begun, core_run}
use Rattle.aplc_gen.specs.Shown.{place_shown}
use Rattle.aplc_gen.specs.Sound.{are_lines}
use Rattle.aplc_gen.specs.Layouts.{Layout, Site, the_routine, the_frame, line_place}
use Rattle.aplc_gen.specs.Emitted.{landing, first_line, is_entry, lines_loop, entry_known, is_line_test, site_at}
use Rattle.aplc_gen.specs.Codes.{IsServed, Simulates, AreLines, AreArms, turn_code}
use Rattle.aplc_gen.specs.Laid.{are_laid_lines, known_at_end, lines_fall, is_counted}
use Rattle.aplc_gen.specs.Relation.{Bounds, Between, pay}
use Rattle.aplc_gen.proofs.Writes.{globals_kept, counted_same, counted_other, locals_kept, between_looser}
use Rattle.aplc_gen.proofs.Outcomes.{run_none, run_waits, run_line}
use Rattle.aplc_gen.proofs.Leaving.{left_looser, Stands, Goal}
use Rattle.aplc_gen.proofs.Landing.{Lines, From, from_next, from_here, past_end}
use Rattle.aplc_gen.proofs.Knowing.{Among, SiteLaid, knows_other}

-- ---- Bounds

-- before line l, where k lines may nest: one line is over with each line that is started
abbrev pub at_line : Bounds → ℕ → ℕ → Bounds
at_line a l k = record a { lines = a.lines + (1000 - l); fuel = k }

abbrev pub with_fuel : ℕ → Bounds → Bounds
with_fuel k a = record a { fuel = k }

-- a step pays for a thousand lines
abbrev pub tick : Bounds → Bounds
tick b = record b { lines = b.lines + 1000; owed = b.owed + 1 }

pub between_tick : (g : Site) (b : Bounds) (known : List ℕ) (here : Place) (behind : List Place) (cs : List Caller) (S : World) (s : machine.State) (todo : Todo) → Between g b known here behind cs S s → Between g (tick b) known here behind cs S (settled (record s { todo = todo }))
between_tick g b known here behind cs S s todo h =
    let t : machine.State = settled (record s { todo = todo }) in
    let x = h.common in
    let count = x.count in
    let taken = x.taken in
    record {
      common = record {
        globals = globals_kept g.layout S s t (λ k le. refl) x.globals;
        counted = counted_same g.layout.counted S s t refl x.counted;
        output = x.output;
        marks = x.marks;
        behind = x.behind;
        input = x.input;
        below = x.below;
        count = omega (arith, count);
        taken = omega (arith, taken);
        set = x.set;
      };
      locals = locals_kept g S s t (λ k lt. refl) h.locals;
      knows = h.knows;
      function = h.function;
      around = h.around;
      callers = h.callers;
    }

-- what the lines before have left to spend
abbrev pub spare : Bool → ℕ
spare true = 95
spare false = 60

-- ---- Functions

-- what is known of a function that is written
pub record Sits (y : Layout) (p : PlainCore) (rank : ℕ → ℕ) (first : Bool) (j : ℕ) : Type 0 where
  pub laid : SiteLaid (site_at y p first j)
  pub lines : are_lines p (the_routine (site_at y p first j)).header.scope (the_routine (site_at y p first j)).steps ≡ true
  pub few : length (the_routine (site_at y p first j)).steps ≤ 999
  pub counts : is_counted y.called y.counted ≡ true
  pub falls : y.counted ≡ false → lines_fall rank j (the_routine (site_at y p first j)) (the_routine (site_at y p first j)).steps ≡ true

-- and of the frames that stand
pub record Room (y : Layout) (rank : ℕ → ℕ) (j : ℕ) (behind : List Place) : Type 0 where
  pub few : 1 + length behind ≤ 4096
  pub shallow : y.counted ≡ false → 1 + length behind + rank j ≤ 4096

-- ---- Lines of code

-- what is known of the code of the steps of a line
abbrev pub Line : Site → List ℕ → ℕ → List Effect → List CStmt → Type 0
Line g known l xs code = IsServed g known xs → Simulates g known l xs code

-- ---- Heads of loops

abbrev pub segment : Site → ℕ → List CStmt → CStmt
segment g l body = stmt.While (is_line_test g l) body

-- what is due at the end of an arm: the arm's segment again, within the function's loop
pub record Inner (g : Site) (due : Todo) : Type 0 where
  pub entry : ℕ
  pub lines : Lines
  pub body : List CStmt
  pub all : List Arm
  pub number : ℕ
  pub outer : ℕ
  pub rest : Todo
  pub is : due ≡ (number, segment g (suc entry) body) ∷ (outer, turn_code g all) ∷ rest
  pub code : AreLines (Line g) g (entry_known g (suc entry)) false (suc entry) lines body
  pub arms : AreArms (Line g) g 1 (the_routine g).steps all
  pub from : From (the_routine g) (suc entry) lines
  pub inside : suc entry ≤ length (the_routine g).steps
  pub arm : is_entry (the_routine g) (suc entry) ≡ true

-- the function's loop is due
pub record Outer (g : Site) (due : Todo) : Type 0 where
  pub number : ℕ
  pub all : List Arm
  pub rest : Todo
  pub is : due ≡ (number, turn_code g all) ∷ rest
  pub arms : AreArms (Line g) g 1 (the_routine g).steps all

-- the head of the function's loop, or that of a segment
abbrev pub IsHead : Site → Todo → Type 0
IsHead g due = Outer g due ⊎ Inner g due

module _ (c : Code) (n : ℕ) (p : PlainCore) (y : Layout) (m : Marking) (rank : ℕ → ℕ) where
  -- ---- What is proved for every k

  -- from line l on, where it is only gone through to it or not
  abbrev pub LinesDo : Bool → ℕ → Type 0
  LinesDo through k = (first : Bool) (j : ℕ) (l i : ℕ) (xs : Lines) (code : List CStmt) (known : List ℕ) (head : Todo) (a : Bounds) (behind : List Place) (outer : Places) (cs : List Caller) (S : State) (s : machine.State) →
      n ≤ a.lines → Sits y p rank first j → Stands (site_at y p first j) outer behind cs → Room y rank j behind →
      (lines_loop (the_routine (site_at y p first j)) (the_routine (site_at y p first j)).steps ≡ true → IsHead (site_at y p first j) head) →
      (through ≡ true → first_line (the_routine (site_at y p first j)) < l) →
      From (the_routine (site_at y p first j)) l xs → are_laid_lines (site_at y p first j) known through l xs ≡ true → Among (the_frame (site_at y p first j)).sure (known_at_end (site_at y p first j) known through l xs) →
      AreLines (Line (site_at y p first j)) (site_at y p first j) known through l xs code → s.todo ≡ numbered i code ++ head →
      Between (site_at y p first j) (pay (spare through) (at_line a l k)) known (place_of (the_routine (site_at y p first j)).header) behind cs S.world s →
      Comes c Any s (Goal c n (site_at y p first j) (with_fuel k a) outer cs (core_run p m k (the_routine (site_at y p first j)) l S))

  -- from the head of a loop on, with a number in the line's variable
  abbrev pub HeadDoes : ℕ → Type 0
  HeadDoes k = (first : Bool) (j : ℕ) (head : Todo) (z : ℤ) (known : List ℕ) (a : Bounds) (behind : List Place) (outer : Places) (cs : List Caller) (S : State) (s : machine.State) →
      n ≤ a.lines → Sits y p rank first j → Stands (site_at y p first j) outer behind cs → Room y rank j behind →
      IsHead (site_at y p first j) head → s.todo ≡ head → read_int (int.Local (line_place (site_at y p first j))) s ≡ Is z →
      ((l : ℕ) → line_named z ≡ suc l → suc l ≤ length (the_routine (site_at y p first j)).steps → is_entry (the_routine (site_at y p first j)) (suc l) ≡ true) →
      Among (the_frame (site_at y p first j)).sure known →
      Between (site_at y p first j) (pay 80 (with_fuel k a)) known (place_of (the_routine (site_at y p first j)).header) behind cs S.world s →
      Comes c Any s (Goal c n (site_at y p first j) (with_fuel k a) outer cs (core_run p m k (the_routine (site_at y p first j)) (line_named z) S))

  module _ (first : Bool) (j : ℕ) where
    abbrev g : Site
    g = site_at y p first j

    abbrev f : CoreRoutine
    f = the_routine (site_at y p first j)

    -- a goal for fewer lines
    pub goal_fuel : (i k : ℕ) (a : Bounds) (outer : Places) (cs : List Caller) (out : Outcome (Option Array)) (t : machine.State) → i ≤ k → Goal c n (site_at y p first j) (with_fuel i a) outer cs out t → Goal c n (site_at y p first j) (with_fuel k a) outer cs out t
    goal_fuel i k a outer cs (Gives o T) t le (inl d) = inl (d.0, left_looser g (with_fuel i a) (with_fuel k a) outer cs o T t (record { lines = omega arith; fuel = omega (arith, le); credit = omega arith; set = λ n h. h }) d.1)
    goal_fuel i k a outer cs (Gives o T) t le (inr h) = absurd h
    goal_fuel i k a outer cs (outcome.Faulted e T) t le (inl d) = absurd d.1
    goal_fuel i k a outer cs (outcome.Faulted e T) t le (inr h) = inr h
    goal_fuel i k a outer cs (Going T) t le (inl d) = absurd d.1
    goal_fuel i k a outer cs (Going T) t le (inr h) = inr h

    -- the source waits where no line may start
    pub waits_here : (b : Bounds) (known : List ℕ) (here : Place) (behind : List Place) (e : Bounds) (outer : Places) (cs : List Caller) (S : State) (s : machine.State) (out : Outcome (Option Array)) → n ≤ b.lines → S.world.left ≡ 0 → out ≡ Going S → Between (site_at y p first j) b known here behind cs S.world s → Comes c Any s (Goal c n (site_at y p first j) e outer cs out)
    waits_here b known here behind e outer cs S s out more none is h =
        let count = h.common.count in
        subst (λ (o : Outcome (Option Array)). Comes c Any s (Goal c n (site_at y p first j) e outer cs o)) (sym is)
        (comes_now c Any s (Goal c n (site_at y p first j) e outer cs (Going S)) (inr (record { output = h.common.output; marks = h.common.marks; count = omega (arith, more, none, count) })))

    -- an empty line is over at once
    begun_between : (q l k i : ℕ) (known : List ℕ) (a : Bounds) (behind : List Place) (cs : List Caller) (S : State) (s : machine.State) → l ≤ 999 → S.world.left ≡ suc i → Between (site_at y p first j) (pay q (at_line a l (suc k))) known (place_of f.header) behind cs S.world s → Between (site_at y p first j) (pay q (at_line a (l + 1) k)) known (place_of f.header) behind cs (begun l [] i S.world) s
    begun_between q l k i known a behind cs S s short left h =
        let x = h.common in
        let below = x.below in
        let count = x.count in
        record {
          common = record {
            globals = x.globals;
            counted = counted_other y.counted S.world (begun l [] i S.world) s refl x.counted;
            output = x.output;
            marks = x.marks ∙ ap (map place_shown) (sym (append-nil S.world.marks));
            behind = x.behind;
            input = x.input;
            below = omega (arith, left, below);
            count = omega (arith, left, count, short);
            taken = x.taken;
            set = x.set;
          };
          locals = h.locals;
          knows = knows_other g known S.world (begun l [] i S.world) refl refl h.knows;
          function = h.function;
          around = h.around;
          callers = h.callers;
        }

    -- from an empty line the run goes on with the next one
    pub empty_line : (q l k : ℕ) (known : List ℕ) (a : Bounds) (behind : List Place) (outer : Places) (cs : List Caller) (S : State) (s : machine.State) → n ≤ a.lines → l ≤ 999 → steps_at f.steps l ≡ Some [] → Between (site_at y p first j) (pay q (at_line a l (suc k))) known (place_of f.header) behind cs S.world s → ((T : State) → Between (site_at y p first j) (pay q (at_line a (l + 1) k)) known (place_of f.header) behind cs T.world s → Comes c Any s (Goal c n (site_at y p first j) (with_fuel k a) outer cs (core_run p m k f (l + 1) T))) → Comes c Any s (Goal c n (site_at y p first j) (with_fuel (suc k) a) outer cs (core_run p m (suc k) f l S))
    empty_line q l k known a behind outer cs S s more short is h next = by S.world.left refl
      where
        by : (left : ℕ) → S.world.left ≡ left → Comes c Any s (Goal c n (site_at y p first j) (with_fuel (suc k) a) outer cs (core_run p m (suc k) f l S))
        by zero none = waits_here (pay q (at_line a l (suc k))) known (place_of f.header) behind (with_fuel (suc k) a) outer cs S s (core_run p m (suc k) f l S) (omega (arith, more)) none (run_waits p m k f l [] S is none) h
        by (suc i) some =
            let T : State = on_world (begun l [] i) S in
            subst (λ (o : Outcome (Option Array)). Comes c Any s (Goal c n (site_at y p first j) (with_fuel (suc k) a) outer cs o)) (sym (run_line p m k f l [] S i is some))
            (comes_less c Any s (Goal c n (site_at y p first j) (with_fuel k a) outer cs (core_run p m k f (l + 1) T)) (Goal c n (site_at y p first j) (with_fuel (suc k) a) outer cs (core_run p m k f (l + 1) T))
            (λ t d. goal_fuel k (suc k) a outer cs (core_run p m k f (l + 1) T) t (omega arith) d)
            (next T (begun_between q l k i known a behind cs S s short some h)))

    -- from these lines on the run comes to the first one that has steps, or to the end
    pub skips : (q k l : ℕ) (xs : Lines) (known : List ℕ) (a : Bounds) (behind : List Place) (outer : Places) (cs : List Caller) (S : State) (s : machine.State) → n ≤ a.lines → length f.steps ≤ 999 → From f l xs →
        Between (site_at y p first j) (pay q (at_line a l k)) known (place_of f.header) behind cs S.world s →
        ((i e : ℕ) (T : State) → i ≤ k → landing l xs ≡ suc e → Between (site_at y p first j) (pay q (with_fuel i a)) known (place_of f.header) behind cs T.world s → Comes c Any s (Goal c n (site_at y p first j) (with_fuel i a) outer cs (core_run p m i f (suc e) T))) →
        ((i : ℕ) (T : State) → landing l xs ≡ 0 → Between (site_at y p first j) (pay q (with_fuel i a)) known (place_of f.header) behind cs T.world s → Comes c Any s (Goal c n (site_at y p first j) (with_fuel i a) outer cs (Gives (result_of f.header.result T.world.locals) T))) →
        Comes c Any s (Goal c n (site_at y p first j) (with_fuel k a) outer cs (core_run p m k f l S))
    skips q zero l xs known a behind outer cs S s more few from h lands ends = let below = h.common.below in absurd (omega (arith, below))
    skips q (suc k) l [] known a behind outer cs S s more few from h lands ends =
        subst (λ (o : Outcome (Option Array)). Comes c Any s (Goal c n (site_at y p first j) (with_fuel (suc k) a) outer cs o)) (sym (run_none p m k f l S (past_end f l from)))
        (ends (suc k) S refl (between_looser g (pay q (at_line a l (suc k))) (pay q (with_fuel (suc k) a)) known (place_of f.header) behind cs S.world s (record { lines = omega arith; fuel = omega arith; credit = omega arith; set = λ n h. h }) h))
    skips q (suc k) l ([] ∷ xs) known a behind outer cs S s more few from h lands ends =
        let count = from.count in
        empty_line q l k known a behind outer cs S s more (omega (arith, count, few)) (from_here f l [] xs from) h
        (λ T h. skips q k (l + 1) xs known a behind outer cs T s more few (from_next f l [] xs from) h (λ i e T le. lands i e T (omega (arith, le))) ends)
    skips q (suc k) l ((x ∷ rest) ∷ xs) known a behind outer cs S s more few from h lands ends = by l refl
      where
        by : (l' : ℕ) → l ≡ l' → Comes c Any s (Goal c n (site_at y p first j) (with_fuel (suc k) a) outer cs (core_run p m (suc k) f l S))
        by zero e = absurd (no_zero (subst (λ i. steps_at f.steps i ≡ Some (x ∷ rest)) e (from_here f l (x ∷ rest) xs from)))
          where
            no_zero : steps_at f.steps 0 ≡ Some (x ∷ rest) → ⊥
            no_zero a = absurd (cc)
        by (suc e) is =
            subst (λ i. Comes c Any s (Goal c n (site_at y p first j) (with_fuel (suc k) a) outer cs (core_run p m (suc k) f i S))) (sym is)
            (lands (suc k) e S (omega arith) is (between_looser g (pay q (at_line a l (suc k))) (pay q (with_fuel (suc k) a)) known (place_of f.header) behind cs S.world s (record { lines = omega arith; fuel = omega arith; credit = omega arith; set = λ n h. h }) h))
