-- Lines of every sort, from what is proved of fewer.
use Rattle.std.proofs.Common.{◌≡◌, ℕ, suc, ◌+◌, ◌<◌, ◌≤◌, List, [], ◌∷◌, ◌++◌, ◌⊎◌, inl, inr, refl, sym, ap, ◌∙◌, subst, arith, pos, Bool, true, false, cond}
use Rattle.std.specs.Prelude.{Option, Some, ◌&&◌, nat_eq}
use Rattle.aplc_arr.specs.Arrays.{Array}
use Rattle.aplc_cprof.specs.declared.syntax.Int.TheVariants as int
use Rattle.aplc_cprof.specs.declared.syntax.CExpr.TheVariants as expr
use Rattle.aplc_cprof.specs.declared.syntax.CStmt.{CStmt}
use Rattle.aplc_cprof.specs.Machine.{Todo, Code, Caller, numbered}
use Rattle.aplc_cprof.specs.Machine as machine
use Rattle.aplc_cprof.proofs.Values.{value_Lit}
use Rattle.aplc_cprof.proofs.Rules.{Any, Comes, comes_runs}
use Rattle.aplc_cprof.proofs.Writes.{Written, written_here}
use Rattle.aplc_names.specs.States.{Places, Place, State, Marking, Outcome, Gives}
use Rattle.aplc_names.specs.States as states
use Rattle.aplc_names.specs.Runs.{place_of}
use Rattle.aplc_core.specs.PlainSteps.{Effect}
use Rattle.aplc_core.specs.CoreRuns.{CoreRoutine, PlainCore, steps_at, core_run}
use Rattle.aplc_gen.specs.Layouts.{Layout, Site, the_routine, the_frame, line_place}
use Rattle.aplc_gen.specs.Emitted.{lines_lead, lines_loop, first_line, is_entry, known_through, branches, go_to, leave_code, site_at}
use Rattle.aplc_gen.specs.Codes.{Either, AreLines, whole_line}
use Rattle.aplc_gen.specs.Laid.{are_laid_steps, are_laid_lines, known_at_end}
use Rattle.aplc_gen.specs.Relation.{Bounds, Between, CallsDo, owe, pay}
use Rattle.aplc_gen.proofs.Writes.{set_does, quiet_written, globals_local, locals_local, between_kept, Looser, between_looser}
use Rattle.aplc_gen.proofs.Frames.{and_left, and_right}
use Rattle.aplc_gen.proofs.Outcomes.{run_none}
use Rattle.aplc_gen.proofs.Leaving.{Stands, Goal}
use Rattle.aplc_gen.proofs.Landing.{Lines, From, from_next, from_here, past_end, or_cases, eq_of}
use Rattle.aplc_gen.proofs.Knowing.{Among}
use Rattle.aplc_gen.proofs.Lines.{at_line, with_fuel, spare, Sits, Room, Line, IsHead, LinesDo, HeadDoes, empty_line}
use Rattle.aplc_gen.proofs.Heads.{leaves}
use Rattle.aplc_gen.proofs.Functions.{leads_loop, body_comes}

module _ (c : Code) (n : ℕ) (p : PlainCore) (y : Layout) (m : Marking) (rank : ℕ → ℕ) where
  -- no line may nest in none
  pub none_do : (through : Bool) → LinesDo c n p y m rank through 0
  none_do through first j l i xs code known head a behind outer cs S s more sits stands room loops passed from laid sure its due h = let below = h.common.below in absurd (omega (arith, below))

  module _ (first : Bool) (j k : ℕ) where
    abbrev g : Site
    g = site_at y p first j

    abbrev f : CoreRoutine
    f = the_routine (site_at y p first j)

    -- behind the last line
    end_comes : (through : Bool) (l i : ℕ) (code : List CStmt) (known : List ℕ) (head : Todo) (a : Bounds) (behind : List Place) (outer : Places) (cs : List Caller) (S : State) (s : machine.State) → Stands (site_at y p first j) outer behind cs → From f l [] → Among (the_frame (site_at y p first j)).sure known →
        code ≡ leave_code (site_at y p first j) → s.todo ≡ numbered i code ++ head → Between (site_at y p first j) (pay (spare through) (at_line a l (suc k))) known (place_of f.header) behind cs S.world s →
        Comes c Any s (Goal c n (site_at y p first j) (with_fuel (suc k) a) outer cs (core_run p m (suc k) f l S))
    end_comes through l i code known head a behind outer cs S s stands from sure its due h =
        subst (λ (o : Outcome (Option Array)). Comes c Any s (Goal c n (site_at y p first j) (with_fuel (suc k) a) outer cs o)) (sym (run_none p m k f l S (past_end f l from)))
        (leaves c n p y m rank first j (pay (spare through) (at_line a l (suc k))) (suc k) a i known behind outer cs head S s stands (loose through) sure (due ∙ ap (λ (zs : List CStmt). numbered i zs ++ head) its) h)
      where
        loose : (t : Bool) → Looser (owe 5 (pay (spare t) (at_line a l (suc k)))) (with_fuel (suc k) a)
        loose true = record { lines = omega arith; fuel = omega arith; credit = omega arith; set = λ n h. h }
        loose false = record { lines = omega arith; fuel = omega arith; credit = omega arith; set = λ n h. h }

    -- an empty line
    empty_comes : (through : Bool) → LinesDo c n p y m rank through k → (l i : ℕ) (xs : Lines) (code : List CStmt) (known : List ℕ) (head : Todo) (a : Bounds) (behind : List Place) (outer : Places) (cs : List Caller) (S : State) (s : machine.State) → n ≤ a.lines → Sits y p rank first j → Stands (site_at y p first j) outer behind cs → Room y rank j behind → (lines_loop f f.steps ≡ true → IsHead (site_at y p first j) head) → (through ≡ true → first_line f < l) →
        From f l ([] ∷ xs) → are_laid_lines (site_at y p first j) known through l ([] ∷ xs) ≡ true → Among (the_frame (site_at y p first j)).sure (known_at_end (site_at y p first j) known through l ([] ∷ xs)) →
        AreLines (Line (site_at y p first j)) (site_at y p first j) known through (l + 1) xs code → s.todo ≡ numbered i code ++ head → Between (site_at y p first j) (pay (spare through) (at_line a l (suc k))) known (place_of f.header) behind cs S.world s →
        Comes c Any s (Goal c n (site_at y p first j) (with_fuel (suc k) a) outer cs (core_run p m (suc k) f l S))
    empty_comes through does l i xs code known head a behind outer cs S s more sits stands room loops passed from laid sure its due h =
        let count = from.count in
        let few = sits.few in
        empty_line c n p y m rank first j (spare through) l k known a behind outer cs S s more (omega (arith, count, few)) (from_here f l [] xs from) h
        (λ T h'. does first j (l + 1) i xs code known head a behind outer cs T s more sits stands room loops (λ t. let lt = passed t in omega (arith, lt)) (from_next f l [] xs from) laid sure its due h')

  module _ (k : ℕ) (heads : (i : ℕ) → i ≤ k → HeadDoes c n p y m rank i) (calls : CallsDo c n p y m rank k) (fresh : LinesDo c n p y m rank false k) (gone : LinesDo c n p y m rank true k) where
    -- lines at which an arm or the function begins
    pub fresh_do : LinesDo c n p y m rank false (suc k)
    fresh_do first j l i [] code known head a behind outer cs S s more sits stands room loops passed from laid sure its due h = end_comes first j k false l i code known head a behind outer cs S s stands from sure its due h
    fresh_do first j l i ([] ∷ xs) code known head a behind outer cs S s more sits stands room loops passed from laid sure its due h = empty_comes first j k false fresh l i xs code known head a behind outer cs S s more sits stands room loops passed from laid sure its due h
    fresh_do first j l i ((x ∷ rest) ∷ ls) code known head a behind outer cs S s more sits stands room loops passed from laid sure (mine, others, at, does, its) due h =
        let g = site_at y p first j in
        let line = x ∷ rest in
        let later = known_through known line in
        body_comes c n p y m rank first j k heads calls gone false l i x rest ls mine others known head a behind outer cs S s more sits stands room loops from
        (and_left (are_laid_steps g known line) (cond (branches line) true (are_laid_lines g later true (l + 1) ls)) laid)
        (λ going. sym (ap (λ (z : Bool). cond z true (are_laid_lines g later true (l + 1) ls)) going) ∙ and_right (are_laid_steps g known line) (cond (branches line) true (are_laid_lines g later true (l + 1) ls)) laid)
        (λ ending e among. subst (λ (zs : List ℕ). is_in e zs ≡ true) (ap (λ (z : Bool). cond z later (known_at_end g later true (l + 1) ls)) ending) (sure e among))
        (λ going e among. subst (λ (zs : List ℕ). is_in e zs ≡ true) (ap (λ (z : Bool). cond z later (known_at_end g later true (l + 1) ls)) going) (sure e among))
        does its (due ∙ ap (λ (zs : List CStmt). numbered i zs ++ head) at) h
      where
        is_in : ℕ → List ℕ → Bool
        is_in e zs = states.is_among e zs

    module _ (all : HeadDoes c n p y m rank (suc k)) where
      -- a line that is left to its arm
      arm_comes : (first : Bool) (j l i : ℕ) (x : Effect) (rest : List Effect) (ls : Lines) (known : List ℕ) (head : Todo) (a : Bounds) (behind : List Place) (outer : Places) (cs : List Caller) (S : State) (s : machine.State) → n ≤ a.lines → Sits y p rank first j → Stands (site_at y p first j) outer behind cs → Room y rank j behind → (lines_loop (the_routine (site_at y p first j)) (the_routine (site_at y p first j)).steps ≡ true → IsHead (site_at y p first j) head) → first_line (the_routine (site_at y p first j)) < l →
          steps_at (the_routine (site_at y p first j)).steps l ≡ Some (x ∷ rest) → is_entry (the_routine (site_at y p first j)) l ≡ true → Among (the_frame (site_at y p first j)).sure known →
          s.todo ≡ numbered i (go_to (site_at y p first j) l) ++ head → Between (site_at y p first j) (pay 95 (at_line a l (suc k))) known (place_of (the_routine (site_at y p first j)).header) behind cs S.world s →
          Comes c Any s (Goal c n (site_at y p first j) (with_fuel (suc k) a) outer cs (core_run p m (suc k) (the_routine (site_at y p first j)) l S))
      arm_comes first j l i x rest ls known head a behind outer cs S s more sits stands room loops before is entry sure due h =
          let g = site_at y p first j in
          let f = the_routine g in
          comes_runs c Any i (go_to g l) head s (Written (int.Local (line_place g)) (pos l) s) (λ u. ⊥) (Goal c n g (with_fuel (suc k) a) outer cs (core_run p m (suc k) f l S)) due
          (set_does c (int.Local (line_place g)) (expr.Lit (pos l)) s (λ u. ⊥) (pos l) (value_Lit (pos l) c.tables s))
          (λ u at w. all first j head (pos l) known a behind outer cs S u more sits stands room (loops (looping (or_cases (nat_eq l (first_line f)) (lines_lead f f.steps l) entry))) at (written_here (int.Local (line_place g)) (pos l) s u w)
          (λ l' same inside. subst (λ q. is_entry f q ≡ true) same entry) sure
          (between_looser g (owe 1 (pay 95 (at_line a l (suc k)))) (pay 80 (with_fuel (suc k) a)) known (place_of f.header) behind cs S.world u (record { lines = omega arith; fuel = omega arith; credit = omega arith; set = λ n h. h })
          (between_kept g (pay 95 (at_line a l (suc k))) 1 known (place_of f.header) behind cs S.world s u (quiet_written (int.Local (line_place g)) (pos l) s u w) (globals_local y (line_place g) (pos l) s u w) (locals_local g (line_place g) (pos l) s u (omega arith) w) h)))
          (λ u none. absurd none)
        where
          looping : (nat_eq l (first_line (the_routine (site_at y p first j))) ≡ true) ⊎ (lines_lead (the_routine (site_at y p first j)) (the_routine (site_at y p first j)).steps l ≡ true) → lines_loop (the_routine (site_at y p first j)) (the_routine (site_at y p first j)).steps ≡ true
          looping (inl e) = let same = eq_of l (first_line (the_routine (site_at y p first j))) e in absurd (omega (arith, same, before))
          looping (inr e) = leads_loop (the_routine (site_at y p first j)) (the_routine (site_at y p first j)).steps l e

      pub through_do : LinesDo c n p y m rank true (suc k)
      through_do first j l i [] code known head a behind outer cs S s more sits stands room loops passed from laid sure its due h = end_comes first j k true l i code known head a behind outer cs S s stands from sure its due h
      through_do first j l i ([] ∷ xs) code known head a behind outer cs S s more sits stands room loops passed from laid sure its due h = empty_comes first j k true gone l i xs code known head a behind outer cs S s more sits stands room loops passed from laid sure its due h
      through_do first j l i ((x ∷ rest) ∷ ls) code known head a behind outer cs S s more sits stands room loops passed from laid sure its due h = by (is_entry (the_routine (site_at y p first j)) l) refl its
        where
          g : Site
          g = site_at y p first j

          line : List Effect
          line = x ∷ rest

          later : List ℕ
          later = known_through known (x ∷ rest)

          is_in : ℕ → List ℕ → Bool
          is_in e zs = states.is_among e zs

          Its : Bool → Type 0
          Its z = Either z (code ≡ go_to (site_at y p first j) l) ((mine : List CStmt) × (others : List CStmt) × (code ≡ whole_line (site_at y p first j) l (x ∷ rest) mine ++ others) × Line (site_at y p first j) known l (x ∷ rest) mine × Either (branches (x ∷ rest)) (others ≡ []) (AreLines (Line (site_at y p first j)) (site_at y p first j) (known_through known (x ∷ rest)) true (l + 1) ls others))

          laid_of : Bool → Bool
          laid_of z = cond z true (are_laid_steps (site_at y p first j) known (x ∷ rest) && cond (branches (x ∷ rest)) true (are_laid_lines (site_at y p first j) (known_through known (x ∷ rest)) true (l + 1) ls))

          end_of : Bool → List ℕ
          end_of z = cond z known (cond (branches (x ∷ rest)) (known_through known (x ∷ rest)) (known_at_end (site_at y p first j) (known_through known (x ∷ rest)) true (l + 1) ls))

          by : (z : Bool) → is_entry (the_routine (site_at y p first j)) l ≡ z → Its (is_entry (the_routine (site_at y p first j)) l) → Comes c Any s (Goal c n (site_at y p first j) (with_fuel (suc k) a) outer cs (core_run p m (suc k) (the_routine (site_at y p first j)) l S))
          by true e its =
              arm_comes first j l i x rest ls known head a behind outer cs S s more sits stands room loops (passed refl) (from_here (the_routine g) l (x ∷ rest) ls from) e
              (λ q among. subst (λ (zs : List ℕ). is_in q zs ≡ true) (ap end_of e) (sure q among))
              (due ∙ ap (λ (zs : List CStmt). numbered i zs ++ head) (subst Its e its)) h
          by false e its = goes_on (subst Its e its)
            where
              goes_on : Its false → Comes c Any s (Goal c n (site_at y p first j) (with_fuel (suc k) a) outer cs (core_run p m (suc k) (the_routine (site_at y p first j)) l S))
              goes_on (mine, others, at, does, its) =
                  let laid' : laid_of false ≡ true = sym (ap laid_of e) ∙ laid in
                  body_comes c n p y m rank first j k heads calls gone true l i x rest ls mine others known head a behind outer cs S s more sits stands room loops from
                  (and_left (are_laid_steps g known line) (cond (branches line) true (are_laid_lines g later true (l + 1) ls)) laid')
                  (λ going. sym (ap (λ (z : Bool). cond z true (are_laid_lines g later true (l + 1) ls)) going) ∙ and_right (are_laid_steps g known line) (cond (branches line) true (are_laid_lines g later true (l + 1) ls)) laid')
                  (λ ending q among. subst (λ (zs : List ℕ). is_in q zs ≡ true) (ap end_of e ∙ ap (λ (z : Bool). cond z later (known_at_end g later true (l + 1) ls)) ending) (sure q among))
                  (λ going q among. subst (λ (zs : List ℕ). is_in q zs ≡ true) (ap end_of e ∙ ap (λ (z : Bool). cond z later (known_at_end g later true (l + 1) ls)) going) (sure q among))
                  does its (due ∙ ap (λ (zs : List CStmt). numbered i zs ++ head) at) h
