-- From the head of a loop on: the arm of the line's number, or the way out.
use Rattle.std.proofs.Common.{◌≡◌, ℕ, zero, suc, ◌+◌, ◌<◌, ◌≤◌, List, [], ◌∷◌, ◌++◌, ◌⊎◌, inl, inr, ⊎_elim, refl, sym, ap, ◌∙◌, subst, arith, ℤ, pos, negsuc, Bool, true, false, length}
use Rattle.std.specs.Prelude.{Option, Some, None}
use Rattle.std.proofs.lemmas.Bool.{cases_lt}
use Rattle.std.proofs.lemmas.Bool.{eq-eqb}
use Rattle.aplc_scalar.specs.Scalar.{truth, int_eq}
use Rattle.aplc_arr.specs.Arrays.{Array}
use Rattle.aplc_cprof.specs.declared.syntax.Int.TheVariants as int
use Rattle.aplc_cprof.specs.declared.syntax.Op.TheVariants as op
use Rattle.aplc_cprof.specs.declared.syntax.CExpr.TheVariants as expr
use Rattle.aplc_cprof.specs.declared.syntax.Arm.{Arm}
use Rattle.aplc_cprof.specs.declared.syntax.CStmt.{CStmt}
use Rattle.aplc_cprof.specs.Machine.{Todo, Code, Caller, Is, read_int, numbered, settled, is_zero}
use Rattle.aplc_cprof.specs.Machine as machine
use Rattle.aplc_cprof.proofs.Paths.{picked}
use Rattle.aplc_cprof.proofs.Values.{value_Lit, value_Var, value_Bin}
use Rattle.aplc_cprof.proofs.Rules.{Any, Comes, comes_now, comes_runs}
use Rattle.aplc_cprof.proofs.Loops.{comes_While, comes_picked}
use Rattle.aplc_cprof.proofs.Writes.{Written, written_here}
use Rattle.aplc_names.specs.States.{Places, Place, World, State, Marking, Outcome, Gives, Going, is_among}
use Rattle.aplc_names.specs.States as outcome
use Rattle.aplc_names.specs.Eager.{line_named}
use Rattle.aplc_names.specs.Runs.{result_of, place_of}
use Rattle.aplc_core.specs.CoreRuns.{CoreRoutine, PlainCore, steps_at, core_run}
use Rattle.aplc_gen.specs.Layouts.{Layout, Site, the_routine, the_frame, line_place}
use Rattle.aplc_gen.specs.Emitted.{landing, is_entry, entry_known, is_line_test, site_at, leave_code, go_to, lead_at, lead_code, local}
use Rattle.aplc_gen.specs.Codes.{AreLines, IsArm, AreArms, turn_code}
use Rattle.aplc_gen.specs.Relation.{Bounds, Between, owe, pay}
use Rattle.aplc_gen.proofs.Writes.{set_does, quiet_written, globals_local, locals_local, between_kept, Looser, between_looser}
use Rattle.aplc_gen.proofs.Outcomes.{run_none}
use Rattle.aplc_gen.proofs.Leaving.{left_looser, Stands, Goal, out_does}
use Rattle.aplc_gen.proofs.Landing.{Lines, From, from_all, from_next, from_here, past_lines, eq_of, number_same, picked_arm, no_arm, named_number}
use Rattle.aplc_gen.proofs.Reaching.{Full, all_entries, landing_full}
use Rattle.aplc_gen.proofs.Knowing.{Among, knows_less, arm_laid, entry_less}
use Rattle.aplc_gen.proofs.Lines.{at_line, with_fuel, tick, between_tick, Sits, Room, Line, segment, IsHead, LinesDo, HeadDoes, empty_line, skips}

pub between_less : (g : Site) (b : Bounds) (xs ys : List ℕ) (here : Place) (behind : List Place) (cs : List Caller) (S : World) (s : machine.State) → Among xs ys → Between g b ys here behind cs S s → Between g b xs here behind cs S s
between_less g b xs ys here behind cs S s sub h = record { common = h.common; locals = h.locals; knows = knows_less g xs ys S sub h.knows; function = h.function; around = h.around; callers = h.callers }

pub goal_looser : (c : Code) (n : ℕ) (g : Site) (b e : Bounds) (outer : Places) (cs : List Caller) (out : Outcome (Option Array)) (t : machine.State) → Looser b e → Goal c n g b outer cs out t → Goal c n g e outer cs out t
goal_looser c n g b e outer cs (Gives o T) t l (inl d) = inl (d.0, left_looser g b e outer cs o T t l d.1)
goal_looser c n g b e outer cs (Gives o T) t l (inr h) = absurd h
goal_looser c n g b e outer cs (outcome.Faulted k T) t l (inl d) = absurd d.1
goal_looser c n g b e outer cs (outcome.Faulted k T) t l (inr h) = inr h
goal_looser c n g b e outer cs (Going T) t l (inl d) = absurd d.1
goal_looser c n g b e outer cs (Going T) t l (inr h) = inr h

-- the test of a segment
pub value_test : (c : Code) (g : Site) (l : ℕ) (z : ℤ) (s : machine.State) → read_int (int.Local (line_place g)) s ≡ Is z → machine.value (is_line_test g l) c.tables s ≡ Is (truth (int_eq z (pos l)))
value_test c g l z s is =
    value_Bin op.Equal (local (line_place g)) (expr.Lit (pos l)) c.tables s
    ∙ ap (λ a. machine.apply op.Equal a (machine.value (expr.Lit (pos l)) c.tables s)) (value_Var (int.Local (line_place g)) c.tables s ∙ is)
    ∙ ap (λ b. machine.apply op.Equal (Is z) b) (value_Lit (pos l) c.tables s)

same_number : (l : ℕ) → is_zero (truth (int_eq (pos l) (pos l))) ≡ false
same_number l = ap (λ b. is_zero (truth b)) (number_same l l ∙ eq-eqb l l refl)

module _ (c : Code) (n : ℕ) (p : PlainCore) (y : Layout) (m : Marking) (rank : ℕ → ℕ) (first : Bool) (j : ℕ) where
  abbrev g : Site
  g = site_at y p first j

  abbrev f : CoreRoutine
  f = the_routine (site_at y p first j)

  abbrev Out : ℕ → Bounds → Places → List Caller → ℕ → State → machine.State → Type 0
  Out k a outer cs l S t = Goal c n (site_at y p first j) (with_fuel k a) outer cs (core_run p m k (the_routine (site_at y p first j)) l S) t

  -- the code of the way out, where it is due
  pub leaves : (b : Bounds) (k : ℕ) (a : Bounds) (i : ℕ) (known : List ℕ) (behind : List Place) (outer : Places) (cs : List Caller) (rest : Todo) (S : State) (s : machine.State) → Stands (site_at y p first j) outer behind cs → Looser (owe 5 b) (with_fuel k a) → Among (the_frame (site_at y p first j)).sure known → s.todo ≡ numbered i (leave_code (site_at y p first j)) ++ rest → Between (site_at y p first j) b known (place_of f.header) behind cs S.world s → Comes c Any s (Goal c n (site_at y p first j) (with_fuel k a) outer cs (Gives (result_of f.header.result S.world.locals) S))
  leaves b k a i known behind outer cs rest S s stands loose sure due h =
      comes_runs c Any i (leave_code g) rest s (λ t. ⊥) (Goal c n g (owe 5 b) outer cs (Gives (result_of f.header.result S.world.locals) S)) (Goal c n g (with_fuel k a) outer cs (Gives (result_of f.header.result S.world.locals) S)) due
      (out_does c n g b known (place_of f.header) behind outer cs S s stands sure h)
      (λ t at none. absurd none)
      (λ t d. comes_now c Any t (Goal c n g (with_fuel k a) outer cs (Gives (result_of f.header.result S.world.locals) S)) (goal_looser c n g (owe 5 b) (with_fuel k a) outer cs (Gives (result_of f.header.result S.world.locals) S) t loose d))

  -- a turn of a segment
  pub segment_turns : (k : ℕ) → LinesDo c n p y m rank false k → (l number h : ℕ) (lines : Lines) (body : List CStmt) (all : List Arm) (rest : Todo) (known : List ℕ) (a : Bounds) (behind : List Place) (outer : Places) (cs : List Caller) (S : State) (s : machine.State) → n ≤ a.lines → Sits y p rank first j → Stands (site_at y p first j) outer behind cs → Room y rank j behind →
      From f (suc l) lines → suc l ≤ length f.steps → is_entry f (suc l) ≡ true → Among (entry_known (site_at y p first j) (suc l)) known →
      AreLines (Line (site_at y p first j)) (site_at y p first j) (entry_known (site_at y p first j) (suc l)) false (suc l) lines body → AreArms (Line (site_at y p first j)) (site_at y p first j) 1 f.steps all →
      s.todo ≡ (number, segment (site_at y p first j) (suc l) body) ∷ (h, turn_code (site_at y p first j) all) ∷ rest → read_int (int.Local (line_place (site_at y p first j))) s ≡ Is (pos (suc l)) →
      Between (site_at y p first j) (pay 62 (with_fuel k a)) known (place_of f.header) behind cs S.world s → Comes c Any s (Out k a outer cs (suc l) S)
  segment_turns k does l number h lines body all rest known a behind outer cs S s more sits stands room from inside entry sub code arms due line b =
      let loop : Todo = (h, turn_code g all) ∷ rest in
      let head : Todo = (number, segment g (suc l) body) ∷ loop in
      let laid = arm_laid g sits.laid l lines from inside entry in
      comes_While c Any number (is_line_test g (suc l)) body loop s (Out k a outer cs (suc l) S) (truth (int_eq (pos (suc l)) (pos (suc l)))) false due (value_test c g (suc l) (pos (suc l)) s line) (same_number (suc l)) (λ todo. tt)
      (does first j (suc l) (number + 1) lines body (entry_known g (suc l)) head a behind outer cs S (settled (record s { todo = numbered (number + 1) body ++ head })) more sits stands room
      (λ looping. inr (record { entry = l; lines = lines; body = body; all = all; number = number; outer = h; rest = rest; is = refl; code = code; arms = arms; from = from; inside = inside; arm = entry }))
      (λ none. absurd (cc)) from laid.laid laid.sure code refl
      (between_looser g (tick (pay 62 (with_fuel k a))) (pay 60 (at_line a (suc l) k)) (entry_known g (suc l)) (place_of f.header) behind cs S.world (settled (record s { todo = numbered (number + 1) body ++ head })) (record { lines = omega arith; fuel = omega arith; credit = omega arith; set = λ n h. h })
      (between_less g (tick (pay 62 (with_fuel k a))) (entry_known g (suc l)) known (place_of f.header) behind cs S.world (settled (record s { todo = numbered (number + 1) body ++ head })) sub (between_tick g (pay 62 (with_fuel k a)) known (place_of f.header) behind cs S.world s (numbered (number + 1) body ++ head) b))))

  -- ---- The function's loop

  -- a turn of it
  turns : (h : ℕ) (all : List Arm) (rest : Todo) (s : machine.State) (z : ℤ) (Goal' : machine.State → Type 0) → s.todo ≡ (h, turn_code (site_at y p first j) all) ∷ rest → read_int (int.Local (line_place (site_at y p first j))) s ≡ Is z → ((i : ℕ) → Comes c Any (settled (settled (record s { todo = numbered i (picked z all (leave_code (site_at y p first j))) ++ ((h, turn_code (site_at y p first j) all) ∷ rest) }))) Goal') → Comes c Any s Goal'
  turns h all rest s z Goal' due line goes =
      comes_picked c Any h (expr.Lit (pos 1)) (int.Local (line_place g)) all (leave_code g) rest s Goal' (pos 1) z due (value_Lit (pos 1) c.tables s) refl line (λ todo. tt) (λ todo. tt) goes

  twice : (b : Bounds) (known : List ℕ) (behind : List Place) (cs : List Caller) (S : World) (s : machine.State) (todo : Todo) → Between (site_at y p first j) b known (place_of f.header) behind cs S s → Between (site_at y p first j) (tick (tick b)) known (place_of f.header) behind cs S (settled (settled (record s { todo = todo })))
  twice b known behind cs S s todo h = between_tick g (tick b) known (place_of f.header) behind cs S (settled (record s { todo = todo })) todo (between_tick g b known (place_of f.header) behind cs S s todo h)

  -- with the number of a line that has steps
  pub loop_full : (k : ℕ) → LinesDo c n p y m rank false k → (l h : ℕ) (all : List Arm) (rest : Todo) (known : List ℕ) (a : Bounds) (behind : List Place) (outer : Places) (cs : List Caller) (S : State) (s : machine.State) → n ≤ a.lines → Sits y p rank first j → Stands (site_at y p first j) outer behind cs → Room y rank j behind →
      AreArms (Line (site_at y p first j)) (site_at y p first j) 1 f.steps all → suc l ≤ length f.steps → is_entry f (suc l) ≡ true → Full f (suc l) → Among (entry_known (site_at y p first j) (suc l)) known →
      s.todo ≡ (h, turn_code (site_at y p first j) all) ∷ rest → read_int (int.Local (line_place (site_at y p first j))) s ≡ Is (pos (suc l)) →
      Between (site_at y p first j) (pay 66 (with_fuel k a)) known (place_of f.header) behind cs S.world s → Comes c Any s (Out k a outer cs (suc l) S)
  loop_full k does l h all rest known a behind outer cs S s more sits stands room arms inside entry full sub due line b =
      let arm = picked_arm (Line g) g (suc l) 1 f.steps all (leave_code g) arms (from_all f) (omega arith) (omega (arith, inside)) entry in
      turns h all rest s (pos (suc l)) (Out k a outer cs (suc l) S) due line (λ i. at_arm i arm.lines arm.code arm.from arm.is arm.arm)
    where
      at_arm : (i : ℕ) (lines : Lines) (code : List CStmt) → From f (suc l) lines → IsArm (Line (site_at y p first j)) (site_at y p first j) (suc l) lines code → picked (pos (suc l)) all (leave_code (site_at y p first j)) ≡ code → Comes c Any (settled (settled (record s { todo = numbered i (picked (pos (suc l)) all (leave_code (site_at y p first j))) ++ ((h, turn_code (site_at y p first j) all) ∷ rest) }))) (Out k a outer cs (suc l) S)
      at_arm i [] code from is at = let count = from.count in absurd (omega (arith, count, inside))
      at_arm i ([] ∷ xs) code from is at = absurd (clash (from_here f (suc l) [] xs from) full.is)
        where
          clash : steps_at f.steps (suc l) ≡ Some [] → steps_at f.steps (suc l) ≡ Some (full.first ∷ full.more) → ⊥
          clash a b = absurd (cc)
      at_arm i ((x ∷ xs) ∷ ls) code from (body, is, lines) at =
          let todo : Todo = numbered i (picked (pos (suc l)) all (leave_code g)) ++ ((h, turn_code g all) ∷ rest) in
          segment_turns k does l i h ((x ∷ xs) ∷ ls) body all rest known a behind outer cs S (settled (settled (record s { todo = todo }))) more sits stands room from inside entry sub lines arms
          (ap (λ (code : List CStmt). numbered i code ++ ((h, turn_code g all) ∷ rest)) (at ∙ is)) line
          (between_looser g (tick (tick (pay 66 (with_fuel k a)))) (pay 62 (with_fuel k a)) known (place_of f.header) behind cs S.world (settled (settled (record s { todo = todo }))) (record { lines = omega arith; fuel = omega arith; credit = omega arith; set = λ n h. h }) (twice (pay 66 (with_fuel k a)) known behind cs S.world s todo b))

  -- with any number, from where as many lines may nest as are proved
  module _ (k : ℕ) (does : (i : ℕ) → i ≤ k → LinesDo c n p y m rank false i) where
    -- a number that names no line
    loop_out : (h : ℕ) (all : List Arm) (rest : Todo) (z : ℤ) (known : List ℕ) (a : Bounds) (behind : List Place) (outer : Places) (cs : List Caller) (S : State) (s : machine.State) → Stands (site_at y p first j) outer behind cs →
        AreArms (Line (site_at y p first j)) (site_at y p first j) 1 f.steps all → (line_named z ≡ 0) ⊎ (length f.steps < line_named z) → Among (the_frame (site_at y p first j)).sure known →
        s.todo ≡ (h, turn_code (site_at y p first j) all) ∷ rest → read_int (int.Local (line_place (site_at y p first j))) s ≡ Is z →
        Between (site_at y p first j) (pay 76 (with_fuel k a)) known (place_of f.header) behind cs S.world s → Comes c Any s (Out k a outer cs (line_named z) S)
    loop_out h all rest z known a behind outer cs S s stands arms past sure due line b =
        subst (λ (o : Outcome (Option Array)). Comes c Any s (Goal c n (site_at y p first j) (with_fuel k a) outer cs o)) (sym (by k b.common.below))
        (turns h all rest s z (Goal c n (site_at y p first j) (with_fuel k a) outer cs (Gives (result_of f.header.result S.world.locals) S)) due line
        (λ i.
        let todo : Todo = numbered i (picked z all (leave_code g)) ++ ((h, turn_code g all) ∷ rest) in
        leaves (tick (tick (pay 76 (with_fuel k a)))) k a i known behind outer cs ((h, turn_code g all) ∷ rest) S (settled (settled (record s { todo = todo }))) stands (record { lines = omega arith; fuel = omega arith; credit = omega arith; set = λ n h. h }) sure
        (ap (λ (code : List CStmt). numbered i code ++ ((h, turn_code g all) ∷ rest)) (no_arm (Line g) g z all (leave_code g) arms past))
        (twice (pay 76 (with_fuel k a)) known behind cs S.world s todo b)))
      where
        by : (i : ℕ) → S.world.left < i → core_run p m i (the_routine (site_at y p first j)) (line_named z) S ≡ Gives (result_of f.header.result S.world.locals) S
        by zero lt = absurd (omega (arith, lt))
        by (suc i) lt = run_none p m i f (line_named z) S (past_lines f (line_named z) past)

    -- an empty line leads on to the next one that has steps, or out
    loop_empty : (l h i : ℕ) (xs : Lines) (code : List CStmt) (all : List Arm) (rest : Todo) (known : List ℕ) (a : Bounds) (behind : List Place) (outer : Places) (cs : List Caller) (S : State) (t : machine.State) → n ≤ a.lines → Sits y p rank first j → Stands (site_at y p first j) outer behind cs → Room y rank j behind →
        From f (suc l) ([] ∷ xs) → is_entry f (suc l) ≡ true → Among (the_frame (site_at y p first j)).sure known →
        code ≡ lead_code (site_at y p first j) (lead_at (landing (suc l + 1) xs)) → AreArms (Line (site_at y p first j)) (site_at y p first j) 1 f.steps all → t.todo ≡ numbered i code ++ ((h, turn_code (site_at y p first j) all) ∷ rest) →
        Between (site_at y p first j) (pay 74 (at_line a (suc l) k)) known (place_of f.header) behind cs S.world t → Comes c Any t (Out k a outer cs (suc l) S)
    loop_empty l h i xs code all rest known a behind outer cs S t more sits stands room from entry sure code_is arms due b = by k (omega arith) b
      where
        count : suc l + length ([] ∷ xs) ≡ suc (length f.steps)
        count = from.count

        short : suc l ≤ 999
        short = let few = sits.few in let e = from.count in omega (arith, e, few)

        behind_from : From f (suc l + 1) xs
        behind_from = from_next f (suc l) [] xs from

        goes : (i' e : ℕ) (T : State) → i' ≤ k → landing (suc l + 1) xs ≡ suc e → Between (site_at y p first j) (pay 74 (with_fuel i' a)) known (place_of f.header) behind cs T.world t → Comes c Any t (Out i' a outer cs (suc e) T)
        goes i' e T le lands h' =
            let code_there : code ≡ go_to g (suc e) = code_is ∙ ap (λ x. lead_code g (lead_at x)) lands in
            comes_runs c Any i (go_to g (suc e)) ((h, turn_code g all) ∷ rest) t (Written (int.Local (line_place g)) (pos (suc e)) t) (λ u. ⊥) (Out i' a outer cs (suc e) T)
            (due ∙ ap (λ (code : List CStmt). numbered i code ++ ((h, turn_code g all) ∷ rest)) code_there)
            (set_does c (int.Local (line_place g)) (expr.Lit (pos (suc e))) t (λ u. ⊥) (pos (suc e)) (value_Lit (pos (suc e)) c.tables t))
            (λ u at w.
            loop_full i' (does i' le) e h all rest known a behind outer cs T u more sits stands room arms
            (let full = landing_full f (suc l + 1) xs e behind_from lands in inside e full)
            (all_entries f (suc l) (from_here f (suc l) [] xs from) entry (suc e))
            (landing_full f (suc l + 1) xs e behind_from lands)
            (λ x among. sure x (entry_less g sits.laid (suc e) x among))
            at (written_here (int.Local (line_place g)) (pos (suc e)) t u w)
            (between_looser g (owe 1 (pay 74 (with_fuel i' a))) (pay 66 (with_fuel i' a)) known (place_of f.header) behind cs T.world u (record { lines = omega arith; fuel = omega arith; credit = omega arith; set = λ n h. h })
            (between_kept g (pay 74 (with_fuel i' a)) 1 known (place_of f.header) behind cs T.world t u (quiet_written (int.Local (line_place g)) (pos (suc e)) t u w) (globals_local y (line_place g) (pos (suc e)) t u w) (locals_local g (line_place g) (pos (suc e)) t u (omega arith) w) h')))
            (λ u none. absurd none)
          where
            inside : (e : ℕ) → Full f (suc e) → suc e ≤ length f.steps
            inside e full = ⊎_elim (λ lt. absurd (past (past_lines f (suc e) (inr lt)) full.is)) (λ le. le) (cases_lt (length f.steps) (suc e))
              where
                past : steps_at f.steps (suc e) ≡ None → steps_at f.steps (suc e) ≡ Some (full.first ∷ full.more) → ⊥
                past a b = absurd (cc)

        ends : (i' : ℕ) (T : State) → landing (suc l + 1) xs ≡ 0 → Between (site_at y p first j) (pay 74 (with_fuel i' a)) known (place_of f.header) behind cs T.world t → Comes c Any t (Goal c n (site_at y p first j) (with_fuel i' a) outer cs (Gives (result_of f.header.result T.world.locals) T))
        ends i' T lands h' =
            let code_there : code ≡ leave_code g = code_is ∙ ap (λ x. lead_code g (lead_at x)) lands in
            leaves (pay 74 (with_fuel i' a)) i' a i known behind outer cs ((h, turn_code g all) ∷ rest) T t stands (record { lines = omega arith; fuel = omega arith; credit = omega arith; set = λ n h. h }) sure
            (due ∙ ap (λ (code : List CStmt). numbered i code ++ ((h, turn_code g all) ∷ rest)) code_there) h'

        by : (k' : ℕ) → k' ≤ k → Between (site_at y p first j) (pay 74 (at_line a (suc l) k')) known (place_of f.header) behind cs S.world t → Comes c Any t (Out k' a outer cs (suc l) S)
        by zero le b = let below = b.common.below in absurd (omega (arith, below))
        by (suc k') le b =
            empty_line c n p y m rank first j 74 (suc l) k' known a behind outer cs S t more short (from_here f (suc l) [] xs from) b
            (λ T h'. skips c n p y m rank first j 74 k' (suc l + 1) xs known a behind outer cs T t more sits.few behind_from h' (λ i' e U less lands h''. goes i' e U (omega (arith, less, le)) lands h'') ends)

    pub loop_any : (h : ℕ) (all : List Arm) (rest : Todo) (z : ℤ) (known : List ℕ) (a : Bounds) (behind : List Place) (outer : Places) (cs : List Caller) (S : State) (s : machine.State) → n ≤ a.lines → Sits y p rank first j → Stands (site_at y p first j) outer behind cs → Room y rank j behind →
        ((l : ℕ) → line_named z ≡ suc l → suc l ≤ length f.steps → is_entry f (suc l) ≡ true) → Among (the_frame (site_at y p first j)).sure known →
        AreArms (Line (site_at y p first j)) (site_at y p first j) 1 f.steps all → s.todo ≡ (h, turn_code (site_at y p first j) all) ∷ rest → read_int (int.Local (line_place (site_at y p first j))) s ≡ Is z →
        Between (site_at y p first j) (pay 76 (with_fuel k a)) known (place_of f.header) behind cs S.world s → Comes c Any s (Out k a outer cs (line_named z) S)
    loop_any h all rest z known a behind outer cs S s more sits stands room entry sure arms due line b = by (line_named z) refl
      where
        by : (i : ℕ) → line_named z ≡ i → Comes c Any s (Out k a outer cs (line_named z) S)
        by zero e = loop_out h all rest z known a behind outer cs S s stands arms (inl e) sure due line b
        by (suc l) e = ⊎_elim (λ lt. loop_out h all rest z known a behind outer cs S s stands arms (inr (let q = e in omega (arith, lt, q))) sure due line b) (λ le. within le) (cases_lt (length f.steps) (suc l))
          where
            within : suc l ≤ length f.steps → Comes c Any s (Out k a outer cs (line_named z) S)
            within le =
                let is = named_number z l e in
                let arm = picked_arm (Line g) g (suc l) 1 f.steps all (leave_code g) arms (from_all f) (omega arith) (omega (arith, le)) (entry l e le) in
                subst (λ o. Comes c Any s (Out k a outer cs o S)) (sym e)
                (turns h all rest s z (Out k a outer cs (suc l) S) due line
                (λ i. at_arm i arm.lines arm.code arm.from arm.is (ap (λ w. picked w all (leave_code (site_at y p first j))) is ∙ arm.arm)))
              where
                at_arm : (i : ℕ) (lines : Lines) (code : List CStmt) → From f (suc l) lines → IsArm (Line (site_at y p first j)) (site_at y p first j) (suc l) lines code → picked z all (leave_code (site_at y p first j)) ≡ code → Comes c Any (settled (settled (record s { todo = numbered i (picked z all (leave_code (site_at y p first j))) ++ ((h, turn_code (site_at y p first j) all) ∷ rest) }))) (Out k a outer cs (suc l) S)
                at_arm i [] code from is at = let count = from.count in absurd (omega (arith, count, le))
                at_arm i ([] ∷ xs) code from is at =
                    let todo : Todo = numbered i (picked z all (leave_code g)) ++ ((h, turn_code g all) ∷ rest) in
                    loop_empty l h i xs code all rest known a behind outer cs S (settled (settled (record s { todo = todo }))) more sits stands room from (entry l e le) sure is arms
                    (ap (λ (code : List CStmt). numbered i code ++ ((h, turn_code g all) ∷ rest)) at)
                    (between_looser g (tick (tick (pay 76 (with_fuel k a)))) (pay 74 (at_line a (suc l) k)) known (place_of f.header) behind cs S.world (settled (settled (record s { todo = todo }))) (record { lines = omega arith; fuel = omega arith; credit = omega arith; set = λ n h. h }) (twice (pay 76 (with_fuel k a)) known behind cs S.world s todo b))
                at_arm i ((x ∷ xs) ∷ ls) code from (body, is, lines) at =
                    let todo : Todo = numbered i (picked z all (leave_code g)) ++ ((h, turn_code g all) ∷ rest) in
                    segment_turns k (does k (omega arith)) l i h ((x ∷ xs) ∷ ls) body all rest known a behind outer cs S (settled (settled (record s { todo = todo }))) more sits stands room from le (entry l e le) (λ x among. sure x (entry_less g sits.laid (suc l) x among)) lines arms
                    (ap (λ (code : List CStmt). numbered i code ++ ((h, turn_code g all) ∷ rest)) (at ∙ is)) (line ∙ ap Is (named_number z l e))
                    (between_looser g (tick (tick (pay 76 (with_fuel k a)))) (pay 62 (with_fuel k a)) known (place_of f.header) behind cs S.world (settled (settled (record s { todo = todo }))) (record { lines = omega arith; fuel = omega arith; credit = omega arith; set = λ n h. h }) (twice (pay 76 (with_fuel k a)) known behind cs S.world s todo b))

    -- at the head of the loop, or at that of a segment
    pub head_does : (head : Todo) (z : ℤ) (known : List ℕ) (a : Bounds) (behind : List Place) (outer : Places) (cs : List Caller) (S : State) (s : machine.State) → n ≤ a.lines → Sits y p rank first j → Stands (site_at y p first j) outer behind cs → Room y rank j behind →
        IsHead (site_at y p first j) head → s.todo ≡ head → read_int (int.Local (line_place (site_at y p first j))) s ≡ Is z →
        ((l : ℕ) → line_named z ≡ suc l → suc l ≤ length f.steps → is_entry f (suc l) ≡ true) → Among (the_frame (site_at y p first j)).sure known →
        Between (site_at y p first j) (pay 80 (with_fuel k a)) known (place_of f.header) behind cs S.world s → Comes c Any s (Out k a outer cs (line_named z) S)
    head_does head z known a behind outer cs S s more sits stands room (inl o) due line entry sure b =
        loop_any o.number o.all o.rest z known a behind outer cs S s more sits stands room entry sure o.arms (due ∙ o.is) line
        (between_looser g (pay 80 (with_fuel k a)) (pay 76 (with_fuel k a)) known (place_of f.header) behind cs S.world s (record { lines = omega arith; fuel = omega arith; credit = omega arith; set = λ n h. h }) b)
    head_does head z known a behind outer cs S s more sits stands room (inr i) due line entry sure b = by (int_eq z (pos (suc i.entry))) refl
      where
        same : (x : ℤ) → int_eq x (pos (suc i.entry)) ≡ true → x ≡ pos (suc i.entry)
        same (pos x) e = ap pos (eq_of x (suc i.entry) (sym (number_same x (suc i.entry)) ∙ e))
        same (negsuc x) e = absurd (cc)

        by : (t : Bool) → int_eq z (pos (suc i.entry)) ≡ t → Comes c Any s (Out k a outer cs (line_named z) S)
        by true e =
            let is = same z e in
            subst (λ o. Comes c Any s (Out k a outer cs o S)) (sym (ap line_named is))
            (segment_turns k (does k (omega arith)) i.entry i.number i.outer i.lines i.body i.all i.rest known a behind outer cs S s more sits stands room i.from i.inside i.arm (λ x among. sure x (entry_less g sits.laid (suc i.entry) x among)) i.code i.arms (due ∙ i.is) (line ∙ ap Is is)
            (between_looser g (pay 80 (with_fuel k a)) (pay 62 (with_fuel k a)) known (place_of f.header) behind cs S.world s (record { lines = omega arith; fuel = omega arith; credit = omega arith; set = λ n h. h }) b))
        by false e =
            let loop : Todo = (i.outer, turn_code g i.all) ∷ i.rest in
            comes_While c Any i.number (is_line_test g (suc i.entry)) i.body loop s (Out k a outer cs (line_named z) S) (truth (int_eq z (pos (suc i.entry)))) true (due ∙ i.is) (value_test c g (suc i.entry) z s line) (ap (λ b. is_zero (truth b)) e) (λ todo. tt)
            (loop_any i.outer i.all i.rest z known a behind outer cs S (settled (record s { todo = loop })) more sits stands room entry sure i.arms refl line
            (between_looser g (tick (pay 80 (with_fuel k a))) (pay 76 (with_fuel k a)) known (place_of f.header) behind cs S.world (settled (record s { todo = loop })) (record { lines = omega arith; fuel = omega arith; credit = omega arith; set = λ n h. h }) (between_tick g (pay 80 (with_fuel k a)) known (place_of f.header) behind cs S.world s loop b)))

-- what is proved of lines is enough at heads
pub head_of : (c : Code) (n : ℕ) (p : PlainCore) (y : Layout) (m : Marking) (rank : ℕ → ℕ) (k : ℕ) → ((i : ℕ) → i ≤ k → LinesDo c n p y m rank false i) → HeadDoes c n p y m rank k
head_of c n p y m rank k does first j head z known a behind outer cs S s more sits stands room is due line entry sure b =
    head_does c n p y m rank first j k does head z known a behind outer cs S s more sits stands room is due line entry sure b
