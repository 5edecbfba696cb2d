-- The branch that ends a line.
use Rattle.std.proofs.Common.{◌≡◌, ℕ, zero, suc, ◌<◌, ◌≤◌, List, ◌++◌, ◌⊎◌, inl, inr, ⊎_elim, refl, sym, ap, ◌∙◌, subst, arith, ℤ, pos, Bool, true, false, length}
use Rattle.std.specs.Prelude.{Option, Some, None, drop}
use Rattle.std.proofs.lemmas.Bool.{cases_lt, eq-eqb}
use Rattle.aplc_arr.specs.Arrays.{Array}
use Rattle.aplc_cprof.specs.declared.syntax.Int.TheVariants as int
use Rattle.aplc_cprof.specs.declared.syntax.CExpr.TheVariants as expr
use Rattle.aplc_cprof.specs.Machine.{Todo, Code, Caller, Is, read_int, numbered, size, total}
use Rattle.aplc_cprof.specs.Machine as machine
use Rattle.aplc_cprof.proofs.Values.{value_Lit}
use Rattle.aplc_cprof.proofs.Rules.{Any, Comes, comes_runs}
use Rattle.aplc_cprof.proofs.Writes.{Written, written_here}
use Rattle.aplc_names.specs.States.{Places, Place, State, Marking, Outcome, Gives}
use Rattle.aplc_names.specs.Eager.{line_named}
use Rattle.aplc_names.specs.Runs.{result_of, place_of, after}
use Rattle.aplc_core.specs.PlainSteps.{Term}
use Rattle.aplc_core.specs.CoreRuns.{CoreRoutine, PlainCore, core_run}
use Rattle.aplc_gen.specs.Layouts.{Layout, Site, the_routine, the_frame, line_place}
use Rattle.aplc_gen.specs.Emitted.{Lead, out, to, computed, landing, lead_at, lead_of_line, lead_by, known_number, lead, may_lead, is_out, is_entry, go_to, site_at}
use Rattle.aplc_gen.specs.Codes.{LeadsBy, exit_code}
use Rattle.aplc_gen.specs.Relation.{Bounds, Between, owe, pay}
use Rattle.aplc_gen.proofs.Writes.{set_does, quiet_written, globals_local, locals_local, between_kept, Looser, between_looser}
use Rattle.aplc_gen.proofs.Outcomes.{run_none}
use Rattle.aplc_gen.proofs.Leaving.{Stands, Goal}
use Rattle.aplc_gen.proofs.Landing.{past_lines}
use Rattle.aplc_gen.proofs.Reaching.{from_drop, drop_past}
use Rattle.aplc_gen.proofs.Knowing.{Among}
use Rattle.aplc_gen.proofs.Lines.{at_line, with_fuel, Sits, Room, IsHead, HeadDoes, skips}
use Rattle.aplc_gen.proofs.Heads.{leaves}
use Rattle.aplc_gen.proofs.Stepping.{line_over}

module _ (c : Code) (n : ℕ) (p : PlainCore) (y : Layout) (m : Marking) (rank : ℕ → ℕ) (first : Bool) (j k : ℕ) (heads : (i : ℕ) → i ≤ k → HeadDoes c n p y m rank i) where
  abbrev g : Site
  g = site_at y p first j

  abbrev f : CoreRoutine
  f = the_routine (site_at y p first j)

  module _ (head : Todo) (a : Bounds) (behind : List Place) (outer : Places) (cs : List Caller) (more : n ≤ a.lines) (sits : Sits y p rank first j) (stands : Stands (site_at y p first j) outer behind cs) (room : Room y rank j behind) where
    abbrev At : ℕ → ℕ → State → machine.State → Type 0
    At i l S t = Goal c n (site_at y p first j) (with_fuel i a) outer cs (core_run p m i (the_routine (site_at y p first j)) l S) t

    -- the line's number is set, and the head of the loop is due
    goes : (i : ℕ) → i ≤ k → (q : ℕ) (z : ℤ) (e : machine.State → Type 0) (known : List ℕ) (b : Bounds) (S : State) (u w : machine.State) → IsHead (site_at y p first j) head → ((l : ℕ) → line_named z ≡ suc l → suc l ≤ length f.steps → is_entry f (suc l) ≡ true) → Among (the_frame (site_at y p first j)).sure known → Looser (owe 1 b) (pay 80 (with_fuel i a)) →
        w.todo ≡ head → Written (int.Local (line_place (site_at y p first j))) z u w → Between (site_at y p first j) b known (place_of f.header) behind cs S.world u → Comes c Any w (At i (line_named z) S)
    goes i le q z e known b S u w is entry sure loose due written h =
        heads i le first j head z known a behind outer cs S w more sits stands room is due (written_here (int.Local (line_place g)) z u w written) entry sure
        (between_looser g (owe 1 b) (pay 80 (with_fuel i a)) known (place_of f.header) behind cs S.world w loose
        (between_kept g b 1 known (place_of f.header) behind cs S.world u w (quiet_written (int.Local (line_place g)) z u w written) (globals_local y (line_place g) z u w written) (locals_local g (line_place g) z u w (omega arith) written) h))

    -- a number that is known: the code leads to the first line from there on that has steps, or out
    lands : (z : ℤ) (known : List ℕ) (i : ℕ) (t : Term) (S : State) (u : machine.State) → lead f t ≡ lead_of_line f (line_named z) →
        ((q : ℕ) → may_lead (lead f t) q ≡ true → is_entry f q ≡ true) → (is_out (lead f t) ≡ false → IsHead (site_at y p first j) head) → Among (the_frame (site_at y p first j)).sure known →
        u.todo ≡ numbered i (exit_code (site_at y p first j) (lead f t)) ++ head →
        Between (site_at y p first j) (line_over k a) known (place_of f.header) behind cs S.world u → Comes c Any u (At k (line_named z) S)
    lands z known i t S u is leads loops sure due h = by (line_named z) is
      where
        leave_now : (i' : ℕ) (T : State) → lead f t ≡ out → Between (site_at y p first j) (pay 98 (with_fuel i' a)) known (place_of f.header) behind cs T.world u → Comes c Any u (Goal c n (site_at y p first j) (with_fuel i' a) outer cs (Gives (result_of f.header.result T.world.locals) T))
        leave_now i' T lead_is h' =
            leaves c n p y m rank first j (pay 98 (with_fuel i' a)) i' a i known behind outer cs head T u stands (record { lines = omega arith; fuel = omega arith; credit = omega arith; set = λ n h. h }) sure
            (due ∙ ap (λ (d : Lead). numbered i (exit_code g d) ++ head) lead_is) h'

        over : Looser (line_over k a) (pay 98 (with_fuel k a))
        over = record { lines = omega arith; fuel = omega arith; credit = omega arith; set = λ n h. h }

        none : (l : ℕ) → (l ≡ 0) ⊎ (length f.steps < l) → lead f t ≡ out → Comes c Any u (At k l S)
        none l past lead_is =
            subst (λ (o : Outcome (Option Array)). Comes c Any u (Goal c n (site_at y p first j) (with_fuel k a) outer cs o)) (sym (result k h.common.below))
            (leave_now k S lead_is (between_looser g (line_over k a) (pay 98 (with_fuel k a)) known (place_of f.header) behind cs S.world u over h))
          where
            result : (i : ℕ) → S.world.left < i → core_run p m i (the_routine (site_at y p first j)) l S ≡ Gives (result_of f.header.result S.world.locals) S
            result zero lt = absurd (omega (arith, lt))
            result (suc i) lt = run_none p m i f l S (past_lines f l past)

        by : (l : ℕ) → lead f t ≡ lead_of_line f l → Comes c Any u (At k l S)
        by zero is = none 0 (inl refl) is
        by (suc l) is = ⊎_elim (λ lt. within lt) (λ le. none (suc l) (inr (omega (arith, le))) (is ∙ ap lead_at (ap (landing (suc l)) (drop_past f.steps l le)))) (cases_lt l (length f.steps))
          where
            within : l < length f.steps → Comes c Any u (At k (suc l) S)
            within lt =
                skips c n p y m rank first j 98 k (suc l) (drop l f.steps) known a behind outer cs S u more sits.few (from_drop f l (omega (arith, lt)))
                (between_looser g (line_over k a) (pay 98 (at_line a (suc l) k)) known (place_of f.header) behind cs S.world u (record { lines = omega arith; fuel = omega arith; credit = omega arith; set = λ n h. h }) h)
                (λ i' e T le found h'.
                let lead_is : lead f t ≡ to (suc e) = is ∙ ap lead_at found in
                comes_runs c Any i (go_to g (suc e)) head u (Written (int.Local (line_place g)) (pos (suc e)) u) (λ w. ⊥) (At i' (suc e) T)
                (due ∙ ap (λ (d : Lead). numbered i (exit_code g d) ++ head) lead_is)
                (set_does c (int.Local (line_place g)) (expr.Lit (pos (suc e))) u (λ w. ⊥) (pos (suc e)) (value_Lit (pos (suc e)) c.tables u))
                (λ w at written. goes i' le 0 (pos (suc e)) (λ w. ⊥) known (pay 98 (with_fuel i' a)) T u w (loops (ap is_out lead_is)) (λ l' same inside. subst (λ q. is_entry f q ≡ true) same (leads (suc e) (ap (λ (d : Lead). may_lead d (suc e)) lead_is ∙ eq-eqb (suc e) (suc e) refl))) sure (record { lines = omega arith; fuel = omega arith; credit = omega arith; set = λ n h. h }) at written h')
                (λ w none. absurd none))
                (λ i' T found h'. leave_now i' T (is ∙ ap lead_at found) h')

    -- behind the steps of a line that a branch ends, the code goes on where the branch leads
    pub branch_leads : (l i : ℕ) (t : Term) (known : List ℕ) (on : Option ℕ) (T : State) (u : machine.State) →
        ((q : ℕ) → may_lead (lead f t) q ≡ true → is_entry f q ≡ true) → (is_out (lead f t) ≡ false → IsHead (site_at y p first j) head) → Among (the_frame (site_at y p first j)).sure known →
        u.todo ≡ numbered i (exit_code (site_at y p first j) (lead f t)) ++ head → LeadsBy (site_at y p first j) l (known_number f.header.scope t) on u →
        Between (site_at y p first j) (line_over k a) known (place_of f.header) behind cs T.world u → Comes c Any u (At k (after l on) T)
    branch_leads l i t known on T u leads loops sure due where_to h = by (known_number f.header.scope t) refl where_to
      where
        by : (o : Option ℤ) → known_number f.header.scope t ≡ o → LeadsBy (site_at y p first j) l o on u → Comes c Any u (At k (after l on) T)
        by (Some z) is on_is =
            subst (λ q. Comes c Any u (At k q T)) (sym (ap (after l) on_is))
            (lands z known i t T u (ap (lead_by f) is) leads loops sure due h)
        by None is (z, line, to_is) =
            let lead_is : lead f t ≡ computed = ap (lead_by f) is in
            subst (λ q. Comes c Any u (At k q T)) to_is
            (heads k (omega arith) first j head z known a behind outer cs T u more sits stands room (loops (ap is_out lead_is)) (due ∙ ap (λ (d : Lead). numbered i (exit_code g d) ++ head) lead_is) line
            (λ l' same inside. leads (suc l') (ap (λ (d : Lead). may_lead d (suc l')) lead_is)) sure
            (between_looser g (line_over k a) (pay 80 (with_fuel k a)) known (place_of f.header) behind cs T.world u (record { lines = omega arith; fuel = omega arith; credit = omega arith; set = λ n h. h }) h))
