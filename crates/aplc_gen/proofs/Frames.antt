-- How a function is left and entered.
use Rattle.std.proofs.Common.{◌≡◌, ℕ, suc, ◌+◌, ◌<◌, ◌≤◌, List, [], ◌∷◌, ◌++◌, refl, sym, ap, ◌∙◌, subst, arith, ℤ, pos, Bool, true, false, cond, length}
use Rattle.std.specs.Prelude.{Option, Some, None, ◌&&◌, ◌||◌, ◌-ℤ◌, map}
use Rattle.std.proofs.lemmas.Int.{ints}
use Rattle.aplc_arr.specs.Arrays.{Array}
use Rattle.aplc_cprof.specs.declared.syntax.Int.TheVariants as int
use Rattle.aplc_cprof.specs.declared.syntax.Op.TheVariants as op
use Rattle.aplc_cprof.specs.declared.syntax.CExpr.{CExpr}
use Rattle.aplc_cprof.specs.declared.syntax.CExpr.TheVariants as expr
use Rattle.aplc_cprof.specs.declared.syntax.CStmt.{CStmt}
use Rattle.aplc_cprof.specs.declared.syntax.CStmt.TheVariants as stmt
use Rattle.aplc_cprof.specs.Machine.{Todo, Code, Caller, State, Is, read_int, ranged, settled}
use Rattle.aplc_cprof.specs.Machine as machine
use Rattle.aplc_cprof.proofs.Values.{value_Lit, value_Var, value_Bin, ranged_below}
use Rattle.aplc_cprof.proofs.Rules.{Any, Runs, runs_less, runs_then, runs_none, runs_If}
use Rattle.aplc_cprof.proofs.Singles.{runs_Leave}
use Rattle.aplc_cprof.proofs.Functions.{Leaves, runs_Return}
use Rattle.aplc_cprof.proofs.Writes.{Written, written_here, written_other}
use Rattle.aplc_names.specs.declared.scope.Scope.{Scope}
use Rattle.aplc_names.specs.declared.scope.Scope.TheVariants as scope
use Rattle.aplc_names.specs.States.{Places, Place, World, is_among, depth}
use Rattle.aplc_names.specs.Eager.{value_of_name}
use Rattle.aplc_names.specs.Runs.{result_of}
use Rattle.aplc_gen.specs.Shown.{place_shown}
use Rattle.aplc_gen.specs.Sound.{is_own, is_own_name}
use Rattle.aplc_gen.specs.Layouts.{Layout, Site, the_frame, the_routine, global_base, local_value, local_flag}
use Rattle.aplc_gen.specs.Layouts as layouts
use Rattle.aplc_gen.specs.Emitted.{is_giving, result_code, count_down, leave_by}
use Rattle.aplc_gen.specs.Laid.{is_laid_result}
use Rattle.aplc_gen.specs.Relation.{IsHeld, IsNamed, IsResult, Bounds, IsCounted, Common, Between, owe}
use Rattle.aplc_gen.proofs.Writes.{set_does, quiet_written, held_kept, held_of, named_kept, counted_same, common_todo, globals_kept, globals_passed, locals_global, between_kept, between_looser, owes, owes_both, between_todo, between_settled, global_differs}

-- ---- What is left behind

-- the state in which a function is left that was called from these places
pub record Gone (g : Site) (b : Bounds) (outer : Places) (cs : List Caller) (o : Option Array) (S : World) (s : State) : Type 0 where
  pub common : Common g.layout b (record S { places = outer }) s
  pub here : s.places.here ≡ place_shown outer.here
  pub callers : s.callers ≡ cs
  pub result : IsResult (is_giving (the_frame g).sure (the_routine g).header.result) (the_routine g).header.result o s

-- ---- Scopes

pub own_value : (x : Scope) (n : ℕ) (S : World) → is_own x ≡ true → value_of_name x n S ≡ S.locals n
own_value scope.Local n S own = refl
own_value scope.Global n S own = absurd (cc)
own_value (scope.Label z) n S own = absurd (cc)
own_value (scope.Function j) n S own = absurd (cc)

pub and_left : (a b : Bool) → (a && b) ≡ true → a ≡ true
and_left true b h = refl
and_left false b h = absurd (cc)

pub and_right : (a b : Bool) → (a && b) ≡ true → b ≡ true
and_right true b h = h
and_right false b h = absurd (cc)

or_else : (a b : Bool) → a ≡ false → (a || b) ≡ true → b ≡ true
or_else true b f h = absurd (cc)
or_else false b f h = h

one_less : (k : ℕ) → (pos (suc k) -ℤ pos 1) ≡ pos k
one_less k = omega (arith, ints)

-- the result is as it was
pub result_kept : (sure : Bool) (r : Option ℕ) (o : Option Array) (s t : State) → read_int layouts.result t ≡ read_int layouts.result s → read_int layouts.result_flag t ≡ read_int layouts.result_flag s → IsResult sure r o s → IsResult sure r o t
result_kept sure None o s t same flag h = tt
result_kept true (Some n) None s t same flag h = absurd h
result_kept true (Some n) (Some v) s t same flag h = held_kept layouts.result v s t same h
result_kept false (Some n) o s t same flag h = named_kept true layouts.result layouts.result_flag o s t same (λ e. flag) h

module _ (c : Code) (g : Site) (calls : global_base g.layout ≡ 5) where
  -- ---- The result

  -- a global variable of calls is set
  passed_does : (k : ℕ) (e : CExpr) (v : ℤ) (b : Bounds) (known : List ℕ) (here : Place) (behind : List Place) (cs : List Caller) (S : World) (s : State) (Stop : State → Type 0) → 0 < k → k < 5 → machine.value e c.tables s ≡ Is v → Between g b known here behind cs S s → Runs c Any (stmt.Set (int.Global k) e ∷ []) s (λ u. Between g (owe 1 b) known here behind cs S u × Written (int.Global k) v s u) Stop
  passed_does k e v b known here behind cs S s Stop some few is h =
      runs_less c Any (stmt.Set (int.Global k) e ∷ []) s (Written (int.Global k) v s) (λ u. Between g (owe 1 b) known here behind cs S u × Written (int.Global k) v s u) Stop Stop
      (λ u w. (between_kept g b 1 known here behind cs S s u (quiet_written (int.Global k) v s u w) (globals_passed g.layout k v s u some (omega (arith, few, calls)) w) (locals_global g k v s u w) h, w))
      (λ u q. q)
      (set_does c (int.Global k) e s Stop v is)

  module _ (b : Bounds) (known : List ℕ) (here : Place) (behind : List Place) (cs : List Caller) (S : World) where
    abbrev Passes : Option ℕ → State → Type 0
    Passes r u = Between g (owe 3 b) known here behind cs S u × IsResult (is_giving (the_frame g).sure r) r (result_of r S.locals) u

    -- the result is on its way
    result_does : (r : Option ℕ) (s : State) (Stop : State → Type 0) → is_laid_result g r ≡ true → is_own_name (the_routine g).header.scope r ≡ true → ((n : ℕ) → is_among n (the_frame g).sure ≡ true → is_among n known ≡ true) → Between g b known here behind cs S s → Runs c Any (result_code g r) s (Passes r) Stop
    result_does None s Stop laid own sure h = runs_none c Any s (Passes None) Stop (λ rest. (between_looser g b (owe 3 b) known here behind cs S (record s { todo = rest }) (record { lines = omega arith; fuel = omega arith; credit = omega arith; set = λ n h. h }) (between_todo g b known here behind cs S s rest h), tt))
    result_does (Some n) s Stop laid own sure h = by_sure (is_among n (the_frame g).sure) refl
      where
        f : layouts.Frame
        f = the_frame g

        named : IsNamed (is_among n f.unsure) (local_value g n) (local_flag g n) (S.locals n) s
        named = h.locals n (and_left (is_among n f.names) (is_among n f.sure || is_among n f.unsure) laid)

        copy : List CStmt
        copy = stmt.Set layouts.result (expr.Var (local_value g n)) ∷ []

        by_flag : (o : Option Array) → S.locals n ≡ o → IsNamed true (local_value g n) (local_flag g n) o s → is_among n f.sure ≡ false → Runs c Any (stmt.Set layouts.result_flag (expr.Var (local_flag g n)) ∷ stmt.If (expr.Var layouts.result_flag) copy None ∷ []) s (Passes (Some n)) Stop
        by_flag None is flag not =
            runs_then c Any (stmt.Set layouts.result_flag (expr.Var (local_flag g n)) ∷ []) (stmt.If (expr.Var layouts.result_flag) copy None ∷ []) s (λ u. Between g (owe 1 b) known here behind cs S u × Written layouts.result_flag (pos 0) s u) (Passes (Some n)) Stop
            (passed_does 4 (expr.Var (local_flag g n)) (pos 0) b known here behind cs S s Stop (omega arith) (omega arith) (value_Var (local_flag g n) c.tables s ∙ flag) h)
            (λ u q.
            let zero_is : read_int layouts.result_flag u ≡ Is (pos 0) = written_here layouts.result_flag (pos 0) s u q.1 in
            runs_If c Any (expr.Var layouts.result_flag) copy None u (Passes (Some n)) Stop (pos 0) true (value_Var layouts.result_flag c.tables u ∙ zero_is) refl (λ todo. tt)
            (runs_none c Any (settled u) (Passes (Some n)) Stop
            (λ rest. (
              between_looser g (owe 1 (owe 1 b)) (owe 3 b) known here behind cs S (settled (record u { todo = rest })) (owes_both b 1 1 3 (omega arith)) (between_settled g (owe 1 b) known here behind cs S u rest q.0),
              subst (λ (t : Bool). IsResult t (Some n) (S.locals n) (settled (record u { todo = rest }))) (sym not) (subst (λ (o : Option Array). IsNamed true layouts.result layouts.result_flag o (settled (record u { todo = rest }))) (sym is) zero_is),
            ))))
        by_flag (Some v) is (held, flag) not =
            runs_then c Any (stmt.Set layouts.result_flag (expr.Var (local_flag g n)) ∷ []) (stmt.If (expr.Var layouts.result_flag) copy None ∷ []) s (λ u. Between g (owe 1 b) known here behind cs S u × Written layouts.result_flag (pos 1) s u) (Passes (Some n)) Stop
            (passed_does 4 (expr.Var (local_flag g n)) (pos 1) b known here behind cs S s Stop (omega arith) (omega arith) (value_Var (local_flag g n) c.tables s ∙ flag) h)
            (λ u q.
            let one_is : read_int layouts.result_flag u ≡ Is (pos 1) = written_here layouts.result_flag (pos 1) s u q.1 in
            let stays : read_int (local_value g n) (settled u) ≡ read_int (local_value g n) s = written_other layouts.result_flag (local_value g n) (pos 1) s u q.1 (λ e. cc) in
            runs_If c Any (expr.Var layouts.result_flag) copy None u (Passes (Some n)) Stop (pos 1) false (value_Var layouts.result_flag c.tables u ∙ one_is) refl (λ todo. tt)
            (runs_less c Any copy (settled u) (λ t. Between g (owe 1 (owe 1 (owe 1 b))) known here behind cs S t × Written layouts.result held.number (settled u) t) (Passes (Some n)) Stop Stop
            (λ t w. (
              between_looser g (owe 1 (owe 1 (owe 1 b))) (owe 3 b) known here behind cs S t (record { lines = omega arith; fuel = omega arith; credit = omega arith; set = λ n h. h }) w.0,
              subst (λ (x : Bool). IsResult x (Some n) (S.locals n) t) (sym not) (subst (λ (o : Option Array). IsNamed true layouts.result layouts.result_flag o t) (sym is) (record { number = held.number; is = held.is; value = written_here layouts.result held.number (settled u) t w.1 }, written_other layouts.result layouts.result_flag held.number (settled u) t w.1 (λ e. cc) ∙ one_is)),
            ))
            (λ t w. w)
            (passed_does 3 (expr.Var (local_value g n)) held.number (owe 1 (owe 1 b)) known here behind cs S (settled u) Stop (omega arith) (omega arith) (value_Var (local_value g n) c.tables (settled u) ∙ stays ∙ held.value)
            (between_settled g (owe 1 b) known here behind cs S u u.todo q.0))))

        by_known : (v : Array) → S.locals n ≡ Some v → is_among n f.sure ≡ true → IsHeld (local_value g n) v s → Runs c Any copy s (Passes (Some n)) Stop
        by_known v is surely held =
            runs_less c Any copy s (λ u. Between g (owe 1 b) known here behind cs S u × Written layouts.result held.number s u) (Passes (Some n)) Stop Stop
            (λ u q. (
              between_looser g (owe 1 b) (owe 3 b) known here behind cs S u (owes b 1 3 (omega arith)) q.0,
              subst (λ (x : Bool). IsResult x (Some n) (S.locals n) u) (sym surely) (subst (λ (o : Option Array). IsResult true (Some n) o u) (sym is) (record { number = held.number; is = held.is; value = written_here layouts.result held.number s u q.1 })),
            ))
            (λ u q. q)
            (passed_does 3 (expr.Var (local_value g n)) held.number b known here behind cs S s Stop (omega arith) (omega arith) (value_Var (local_value g n) c.tables s ∙ held.value) h)

        by_sure : (x : Bool) → is_among n f.sure ≡ x → Runs c Any (cond x copy (stmt.Set layouts.result_flag (expr.Var (local_flag g n)) ∷ stmt.If (expr.Var layouts.result_flag) copy None ∷ [])) s (Passes (Some n)) Stop
        by_sure true surely =
            let k = h.knows n (sure n surely) in
            let is : S.locals n ≡ Some k.0 = sym (own_value ((the_routine g).header.scope n) n S own) ∙ k.1 in
            by_known k.0 is surely (held_of (is_among n f.unsure) (local_value g n) (local_flag g n) k.0 s (subst (λ (o : Option Array). IsNamed (is_among n f.unsure) (local_value g n) (local_flag g n) o s) is named))
        by_sure false not =
            let flagged : is_among n f.unsure ≡ true = or_else (is_among n f.sure) (is_among n f.unsure) not (and_right (is_among n f.names) (is_among n f.sure || is_among n f.unsure) laid) in
            by_flag (S.locals n) refl (subst (λ (x : Bool). IsNamed x (local_value g n) (local_flag g n) (S.locals n) s) flagged named) not

    -- ---- The way out

    -- nothing but the count of calls, places and steps has changed
    record Rising (d : ℕ) (outer : Places) (s t : State) : Type 0 where
      pub globals : (x : ℕ) → 0 < x → read_int (int.Global x) t ≡ read_int (int.Global x) s
      pub counted : IsCounted g.layout.counted (record S { places = outer }) t
      pub output : t.output ≡ s.output
      pub marks : t.marks ≡ s.marks
      pub places : t.places ≡ s.places
      pub callers : t.callers ≡ s.callers
      pub input : t.input ≡ s.input
      pub more : s.steps ≤ t.steps
      pub cost : t.steps ≤ s.steps + d

    count_down_does : (counted : Bool) (outer : Places) (s : State) (Stop : State → Type 0) → g.layout.counted ≡ counted → S.places.behind ≡ outer.here ∷ outer.behind → depth outer ≤ 4096 → IsCounted counted S s → Runs c Any (count_down counted) s (Rising 1 outer s) Stop
    count_down_does false outer s Stop is from few h =
        runs_none c Any s (Rising 1 outer s) Stop
        (λ rest. record { globals = λ x lt. refl; counted = subst (λ (x : Bool). IsCounted x (record S { places = outer }) (record s { todo = rest })) (sym is) tt; output = refl; marks = refl; places = refl; callers = refl; input = refl; more = omega arith; cost = omega arith })
    count_down_does true outer s Stop is from few h =
        runs_less c Any (count_down true) s (Written layouts.depth (pos (depth outer)) s) (Rising 1 outer s) Stop Stop
        (λ u w.
        let e = w.steps in
        record {
          globals = λ x lt. written_other layouts.depth (int.Global x) (pos (depth outer)) s u w (global_differs x 0 (λ (d : x ≡ 0). omega (arith, d, lt)));
          counted = subst (λ (x : Bool). IsCounted x (record S { places = outer }) u) (sym is) (written_here layouts.depth (pos (depth outer)) s u w);
          output = w.output;
          marks = w.marks;
          places = w.places;
          callers = w.callers;
          input = w.input;
          more = omega (arith, e);
          cost = omega (arith, e);
        })
        (λ u w. w)
        (set_does c layouts.depth (expr.Bin op.Sub (expr.Var layouts.depth) (expr.Lit (pos 1))) s Stop (pos (depth outer)) less)
      where
        deeper : depth S.places ≡ suc (depth outer)
        deeper = let e : length S.places.behind ≡ suc (length outer.behind) = ap (λ (qs : List Place). length qs) from in omega (arith, e)

        less : machine.value (expr.Bin op.Sub (expr.Var layouts.depth) (expr.Lit (pos 1))) c.tables s ≡ Is (pos (depth outer))
        less =
            value_Bin op.Sub (expr.Var layouts.depth) (expr.Lit (pos 1)) c.tables s
            ∙ ap (λ a. machine.apply op.Sub a (machine.value (expr.Lit (pos 1)) c.tables s)) (value_Var layouts.depth c.tables s ∙ h ∙ ap (λ k. Is (pos k)) deeper)
            ∙ ap (λ x. machine.apply op.Sub (Is (pos (suc (depth outer)))) x) (value_Lit (pos 1) c.tables s)
            ∙ ap ranged (one_less (depth outer))
            ∙ ranged_below (depth outer) (omega (arith, few))

    gone_todo : (outer : Places) (o : Option Array) (w : State) (todo : Todo) → Gone g (owe 5 b) outer cs o S w → Gone g (owe 5 b) outer cs o S (record w { todo = todo })
    gone_todo outer o w todo x =
        let r = (the_routine g).header.result in
        record { common = common_todo g.layout (owe 5 b) (record S { places = outer }) w todo x.common; here = x.here; callers = x.callers; result = result_kept (is_giving (the_frame g).sure r) r o w (record w { todo = todo }) refl refl x.result }

    -- a function that was called is left
    pub leave_does : (outer : Places) (s : State) (Stop : State → Type 0) → behind ≡ outer.here ∷ outer.behind → depth outer ≤ 4096 → is_laid_result g (the_routine g).header.result ≡ true → is_own_name (the_routine g).header.scope (the_routine g).header.result ≡ true → ((n : ℕ) → is_among n (the_frame g).sure ≡ true → is_among n known ≡ true) → ((t : State) → Leaves c t → Gone g (owe 5 b) outer cs (result_of (the_routine g).header.result S.locals) S t → Stop t) → Between g b known here behind cs S s → Runs c Any (leave_by g false) s (λ t. ⊥) Stop
    leave_does outer s Stop from few laid own sure stop h =
        let r = (the_routine g).header.result in
        runs_then c Any (result_code g r) (count_down g.layout.counted ++ stmt.Leave ∷ stmt.Return ∷ []) s (Passes r) (λ t. ⊥) Stop
        (result_does r s Stop laid own sure h)
        (λ u q.
        runs_then c Any (count_down g.layout.counted) (stmt.Leave ∷ stmt.Return ∷ []) u (Rising 1 outer u) (λ t. ⊥) Stop
        (count_down_does g.layout.counted outer u Stop refl (q.0.around ∙ from) few q.0.common.counted)
        (λ v k.
        let back : v.places.behind ≡ place_shown outer.here ∷ map place_shown outer.behind = ap (λ (ps : machine.Places). ps.behind) k.places ∙ q.0.common.behind ∙ ap (map place_shown) (q.0.around ∙ from) in
        runs_then c Any (stmt.Leave ∷ []) (stmt.Return ∷ []) v (λ w. Gone g (owe 5 b) outer cs (result_of r S.locals) S w) (λ t. ⊥) Stop
        (runs_Leave c Any v (λ w. Gone g (owe 5 b) outer cs (result_of r S.locals) S w) Stop (place_shown outer.here) (map place_shown outer.behind) back (λ rest. tt)
        (λ rest. gone outer r u v rest q k refl))
        (λ w x. runs_Return c Any w (λ t. ⊥) Stop (λ todo leaves. stop (record w { todo = todo }) leaves (gone_todo outer (result_of r S.locals) w todo x)))))
      where
        gone : (outer : Places) (r : Option ℕ) (u v : State) (rest : Todo) → Passes r u → Rising 1 outer u v → r ≡ (the_routine g).header.result → Gone g (owe 5 b) outer cs (result_of r S.locals) S (settled (record v { places = record { here = place_shown outer.here; behind = map place_shown outer.behind }; todo = rest }))
        gone outer r u v rest q k is =
            let w : State = settled (record v { places = record { here = place_shown outer.here; behind = map place_shown outer.behind }; todo = rest }) in
            let x = q.0.common in
            let more = k.more in
            let cost = k.cost in
            let count = x.count in
            let taken = x.taken in
            record {
              common = record {
                globals = globals_kept g.layout S u w above x.globals;
                counted = counted_same g.layout.counted (record S { places = outer }) v w refl k.counted;
                output = k.output ∙ x.output;
                marks = k.marks ∙ x.marks;
                behind = refl;
                input = k.input ∙ x.input;
                below = x.below;
                count = omega (arith, more, count);
                taken = omega (arith, cost, taken);
                set = x.set;
              };
              here = refl;
              callers = k.callers ∙ q.0.callers;
              result = subst (λ (a : Option ℕ). IsResult (is_giving (the_frame g).sure a) a (result_of r S.locals) w) is (result_kept (is_giving (the_frame g).sure r) r (result_of r S.locals) u w (k.globals 3 (omega arith)) (k.globals 4 (omega arith)) q.1);
            }
          where
            above : (x : ℕ) → global_base g.layout ≤ x → read_int (int.Global x) (settled (record v { places = record { here = place_shown outer.here; behind = map place_shown outer.behind }; todo = rest })) ≡ read_int (int.Global x) u
            above x le = k.globals x (omega (arith, le, calls))
