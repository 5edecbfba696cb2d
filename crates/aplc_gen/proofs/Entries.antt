-- How a function is entered.
use Rattle.std.proofs.Common.{◌≡◌, ℕ, zero, suc, ◌+◌, ◌<◌, ◌≤◌, List, [], ◌∷◌, ◌⊎◌, inl, inr, refl, sym, ap, ◌∙◌, subst, arith, ℤ, pos, Bool, true, false, length}
use Rattle.std.specs.Prelude.{Option, Some, None, ◌+ℤ◌, nat_eq, int_le}
use Rattle.std.proofs.lemmas.Bool.Decides.{nat_tests, eqb_tells}
use Rattle.std.proofs.lemmas.Int.{ints}
use Rattle.aplc_scalar.specs.declared.kind.FaultKind.TheVariants as fault
use Rattle.aplc_scalar.specs.Scalar.{truth}
use Rattle.aplc_arr.specs.Arrays.{Array}
use Rattle.aplc_cprof.specs.declared.syntax.Int.{Int}
use Rattle.aplc_cprof.specs.declared.syntax.Int.TheVariants as int
use Rattle.aplc_cprof.specs.declared.syntax.Op.TheVariants as op
use Rattle.aplc_cprof.specs.declared.syntax.CExpr.TheVariants as expr
use Rattle.aplc_cprof.specs.declared.syntax.CStmt.TheVariants as stmt
use Rattle.aplc_cprof.specs.Machine.{Todo, Code, Caller, State, Is, read_int, ranged, settled}
use Rattle.aplc_cprof.specs.Machine as machine
use Rattle.aplc_cprof.proofs.Values.{value_Lit, value_Var, value_Bin, ranged_below}
use Rattle.aplc_cprof.proofs.Rules.{Any, Runs, FaultsAt, runs_less, runs_then, runs_none, runs_If}
use Rattle.aplc_cprof.proofs.Singles.{runs_Fault}
use Rattle.aplc_cprof.proofs.Writes.{Written, written_here, written_other}
use Rattle.aplc_names.specs.States.{Place, World, Values, is_among, depth, set_name, no_values, in_front}
use Rattle.aplc_names.specs.Runs.{set_some}
use Rattle.aplc_gen.specs.Layouts.{Layout, Site, the_frame, the_routine, global_base, place_in, local_value, local_flag}
use Rattle.aplc_gen.specs.Layouts as layouts
use Rattle.aplc_gen.specs.Emitted.{deep, count_up, clear_code, flag_code, take_code}
use Rattle.aplc_gen.specs.Laid.{is_laid_name}
use Rattle.aplc_gen.specs.Relation.{IsNamed, Locals, Passed, IsCounted}
use Rattle.aplc_gen.proofs.Writes.{set_does, place_below, Quiet, quiet_written, quiet_todo, quiet_less, quiet_trans, held_kept, locals_set, local_differs, global_differs, sorts_differ}

one_more : (k : ℕ) → (pos k +ℤ pos 1) ≡ pos (suc k)
one_more k = omega (arith, ints)

-- nothing but the count of calls and steps has changed
pub record Sinking (y : Layout) (d : ℕ) (S : World) (s t : State) : Type 0 where
  pub globals : (x : ℕ) → 0 < x → read_int (int.Global x) t ≡ read_int (int.Global x) s
  pub counted : IsCounted y.counted S t
  pub output : t.output ≡ s.output
  pub marks : t.marks ≡ s.marks
  pub places : t.places ≡ s.places
  pub callers : t.callers ≡ s.callers
  pub input : t.input ≡ s.input
  pub more : s.steps ≤ t.steps
  pub cost : t.steps ≤ s.steps + d

-- nothing but local variables and steps has changed
pub record OnlyLocals (d : ℕ) (s t : State) : Type 0 where
  pub quiet : Quiet d s t
  pub globals : (x : ℕ) → read_int (int.Global x) t ≡ read_int (int.Global x) s

pub only_written : (k : ℕ) (v : ℤ) (s t : State) → Written (int.Local k) v s t → OnlyLocals 1 s t
only_written k v s t w = record { quiet = quiet_written (int.Local k) v s t w; globals = λ x. written_other (int.Local k) (int.Global x) v s t w (λ e. sorts_differ k x (sym e)) }

pub only_none : (s : State) (todo : Todo) → OnlyLocals 0 s (record s { todo = todo })
only_none s todo = record { quiet = quiet_todo s todo; globals = λ x. refl }

pub only_trans : (d e : ℕ) (s t u : State) → OnlyLocals d s t → OnlyLocals e t u → OnlyLocals (d + e) s u
only_trans d e s t u p q = record { quiet = quiet_trans d e s t u p.quiet q.quiet; globals = λ x. q.globals x ∙ p.globals x }

pub only_less : (d e : ℕ) (s t : State) → d ≤ e → OnlyLocals d s t → OnlyLocals e s t
only_less d e s t le q = record { quiet = quiet_less d e s t le q.quiet; globals = q.globals }

module _ (c : Code) (g : Site) where
  -- ---- Flags

  -- the first n flags are 0
  pub record Cleared (n : ℕ) (s t : State) : Type 0 where
    pub only : OnlyLocals n s t
    pub flags : (k : ℕ) → k < n → read_int (int.Local (length (the_frame g).names + k)) t ≡ Is (pos 0)

  pub clear_does : (n : ℕ) (s : State) (Stop : State → Type 0) → Runs c Any (clear_code g n) s (Cleared n s) Stop
  clear_does zero s Stop = runs_none c Any s (Cleared 0 s) Stop (λ rest. record { only = only_none s rest; flags = λ k lt. absurd (omega (arith, lt)) })
  clear_does (suc n) s Stop =
      let x = length (the_frame g).names + n in
      runs_then c Any (clear_code g n) (stmt.Set (int.Local x) (expr.Lit (pos 0)) ∷ []) s (Cleared n s) (Cleared (suc n) s) Stop (clear_does n s Stop)
      (λ u q. runs_less c Any (stmt.Set (int.Local x) (expr.Lit (pos 0)) ∷ []) u (Written (int.Local x) (pos 0) u) (Cleared (suc n) s) Stop Stop
      (λ t w. record { only = only_less (n + 1) (suc n) s t (omega arith) (only_trans n 1 s u t q.only (only_written x (pos 0) u t w)); flags = λ k lt. flag n k u t w q.flags lt (eqb_tells k n) })
      (λ t w. w)
      (set_does c (int.Local x) (expr.Lit (pos 0)) u Stop (pos 0) (value_Lit (pos 0) c.tables u)))
    where
      flag : (n k : ℕ) (u t : State) → Written (int.Local (length (the_frame g).names + n)) (pos 0) u t → ((k : ℕ) → k < n → read_int (int.Local (length (the_frame g).names + k)) u ≡ Is (pos 0)) → k < suc n → ((nat_eq k n ≡ true) × (k ≡ n)) ⊎ ((nat_eq k n ≡ false) × (k ≡ n → ⊥)) → read_int (int.Local (length (the_frame g).names + k)) t ≡ Is (pos 0)
      flag n k u t w old lt (inl e) = subst (λ (j : ℕ). read_int (int.Local (length (the_frame g).names + j)) t ≡ Is (pos 0)) (sym e.1) (written_here (int.Local (length (the_frame g).names + n)) (pos 0) u t w)
      flag n k u t w old lt (inr ne) =
          let differ = ne.1 in
          written_other (int.Local (length (the_frame g).names + n)) (int.Local (length (the_frame g).names + k)) (pos 0) u t w (local_differs (length (the_frame g).names + k) (length (the_frame g).names + n) (λ e. differ (omega (arith, e))))
          ∙ old k (below k n lt differ)
        where
          below : (k n : ℕ) → k < suc n → (k ≡ n → ⊥) → k < n
          below k n lt ne = grind (arith, lt, ne)

  -- ---- Arguments

  module _ (cs : List Caller) (S : World) where
    -- a state of the function, with these values of local names
    abbrev pub with_locals : Values → World
    with_locals names = record S { locals = names }

    pub record Enters (names : Values) (s : State) : Type 0 where
      pub locals : Locals g (with_locals names) s

    -- an argument becomes the value of its name
    pub take_does : (k : ℕ) (r : Option ℕ) (o : Option Array) (names : Values) (s : State) (Stop : State → Type 0) → is_laid_name g r ≡ true → Passed r (int.Global k) o s → Enters names s → Runs c Any (take_code g (int.Global k) r) s (λ t. Enters (set_some r o names) t × OnlyLocals 2 s t) Stop
    take_does k None o names s Stop laid passed h =
        runs_none c Any s (λ t. Enters names t × OnlyLocals 2 s t) Stop
        (λ rest. (record { locals = λ n among. same_named (is_among n (the_frame g).unsure) (local_value g n) (local_flag g n) (names n) s rest (h.locals n among) }, only_less 0 2 s (record s { todo = rest }) (omega arith) (only_none s rest)))
      where
        same_named : (b : Bool) (x f : Int) (o : Option Array) (s : State) (todo : Todo) → IsNamed b x f o s → IsNamed b x f o (record s { todo = todo })
        same_named b x f o s todo h = named b o h
          where
            reads : (x : Int) → read_int x (record s { todo = todo }) ≡ read_int x s
            reads (int.Local k) = refl
            reads (int.Global k) = refl

            named : (b : Bool) (o : Option Array) → IsNamed b x f o s → IsNamed b x f o (record s { todo = todo })
            named true None h = reads f ∙ h
            named true (Some v) h = (held_kept x v s (record s { todo = todo }) (reads x) h.0, reads f ∙ h.1)
            named false None h = tt
            named false (Some v) h = held_kept x v s (record s { todo = todo }) (reads x) h
    take_does k (Some n) None names s Stop laid passed h = absurd passed
    take_does k (Some n) (Some v) names s Stop laid passed h =
        runs_then c Any (stmt.Set (local_value g n) (expr.Var (int.Global k)) ∷ []) (flag_code (local_flag g n) (is_among n f.unsure)) s (Written (local_value g n) passed.number s) Post Stop
        (set_does c (local_value g n) (expr.Var (int.Global k)) s Stop passed.number (value_Var (int.Global k) c.tables s ∙ passed.value))
        (λ t w. by_flag (is_among n f.unsure) refl t w)
      where
        f : layouts.Frame
        f = the_frame g

        Post : State → Type 0
        Post t = Enters (set_name n (Some v) names) t × OnlyLocals 2 s t

        apart : local_value g n ≡ local_flag g n → ⊥
        apart = local_differs (place_in f.names n) (length f.names + place_in f.unsure n) (λ e. let lt = place_below f.names n laid in omega (arith, e, lt))

        by_flag : (b : Bool) → is_among n f.unsure ≡ b → (t : State) → Written (local_value g n) passed.number s t → Runs c Any (flag_code (local_flag g n) b) t Post Stop
        by_flag false is t w =
            runs_none c Any t Post Stop
            (λ rest. (
              record {
                locals = locals_set g n v (with_locals names) (with_locals (set_name n (Some v) names)) s (record t { todo = rest }) refl
                    (record { number = passed.number; is = passed.is; value = written_here (local_value g n) passed.number s t w })
                    (λ u. absurd (cc))
                    (λ x differ none. reads x t rest ∙ written_other (local_value g n) x passed.number s t w differ)
                    laid h.locals;
              },
              only_less 1 2 s (record t { todo = rest }) (omega arith) (only_less (1 + 0) 1 s (record t { todo = rest }) (omega arith) (only_trans 1 0 s t (record t { todo = rest }) (only_written (place_in f.names n) passed.number s t w) (only_none t rest))),
            ))
          where
            reads : (x : Int) (t : State) (rest : Todo) → read_int x (record t { todo = rest }) ≡ read_int x t
            reads (int.Local k) t rest = refl
            reads (int.Global k) t rest = refl
        by_flag true is t w =
            runs_less c Any (flag_code (local_flag g n) true) t (Written (local_flag g n) (pos 1) t) Post Stop Stop
            (λ u z. (
              record {
                locals = locals_set g n v (with_locals names) (with_locals (set_name n (Some v) names)) s u refl
                    (record { number = passed.number; is = passed.is; value = written_other (local_flag g n) (local_value g n) (pos 1) t u z apart ∙ written_here (local_value g n) passed.number s t w })
                    (λ flagged. written_here (local_flag g n) (pos 1) t u z)
                    (λ x differ none. written_other (local_flag g n) x (pos 1) t u z (none is) ∙ written_other (local_value g n) x passed.number s t w differ)
                    laid h.locals;
              },
              only_trans 1 1 s t u (only_written (place_in f.names n) passed.number s t w) (only_written (length f.names + place_in f.unsure n) (pos 1) t u z),
            ))
            (λ u z. z)
            (set_does c (local_flag g n) (expr.Lit (pos 1)) t Stop (pos 1) (value_Lit (pos 1) c.tables t))

    -- with all flags 0 no name has a value
    pub none_set : (s t : State) → Cleared (length (the_frame g).unsure) s t → Enters no_values t
    none_set s t q = record { locals = λ n among. by_flag n (is_among n (the_frame g).unsure) refl }
      where
        by_flag : (n : ℕ) (b : Bool) → is_among n (the_frame g).unsure ≡ b → IsNamed b (local_value g n) (local_flag g n) None t
        by_flag n true is = q.flags (place_in (the_frame g).unsure n) (place_below (the_frame g).unsure n is)
        by_flag n false is = tt

  -- ---- The count of calls

  value_deep : (k : ℕ) (s : State) → read_int layouts.depth s ≡ Is (pos k) → machine.value deep c.tables s ≡ Is (truth (int_le (pos 4096) (pos k)))
  value_deep k s h =
      value_Bin op.GreaterEq (expr.Var layouts.depth) (expr.Lit (pos 4096)) c.tables s
      ∙ ap (λ a. machine.apply op.GreaterEq a (machine.value (expr.Lit (pos 4096)) c.tables s)) (value_Var layouts.depth c.tables s ∙ h)
      ∙ ap (λ b. machine.apply op.GreaterEq (Is (pos k)) b) (value_Lit (pos 4096) c.tables s)

  value_more : (k : ℕ) (s : State) → k < 4096 → read_int layouts.depth s ≡ Is (pos k) → machine.value (expr.Bin op.Add (expr.Var layouts.depth) (expr.Lit (pos 1))) c.tables s ≡ Is (pos (suc k))
  value_more k s lt h =
      value_Bin op.Add (expr.Var layouts.depth) (expr.Lit (pos 1)) c.tables s
      ∙ ap (λ a. machine.apply op.Add a (machine.value (expr.Lit (pos 1)) c.tables s)) (value_Var layouts.depth c.tables s ∙ h)
      ∙ ap (λ b. machine.apply op.Add (Is (pos k)) b) (value_Lit (pos 1) c.tables s)
      ∙ ap ranged (one_more k)
      ∙ ranged_below (suc k) (omega (arith, lt))

  -- one more frame stands
  pub count_up_does : (counted : Bool) (q : Place) (S : World) (s : State) (Stop : State → Type 0) → g.layout.counted ≡ counted → depth S.places < 4096 → IsCounted counted S s → Runs c Any (count_up counted) s (Sinking g.layout 2 (record S { places = in_front q S.places }) s) Stop
  count_up_does false q S s Stop is few h =
      runs_none c Any s (Sinking g.layout 2 (record S { places = in_front q S.places }) s) Stop
      (λ rest. record { globals = λ x lt. refl; counted = subst (λ (x : Bool). IsCounted x (record S { places = in_front q S.places }) (record s { todo = rest })) (sym is) tt; output = refl; marks = refl; places = refl; callers = refl; input = refl; more = omega arith; cost = omega arith })
  count_up_does true q S s Stop is few h =
      let k = depth S.places in
      runs_then c Any (stmt.If deep (stmt.Fault fault.Limit ∷ []) None ∷ []) (stmt.Set layouts.depth (expr.Bin op.Add (expr.Var layouts.depth) (expr.Lit (pos 1))) ∷ []) s (λ u. Quiet 1 s u × ((x : ℕ) → read_int (int.Global x) u ≡ read_int (int.Global x) s)) (Sinking g.layout 2 (record S { places = in_front q S.places }) s) Stop
      (runs_If c Any deep (stmt.Fault fault.Limit ∷ []) None s (λ u. Quiet 1 s u × ((x : ℕ) → read_int (int.Global x) u ≡ read_int (int.Global x) s)) Stop (truth (int_le (pos 4096) (pos k))) true (value_deep k s h) (over k few) (λ todo. tt)
      (runs_none c Any (settled s) (λ u. Quiet 1 s u × ((x : ℕ) → read_int (int.Global x) u ≡ read_int (int.Global x) s)) Stop (λ rest. (record { output = refl; marks = refl; places = refl; callers = refl; input = refl; more = omega arith; cost = omega arith }, λ x. refl))))
      (λ u p. runs_less c Any (stmt.Set layouts.depth (expr.Bin op.Add (expr.Var layouts.depth) (expr.Lit (pos 1))) ∷ []) u (Written layouts.depth (pos (suc k)) u) (Sinking g.layout 2 (record S { places = in_front q S.places }) s) Stop Stop
      (λ t w.
      let a = p.0.more in
      let b = p.0.cost in
      let e = w.steps in
      record {
        globals = λ x lt. written_other layouts.depth (int.Global x) (pos (suc k)) u t w (global_differs x 0 (λ (d : x ≡ 0). omega (arith, d, lt))) ∙ p.1 x;
        counted = subst (λ (x : Bool). IsCounted x (record S { places = in_front q S.places }) t) (sym is) (written_here layouts.depth (pos (suc k)) u t w ∙ ap (λ n. Is (pos n)) (deeper S));
        output = w.output ∙ p.0.output;
        marks = w.marks ∙ p.0.marks;
        places = w.places ∙ p.0.places;
        callers = w.callers ∙ p.0.callers;
        input = w.input ∙ p.0.input;
        more = omega (arith, a, e);
        cost = omega (arith, b, e);
      })
      (λ t w. w)
      (set_does c layouts.depth (expr.Bin op.Add (expr.Var layouts.depth) (expr.Lit (pos 1))) u Stop (pos (suc k)) (value_more k u few (p.1 0 ∙ h))))
    where
      over : (k : ℕ) → k < 4096 → machine.is_zero (truth (int_le (pos 4096) (pos k))) ≡ true
      over k lt = let e : int_le (pos 4096) (pos k) ≡ false = grind (arith, nat_tests, lt) in ap (λ b. machine.is_zero (truth b)) e

      deeper : (S : World) → suc (depth S.places) ≡ depth (in_front q S.places)
      deeper S = omega arith

  -- LIMIT where as many frames stand as may
  pub count_up_faults : (k : ℕ) (s : State) (Post Stop : State → Type 0) → 4096 ≤ k → read_int layouts.depth s ≡ Is (pos k) → ((todo : Todo) → FaultsAt c fault.Limit (settled (record s { todo = todo })) → Stop (settled (record s { todo = todo }))) → Runs c Any (count_up true) s Post Stop
  count_up_faults k s Post Stop le h stop =
      runs_then c Any (stmt.If deep (stmt.Fault fault.Limit ∷ []) None ∷ []) (stmt.Set layouts.depth (expr.Bin op.Add (expr.Var layouts.depth) (expr.Lit (pos 1))) ∷ []) s (λ u. ⊥) Post Stop
      (runs_If c Any deep (stmt.Fault fault.Limit ∷ []) None s (λ u. ⊥) Stop (truth (int_le (pos 4096) (pos k))) false (value_deep k s h) (full k le) (λ todo. tt)
      (runs_Fault c Any fault.Limit (settled s) (λ u. ⊥) Stop (λ todo faults. stop todo faults)))
      (λ u none. absurd none)
    where
      full : (k : ℕ) → 4096 ≤ k → machine.is_zero (truth (int_le (pos 4096) (pos k))) ≡ false
      full k le = let e : int_le (pos 4096) (pos k) ≡ true = grind (arith, nat_tests, le) in ap (λ b. machine.is_zero (truth b)) e
