-- The relation within a line behind the value of a tree, and a literal's value.
use Rattle.std.proofs.Common.{◌≡◌, ℕ, ◌+◌, ◌*◌, ◌<◌, ◌≤◌, List, refl, sym, ap, ◌∙◌, subst, arith, ℤ, pos, Bool, true, false, cond, length}
use Rattle.std.specs.Prelude.{Option, map, ◌-ℤ◌, int_lt}
use Rattle.std.proofs.lemmas.Int.{ints}
use Rattle.aplc_scalar.specs.Scalar.{in_range}
use Rattle.aplc_arr.specs.Arrays.{Array}
use Rattle.aplc_cprof.specs.declared.syntax.Int.TheVariants as int
use Rattle.aplc_cprof.specs.declared.syntax.Op.TheVariants as op
use Rattle.aplc_cprof.specs.declared.syntax.CExpr.TheVariants as expr
use Rattle.aplc_cprof.specs.Machine.{Todo, Code, Caller, Is, or_unset, read_int, ranged, settled}
use Rattle.aplc_cprof.specs.Machine as machine
use Rattle.aplc_cprof.proofs.Values.{value_Lit, value_Bin, ranged_in}
use Rattle.aplc_names.specs.States.{Places, State, is_among}
use Rattle.aplc_core.specs.PlainSteps.{Term}
use Rattle.aplc_core.specs.CoreRuns.{Told, Slots}
use Rattle.aplc_gen.specs.Shown.{place_shown}
use Rattle.aplc_gen.specs.Sound.{Ready, term_cost}
use Rattle.aplc_gen.specs.Layouts.{Site, the_frame, base, local_value, local_flag, global_value, global_flag}
use Rattle.aplc_gen.specs.Emitted.{literal_expr, known_after}
use Rattle.aplc_gen.specs.Relation.{IsNamed, Bounds, Here, Kept, Computed, works, gain, owe, pay_if}
use Rattle.aplc_gen.proofs.Writes.{locals_kept, globals_kept, ready_kept, counted_same, counted_other}
use Rattle.aplc_gen.proofs.Knowing.{after_more}

-- ---- A literal

minus_minus : (z : ℤ) → (pos 0 -ℤ (pos 0 -ℤ z)) ≡ z
minus_minus z = omega (arith, ints)

pub value_literal : (c : Code) (z : ℤ) (s : machine.State) → in_range z ≡ true → machine.value (literal_expr z) c.tables s ≡ Is z
value_literal c z s fits = by (int_lt z (pos 0))
  where
    by : (b : Bool) → machine.value (cond b (expr.Bin op.Sub (expr.Lit (pos 0)) (expr.Lit (pos 0 -ℤ z))) (expr.Lit z)) c.tables s ≡ Is z
    by false = value_Lit z c.tables s
    by true =
        value_Bin op.Sub (expr.Lit (pos 0)) (expr.Lit (pos 0 -ℤ z)) c.tables s
        ∙ ap (λ a. machine.apply op.Sub a (machine.value (expr.Lit (pos 0 -ℤ z)) c.tables s)) (value_Lit (pos 0) c.tables s)
        ∙ ap (λ b. machine.apply op.Sub (Is (pos 0)) b) (value_Lit (pos 0 -ℤ z) c.tables s)
        ∙ ap ranged (minus_minus z)
        ∙ ranged_in z fits

-- ---- Behind a tree

pub kept_local : (k j : ℕ) (s t : machine.State) → j < k → Kept k s t → read_int (int.Local j) t ≡ read_int (int.Local j) s
kept_local k j s t lt q = ap or_unset (q.lower j lt)

pub kept_global : (k j : ℕ) (s t : machine.State) → Kept k s t → read_int (int.Global j) t ≡ read_int (int.Global j) s
kept_global k j s t q = ap (λ (f : ℕ → ℤ). Is (f j)) q.global_ints

credit : (w : Bool) (b : Bounds) (d k i W V : ℕ) → k ≤ i + d → i + b.paid ≤ 4096 * W + b.owed → W + gain w ≤ V → k + (pay_if w (owe d b)).paid ≤ 4096 * V + (pay_if w (owe d b)).owed
credit true b d k i W V cost taken work = omega (arith, cost, taken, work)
credit false b d k i W V cost taken work = omega (arith, cost, taken, work)

pay_lines : (w : Bool) (b : Bounds) → (pay_if w b).lines ≡ b.lines
pay_lines true b = refl
pay_lines false b = refl

pay_fuel : (w : Bool) (b : Bounds) → (pay_if w b).fuel ≡ b.fuel
pay_fuel true b = refl
pay_fuel false b = refl

pay_set : (w : Bool) (b : Bounds) (n : ℕ) → (pay_if w b).set n ≡ b.set n
pay_set true b n = refl
pay_set false b n = refl

module _ (c : Code) (n : ℕ) where
  pub here_computed : (g : Site) (b : Bounds) (known : List ℕ) (r : Ready) (slots : Slots) (ps : Places) (cs : List Caller) (k : ℕ) (l : Told) (t : Term) (S : State) (s : machine.State) (v : Array) (T : State) (u : machine.State) → base g ≤ k → Computed c n g known k l t S s v T u → Here g b known r slots ps cs S.world s → Here g (pay_if (works l t) (owe (term_cost t) b)) (known_after known t) r slots ps cs T.world u
  here_computed g b known r slots ps cs k l t S s v T u le q h =
      let w = works l t in
      let d = owe (term_cost t) b in
      let same = q.same in
      let more = q.kept.steps in
      let left = same.left in
      let below = h.common.below in
      let count = h.common.count in
      let fuel = pay_fuel w d in
      let lines = pay_lines w d in
      record {
        common = record {
          globals = λ i among. subst (λ (f : ℕ → Option Array). IsNamed (is_among i g.layout.unsure) (global_value g.layout i) (global_flag g.layout i) (f i) u) (sym same.globals) (globals_kept g.layout S.world s u (λ x le. kept_global k x s u q.kept) h.common.globals i among);
          counted = counted_other g.layout.counted S.world T.world u (ap (λ (ps : Places). 1 + length ps.behind) same.places) (counted_same g.layout.counted S.world s u (kept_global k 0 s u q.kept) h.common.counted);
          output = q.kept.output ∙ h.common.output ∙ sym same.output;
          marks = q.kept.marks ∙ h.common.marks ∙ ap (map place_shown) (sym same.marks);
          behind = ap (λ (ps : machine.Places). ps.behind) q.kept.places ∙ h.common.behind ∙ ap (λ (ps : Places). map place_shown ps.behind) (sym same.places);
          input = q.kept.input ∙ h.common.input ∙ sym same.input;
          below = omega (arith, left, below, fuel);
          count = omega (arith, left, count, more, lines);
          taken = credit w b (term_cost t) u.steps s.steps S.world.work T.world.work q.cost h.common.taken q.work;
          set = λ i set. let a = h.common.set i (sym (pay_set w d i) ∙ set) in (a.0, ap (λ (f : ℕ → Option Array). f i) same.globals ∙ a.1);
        };
        locals = λ i among. subst (λ (f : ℕ → Option Array). IsNamed (is_among i (the_frame g).unsure) (local_value g i) (local_flag g i) (f i) u) (sym same.locals) (locals_kept g S.world s u (λ x lt. kept_local k x s u (omega (arith, lt, le)) q.kept) h.locals i among);
        knows = q.knows;
        stored = λ i among. after_more known t i (h.stored i among);
        ready = ready_kept g r slots s u (λ x more lt. kept_local k x s u (omega (arith, lt, le)) q.kept) h.ready;
        here = ap (λ (ps : machine.Places). ps.here) q.kept.places ∙ h.here ∙ ap (λ (ps : Places). place_shown ps.here) (sym same.places);
        places = same.places ∙ h.places;
        callers = q.kept.callers ∙ h.callers;
      }
