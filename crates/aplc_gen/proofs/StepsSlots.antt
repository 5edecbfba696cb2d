-- A value that goes into a slot, and one that is stored in a name.
use Rattle.std.proofs.Common.{◌≡◌, ℕ, ◌+◌, ◌<◌, List, [], ◌∷◌, refl, sym, ap, ◌∙◌, arith, ℤ, Bool, true, false, cond, ◌⊎◌, inl, inr}
use Rattle.std.specs.Prelude.{Some, nat_eq, nat_lt}
use Rattle.std.proofs.lemmas.Bool.Decides.{eqb_tells, nat_tests}
use Rattle.std.proofs.lemmas.Bool.{eq-eqb, ne_eqb}
use Rattle.aplc_arr.specs.Arrays.{Array}
use Rattle.aplc_cprof.specs.declared.syntax.Int.TheVariants as int
use Rattle.aplc_cprof.specs.declared.syntax.CStmt.{CStmt}
use Rattle.aplc_cprof.specs.declared.syntax.CStmt.TheVariants as stmt
use Rattle.aplc_cprof.specs.Machine.{Todo, Code, Caller, Is, read_int}
use Rattle.aplc_cprof.specs.Machine as machine
use Rattle.aplc_cprof.proofs.Rules.{Any, runs_less}
use Rattle.aplc_cprof.proofs.Writes.{Written, written_here, written_other}
use Rattle.aplc_names.specs.States.{Places, World, State, Gives}
use Rattle.aplc_names.specs.Eager.{Context}
use Rattle.aplc_core.specs.PlainSteps.{Term, Keep, id_of}
use Rattle.aplc_core.specs.CoreRuns.{Told, Slots, set_slot, term_value, step_done}
use Rattle.aplc_gen.specs.Sound.{Ready, keeping, is_term, term_cost}
use Rattle.aplc_gen.specs.Layouts.{Site, the_routine, the_frame, slot_place, base}
use Rattle.aplc_gen.specs.Emitted.{operand, tree_code, step_code, known_after}
use Rattle.aplc_gen.specs.Laid.{is_laid_term}
use Rattle.aplc_gen.specs.Relation.{IsNumber, InSlot, Here, Bounds, Computed, Sim, TreesDo, works, pay_if, owe}
use Rattle.aplc_gen.proofs.Writes.{quiet_written, common_kept, locals_kept, held_kept, globals_local, locals_local, local_differs, set_does, Looser, here_looser}
use Rattle.aplc_gen.proofs.Computing.{here_computed}
use Rattle.aplc_gen.proofs.TreesReads.{sim_given}
use Rattle.aplc_gen.proofs.Trees.{sim_then}

-- ---- Slots

-- a slot is given the value of a node
pub here_slot : (g : Site) (b : Bounds) (known : List ℕ) (r : Ready) (slots : Slots) (ps : Places) (cs : List Caller) (S : World) (s t : machine.State) (j i : ℕ) (v : Array) (z : ℤ) → j < (the_frame g).slots → IsNumber v z → Written (int.Local (slot_place g j)) z s t →
    Here g b known r slots ps cs S s → Here g (owe 1 b) known (keeping j i r) (set_slot j i v slots) ps cs S t
here_slot g b known r slots ps cs S s t j i v z lt number w h = record {
  common = common_kept g.layout b 1 S s t (quiet_written (int.Local (slot_place g j)) z s t w) (globals_local g.layout (slot_place g j) z s t w) h.common;
  locals = locals_kept g S s t (locals_local g (slot_place g j) z s t (omega arith) w) h.locals;
  knows = h.knows;
  stored = h.stored;
  ready = λ k a kept. by k a kept (eqb_tells k j);
  here = ap (λ (ps : machine.Places). ps.here) w.places ∙ h.here;
  places = h.places;
  callers = w.callers ∙ h.callers;
}
  where
    by : (k a : ℕ) → cond (nat_eq k j) (Some i) (r.kept k) ≡ Some a → ((nat_eq k j ≡ true) × (k ≡ j)) ⊎ ((nat_eq k j ≡ false) × (k ≡ j → ⊥)) → InSlot g k a (set_slot j i v slots) t
    by k a kept (inl e) =
        let same : Some i ≡ Some a = sym (ap (λ t. cond t (Some i) (r.kept k)) e.0) ∙ kept in
        let node : i ≡ a = cc in
        let at = e.1 in
        record {
          value = v;
          below = omega (arith, at, lt);
          is = ap (λ t. cond t (Some (record { node = i; value = v })) (slots k)) (eq-eqb j k (sym at)) ∙ ap (λ (n : ℕ). Some (record { node = n; value = v })) node;
          held = record { number = z; is = number; value = ap (λ (n : ℕ). read_int (int.Local (slot_place g n)) t) at ∙ written_here (int.Local (slot_place g j)) z s t w };
        }
    by k a kept (inr ne) =
        let q = h.ready k a (sym (ap (λ t. cond t (Some i) (r.kept k)) ne.0) ∙ kept) in
        let differs = local_differs (slot_place g k) (slot_place g j) (λ e. ne.1 (omega (arith, e))) in
        record {
          value = q.value;
          below = q.below;
          is = ap (λ t. cond t (Some (record { node = i; value = v })) (slots k)) (ne_eqb j k (λ e. ne.1 (sym e))) ∙ q.is;
          held = held_kept (int.Local (slot_place g k)) q.value s t (written_other (int.Local (slot_place g j)) (int.Local (slot_place g k)) z s t w differs) q.held;
        }

pub slot_below : (a b : ℕ) → nat_lt a b ≡ true → a < b
slot_below a b h = grind (arith, nat_tests)

-- a step more is owed behind a tree
pub owes_behind : (w : Bool) (d e : ℕ) (b : Bounds) → Looser (owe d (pay_if w (owe e b))) (pay_if w (owe (d + e) b))
owes_behind true d e b = record { lines = omega arith; fuel = omega arith; credit = omega arith; set = λ n h. h }
owes_behind false d e b = record { lines = omega arith; fuel = omega arith; credit = omega arith; set = λ n h. h }

module _ (c : Code) (w : ℕ) (trees : TreesDo c w) where
  -- a tree's value is kept in a slot
  pub keep_does : (g : Site) (x : Context) (l : Told) (b : Bounds) (known : List ℕ) (r : Ready) (slots : Slots) (ps : Places) (cs : List Caller) (j : ℕ) (t : Term) (S : State) (s : machine.State) →
      x.scope ≡ (the_routine g).header.scope → is_term (the_routine g).header.scope l r t ≡ true → nat_lt j (the_frame g).slots ≡ true → is_laid_term g known t ≡ true → Here g b known r slots ps cs S.world s →
      Sim c w (step_code g known (Keep j t)) s (step_done x l (Keep j t) slots S) (λ later T u. Here g (pay_if (works l t) (owe (1 + term_cost t) b)) (known_after known t) (keeping j (id_of t) r) later ps cs T.world u)
  keep_does g x l b known r slots ps cs j t S s same ok lt laid h =
      let e = operand g (base g) t in
      let last : List CStmt = stmt.Set (int.Local (slot_place g j)) e ∷ [] in
      let Post : Slots → State → machine.State → Type 0 = λ later T u. Here g (pay_if (works l t) (owe (1 + term_cost t) b)) (known_after known t) (keeping j (id_of t) r) later ps cs T.world u in
      let inner = pay_if (works l t) (owe (term_cost t) b) in
      sim_then c w (tree_code g known (base g) t) last s (term_value x l slots t S) (λ v T. Gives (set_slot j (id_of t) v slots) T) (Computed c w g known (base g) l t S s) Post
      (trees g x l b known r slots ps cs (base g) t S s same (omega arith) ok laid h)
      (λ v T u q.
      let hu = here_computed c w g b known r slots ps cs (base g) l t S s v T u (omega arith) q h in
      let z = q.holds.number in
      sim_given c w last u (Gives (set_slot j (id_of t) v slots) T) Post (set_slot j (id_of t) v slots) T refl
      (runs_less c Any last u (Written (int.Local (slot_place g j)) z u) (Post (set_slot j (id_of t) v slots) T) (λ o. ⊥) (λ o. ⊥)
      (λ o wr. here_looser g (owe 1 inner) (pay_if (works l t) (owe (1 + term_cost t) b)) (known_after known t) (keeping j (id_of t) r) (set_slot j (id_of t) v slots) ps cs T.world o (owes_behind (works l t) 1 (term_cost t) b)
      (here_slot g inner (known_after known t) r slots ps cs T.world u o j (id_of t) v z (slot_below j (the_frame g).slots lt) q.holds.is wr hu))
      (λ o none. none)
      (set_does c (int.Local (slot_place g j)) e u (λ o. ⊥) z q.holds.value)))
