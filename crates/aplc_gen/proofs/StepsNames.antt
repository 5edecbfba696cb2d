-- The step that gives a name a value.
use Rattle.std.proofs.Common.{◌≡◌, ℕ, ◌+◌, List, ◌∷◌, ap, ◌∙◌, arith, pos, Bool, true, false}
use Rattle.std.specs.Prelude.{Option, Some, None}
use Rattle.aplc_arr.specs.Arrays.{Array, product}
use Rattle.aplc_cprof.specs.declared.syntax.Int.{Int}
use Rattle.aplc_cprof.specs.declared.syntax.CExpr.{CExpr}
use Rattle.aplc_cprof.specs.Machine.{Code, Caller, Is, read_int}
use Rattle.aplc_cprof.specs.Machine as machine
use Rattle.aplc_cprof.proofs.Rules.{runs_less, Any}
use Rattle.aplc_names.specs.declared.scope.Scope.{Scope}
use Rattle.aplc_names.specs.States.{Places, State, Outcome, Gives, and_then}
use Rattle.aplc_names.specs.Eager.{Context, value_of_name, with_value, assigned, ready}
use Rattle.aplc_core.specs.PlainSteps.{Term, Store}
use Rattle.aplc_core.specs.CoreRuns.{Told, Slots, use_in, term_value, step_done}
use Rattle.aplc_gen.specs.Sound.{Ready, is_variable, is_term, term_cost}
use Rattle.aplc_gen.specs.Layouts.{Site, the_routine, base, value_place, flag_place, is_unsure}
use Rattle.aplc_gen.specs.Emitted.{operand, tree_code, step_code, store_code, known_after, scope_at}
use Rattle.aplc_gen.specs.Laid.{has_place, is_laid_term, is_counted}
use Rattle.aplc_gen.specs.Relation.{IsNamed, Here, Bounds, Computed, Sim, TreesDo, works, pay_if, pay, owe, for_line}
use Rattle.aplc_gen.proofs.Writes.{here_looser}
use Rattle.aplc_gen.proofs.Computing.{here_computed}
use Rattle.aplc_gen.proofs.Values.{ready_given}
use Rattle.aplc_gen.proofs.NamesRead.{name_held}
use Rattle.aplc_gen.proofs.TreesReads.{sim_given}
use Rattle.aplc_gen.proofs.Trees.{sim_then}
use Rattle.aplc_gen.proofs.StepsShows.{pays_behind}
use Rattle.aplc_gen.proofs.StepsStores.{IsStored, flag_apart, store_does, name_stored, here_worked}

flag_of : (t : Bool) (x f : Int) (o : Option Array) (v : Array) (s : machine.State) → t ≡ true → o ≡ Some v → IsNamed t x f o s → read_int f s ≡ Is (pos 1)
flag_of true x f (Some a) v s e is h = h.1
flag_of true x f None v s e is h = absurd (cc)
flag_of false x f o v s e is h = absurd (cc)

module _ (c : Code) (w : ℕ) (trees : TreesDo c w) where
  pub store_step : (g : Site) (x : Context) (l : Told) (b : Bounds) (known : List ℕ) (r : Ready) (slots : Slots) (ps : Places) (cs : List Caller) (i n : ℕ) (t : Term) (S : State) (s : machine.State) →
      x.scope ≡ (the_routine g).header.scope → is_counted g.layout.called g.layout.counted ≡ true → is_variable (scope_at g n) ≡ true → is_term (the_routine g).header.scope l r t ≡ true → has_place g (scope_at g n) n ≡ true → is_laid_term g known t ≡ true → Here g b known r slots ps cs S.world s →
      Sim c w (step_code g known (Store i n t)) s (step_done x l (Store i n t) slots S) (λ later T u. Here g (pay for_line (owe (2 + term_cost t) b)) (n ∷ known_after known t) (record r { stored = n ∷ r.stored }) later ps cs T.world u)
  store_step g x l b known r slots ps cs i n t S s same counts var ok place laid h =
      sim_then c w (tree_code g known (base g) t) (store_code g after y n e) s (term_value x l slots t S) next (Computed c w g known (base g) l t S s) Post
      (trees g x l b known r slots ps cs (base g) t S s same (omega arith) ok laid h)
      (λ v T u q. stores v T u q (here_computed c w g b known r slots ps cs (base g) l t S s v T u (omega arith) q h))
    where
      y : Scope
      y = scope_at g n

      e : CExpr
      e = operand g (base g) t

      after : List ℕ
      after = known_after known t

      inner : Bounds
      inner = pay_if (works l t) (owe (term_cost t) b)

      next : Array → State → Outcome Slots
      next v T = and_then (ready x i (use_in l i) (product v.shape) v (assigned (x.scope n) n v T)) (λ a U. Gives slots U)

      Post : Slots → State → machine.State → Type 0
      Post later T u = Here g (pay for_line (owe (2 + term_cost t) b)) (n ∷ after) (record r { stored = n ∷ r.stored }) later ps cs T.world u

      stores : (v : Array) (T : State) (u : machine.State) → Computed c w g known (base g) l t S s v T u → Here g inner after r slots ps cs T.world u → Sim c w (store_code g after y n e) u (next v T) Post
      stores v T u q hu =
          let given = ready_given x i (use_in l i) (product v.shape) v (assigned y n v T) in
          let at : x.scope n ≡ y = ap (λ (f : ℕ → Scope). f n) same in
          let z = q.holds.number in
          sim_given c w (store_code g after y n e) u (next v T) Post slots given.to
          (ap (λ (y : Scope). and_then (ready x i (use_in l i) (product v.shape) v (assigned y n v T)) (λ a U. Gives slots U)) at ∙ ap (λ (o : Outcome Array). and_then o (λ a U. Gives slots U)) given.is)
          (runs_less c Any (store_code g after y n e) u (IsStored g y n v u) (Post slots given.to) (λ o. ⊥) (λ o. ⊥)
          (λ o st.
          here_looser g (pay for_line (owe 2 inner)) (pay for_line (owe (2 + term_cost t) b)) (n ∷ after) (record r { stored = n ∷ r.stored }) slots ps cs given.to.world o (pays_behind (works l t) 2 (term_cost t) b)
          (here_worked g (owe 2 inner) (n ∷ after) (record r { stored = n ∷ r.stored }) slots ps cs n v (with_value y n v T.world) u o given.to.world given.same given.work
          (name_stored g inner after r slots ps cs n v T.world u o var counts place st hu)))
          (λ o none. none)
          (store_does c g y n v z q.holds.is (flag_apart g y n var place) after e u (λ o. ⊥) q.holds.value
          (λ is unsure. let a = hu.knows n is in flag_of (is_unsure g y n) (value_place g y n) (flag_place g y n) (value_of_name y n T.world) a.0 u unsure a.1 (name_held g inner after r slots ps cs y n T.world u var place hu))))
