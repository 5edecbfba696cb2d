-- The code of a tree does what the tree's evaluation gives, and changes nothing else.
use Rattle.std.proofs.Common.{◌≡◌, ℕ, ◌+◌, ◌≤◌, List, [], ◌∷◌, ◌++◌, refl, sym, ap, ◌∙◌, arith, ℤ, Bool, true, false, cond}
use Rattle.std.specs.Prelude.{Option, Some, None, ◌&&◌, length}
use Rattle.std.proofs.lemmas.Bool.{eq-eqb}
use Rattle.aplc_scalar.specs.declared.kind.Kind.{Kind}
use Rattle.aplc_scalar.specs.declared.kind.Kind.TheVariants.{Num, Char}
use Rattle.aplc_scalar.specs.declared.kind.FaultKind.TheVariants as fault
use Rattle.aplc_scalar.specs.Scalar.{in_range}
use Rattle.aplc_arr.specs.Arrays.{Array}
use Rattle.aplc_syntax.specs.declared.tree.Primitive.{Primitive}
use Rattle.aplc_cprof.specs.declared.syntax.Int.TheVariants as int
use Rattle.aplc_cprof.specs.declared.syntax.CStmt.{CStmt}
use Rattle.aplc_cprof.specs.Machine.{Todo, Code, Caller, Is, exact}
use Rattle.aplc_cprof.specs.Machine as machine
use Rattle.aplc_cprof.proofs.Rules.{Any, FaultsAt, runs_none, runs_less}
use Rattle.aplc_cprof.proofs.Matching.{matches_is, matches_then}
use Rattle.aplc_cprof.proofs.Matching as matching
use Rattle.aplc_names.specs.States.{Places, State, Outcome, Gives, and_then}
use Rattle.aplc_names.specs.Eager.{Context, scalar, literal, ready, made, none_for}
use Rattle.aplc_names.specs.Primitives.{mono_of, dyad_of, mono_applications, dyad_applications, places_listed}
use Rattle.aplc_core.specs.PlainSteps.{Term, Literal, Read, Slot, Mono, Dyad, Index}
use Rattle.aplc_core.specs.CoreRuns.{Told, Slots, use_in, nothing_kept, value_kept, term_value}
use Rattle.aplc_gen.specs.Built.{is_number, is_sign, is_checked}
use Rattle.aplc_gen.specs.Sound.{Ready, is_term, is_node, term_cost}
use Rattle.aplc_gen.specs.Layouts.{Site, the_routine, base, slot_place}
use Rattle.aplc_gen.specs.Emitted.{is_minus, is_times, is_constant, checked_of, checked_code, minus_code, local, operand, known_after, tree_code}
use Rattle.aplc_gen.specs.Laid.{is_laid_term}
use Rattle.aplc_gen.specs.Relation.{Holds, InSlot, Knows, Shows, Fails, Waits, Here, Bounds, Same, Kept, Computed, Sim, TreesDo, course, works, pay_if, owe}
use Rattle.aplc_gen.proofs.Outcomes.{course_then}
use Rattle.aplc_gen.proofs.Frames.{and_left, and_right}
use Rattle.aplc_gen.proofs.Landing.{eq_of}
use Rattle.aplc_gen.proofs.Computing.{value_literal, here_computed}
use Rattle.aplc_gen.proofs.Values.{same_refl, same_trans, ready_given, signed, signed_fits, mono_given, dyad_made, dyad_given, dyad_fault}
use Rattle.aplc_gen.proofs.Operands.{kept_todo, kept_trans, kept_less, holds_kept, holds_var}
use Rattle.aplc_gen.proofs.Checks.{Placed, minus_does, checked_given, checked_fault}
use Rattle.aplc_gen.proofs.NamesRead.{shows_kept, shows_here}
use Rattle.aplc_gen.proofs.TreesReads.{knows_same, sim_given, sim_fault, read_does}

is_of_node : (o : Option ℕ) (i : ℕ) → is_node o i ≡ true → o ≡ Some i
is_of_node None i h = absurd (cc)
is_of_node (Some j) i h = ap Some (eq_of j i h)

module _ (c : Code) (w : ℕ) where
  -- code after code, where the computation goes on with what was given
  pub sim_then : {A B : Type 0} (a b : List CStmt) (s : machine.State) (out : Outcome A) (next : A → State → Outcome B) (Mid : A → State → machine.State → Type 0) (Rel : B → State → machine.State → Type 0) → Sim c w a s out Mid → ((v : A) (T : State) (u : machine.State) → Mid v T u → Sim c w b u (next v T) Rel) → Sim c w (a ++ b) s (and_then out next) Rel
  sim_then a b s out next Mid Rel first then =
      matches_is c Any State Fails (Waits w) (a ++ b) s (matching.and_then (course out) (λ v T. course (next v T))) (course (and_then out next)) Rel (sym (course_then out next))
      (matches_then c Any State Fails (Waits w) a b s (course out) (λ v T. course (next v T)) Mid Rel first then)

  module _ (g : Site) (x : Context) (l : Told) (known : List ℕ) (k : ℕ) where
    -- ---- Leaves

    literal_does : (i : ℕ) (kind : Kind) (zs : List ℤ) (S : State) (s : machine.State) → is_number kind zs ≡ true → Knows g known S.world → Sim c w [] s (ready x i (use_in l i) (length zs) (literal kind zs) S) (Computed c w g known k l (Literal i kind zs) S s)
    literal_does i Num (z ∷ []) S s ok knows =
        let q = ready_given x i (use_in l i) 1 (scalar z) S in
        let Post = Computed c w g known k l (Literal i Num (z ∷ [])) S s in
        sim_given c w [] s (ready x i (use_in l i) 1 (scalar z) S) Post (scalar z) q.to q.is
        (runs_none c Any s (Post (scalar z) q.to) (λ t. ⊥)
        (λ rest. record { same = q.same; kept = kept_todo k s rest; holds = record { number = z; is = record { is = refl; fits = ok }; value = value_literal c z (record s { todo = rest }) ok }; knows = knows_same g known S.world q.to.world q.same knows; cost = omega arith; work = q.work }))
    literal_does i Num [] S s ok knows = absurd (cc)
    literal_does i Num (z ∷ y ∷ zs) S s ok knows = absurd (cc)
    literal_does i Char zs S s ok knows = absurd (cc)

    slot_does : (i j : ℕ) (slots : Slots) (S : State) (s : machine.State) → InSlot g j i slots s → Knows g known S.world → Sim c w [] s (Gives (value_kept i (slots j)) S) (Computed c w g known k l (Slot i j) S s)
    slot_does i j slots S s a knows =
        let Post = Computed c w g known k l (Slot i j) S s in
        let node : value_kept i (slots j) ≡ a.value = ap (value_kept i) a.is ∙ ap (λ t. cond t a.value nothing_kept) (eq-eqb i i refl) in
        sim_given c w [] s (Gives (value_kept i (slots j)) S) Post a.value S (ap (λ (v : Array). Gives v S) node)
        (runs_none c Any s (Post a.value S) (λ t. ⊥)
        (λ rest. record { same = same_refl S.world; kept = kept_todo k s rest; holds = holds_var c (int.Local (slot_place g j)) a.value (record s { todo = rest }) (record { number = a.held.number; is = a.held.is; value = a.held.value }); knows = knows; cost = omega arith; work = omega arith }))

    -- ---- One argument

    mono_does : (i : ℕ) (p : Primitive) (a : Term) (S : State) (s : machine.State) (y : Array) (T : State) (u : machine.State) → is_sign p ≡ true → Computed c w g known k l a S s y T u →
        Sim c w (minus_code k (is_minus p) (operand g k a)) u (made x i (use_in l i) none_for (mono_applications x.origin p y.shape) (mono_of x.origin p y) T) (Computed c w g known k l (Mono i p a) S s)
    mono_does i p a S s y T u ok q =
        let z = q.holds.number in
        let r = mono_given x i (use_in l i) p z T ok in
        let v : Array = scalar (signed (is_minus p) z) in
        let Post = Computed c w g known k l (Mono i p a) S s in
        let code = minus_code k (is_minus p) (operand g k a) in
        let cost = q.cost in
        let first = q.work in
        let more = r.work in
        sim_given c w code u (made x i (use_in l i) none_for (mono_applications x.origin p y.shape) (mono_of x.origin p y) T) Post v r.to
        (ap (λ (y : Array). made x i (use_in l i) none_for (mono_applications x.origin p y.shape) (mono_of x.origin p y) T) q.holds.is.is ∙ r.is)
        (runs_less c Any code u (Placed c (cond (is_minus p) (local k) (operand g k a)) (signed (is_minus p) z) k 1 u) (Post v r.to) (λ t. ⊥) (λ t. ⊥)
        (λ t d.
        let last = d.cost in
        record {
          same = same_trans S.world T.world r.to.world q.same r.same;
          kept = kept_trans k s u t q.kept d.kept;
          holds = record { number = signed (is_minus p) z; is = record { is = refl; fits = signed_fits (is_minus p) z q.holds.is.fits }; value = d.value };
          knows = knows_same g (known_after known a) T.world r.to.world r.same q.knows;
          cost = omega (arith, cost, last);
          work = omega (arith, first, more);
        })
        (λ t d. d)
        (minus_does c (is_minus p) k (operand g k a) z u (λ t. ⊥) q.holds.is.fits q.holds.value))

    -- ---- Two arguments

    dyad_does : (i : ℕ) (p : Primitive) (a d : Term) (b : Bounds) (r : Ready) (slots : Slots) (ps : Places) (cs : List Caller) (S : State) (s : machine.State) (y : Array) (T : State) (t : machine.State) (v : Array) (U : State) (u : machine.State) →
        base g ≤ k → is_checked p ≡ true → is_laid_term g known d ≡ true → Here g b known r slots ps cs S.world s → Computed c w g known k l d S s y T t → Computed c w g (known_after known d) (k + 1) l a T t v U u →
        Sim c w (checked_code k p (is_times p && is_constant g a) (operand g (k + 1) a) (operand g k d) ∷ []) u (made x i (use_in l i) (places_listed x.origin p v.shape) (dyad_applications x.origin p v.shape y.shape) (dyad_of x.origin p v y) U) (Computed c w g known k l (Dyad i p a d) S s)
    dyad_does i p a d b r slots ps cs S s y T t v U u le ok laid h right left = by_range (in_range z) refl
      where
        -- where the right value is now
        second : Holds c (operand g k d) y u
        second = holds_kept c g known k d y t u le laid left.kept right.holds

        z : ℤ
        z = exact (checked_of p) left.holds.number second.number

        code : List CStmt
        code = checked_code k p (is_times p && is_constant g a) (operand g (k + 1) a) (operand g k d) ∷ []

        Out : Outcome Array
        Out = made x i (use_in l i) (places_listed x.origin p v.shape) (dyad_applications x.origin p v.shape y.shape) (dyad_of x.origin p v y) U

        out_is : Out ≡ dyad_made x i (use_in l i) p left.holds.number second.number U
        out_is =
            ap (λ (v : Array). made x i (use_in l i) (places_listed x.origin p v.shape) (dyad_applications x.origin p v.shape y.shape) (dyad_of x.origin p v y) U) left.holds.is.is
            ∙ ap (λ (y : Array). made x i (use_in l i) (places_listed x.origin p []) (dyad_applications x.origin p [] y.shape) (dyad_of x.origin p (scalar left.holds.number) y) U) second.is.is

        Post : Array → State → machine.State → Type 0
        Post = Computed c w g known k l (Dyad i p a d) S s

        same : Same S.world U.world
        same = same_trans S.world T.world U.world right.same left.same

        stays : Kept k s u
        stays = kept_trans k s t u right.kept (kept_less k (k + 1) t u (omega arith) left.kept)

        by_range : (o : Bool) → in_range z ≡ o → Sim c w code u Out Post
        by_range true fits =
            let q = dyad_given x i (use_in l i) p left.holds.number second.number U ok fits in
            let one = right.cost in
            let two = left.cost in
            let first = right.work in
            let next = left.work in
            let more = q.work in
            sim_given c w code u Out Post (scalar z) q.to (out_is ∙ q.is)
            (runs_less c Any code u (Placed c (local k) z k 1 u) (Post (scalar z) q.to) (λ t. ⊥) (λ t. ⊥)
            (λ e q1.
            let last = q1.cost in
            record {
              same = same_trans S.world U.world q.to.world same q.same;
              kept = kept_trans k s u e stays q1.kept;
              holds = record { number = z; is = record { is = refl; fits = fits }; value = q1.value };
              knows = knows_same g (known_after (known_after known d) a) U.world q.to.world q.same left.knows;
              cost = omega (arith, one, two, last);
              work = omega (arith, first, next, more);
            })
            (λ e q1. q1)
            (checked_given c p (is_constant g a) k (operand g (k + 1) a) (operand g k d) left.holds.number second.number u (λ t. ⊥) fits left.holds.value second.value))
        by_range false out =
            let q = dyad_fault x i (use_in l i) p left.holds.number second.number U ok out in
            sim_fault c w code u Out Post fault.Limit q.to (out_is ∙ q.is)
            (runs_less c Any code u (λ t. ⊥) (λ t. ⊥) (λ e. FaultsAt c fault.Limit e × Kept k u e) (λ e. FaultsAt c fault.Limit e × Shows q.to.world e)
            (λ e q1. q1)
            (λ e q1. (q1.0, shows_kept k S.world q.to.world s e (same_trans S.world U.world q.to.world same q.same) (kept_trans k s u e stays q1.1) (shows_here g b known r slots ps cs S.world s h)))
            (checked_fault c p (is_constant g a) k (operand g (k + 1) a) (operand g k d) left.holds.number second.number u (λ t. ⊥) out left.holds.value second.value))

  -- ---- Trees

  pub trees_do : TreesDo c w
  trees_do g x l b known r slots ps cs k (Literal i kind zs) S s same le ok laid h = literal_does g x l known k i kind zs S s ok h.knows
  trees_do g x l b known r slots ps cs k (Read i n) S s same le ok laid h =
      read_does c w g x l b known r slots ps cs k i n S s same ok laid h
  trees_do g x l b known r slots ps cs k (Slot i j) S s same le ok laid h = slot_does g x l known k i j slots S s (h.ready j i (is_of_node (r.kept j) i ok)) h.knows
  trees_do g x l b known r slots ps cs k (Mono i p a) S s same le ok laid h =
      let sc = (the_routine g).header.scope in
      sim_then (tree_code g known k a) (minus_code k (is_minus p) (operand g k a)) s (term_value x l slots a S)
      (λ y T. made x i (use_in l i) none_for (mono_applications x.origin p y.shape) (mono_of x.origin p y) T)
      (Computed c w g known k l a S s) (Computed c w g known k l (Mono i p a) S s)
      (trees_do g x l b known r slots ps cs k a S s same le (and_right (is_sign p) (is_term sc l r a) ok) laid h)
      (λ y T u q. mono_does g x l known k i p a S s y T u (and_left (is_sign p) (is_term sc l r a) ok) q)
  trees_do g x l b known r slots ps cs k (Dyad i p a d) S s same le ok laid h =
      let sc = (the_routine g).header.scope in
      let after = known_after known d in
      let laid_d = and_left (is_laid_term g known d) (is_laid_term g after a) laid in
      let ok_p = and_left (is_checked p) (is_term sc l r a && is_term sc l r d) ok in
      let oks = and_right (is_checked p) (is_term sc l r a && is_term sc l r d) ok in
      let check = checked_code k p (is_times p && is_constant g a) (operand g (k + 1) a) (operand g k d) ∷ [] in
      sim_then (tree_code g known k d) (tree_code g after (k + 1) a ++ check) s (term_value x l slots d S)
      (λ y T. and_then (term_value x l slots a T) (λ v U. made x i (use_in l i) (places_listed x.origin p v.shape) (dyad_applications x.origin p v.shape y.shape) (dyad_of x.origin p v y) U))
      (Computed c w g known k l d S s) (Computed c w g known k l (Dyad i p a d) S s)
      (trees_do g x l b known r slots ps cs k d S s same le (and_right (is_term sc l r a) (is_term sc l r d) oks) laid_d h)
      (λ y T t right.
      sim_then (tree_code g after (k + 1) a) check t (term_value x l slots a T)
      (λ v U. made x i (use_in l i) (places_listed x.origin p v.shape) (dyad_applications x.origin p v.shape y.shape) (dyad_of x.origin p v y) U)
      (Computed c w g after (k + 1) l a T t) (Computed c w g known k l (Dyad i p a d) S s)
      (trees_do g x l (pay_if (works l d) (owe (term_cost d) b)) after r slots ps cs (k + 1) a T t same (omega (arith, le)) (and_left (is_term sc l r a) (is_term sc l r d) oks) (and_right (is_laid_term g known d) (is_laid_term g after a) laid) (here_computed c w g b known r slots ps cs k l d S s y T t le right h))
      (λ v U u left. dyad_does g x l known k i p a d b r slots ps cs S s y T t v U u le ok_p laid_d h right left))
  trees_do g x l b known r slots ps cs k (Index i a xs) S s same le ok laid h = absurd (cc)
