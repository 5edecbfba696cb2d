-- The code of a name that is read, against its value.
use Rattle.std.proofs.Common.{◌≡◌, ℕ, ◌+◌, ◌≤◌, List, [], ◌∷◌, refl, sym, ap, ◌∙◌, subst, arith, Bool, true, false, ◌⊎◌, inl, inr}
use Rattle.std.specs.Prelude.{Option, Some, None, ◌&&◌, ◌||◌, nat_eq}
use Rattle.std.proofs.lemmas.Bool.Decides.{eqb_tells}
use Rattle.aplc_scalar.specs.declared.kind.FaultKind.{FaultKind}
use Rattle.aplc_scalar.specs.declared.kind.FaultKind.TheVariants as fault
use Rattle.aplc_arr.specs.Arrays.{Array}
use Rattle.aplc_cprof.specs.declared.syntax.CStmt.{CStmt}
use Rattle.aplc_cprof.specs.Machine.{Todo, Code, Caller, Is, read_int, settled}
use Rattle.aplc_cprof.specs.Machine as machine
use Rattle.aplc_cprof.proofs.Rules.{Any, Runs, FaultsAt, runs_none}
use Rattle.aplc_names.specs.declared.scope.Scope.{Scope}
use Rattle.aplc_names.specs.declared.scope.Scope.TheVariants as scope
use Rattle.aplc_names.specs.States.{Places, World, State, Outcome, Gives, Faulted, is_among}
use Rattle.aplc_names.specs.Eager.{Context, value_of_name, there}
use Rattle.aplc_core.specs.PlainSteps.{Read}
use Rattle.aplc_core.specs.CoreRuns.{Told, Slots, use_in, read_name}
use Rattle.aplc_gen.specs.Sound.{Ready, is_variable, is_readable, is_read}
use Rattle.aplc_gen.specs.Layouts.{Site, the_routine, value_place, flag_place}
use Rattle.aplc_gen.specs.Emitted.{guard, scope_at, name_operand, read_code}
use Rattle.aplc_gen.specs.Laid.{has_place, is_flagged}
use Rattle.aplc_gen.specs.Relation.{IsNamed, Holds, Knows, Shows, Here, Bounds, Same, Kept, Computed, Sim, works, owe}
use Rattle.aplc_gen.proofs.Writes.{here_todo, here_settled}
use Rattle.aplc_gen.proofs.Frames.{and_left, and_right}
use Rattle.aplc_gen.proofs.Values.{same_refl}
use Rattle.aplc_gen.proofs.Operands.{kept_todo, kept_settled}
use Rattle.aplc_gen.proofs.Checks.{guard_passes, guard_faults}
use Rattle.aplc_gen.proofs.NamesRead.{IsGot, read_got, shows_kept, shows_here, name_held, name_holds, Sort, plain, guarded, sort_of}

-- ---- Names

read_again_is : (again : Bool) (stored : List ℕ) (n : ℕ) (x : Scope) → is_read again stored n x ≡ true → again ≡ true → (is_variable x ≡ true) × (is_among n stored ≡ true)
read_again_is true stored n x h e = (and_left (is_variable x) (is_among n stored) h, and_right (is_variable x) (is_among n stored) h)
read_again_is false stored n x h e = absurd (cc)

variable_readable : (x : Scope) → is_variable x ≡ true → is_readable x ≡ true
variable_readable scope.Local h = refl
variable_readable scope.Global h = refl
variable_readable (scope.Label z) h = absurd (cc)
variable_readable (scope.Function j) h = absurd (cc)

read_readable : (again : Bool) (stored : List ℕ) (n : ℕ) (x : Scope) → is_read again stored n x ≡ true → is_readable x ≡ true
read_readable true stored n x h = variable_readable x (and_left (is_variable x) (is_among n stored) h)
read_readable false stored n x h = h

name_same : (x : Scope) (n : ℕ) (S T : World) → Same S T → value_of_name x n T ≡ value_of_name x n S
name_same scope.Local n S T q = ap (λ (f : ℕ → Option Array). f n) q.locals
name_same scope.Global n S T q = ap (λ (f : ℕ → Option Array). f n) q.globals
name_same (scope.Label z) n S T q = refl
name_same (scope.Function j) n S T q = refl

pub knows_same : (g : Site) (known : List ℕ) (S T : World) → Same S T → Knows g known S → Knows g known T
knows_same g known S T q h n among = let a = h n among in (a.0, name_same (scope_at g n) n S T q ∙ a.1)

-- one name more is known
pub knows_name : (g : Site) (known : List ℕ) (n : ℕ) (v : Array) (S : World) → value_of_name (scope_at g n) n S ≡ Some v → Knows g known S → Knows g (n ∷ known) S
knows_name g known n v S is h m among = by (eqb_tells m n)
  where
    by : ((nat_eq m n ≡ true) × (m ≡ n)) ⊎ ((nat_eq m n ≡ false) × (m ≡ n → ⊥)) → (a : Array) × (value_of_name (scope_at g m) m S ≡ Some a)
    by (inl e) = (v, ap (λ (i : ℕ). value_of_name (scope_at g i) i S) e.1 ∙ is)
    by (inr e) = h m (sym (ap (λ t. t || is_among m known) e.0) ∙ among)

-- ---- The code

module _ (c : Code) (w : ℕ) where
  -- beside a computation that gives a value
  pub sim_given : {A : Type 0} (code : List CStmt) (s : machine.State) (out : Outcome A) (Rel : A → State → machine.State → Type 0) (v : A) (T : State) → out ≡ Gives v T → Runs c Any code s (Rel v T) (λ t. ⊥) → Sim c w code s out Rel
  sim_given {A = A} code s out Rel v T is r = subst (λ (o : Outcome A). Sim c w code s o Rel) (sym is) r

  -- beside one that faults
  pub sim_fault : {A : Type 0} (code : List CStmt) (s : machine.State) (out : Outcome A) (Rel : A → State → machine.State → Type 0) (k : FaultKind) (T : State) → out ≡ Faulted k T → Runs c Any code s (λ t. ⊥) (λ t. FaultsAt c k t × Shows T.world t) → Sim c w code s out Rel
  sim_fault {A = A} code s out Rel k T is r = subst (λ (o : Outcome A). Sim c w code s o Rel) (sym is) r

  pub read_does : (g : Site) (x : Context) (l : Told) (b : Bounds) (known : List ℕ) (r : Ready) (slots : Slots) (ps : Places) (cs : List Caller) (k i n : ℕ) (S : State) (s : machine.State) →
      x.scope ≡ (the_routine g).header.scope → is_read (is_among i l.assigned) r.stored n (scope_at g n) ≡ true → (has_place g (scope_at g n) n && is_flagged g known (scope_at g n) n) ≡ true →
      Here g b known r slots ps cs S.world s → Sim c w (read_code g known (scope_at g n) n) s (read_name x i (use_in l i) (is_among i l.assigned) n S) (Computed c w g known k l (Read i n) S s)
  read_does g x l b known r slots ps cs k i n S s same ok laid h = by_sort (sort_of g y n known readable (and_right (has_place g y n) (is_flagged g known y n) laid))
    where
      y : Scope
      y = scope_at g n

      again : Bool
      again = is_among i l.assigned

      place : has_place g y n ≡ true
      place = and_left (has_place g y n) (is_flagged g known y n) laid

      readable : is_readable y ≡ true
      readable = read_readable again r.stored n y ok

      Out : Outcome Array
      Out = read_name x i (use_in l i) again n S

      Post : Array → State → machine.State → Type 0
      Post = Computed c w g known k l (Read i n) S s

      computed : (v : Array) (q : IsGot Out v (works l (Read i n)) S) (u : machine.State) → value_of_name y n S.world ≡ Some v → Kept k s u → Holds c (name_operand g y n) v u → u.steps ≤ s.steps + 1 → Post v q.to u
      computed v q u is kept holds cost = record { same = q.same; kept = kept; holds = holds; knows = knows_same g (n ∷ known) S.world q.to.world q.same (knows_name g known n v S.world is h.knows); cost = cost; work = q.work }

      got : (v : Array) → value_of_name y n S.world ≡ Some v → IsGot Out v (works l (Read i n)) S
      got v is =
          let e : x.scope n ≡ y = ap (λ (f : ℕ → Scope). f n) same in
          read_got x i (use_in l i) again n v S (ap (λ (z : Scope). value_of_name z n S.world) e ∙ is) (λ a. ap is_variable e ∙ (read_again_is again r.stored n y ok a).0)

      holds_here : (v : Array) (u : machine.State) → value_of_name y n S.world ≡ Some v → Here g b known r slots ps cs S.world u → Holds c (name_operand g y n) v u
      holds_here v u is hu = name_holds g b known r slots ps cs c y n v S.world u readable place is hu

      by_sort : Sort g y n known → Sim c w (read_code g known y n) s Out Post
      by_sort (plain e f) =
          let a = f S.world h.knows refl in
          let q = got a.0 a.1 in
          subst (λ (code : List CStmt). Sim c w code s Out Post) (sym e)
          (sim_given [] s Out Post a.0 q.to q.is
          (runs_none c Any s (Post a.0 q.to) (λ t. ⊥) (λ rest. computed a.0 q (record s { todo = rest }) a.1 (kept_todo k s rest) (holds_here a.0 (record s { todo = rest }) a.1 (here_todo g b known r slots ps cs S.world s rest h)) (omega arith))))
      by_sort (guarded e var unsure not) =
          subst (λ (code : List CStmt). Sim c w code s Out Post) (sym e)
          (by_value (value_of_name y n S.world) refl (subst (λ (t : Bool). IsNamed t (value_place g y n) (flag_place g y n) (value_of_name y n S.world) s) unsure (name_held g b known r slots ps cs y n S.world s var place h)))
        where
          first : again ≡ false
          first = by again refl
            where
              by : (t : Bool) → again ≡ t → again ≡ false
              by false e = e
              by true e = let k = h.stored n (read_again_is again r.stored n y ok e).1 in absurd (cc)

          by_value : (o : Option Array) → value_of_name y n S.world ≡ o → IsNamed true (value_place g y n) (flag_place g y n) o s → Sim c w (guard (flag_place g y n)) s Out Post
          by_value None is flag =
              sim_fault (guard (flag_place g y n)) s Out Post fault.Value S
              (ap (λ t. read_name x i (use_in l i) t n S) first ∙ ap (λ (z : Scope). there x i (use_in l i) (value_of_name z n S.world) S) (ap (λ (f : ℕ → Scope). f n) same) ∙ ap (λ (o : Option Array). there x i (use_in l i) o S) is)
              (guard_faults c (flag_place g y n) s (λ t. ⊥) (λ t. FaultsAt c fault.Value t × Shows S.world t) flag
              (λ todo stops. (stops, shows_kept k S.world S.world s (settled (record s { todo = todo })) (same_refl S.world) (kept_settled k s todo) (shows_here g b known r slots ps cs S.world s h))))
          by_value (Some v) is (held, flag) =
              let q = got v is in
              sim_given (guard (flag_place g y n)) s Out Post v q.to q.is
              (guard_passes c (flag_place g y n) s (Post v q.to) (λ t. ⊥) flag
              (λ rest. computed v q (settled (record s { todo = rest })) is (kept_settled k s rest) (holds_settled v is rest) (omega arith)))
            where
              holds_settled : (v : Array) → value_of_name y n S.world ≡ Some v → (rest : Todo) → Holds c (name_operand g y n) v (settled (record s { todo = rest }))
              holds_settled v is rest = name_holds g (owe 1 b) known r slots ps cs c y n v S.world (settled (record s { todo = rest })) readable place is (here_settled g b known r slots ps cs S.world s rest h)
