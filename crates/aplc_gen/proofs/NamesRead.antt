-- A name that is read: its guard and its value.
use Rattle.std.proofs.Common.{◌≡◌, ℕ, ◌+◌, ◌≤◌, List, [], refl, sym, ap, ◌∙◌, subst, arith, ℤ, Bool, true, false, cond}
use Rattle.std.specs.Prelude.{Option, Some, ◌||◌, map}
use Rattle.aplc_scalar.specs.Scalar.{in_range}
use Rattle.aplc_arr.specs.Arrays.{Array, product}
use Rattle.aplc_cprof.specs.declared.syntax.CExpr.TheVariants as expr
use Rattle.aplc_cprof.specs.Machine.{Todo, Code, Caller, Is, read_int, settled}
use Rattle.aplc_cprof.specs.Machine as machine
use Rattle.aplc_names.specs.declared.scope.Scope.{Scope}
use Rattle.aplc_names.specs.declared.scope.Scope.TheVariants as scope
use Rattle.aplc_names.specs.States.{Places, World, State, Outcome, Gives, is_among}
use Rattle.aplc_names.specs.Eager.{Context, Use, scalar, value_of_name, old_value, there}
use Rattle.aplc_core.specs.CoreRuns.{Slots, read_again, read_name}
use Rattle.aplc_gen.specs.Shown.{place_shown}
use Rattle.aplc_gen.specs.Sound.{Ready, is_variable, is_readable}
use Rattle.aplc_gen.specs.Layouts.{Site, value_place, flag_place, is_unsure}
use Rattle.aplc_gen.specs.Emitted.{guard, scope_at, name_operand, read_code}
use Rattle.aplc_gen.specs.Laid.{has_place, is_flagged, is_label}
use Rattle.aplc_gen.specs.Relation.{Holds, IsNamed, Knows, Shows, Here, Bounds, Same, Kept, gain}
use Rattle.aplc_gen.proofs.Writes.{held_of}
use Rattle.aplc_gen.proofs.Computing.{value_literal}
use Rattle.aplc_gen.proofs.Values.{same_refl, ready_given}
use Rattle.aplc_gen.proofs.Operands.{holds_var}

-- ---- What the source says

pub old_is : (x : Scope) (n : ℕ) (S : World) → is_variable x ≡ true → old_value x n S ≡ value_of_name x n S
old_is scope.Local n S h = refl
old_is scope.Global n S h = refl
old_is (scope.Label z) n S h = absurd (cc)
old_is (scope.Function j) n S h = absurd (cc)

-- a value is got, with its work or without
pub record IsGot (o : Outcome Array) (v : Array) (w : Bool) (S : State) : Type 0 where
  pub to : State
  pub is : o ≡ Gives v to
  pub same : Same S.world to.world
  pub work : S.world.work + gain w ≤ to.world.work

-- a name that has a value
pub read_got : (x : Context) (i : ℕ) (u : Use) (again : Bool) (n : ℕ) (v : Array) (S : State) → value_of_name (x.scope n) n S.world ≡ Some v → (again ≡ true → is_variable (x.scope n) ≡ true) → IsGot (read_name x i u again n S) v (cond again false true) S
read_got x i u true n v S is only =
    let old : old_value (x.scope n) n S.world ≡ Some v = old_is (x.scope n) n S.world (only refl) ∙ is in
    record { to = S; is = ap (λ (o : Option Array). read_again o S) old; same = same_refl S.world; work = omega arith }
read_got x i u false n v S is only =
    let r = ready_given x i u (product v.shape) v S in
    record { to = r.to; is = ap (λ (o : Option Array). there x i u o S) is ∙ r.is; same = r.same; work = r.work }

-- ---- What the machine says

-- where both sides fault, that shows which showed before
pub shows_kept : (k : ℕ) (S T : World) (s t : machine.State) → Same S T → Kept k s t → Shows S s → Shows T t
shows_kept k S T s t same q h = record {
  output = q.output ∙ h.output ∙ sym same.output;
  marks = q.marks ∙ h.marks ∙ ap (map place_shown) (sym same.marks);
  here = ap (λ (ps : machine.Places). ps.here) q.places ∙ h.here ∙ ap (λ (ps : Places). place_shown ps.here) (sym same.places);
  behind = ap (λ (ps : machine.Places). ps.behind) q.places ∙ h.behind ∙ ap (λ (ps : Places). map place_shown ps.behind) (sym same.places);
}

module _ (g : Site) (b : Bounds) (known : List ℕ) (r : Ready) (slots : Slots) (ps : Places) (cs : List Caller) where
  pub shows_here : (S : World) (s : machine.State) → Here g b known r slots ps cs S s → Shows S s
  shows_here S s h = record { output = h.common.output; marks = h.common.marks; here = h.here; behind = h.common.behind }

  -- the variables of a name
  pub name_held : (x : Scope) (n : ℕ) (S : World) (s : machine.State) → is_variable x ≡ true → has_place g x n ≡ true → Here g b known r slots ps cs S s → IsNamed (is_unsure g x n) (value_place g x n) (flag_place g x n) (value_of_name x n S) s
  name_held scope.Local n S s var place h = h.locals n place
  name_held scope.Global n S s var place h = h.common.globals n place
  name_held (scope.Label z) n S s var place h = absurd (cc)
  name_held (scope.Function j) n S s var place h = absurd (cc)

  -- a name that has a value, by its variable
  variable_holds : (c : Code) (x : Scope) (n : ℕ) (v : Array) (S : World) (s : machine.State) → is_variable x ≡ true → has_place g x n ≡ true → value_of_name x n S ≡ Some v → Here g b known r slots ps cs S s → Holds c (expr.Var (value_place g x n)) v s
  variable_holds c x n v S s var place is h =
      holds_var c (value_place g x n) v s
      (held_of (is_unsure g x n) (value_place g x n) (flag_place g x n) v s
      (subst (λ (o : Option Array). IsNamed (is_unsure g x n) (value_place g x n) (flag_place g x n) o s) is (name_held x n S s var place h)))

  label_holds : (c : Code) (z : ℤ) (v : Array) (s : machine.State) → in_range z ≡ true → scalar z ≡ v → Holds c (name_operand g (scope.Label z) 0) v s
  label_holds c z v s fits e = record { number = z; is = record { is = sym e; fits = fits }; value = value_literal c z s fits }

  -- or by its number
  pub name_holds : (c : Code) (x : Scope) (n : ℕ) (v : Array) (S : World) (s : machine.State) → is_readable x ≡ true → has_place g x n ≡ true → value_of_name x n S ≡ Some v → Here g b known r slots ps cs S s → Holds c (name_operand g x n) v s
  name_holds c scope.Local n v S s ok place is h = variable_holds c scope.Local n v S s refl place is h
  name_holds c scope.Global n v S s ok place is h = variable_holds c scope.Global n v S s refl place is h
  name_holds c (scope.Label z) n v S s ok place is h = let e : scalar z ≡ v = cc in label_holds c z v s ok e
  name_holds c (scope.Function j) n v S s ok place is h = absurd (cc)

-- a name that is not known has a flag, or is a label
pub data Sort (g : Site) (x : Scope) (n : ℕ) (known : List ℕ) : Type 0 where
  -- no code
  plain : read_code g known x n ≡ [] → ((S : World) → Knows g known S → x ≡ scope_at g n → (v : Array) × (value_of_name x n S ≡ Some v)) → Sort g x n known
  guarded : read_code g known x n ≡ guard (flag_place g x n) → is_variable x ≡ true → is_unsure g x n ≡ true → is_among n known ≡ false → Sort g x n known

no_code : (g : Site) (x : Scope) (n : ℕ) (known : List ℕ) → is_among n known ≡ true → read_code g known x n ≡ []
no_code g scope.Local n known h = ap (λ t. cond t [] (guard (flag_place g scope.Local n))) h
no_code g scope.Global n known h = ap (λ t. cond t [] (guard (flag_place g scope.Global n))) h
no_code g (scope.Label z) n known h = refl
no_code g (scope.Function j) n known h = ap (λ t. cond t [] (guard (flag_place g (scope.Function j) n))) h

pub sort_of : (g : Site) (x : Scope) (n : ℕ) (known : List ℕ) → is_readable x ≡ true → is_flagged g known x n ≡ true → Sort g x n known
sort_of g x n known ok flagged = by_known (is_among n known) refl
  where
    by_scope : (x : Scope) → is_readable x ≡ true → is_among n known ≡ false → (is_label x || is_unsure g x n) ≡ true → Sort g x n known
    by_scope scope.Local ok not u = guarded (ap (λ t. cond t [] (guard (flag_place g scope.Local n))) not) refl u not
    by_scope scope.Global ok not u = guarded (ap (λ t. cond t [] (guard (flag_place g scope.Global n))) not) refl u not
    by_scope (scope.Label z) ok not u = plain refl (λ S knows e. (scalar z, refl))
    by_scope (scope.Function j) ok not u = absurd (cc)

    by_known : (t : Bool) → is_among n known ≡ t → Sort g x n known
    by_known true is = plain (no_code g x n known is) (λ S knows e. subst (λ (y : Scope). (v : Array) × (value_of_name y n S ≡ Some v)) (sym e) (knows n is))
    by_known false not = by_scope x ok not (sym (ap (λ t. t || (is_label x || is_unsure g x n)) not) ∙ flagged)
