-- What nodes of scalars are given: literals, names, monadic `+` and `-`, dyadic `+`, `-` and `×`.
-- Of code it knows which operation a primitive is, and nothing else.
use Rattle.std.proofs.Common.{◌≡◌, ℕ, ◌+◌, ◌≤◌, [], ◌∷◌, refl, ap, ◌∙◌, arith, ℤ, pos, Bool, true, false, cond}
use Rattle.std.specs.Prelude.{Ok, Err, ◌-ℤ◌}
use Rattle.aplc_scalar.specs.Scalar.{in_range}
use Rattle.aplc_scalar.specs.declared.kind.Kind.TheVariants.{Num}
use Rattle.aplc_scalar.specs.declared.kind.FaultKind.{FaultKind}
use Rattle.aplc_scalar.specs.declared.kind.FaultKind.TheVariants as fault
use Rattle.aplc_scalar.specs.declared.function.ScalarFn.{ScalarFn}
use Rattle.aplc_scalar.specs.declared.function.ScalarFn.TheVariants as f
use Rattle.aplc_arr.specs.Arrays.{Array}
use Rattle.aplc_arr.specs.Delayed.{Delayed, all_given}
use Rattle.aplc_arr.specs.Each.{applied, extended}
use Rattle.aplc_arr.proofs.Ranges.{range-minus}
use Rattle.aplc_syntax.specs.declared.tree.Primitive.{Primitive}
use Rattle.aplc_syntax.specs.declared.tree.Primitive.TheVariants as pr
use Rattle.aplc_cprof.specs.Machine.{exact}
use Rattle.aplc_names.specs.States.{World, State, Outcome, Gives, Faulted, on_account}
use Rattle.aplc_names.specs.Eager.{Context, Use, scalar, ready, give, filled, made, none_for, shape_known}
use Rattle.aplc_names.specs.Primitives.{mono_of, dyad_of, mono_applications, dyad_applications, places_listed}
use Rattle.aplc_gen.specs.Built.{is_sign, is_checked}
use Rattle.aplc_gen.specs.Emitted.{is_minus, checked_of}
use Rattle.aplc_gen.specs.Relation.{Same}

-- ---- States

pub same_refl : (S : World) → Same S S
same_refl S = record { globals = refl; locals = refl; places = refl; left = refl; input = refl; output = refl; marks = refl }

pub same_trans : (S T U : World) → Same S T → Same T U → Same S U
same_trans S T U p q = record {
  globals = q.globals ∙ p.globals;
  locals = q.locals ∙ p.locals;
  places = q.places ∙ p.places;
  left = q.left ∙ p.left;
  input = q.input ∙ p.input;
  output = q.output ∙ p.output;
  marks = q.marks ∙ p.marks;
}

-- a node is given the value, which is work
pub record IsGiven (o : Outcome Array) (v : Array) (S : State) : Type 0 where
  pub to : State
  pub is : o ≡ Gives v to
  pub same : Same S.world to.world
  pub work : S.world.work + 1 ≤ to.world.work

-- it faults, and nothing has changed
pub record IsFault (o : Outcome Array) (k : FaultKind) (S : State) : Type 0 where
  pub to : State
  pub is : o ≡ Faulted k to
  pub same : Same S.world to.world

-- ---- Leaves

pub ready_given : (x : Context) (i : ℕ) (u : Use) (n : ℕ) (v : Array) (S : State) → IsGiven (ready x i u n v S) v S
ready_given x i u n v S = record {
  to = _;
  is = refl;
  same = record { globals = refl; locals = refl; places = refl; left = refl; input = refl; output = refl; marks = refl };
  work = omega arith;
}

-- a node whose elements are those of a delayed scalar
one_given : (x : Context) (i : ℕ) (u : Use) (n : ℕ) (v : Array) (S : State) (h : State → State) → (h S).world ≡ S.world → IsGiven (give i n v (h S)) v S
one_given x i u n v S h same =
    let work : (h S).world.work ≡ S.world.work = ap (λ (w : World). w.work) same in
    record {
      to = _;
      is = refl;
      same = record {
        globals = ap (λ (w : World). w.globals) same;
        locals = ap (λ (w : World). w.locals) same;
        places = ap (λ (w : World). w.places) same;
        left = ap (λ (w : World). w.left) same;
        input = ap (λ (w : World). w.input) same;
        output = ap (λ (w : World). w.output) same;
        marks = ap (λ (w : World). w.marks) same;
      };
      work = omega (arith, work);
    }

abbrev pub signed : Bool → ℤ → ℤ
signed true z = pos 0 -ℤ z
signed false z = z

pub signed_fits : (b : Bool) (z : ℤ) → in_range z ≡ true → in_range (signed b z) ≡ true
signed_fits true z h = range-minus z h
signed_fits false z h = h

-- monadic `+` and `-` of a number
pub mono_given : (x : Context) (i : ℕ) (u : Use) (p : Primitive) (z : ℤ) (S : State) → is_sign p ≡ true → IsGiven (made x i u none_for (mono_applications x.origin p []) (mono_of x.origin p (scalar z)) S) (scalar (signed (is_minus p) z)) S
mono_given x i u (pr.Scalar f.Add) z S h = ready_given x i u 2 (scalar z) S
mono_given x i u (pr.Scalar f.Sub) z S h = ready_given x i u 2 (scalar (pos 0 -ℤ z)) S
mono_given x i u _ z S h = absurd (cc)

-- ---- Two numbers

abbrev pair : ScalarFn → ℤ → ℤ → Delayed
pair g a b = record { kind = Num; shape = []; element = λ is. applied g Num Num (extended (scalar a) [] is) (extended (scalar b) [] is) }

-- what it comes to where it is known whether the result is in range
abbrev pair_filled : Context → ℕ → Use → ScalarFn → ℤ → ℤ → ℤ → State → Bool → Outcome Array
pair_filled x i u g a b z S t = filled x i 2 (pair g a b) (all_given (cond t (Ok z) (Err fault.Limit) ∷ [])) (on_account (shape_known x.marking i u 0 Num []) S)

abbrev pub dyad_made : Context → ℕ → Use → Primitive → ℤ → ℤ → State → Outcome Array
dyad_made x i u p a b S = made x i u (places_listed x.origin p []) (dyad_applications x.origin p [] []) (dyad_of x.origin p (scalar a) (scalar b)) S

pair_is : (x : Context) (i : ℕ) (u : Use) (p : Primitive) (a b : ℤ) (S : State) → is_checked p ≡ true → (g : ScalarFn) × (dyad_made x i u p a b S ≡ pair_filled x i u g a b (exact (checked_of p) a b) S (in_range (exact (checked_of p) a b)))
pair_is x i u (pr.Scalar f.Add) a b S h = (f.Add, refl)
pair_is x i u (pr.Scalar f.Sub) a b S h = (f.Sub, refl)
pair_is x i u (pr.Scalar f.Mul) a b S h = (f.Mul, refl)
pair_is x i u _ a b S h = absurd (cc)

-- dyadic `+`, `-` and `×` of numbers, where the result is in range
pub dyad_given : (x : Context) (i : ℕ) (u : Use) (p : Primitive) (a b : ℤ) (S : State) → is_checked p ≡ true → in_range (exact (checked_of p) a b) ≡ true → IsGiven (dyad_made x i u p a b S) (scalar (exact (checked_of p) a b)) S
dyad_given x i u p a b S h fits =
    let e = pair_is x i u p a b S h in
    let z = exact (checked_of p) a b in
    let r = one_given x i u 2 (scalar z) S (on_account (shape_known x.marking i u 0 Num [])) refl in
    record { to = r.to; is = e.1 ∙ ap (pair_filled x i u e.0 a b z S) fits ∙ r.is; same = r.same; work = r.work }

-- and where it is not
pub dyad_fault : (x : Context) (i : ℕ) (u : Use) (p : Primitive) (a b : ℤ) (S : State) → is_checked p ≡ true → in_range (exact (checked_of p) a b) ≡ false → IsFault (dyad_made x i u p a b S) fault.Limit S
dyad_fault x i u p a b S h out =
    let e = pair_is x i u p a b S h in
    let z = exact (checked_of p) a b in
    record { to = _; is = e.1 ∙ ap (pair_filled x i u e.0 a b z S) out; same = record { globals = refl; locals = refl; places = refl; left = refl; input = refl; output = refl; marks = refl } }
