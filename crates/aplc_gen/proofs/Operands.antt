-- Where the values of trees stand, and that they stay there while what is below the next variable does.
use Rattle.std.proofs.Common.{◌≡◌, ℕ, ◌+◌, ◌<◌, ◌≤◌, List, refl, sym, ap, ◌∙◌, arith, ℤ, pos, Bool, true, false, cond}
use Rattle.std.specs.Prelude.{Option, Some, ◌-ℤ◌, int_lt, nat_lt}
use Rattle.std.proofs.lemmas.Bool.Decides.{nat_tests}
use Rattle.std.proofs.lemmas.Bool.{ne_eqb}
use Rattle.aplc_arr.specs.Arrays.{Array}
use Rattle.aplc_cprof.specs.declared.syntax.Int.{Int}
use Rattle.aplc_cprof.specs.declared.syntax.Int.TheVariants as int
use Rattle.aplc_cprof.specs.declared.syntax.Op.TheVariants as op
use Rattle.aplc_cprof.specs.declared.syntax.CExpr.TheVariants as expr
use Rattle.aplc_cprof.specs.Machine.{Todo, Code, Is, read_int, settled, ranged}
use Rattle.aplc_cprof.specs.Machine as machine
use Rattle.aplc_cprof.proofs.Values.{value_Lit, value_Var, value_Bin}
use Rattle.aplc_cprof.proofs.Writes.{Written}
use Rattle.aplc_names.specs.declared.scope.Scope.{Scope}
use Rattle.aplc_names.specs.declared.scope.Scope.TheVariants as scope
use Rattle.aplc_core.specs.PlainSteps.{Term, Literal, Read, Slot, Mono, Dyad, Index}
use Rattle.aplc_gen.specs.Built.{number_of}
use Rattle.aplc_gen.specs.Layouts.{Site, the_frame, place_in, slot_place, base, global_base, value_place}
use Rattle.aplc_gen.specs.Emitted.{literal_expr, local, is_minus, scope_at, name_operand, operand}
use Rattle.aplc_gen.specs.Laid.{has_place, is_flagged, is_laid_term}
use Rattle.aplc_gen.specs.Relation.{Holds, IsHeld, Kept}
use Rattle.aplc_gen.proofs.Writes.{place_below}
use Rattle.aplc_gen.proofs.Frames.{and_left}
use Rattle.aplc_gen.proofs.Computing.{kept_local, kept_global}

-- ---- What is kept

pub kept_todo : (k : ℕ) (s : machine.State) (todo : Todo) → Kept k s (record s { todo = todo })
kept_todo k s todo = record { lower = λ j lt. refl; global_ints = refl; bufs = refl; global_bufs = refl; heap = refl; callers = refl; places = refl; marks = refl; input = refl; output = refl; steps = omega arith }

pub kept_settled : (k : ℕ) (s : machine.State) (todo : Todo) → Kept k s (settled (record s { todo = todo }))
kept_settled k s todo = record { lower = λ j lt. refl; global_ints = refl; bufs = refl; global_bufs = refl; heap = refl; callers = refl; places = refl; marks = refl; input = refl; output = refl; steps = omega arith }

pub kept_trans : (k : ℕ) (s t u : machine.State) → Kept k s t → Kept k t u → Kept k s u
kept_trans k s t u p q =
    let a = p.steps in
    let b = q.steps in
    record {
      lower = λ j lt. q.lower j lt ∙ p.lower j lt;
      global_ints = q.global_ints ∙ p.global_ints;
      bufs = q.bufs ∙ p.bufs;
      global_bufs = q.global_bufs ∙ p.global_bufs;
      heap = q.heap ∙ p.heap;
      callers = q.callers ∙ p.callers;
      places = q.places ∙ p.places;
      marks = q.marks ∙ p.marks;
      input = q.input ∙ p.input;
      output = q.output ∙ p.output;
      steps = omega (arith, a, b);
    }

-- less is kept
pub kept_less : (j k : ℕ) (s t : machine.State) → j ≤ k → Kept k s t → Kept j s t
kept_less j k s t le p = record { lower = λ i lt. p.lower i (omega (arith, lt, le)); global_ints = p.global_ints; bufs = p.bufs; global_bufs = p.global_bufs; heap = p.heap; callers = p.callers; places = p.places; marks = p.marks; input = p.input; output = p.output; steps = p.steps }

-- a local variable is set
pub kept_written : (k : ℕ) (v : ℤ) (s t : machine.State) → Written (int.Local k) v s t → Kept k s t
kept_written k v s t w =
    let e = w.steps in
    record {
      lower = λ j lt. ap (λ (f : ℕ → Option ℤ). f j) w.ints ∙ ap (λ b. cond b (Some v) (s.ints j)) (ne_eqb j k (λ (e : j ≡ k). omega (arith, e, lt)));
      global_ints = w.global_ints;
      bufs = w.bufs;
      global_bufs = w.global_bufs;
      heap = w.heap;
      callers = w.callers;
      places = w.places;
      marks = w.marks;
      input = w.input;
      output = w.output;
      steps = omega (arith, e);
    }

-- ---- Values stay where they are

below_of : (a b : ℕ) → nat_lt a b ≡ true → a < b
below_of a b h = grind (arith, nat_tests)

-- the variable of a name is no value of a tree
name_kept : (g : Site) (x : Scope) (n k : ℕ) (s t : machine.State) → base g ≤ k → has_place g x n ≡ true → Kept k s t → read_int (value_place g x n) t ≡ read_int (value_place g x n) s
name_kept g scope.Local n k s t le place q =
    let lt = place_below (the_frame g).names n place in
    kept_local k (place_in (the_frame g).names n) s t (omega (arith, lt, le)) q
name_kept g scope.Global n k s t le place q = kept_global k (global_base g.layout + place_in g.layout.globals n) s t q
name_kept g (scope.Label z) n k s t le place q = kept_global k (global_base g.layout + place_in g.layout.globals n) s t q
name_kept g (scope.Function j) n k s t le place q = kept_global k (global_base g.layout + place_in g.layout.globals n) s t q

module _ (c : Code) where
  -- a number's value is the same in all states
  pub literal_same : (z : ℤ) (s t : machine.State) → machine.value (literal_expr z) c.tables t ≡ machine.value (literal_expr z) c.tables s
  literal_same z s t = by (int_lt z (pos 0))
    where
      minus : (u : machine.State) → machine.value (expr.Bin op.Sub (expr.Lit (pos 0)) (expr.Lit (pos 0 -ℤ z))) c.tables u ≡ ranged (pos 0 -ℤ (pos 0 -ℤ z))
      minus u =
          value_Bin op.Sub (expr.Lit (pos 0)) (expr.Lit (pos 0 -ℤ z)) c.tables u
          ∙ ap (λ a. machine.apply op.Sub a (machine.value (expr.Lit (pos 0 -ℤ z)) c.tables u)) (value_Lit (pos 0) c.tables u)
          ∙ ap (λ b. machine.apply op.Sub (Is (pos 0)) b) (value_Lit (pos 0 -ℤ z) c.tables u)

      by : (b : Bool) → machine.value (cond b (expr.Bin op.Sub (expr.Lit (pos 0)) (expr.Lit (pos 0 -ℤ z))) (expr.Lit z)) c.tables t ≡ machine.value (cond b (expr.Bin op.Sub (expr.Lit (pos 0)) (expr.Lit (pos 0 -ℤ z))) (expr.Lit z)) c.tables s
      by true = minus t ∙ sym (minus s)
      by false = value_Lit z c.tables t ∙ sym (value_Lit z c.tables s)

  var_same : (x : Int) (s t : machine.State) → read_int x t ≡ read_int x s → machine.value (expr.Var x) c.tables t ≡ machine.value (expr.Var x) c.tables s
  var_same x s t same = value_Var x c.tables t ∙ same ∙ sym (value_Var x c.tables s)

  name_same : (g : Site) (x : Scope) (n k : ℕ) (s t : machine.State) → base g ≤ k → has_place g x n ≡ true → Kept k s t → machine.value (name_operand g x n) c.tables t ≡ machine.value (name_operand g x n) c.tables s
  name_same g (scope.Label z) n k s t le place q = literal_same z s t
  name_same g scope.Local n k s t le place q = var_same (value_place g scope.Local n) s t (name_kept g scope.Local n k s t le place q)
  name_same g scope.Global n k s t le place q = var_same (value_place g scope.Global n) s t (name_kept g scope.Global n k s t le place q)
  name_same g (scope.Function j) n k s t le place q = var_same (value_place g (scope.Function j) n) s t (name_kept g (scope.Function j) n k s t le place q)

  -- the value of a tree is where it was, while all below the next variable is
  pub operand_kept : (g : Site) (known : List ℕ) (k : ℕ) (t : Term) (s u : machine.State) → base g ≤ k → is_laid_term g known t ≡ true → Kept (k + 1) s u → machine.value (operand g k t) c.tables u ≡ machine.value (operand g k t) c.tables s
  operand_kept g known k (Literal i kind zs) s u le laid q = literal_same (number_of zs) s u
  operand_kept g known k (Read i n) s u le laid q = name_same g (scope_at g n) n (k + 1) s u (omega (arith, le)) (and_left (has_place g (scope_at g n) n) (is_flagged g known (scope_at g n) n) laid) q
  operand_kept g known k (Slot i j) s u le laid q =
      let lt = below_of j (the_frame g).slots laid in
      var_same (int.Local (slot_place g j)) s u (kept_local (k + 1) (slot_place g j) s u (omega (arith, lt, le)) q)
  operand_kept g known k (Mono i p b) s u le laid q = by (is_minus p) (operand_kept g known k b s u le laid q)
    where
      by : (m : Bool) → machine.value (operand g k b) c.tables u ≡ machine.value (operand g k b) c.tables s → machine.value (cond m (local k) (operand g k b)) c.tables u ≡ machine.value (cond m (local k) (operand g k b)) c.tables s
      by true same = var_same (int.Local k) s u (kept_local (k + 1) k s u (omega arith) q)
      by false same = same
  operand_kept g known k (Dyad i p a b) s u le laid q = var_same (int.Local k) s u (kept_local (k + 1) k s u (omega arith) q)
  operand_kept g known k (Index i a xs) s u le laid q = absurd (cc)

  -- an array is still held there
  pub holds_kept : (g : Site) (known : List ℕ) (k : ℕ) (t : Term) (v : Array) (s u : machine.State) → base g ≤ k → is_laid_term g known t ≡ true → Kept (k + 1) s u → Holds c (operand g k t) v s → Holds c (operand g k t) v u
  holds_kept g known k t v s u le laid q h = record { number = h.number; is = h.is; value = operand_kept g known k t s u le laid q ∙ h.value }

  -- a variable that has an array's value is an expression that has it
  pub holds_var : (x : Int) (v : Array) (s : machine.State) → IsHeld x v s → Holds c (expr.Var x) v s
  holds_var x v s h = record { number = h.number; is = h.is; value = value_Var x c.tables s ∙ h.value }
