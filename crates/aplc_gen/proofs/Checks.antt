-- The statements that trees are made of: guards of flags, the minus, checked arithmetic.
use Rattle.std.proofs.Common.{◌≡◌, ℕ, ◌+◌, ◌≤◌, [], ◌∷◌, refl, ap, ◌∙◌, subst, arith, ℤ, pos, Bool, true, false, cond}
use Rattle.std.specs.Prelude.{None, ◌&&◌}
use Rattle.std.proofs.Math.IntN.{*ℤ_comm}
use Rattle.aplc_scalar.specs.declared.function.ScalarFn.TheVariants as f
use Rattle.aplc_scalar.specs.declared.kind.FaultKind.TheVariants as fault
use Rattle.aplc_scalar.specs.Scalar.{in_range, truth, int_eq}
use Rattle.aplc_syntax.specs.declared.tree.Primitive.{Primitive}
use Rattle.aplc_syntax.specs.declared.tree.Primitive.TheVariants as pr
use Rattle.aplc_cprof.specs.declared.syntax.Int.{Int}
use Rattle.aplc_cprof.specs.declared.syntax.Int.TheVariants as int
use Rattle.aplc_cprof.specs.declared.syntax.Op.TheVariants as op
use Rattle.aplc_cprof.specs.declared.syntax.Checked.{Checked}
use Rattle.aplc_cprof.specs.declared.syntax.Checked.TheVariants as checked
use Rattle.aplc_cprof.specs.declared.syntax.StuckCause.TheVariants.{Range}
use Rattle.aplc_cprof.specs.declared.syntax.CExpr.{CExpr}
use Rattle.aplc_cprof.specs.declared.syntax.CExpr.TheVariants as expr
use Rattle.aplc_cprof.specs.declared.syntax.CStmt.TheVariants as stmt
use Rattle.aplc_cprof.specs.Machine.{Todo, Code, Is, exact, read_int, ranged, set_int, settled}
use Rattle.aplc_cprof.specs.Machine as machine
use Rattle.aplc_cprof.proofs.Values.{value_Lit, value_Var, value_Bin, value_todo, ranged_in, ranged_out}
use Rattle.aplc_cprof.proofs.Rules.{Any, Runs, FaultsAt, runs_none, runs_If}
use Rattle.aplc_cprof.proofs.Singles.{runs_Check, runs_Check_limit, runs_Fault}
use Rattle.aplc_cprof.proofs.Writes.{Written, written, written_here}
use Rattle.aplc_gen.specs.Emitted.{guard, local, minus_code, is_times, checked_of, checked_code}
use Rattle.aplc_gen.specs.Relation.{Kept}
use Rattle.aplc_gen.proofs.Values.{signed, signed_fits}
use Rattle.aplc_gen.proofs.Operands.{kept_todo, kept_written}

-- the expression has the value, and no variable below k has changed in at most d steps
pub record Placed (c : Code) (e : CExpr) (v : ℤ) (k d : ℕ) (s t : machine.State) : Type 0 where
  pub value : machine.value e c.tables t ≡ Is v
  pub kept : Kept k s t
  pub cost : t.steps ≤ s.steps + d

module _ (c : Code) where
  -- ---- Guards

  flag_value : (x : Int) (v : ℤ) (s : machine.State) → read_int x s ≡ Is v → machine.value (expr.Bin op.Equal (expr.Var x) (expr.Lit (pos 0))) c.tables s ≡ Is (truth (int_eq v (pos 0)))
  flag_value x v s h =
      value_Bin op.Equal (expr.Var x) (expr.Lit (pos 0)) c.tables s
      ∙ ap (λ a. machine.apply op.Equal a (machine.value (expr.Lit (pos 0)) c.tables s)) (value_Var x c.tables s ∙ h)
      ∙ ap (λ b. machine.apply op.Equal (Is v) b) (value_Lit (pos 0) c.tables s)

  -- a guard whose flag is 1 does nothing
  pub guard_passes : (x : Int) (s : machine.State) (Post Stop : machine.State → Type 0) → read_int x s ≡ Is (pos 1) → ((rest : Todo) → Post (settled (record s { todo = rest }))) → Runs c Any (guard x) s Post Stop
  guard_passes x s Post Stop is post =
      runs_If c Any (expr.Bin op.Equal (expr.Var x) (expr.Lit (pos 0))) (stmt.Fault fault.Value ∷ []) None s Post Stop (pos 0) true (flag_value x (pos 1) s is) refl (λ todo. tt)
      (runs_none c Any (settled s) Post Stop post)

  -- and one whose flag is 0 faults
  pub guard_faults : (x : Int) (s : machine.State) (Post Stop : machine.State → Type 0) → read_int x s ≡ Is (pos 0) → ((todo : Todo) → FaultsAt c fault.Value (settled (record s { todo = todo })) → Stop (settled (record s { todo = todo }))) → Runs c Any (guard x) s Post Stop
  guard_faults x s Post Stop is stop =
      runs_If c Any (expr.Bin op.Equal (expr.Var x) (expr.Lit (pos 0))) (stmt.Fault fault.Value ∷ []) None s Post Stop (pos 1) false (flag_value x (pos 0) s is) refl (λ todo. tt)
      (runs_Fault c Any fault.Value (settled s) Post Stop stop)

  -- ---- A local variable

  -- it is set to the value
  pub placed_written : (k : ℕ) (v : ℤ) (s t : machine.State) → Written (int.Local k) v s t → Placed c (local k) v k 1 s t
  placed_written k v s t w =
      let e = w.steps in
      record { value = value_Var (int.Local k) c.tables t ∙ written_here (int.Local k) v s t w; kept = kept_written k v s t w; cost = omega (arith, e) }

  -- ---- Checked arithmetic

  check_given : (o : Checked) (k : ℕ) (e f : CExpr) (a b : ℤ) (s : machine.State) (Stop : machine.State → Type 0) → in_range (exact o a b) ≡ true → machine.value e c.tables s ≡ Is a → machine.value f c.tables s ≡ Is b → Runs c Any (stmt.Check (int.Local k) o e f ∷ []) s (Placed c (local k) (exact o a b) k 1 s) Stop
  check_given o k e f a b s Stop fits is_a is_b =
      runs_Check c Any (int.Local k) o e f s (Placed c (local k) (exact o a b) k 1 s) Stop a b (exact o a b) is_a is_b (ranged_in (exact o a b) fits) (λ rest. tt)
      (λ rest. placed_written k (exact o a b) s (settled (record (set_int (int.Local k) (exact o a b) s) { todo = rest })) (written (int.Local k) (exact o a b) s rest))

  -- a monadic `-` takes a variable, a `+` nothing
  pub minus_does : (m : Bool) (k : ℕ) (e : CExpr) (z : ℤ) (s : machine.State) (Stop : machine.State → Type 0) → in_range z ≡ true → machine.value e c.tables s ≡ Is z → Runs c Any (minus_code k m e) s (Placed c (cond m (local k) e) (signed m z) k 1 s) Stop
  minus_does true k e z s Stop fits h = check_given checked.Sub k (expr.Lit (pos 0)) e (pos 0) z s Stop (signed_fits true z fits) (value_Lit (pos 0) c.tables s) h
  minus_does false k e z s Stop fits h =
      runs_none c Any s (Placed c e z k 1 s) Stop
      (λ rest. record { value = value_todo e c.tables s rest ∙ h; kept = kept_todo k s rest; cost = omega arith })

  check_fault : (o : Checked) (k : ℕ) (e f : CExpr) (a b : ℤ) (s : machine.State) (Post : machine.State → Type 0) → in_range (exact o a b) ≡ false → machine.value e c.tables s ≡ Is a → machine.value f c.tables s ≡ Is b → Runs c Any (stmt.Check (int.Local k) o e f ∷ []) s Post (λ t. FaultsAt c fault.Limit t × Kept k s t)
  check_fault o k e f a b s Post out is_a is_b =
      runs_Check_limit c Any (int.Local k) o e f s Post (λ t. FaultsAt c fault.Limit t × Kept k s t) a b Range is_a is_b (ranged_out (exact o a b) out)
      (λ todo h. (h, kept_todo k s todo))

  -- factors change places
  swapped : (p : Primitive) (m : Bool) (a b : ℤ) → (is_times p && m) ≡ true → exact (checked_of p) b a ≡ exact (checked_of p) a b
  swapped (pr.Scalar f.Mul) m a b h = *ℤ_comm b a
  swapped _ m a b h = absurd (cc)

  -- dyadic arithmetic whose result is in range
  pub checked_given : (p : Primitive) (m : Bool) (k : ℕ) (e f : CExpr) (a b : ℤ) (s : machine.State) (Stop : machine.State → Type 0) → in_range (exact (checked_of p) a b) ≡ true → machine.value e c.tables s ≡ Is a → machine.value f c.tables s ≡ Is b → Runs c Any (checked_code k p (is_times p && m) e f ∷ []) s (Placed c (local k) (exact (checked_of p) a b) k 1 s) Stop
  checked_given p m k e f a b s Stop fits is_a is_b = by (is_times p && m) (swapped p m a b)
    where
      by : (w : Bool) → (w ≡ true → exact (checked_of p) b a ≡ exact (checked_of p) a b) → Runs c Any (checked_code k p w e f ∷ []) s (Placed c (local k) (exact (checked_of p) a b) k 1 s) Stop
      by true same =
          subst (λ (z : ℤ). Runs c Any (stmt.Check (int.Local k) (checked_of p) f e ∷ []) s (Placed c (local k) z k 1 s) Stop) (same refl)
          (check_given (checked_of p) k f e b a s Stop (ap in_range (same refl) ∙ fits) is_b is_a)
      by false same = check_given (checked_of p) k e f a b s Stop fits is_a is_b

  -- and where it is not
  pub checked_fault : (p : Primitive) (m : Bool) (k : ℕ) (e f : CExpr) (a b : ℤ) (s : machine.State) (Post : machine.State → Type 0) → in_range (exact (checked_of p) a b) ≡ false → machine.value e c.tables s ≡ Is a → machine.value f c.tables s ≡ Is b → Runs c Any (checked_code k p (is_times p && m) e f ∷ []) s Post (λ t. FaultsAt c fault.Limit t × Kept k s t)
  checked_fault p m k e f a b s Post out is_a is_b = by (is_times p && m) (swapped p m a b)
    where
      by : (w : Bool) → (w ≡ true → exact (checked_of p) b a ≡ exact (checked_of p) a b) → Runs c Any (checked_code k p w e f ∷ []) s Post (λ t. FaultsAt c fault.Limit t × Kept k s t)
      by true same = check_fault (checked_of p) k f e b a s Post (ap in_range (same refl) ∙ out) is_b is_a
      by false same = check_fault (checked_of p) k e f a b s Post out is_a is_b
