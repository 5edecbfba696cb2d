-- What the statement of each scalar function of one argument does.
use Rattle.std.proofs.Common.{◌≡◌, ℕ, ◌≤◌, List, [], ◌∷◌, ◌⊎◌, inl, inr, refl, sym, ap, ◌∙◌, arith, ℤ, Bool, true, false, cond}
use Rattle.std.specs.Prelude.{Some, Ok, Err, pos, ◌-ℤ◌}
use Rattle.std.specs.Int.RustNames.{int_lt, unsigned_abs}
use Rattle.std.proofs.lemmas.Bool.Decides.{nat_tests}
use Rattle.std.proofs.lemmas.Int.{ints}
use Rattle.aplc_scalar.specs.declared.kind.FaultKind.TheVariants as fault
use Rattle.aplc_scalar.specs.declared.function.ScalarFn.{ScalarFn}
use Rattle.aplc_scalar.specs.declared.function.ScalarFn.TheVariants as f
use Rattle.aplc_scalar.specs.Scalar.{Given, in_range, truth, negated, logical_right, sign, monadic}
use Rattle.aplc_cprof.specs.declared.syntax.Int.{Int}
use Rattle.aplc_cprof.specs.declared.syntax.Int.TheVariants as int
use Rattle.aplc_cprof.specs.declared.syntax.Op.TheVariants as op
use Rattle.aplc_cprof.specs.declared.syntax.CExpr.{CExpr}
use Rattle.aplc_cprof.specs.declared.syntax.CExpr.TheVariants as expr
use Rattle.aplc_cprof.specs.declared.syntax.CStmt.TheVariants as stmt
use Rattle.aplc_cprof.specs.Machine.{State, Code, Is, read_int, apply, ranged, value, settled}
use Rattle.aplc_cprof.specs.Frames.{Stays}
use Rattle.aplc_cprof.proofs.Values.{value_Var, value_Lit, ranged_in}
use Rattle.aplc_cprof.proofs.Paths.{Does, does_weaken, does_Fault}
use Rattle.aplc_cprof.proofs.Frames.{stays_none, stays_settled, read_settled}
use Rattle.aplc_cprof.proofs.Counting.{bin_value}
use Rattle.aplc_collect.specs.Elements.{Computed, Failed, Yields}
use Rattle.aplc_collect.specs.Scalars.{mono_steps, is_bit, below_zero, minus, sign_of, magnitude_stmt, not_stmt, mono_stmt}
use Rattle.aplc_collect.proofs.Elements.{set_yields, if_yields, yields_more}
use Rattle.aplc_collect.proofs.ScalarValues.{Bit, NoBit, bit_test, bit_cases, is_bit_value, below_zero_value}

clash : true ≡ false → ⊥
clash e = cc

minus_fits : (x : ℤ) → in_range x ≡ true → in_range (pos 0 -ℤ x) ≡ true
unfolding in_range
minus_fits x h = grind (arith, nat_tests)

minus_value : (tables : List (List ℤ)) (s : State) (a : Int) (x : ℤ) → read_int a s ≡ Is x → in_range x ≡ true → value (minus a) tables s ≡ Is (pos 0 -ℤ x)
minus_value tables s a x h fits = bin_value tables s op.Sub (expr.Lit (pos 0)) (expr.Var a) (pos 0) x (value_Lit (pos 0) tables s) (value_Var a tables s ∙ h) ∙ ranged_in (pos 0 -ℤ x) (minus_fits x fits)

-- a difference of two comparisons
sign_value : (tables : List (List ℤ)) (s : State) (a : Int) (x : ℤ) → read_int a s ≡ Is x → value (sign_of a) tables s ≡ Is (sign x)
unfolding ranged in_range
sign_value tables s a x h =
    bin_value tables s op.Sub (expr.Bin op.Less (expr.Lit (pos 0)) (expr.Var a)) (below_zero a) (truth (int_lt (pos 0) x)) (truth (int_lt x (pos 0)))
    (bin_value tables s op.Less (expr.Lit (pos 0)) (expr.Var a) (pos 0) x (value_Lit (pos 0) tables s) (value_Var a tables s ∙ h))
    (below_zero_value tables s a x h)
    ∙ by_signs (int_lt (pos 0) x) (int_lt x (pos 0)) refl refl
  where
    never : int_lt (pos 0) x ≡ true → int_lt x (pos 0) ≡ true → ⊥
    never p q = grind (arith, nat_tests)

    sign_by : (p q : Bool) → int_lt (pos 0) x ≡ p → int_lt x (pos 0) ≡ q → sign x ≡ cond p (pos 1) (cond q (pos 0 -ℤ pos 1) (pos 0))
    sign_by p q hp hq = ap (λ b. cond b (pos 1) (cond (int_lt x (pos 0)) (pos 0 -ℤ pos 1) (pos 0))) hp ∙ ap (λ b. cond p (pos 1) (cond b (pos 0 -ℤ pos 1) (pos 0))) hq

    by_signs : (p q : Bool) → int_lt (pos 0) x ≡ p → int_lt x (pos 0) ≡ q → apply op.Sub (Is (truth (int_lt (pos 0) x))) (Is (truth (int_lt x (pos 0)))) ≡ Is (sign x)
    by_signs true true hp hq = absurd (never hp hq)
    by_signs true false hp hq = ap (λ b. apply op.Sub (Is (truth b)) (Is (truth (int_lt x (pos 0))))) hp ∙ ap (λ b. apply op.Sub (Is (truth true)) (Is (truth b))) hq ∙ ap Is (sym (sign_by true false hp hq))
    by_signs false true hp hq = ap (λ b. apply op.Sub (Is (truth b)) (Is (truth (int_lt x (pos 0))))) hp ∙ ap (λ b. apply op.Sub (Is (truth false)) (Is (truth b))) hq ∙ ap Is (sym (sign_by false true hp hq))
    by_signs false false hp hq = ap (λ b. apply op.Sub (Is (truth b)) (Is (truth (int_lt x (pos 0))))) hp ∙ ap (λ b. apply op.Sub (Is (truth false)) (Is (truth b))) hq ∙ ap Is (sym (sign_by false false hp hq))

magnitude_below : (x : ℤ) → int_lt x (pos 0) ≡ true → pos (unsigned_abs x) ≡ pos 0 -ℤ x
magnitude_below x h = grind (arith, nat_tests, ints)

magnitude_above : (x : ℤ) → int_lt x (pos 0) ≡ false → pos (unsigned_abs x) ≡ x
magnitude_above x h = grind (arith, nat_tests, ints)

not_value : (tables : List (List ℤ)) (s : State) (a : Int) (p : Bool) → read_int a s ≡ Is (truth p) → value (expr.Bin op.Sub (expr.Lit (pos 1)) (expr.Var a)) tables s ≡ Is (truth (negated p))
unfolding ranged in_range
not_value tables s a p h = bin_value tables s op.Sub (expr.Lit (pos 1)) (expr.Var a) (pos 1) (truth p) (value_Lit (pos 1) tables s) (value_Var a tables s ∙ h) ∙ table p
  where
    table : (p : Bool) → apply op.Sub (Is (pos 1)) (Is (truth p)) ≡ Is (truth (negated p))
    table true = refl
    table false = refl

module _ (c : Code) (n m : ℕ) (s : State) (k : ℕ) (le : n ≤ k) where
  abbrev v : Int
  v = int.Local k

  after_test : Stays n m s (settled s)
  after_test = stays_settled n m s s s.todo (stays_none n m s)

  -- a set of one value
  one_yields : (e : CExpr) (r : Given) (w : ℤ) → value e c.tables s ≡ Is w → r ≡ Ok w → Yields c n m mono_steps (stmt.Set v e ∷ []) s v r
  one_yields e r w is given = yields_more c n m s 1 2 (stmt.Set v e ∷ []) v r (omega arith) (set_yields c n m s k e s r w le (stays_none n m s) is given)

  magnitude_yields : (a : Int) (x : ℤ) → read_int a s ≡ Is x → in_range x ≡ true → Yields c n m mono_steps (magnitude_stmt v a ∷ []) s v (monadic f.Residue x)
  magnitude_yields a x h fits =
      let t = settled s in
      let z = monadic f.Residue x in
      if_yields c n m s 1 (below_zero a) (stmt.Set v (minus a) ∷ []) (Some (stmt.Set v (expr.Var a) ∷ [])) s (Computed n m s v z) (Failed n m s z) (int_lt x (pos 0)) (stays_none n m s)
      (below_zero_value c.tables s a x h)
      (λ e. set_yields c n m s k (minus a) t z (pos 0 -ℤ x) le after_test (minus_value c.tables t a x (read_settled a s ∙ h) fits) (ap ok (magnitude_below x e)))
      (λ e. set_yields c n m s k (expr.Var a) t z x le after_test (value_Var a c.tables t ∙ read_settled a s ∙ h) (ap ok (magnitude_above x e)))
    where
      ok : ℤ → Given
      ok v = Ok v

  not_yields : (a : Int) (x : ℤ) → read_int a s ≡ Is x → Yields c n m mono_steps (not_stmt v a ∷ []) s v (monadic f.Not x)
  not_yields a x h = by_cases (bit_cases x)
    where
      z : Given
      z = monadic f.Not x

      if_bit : (b : Bool) → bit_test x ≡ b → (b ≡ true → Does c (Stays n m s) 1 (stmt.Set v (expr.Bin op.Sub (expr.Lit (pos 1)) (expr.Var a)) ∷ []) (settled s) (Computed n m s v z) (Failed n m s z)) → (b ≡ false → z ≡ Err fault.Domain) → Yields c n m mono_steps (not_stmt v a ∷ []) s v z
      if_bit b e bit_case other_case =
          if_yields c n m s 1 (is_bit a) (stmt.Set v (expr.Bin op.Sub (expr.Lit (pos 1)) (expr.Var a)) ∷ []) (Some (stmt.Fault fault.Domain ∷ [])) s (Computed n m s v z) (Failed n m s z) b (stays_none n m s)
          (is_bit_value c.tables s a x h ∙ ap (λ t. Is (truth t)) e) bit_case
          (λ o. does_weaken c (Stays n m s) (Stays n m s) 0 1 (stmt.Fault fault.Domain ∷ []) (settled s) (Computed n m s v z) (Computed n m s v z) (Failed n m s z) (Failed n m s z) (λ u x. x) (λ u x. x) (λ kind u x. x) (omega arith)
          (does_Fault c (Stays n m s) fault.Domain (settled s) (Computed n m s v z) (Failed n m s z) (λ todo. record { stays = stays_settled n m s s todo (stays_none n m s); given = other_case o })))

      by_cases : Bit x ⊎ NoBit x → Yields c n m mono_steps (not_stmt v a ∷ []) s v z
      by_cases (inl p) =
          if_bit true p.tested
          (λ o. set_yields c n m s k (expr.Bin op.Sub (expr.Lit (pos 1)) (expr.Var a)) (settled s) z (truth (negated p.bit)) le after_test
          (not_value c.tables (settled s) a p.bit (read_settled a s ∙ h ∙ ap Is p.is)) (ap (λ o. logical_right negated o) p.boolean_is))
          (λ o. absurd (clash o))
      by_cases (inr p) = if_bit false p.tested (λ o. absurd (clash (sym o))) (λ o. ap (λ o. logical_right negated o) p.boolean_is)

  pub mono_yields : (g : ScalarFn) (a : Int) (x : ℤ) → read_int a s ≡ Is x → in_range x ≡ true → Yields c n m mono_steps (mono_stmt g v a ∷ []) s v (monadic g x)
  mono_yields f.Sub a x h fits = one_yields (minus a) (monadic f.Sub x) (pos 0 -ℤ x) (minus_value c.tables s a x h fits) refl
  mono_yields f.Mul a x h fits = one_yields (sign_of a) (monadic f.Mul x) (sign x) (sign_value c.tables s a x h) refl
  mono_yields f.Residue a x h fits = magnitude_yields a x h fits
  mono_yields f.Not a x h fits = not_yields a x h
  mono_yields _ a x h fits = one_yields (expr.Var a) _ x (value_Var a c.tables s ∙ h) refl
