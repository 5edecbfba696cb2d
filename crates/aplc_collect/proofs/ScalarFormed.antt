-- Where the statements of scalar functions are well formed.
use Rattle.std.proofs.Common.{◌≡◌, ℕ, ◌<◌, ◌≤◌, [], ◌∷◌, refl, arith, true}
use Rattle.std.specs.Prelude.{Some, None, pos, ◌^◌}
use Rattle.aplc_scalar.specs.declared.kind.FaultKind.TheVariants as fault
use Rattle.aplc_scalar.specs.declared.function.ScalarFn.{ScalarFn}
use Rattle.aplc_scalar.specs.declared.function.ScalarFn.TheVariants as f
use Rattle.aplc_cprof.specs.declared.syntax.Int.{Int}
use Rattle.aplc_cprof.specs.declared.syntax.Op.{Op}
use Rattle.aplc_cprof.specs.declared.syntax.Op.TheVariants as op
use Rattle.aplc_cprof.specs.declared.syntax.Checked.{Checked}
use Rattle.aplc_cprof.specs.declared.syntax.Checked.TheVariants as checked
use Rattle.aplc_cprof.specs.declared.syntax.CExpr.{CExpr}
use Rattle.aplc_cprof.specs.declared.syntax.CExpr.TheVariants as expr
use Rattle.aplc_cprof.specs.declared.syntax.CStmt.TheVariants as stmt
use Rattle.aplc_cprof.specs.WellFormed.{Scope, is_int, is_expr, is_stmt, are_stmts}
use Rattle.aplc_cprof.specs.Emitted.{on_values, less}
use Rattle.aplc_cprof.proofs.Forms.{is_Fault}
use Rattle.aplc_cprof.proofs.Emitted.{bin_formed, var_formed, lit_formed, on_values_formed, with_literal_formed, one_stmt, set_formed, check_formed, if_formed, if_else_formed}
use Rattle.aplc_collect.specs.Scalars.{within, both_within, is_bit, both_bits, below_zero, other_sign, plain_op, small, checked_stmt, arithmetic_stmt, choice_stmt, comparison, of_bits, logical_stmt, remainder_code, residue_stmt, dyad_stmt, minus, sign_of, magnitude_stmt, not_stmt, mono_stmt}

-- ---- Tests

small_plain : (o : Checked) → small o < 2 ^ 63
small_plain checked.Add = omega arith
small_plain checked.Sub = omega arith
small_plain checked.Mul = omega arith

module _ (sc : Scope) where
  within_formed : (o : Checked) (x : Int) (room : ℕ) → 3 ≤ room → is_int sc x ≡ true → is_expr sc (within (small o) x) (Some room) ≡ true
  within_formed o x room le h =
      let least : CExpr = expr.Bin op.Sub (expr.Lit (pos 0)) (expr.Lit (pos (small o))) in
      bin_formed sc op.And (expr.Bin op.Less (expr.Var x) (expr.Lit (pos (small o)))) (expr.Bin op.Greater (expr.Var x) least) 2 room (omega (arith, le))
      (λ r kr. with_literal_formed sc op.Less x (small o) r (omega (arith, kr)) (small_plain o) h)
      (λ r kr. bin_formed sc op.Greater (expr.Var x) least 1 r (omega (arith, kr)) (λ q kq. var_formed sc x h q)
      (λ q kq. bin_formed sc op.Sub (expr.Lit (pos 0)) (expr.Lit (pos (small o))) 0 q (omega (arith, kq)) (λ p kp. lit_formed sc 0 (omega arith) p) (λ p kp. lit_formed sc (small o) (small_plain o) p)))

  both_within_formed : (o : Checked) (x y : Int) (room : ℕ) → 4 ≤ room → is_int sc x ≡ true → is_int sc y ≡ true → is_expr sc (both_within (small o) x y) (Some room) ≡ true
  both_within_formed o x y room le h k = bin_formed sc op.And (within (small o) x) (within (small o) y) 3 room (omega (arith, le)) (λ r kr. within_formed o x r kr h) (λ r kr. within_formed o y r kr k)

  is_bit_formed : (x : Int) (room : ℕ) → 2 ≤ room → is_int sc x ≡ true → is_expr sc (is_bit x) (Some room) ≡ true
  is_bit_formed x room le h =
      bin_formed sc op.Or (expr.Bin op.Equal (expr.Var x) (expr.Lit (pos 0))) (expr.Bin op.Equal (expr.Var x) (expr.Lit (pos 1))) 1 room (omega (arith, le))
      (λ r kr. with_literal_formed sc op.Equal x 0 r kr (omega arith) h) (λ r kr. with_literal_formed sc op.Equal x 1 r kr (omega arith) h)

  both_bits_formed : (x y : Int) (room : ℕ) → 3 ≤ room → is_int sc x ≡ true → is_int sc y ≡ true → is_expr sc (both_bits x y) (Some room) ≡ true
  both_bits_formed x y room le h k = bin_formed sc op.And (is_bit x) (is_bit y) 2 room (omega (arith, le)) (λ r kr. is_bit_formed x r kr h) (λ r kr. is_bit_formed y r kr k)

  below_zero_formed : (x : Int) (room : ℕ) → 1 ≤ room → is_int sc x ≡ true → is_expr sc (below_zero x) (Some room) ≡ true
  below_zero_formed x room le h = with_literal_formed sc op.Less x 0 room le (omega arith) h

  other_sign_formed : (v divisor : Int) (room : ℕ) → 3 ≤ room → is_int sc v ≡ true → is_int sc divisor ≡ true → is_expr sc (other_sign v divisor) (Some room) ≡ true
  other_sign_formed v divisor room le h k =
      bin_formed sc op.And (expr.Bin op.NotEqual (expr.Var v) (expr.Lit (pos 0))) (expr.Bin op.NotEqual (below_zero v) (below_zero divisor)) 2 room (omega (arith, le))
      (λ r kr. with_literal_formed sc op.NotEqual v 0 r (omega (arith, kr)) (omega arith) h)
      (λ r kr. bin_formed sc op.NotEqual (below_zero v) (below_zero divisor) 1 r (omega (arith, kr)) (λ q kq. below_zero_formed v q kq h) (λ q kq. below_zero_formed divisor q kq k))

  -- ---- Blocks

  -- a block that sets a variable
  set_block_formed : (v : Int) (e : CExpr) (room : ℕ) → is_int sc v ≡ true → is_expr sc e (Some room) ≡ true → are_stmts sc (stmt.Set v e ∷ []) (Some room) ≡ true
  set_block_formed v e room h k = one_stmt sc (Some room) (stmt.Set v e) [] (set_formed sc (Some room) v e h k) refl

  fault_block_formed : (room : ℕ) → are_stmts sc (stmt.Fault fault.Domain ∷ []) (Some room) ≡ true
  fault_block_formed room = one_stmt sc (Some room) (stmt.Fault fault.Domain) [] (is_Fault sc fault.Domain (Some room)) refl

  checked_formed : (o : Checked) (v l r : Int) (room : ℕ) → is_int sc v ≡ true → is_int sc l ≡ true → is_int sc r ≡ true → are_stmts sc (checked_stmt o v l r ∷ []) (Some room) ≡ true
  checked_formed checked.Add v l r room hv hl hr = one_stmt sc (Some room) (checked_stmt checked.Add v l r) [] (check_formed sc (Some room) v checked.Add (expr.Var l) (expr.Var r) hv (var_formed sc l hl room) (var_formed sc r hr room)) refl
  checked_formed checked.Sub v l r room hv hl hr = one_stmt sc (Some room) (checked_stmt checked.Sub v l r) [] (check_formed sc (Some room) v checked.Sub (expr.Var l) (expr.Var r) hv (var_formed sc l hl room) (var_formed sc r hr room)) refl
  checked_formed checked.Mul v l r room hv hl hr = one_stmt sc (Some room) (checked_stmt checked.Mul v l r) [] (check_formed sc (Some room) v checked.Mul (expr.Var r) (expr.Var l) hv (var_formed sc r hr room) (var_formed sc l hl room)) refl

  -- ---- Functions of two arguments

  module _ (v l r : Int) (room : ℕ) (le : 4 ≤ room) (hv : is_int sc v ≡ true) (hl : is_int sc l ≡ true) (hr : is_int sc r ≡ true) where
    arithmetic_formed : (o : Checked) → is_stmt sc (arithmetic_stmt o v l r) (Some room) ≡ true
    arithmetic_formed o =
        if_else_formed sc 1 room (both_within (small o) l r) (stmt.Set v (on_values (plain_op o) l r) ∷ []) (checked_stmt o v l r ∷ []) (omega (arith, le)) (both_within_formed o l r room le hl hr)
        (λ q kq. set_block_formed v (on_values (plain_op o) l r) q hv (on_values_formed sc (plain_op o) l r q kq hl hr))
        (λ q kq. checked_formed o v l r q hv hl hr)

    choice_formed : (one other : Int) → is_int sc one ≡ true → is_int sc other ≡ true → is_stmt sc (choice_stmt v l r one other) (Some room) ≡ true
    choice_formed one other ho hw =
        if_else_formed sc 1 room (less l r) (stmt.Set v (expr.Var one) ∷ []) (stmt.Set v (expr.Var other) ∷ []) (omega (arith, le)) (on_values_formed sc op.Less l r room (omega (arith, le)) hl hr)
        (λ q kq. set_block_formed v (expr.Var one) q hv (var_formed sc one ho q))
        (λ q kq. set_block_formed v (expr.Var other) q hv (var_formed sc other hw q))

    of_bits_formed : (g : ScalarFn) (q : ℕ) → 2 ≤ q → is_expr sc (of_bits g l r) (Some q) ≡ true
    of_bits_formed g q kq = by_form g
      where
        with_zero : (o p : Op) → is_expr sc (expr.Bin o (on_values p l r) (expr.Lit (pos 0))) (Some q) ≡ true
        with_zero o p = bin_formed sc o (on_values p l r) (expr.Lit (pos 0)) 1 q (omega (arith, kq)) (λ j kj. on_values_formed sc p l r j kj hl hr) (λ j kj. lit_formed sc 0 (omega arith) j)

        by_form : (g : ScalarFn) → is_expr sc (of_bits g l r) (Some q) ≡ true
        by_form f.And = on_values_formed sc op.Mul l r q (omega (arith, kq)) hl hr
        by_form f.Or = with_zero op.NotEqual op.Add
        by_form f.Nand = with_zero op.Equal op.Mul
        by_form _ = with_zero op.Equal op.Add

    logical_formed : (g : ScalarFn) → is_stmt sc (logical_stmt g v l r) (Some room) ≡ true
    logical_formed g =
        if_else_formed sc 2 room (both_bits l r) (stmt.Set v (of_bits g l r) ∷ []) (stmt.Fault fault.Domain ∷ []) (omega (arith, le)) (both_bits_formed l r room (omega (arith, le)) hl hr)
        (λ q kq. set_block_formed v (of_bits g l r) q hv (of_bits_formed g q kq))
        (λ q kq. fault_block_formed q)

    remainder_formed : (q : ℕ) → 3 ≤ q → are_stmts sc (remainder_code v l r) (Some q) ≡ true
    remainder_formed q kq =
        one_stmt sc (Some q) (stmt.Set v (on_values op.Rem r l)) (stmt.If (other_sign v l) (stmt.Set v (on_values op.Add v l) ∷ []) None ∷ [])
        (set_formed sc (Some q) v (on_values op.Rem r l) hv (on_values_formed sc op.Rem r l q (omega (arith, kq)) hr hl))
        (one_stmt sc (Some q) (stmt.If (other_sign v l) (stmt.Set v (on_values op.Add v l) ∷ []) None) []
        (if_formed sc 1 q (other_sign v l) (stmt.Set v (on_values op.Add v l) ∷ []) (omega (arith, kq)) (other_sign_formed v l q kq hv hl)
        (λ j kj. set_block_formed v (on_values op.Add v l) j hv (on_values_formed sc op.Add v l j kj hv hl))) refl)

    residue_formed : is_stmt sc (residue_stmt v l r) (Some room) ≡ true
    residue_formed =
        if_else_formed sc 3 room (expr.Bin op.NotEqual (expr.Var l) (expr.Lit (pos 0))) (remainder_code v l r) (stmt.Set v (expr.Var r) ∷ []) (omega (arith, le))
        (with_literal_formed sc op.NotEqual l 0 room (omega (arith, le)) (omega arith) hl)
        remainder_formed
        (λ q kq. set_block_formed v (expr.Var r) q hv (var_formed sc r hr q))

    comparison_formed : (o : Op) → is_stmt sc (stmt.Set v (on_values o l r)) (Some room) ≡ true
    comparison_formed o = set_formed sc (Some room) v (on_values o l r) hv (on_values_formed sc o l r room (omega (arith, le)) hl hr)

    dyad_stmt_formed : (g : ScalarFn) → is_stmt sc (dyad_stmt g v l r) (Some room) ≡ true
    dyad_stmt_formed f.Add = arithmetic_formed checked.Add
    dyad_stmt_formed f.Sub = arithmetic_formed checked.Sub
    dyad_stmt_formed f.Mul = arithmetic_formed checked.Mul
    dyad_stmt_formed f.Max = choice_formed r l hr hl
    dyad_stmt_formed f.Min = choice_formed l r hl hr
    dyad_stmt_formed f.Residue = residue_formed
    dyad_stmt_formed f.And = logical_formed f.And
    dyad_stmt_formed f.Or = logical_formed f.Or
    dyad_stmt_formed f.Nand = logical_formed f.Nand
    dyad_stmt_formed f.Nor = logical_formed f.Nor
    dyad_stmt_formed g = comparison_formed (comparison g)

    pub dyad_formed : (g : ScalarFn) → are_stmts sc (dyad_stmt g v l r ∷ []) (Some room) ≡ true
    dyad_formed g = one_stmt sc (Some room) (dyad_stmt g v l r) [] (dyad_stmt_formed g) refl

  -- ---- Functions of one argument

  module _ (v a : Int) (room : ℕ) (le : 2 ≤ room) (hv : is_int sc v ≡ true) (ha : is_int sc a ≡ true) where
    minus_formed : (q n : ℕ) → 1 ≤ q → n < 2 ^ 63 → is_expr sc (expr.Bin op.Sub (expr.Lit (pos n)) (expr.Var a)) (Some q) ≡ true
    minus_formed q n kq lt = bin_formed sc op.Sub (expr.Lit (pos n)) (expr.Var a) 0 q (omega (arith, kq)) (λ j kj. lit_formed sc n lt j) (λ j kj. var_formed sc a ha j)

    sign_formed : is_expr sc (sign_of a) (Some room) ≡ true
    sign_formed =
        bin_formed sc op.Sub (expr.Bin op.Less (expr.Lit (pos 0)) (expr.Var a)) (below_zero a) 1 room (omega (arith, le))
        (λ q kq. bin_formed sc op.Less (expr.Lit (pos 0)) (expr.Var a) 0 q (omega (arith, kq)) (λ j kj. lit_formed sc 0 (omega arith) j) (λ j kj. var_formed sc a ha j))
        (λ q kq. below_zero_formed a q kq ha)

    magnitude_formed : is_stmt sc (magnitude_stmt v a) (Some room) ≡ true
    magnitude_formed =
        if_else_formed sc 1 room (below_zero a) (stmt.Set v (minus a) ∷ []) (stmt.Set v (expr.Var a) ∷ []) (omega (arith, le)) (below_zero_formed a room (omega (arith, le)) ha)
        (λ q kq. set_block_formed v (minus a) q hv (minus_formed q 0 kq (omega arith)))
        (λ q kq. set_block_formed v (expr.Var a) q hv (var_formed sc a ha q))

    not_formed : is_stmt sc (not_stmt v a) (Some room) ≡ true
    not_formed =
        if_else_formed sc 1 room (is_bit a) (stmt.Set v (expr.Bin op.Sub (expr.Lit (pos 1)) (expr.Var a)) ∷ []) (stmt.Fault fault.Domain ∷ []) (omega (arith, le)) (is_bit_formed a room le ha)
        (λ q kq. set_block_formed v (expr.Bin op.Sub (expr.Lit (pos 1)) (expr.Var a)) q hv (minus_formed q 1 kq (omega arith)))
        (λ q kq. fault_block_formed q)

    mono_stmt_formed : (g : ScalarFn) → is_stmt sc (mono_stmt g v a) (Some room) ≡ true
    mono_stmt_formed f.Sub = set_formed sc (Some room) v (minus a) hv (minus_formed room 0 (omega (arith, le)) (omega arith))
    mono_stmt_formed f.Mul = set_formed sc (Some room) v (sign_of a) hv sign_formed
    mono_stmt_formed f.Residue = magnitude_formed
    mono_stmt_formed f.Not = not_formed
    mono_stmt_formed _ = set_formed sc (Some room) v (expr.Var a) hv (var_formed sc a ha room)

    pub mono_formed : (g : ScalarFn) → are_stmts sc (mono_stmt g v a ∷ []) (Some room) ≡ true
    mono_formed g = one_stmt sc (Some room) (mono_stmt g v a) [] (mono_stmt_formed g) refl
