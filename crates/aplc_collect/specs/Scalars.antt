-- What the emitted code of a scalar function does, and its statement.
use Rattle.std.specs.Prelude.{◌≡◌, ℕ, ◌^◌, List, [], ◌∷◌, Some, None, ℤ, pos, Bool, true, false}
use Rattle.aplc_scalar.specs.declared.kind.FaultKind.TheVariants as fault
use Rattle.aplc_scalar.specs.declared.function.ScalarFn.{ScalarFn}
use Rattle.aplc_scalar.specs.declared.function.ScalarFn.TheVariants as f
use Rattle.aplc_scalar.specs.Scalar.{Given, IsInRange}
use Rattle.aplc_cprof.specs.declared.syntax.Int.{Int}
use Rattle.aplc_cprof.specs.declared.syntax.Op.{Op}
use Rattle.aplc_cprof.specs.declared.syntax.Op.TheVariants as op
use Rattle.aplc_cprof.specs.declared.syntax.Checked.{Checked}
use Rattle.aplc_cprof.specs.declared.syntax.Checked.TheVariants as checked
use Rattle.aplc_cprof.specs.declared.syntax.CExpr.{CExpr}
use Rattle.aplc_cprof.specs.declared.syntax.CExpr.TheVariants as expr
use Rattle.aplc_cprof.specs.declared.syntax.CStmt.{CStmt}
use Rattle.aplc_cprof.specs.declared.syntax.CStmt.TheVariants as stmt
use Rattle.aplc_cprof.specs.Blocks.{Blocks}
use Rattle.aplc_cprof.specs.Machine.{State, Code, Is, read_int}
use Rattle.aplc_cprof.specs.Frames.{IsFresh}
use Rattle.aplc_cprof.specs.Emitted.{on_values, less, Grown, no_names, IsFormed}
use Rattle.aplc_collect.specs.Elements.{Yields}

-- ---- Contracts

-- code that sets the fresh variable v to what a function gives for the number in a variable, or faults as it does
pub record EmitsMono (g : ℤ → Given) (k depth : ℕ) (old new : Blocks) (a v : Int) : Type 0 where
  pub code : List CStmt
  pub grown : Grown code old new
  pub fresh : IsFresh old.ints new.ints v
  pub formed : IsFormed no_names (a ∷ []) [] new depth code
  pub runs : (c : Code) (s : State) (x : ℤ) → read_int a s ≡ Is x → IsInRange x → Yields c old.ints old.bufs k code s v (g x)

-- code that sets the fresh variable v to what a function gives for the numbers in two variables, or faults as it does
pub record EmitsDyad (g : ℤ → ℤ → Given) (k depth : ℕ) (old new : Blocks) (left right v : Int) : Type 0 where
  pub code : List CStmt
  pub grown : Grown code old new
  pub fresh : IsFresh old.ints new.ints v
  pub formed : IsFormed no_names (left ∷ right ∷ []) [] new depth code
  pub runs : (c : Code) (s : State) (x y : ℤ) → read_int left s ≡ Is x → read_int right s ≡ Is y → IsInRange x → IsInRange y → Yields c old.ints old.bufs k code s v (g x y)

-- the most steps of a function's code
abbrev pub mono_steps : ℕ
mono_steps = 2

abbrev pub dyad_steps : ScalarFn → ℕ
dyad_steps f.Residue = 4
dyad_steps _ = 2

-- how deep it nests
abbrev pub mono_depth : ℕ
mono_depth = 2

abbrev pub dyad_depth : ℕ
dyad_depth = 4

-- ---- Tests of numbers in variables

-- whether a variable's value lies between -B and B
abbrev pub within : ℕ → Int → CExpr
within B x = expr.Bin op.And (expr.Bin op.Less (expr.Var x) (expr.Lit (pos B))) (expr.Bin op.Greater (expr.Var x) (expr.Bin op.Sub (expr.Lit (pos 0)) (expr.Lit (pos B))))

abbrev pub both_within : ℕ → Int → Int → CExpr
both_within B x y = expr.Bin op.And (within B x) (within B y)

-- whether a variable holds 0 or 1
abbrev pub is_bit : Int → CExpr
is_bit x = expr.Bin op.Or (expr.Bin op.Equal (expr.Var x) (expr.Lit (pos 0))) (expr.Bin op.Equal (expr.Var x) (expr.Lit (pos 1)))

abbrev pub both_bits : Int → Int → CExpr
both_bits x y = expr.Bin op.And (is_bit x) (is_bit y)

-- whether a variable's value is below 0
abbrev pub below_zero : Int → CExpr
below_zero x = expr.Bin op.Less (expr.Var x) (expr.Lit (pos 0))

-- whether a remainder is not 0 and has another sign than the divisor
abbrev pub other_sign : Int → Int → CExpr
other_sign v divisor = expr.Bin op.And (expr.Bin op.NotEqual (expr.Var v) (expr.Lit (pos 0))) (expr.Bin op.NotEqual (below_zero v) (below_zero divisor))

-- ---- Statements

-- the operator that is not checked, for arguments that are small
abbrev pub plain_op : Checked → Op
plain_op checked.Add = op.Add
plain_op checked.Sub = op.Sub
plain_op checked.Mul = op.Mul

-- arguments of less magnitude have a result in range
abbrev pub small : Checked → ℕ
small checked.Add = 2 ^ 62
small checked.Sub = 2 ^ 62
small checked.Mul = 2 ^ 31

-- A product has its left side second, where a C compiler does best with a constant.
abbrev pub checked_stmt : Checked → Int → Int → Int → CStmt
checked_stmt checked.Add v l r = stmt.Check v checked.Add (expr.Var l) (expr.Var r)
checked_stmt checked.Sub v l r = stmt.Check v checked.Sub (expr.Var l) (expr.Var r)
checked_stmt checked.Mul v l r = stmt.Check v checked.Mul (expr.Var r) (expr.Var l)

-- plain where both sides are small, else checked
abbrev pub arithmetic_stmt : Checked → Int → Int → Int → CStmt
arithmetic_stmt o v l r = stmt.If (both_within (small o) l r) (stmt.Set v (on_values (plain_op o) l r) ∷ []) (Some (checked_stmt o v l r ∷ []))

-- one of two variables, by whether the left side is below the right one
abbrev pub choice_stmt : Int → Int → Int → Int → Int → CStmt
choice_stmt v l r one other = stmt.If (less l r) (stmt.Set v (expr.Var one) ∷ []) (Some (stmt.Set v (expr.Var other) ∷ []))

abbrev pub is_comparison : ScalarFn → Bool
is_comparison f.Less = true
is_comparison f.LessEq = true
is_comparison f.Equal = true
is_comparison f.GreaterEq = true
is_comparison f.Greater = true
is_comparison f.NotEqual = true
is_comparison _ = false

abbrev pub comparison : ScalarFn → Op
comparison f.Less = op.Less
comparison f.LessEq = op.LessEq
comparison f.Equal = op.Equal
comparison f.GreaterEq = op.GreaterEq
comparison f.Greater = op.Greater
comparison _ = op.NotEqual

-- a function of two truth values, by arithmetic
abbrev pub of_bits : ScalarFn → Int → Int → CExpr
of_bits f.And x y = on_values op.Mul x y
of_bits f.Or x y = expr.Bin op.NotEqual (on_values op.Add x y) (expr.Lit (pos 0))
of_bits f.Nand x y = expr.Bin op.Equal (on_values op.Mul x y) (expr.Lit (pos 0))
of_bits _ x y = expr.Bin op.Equal (on_values op.Add x y) (expr.Lit (pos 0))

abbrev pub logical_stmt : ScalarFn → Int → Int → Int → CStmt
logical_stmt g v l r = stmt.If (both_bits l r) (stmt.Set v (of_bits g l r) ∷ []) (Some (stmt.Fault fault.Domain ∷ []))

-- the remainder, with the divisor added where its sign is the other one
abbrev pub remainder_code : Int → Int → Int → List CStmt
remainder_code v l r = stmt.Set v (on_values op.Rem r l) ∷ stmt.If (other_sign v l) (stmt.Set v (on_values op.Add v l) ∷ []) None ∷ []

abbrev pub residue_stmt : Int → Int → Int → CStmt
residue_stmt v l r = stmt.If (expr.Bin op.NotEqual (expr.Var l) (expr.Lit (pos 0))) (remainder_code v l r) (Some (stmt.Set v (expr.Var r) ∷ []))

-- the statement of a function of two arguments; Not has none
abbrev pub dyad_stmt : ScalarFn → Int → Int → Int → CStmt
dyad_stmt f.Add v l r = arithmetic_stmt checked.Add v l r
dyad_stmt f.Sub v l r = arithmetic_stmt checked.Sub v l r
dyad_stmt f.Mul v l r = arithmetic_stmt checked.Mul v l r
dyad_stmt f.Max v l r = choice_stmt v l r r l
dyad_stmt f.Min v l r = choice_stmt v l r l r
dyad_stmt f.Residue v l r = residue_stmt v l r
dyad_stmt f.And v l r = logical_stmt f.And v l r
dyad_stmt f.Or v l r = logical_stmt f.Or v l r
dyad_stmt f.Nand v l r = logical_stmt f.Nand v l r
dyad_stmt f.Nor v l r = logical_stmt f.Nor v l r
dyad_stmt g v l r = stmt.Set v (on_values (comparison g) l r)

-- ---- Functions of one argument

abbrev pub minus : Int → CExpr
minus x = expr.Bin op.Sub (expr.Lit (pos 0)) (expr.Var x)

-- 1 above 0, -1 below it
abbrev pub sign_of : Int → CExpr
sign_of x = expr.Bin op.Sub (expr.Bin op.Less (expr.Lit (pos 0)) (expr.Var x)) (below_zero x)

abbrev pub magnitude_stmt : Int → Int → CStmt
magnitude_stmt v a = stmt.If (below_zero a) (stmt.Set v (minus a) ∷ []) (Some (stmt.Set v (expr.Var a) ∷ []))

abbrev pub not_stmt : Int → Int → CStmt
not_stmt v a = stmt.If (is_bit a) (stmt.Set v (expr.Bin op.Sub (expr.Lit (pos 1)) (expr.Var a)) ∷ []) (Some (stmt.Fault fault.Domain ∷ []))

-- the statement of a function of one argument
abbrev pub mono_stmt : ScalarFn → Int → Int → CStmt
mono_stmt f.Sub v a = stmt.Set v (minus a)
mono_stmt f.Mul v a = stmt.Set v (sign_of a)
mono_stmt f.Residue v a = magnitude_stmt v a
mono_stmt f.Not v a = not_stmt v a
mono_stmt _ v a = stmt.Set v (expr.Var a)
