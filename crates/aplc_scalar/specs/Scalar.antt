-- What the scalar functions make of whole numbers: a number, or a fault.
use Rattle.std.specs.Prelude.{◌^◌, ℤ, pos, ◌+ℤ◌, ◌-ℤ◌, ◌*ℤ◌, Bool, true, false, nat_lt, Option, Some, None, Result, Ok, Err, if◌then◌else◌, IsTrue}
use Rattle.std.specs.Int.{int_rem_euclid}
use Rattle.std.specs.Int.RustNames.{int_lt, int_le, unsigned_abs}
use Rattle.aplc_scalar.specs.declared.function.ScalarFn.{ScalarFn}
use Rattle.aplc_scalar.specs.declared.function.ScalarFn.TheVariants as f
use Rattle.aplc_scalar.specs.declared.kind.FaultKind.{FaultKind}
use Rattle.aplc_scalar.specs.declared.kind.FaultKind.TheVariants as fault

-- A number has a magnitude of at most 9223372036854775807.
unfoldable pub in_range : ℤ → Bool
in_range z = nat_lt (unsigned_abs z) (2 ^ 63)

abbrev pub IsInRange : ℤ → Type 0
IsInRange z = IsTrue (in_range z)

-- what an application gives
abbrev pub Given : Type 0
Given = Result ℤ FaultKind

-- the number, or LIMIT where it is out of range
abbrev pub limited : ℤ → Given
limited z = if in_range z then Ok z else Err fault.Limit

abbrev pub truth : Bool → ℤ
truth true = pos 1
truth false = pos 0

abbrev pub tested : Bool → Given
tested b = Ok (truth b)

abbrev pub negated : Bool → Bool
negated true = false
negated false = true

abbrev pub both : Bool → Bool → Bool
both true b = b
both false b = false

-- equality of whole numbers, as a test
abbrev pub int_eq : ℤ → ℤ → Bool
int_eq a b = both (int_le a b) (int_le b a)

-- 0 and 1 stand for false and true
abbrev pub boolean : ℤ → Option Bool
boolean z = if int_eq z (pos 0) then Some false else (if int_eq z (pos 1) then Some true else None)

abbrev pub logical_right : (Bool → Bool) → Option Bool → Given
logical_right g None = Err fault.Domain
logical_right g (Some b) = tested (g b)

-- a function of truth values, 0 and 1: any other argument is DOMAIN
abbrev pub logical : (Bool → Bool → Bool) → Option Bool → Option Bool → Given
logical g None b = Err fault.Domain
logical g (Some a) b = logical_right (g a) b

-- b less a whole multiple of a that leaves 0 or a's sign and less than a's magnitude; b itself where a is 0
abbrev pub residue : ℤ → ℤ → ℤ
residue a b =
    if int_lt (pos 0) a then int_rem_euclid b a
    else (if int_lt a (pos 0) then pos 0 -ℤ int_rem_euclid (pos 0 -ℤ b) (pos 0 -ℤ a) else b)

abbrev pub sign : ℤ → ℤ
sign a = if int_lt (pos 0) a then pos 1 else (if int_lt a (pos 0) then pos 0 -ℤ pos 1 else pos 0)

-- a function of one argument; And to NotEqual, Or, Nand and Nor have none
abbrev pub monadic : ScalarFn → ℤ → Given
monadic f.Sub a = Ok (pos 0 -ℤ a)
monadic f.Mul a = Ok (sign a)
monadic f.Residue a = Ok (pos (unsigned_abs a))
monadic f.Not a = logical_right negated (boolean a)
monadic _ a = Ok a

-- a function of two arguments; Not has none
abbrev pub dyadic : ScalarFn → ℤ → ℤ → Given
dyadic f.Add a b = limited (a +ℤ b)
dyadic f.Sub a b = limited (a -ℤ b)
dyadic f.Mul a b = limited (a *ℤ b)
dyadic f.Max a b = Ok (if int_lt a b then b else a)
dyadic f.Min a b = Ok (if int_lt a b then a else b)
dyadic f.Residue a b = Ok (residue a b)
dyadic f.Less a b = tested (int_lt a b)
dyadic f.LessEq a b = tested (int_le a b)
dyadic f.Equal a b = tested (int_eq a b)
dyadic f.GreaterEq a b = tested (int_le b a)
dyadic f.Greater a b = tested (int_lt b a)
dyadic f.NotEqual a b = tested (negated (int_eq a b))
dyadic f.And a b = logical both (boolean a) (boolean b)
dyadic f.Or a b = logical (λ x y. negated (both (negated x) (negated y))) (boolean a) (boolean b)
dyadic f.Nand a b = logical (λ x y. negated (both x y)) (boolean a) (boolean b)
dyadic f.Nor a b = logical (λ x y. both (negated x) (negated y)) (boolean a) (boolean b)
dyadic f.Not a b = Err fault.Domain

-- the value of a fold over nothing
abbrev pub identity_of : ScalarFn → Option ℤ
identity_of f.Add = Some (pos 0)
identity_of f.Sub = Some (pos 0)
identity_of f.Mul = Some (pos 1)
identity_of f.Max = Some (pos 0 -ℤ pos 9223372036854775807)
identity_of f.Min = Some (pos 9223372036854775807)
identity_of f.Residue = Some (pos 0)
identity_of f.Less = Some (pos 0)
identity_of f.LessEq = Some (pos 1)
identity_of f.Equal = Some (pos 1)
identity_of f.GreaterEq = Some (pos 1)
identity_of f.Greater = Some (pos 0)
identity_of f.NotEqual = Some (pos 0)
identity_of f.And = Some (pos 1)
identity_of f.Or = Some (pos 0)
identity_of f.Nand = None
identity_of f.Nor = None
identity_of f.Not = None

-- the functions that have a form with one argument
abbrev pub is_monadic : ScalarFn → Bool
is_monadic f.Add = true
is_monadic f.Sub = true
is_monadic f.Mul = true
is_monadic f.Max = true
is_monadic f.Min = true
is_monadic f.Residue = true
is_monadic f.Not = true
is_monadic _ = false

-- the functions that have a form with two arguments
abbrev pub is_dyadic : ScalarFn → Bool
is_dyadic f.Not = false
is_dyadic _ = true

-- the functions of truth values with two arguments
abbrev pub is_logical : ScalarFn → Bool
is_logical f.And = true
is_logical f.Or = true
is_logical f.Nand = true
is_logical f.Nor = true
is_logical _ = false
