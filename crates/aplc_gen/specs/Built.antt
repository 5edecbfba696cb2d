-- The forms that are built: single numbers, names, monadic `+` and `-`, dyadic `+`, `-` and `×`.
use Rattle.std.specs.Prelude.{ℤ, pos, List, [], ◌∷◌, Bool, true, false}
use Rattle.aplc_scalar.specs.Scalar.{in_range}
use Rattle.aplc_scalar.specs.declared.kind.Kind.{Kind}
use Rattle.aplc_scalar.specs.declared.kind.Kind.TheVariants.{Num}
use Rattle.aplc_scalar.specs.declared.function.ScalarFn.TheVariants as f
use Rattle.aplc_syntax.specs.declared.tree.Primitive.{Primitive}
use Rattle.aplc_syntax.specs.declared.tree.Primitive.TheVariants as pr

-- a literal of one number
abbrev pub is_one : List ℤ → Bool
is_one (z ∷ []) = true
is_one _ = false

-- its number
abbrev pub number_of : List ℤ → ℤ
number_of [] = pos 0
number_of (z ∷ zs) = z

-- a literal of one number, which lies in the range
abbrev pub is_number : Kind → List ℤ → Bool
is_number Num (z ∷ []) = in_range z
is_number k zs = false

-- a monadic `+` or `-`
abbrev pub is_sign : Primitive → Bool
is_sign (pr.Scalar f.Add) = true
is_sign (pr.Scalar f.Sub) = true
is_sign _ = false

-- a dyadic `+`, `-` or `×`
abbrev pub is_checked : Primitive → Bool
is_checked (pr.Scalar f.Add) = true
is_checked (pr.Scalar f.Sub) = true
is_checked (pr.Scalar f.Mul) = true
is_checked _ = false
