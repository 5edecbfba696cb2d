-- Elements that scalar functions make of elements.
use Rattle.std.specs.Prelude.{ℕ, ◌+◌, Option, Some, None, ℤ, Ok, Err}
use Rattle.aplc_scalar.specs.Scalar.{Given}
use Rattle.aplc_collect.specs.Elements.{Test, Steps}

-- the fault of the right side, else that of the left one, else what the function gives
abbrev pub of_two : (ℤ → ℤ → Given) → Given → Given → Given
of_two g l (Err k) = Err k
of_two g (Err k) (Ok y) = Err k
of_two g (Ok x) (Ok y) = g x y

abbrev pub where_both : (ℤ → ℤ → Given) → Option Given → Option Given → Option Given
where_both g None r = None
where_both g (Some x) None = None
where_both g (Some x) (Some y) = Some (of_two g x y)

abbrev pub dyad_test : (ℤ → ℤ → Given) → Test → Test → Test
dyad_test g l r tables s is = where_both g (l tables s is) (r tables s is)

abbrev pub steps_of_two : ℕ → Steps → Steps → Steps
steps_of_two k l r tables s = r tables s + l tables s + k

-- the fault of the argument, else what the function gives
abbrev pub of_one : (ℤ → Given) → Given → Given
of_one g (Err k) = Err k
of_one g (Ok x) = g x

abbrev pub where_one : (ℤ → Given) → Option Given → Option Given
where_one g None = None
where_one g (Some x) = Some (of_one g x)

abbrev pub mono_test : (ℤ → Given) → Test → Test
mono_test g a tables s is = where_one g (a tables s is)

abbrev pub steps_of_one : ℕ → Steps → Steps
steps_of_one k a tables s = a tables s + k
