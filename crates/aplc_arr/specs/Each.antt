-- The scalar functions on arrays, element by element.
use Rattle.std.specs.Prelude.{ℕ, List, [], ◌∷◌, ℤ, pos, Option, Some, None, Ok, Err, Bool, true, false, nat_eq, ◌&&◌, ◌||◌, if◌then◌else◌}
use Rattle.aplc_scalar.specs.declared.kind.Kind.{Kind}
use Rattle.aplc_scalar.specs.declared.kind.Kind.TheVariants.{Num}
use Rattle.aplc_scalar.specs.declared.kind.FaultKind.TheVariants.{Domain, Length, Rank}
use Rattle.aplc_scalar.specs.declared.function.ScalarFn.{ScalarFn}
use Rattle.aplc_scalar.specs.declared.function.ScalarFn.TheVariants as f
use Rattle.aplc_scalar.specs.Scalar.{Given, monadic, dyadic, is_monadic, is_dyadic}
use Rattle.aplc_arr.specs.Arrays.{Array, rank, product, at, first_of, shape_eq, kind_eq, is_numbers}
use Rattle.aplc_arr.specs.Delayed.{Prepared, delayed, needs}

-- `f B`: f of each element, in B's shape. DOMAIN where B holds characters.
abbrev pub each_monadic : ScalarFn → Array → Prepared
each_monadic g b = needs (is_numbers b && is_monadic g) Domain (delayed Num b.shape (λ is. monadic g (at b is)))

-- ---- Two arguments: kinds

-- the functions that take characters too
abbrev pub is_equality : ScalarFn → Bool
is_equality f.Equal = true
is_equality f.NotEqual = true
is_equality _ = false

-- numbers with numbers for each function, every pair of kinds for equality
abbrev pub kinds_suit : ScalarFn → Kind → Kind → Bool
kinds_suit g Num Num = is_dyadic g
kinds_suit g k l = is_equality g

-- equality of a number and a character, which are never equal
abbrev pub of_unlike : ScalarFn → Given
of_unlike f.NotEqual = Ok (pos 1)
of_unlike _ = Ok (pos 0)

-- a function of two elements of these kinds
abbrev pub applied : ScalarFn → Kind → Kind → ℤ → ℤ → Given
applied g k l x y = if kind_eq k l then dyadic g x y else of_unlike g

-- ---- Two arguments: shapes

-- a scalar goes with every array, other arrays with those of their own rank
abbrev pub ranks_suit : ℕ → ℕ → Bool
ranks_suit r s = nat_eq r 0 || nat_eq s 0 || nat_eq r s

-- whether the shapes are equal, whether the left array has one element, whether the right one has: an array of one
-- element takes the other's shape
abbrev pub common_of : Bool → Bool → Bool → List ℕ → List ℕ → Option (List ℕ)
common_of true l r ms ns = Some ms
common_of false true r ms ns = Some ns
common_of false false true ms ns = Some ms
common_of false false false ms ns = None

-- the shape of both together, if they conform; a scalar takes the other's
abbrev pub common_shape : List ℕ → List ℕ → Option (List ℕ)
common_shape [] ns = Some ns
common_shape (m ∷ ms) [] = Some (m ∷ ms)
common_shape (m ∷ ms) (n ∷ ns) = common_of (shape_eq (m ∷ ms) (n ∷ ns)) (nat_eq (product (m ∷ ms)) 1) (nat_eq (product (n ∷ ns)) 1) (m ∷ ms) (n ∷ ns)

-- the element at a multi-index of this shape; where an array's own shape is another, its one element is meant
abbrev pub extended : Array → List ℕ → List ℕ → ℤ
extended a ns is = if shape_eq a.shape ns then at a is else first_of a

abbrev pub each_pair : ScalarFn → Array → Array → Option (List ℕ) → Prepared
each_pair g a b None = Err Length
each_pair g a b (Some ns) = delayed Num ns (λ is. applied g a.kind b.kind (extended a ns is) (extended b ns is))

-- `A f B`: f of the elements at each place of the common shape. DOMAIN for kinds that f does not take, RANK for ranks
-- that differ where neither is 0, LENGTH for shapes that do not conform.
abbrev pub each_dyadic : ScalarFn → Array → Array → Prepared
each_dyadic g a b =
    needs (kinds_suit g a.kind b.kind) Domain
    (needs (ranks_suit (rank a) (rank b)) Rank
    (each_pair g a b (common_shape a.shape b.shape)))
