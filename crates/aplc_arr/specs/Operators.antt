-- Reduction, scan, outer and inner product. An axis is its number from 0, or none where the argument has not the axis
-- that is meant.
use Rattle.std.specs.Prelude.{ℕ, zero, suc, ◌+◌, ◌-◌, List, [], ◌∷◌, ◌++◌, ℤ, length, take, drop, slice_index, insert, remove, Option, Some, None, Result, Ok, Err, nat_le, nat_eq, ◌&&◌, ◌||◌, if◌then◌else◌}
use Rattle.aplc_scalar.specs.declared.kind.Kind.TheVariants.{Num}
use Rattle.aplc_scalar.specs.declared.kind.FaultKind.{FaultKind}
use Rattle.aplc_scalar.specs.declared.kind.FaultKind.TheVariants.{Domain, Length, Limit, Rank}
use Rattle.aplc_scalar.specs.declared.function.ScalarFn.{ScalarFn}
use Rattle.aplc_scalar.specs.Scalar.{Given, dyadic, identity_of, is_dyadic}
use Rattle.aplc_arr.specs.Arrays.{Array, rank, product, at, at_or_scalar, first_of, index_at, is_numbers, rank_limit, shape_fits}
use Rattle.aplc_arr.specs.Delayed.{Prepared, delayed, moved, needs, along_axis, first_n, all_given}
use Rattle.aplc_arr.specs.Each.{kinds_suit, applied}
use Rattle.aplc_arr.specs.Structure.{front_of}

-- ---- Reduction and scan

abbrev pub onto : ScalarFn → ℤ → Given → Given
onto g x (Ok y) = dyadic g x y
onto g x (Err e) = Err e

-- the identity, or DOMAIN for a function without one
abbrev pub identity_or_fault : Option ℤ → Given
identity_or_fault None = Err Domain
identity_or_fault (Some z) = Ok z

-- the fold from the right, `a f (b f c)`: the identity for no item, and one item unchanged
abbrev pub folded : ScalarFn → List ℤ → Given
folded g [] = identity_or_fault (identity_of g)
folded g (x ∷ []) = Ok x
folded g (x ∷ y ∷ ys) = onto g x (folded g (y ∷ ys))

-- the items along axis i at a multi-index of the other axes
abbrev pub items_along : Array → ℕ → List ℕ → List ℤ
items_along b i is = first_n (λ j. at b (insert is i j)) (slice_index b.shape i)

abbrev pub reduced_along : ScalarFn → Array → ℕ → Prepared
reduced_along g b i = needs (shape_fits (remove b.shape i)) Limit (delayed Num (remove b.shape i) (λ is. folded g (items_along b i is)))

-- `f/B` and `f⌿B`: the fold of the items along the axis; a scalar gives itself. DOMAIN where B holds characters, RANK
-- without such an axis, LIMIT for a shape that is too great; then the faults of f, and DOMAIN where an empty axis has no
-- identity.
abbrev pub reduced : ScalarFn → Option ℕ → Array → Prepared
reduced g x b =
    needs (is_numbers b && is_dyadic g) Domain
    (along_axis x (λ i. if nat_eq (rank b) 0 then moved Num [] (λ is. first_of b) else reduced_along g b i))

-- `f\B` and `f⍀B`: each element is the fold of the items along the axis up to its own; a scalar gives itself. DOMAIN
-- where B holds characters, RANK without such an axis; then the faults of f.
abbrev pub scanned : ScalarFn → Option ℕ → Array → Prepared
scanned g x b =
    needs (is_numbers b && is_dyadic g) Domain
    (along_axis x (λ i. delayed Num b.shape (λ is. if nat_eq (rank b) 0 then Ok (first_of b) else folded g (take (suc (slice_index is i)) (items_along b i (remove is i))))))

-- ---- Outer and inner product

-- `A∘.f B`: f of all pairs, in A's shape and then B's. DOMAIN for kinds that f does not take, RANK for too many axes,
-- LIMIT for a shape that is too great; then the faults of f.
abbrev pub outer_product : ScalarFn → Array → Array → Prepared
outer_product g a b =
    needs (kinds_suit g a.kind b.kind) Domain
    (needs (nat_le (rank a + rank b) rank_limit) Rank
    (needs (shape_fits (a.shape ++ b.shape)) Limit
    (delayed Num (a.shape ++ b.shape) (λ is. applied g a.kind b.kind (at a (take (rank a) is)) (at b (drop (rank a) is))))))

-- the length of A's last axis and B's first, which meet; a scalar is extended along the other's, and two scalars have 1
abbrev pub met_length : List ℕ → List ℕ → ℕ
met_length [] [] = 1
met_length [] (n ∷ ns) = n
met_length (m ∷ ms) ns = slice_index (m ∷ ms) (length ms)

-- what g gives along the axis that meets, for one element of the result
abbrev pub pairs : ScalarFn → Array → Array → List ℕ → List Given
pairs g a b is =
    let r = length (front_of a.shape) in
    first_n (λ j. dyadic g (at_or_scalar a (take r is ++ j ∷ [])) (at_or_scalar b (j ∷ drop r is))) (met_length a.shape b.shape)

-- what g gives anywhere, in row-major order of the first p elements of the result
abbrev pub joined_pairs : ScalarFn → Array → Array → List ℕ → ℕ → List Given
joined_pairs g a b ns zero = []
joined_pairs g a b ns (suc p) = joined_pairs g a b ns p ++ pairs g a b (index_at ns p)

abbrev pub folded_all : ScalarFn → Result (List ℤ) FaultKind → Given
folded_all h (Ok zs) = folded h zs
folded_all h (Err e) = Err e

-- a fault of g, wherever it comes, before this
abbrev pub after_pairs : Result (List ℤ) FaultKind → Given → Given
after_pairs (Ok zs) r = r
after_pairs (Err e) r = Err e

-- `A h.g B`: A's last axis meets B's first, and each element is the fold by h of what g gives along it. DOMAIN where one
-- holds characters, RANK for too many axes, LENGTH where the axes that meet differ, LIMIT for a shape that is too great;
-- then the first fault of any g, and then those of h. A scalar is extended along the other's axis.
abbrev pub inner_product : ScalarFn → ScalarFn → Array → Array → Prepared
inner_product h g a b =
    let ns = front_of a.shape ++ drop 1 b.shape in
    needs (is_numbers a && is_numbers b && is_dyadic h && is_dyadic g) Domain
    (needs (nat_le (length ns) rank_limit) Rank
    (needs (nat_eq (rank a) 0 || nat_eq (rank b) 0 || nat_eq (slice_index a.shape (rank a - 1)) (slice_index b.shape 0)) Length
    (needs (shape_fits ns) Limit
    (delayed Num ns (λ is. after_pairs (all_given (joined_pairs g a b ns (product ns))) (folded_all h (all_given (pairs g a b is))))))))
