-- What `Arr` holds, and how its elements are counted.
use Rattle.std.specs.Prelude.{ℕ, ◌*◌, ◌≤ℤ◌, pos, All, List, ℤ, nat_le, ◌&&◌, Option, Some, None, if◌then◌else◌}
use Rattle.aplc_scalar.specs.declared.kind.Kind.{Kind}
use Rattle.aplc_arr.specs.Arrays.{Array, IsArray, product, lengths_fit, count_limit}
use Rattle.aplc_arr.specs.Structure.{magnitudes}

-- the array of these lengths and elements
abbrev pub array_of : Kind → List ℤ → List ℤ → Array
array_of k ns zs = record { kind = k; shape = magnitudes ns; cells = zs }

-- no length is negative, and it is an array of the language
pub record IsHeld (k : Kind) (ns zs : List ℤ) : Type 0 where
  pub lengths : All (λ n. pos 0 ≤ℤ n) ns
  pub array : IsArray (array_of k ns zs)

-- the product of c and of all lengths, where it and each of them is within the limit
abbrev pub count_from : ℕ → List ℕ → Option ℕ
count_from c ns = if lengths_fit ns && nat_le (c * product ns) count_limit then Some (c * product ns) else None
