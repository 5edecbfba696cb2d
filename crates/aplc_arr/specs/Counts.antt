-- What the primitives cost, by shapes alone: how often a scalar function is applied, and how long a list of places is.
-- Of a primitive that is not named here both are 0. An axis is its number from 0, if there is one.
use Rattle.std.specs.Prelude.{ℕ, ◌+◌, ◌-◌, ◌*◌, ◌/◌, List, [], ◌∷◌, slice_index, Option, Some, None}
use Rattle.aplc_arr.specs.Arrays.{product}
use Rattle.aplc_arr.specs.Operators.{met_length}

-- ---- Scalar applications

-- a scalar function with one argument or two, or an outer product, whose result has this shape: one for each element
abbrev pub each_applications : List ℕ → ℕ
each_applications rs = product rs

-- a reduction of an array of shape bs with a result of shape rs: for each element one less than the items
abbrev pub reduction_applications : Option ℕ → List ℕ → List ℕ → ℕ
reduction_applications None bs rs = 0
reduction_applications (Some i) bs rs = product rs * (slice_index bs i - 1)

-- a scan of an array of shape bs, each of whose elements is a reduction of its own
abbrev pub scan_applications : Option ℕ → List ℕ → ℕ
scan_applications None bs = 0
scan_applications (Some i) bs = product bs * (slice_index bs i - 1) / 2

-- an inner product of arrays of shapes ls and bs: for each element the pairs, and then their fold
abbrev pub inner_applications : List ℕ → List ℕ → List ℕ → ℕ
inner_applications ls bs rs = product rs * (met_length ls bs + (met_length ls bs - 1))

-- index-of or membership between arrays of shapes ls and bs: each element of the one against each of the other
abbrev pub search_applications : List ℕ → List ℕ → ℕ
search_applications ls bs = product ls * product bs

-- ---- Lists of places

-- replicate or expand by an array of shape ls, with a result of shape rs: by a vector, one place for each layer
abbrev pub list_of_places : Option ℕ → List ℕ → List ℕ → ℕ
list_of_places (Some i) (n ∷ []) rs = slice_index rs i
list_of_places _ _ _ = 0
