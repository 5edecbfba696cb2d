-- Indexing and indexed assignment. The places of an axis are an array of numbers, or none where the whole axis is meant.
use Rattle.std.specs.Prelude.{◌≡◌, ℕ, List, [], ◌∷◌, ◌++◌, ℤ, int_le, length, take, drop, slice_set, Option, Some, None, Result, Ok, Bool, true, nat_le, nat_lt, nat_eq, ◌&&◌, ◌||◌}
use Rattle.aplc_scalar.specs.declared.kind.FaultKind.{FaultKind}
use Rattle.aplc_scalar.specs.declared.kind.FaultKind.TheVariants.{Domain, Index, Length, Limit, Rank}
use Rattle.aplc_arr.specs.Arrays.{Array, rank, product, at, place, index_at, shape_eq, kind_eq, is_numbers, rank_limit, shape_fits}
use Rattle.aplc_arr.specs.Delayed.{Prepared, moved, needs, first_n}
use Rattle.aplc_arr.specs.Each.{extended}
use Rattle.aplc_arr.specs.Structure.{only_index, from_origin}

-- the shapes of the places joined; a whole axis has its length
abbrev pub joined_shape : List ℕ → List (Option Array) → List ℕ
joined_shape (n ∷ ns) (None ∷ xs) = n ∷ joined_shape ns xs
joined_shape (n ∷ ns) (Some a ∷ xs) = a.shape ++ joined_shape ns xs
joined_shape _ _ = []

abbrev pub all_numbers : List (Option Array) → Bool
all_numbers [] = true
all_numbers (None ∷ xs) = all_numbers xs
all_numbers (Some a ∷ xs) = is_numbers a && all_numbers xs

abbrev pub numbers_within : ℤ → ℕ → List ℤ → Bool
numbers_within o n [] = true
numbers_within o n (z ∷ zs) = int_le o z && nat_lt (from_origin o z) n && numbers_within o n zs

-- each number, counted from the origin o, is a place of its axis; also where the result has no element
abbrev pub places_within : ℤ → List ℕ → List (Option Array) → Bool
places_within o (n ∷ ns) (None ∷ xs) = places_within o ns xs
places_within o (n ∷ ns) (Some a ∷ xs) = numbers_within o n a.cells && places_within o ns xs
places_within o _ _ = true

-- as many entries as the array has axes, at least one, and not too many axes in all
abbrev pub entries_suit : List ℕ → List (Option Array) → Bool
entries_suit ns xs = nat_eq (length xs) (length ns) && nat_lt 0 (length ns) && nat_le (length (joined_shape ns xs)) rank_limit

-- the multi-index in the indexed array that a multi-index of the joined shape picks
abbrev pub picked : ℤ → List (Option Array) → List ℕ → List ℕ
picked o [] is = []
picked o (None ∷ xs) is = only_index is ∷ picked o xs (drop 1 is)
picked o (Some a ∷ xs) is = from_origin o (at a (take (rank a) is)) ∷ picked o xs (drop (rank a) is)

-- `B[I;J]`: at each multi-index of the joined shape the element at the places that the entries hold there. DOMAIN where
-- an entry holds characters, RANK for a wrong number of entries or too many axes, LIMIT for a shape that is too great,
-- INDEX for a place that B has not.
abbrev pub indexed : ℤ → Array → List (Option Array) → Prepared
indexed o b xs =
    needs (all_numbers xs) Domain
    (needs (entries_suit b.shape xs) Rank
    (needs (shape_fits (joined_shape b.shape xs)) Limit
    (needs (places_within o b.shape xs) Index
    (moved b.kind (joined_shape b.shape xs) (λ is. at b (picked o xs is))))))

-- ---- Indexed assignment

-- of the same kind and shape
abbrev pub IsShapedAs : Array → Array → Type 0
IsShapedAs a b = (b.kind ≡ a.kind) × (b.shape ≡ a.shape)

-- cells set one after the other, so that the last one stays where a place is named twice
abbrev pub set_all : List (ℕ × ℤ) → List ℤ → List ℤ
set_all [] zs = zs
set_all ((p, z) ∷ rest) zs = set_all rest (slice_set zs p z)

-- for each multi-index of the joined shape, in row-major order, the place that is set and the element of V that it gets
abbrev pub settings : ℤ → Array → List (Option Array) → Array → List (ℕ × ℤ)
settings o a xs v =
    let ns = joined_shape a.shape xs in
    first_n (λ p. (place a.shape (picked o xs (index_at ns p)), extended v ns (index_at ns p))) (product ns)

-- the array that is left of A after `A[I;J]←V`; a V of one element serves every place. DOMAIN where an entry holds
-- characters or V has another kind than A, RANK for a wrong number of entries or too many axes, LENGTH where V has
-- neither one element nor the joined shape, INDEX for a place that A has not. There is no LIMIT: a joined shape of any
-- size may be assigned.
abbrev pub changed : ℤ → Array → List (Option Array) → Array → Result Array FaultKind
changed o a xs v =
    needs (all_numbers xs && kind_eq a.kind v.kind) Domain
    (needs (entries_suit a.shape xs) Rank
    (needs (nat_eq (product v.shape) 1 || shape_eq v.shape (joined_shape a.shape xs)) Length
    (needs (places_within o a.shape xs) Index
    (Ok record a { cells = set_all (settings o a xs v) a.cells }))))
