-- Functions that rearrange elements: shape, ravel, the index generator, reversal, rotation, transposition, reshape and
-- catenation. An axis is its number from 0, or none where the argument has not the axis that is meant.
use Rattle.std.specs.Prelude.{◌≡◌, ◌⊎◌, ℕ, zero, suc, ◌+◌, ◌-◌, ◌%◌, max, min, List, [], ◌∷◌, ◌++◌, ℤ, pos, ◌+ℤ◌, ◌-ℤ◌, int_lt, int_le, unsigned_abs, length, map, slice_index, slice_index_or, slice_set, Option, Bool, true, false, nat_le, nat_lt, nat_eq, ◌&&◌, ◌||◌, if◌then◌else◌}
use mathlib.Core.List.{reverse}
use Rattle.std.specs.Int.{int_rem_euclid}
use Rattle.aplc_scalar.specs.declared.kind.Kind.TheVariants.{Num}
use Rattle.aplc_scalar.specs.declared.kind.FaultKind.TheVariants.{Domain, Length, Limit, Rank}
use Rattle.aplc_arr.specs.Arrays.{Array, rank, product, place, at, at_or_scalar, first_of, fill, shape_eq, kind_eq, is_numbers, count_limit, rank_limit, shape_fits}
use Rattle.aplc_arr.specs.Delayed.{Prepared, moved, needs, along_axis, first_n}
use Rattle.aplc_arr.specs.Each.{ranks_suit}

-- the origins that there are: places and indices are counted from 0 or from 1
abbrev pub IsOrigin : ℤ → Type 0
IsOrigin o = (o ≡ pos 0) ⊎ (o ≡ pos 1)

-- the one index of a vector's element
abbrev pub only_index : List ℕ → ℕ
only_index is = slice_index is 0

abbrev pub none_negative : List ℤ → Bool
none_negative [] = true
none_negative (x ∷ xs) = int_le (pos 0) x && none_negative xs

abbrev pub magnitudes : List ℤ → List ℕ
magnitudes xs = map unsigned_abs xs

-- ---- Shape, ravel, index generator

-- `⍴B`: the lengths of B, as a vector
abbrev pub shape_of : Array → Prepared
shape_of b = moved Num (rank b ∷ []) (λ is. pos (slice_index b.shape (only_index is)))

-- `,B`: the elements of B in row-major order, as a vector
abbrev pub ravelled : Array → Prepared
ravelled b = moved b.kind (product b.shape ∷ []) (λ is. slice_index_or b.cells (only_index is) (fill b.kind))

-- `⍳N`: the origin o and the numbers after it, N in all. DOMAIN for characters, RANK above 1, LENGTH for a vector
-- without just one element, DOMAIN for a negative N, LIMIT for a result that is too long.
abbrev pub iota : ℤ → Array → Prepared
iota o b =
    needs (is_numbers b) Domain
    (needs (nat_le (rank b) 1) Rank
    (needs (nat_eq (product b.shape) 1) Length
    (needs (int_le (pos 0) (first_of b)) Domain
    (needs (nat_le (unsigned_abs (first_of b)) count_limit) Limit
    (moved Num (unsigned_abs (first_of b) ∷ []) (λ is. o +ℤ pos (only_index is)))))))

-- ---- Reversal and rotation

-- the multi-index with index i counted from the end of its axis
abbrev pub from_the_end : List ℕ → ℕ → List ℕ → List ℕ
from_the_end ns i is = slice_set is i (slice_index ns i - 1 - slice_index is i)

-- `⌽B` and `⊖B`: place j along the axis holds what stands j places before the last. RANK without such an axis.
abbrev pub reversed : Option ℕ → Array → Prepared
reversed x b = along_axis x (λ i. moved b.kind b.shape (λ is. at b (from_the_end b.shape i is)))

-- the multi-index with k added to index i, modulo the length of the axis
abbrev pub turned : ℤ → ℕ → List ℕ → List ℕ → List ℕ
turned k i ns is = slice_set is i (unsigned_abs (int_rem_euclid (pos (slice_index is i) +ℤ k) (pos (slice_index ns i))))

-- `A⌽B` and `A⊖B`: place j along the axis holds what stands at j + A, modulo the length. DOMAIN where A holds
-- characters, RANK where A is no scalar or there is no such axis.
abbrev pub rotated : Option ℕ → Array → Array → Prepared
rotated x a b =
    needs (is_numbers a) Domain
    (needs (nat_eq (rank a) 0) Rank
    (along_axis x (λ i. moved b.kind b.shape (λ is. at b (turned (first_of a) i b.shape is)))))

-- ---- Transposition

-- `⍉B`: the axes in the opposite order
abbrev pub transposed : Array → Prepared
transposed b = moved b.kind (reverse b.shape) (λ is. at b (reverse is))

-- counted from the origin o; 0 for a number below it
abbrev pub from_origin : ℤ → ℤ → ℕ
from_origin o z = if int_lt z o then 0 else unsigned_abs (z -ℤ o)

abbrev pub none_below : ℤ → List ℤ → Bool
none_below o [] = true
none_below o (z ∷ zs) = int_le o z && none_below o zs

abbrev pub stands_in : ℕ → List ℕ → Bool
stands_in n [] = false
stands_in n (m ∷ ms) = nat_eq n m || stands_in n ms

-- 0 to m - 1 all stand there
abbrev pub all_below_stand : ℕ → List ℕ → Bool
all_below_stand zero axes = true
all_below_stand (suc m) axes = stands_in m axes && all_below_stand m axes

-- one more than the greatest
abbrev pub axes_in : List ℕ → ℕ
axes_in [] = 0
axes_in (x ∷ xs) = max (x + 1) (axes_in xs)

-- the least of the lengths whose axes become axis j
abbrev pub least_length : ℕ → List ℕ → List ℕ → ℕ
least_length j (x ∷ xs) (n ∷ ns) = if nat_eq x j then (if stands_in j xs then min n (least_length j xs ns) else n) else least_length j xs ns
least_length j _ _ = 0

-- the lengths where axis i becomes the i-th of axes
abbrev pub lengths_moved : List ℕ → List ℕ → List ℕ
lengths_moved axes ns = first_n (λ j. least_length j axes ns) (axes_in axes)

-- `A⍉B`: axis i of B becomes axis A[i]; where several become one axis, that is their diagonal, as long as the shortest.
-- DOMAIN where A holds characters; RANK where A is above rank 1, has not as many numbers as B has axes, or names other
-- axes than all from the first to some last one.
abbrev pub transposed_by : ℤ → Array → Array → Prepared
transposed_by o a b =
    let axes = map (from_origin o) a.cells in
    needs (is_numbers a) Domain
    (needs (nat_le (rank a) 1 && nat_eq (length a.cells) (rank b) && none_below o a.cells && all_below_stand (axes_in axes) axes) Rank
    (moved b.kind (lengths_moved axes b.shape) (λ is. at b (map (slice_index is) axes))))

-- ---- Reshape

-- the elements of B in row-major order, again and again; fills where B has none
abbrev pub cyclic : Array → List ℕ → List ℕ → ℤ
cyclic b ns is =
    if nat_eq (product b.shape) 0 then fill b.kind else slice_index_or b.cells (place ns is % product b.shape) (fill b.kind)

-- `A⍴B`: the shape A, with the elements of B again and again. DOMAIN where A holds characters, RANK where A is above
-- rank 1 or would give too many axes, DOMAIN for a negative length, LIMIT for a shape that is too great.
abbrev pub reshaped : Array → Array → Prepared
reshaped a b =
    needs (is_numbers a) Domain
    (needs (nat_le (rank a) 1 && nat_le (length a.cells) rank_limit) Rank
    (needs (none_negative a.cells) Domain
    (needs (shape_fits (magnitudes a.cells)) Limit
    (moved b.kind (magnitudes a.cells) (cyclic b (magnitudes a.cells))))))

-- ---- Catenation

-- the lengths of all axes but the last
abbrev pub front_of : List ℕ → List ℕ
front_of [] = []
front_of (n ∷ []) = []
front_of (n ∷ m ∷ ns) = n ∷ front_of (m ∷ ns)

-- the length of the last axis; a scalar is one layer
abbrev pub layers : List ℕ → ℕ
layers [] = 1
layers (n ∷ []) = n
layers (n ∷ m ∷ ns) = layers (m ∷ ns)

-- the lengths before the joined axis; a scalar has the other's
abbrev pub common_front : List ℕ → List ℕ → List ℕ
common_front [] ns = front_of ns
common_front (m ∷ ms) ns = front_of (m ∷ ms)

-- `A,B`: the layers of A along the last axis, and then those of B; a scalar is one layer that holds it everywhere, and
-- two scalars give a vector. DOMAIN for two kinds, RANK for ranks that differ where neither is 0, LENGTH where other
-- lengths than the last differ, LIMIT for a shape that is too great.
abbrev pub catenated : Array → Array → Prepared
catenated a b =
    let front = common_front a.shape b.shape in
    let ns = front ++ (layers a.shape + layers b.shape) ∷ [] in
    let axis = length front in
    let n = layers a.shape in
    needs (kind_eq a.kind b.kind) Domain
    (needs (ranks_suit (rank a) (rank b)) Rank
    (needs (nat_eq (rank a) 0 || nat_eq (rank b) 0 || shape_eq (front_of a.shape) (front_of b.shape)) Length
    (needs (shape_fits ns) Limit
    (moved a.kind ns (λ is. if nat_lt (slice_index is axis) n then at_or_scalar a is else at_or_scalar b (slice_set is axis (slice_index is axis - n)))))))
