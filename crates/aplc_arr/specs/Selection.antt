-- Functions that choose among elements: take, drop, replicate, expand, index-of and membership.
-- An axis is its number from 0, or none where the argument has not the axis that is meant.
use Rattle.std.specs.Prelude.{ℕ, zero, suc, ◌+◌, ◌-◌, List, [], ◌∷◌, ℤ, pos, negsuc, ◌+ℤ◌, unsigned_abs, length, take, replicate, sum, slice_index, slice_set, Option, Some, None, Bool, true, false, nat_le, nat_lt, nat_eq, ◌&&◌, ◌||◌, if◌then◌else◌}
use Rattle.aplc_scalar.specs.declared.kind.Kind.{Kind}
use Rattle.aplc_scalar.specs.declared.kind.Kind.TheVariants.{Num}
use Rattle.aplc_scalar.specs.declared.kind.FaultKind.TheVariants.{Domain, Length, Limit, Rank}
use Rattle.aplc_scalar.specs.Scalar.{int_eq}
use Rattle.aplc_arr.specs.Arrays.{Array, rank, at, first_of, fill, as_vector, kind_eq, is_numbers, shape_fits}
use Rattle.aplc_arr.specs.Delayed.{Prepared, moved, needs, along_axis}
use Rattle.aplc_arr.specs.Structure.{none_negative, magnitudes}

-- ---- Take and drop

-- the left argument has a number for each axis: a scalar goes with a scalar or a vector, a vector with rank 1 and more
abbrev pub ranks_suit_take : ℕ → ℕ → Bool
ranks_suit_take zero s = nat_le s 1
ranks_suit_take (suc zero) s = nat_le 1 s
ranks_suit_take (suc (suc r)) s = false

-- where element i of a take of c comes from, along an axis of length n; none where it is a fill.
-- The front is kept for a positive c, and the end for a negative one.
abbrev pub taken_from : ℤ → ℕ → ℕ → Option ℕ
taken_from (pos c) n i = if nat_lt i n then Some i else None
taken_from (negsuc c) n i = if nat_lt (n + i) (suc c) then None else Some (n + i - suc c)

abbrev pub both_there : Option ℕ → Option (List ℕ) → Option (List ℕ)
both_there (Some j) (Some js) = Some (j ∷ js)
both_there _ _ = None

abbrev pub each_taken_from : List ℤ → List ℕ → List ℕ → Option (List ℕ)
each_taken_from (c ∷ cs) (n ∷ ns) (i ∷ is) = both_there (taken_from c n i) (each_taken_from cs ns is)
each_taken_from _ _ _ = Some []

abbrev pub at_or_fill : Array → Option (List ℕ) → ℤ
at_or_fill b None = fill b.kind
at_or_fill b (Some is) = at b is

-- `A↑B`: along each axis as many as A's magnitude says, from the front, or from the end where A is negative; fills where
-- B has none. DOMAIN where A holds characters, RANK for ranks that do not suit, LENGTH where A has not a number for each
-- axis, LIMIT for a shape that is too great.
abbrev pub taken : Array → Array → Prepared
taken a b =
    needs (is_numbers a) Domain
    (needs (ranks_suit_take (rank a) (rank b)) Rank
    (needs (nat_eq (length a.cells) (rank (as_vector b))) Length
    (needs (shape_fits (magnitudes a.cells)) Limit
    (moved b.kind (magnitudes a.cells) (λ is. at_or_fill (as_vector b) (each_taken_from a.cells (as_vector b).shape is))))))

-- the lengths that a drop leaves
abbrev pub lengths_left : List ℤ → List ℕ → List ℕ
lengths_left (c ∷ cs) (n ∷ ns) = (n - unsigned_abs c) ∷ lengths_left cs ns
lengths_left _ _ = []

-- where element i comes from when c are dropped: from the front for a positive c
abbrev pub dropped_from : ℤ → ℕ → ℕ
dropped_from (pos c) i = i + c
dropped_from (negsuc c) i = i

abbrev pub each_dropped_from : List ℤ → List ℕ → List ℕ
each_dropped_from (c ∷ cs) (i ∷ is) = dropped_from c i ∷ each_dropped_from cs is
each_dropped_from _ _ = []

-- `A↓B`: without as many along each axis as A's magnitude says, from the front, or from the end where A is negative, and
-- without all where there are fewer. DOMAIN, RANK and LENGTH as for take.
abbrev pub dropped : Array → Array → Prepared
dropped a b =
    needs (is_numbers a) Domain
    (needs (ranks_suit_take (rank a) (rank b)) Rank
    (needs (nat_eq (length a.cells) (rank (as_vector b))) Length
    (moved b.kind (lengths_left a.cells (as_vector b).shape) (λ is. at (as_vector b) (each_dropped_from a.cells is)))))

-- ---- Replicate

-- how many layers the axis has; a scalar on the right has as many as the left argument has numbers
abbrev pub axis_length : Array → Array → ℕ → ℕ
axis_length a b i = if nat_eq (rank b) 0 then length a.cells else slice_index b.shape i

-- a count for each layer; a scalar on the left serves them all
abbrev pub counts_for : Array → ℕ → List ℕ
counts_for a n = if nat_eq (rank a) 0 then replicate n (unsigned_abs (first_of a)) else magnitudes a.cells

-- the layer that stands at place j, where each is there as often as its count says
abbrev pub layer_at : List ℕ → ℕ → ℕ
layer_at [] j = 0
layer_at (c ∷ cs) j = if nat_lt j c then 0 else layer_at cs (j - c) + 1

abbrev pub replicated_along : Array → Array → ℕ → Prepared
replicated_along a b i =
    let n = axis_length a b i in
    let ns = slice_set (as_vector b).shape i (sum (counts_for a n)) in
    needs (nat_eq (rank a) 0 || nat_eq (length a.cells) n) Length
    (needs (none_negative a.cells) Domain
    (needs (shape_fits ns) Limit
    (moved b.kind ns (λ is. if nat_eq (rank b) 0 then first_of b else at b (slice_set is i (layer_at (counts_for a n) (slice_index is i)))))))

-- `A/B` and `A⌿B`: each layer along the axis as often as A says. DOMAIN where A holds characters, RANK where A is above
-- rank 1 or there is no such axis, LENGTH where a vector A is not as long as the axis, DOMAIN for a negative count,
-- LIMIT for a shape that is too great. A scalar B counts as rank 1.
abbrev pub replicated : Option ℕ → Array → Array → Prepared
replicated x a b =
    needs (is_numbers a) Domain
    (needs (nat_le (rank a) 1) Rank
    (along_axis x (replicated_along a b)))

-- ---- Expand

abbrev pub all_bits : List ℤ → Bool
all_bits [] = true
all_bits (z ∷ zs) = (int_eq z (pos 0) || int_eq z (pos 1)) && all_bits zs

-- the layer at place j is the one that follows as many as there are ones before it; none at a 0
abbrev pub layer_or_fill : List ℕ → ℕ → Option ℕ
layer_or_fill ones j = if nat_eq (slice_index ones j) 0 then None else Some (sum (take j ones))

-- the element of a layer of B, or a fill; a scalar B is in every layer
abbrev pub at_layer : Array → ℕ → List ℕ → Option ℕ → ℤ
at_layer b i is None = fill b.kind
at_layer b i is (Some l) = if nat_eq (rank b) 0 then first_of b else at b (slice_set is i l)

abbrev pub expanded_along : Array → Array → ℕ → Prepared
expanded_along a b i =
    let ones = magnitudes a.cells in
    let ns = slice_set (as_vector b).shape i (length ones) in
    needs (all_bits a.cells) Domain
    (needs (nat_eq (rank b) 0 || nat_eq (sum ones) (slice_index b.shape i)) Length
    (needs (shape_fits ns) Limit
    (moved b.kind ns (λ is. at_layer b i is (layer_or_fill ones (slice_index is i))))))

-- `A\B` and `A⍀B`: along the axis each 1 of A takes the next layer of B, and each 0 gives fills. DOMAIN where A holds
-- characters, RANK where A is above rank 1 or there is no such axis, DOMAIN for a number that is neither 0 nor 1,
-- LENGTH where there are not as many ones as layers, LIMIT for a shape that is too great. A scalar A is one number, and
-- a scalar B serves every 1.
abbrev pub expanded : Option ℕ → Array → Array → Prepared
expanded x a b =
    needs (is_numbers a) Domain
    (needs (nat_le (rank a) 1) Rank
    (along_axis x (expanded_along a b)))

-- ---- Index-of and membership

-- the first place of z, and one past the last where there is none
abbrev pub first_place : ℤ → List ℤ → ℕ
first_place z [] = 0
first_place z (y ∷ ys) = if int_eq z y then 0 else first_place z ys + 1

-- the same of an element of kind k in an array; a number never equals a character
abbrev pub place_among : Array → Kind → ℤ → ℕ
place_among a k z = if kind_eq a.kind k then first_place z a.cells else length a.cells

-- `A⍳B`: for each element of B its first place in the vector A, counted from the origin o, or one past the last.
-- RANK where A is no vector.
abbrev pub index_of : ℤ → Array → Array → Prepared
index_of o a b = needs (nat_eq (rank a) 1) Rank (moved Num b.shape (λ is. o +ℤ pos (place_among a b.kind (at b is))))

-- `A∊B`: 1 for each element of A that occurs in B, else 0
abbrev pub members : Array → Array → Prepared
members a b = moved Num a.shape (λ is. pos (if nat_lt (place_among b a.kind (at a is)) (length b.cells) then 1 else 0))
