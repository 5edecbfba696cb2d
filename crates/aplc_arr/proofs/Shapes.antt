-- The kind and the shape of each primitive's result.
use Rattle.std.proofs.Common.{◌≡◌, ℕ, zero, suc, ◌+◌, List, [], ◌∷◌, ◌++◌, length, Option, Some, None, refl, sym, ap, subst, arith}
use Rattle.std.specs.Prelude.{◌-◌, ℤ, pos, ◌+ℤ◌, Result, Ok, IfOk, remove, take, drop, sum, slice_set, slice_index, nat_eq, nat_lt, nat_le, if◌then◌else◌, Bool, true, false, ◌&&◌, ◌||◌, unsigned_abs, int_le, map}
use mathlib.Core.List.{reverse}
use Rattle.std.proofs.lemmas.List.{length-map}
use Rattle.aplc_scalar.specs.Scalar.{monadic, is_monadic, is_dyadic}
use Rattle.aplc_scalar.specs.declared.function.ScalarFn.{ScalarFn}
use Rattle.aplc_scalar.specs.declared.kind.FaultKind.{FaultKind}
use Rattle.aplc_scalar.specs.declared.kind.Kind.{Kind}
use Rattle.aplc_arr.specs.Arrays.{Array, rank, product, at, first_of, vector_shape, as_vector, at_or_scalar, shape_eq, kind_eq, is_numbers, count_limit, rank_limit, shape_fits}
use Rattle.aplc_arr.specs.Delayed.{Prepared, delayed, moved, needs, along_axis, Gives, all_given}
use Rattle.aplc_arr.specs.Each.{each_monadic, kinds_suit, applied, ranks_suit, common_shape, each_pair, each_dyadic}
use Rattle.aplc_arr.specs.Indexing.{joined_shape, all_numbers, places_within, entries_suit, picked, indexed, IsShapedAs, set_all, settings, changed}
use Rattle.aplc_arr.specs.Operators.{folded, items_along, reduced_along, reduced, scanned, outer_product, pairs, joined_pairs, folded_all, after_pairs, inner_product}
use Rattle.aplc_arr.specs.Selection.{ranks_suit_take, each_taken_from, at_or_fill, taken, lengths_left, each_dropped_from, dropped, axis_length, counts_for, layer_at, replicated_along, replicated, all_bits, layer_or_fill, at_layer, expanded_along, expanded, place_among, index_of, members}
use Rattle.aplc_arr.specs.Structure.{only_index, none_negative, magnitudes, shape_of, ravelled, iota, from_the_end, reversed, turned, rotated, transposed, from_origin, none_below, all_below_stand, axes_in, lengths_moved, transposed_by, cyclic, reshaped, front_of, layers, common_front, catenated}
use Rattle.aplc_scalar.specs.declared.kind.FaultKind.TheVariants.{Domain, Rank, Length, Limit, Index}
use Rattle.aplc_scalar.specs.declared.kind.Kind.TheVariants.{Num}
use Rattle.aplc_arr.proofs.Basics.{same-number}

gives-needs : (k : Kind) (ns : List ℕ) (b : Bool) (e : FaultKind) (p : Prepared) → Gives k ns p → Gives k ns (needs b e p)
gives-needs k ns true e p h = h
gives-needs k ns false e p h = tt

gives-axis : (k : Kind) (ns : List ℕ) (x : Option ℕ) (next : ℕ → Prepared) → ((i : ℕ) → Gives k ns (next i)) → Gives k ns (along_axis x next)
gives-axis k ns None next h = tt
gives-axis k ns (Some i) next h = h i

-- ---- Scalar functions

pub gives-each_monadic : (g : ScalarFn) (b : Array) → Gives Num b.shape (each_monadic g b)
gives-each_monadic g b =
    let form0 : Prepared = delayed Num b.shape (λ is. monadic g (at b is)) in
    let shape : List ℕ = b.shape in
    gives-needs Num shape (is_numbers b && is_monadic g) Domain form0 (refl, refl)

pub gives-each_dyadic : (g : ScalarFn) (a b : Array) (ns : List ℕ) → common_shape a.shape b.shape ≡ Some ns → Gives Num ns (each_dyadic g a b)
gives-each_dyadic g a b ns e =
    let form0 : Prepared = each_pair g a b (common_shape a.shape b.shape) in
    let shape : List ℕ = ns in
    let form1 : Prepared = needs (ranks_suit (rank a) (rank b)) Rank form0 in
    gives-needs Num shape (kinds_suit g a.kind b.kind) Domain form1 (gives-needs Num shape (ranks_suit (rank a) (rank b)) Rank form0 (subst (λ x. Gives Num ns (each_pair g a b x)) (sym e) (refl, refl)))

-- ---- Structure

pub gives-shape_of : (b : Array) → Gives Num (rank b ∷ []) (shape_of b)
gives-shape_of b =
    (refl, refl)

pub gives-ravelled : (b : Array) → Gives b.kind (product b.shape ∷ []) (ravelled b)
gives-ravelled b =
    (refl, refl)

pub gives-iota : (o : ℤ) (b : Array) → Gives Num (unsigned_abs (first_of b) ∷ []) (iota o b)
gives-iota o b =
    let form0 : Prepared = moved Num (unsigned_abs (first_of b) ∷ []) (λ is. o +ℤ pos (only_index is)) in
    let shape : List ℕ = unsigned_abs (first_of b) ∷ [] in
    let form1 : Prepared = needs (nat_le (unsigned_abs (first_of b)) count_limit) Limit form0 in
    let form2 : Prepared = needs (int_le (pos 0) (first_of b)) Domain form1 in
    let form3 : Prepared = needs (nat_eq (product b.shape) 1) Length form2 in
    let form4 : Prepared = needs (nat_le (rank b) 1) Rank form3 in
    gives-needs Num shape (is_numbers b) Domain form4 (gives-needs Num shape (nat_le (rank b) 1) Rank form3 (gives-needs Num shape (nat_eq (product b.shape) 1) Length form2 (gives-needs Num shape (int_le (pos 0) (first_of b)) Domain form1 (gives-needs Num shape (nat_le (unsigned_abs (first_of b)) count_limit) Limit form0 (refl, refl)))))

pub gives-reversed : (x : Option ℕ) (b : Array) → Gives b.kind b.shape (reversed x b)
gives-reversed x b =
    gives-axis b.kind b.shape x (λ i. moved b.kind b.shape (λ is. at b (from_the_end b.shape i is))) (λ i. (refl, refl))

pub gives-rotated : (x : Option ℕ) (a b : Array) → Gives b.kind b.shape (rotated x a b)
gives-rotated x a b =
    let form0 : Prepared = along_axis x (λ i. moved b.kind b.shape (λ is. at b (turned (first_of a) i b.shape is))) in
    let shape : List ℕ = b.shape in
    let form1 : Prepared = needs (nat_eq (rank a) 0) Rank form0 in
    gives-needs b.kind shape (is_numbers a) Domain form1 (gives-needs b.kind shape (nat_eq (rank a) 0) Rank form0 (gives-axis b.kind shape x (λ i. moved b.kind b.shape (λ is. at b (turned (first_of a) i b.shape is))) (λ i. (refl, refl))))

pub gives-transposed : (b : Array) → Gives b.kind (reverse b.shape) (transposed b)
gives-transposed b =
    (refl, refl)

pub gives-transposed_by : (o : ℤ) (a b : Array) → Gives b.kind (lengths_moved (map (from_origin o) a.cells) b.shape) (transposed_by o a b)
gives-transposed_by o a b =
    let axes = map (from_origin o) a.cells in
    let form0 : Prepared = moved b.kind (lengths_moved axes b.shape) (λ is. at b (map (slice_index is) axes)) in
    let shape : List ℕ = lengths_moved axes b.shape in
    let form1 : Prepared = needs (nat_le (rank a) 1 && nat_eq (length a.cells) (rank b) && none_below o a.cells && all_below_stand (axes_in axes) axes) Rank form0 in
    gives-needs b.kind shape (is_numbers a) Domain form1 (gives-needs b.kind shape (nat_le (rank a) 1 && nat_eq (length a.cells) (rank b) && none_below o a.cells && all_below_stand (axes_in axes) axes) Rank form0 (refl, refl))

pub gives-reshaped : (a b : Array) → Gives b.kind (magnitudes a.cells) (reshaped a b)
gives-reshaped a b =
    let form0 : Prepared = moved b.kind (magnitudes a.cells) (cyclic b (magnitudes a.cells)) in
    let shape : List ℕ = magnitudes a.cells in
    let form1 : Prepared = needs (shape_fits (magnitudes a.cells)) Limit form0 in
    let form2 : Prepared = needs (none_negative a.cells) Domain form1 in
    let form3 : Prepared = needs (nat_le (rank a) 1 && nat_le (length a.cells) rank_limit) Rank form2 in
    gives-needs b.kind shape (is_numbers a) Domain form3 (gives-needs b.kind shape (nat_le (rank a) 1 && nat_le (length a.cells) rank_limit) Rank form2 (gives-needs b.kind shape (none_negative a.cells) Domain form1 (gives-needs b.kind shape (shape_fits (magnitudes a.cells)) Limit form0 (refl, refl))))

pub gives-catenated : (a b : Array) → Gives a.kind (common_front a.shape b.shape ++ (layers a.shape + layers b.shape) ∷ []) (catenated a b)
gives-catenated a b =
    let front = common_front a.shape b.shape in
    let ns = front ++ (layers a.shape + layers b.shape) ∷ [] in
    let axis = length front in
    let n = layers a.shape in
    let form0 : Prepared = moved a.kind ns (λ is. if nat_lt (slice_index is axis) n then at_or_scalar a is else at_or_scalar b (slice_set is axis (slice_index is axis - n))) in
    let shape : List ℕ = ns in
    let form1 : Prepared = needs (shape_fits ns) Limit form0 in
    let form2 : Prepared = needs (nat_eq (rank a) 0 || nat_eq (rank b) 0 || shape_eq (front_of a.shape) (front_of b.shape)) Length form1 in
    let form3 : Prepared = needs (ranks_suit (rank a) (rank b)) Rank form2 in
    gives-needs a.kind shape (kind_eq a.kind b.kind) Domain form3 (gives-needs a.kind shape (ranks_suit (rank a) (rank b)) Rank form2 (gives-needs a.kind shape (nat_eq (rank a) 0 || nat_eq (rank b) 0 || shape_eq (front_of a.shape) (front_of b.shape)) Length form1 (gives-needs a.kind shape (shape_fits ns) Limit form0 (refl, refl))))

-- ---- Selection

pub gives-taken : (a b : Array) → Gives b.kind (magnitudes a.cells) (taken a b)
gives-taken a b =
    let form0 : Prepared = moved b.kind (magnitudes a.cells) (λ is. at_or_fill (as_vector b) (each_taken_from a.cells (as_vector b).shape is)) in
    let shape : List ℕ = magnitudes a.cells in
    let form1 : Prepared = needs (shape_fits (magnitudes a.cells)) Limit form0 in
    let form2 : Prepared = needs (nat_eq (length a.cells) (rank (as_vector b))) Length form1 in
    let form3 : Prepared = needs (ranks_suit_take (rank a) (rank b)) Rank form2 in
    gives-needs b.kind shape (is_numbers a) Domain form3 (gives-needs b.kind shape (ranks_suit_take (rank a) (rank b)) Rank form2 (gives-needs b.kind shape (nat_eq (length a.cells) (rank (as_vector b))) Length form1 (gives-needs b.kind shape (shape_fits (magnitudes a.cells)) Limit form0 (refl, refl))))

pub gives-dropped : (a b : Array) → Gives b.kind (lengths_left a.cells (vector_shape b.shape)) (dropped a b)
gives-dropped a b =
    let form0 : Prepared = moved b.kind (lengths_left a.cells (as_vector b).shape) (λ is. at (as_vector b) (each_dropped_from a.cells is)) in
    let shape : List ℕ = lengths_left a.cells (vector_shape b.shape) in
    let form1 : Prepared = needs (nat_eq (length a.cells) (rank (as_vector b))) Length form0 in
    let form2 : Prepared = needs (ranks_suit_take (rank a) (rank b)) Rank form1 in
    gives-needs b.kind shape (is_numbers a) Domain form2 (gives-needs b.kind shape (ranks_suit_take (rank a) (rank b)) Rank form1 (gives-needs b.kind shape (nat_eq (length a.cells) (rank (as_vector b))) Length form0 (refl, refl)))

gives-replicated_along : (a b : Array) (i : ℕ) → Gives b.kind (slice_set (vector_shape b.shape) i (sum (counts_for a (axis_length a b i)))) (replicated_along a b i)
gives-replicated_along a b i =
    let n = axis_length a b i in
    let ns = slice_set (as_vector b).shape i (sum (counts_for a n)) in
    let form0 : Prepared = moved b.kind ns (λ is. if nat_eq (rank b) 0 then first_of b else at b (slice_set is i (layer_at (counts_for a n) (slice_index is i)))) in
    let shape : List ℕ = ns in
    let form1 : Prepared = needs (shape_fits ns) Limit form0 in
    let form2 : Prepared = needs (none_negative a.cells) Domain form1 in
    gives-needs b.kind shape (nat_eq (rank a) 0 || nat_eq (length a.cells) n) Length form2 (gives-needs b.kind shape (none_negative a.cells) Domain form1 (gives-needs b.kind shape (shape_fits ns) Limit form0 (refl, refl)))

pub gives-replicated : (i : ℕ) (a b : Array) → Gives b.kind (slice_set (vector_shape b.shape) i (sum (counts_for a (axis_length a b i)))) (replicated (Some i) a b)
gives-replicated i a b =
    let form0 : Prepared = replicated_along a b i in
    let shape : List ℕ = slice_set (vector_shape b.shape) i (sum (counts_for a (axis_length a b i))) in
    let form1 : Prepared = needs (nat_le (rank a) 1) Rank form0 in
    gives-needs b.kind shape (is_numbers a) Domain form1 (gives-needs b.kind shape (nat_le (rank a) 1) Rank form0 (gives-replicated_along a b i))

gives-expanded_along : (a b : Array) (i : ℕ) → Gives b.kind (slice_set (vector_shape b.shape) i (length a.cells)) (expanded_along a b i)
gives-expanded_along a b i =
    let ones = magnitudes a.cells in
    let ns = slice_set (as_vector b).shape i (length ones) in
    let form0 : Prepared = moved b.kind ns (λ is. at_layer b i is (layer_or_fill ones (slice_index is i))) in
    let shape : List ℕ = slice_set (vector_shape b.shape) i (length a.cells) in
    let form1 : Prepared = needs (shape_fits ns) Limit form0 in
    let form2 : Prepared = needs (nat_eq (rank b) 0 || nat_eq (sum ones) (slice_index b.shape i)) Length form1 in
    gives-needs b.kind shape (all_bits a.cells) Domain form2 (gives-needs b.kind shape (nat_eq (rank b) 0 || nat_eq (sum ones) (slice_index b.shape i)) Length form1 (gives-needs b.kind shape (shape_fits ns) Limit form0 (refl, ap (λ n. slice_set (vector_shape b.shape) i n) (length-map a.cells unsigned_abs))))

pub gives-expanded : (i : ℕ) (a b : Array) → Gives b.kind (slice_set (vector_shape b.shape) i (length a.cells)) (expanded (Some i) a b)
gives-expanded i a b =
    let form0 : Prepared = expanded_along a b i in
    let shape : List ℕ = slice_set (vector_shape b.shape) i (length a.cells) in
    let form1 : Prepared = needs (nat_le (rank a) 1) Rank form0 in
    gives-needs b.kind shape (is_numbers a) Domain form1 (gives-needs b.kind shape (nat_le (rank a) 1) Rank form0 (gives-expanded_along a b i))

pub gives-index_of : (o : ℤ) (a b : Array) → Gives Num b.shape (index_of o a b)
gives-index_of o a b =
    let form0 : Prepared = moved Num b.shape (λ is. o +ℤ pos (place_among a b.kind (at b is))) in
    let shape : List ℕ = b.shape in
    gives-needs Num shape (nat_eq (rank a) 1) Rank form0 (refl, refl)

pub gives-members : (a b : Array) → Gives Num a.shape (members a b)
gives-members a b =
    (refl, refl)

-- ---- Indexing

pub gives-indexed : (o : ℤ) (b : Array) (xs : List (Option Array)) → Gives b.kind (joined_shape b.shape xs) (indexed o b xs)
gives-indexed o b xs =
    let form0 : Prepared = moved b.kind (joined_shape b.shape xs) (λ is. at b (picked o xs is)) in
    let shape : List ℕ = joined_shape b.shape xs in
    let form1 : Prepared = needs (places_within o b.shape xs) Index form0 in
    let form2 : Prepared = needs (shape_fits (joined_shape b.shape xs)) Limit form1 in
    let form3 : Prepared = needs (entries_suit b.shape xs) Rank form2 in
    gives-needs b.kind shape (all_numbers xs) Domain form3 (gives-needs b.kind shape (entries_suit b.shape xs) Rank form2 (gives-needs b.kind shape (shape_fits (joined_shape b.shape xs)) Limit form1 (gives-needs b.kind shape (places_within o b.shape xs) Index form0 (refl, refl))))

changed-needs : (a : Array) (b : Bool) (e : FaultKind) (r : Result Array FaultKind) → IfOk r (IsShapedAs a) → IfOk (needs b e r) (IsShapedAs a)
changed-needs a true e r h = h
changed-needs a false e r h = tt

pub gives-changed : (o : ℤ) (a v : Array) (xs : List (Option Array)) → IfOk (changed o a xs v) (IsShapedAs a)
gives-changed o a v xs =
    let form0 : Result Array FaultKind = Ok record a { cells = set_all (settings o a xs v) a.cells } in
    let form1 : Result Array FaultKind = needs (places_within o a.shape xs) Index form0 in
    let form2 : Result Array FaultKind = needs (nat_eq (product v.shape) 1 || shape_eq v.shape (joined_shape a.shape xs)) Length form1 in
    let form3 : Result Array FaultKind = needs (entries_suit a.shape xs) Rank form2 in
    changed-needs a (all_numbers xs && kind_eq a.kind v.kind) Domain form3 (changed-needs a (entries_suit a.shape xs) Rank form2 (changed-needs a (nat_eq (product v.shape) 1 || shape_eq v.shape (joined_shape a.shape xs)) Length form1 (changed-needs a (places_within o a.shape xs) Index form0 (refl, refl))))

-- ---- Operators

gives-if : (k : Kind) (ns : List ℕ) (t : Bool) (p q : Prepared) → (t ≡ true → Gives k ns p) → Gives k ns q → Gives k ns (if t then p else q)
gives-if k ns true p q h g = h refl
gives-if k ns false p q h g = g

none-removed : (ns : List ℕ) (i : ℕ) → nat_eq (length ns) 0 ≡ true → [] ≡ remove ns i
none-removed [] zero e = refl
none-removed [] (suc i) e = refl
none-removed (n ∷ ns) i e = absurd (omega (arith, same-number (length (n ∷ ns)) 0 e))

gives-reduced_along : (g : ScalarFn) (b : Array) (i : ℕ) → Gives Num (remove b.shape i) (reduced_along g b i)
gives-reduced_along g b i = gives-needs Num (remove b.shape i) (shape_fits (remove b.shape i)) Limit (delayed Num (remove b.shape i) (λ is. folded g (items_along b i is))) (refl, refl)

pub gives-reduced : (g : ScalarFn) (i : ℕ) (b : Array) → Gives Num (remove b.shape i) (reduced g (Some i) b)
gives-reduced g i b =
    let scalar : Prepared = moved Num [] (λ is. first_of b) in
    let form0 : Prepared = if nat_eq (rank b) 0 then scalar else reduced_along g b i in
    let shape : List ℕ = remove b.shape i in
    gives-needs Num shape (is_numbers b && is_dyadic g) Domain form0 (gives-if Num shape (nat_eq (rank b) 0) scalar (reduced_along g b i) (λ e. (refl, none-removed b.shape i e)) (gives-reduced_along g b i))

pub gives-scanned : (g : ScalarFn) (x : Option ℕ) (b : Array) → Gives Num b.shape (scanned g x b)
gives-scanned g x b =
    let form0 : Prepared = along_axis x (λ i. delayed Num b.shape (λ is. if nat_eq (rank b) 0 then Ok (first_of b) else folded g (take (suc (slice_index is i)) (items_along b i (remove is i))))) in
    let shape : List ℕ = b.shape in
    gives-needs Num shape (is_numbers b && is_dyadic g) Domain form0 (gives-axis Num shape x (λ i. delayed Num b.shape (λ is. if nat_eq (rank b) 0 then Ok (first_of b) else folded g (take (suc (slice_index is i)) (items_along b i (remove is i))))) (λ i. (refl, refl)))

pub gives-outer_product : (g : ScalarFn) (a b : Array) → Gives Num (a.shape ++ b.shape) (outer_product g a b)
gives-outer_product g a b =
    let form0 : Prepared = delayed Num (a.shape ++ b.shape) (λ is. applied g a.kind b.kind (at a (take (rank a) is)) (at b (drop (rank a) is))) in
    let shape : List ℕ = a.shape ++ b.shape in
    let form1 : Prepared = needs (shape_fits (a.shape ++ b.shape)) Limit form0 in
    let form2 : Prepared = needs (nat_le (rank a + rank b) rank_limit) Rank form1 in
    gives-needs Num shape (kinds_suit g a.kind b.kind) Domain form2 (gives-needs Num shape (nat_le (rank a + rank b) rank_limit) Rank form1 (gives-needs Num shape (shape_fits (a.shape ++ b.shape)) Limit form0 (refl, refl)))

pub gives-inner_product : (h g : ScalarFn) (a b : Array) → Gives Num (front_of a.shape ++ drop 1 b.shape) (inner_product h g a b)
gives-inner_product h g a b =
    let ns = front_of a.shape ++ drop 1 b.shape in
    let form0 : Prepared = delayed Num ns (λ is. after_pairs (all_given (joined_pairs g a b ns (product ns))) (folded_all h (all_given (pairs g a b is)))) in
    let shape : List ℕ = ns in
    let form1 : Prepared = needs (shape_fits ns) Limit form0 in
    let form2 : Prepared = needs (nat_eq (rank a) 0 || nat_eq (rank b) 0 || nat_eq (slice_index a.shape (rank a - 1)) (slice_index b.shape 0)) Length form1 in
    let form3 : Prepared = needs (nat_le (length ns) rank_limit) Rank form2 in
    gives-needs Num shape (is_numbers a && is_numbers b && is_dyadic h && is_dyadic g) Domain form3 (gives-needs Num shape (nat_le (length ns) rank_limit) Rank form2 (gives-needs Num shape (nat_eq (rank a) 0 || nat_eq (rank b) 0 || nat_eq (slice_index a.shape (rank a - 1)) (slice_index b.shape 0)) Length form1 (gives-needs Num shape (shape_fits ns) Limit form0 (refl, refl))))
