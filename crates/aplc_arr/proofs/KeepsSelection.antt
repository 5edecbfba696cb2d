-- The functions that choose among elements give arrays of the language.
use Rattle.std.proofs.Common.{◌≡◌, ℕ, suc, ◌+◌, ◌*◌, ◌≤◌, List, [], ◌∷◌, length, Option, Some, None, refl, sym, ap, subst, arith}
use Rattle.std.specs.Prelude.{◌-◌, ℤ, pos, ◌+ℤ◌, Ok, sum, slice_set, slice_index, nat_eq, nat_lt, nat_le, if◌then◌else◌, Bool, true, false, ◌||◌, unsigned_abs, pred}
use Rattle.std.proofs.lemmas.Bool.Decides.{nat_tests}
use Rattle.std.proofs.lemmas.List.{length-map}
use Rattle.aplc_scalar.specs.Scalar.{in_range, int_eq}
use Rattle.aplc_scalar.specs.declared.kind.Kind.{Kind}
use Rattle.aplc_arr.specs.Arrays.{Array, rank, product, at, first_of, vector_shape, as_vector, kind_eq, is_numbers, count_limit, lengths_fit, shape_fits, is_cell, IsArray}
use Rattle.aplc_arr.specs.Delayed.{moved, needs, along_axis}
use Rattle.aplc_arr.specs.Selection.{ranks_suit_take, each_taken_from, at_or_fill, taken, lengths_left, each_dropped_from, dropped, axis_length, counts_for, layer_at, replicated_along, replicated, all_bits, layer_or_fill, at_layer, expanded_along, expanded, first_place, place_among, index_of, members}
use Rattle.aplc_arr.specs.Structure.{IsOrigin, none_negative, magnitudes}
use Rattle.aplc_arr.proofs.Basics.{length-set, same-number, and-parts}
use Rattle.aplc_arr.proofs.Ranges.{InRange, cell-if}
use Rattle.aplc_arr.proofs.Keeping.{keeps-needs, cell-of, fill-cell, vector-few, keeps-if, keeps-made, Keeps, most-of, vector-array, ranked, both-fit, keeps-whole, keeps-axis, parts-fit}
use Rattle.aplc_arr.proofs.KeepsStructure.{range-counted}
use Rattle.aplc_scalar.specs.declared.kind.FaultKind.TheVariants as fault
use Rattle.aplc_scalar.specs.declared.kind.Kind.TheVariants as k

-- ---- Take and drop

pub cell-at_or_fill : (w : Array) (o : Option (List ℕ)) → IsArray w → is_cell w.kind (at_or_fill w o) ≡ true
cell-at_or_fill w None h = fill-cell w.kind
cell-at_or_fill w (Some is) h = cell-of w _ h

pub same-few : (m n : ℕ) → nat_eq m n ≡ true → nat_le n 8 ≡ true → nat_le m 8 ≡ true
same-few m n e f = subst (λ i. nat_le i 8 ≡ true) (sym (same-number m n e)) f

pub keeps-take : (v w : Array) → IsArray w → Keeps (taken v w)
keeps-take v w h =
    let b1 = as_vector w in
    let ns = magnitudes v.cells in
    let el : List ℕ → ℤ = λ is. at_or_fill b1 (each_taken_from v.cells b1.shape is) in
    let form0 = moved w.kind ns el in
    let form1 = needs (shape_fits ns) fault.Limit form0 in
    let form2 = needs (nat_eq (length v.cells) (length b1.shape)) fault.Length form1 in
    keeps-needs (is_numbers v) fault.Domain (needs (ranks_suit_take (rank v) (rank w)) fault.Rank form2)
    (keeps-needs (ranks_suit_take (rank v) (rank w)) fault.Rank form2
    (keeps-if (nat_eq (length v.cells) (length b1.shape)) fault.Length form1 (λ e.
    keeps-if (shape_fits ns) fault.Limit form0 (λ l.
    keeps-whole w ns el l (subst (λ n. nat_le n 8 ≡ true) (sym (length-map v.cells unsigned_abs)) (same-few (length v.cells) (length b1.shape) e (vector-few w.shape (ranked h)))) (λ is. cell-at_or_fill b1 (each_taken_from v.cells b1.shape is) (vector-array w h))))))

pub lengths-left : (cs : List ℤ) (ns : List ℕ) → lengths_fit ns ≡ true → lengths_fit (lengths_left cs ns) ≡ true
lengths-left [] ns e = refl
lengths-left (c ∷ cs) [] e = refl
lengths-left (c ∷ cs) (n ∷ ns) e = let p = and-parts (nat_le n count_limit) (lengths_fit ns) e in rw (less n (unsigned_abs c) p.0, lengths-left cs ns p.1) refl
  where
    less : (n m : ℕ) → nat_le n count_limit ≡ true → nat_le (n - m) count_limit ≡ true
    less n m e = grind (arith, nat_tests)

pub product-left : (cs : List ℤ) (ns : List ℕ) → length cs ≡ length ns → product (lengths_left cs ns) ≤ product ns
product-left [] [] e = omega arith
product-left [] (n ∷ ns) e = absurd (omega (arith, e))
product-left (c ∷ cs) [] e = absurd (omega (arith, e))
product-left (c ∷ cs) (n ∷ ns) e = times-less n (unsigned_abs c) (product (lengths_left cs ns)) (product ns) (product-left cs ns (ap pred e))
  where
    times-less : (n m p q : ℕ) → p ≤ q → (n - m) * p ≤ n * q
    times-less n m p q h = grind (arith, h)

pub length-left-few : (cs : List ℤ) (ns : List ℕ) → length cs ≡ length ns → length (lengths_left cs ns) ≡ length ns
length-left-few [] [] e = refl
length-left-few [] (n ∷ ns) e = absurd (omega (arith, e))
length-left-few (c ∷ cs) [] e = absurd (omega (arith, e))
length-left-few (c ∷ cs) (n ∷ ns) e = ap suc (length-left-few cs ns (ap pred e))

pub keeps-drop : (v w : Array) → IsArray w → Keeps (dropped v w)
keeps-drop v w h =
    let b1 = as_vector w in
    let hb = vector-array w h in
    let ns = lengths_left v.cells b1.shape in
    let el : List ℕ → ℤ = λ is. at b1 (each_dropped_from v.cells is) in
    let form0 = moved w.kind ns el in
    let form2 = needs (nat_eq (length v.cells) (length b1.shape)) fault.Length form0 in
    let p = parts-fit b1.shape hb.fits in
    keeps-needs (is_numbers v) fault.Domain (needs (ranks_suit_take (rank v) (rank w)) fault.Rank form2)
    (keeps-needs (ranks_suit_take (rank v) (rank w)) fault.Rank form2
    (keeps-if (nat_eq (length v.cells) (length b1.shape)) fault.Length form0 (λ e.
    let same = same-number (length v.cells) (length b1.shape) e in
    keeps-whole w ns el (both-fit ns (lengths-left v.cells b1.shape p.0) (less-most (product ns) (product b1.shape) (product-left v.cells b1.shape same) p.1)) (subst (λ n. nat_le n 8 ≡ true) (sym (length-left-few v.cells b1.shape same)) (ranked hb)) (λ is. cell-of b1 _ hb))))
  where
    less-most : (m n : ℕ) → m ≤ n → nat_le n count_limit ≡ true → nat_le m count_limit ≡ true
    less-most m n l e = grind (arith, nat_tests)

-- ---- Replicate and expand

pub set-few : (ns : List ℕ) (i n : ℕ) → nat_le (length ns) 8 ≡ true → nat_le (length (slice_set (vector_shape ns) i n)) 8 ≡ true
set-few ns i n e = subst (λ m. nat_le m 8 ≡ true) (sym (length-set (vector_shape ns) i n)) (vector-few ns e)

pub keeps-replicate : (x : Option ℕ) (v w : Array) → IsArray w → Keeps (replicated x v w)
keeps-replicate x v w h =
    keeps-needs (is_numbers v) fault.Domain (needs (nat_le (rank v) 1) fault.Rank (along_axis x (replicated_along v w)))
    (keeps-needs (nat_le (rank v) 1) fault.Rank (along_axis x (replicated_along v w))
    (keeps-axis x (replicated_along v w) (λ i.
    let n = axis_length v w i in
    let ns = slice_set (vector_shape w.shape) i (sum (counts_for v n)) in
    let el : List ℕ → ℤ = λ is. if nat_eq (rank w) 0 then first_of w else at w (slice_set is i (layer_at (counts_for v n) (slice_index is i))) in
    let form0 = moved w.kind ns el in
    let form1 = needs (shape_fits ns) fault.Limit form0 in
    let form2 = needs (none_negative v.cells) fault.Domain form1 in
    keeps-needs (nat_eq (rank v) 0 || nat_eq (length v.cells) n) fault.Length form2
    (keeps-needs (none_negative v.cells) fault.Domain form1
    (keeps-if (shape_fits ns) fault.Limit form0 (λ l. keeps-whole w ns el l (set-few w.shape i _ (ranked h)) (λ is. cell-if w.kind (nat_eq (rank w) 0) (first_of w) _ (cell-of w 0 h) (cell-of w _ h))))))))

pub cell-layer_of : (w : Array) (i : ℕ) (is : List ℕ) (o : Option ℕ) → IsArray w → is_cell w.kind (at_layer w i is o) ≡ true
cell-layer_of w i is None h = fill-cell w.kind
cell-layer_of w i is (Some l) h = cell-if w.kind (nat_eq (rank w) 0) (first_of w) (at w (slice_set is i l)) (cell-of w 0 h) (cell-of w _ h)

pub keeps-expand : (x : Option ℕ) (v w : Array) → IsArray w → Keeps (expanded x v w)
keeps-expand x v w h =
    keeps-needs (is_numbers v) fault.Domain (needs (nat_le (rank v) 1) fault.Rank (along_axis x (expanded_along v w)))
    (keeps-needs (nat_le (rank v) 1) fault.Rank (along_axis x (expanded_along v w))
    (keeps-axis x (expanded_along v w) (λ i.
    let ones = magnitudes v.cells in
    let ns = slice_set (vector_shape w.shape) i (length ones) in
    let el : List ℕ → ℤ = λ is. at_layer w i is (layer_or_fill ones (slice_index is i)) in
    let form0 = moved w.kind ns el in
    let form1 = needs (shape_fits ns) fault.Limit form0 in
    let form2 = needs (nat_eq (rank w) 0 || nat_eq (sum ones) (slice_index w.shape i)) fault.Length form1 in
    keeps-needs (all_bits v.cells) fault.Domain form2
    (keeps-needs (nat_eq (rank w) 0 || nat_eq (sum ones) (slice_index w.shape i)) fault.Length form1
    (keeps-if (shape_fits ns) fault.Limit form0 (λ l. keeps-whole w ns el l (set-few w.shape i _ (ranked h)) (λ is. cell-layer_of w i is (layer_or_fill ones (slice_index is i)) h)))))))

-- ---- Index-of and membership

first-within : (z : ℤ) (ys : List ℤ) → first_place z ys ≤ length ys
first-within z [] = omega arith
first-within z (y ∷ ys) = by_test (int_eq z y) (first-within z ys)
  where
    by_test : (b : Bool) → first_place z ys ≤ length ys → (if b then 0 else first_place z ys + 1) ≤ suc (length ys)
    by_test true e = omega arith
    by_test false e = omega (arith, e)

among-within : (a : Array) (kind : Kind) (z : ℤ) → IsArray a → place_among a kind z ≤ 2147483647
among-within a kind z h = by_test (kind_eq a.kind kind)
  where
    few : length a.cells ≤ 2147483647
    few = subst (λ n. n ≤ 2147483647) (sym h.whole) (most-of (product a.shape) (parts-fit a.shape h.fits).1)

    less : (m n : ℕ) → m ≤ n → n ≤ 2147483647 → m ≤ 2147483647
    less m n p q = omega (arith, p, q)

    by_test : (b : Bool) → (if b then first_place z a.cells else length a.cells) ≤ 2147483647
    by_test true = less (first_place z a.cells) (length a.cells) (first-within z a.cells) few
    by_test false = few

pub keeps-index_of : (o : ℤ) (v w : Array) → IsOrigin o → IsArray v → IsArray w → Keeps (index_of o v w)
keeps-index_of o v w small hv hw =
    let h : List ℕ → ℤ = λ is. o +ℤ pos (place_among v w.kind (at w is)) in
    keeps-needs (nat_eq (rank v) 1) fault.Rank (moved k.Num w.shape h) (keeps-made k.Num w.shape (λ is. Ok (h is)) hw.fits (ranked hw) (λ is l. range-counted o _ small (among-within v w.kind (at w is) hv)))

range-flag : (b : Bool) → InRange (pos (if b then 1 else 0))
unfolding in_range
range-flag true = refl
range-flag false = refl

pub keeps-member : (v w : Array) → IsArray v → Keeps (members v w)
keeps-member v w hv = keeps-made k.Num v.shape (λ is. Ok (pos (if nat_lt (place_among w v.kind (at v is)) (length w.cells) then 1 else 0))) hv.fits (ranked hv) (λ is l. range-flag _)
