-- The functions that rearrange elements give arrays of the language.
use Rattle.std.proofs.Common.{◌≡◌, ℕ, suc, ◌+◌, ◌*◌, ◌^◌, ◌<◌, ◌≤◌, List, [], ◌∷◌, ◌++◌, length, Option, refl, sym, ap, ◌∙◌, subst, arith, length-append, inl, inr}
use Rattle.std.specs.Prelude.{◌-◌, ℤ, pos, ◌+ℤ◌, Ok, slice_set, slice_index, slice_index_or, nat_eq, nat_lt, nat_le, if◌then◌else◌, true, ◌&&◌, ◌||◌, unsigned_abs, int_le, ◌⊎◌}
use mathlib.Core.List.{reverse_aux, reverse}
use Rattle.std.proofs.lemmas.Int.{ints}
use Rattle.std.proofs.lemmas.List.{length-map}
use Rattle.aplc_arr.specs.Arrays.{Array, rank, product, IsIndexOf, fill, at, first_of, at_or_scalar, shape_eq, kind_eq, is_numbers, count_limit, lengths_fit, shape_fits, is_cell, IsArray}
use Rattle.aplc_arr.specs.Delayed.{Prepared, moved, needs, along_axis}
use Rattle.aplc_arr.specs.Each.{ranks_suit}
use Rattle.aplc_arr.specs.Structure.{IsOrigin, only_index, none_negative, magnitudes, shape_of, ravelled, iota, from_the_end, reversed, turned, rotated, transposed, cyclic, reshaped, front_of, layers, common_front, catenated}
use Rattle.aplc_arr.proofs.Basics.{and-parts}
use Rattle.aplc_arr.proofs.Ranges.{range-pos, InRange, cell-if, range-of}
use Rattle.aplc_arr.proofs.Keeping.{keeps-needs, cell-of, fill-cell, small-index, cell-or-scalar, same-kind, few-within, keeps-if, keeps-made, Keeps, most-of, vector-fits, ranked, both-fit, keeps-whole, keeps-axis, parts-fit}
use Rattle.aplc_scalar.specs.declared.kind.FaultKind.TheVariants as fault
use Rattle.aplc_scalar.specs.declared.kind.Kind.TheVariants as k

-- ---- Shape, ravel, index generator

pub keeps-shape : (b : Array) → IsArray b → Keeps (shape_of b)
keeps-shape b h =
    keeps-made k.Num (rank b ∷ []) (λ is. Ok (pos (slice_index b.shape (only_index is)))) (vector-fits (rank b) (few-within (rank b) (ranked h))) refl (λ is l. range-pos _ (small-index b.shape (only_index is) (parts-fit b.shape h.fits).0))

pub keeps-ravel : (b : Array) → IsArray b → Keeps (ravelled b)
keeps-ravel b h = keeps-whole b (product b.shape ∷ []) (λ is. slice_index_or b.cells (only_index is) (fill b.kind)) (vector-fits (product b.shape) (parts-fit b.shape h.fits).1) refl (λ is. cell-of b (only_index is) h)

pub head-below : (n : ℕ) (is : List ℕ) → IsIndexOf (n ∷ []) is → only_index is < n
head-below n [] h = absurd h
head-below n (i ∷ is) h = h.0

pub range-counted : (o : ℤ) (i : ℕ) → IsOrigin o → i ≤ 2147483647 → InRange (o +ℤ pos i)
range-counted o i e l = by_origin e
  where
    zero-plus : (i : ℕ) → i ≤ 2147483647 → unsigned_abs (pos 0 +ℤ pos i) < 2 ^ 63
    zero-plus i l = omega (arith, ints, l)

    one-plus : (i : ℕ) → i ≤ 2147483647 → unsigned_abs (pos 1 +ℤ pos i) < 2 ^ 63
    one-plus i l = omega (arith, ints, l)

    by_origin : (o ≡ pos 0) ⊎ (o ≡ pos 1) → InRange (o +ℤ pos i)
    by_origin (inl e) = subst (λ z. InRange (z +ℤ pos i)) (sym e) (range-of _ (zero-plus i l))
    by_origin (inr e) = subst (λ z. InRange (z +ℤ pos i)) (sym e) (range-of _ (one-plus i l))

pub keeps-iota : (o : ℤ) (b : Array) → IsOrigin o → Keeps (iota o b)
keeps-iota o b small =
    let n = unsigned_abs (first_of b) in
    let form0 = moved k.Num (n ∷ []) (λ is. o +ℤ pos (only_index is)) in
    let form1 = needs (nat_le n count_limit) fault.Limit form0 in
    let form2 = needs (int_le (pos 0) (first_of b)) fault.Domain form1 in
    let form3 = needs (nat_eq (product b.shape) 1) fault.Length form2 in
    keeps-needs (is_numbers b) fault.Domain (needs (nat_le (rank b) 1) fault.Rank form3)
    (keeps-needs (nat_le (rank b) 1) fault.Rank form3
    (keeps-needs (nat_eq (product b.shape) 1) fault.Length form2
    (keeps-needs (int_le (pos 0) (first_of b)) fault.Domain form1
    (keeps-if (nat_le n count_limit) fault.Limit form0 (λ e.
    keeps-made k.Num (n ∷ []) (λ is. Ok (o +ℤ pos (only_index is))) (vector-fits n e) refl (λ is l. range-counted o (only_index is) small (below-most (only_index is) n (head-below n is l) (most-of n e))))))))
  where
    below-most : (i n : ℕ) → i < n → n ≤ 2147483647 → i ≤ 2147483647
    below-most i n l m = omega (arith, l, m)

-- ---- Reversal and rotation

pub keeps-reverse : (x : Option ℕ) (b : Array) → IsArray b → Keeps (reversed x b)
keeps-reverse x b h =
    let form : ℕ → Prepared = λ i. moved b.kind b.shape (λ is. at b (from_the_end b.shape i is)) in
    keeps-axis x form (λ i. keeps-whole b b.shape (λ is. at b (from_the_end b.shape i is)) h.fits (ranked h) (λ is. cell-of b _ h))

pub keeps-rotate : (x : Option ℕ) (v w : Array) → IsArray w → Keeps (rotated x v w)
keeps-rotate x v w h =
    let form : ℕ → Prepared = λ i. moved w.kind w.shape (λ is. at w (turned (first_of v) i w.shape is)) in
    keeps-needs (is_numbers v) fault.Domain (needs (nat_eq (rank v) 0) fault.Rank (along_axis x form))
    (keeps-needs (nat_eq (rank v) 0) fault.Rank (along_axis x form)
    (keeps-axis x form (λ i. keeps-whole w w.shape (λ is. at w (turned (first_of v) i w.shape is)) h.fits (ranked h) (λ is. cell-of w _ h))))

-- ---- The axes reversed

pub lengths-reverse_aux : (xs ys : List ℕ) → lengths_fit xs ≡ true → lengths_fit ys ≡ true → lengths_fit (reverse_aux xs ys) ≡ true
lengths-reverse_aux [] ys p q = q
lengths-reverse_aux (x ∷ xs) ys p q = let a = and-parts (nat_le x count_limit) (lengths_fit xs) p in lengths-reverse_aux xs (x ∷ ys) a.1 (rw (a.0, q) refl)

pub product-reverse_aux : (xs ys : List ℕ) → product (reverse_aux xs ys) ≡ product xs * product ys
product-reverse_aux [] ys = omega arith
product-reverse_aux (x ∷ xs) ys = product-reverse_aux xs (x ∷ ys) ∙ swapped x (product xs) (product ys)
  where
    swapped : (x p q : ℕ) → p * (x * q) ≡ x * p * q
    swapped x p q = omega arith

pub length-reverse_aux : (xs ys : List ℕ) → length (reverse_aux xs ys) ≡ length xs + length ys
length-reverse_aux [] ys = omega arith
length-reverse_aux (x ∷ xs) ys = let e = length-reverse_aux xs (x ∷ ys) in omega (arith, e)

pub keeps-transpose : (b : Array) → IsArray b → Keeps (transposed b)
keeps-transpose b h =
    let p = parts-fit b.shape h.fits in
    let same : product (reverse b.shape) ≡ product b.shape = product-reverse_aux b.shape [] ∙ omega arith in
    let long : length (reverse b.shape) ≡ length b.shape = length-reverse_aux b.shape [] ∙ omega arith in
    keeps-whole b (reverse b.shape) (λ is. at b (reverse is)) (both-fit (reverse b.shape) (lengths-reverse_aux b.shape [] p.0 refl) (subst (λ n. nat_le n count_limit ≡ true) (sym same) p.1)) (subst (λ n. nat_le n 8 ≡ true) (sym long) (ranked h)) (λ is. cell-of b _ h)

-- ---- Reshape

pub keeps-reshape : (v w : Array) → IsArray w → Keeps (reshaped v w)
keeps-reshape v w h =
    let ns = magnitudes v.cells in
    let form0 = moved w.kind ns (cyclic w ns) in
    let form1 = needs (shape_fits ns) fault.Limit form0 in
    let form2 = needs (none_negative v.cells) fault.Domain form1 in
    let ranked = nat_le (rank v) 1 && nat_le (length v.cells) 8 in
    keeps-needs (is_numbers v) fault.Domain (needs ranked fault.Rank form2)
    (keeps-if ranked fault.Rank form2 (λ r.
    keeps-needs (none_negative v.cells) fault.Domain form1
    (keeps-if (shape_fits ns) fault.Limit form0 (λ l.
    keeps-whole w ns (cyclic w ns) l (subst (λ n. nat_le n 8 ≡ true) (sym (length-map v.cells unsigned_abs)) (and-parts (nat_le (rank v) 1) (nat_le (length v.cells) 8) r).1) (λ is. cell-if w.kind (nat_eq (product w.shape) 0) (fill w.kind) _ (fill-cell w.kind) (cell-of w _ h))))))

-- ---- Catenation

length-front : (ns : List ℕ) → length (front_of ns) + 1 ≤ 1 + length ns
length-front [] = omega arith
length-front (n ∷ []) = omega arith
length-front (n ∷ m ∷ ns) = let e = length-front (m ∷ ns) in omega (arith, e)

-- an array that has an axis loses it
length-front-some : (n : ℕ) (ns : List ℕ) → length (front_of (n ∷ ns)) ≡ length ns
length-front-some n [] = refl
length-front-some n (m ∷ ns) = ap suc (length-front-some m ns)

front-few : (ns : List ℕ) (l : ℕ) → nat_le (length ns) 8 ≡ true → nat_le (length (front_of ns ++ l ∷ [])) 8 ≡ true
front-few [] l e = refl
front-few (n ∷ ns) l e = subst (λ i. nat_le i 8 ≡ true) (sym (length-append (front_of (n ∷ ns)) (l ∷ []) ∙ joined (length (front_of (n ∷ ns))) (length ns) (length-front-some n ns))) e
  where
    joined : (f m : ℕ) → f ≡ m → f + 1 ≡ suc m
    joined f m e = omega (arith, e)

joint-few : (ms ns : List ℕ) (l : ℕ) → nat_le (length ms) 8 ≡ true → nat_le (length ns) 8 ≡ true → nat_le (length (common_front ms ns ++ l ∷ [])) 8 ≡ true
joint-few [] ns l p q = front-few ns l q
joint-few (m ∷ ms) ns l p q = front-few (m ∷ ms) l p

pub keeps-catenate : (v w : Array) → IsArray v → IsArray w → Keeps (catenated v w)
keeps-catenate v w hv hw =
    let front = common_front v.shape w.shape in
    let ns = front ++ (layers v.shape + layers w.shape) ∷ [] in
    let axis = length front in
    let n = layers v.shape in
    let h : List ℕ → ℤ = λ is. if nat_lt (slice_index is axis) n then at_or_scalar v is else at_or_scalar w (slice_set is axis (slice_index is axis - n)) in
    let form0 = moved v.kind ns h in
    let form1 = needs (shape_fits ns) fault.Limit form0 in
    let conform = nat_eq (rank v) 0 || nat_eq (rank w) 0 || shape_eq (front_of v.shape) (front_of w.shape) in
    let form2 = needs conform fault.Length form1 in
    keeps-if (kind_eq v.kind w.kind) fault.Domain (needs (ranks_suit (rank v) (rank w)) fault.Rank form2) (λ e.
    keeps-needs (ranks_suit (rank v) (rank w)) fault.Rank form2
    (keeps-needs conform fault.Length form1
    (keeps-if (shape_fits ns) fault.Limit form0 (λ l.
    keeps-whole v ns h l (joint-few v.shape w.shape _ (ranked hv) (ranked hw)) (λ is. cell-if v.kind (nat_lt (slice_index is axis) n) _ _ (cell-or-scalar v is hv) (subst (λ kind. is_cell kind (at_or_scalar w (slice_set is axis (slice_index is axis - n))) ≡ true) (same-kind v.kind w.kind e) (cell-or-scalar w _ hw)))))))
