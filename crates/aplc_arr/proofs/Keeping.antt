-- What a primitive needs to give an array of the language: a shape that fits, and cells of the kind.
use Rattle.std.proofs.Common.{◌≡◌, ℕ, zero, suc, ◌*◌, ◌^◌, ◌<◌, ◌≤◌, List, [], ◌∷◌, length, Option, Some, None, refl, ap, ◌∙◌, subst, arith}
use Rattle.std.specs.Prelude.{ℤ, Result, Ok, Err, IfOk, slice_index, slice_index_or, nat_eq, nat_le, Bool, true, false}
use Rattle.std.proofs.lemmas.Bool.Decides.{nat_tests}
use Rattle.std.proofs.lemmas.List.Elements.{All-from_recursion, recursion_from_All}
use Rattle.aplc_scalar.specs.Scalar.{Given, in_range}
use Rattle.aplc_scalar.specs.declared.kind.FaultKind.{FaultKind}
use Rattle.aplc_scalar.specs.declared.kind.Kind.{Kind}
use Rattle.aplc_arr.specs.Arrays.{Array, rank, product, IsIndexOf, index_at, fill, at, first_of, vector_shape, as_vector, at_or_scalar, kind_eq, is_numbers, count_limit, lengths_fit, shape_fits, is_cell, IsArray}
use Rattle.aplc_arr.specs.Delayed.{Prepared, delayed, moved, needs, along_axis, first_n, onto_cells, all_given, with_cells, computed}
use Rattle.aplc_arr.proofs.Places.{index-within, length-first_n}
use Rattle.std.specs.List.{AllByRecursion}
use Rattle.aplc_arr.proofs.Basics.{no, every-below, and-parts}
use Rattle.aplc_arr.proofs.Ranges.{IsGiven, InRange, cell-if}
use Rattle.aplc_scalar.specs.declared.kind.Kind.TheVariants as k

-- what is left to prove of a primitive: its array is one of the language
abbrev pub Keeps : Prepared → Type 0
Keeps p = IfOk (computed p) IsArray

-- the bound on the rank as a test
pub ranked : {a : Array} → IsArray a → nat_le (length a.shape) 8 ≡ true
ranked {a} h = few (length a.shape) h.ranked
  where
    few : (n : ℕ) → n ≤ 8 → nat_le n 8 ≡ true
    few n l = grind (arith, nat_tests)

-- ---- Cells

pub fill-cell : (kind : Kind) → is_cell kind (fill kind) ≡ true
unfolding in_range
fill-cell k.Num = refl
fill-cell k.Char = refl

pub index-cell : (kind : Kind) (zs : List ℤ) (p : ℕ) (d : ℤ) → AllByRecursion (λ z. is_cell kind z ≡ true) zs → is_cell kind d ≡ true → is_cell kind (slice_index_or zs p d) ≡ true
index-cell kind [] p d h q = q
index-cell kind (z ∷ zs) zero d h q = h.0
index-cell kind (z ∷ zs) (suc p) d h q = index-cell kind zs p d h.1 q

pub cell-of : (b : Array) (p : ℕ) → IsArray b → is_cell b.kind (slice_index_or b.cells p (fill b.kind)) ≡ true
cell-of b p h = index-cell b.kind b.cells p (fill b.kind) (recursion_from_All (λ z. is_cell b.kind z ≡ true) b.cells h.cells) (fill-cell b.kind)

pub numbers-kind : (b : Array) → is_numbers b ≡ true → b.kind ≡ k.Num
numbers-kind b e = by_kind b.kind e
  where
    by_kind : (kind : Kind) → kind_eq kind k.Num ≡ true → kind ≡ k.Num
    by_kind k.Num e = refl
    by_kind k.Char e = absurd (no e)

-- a cell of an array of numbers
pub range-cell : (b : Array) (p : ℕ) → is_numbers b ≡ true → IsArray b → InRange (slice_index_or b.cells p (fill b.kind))
range-cell b p e h = subst (λ kind. is_cell kind (slice_index_or b.cells p (fill b.kind)) ≡ true) (numbers-kind b e) (cell-of b p h)

pub same-kind : (a b : Kind) → kind_eq a b ≡ true → b ≡ a
same-kind k.Num k.Num e = refl
same-kind k.Num k.Char e = absurd (no e)
same-kind k.Char k.Num e = absurd (no e)
same-kind k.Char k.Char e = refl

-- ---- Shapes

pub parts-fit : (ns : List ℕ) → shape_fits ns ≡ true → (lengths_fit ns ≡ true) × (nat_le (product ns) count_limit ≡ true)
parts-fit ns e = and-parts (lengths_fit ns) (nat_le (product ns) count_limit) e

pub both-fit : (ns : List ℕ) → lengths_fit ns ≡ true → nat_le (product ns) count_limit ≡ true → shape_fits ns ≡ true
both-fit ns e f = rw (e, f) refl

pub vector-fits : (n : ℕ) → nat_le n count_limit ≡ true → shape_fits (n ∷ []) ≡ true
vector-fits n e = let one : n * 1 ≡ n = omega arith in rw (one, e) refl

pub small-index : (ns : List ℕ) (i : ℕ) → lengths_fit ns ≡ true → slice_index ns i < 2 ^ 63
small-index [] i e = omega arith
small-index (n ∷ ns) zero e = small n (and-parts (nat_le n count_limit) (lengths_fit ns) e).0
  where
    small : (n : ℕ) → nat_le n count_limit ≡ true → n < 2 ^ 63
    small n e = grind (arith, nat_tests)
small-index (n ∷ ns) (suc i) e = small-index ns i (and-parts (nat_le n count_limit) (lengths_fit ns) e).1

pub few-within : (n : ℕ) → nat_le n 8 ≡ true → nat_le n count_limit ≡ true
few-within n e = grind (arith, nat_tests)

pub most-of : (n : ℕ) → nat_le n count_limit ≡ true → n ≤ 2147483647
most-of n e = grind (arith, nat_tests)

-- ---- Arrays by a formula

abbrev pub GivenAll : Kind → ℕ → Result (List ℤ) FaultKind → Type 0
GivenAll kind n (Ok zs) = AllByRecursion (λ z. is_cell kind z ≡ true) zs × (length zs ≡ n)
GivenAll kind n (Err e) = Unit {0}

pub given-onto : (kind : Kind) (z : ℤ) (n : ℕ) (q : Result (List ℤ) FaultKind) → is_cell kind z ≡ true → GivenAll kind n q → GivenAll kind (suc n) (onto_cells z q)
given-onto kind z n (Ok zs) p h = ((p, h.0), ap suc h.1)
given-onto kind z n (Err e) p h = tt

pub given-all : (kind : Kind) (gs : List Given) → AllByRecursion (IsGiven kind) gs → GivenAll kind (length gs) (all_given gs)
given-all kind [] h = (tt, refl)
given-all kind (Ok z ∷ gs) h = given-onto kind z (length gs) (all_given gs) h.0 (given-all kind gs h.1)
given-all kind (Err e ∷ gs) h = tt

pub keeps-cells : (kind : Kind) (ns : List ℕ) (el : List ℕ → Given) (q : Result (List ℤ) FaultKind) → shape_fits ns ≡ true → nat_le (length ns) 8 ≡ true → GivenAll kind (product ns) q → IfOk (with_cells record { kind = kind; shape = ns; element = el } q) IsArray
keeps-cells kind ns el (Ok zs) e r h = record { whole = h.1; fits = e; ranked = few (length ns) r; cells = All-from_recursion (λ z. is_cell kind z ≡ true) zs h.0 }
  where
    few : (n : ℕ) → nat_le n 8 ≡ true → n ≤ 8
    few n e = grind (arith, nat_tests)
keeps-cells kind ns el (Err f) e r h = tt

pub keeps-made : (kind : Kind) (ns : List ℕ) (el : List ℕ → Given) → shape_fits ns ≡ true → nat_le (length ns) 8 ≡ true → ((is : List ℕ) → IsIndexOf ns is → IsGiven kind (el is)) → Keeps (delayed kind ns el)
keeps-made kind ns el e r h =
    let elements : ℕ → Given = λ q. el (index_at ns q) in
    keeps-cells kind ns el (all_given (first_n elements (product ns))) e r
    (subst (λ n. GivenAll kind n (all_given (first_n elements (product ns)))) (length-first_n elements (product ns))
    (given-all kind (first_n elements (product ns)) (every-below (IsGiven kind) elements (product ns) (λ q l. h (index_at ns q) (index-within ns q l)))))

pub keeps-whole : (b : Array) (ns : List ℕ) (h : List ℕ → ℤ) → shape_fits ns ≡ true → nat_le (length ns) 8 ≡ true → ((is : List ℕ) → is_cell b.kind (h is) ≡ true) → Keeps (moved b.kind ns h)
keeps-whole b ns h e r q = keeps-made b.kind ns (λ is. Ok (h is)) e r (λ is l. q is)

-- ---- Conditions

pub keeps-needs : (b : Bool) (e : FaultKind) (x : Prepared) → Keeps x → Keeps (needs b e x)
keeps-needs true e x h = h
keeps-needs false e x h = tt

pub keeps-if : (b : Bool) (e : FaultKind) (x : Prepared) → (b ≡ true → Keeps x) → Keeps (needs b e x)
keeps-if true e x h = h refl
keeps-if false e x h = tt

pub keeps-axis : (o : Option ℕ) (form : ℕ → Prepared) → ((i : ℕ) → Keeps (form i)) → Keeps (along_axis o form)
keeps-axis None form h = tt
keeps-axis (Some i) form h = h i

-- ---- Scalars among vectors

pub vector-few : (ns : List ℕ) → nat_le (length ns) 8 ≡ true → nat_le (length (vector_shape ns)) 8 ≡ true
vector-few [] e = refl
vector-few (n ∷ ns) e = e

pub vector-array : (w : Array) → IsArray w → IsArray (as_vector w)
vector-array w h = record { whole = h.whole ∙ same-product w.shape; fits = same-fit w.shape h.fits; ranked = vector-rank w.shape h.ranked; cells = h.cells }
  where
    same-product : (ns : List ℕ) → product ns ≡ product (vector_shape ns)
    same-product [] = refl
    same-product (n ∷ ns) = refl

    same-fit : (ns : List ℕ) → shape_fits ns ≡ true → shape_fits (vector_shape ns) ≡ true
    same-fit [] e = refl
    same-fit (n ∷ ns) e = e

    vector-rank : (ns : List ℕ) → length ns ≤ 8 → length (vector_shape ns) ≤ 8
    vector-rank [] l = omega arith
    vector-rank (n ∷ ns) l = l

pub cell-or-scalar : (v : Array) (is : List ℕ) → IsArray v → is_cell v.kind (at_or_scalar v is) ≡ true
cell-or-scalar v is h = cell-if v.kind (nat_eq (rank v) 0) (first_of v) (at v is) (cell-of v 0 h) (cell-of v _ h)
