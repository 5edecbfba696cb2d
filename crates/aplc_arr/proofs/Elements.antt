-- The elements of a delayed array: they are what its formula gives, as many as its shape has room for.
use Rattle.std.proofs.Common.{◌≡◌, ℕ, zero, suc, ◌<◌, List, [], ◌∷◌, ◌++◌, length, refl, sym, ap, ◌∙◌, subst, arith}
use Rattle.std.specs.Prelude.{ℤ, slice_index_or, Result, Ok, Err}
use Rattle.aplc_scalar.specs.declared.kind.Kind.{Kind}
use Rattle.aplc_scalar.specs.declared.kind.FaultKind.{FaultKind}
use Rattle.aplc_scalar.specs.Scalar.{Given}
use Rattle.aplc_arr.specs.Arrays.{product, IsIndexOf, place, index_at, fill, at}
use Rattle.aplc_arr.specs.Delayed.{Delayed, moved, first_n, onto_cells, all_given, cells_of, with_cells, HasFirstFault, array_by, computed}
use Rattle.aplc_arr.proofs.Places.{place-below, index-of_place, length-first_n, at-first_n}

-- ---- Lists of results

abbrev pub IsOk : Given → Type 0
IsOk g = (z : ℤ) × (g ≡ Ok z)

-- the numbers stand at their places; a fault is the first one
abbrev pub GivesAll : List Given → Result (List ℤ) FaultKind → Type 0
GivesAll gs (Ok zs) = (length zs ≡ length gs) × ((p : ℕ) (g : Given) (d : ℤ) → p < length gs → slice_index_or gs p g ≡ Ok (slice_index_or zs p d))
GivesAll gs (Err e) = (p : ℕ) × (p < length gs) × ((g : Given) → slice_index_or gs p g ≡ Err e) × ((q : ℕ) (g : Given) → q < p → IsOk (slice_index_or gs q g))

gives-onto : (z : ℤ) (gs : List Given) (r : Result (List ℤ) FaultKind) → GivesAll gs r → GivesAll (Ok z ∷ gs) (onto_cells z r)
gives-onto z gs (Ok zs) h = (ap suc h.0, each)
  where
    each : (p : ℕ) (g : Given) (d : ℤ) → p < suc (length gs) → slice_index_or (Ok z ∷ gs) p g ≡ Ok (slice_index_or (z ∷ zs) p d)
    each zero g d lt = refl
    each (suc p) g d lt = h.1 p g d (omega (arith, lt))
gives-onto z gs (Err e) h = (suc h.0, omega (arith, h.1), h.2, before)
  where
    before : (q : ℕ) (g : Given) → q < suc h.0 → IsOk (slice_index_or (Ok z ∷ gs) q g)
    before zero g lt = (z, refl)
    before (suc q) g lt = h.3 q g (omega (arith, lt))

pub gives-all : (gs : List Given) → GivesAll gs (all_given gs)
gives-all [] = (refl, λ p g d lt. absurd (omega (arith, lt)))
gives-all (Ok z ∷ gs) = gives-onto z gs (all_given gs) (gives-all gs)
gives-all (Err e ∷ gs) = (0, omega arith, λ g. refl, λ q g lt. absurd (omega (arith, lt)))

-- ---- Cells

abbrev element_list : Delayed → List Given
element_list d = first_n (λ p. d.element (index_at d.shape p)) (product d.shape)

gives-cells : (d : Delayed) (r : Result (List ℤ) FaultKind) → cells_of d ≡ r → GivesAll (element_list d) r
gives-cells d r e = subst (GivesAll (element_list d)) e (gives-all (element_list d))

long : (d : Delayed) → length (element_list d) ≡ product d.shape
long d = length-first_n (λ p. d.element (index_at d.shape p)) (product d.shape)

pub count-cells : (d : Delayed) (zs : List ℤ) → cells_of d ≡ Ok zs → length zs ≡ product d.shape
count-cells d zs e = (gives-cells d (Ok zs) e).0 ∙ long d

-- the cell at a place below the count
pub cell-at : (d : Delayed) (zs : List ℤ) (p : ℕ) (z : ℤ) → cells_of d ≡ Ok zs → p < product d.shape → d.element (index_at d.shape p) ≡ Ok (slice_index_or zs p z)
cell-at d zs p z e lt =
    sym (at-first_n (λ q. d.element (index_at d.shape q)) (product d.shape) p (Ok z) lt)
    ∙ (gives-cells d (Ok zs) e).1 p (Ok z) z (subst (λ n. p < n) (sym (long d)) lt)

-- the element at a multi-index is the formula's
pub element-at : (d : Delayed) (zs : List ℤ) (is : List ℕ) → cells_of d ≡ Ok zs → IsIndexOf d.shape is → d.element is ≡ Ok (at record { kind = d.kind; shape = d.shape; cells = zs } is)
element-at d zs is e h =
    subst (λ js. d.element js ≡ Ok (slice_index_or zs (place d.shape is) (fill d.kind))) (index-of_place d.shape is h)
    (cell-at d zs (place d.shape is) (fill d.kind) e (place-below d.shape is h))

-- a fault is that of the first element, in row-major order, that has one
pub first-fault : (d : Delayed) (e : FaultKind) → cells_of d ≡ Err e → HasFirstFault d e
first-fault d e is =
    let h = gives-cells d (Err e) is in
    let f : ℕ → Given = λ q. d.element (index_at d.shape q) in
    let below : h.0 < product d.shape = subst (λ n. h.0 < n) (long d) h.1 in
    (h.0, below, sym (at-first_n f (product d.shape) h.0 (Err e) below) ∙ h.2 (Err e), λ q lt. subst IsOk (at-first_n f (product d.shape) q (Err e) (omega (arith, lt, below))) (h.3 q (Err e) lt))

-- ---- Arrays by a formula without faults

abbrev with_last : Result (List ℤ) FaultKind → ℤ → Result (List ℤ) FaultKind
with_last (Ok zs) z = Ok (zs ++ z ∷ [])
with_last (Err e) z = Err e

all-push : (gs : List Given) (z : ℤ) → all_given (gs ++ Ok z ∷ []) ≡ with_last (all_given gs) z
all-push [] z = refl
all-push (Ok x ∷ gs) z = ap (onto_cells x) (all-push gs z) ∙ onto-last x (all_given gs) z
  where
    onto-last : (x : ℤ) (r : Result (List ℤ) FaultKind) (z : ℤ) → onto_cells x (with_last r z) ≡ with_last (onto_cells x r) z
    onto-last x (Ok zs) z = refl
    onto-last x (Err e) z = refl
all-push (Err e ∷ gs) z = refl

all-moved : (f : ℕ → ℤ) (n : ℕ) → all_given (first_n (λ p. Ok (f p)) n) ≡ Ok (first_n f n)
all-moved f zero = refl
all-moved f (suc n) = all-push (first_n (λ p. Ok (f p)) n) (f n) ∙ ap (λ r. with_last r (f n)) (all-moved f n)

pub computed-moved : (k : Kind) (ns : List ℕ) (f : List ℕ → ℤ) → computed (moved k ns f) ≡ Ok (array_by k ns f)
computed-moved k ns f = ap (with_cells record { kind = k; shape = ns; element = λ is. Ok (f is) }) (all-moved (λ p. f (index_at ns p)) (product ns))

pub at-array_by : (k : Kind) (ns : List ℕ) (f : List ℕ → ℤ) (is : List ℕ) → IsIndexOf ns is → at (array_by k ns f) is ≡ f is
at-array_by k ns f is h =
    at-first_n (λ p. f (index_at ns p)) (product ns) (place ns is) (fill k) (place-below ns is h) ∙ ap f (index-of_place ns is h)
