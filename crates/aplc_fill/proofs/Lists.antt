-- Lists of elements, and cells that are written.
use Rattle.std.proofs.Common.{◌≡◌, ℕ, zero, suc, ◌+◌, ◌*◌, ◌<◌, List, [], ◌∷◌, ◌++◌, length, length-append, refl, sym, ap, ◌∙◌, subst, arith, ℤ}
use Rattle.std.specs.Prelude.{Option, Some, Result, Ok, Err, slice_get, slice_set, sum_by}
use Rattle.std.proofs.Math.Seq.{sets}
use Rattle.aplc_scalar.specs.declared.kind.FaultKind.{FaultKind}
use Rattle.aplc_scalar.specs.Scalar.{Given}
use Rattle.aplc_arr.specs.Arrays.{product}
use Rattle.aplc_arr.specs.Delayed.{onto_cells, all_given}
use Rattle.aplc_cprof.specs.Machine.{cells_of}
use Rattle.aplc_cprof.proofs.Stores.{held_set}
use Rattle.aplc_fill.specs.Nests.{joined, row_major}

abbrev Values : Type 0
Values = Result (List ℤ) FaultKind

-- ---- Elements up to the first fault

abbrev after : Values → Values → Values
after (Err k) r = Err k
after (Ok xs) (Err k) = Err k
after (Ok xs) (Ok ys) = Ok (xs ++ ys)

after_more : (x : ℤ) (a b : Values) → onto_cells x (after a b) ≡ after (onto_cells x a) b
after_more x (Err k) b = refl
after_more x (Ok xs) (Err k) = refl
after_more x (Ok xs) (Ok ys) = refl

after_none : (b : Values) → b ≡ after (Ok []) b
after_none (Err k) = refl
after_none (Ok ys) = refl

values-append : (xs ys : List Given) → all_given (xs ++ ys) ≡ after (all_given xs) (all_given ys)
values-append [] ys = after_none (all_given ys)
values-append (Err k ∷ xs) ys = refl
values-append (Ok x ∷ xs) ys = ap (onto_cells x) (values-append xs ys) ∙ after_more x (all_given xs) (all_given ys)

-- numbers, and then numbers
pub values_joined : (xs ys : List Given) (us vs : List ℤ) → all_given xs ≡ Ok us → all_given ys ≡ Ok vs → all_given (xs ++ ys) ≡ Ok (us ++ vs)
values_joined xs ys us vs h k = values-append xs ys ∙ ap (λ r. after r (all_given ys)) h ∙ ap (after (Ok us)) k

-- numbers, and then a fault
pub fault_behind : (xs ys : List Given) (us : List ℤ) (k : FaultKind) → all_given xs ≡ Ok us → all_given ys ≡ Err k → all_given (xs ++ ys) ≡ Err k
fault_behind xs ys us k h e = values-append xs ys ∙ ap (λ r. after r (all_given ys)) h ∙ ap (after (Ok us)) e

-- a fault is not changed by what comes behind it
pub fault_before : (xs ys : List Given) (k : FaultKind) → all_given xs ≡ Err k → all_given (xs ++ ys) ≡ Err k
fault_before xs ys k h = values-append xs ys ∙ ap (λ r. after r (all_given ys)) h

-- a fault among the first is one of all
pub fault_of_all : (f : ℕ → List Given) (i m n : ℕ) (k : FaultKind) → i + m ≡ n → all_given (joined f i) ≡ Err k → all_given (joined f n) ≡ Err k
fault_of_all f i zero n k e h = let j : i ≡ n = omega (arith, e) in subst (λ j. all_given (joined f j) ≡ Err k) j h
fault_of_all f i (suc m) n k e h = fault_of_all f (suc i) m n k (omega (arith, e)) (fault_before (joined f i) (f i) k h)

abbrev AsMany : Values → ℕ → Type 0
AsMany (Err k) n = Unit {0}
AsMany (Ok xs) n = length xs ≡ n

as_many_more : (x : ℤ) (r : Values) (n : ℕ) → AsMany r n → AsMany (onto_cells x r) (suc n)
as_many_more x (Err k) n h = tt
as_many_more x (Ok xs) n h = ap suc h

as_many : (xs : List Given) → AsMany (all_given xs) (length xs)
as_many [] = refl
as_many (Err k ∷ xs) = tt
as_many (Ok x ∷ xs) = as_many_more x (all_given xs) (length xs) (as_many xs)

-- there are as many numbers as elements
pub length-values : (xs : List Given) (us : List ℤ) → all_given xs ≡ Ok us → length us ≡ length xs
length-values xs us h = subst (λ r. AsMany r (length xs)) h (as_many xs)

-- ---- How many elements there are

pub length-joined : {A : Type 0} (f : ℕ → List A) (m n : ℕ) → ((i : ℕ) → length (f i) ≡ m) → length (joined f n) ≡ n * m
length-joined f m zero h = omega arith
length-joined f m (suc n) h = length-append (joined f n) (f n) ∙ omega (arith, h n, length-joined f m n h)

pub length-row_major : {A : Type 0} (ns : List ℕ) (item : List ℕ → A) → length (row_major ns item) ≡ product ns
length-row_major [] item = refl
length-row_major (n ∷ ns) item = length-joined (λ i. row_major ns (λ is. item (i ∷ is))) (product ns) n (λ i. length-row_major ns (λ is. item (i ∷ is)))

-- ---- Cells

-- values written, and then more values behind them
pub sets-append : (cells us vs : List ℤ) (p : ℕ) → sets cells p (us ++ vs) ≡ sets (sets cells p us) (p + length us) vs
sets-append cells [] vs p = let e : p ≡ p + 0 = omega arith in ap (λ q. sets cells q vs) e
sets-append cells (u ∷ us) vs p =
    let e : suc p + length us ≡ p + suc (length us) = omega arith in
    sets-append (slice_set cells p u) us vs (suc p) ∙ ap (λ q. sets (sets (slice_set cells p u) (suc p) us) q vs) e

-- a buffer that holds other cells, as many, adds none to those that are held
pub held_same : (heap : List (Option (List ℤ))) (b : ℕ) (old new : List ℤ) → slice_get heap b ≡ Some (Some old) → length new ≡ length old → sum_by cells_of (slice_set heap b (Some new)) ≡ sum_by cells_of heap
held_same heap b old new h many =
    let e : sum_by cells_of (slice_set heap b (Some new)) + length old ≡ sum_by cells_of heap + length new = held_set heap b (Some old) (Some new) h in
    omega (arith, e, many)
