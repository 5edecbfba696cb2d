-- A write to a list of variables is a write to the function that the list stands for, and what cells are held.
use Rattle.std.proofs.Common.{◌≡◌, ◌∙◌, ap, refl, ℕ, zero, suc, ◌+◌, ◌<◌, List, [], ◌∷◌, ◌++◌, length, arith, ℤ, pos, nat_eq, false, cond}
use Rattle.std.specs.Prelude.{Option, Some, None, slice_get, slice_set, replicate, sum_by}
use Rattle.std.proofs.Math.Path.{fun_ext}
use Rattle.std.proofs.lemmas.List.Sums.{sum_by-cons, sum_by_push}
use Rattle.aplc_cprof.specs.Machine.{put, cells_of}
use Rattle.aplc_crun.specs.Seen.{joined, or_zero}
use Rattle.aplc_crun.specs.Flat.{none_of}

get_set : {A : Type 0} → (ls : List (Option A)) (n k : ℕ) (v : Option A) → n < length ls → joined (slice_get (slice_set ls n v) k) ≡ put (λ i. joined (slice_get ls i)) n v k
get_set [] n k v h = absurd (omega arith)
get_set (x ∷ ls) zero zero v h = refl
get_set (x ∷ ls) zero (suc k) v h = let e : false ≡ nat_eq (suc k) 0 = grind arith in ap (λ b. cond b v (joined (slice_get ls k))) e
get_set (x ∷ ls) (suc n) zero v h = let e : false ≡ nat_eq 0 (suc n) = grind arith in ap (λ b. cond b v (joined (Some x))) e
get_set (x ∷ ls) (suc n) (suc k) v h =
    get_set ls n k v (omega arith) ∙ ap (λ b. cond b v (joined (slice_get ls k))) same
  where
    same : nat_eq k n ≡ nat_eq (suc k) (suc n)
    same = grind arith

-- a variable of a frame is set
pub frame_set : {A : Type 0} → (ls : List (Option A)) (n : ℕ) (v : Option A) → n < length ls → (λ k. joined (slice_get (slice_set ls n v) k)) ≡ put (λ i. joined (slice_get ls i)) n v
frame_set ls n v h = fun_ext (λ k. get_set ls n k v h)

get_set_global : (ls : List ℤ) (n k : ℕ) (v : ℤ) → n < length ls → or_zero (slice_get (slice_set ls n v) k) ≡ put (λ i. or_zero (slice_get ls i)) n v k
get_set_global [] n k v h = absurd (omega arith)
get_set_global (x ∷ ls) zero zero v h = refl
get_set_global (x ∷ ls) zero (suc k) v h = let e : false ≡ nat_eq (suc k) 0 = grind arith in ap (λ b. cond b v (or_zero (slice_get ls k))) e
get_set_global (x ∷ ls) (suc n) zero v h = let e : false ≡ nat_eq 0 (suc n) = grind arith in ap (λ b. cond b v (or_zero (Some x))) e
get_set_global (x ∷ ls) (suc n) (suc k) v h =
    get_set_global ls n k v (omega arith) ∙ ap (λ b. cond b v (or_zero (slice_get ls k))) same
  where
    same : nat_eq k n ≡ nat_eq (suc k) (suc n)
    same = grind arith

-- a global whole variable is set
pub globals_set : (ls : List ℤ) (n : ℕ) (v : ℤ) → n < length ls → (λ k. or_zero (slice_get (slice_set ls n v) k)) ≡ put (λ i. or_zero (slice_get ls i)) n v
globals_set ls n v h = fun_ext (λ k. get_set_global ls n k v h)

get_none : {A : Type 0} → (count n : ℕ) → joined (slice_get (none_of {A = A} count) n) ≡ None
get_none zero n = refl
get_none (suc count) zero = refl
get_none (suc count) (suc n) = get_none count n

-- the variables of a new frame have no value
pub frame_none : {A : Type 0} → (count : ℕ) → ◌≡◌ {A = ℕ → Option A} (λ n. joined (slice_get (none_of {A = A} count) n)) (λ n. None)
frame_none count = fun_ext (λ n. get_none count n)

get_zero : (count n : ℕ) → or_zero (slice_get (replicate count (pos 0)) n) ≡ pos 0
get_zero zero n = refl
get_zero (suc count) zero = refl
get_zero (suc count) (suc n) = get_zero count n

-- the global whole variables are 0 at the start
pub globals_zero : (count : ℕ) → ◌≡◌ {A = ℕ → ℤ} (λ n. or_zero (slice_get (replicate count (pos 0)) n)) (λ n. pos 0)
globals_zero count = fun_ext (λ n. get_zero count n)

-- the cells held when a buffer is put in the place of another
pub held_set : (heap : List (Option (List ℤ))) (b : ℕ) (old new : Option (List ℤ)) → slice_get heap b ≡ Some old → sum_by cells_of (slice_set heap b new) + cells_of old ≡ sum_by cells_of heap + cells_of new
held_set [] b old new h = cc
held_set (x ∷ heap) zero old new h =
    let e : cells_of x ≡ cells_of old = let f : x ≡ old = cc in ap cells_of f in
    let i : sum_by cells_of (x ∷ heap) ≡ cells_of x + sum_by cells_of heap = sum_by-cons cells_of x heap in
    let j : sum_by cells_of (new ∷ heap) ≡ cells_of new + sum_by cells_of heap = sum_by-cons cells_of new heap in
    let k : sum_by cells_of (new ∷ heap) + cells_of old ≡ sum_by cells_of (x ∷ heap) + cells_of new = omega arith in
    k
held_set (x ∷ heap) (suc b) old new h =
    let l = held_set heap b old new h in
    let i : sum_by cells_of (x ∷ heap) ≡ cells_of x + sum_by cells_of heap = sum_by-cons cells_of x heap in
    let j : sum_by cells_of (x ∷ slice_set heap b new) ≡ cells_of x + sum_by cells_of (slice_set heap b new) = sum_by-cons cells_of x (slice_set heap b new) in
    let k : sum_by cells_of (x ∷ slice_set heap b new) + cells_of old ≡ sum_by cells_of (x ∷ heap) + cells_of new = omega arith in
    k

-- the cells held with one more buffer
pub held_more : (heap : List (Option (List ℤ))) (x : Option (List ℤ)) → sum_by cells_of (heap ++ x ∷ []) ≡ sum_by cells_of heap + cells_of x
held_more heap x = sum_by_push cells_of heap x
