-- How lists of lengths rise when an axis is removed, set, joined or moved.
use Rattle.std.proofs.Common.{◌≡◌, ◌∙◌, ap, refl, subst, ℕ, zero, suc, ◌-◌, List, [], ◌∷◌, ◌++◌, length, take, drop, Option, Some, None, Bool, true, false, if◌then◌else◌, arith}
use Rattle.std.specs.Prelude.{nat_eq, remove, slice_set, min}
use Rattle.aplc_arr.specs.Delayed.{first_n}
use Rattle.aplc_arr.specs.Structure.{axes_in, stands_in}
use Rattle.aplc_infer.specs.Facts.{length_below, lengths_below}
use Rattle.aplc_infer.specs.Rules.{vector_lengths, expand_length, front_lengths, inner_lengths, least_of, least_known, moved_lengths}
use Rattle.aplc_infer.proofs.Order.{length_refl}
use Rattle.aplc_infer.proofs.Trials.{equal_of}
use Rattle.aplc_infer.proofs.RuleTools.{cons_rises, head_rises, tail_rises, never_below}

-- ---- Parts of a list

pub append_rises : (xs xs' ys ys' : List (Option ℕ)) → lengths_below xs xs' ≡ true → lengths_below ys ys' ≡ true → lengths_below (xs ++ ys) (xs' ++ ys') ≡ true
append_rises [] [] ys ys' p q = q
append_rises [] (x' ∷ xs') ys ys' p q = cc
append_rises (x ∷ xs) [] ys ys' p q = cc
append_rises (x ∷ xs) (x' ∷ xs') ys ys' p q =
    cons_rises x x' (xs ++ ys) (xs' ++ ys') (head_rises x x' xs xs' p) (append_rises xs xs' ys ys' (tail_rises x x' xs xs' p) q)

prefix_rises : (i : ℕ) (xs ys : List (Option ℕ)) → lengths_below xs ys ≡ true → lengths_below (take i xs) (take i ys) ≡ true
prefix_rises zero xs ys h = refl
prefix_rises (suc i) [] [] h = refl
prefix_rises (suc i) [] (y ∷ ys) h = cc
prefix_rises (suc i) (x ∷ xs) [] h = cc
prefix_rises (suc i) (x ∷ xs) (y ∷ ys) h = cons_rises x y (take i xs) (take i ys) (head_rises x y xs ys h) (prefix_rises i xs ys (tail_rises x y xs ys h))

suffix_rises : (i : ℕ) (xs ys : List (Option ℕ)) → lengths_below xs ys ≡ true → lengths_below (drop i xs) (drop i ys) ≡ true
suffix_rises zero xs ys h = h
suffix_rises (suc i) [] [] h = refl
suffix_rises (suc i) [] (y ∷ ys) h = cc
suffix_rises (suc i) (x ∷ xs) [] h = cc
suffix_rises (suc i) (x ∷ xs) (y ∷ ys) h = suffix_rises i xs ys (tail_rises x y xs ys h)

pub remove_rises : (i : ℕ) (xs ys : List (Option ℕ)) → lengths_below xs ys ≡ true → lengths_below (remove xs i) (remove ys i) ≡ true
remove_rises i xs ys h = append_rises (take i xs) (take i ys) (drop (suc i) xs) (drop (suc i) ys) (prefix_rises i xs ys h) (suffix_rises (suc i) xs ys h)

pub set_rises : (i : ℕ) (x y : Option ℕ) (xs ys : List (Option ℕ)) → length_below x y ≡ true → lengths_below xs ys ≡ true → lengths_below (slice_set xs i x) (slice_set ys i y) ≡ true
set_rises i x y [] [] p h = refl
set_rises i x y [] (b ∷ ys) p h = cc
set_rises i x y (a ∷ xs) [] p h = cc
set_rises zero x y (a ∷ xs) (b ∷ ys) p h = cons_rises x y xs ys p (tail_rises a b xs ys h)
set_rises (suc i) x y (a ∷ xs) (b ∷ ys) p h = cons_rises a b (slice_set xs i x) (slice_set ys i y) (head_rises a b xs ys h) (set_rises i x y xs ys p (tail_rises a b xs ys h))

-- ---- Scalars and vectors

pub vector_rises : (xs ys : List (Option ℕ)) → lengths_below xs ys ≡ true → lengths_below (vector_lengths xs) (vector_lengths ys) ≡ true
vector_rises [] [] h = refl
vector_rises [] (y ∷ ys) h = cc
vector_rises (x ∷ xs) [] h = cc
vector_rises (x ∷ xs) (y ∷ ys) h = h

pub expand_length_rises : (xs ys : List (Option ℕ)) → lengths_below xs ys ≡ true → length_below (expand_length xs) (expand_length ys) ≡ true
expand_length_rises [] [] h = refl
expand_length_rises [] (y ∷ ys) h = cc
expand_length_rises (x ∷ xs) [] h = cc
expand_length_rises (x ∷ xs) (y ∷ ys) h = head_rises x y xs ys h

-- ---- The axes that do not meet

pub front_rises : (xs ys : List (Option ℕ)) → lengths_below xs ys ≡ true → lengths_below (front_lengths xs) (front_lengths ys) ≡ true
front_rises [] [] h = refl
front_rises [] (y ∷ ys) h = cc
front_rises (x ∷ xs) [] h = cc
front_rises (x ∷ []) (y ∷ []) h = refl
front_rises (x ∷ []) (y ∷ v ∷ ys) h = absurd (never_below (tail_rises x y [] (v ∷ ys) h))
front_rises (x ∷ u ∷ xs) (y ∷ []) h = absurd (never_below (tail_rises x y (u ∷ xs) [] h))
front_rises (x ∷ u ∷ xs) (y ∷ v ∷ ys) h =
    let rest = tail_rises x y (u ∷ xs) (v ∷ ys) h in
    cons_rises x y (front_lengths (u ∷ xs)) (front_lengths (v ∷ ys)) (head_rises x y (u ∷ xs) (v ∷ ys) h) (front_rises (u ∷ xs) (v ∷ ys) rest)

pub front_is : (xs : List (Option ℕ)) → front_lengths xs ≡ take (length xs - 1) xs
front_is [] = refl
front_is (x ∷ xs) = front_of x xs ∙ ap (λ n. take n (x ∷ xs)) (omega arith)
  where
    front_of : (x : Option ℕ) (xs : List (Option ℕ)) → front_lengths (x ∷ xs) ≡ take (length xs) (x ∷ xs)
    front_of x [] = refl
    front_of x (y ∷ ys) = ap (λ zs. x ∷ zs) (front_of y ys)

pub inner_lengths_rise : (xs xs' ys ys' : List (Option ℕ)) → lengths_below xs xs' ≡ true → lengths_below ys ys' ≡ true → lengths_below (inner_lengths xs ys) (inner_lengths xs' ys') ≡ true
inner_lengths_rise xs xs' ys ys' p q = append_rises (front_lengths xs) (front_lengths xs') (drop 1 ys) (drop 1 ys') (front_rises xs xs' p) (suffix_rises 1 ys ys' q)

-- ---- Axes that move

first_n_rises : (f g : ℕ → Option ℕ) (n : ℕ) → ((j : ℕ) → length_below (f j) (g j) ≡ true) → lengths_below (first_n f n) (first_n g n) ≡ true
first_n_rises f g zero h = refl
first_n_rises f g (suc n) h = append_rises (first_n f n) (first_n g n) (f n ∷ []) (g n ∷ []) (first_n_rises f g n h) (cons_rises (f n) (g n) [] [] (h n) refl)

least_of_rises : (x x' y y' : Option ℕ) → length_below x x' ≡ true → length_below y y' ≡ true → length_below (least_of x y) (least_of x' y') ≡ true
least_of_rises x None y y' p q = refl
least_of_rises x (Some m') y None p q = refl
least_of_rises None (Some m') y (Some n') p q = cc
least_of_rises (Some m) (Some m') None (Some n') p q = cc
least_of_rises (Some m) (Some m') (Some n) (Some n') p q =
    subst (λ (k : ℕ). length_below (Some (min m n)) (Some k) ≡ true) (ap (λ k. min k n) (equal_of m m' p) ∙ ap (λ k. min m' k) (equal_of n n' q)) (length_refl (Some (min m n)))

least_step : (a b : Bool) (x x' y y' : Option ℕ) → length_below x x' ≡ true → length_below y y' ≡ true → length_below (if a then (if b then least_of x y else x) else y) (if a then (if b then least_of x' y' else x') else y') ≡ true
least_step true true x x' y y' p q = least_of_rises x x' y y' p q
least_step true false x x' y y' p q = p
least_step false b x x' y y' p q = q

least_known_rises : (j : ℕ) (is : List ℕ) (xs ys : List (Option ℕ)) → lengths_below xs ys ≡ true → length_below (least_known j is xs) (least_known j is ys) ≡ true
least_known_rises j [] xs ys h = refl
least_known_rises j (i ∷ is) [] [] h = refl
least_known_rises j (i ∷ is) [] (y ∷ ys) h = cc
least_known_rises j (i ∷ is) (x ∷ xs) [] h = cc
least_known_rises j (i ∷ is) (x ∷ xs) (y ∷ ys) h =
    least_step (nat_eq i j) (stands_in j is) x y (least_known j is xs) (least_known j is ys) (head_rises x y xs ys h) (least_known_rises j is xs ys (tail_rises x y xs ys h))

pub moved_lengths_rise : (axes : List ℕ) (xs ys : List (Option ℕ)) → lengths_below xs ys ≡ true → lengths_below (moved_lengths axes xs) (moved_lengths axes ys) ≡ true
moved_lengths_rise axes xs ys h = first_n_rises (λ j. least_known j axes xs) (λ j. least_known j axes ys) (axes_in axes) (λ j. least_known_rises j axes xs ys h)
