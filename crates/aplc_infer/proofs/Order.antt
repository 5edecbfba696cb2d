-- The order of facts, joins as least upper bounds, and how joins lose room.
use Rattle.std.proofs.Common.{◌≡◌, ◌∙◌, sym, ap, refl, ℕ, suc, ◌<◌, ◌≤◌, List, [], ◌∷◌, length, Option, Some, None, Bool, true, false, ◌&&◌, if◌then◌else◌, arith, inl, inr, ◌⊎◌}
use Rattle.std.specs.Prelude.{nat_eq}
use Rattle.std.proofs.lemmas.Bool.Decides.{nat_tests}
use Rattle.aplc_infer.specs.declared.fact.FactKind.{FactKind}
use Rattle.aplc_infer.specs.declared.fact.FactKind.TheVariants.{Bit, Num, Char, Mixed}
use Rattle.aplc_infer.specs.declared.fact.Inferred.{Inferred}
use Rattle.aplc_infer.specs.declared.fact.Inferred.TheVariants.{Unset, Of}
use Rattle.aplc_infer.specs.Facts.{kind_below, length_below, lengths_below, shape_below, below, kind_join, length_join, lengths_join, shape_join, join, length_room, lengths_room, shape_room, kind_room, room, IsShort}
use Rattle.aplc_infer.proofs.Trials.{both_true, left_true, right_true, all_kinds, all_at, implies, use_implies, equal_of, equal_test}

-- ---- Kinds

pub kind_refl : (k : FactKind) → kind_below k k ≡ true
kind_refl = all_at (λ k. kind_below k k) refl

kind_trans3 : (k l m : FactKind) → implies (kind_below k l && kind_below l m) (kind_below k m) ≡ true
kind_trans3 k l m =
    all_at (λ m. implies (kind_below k l && kind_below l m) (kind_below k m))
    (all_at (λ l. all_kinds (λ m. implies (kind_below k l && kind_below l m) (kind_below k m)))
    (all_at (λ k. all_kinds (λ l. all_kinds (λ m. implies (kind_below k l && kind_below l m) (kind_below k m)))) refl k) l) m

pub kind_trans : (k l m : FactKind) → kind_below k l ≡ true → kind_below l m ≡ true → kind_below k m ≡ true
kind_trans k l m p q = use_implies (kind_below k l && kind_below l m) (kind_below k m) (kind_trans3 k l m) (both_true (kind_below k l) (kind_below l m) p q)

kind_least3 : (k l m : FactKind) → implies (kind_below k m && kind_below l m) (kind_below (kind_join k l) m) ≡ true
kind_least3 k l m =
    all_at (λ m. implies (kind_below k m && kind_below l m) (kind_below (kind_join k l) m))
    (all_at (λ l. all_kinds (λ m. implies (kind_below k m && kind_below l m) (kind_below (kind_join k l) m)))
    (all_at (λ k. all_kinds (λ l. all_kinds (λ m. implies (kind_below k m && kind_below l m) (kind_below (kind_join k l) m)))) refl k) l) m

pub kind_least : (k l m : FactKind) → kind_below k m ≡ true → kind_below l m ≡ true → kind_below (kind_join k l) m ≡ true
kind_least k l m p q = use_implies (kind_below k m && kind_below l m) (kind_below (kind_join k l) m) (kind_least3 k l m) (both_true (kind_below k m) (kind_below l m) p q)

-- ---- Lengths

pub length_refl : (x : Option ℕ) → length_below x x ≡ true
length_refl None = refl
length_refl (Some x) = grind (arith, nat_tests)

pub length_trans : (x y z : Option ℕ) → length_below x y ≡ true → length_below y z ≡ true → length_below x z ≡ true
length_trans x y None p q = refl
length_trans x None (Some z) p q = absurd (clash q)
  where
    clash : false ≡ true → ⊥
    clash e = cc
length_trans None (Some y) (Some z) p q = p
length_trans (Some x) (Some y) (Some z) p q = grind (arith, nat_tests)

pub length_least : (x y z : Option ℕ) → length_below x z ≡ true → length_below y z ≡ true → length_below (length_join x y) z ≡ true
length_least x y None p q = refl
length_least None y (Some z) p q = p
length_least (Some x) None (Some z) p q = q
length_least (Some x) (Some y) (Some z) p q = grind (arith, nat_tests)

pub lengths_refl : (xs : List (Option ℕ)) → lengths_below xs xs ≡ true
lengths_refl [] = refl
lengths_refl (x ∷ xs) = both_true (length_below x x) (lengths_below xs xs) (length_refl x) (lengths_refl xs)

pub lengths_trans : (xs ys zs : List (Option ℕ)) → lengths_below xs ys ≡ true → lengths_below ys zs ≡ true → lengths_below xs zs ≡ true
lengths_trans [] [] zs p q = q
lengths_trans [] (y ∷ ys) zs p q = cc
lengths_trans (x ∷ xs) [] zs p q = cc
lengths_trans (x ∷ xs) (y ∷ ys) [] p q = q
lengths_trans (x ∷ xs) (y ∷ ys) (z ∷ zs) p q =
    both_true (length_below x z) (lengths_below xs zs)
    (length_trans x y z (left_true (length_below x y) (lengths_below xs ys) p) (left_true (length_below y z) (lengths_below ys zs) q))
    (lengths_trans xs ys zs (right_true (length_below x y) (lengths_below xs ys) p) (right_true (length_below y z) (lengths_below ys zs) q))

pub lengths_same : (xs ys : List (Option ℕ)) → lengths_below xs ys ≡ true → length xs ≡ length ys
lengths_same [] [] p = refl
lengths_same [] (y ∷ ys) p = cc
lengths_same (x ∷ xs) [] p = cc
lengths_same (x ∷ xs) (y ∷ ys) p = ap suc (lengths_same xs ys (right_true (length_below x y) (lengths_below xs ys) p))

pub lengths_least : (xs ys zs : List (Option ℕ)) → lengths_below xs zs ≡ true → lengths_below ys zs ≡ true → lengths_below (lengths_join xs ys) zs ≡ true
lengths_least [] ys zs p q = p
lengths_least (x ∷ xs) [] zs p q = q
lengths_least (x ∷ xs) (y ∷ ys) [] p q = p
lengths_least (x ∷ xs) (y ∷ ys) (z ∷ zs) p q =
    both_true (length_below (length_join x y) z) (lengths_below (lengths_join xs ys) zs)
    (length_least x y z (left_true (length_below x z) (lengths_below xs zs) p) (left_true (length_below y z) (lengths_below ys zs) q))
    (lengths_least xs ys zs (right_true (length_below x z) (lengths_below xs zs) p) (right_true (length_below y z) (lengths_below ys zs) q))

-- ---- Shapes and facts

pub shape_refl : (s : Option (List (Option ℕ))) → shape_below s s ≡ true
shape_refl None = refl
shape_refl (Some xs) = lengths_refl xs

pub shape_trans : (s t u : Option (List (Option ℕ))) → shape_below s t ≡ true → shape_below t u ≡ true → shape_below s u ≡ true
shape_trans s t None p q = refl
shape_trans s None (Some u) p q = cc
shape_trans None (Some t) (Some u) p q = p
shape_trans (Some s) (Some t) (Some u) p q = lengths_trans s t u p q

chosen : (b : Bool) (xs : List (Option ℕ)) (u : Option (List (Option ℕ))) → b ≡ true → shape_below (Some xs) u ≡ true → shape_below (if b then Some xs else None) u ≡ true
chosen true xs u e h = h
chosen false xs u e h = cc

pub shape_least : (s t u : Option (List (Option ℕ))) → shape_below s u ≡ true → shape_below t u ≡ true → shape_below (shape_join s t) u ≡ true
shape_least s t None p q = refl
shape_least None t (Some u) p q = p
shape_least (Some s) None (Some u) p q = q
shape_least (Some s) (Some t) (Some u) p q = chosen (nat_eq (length s) (length t)) (lengths_join s t) (Some u) (equal_test (length s) (length t) (lengths_same s u p ∙ sym (lengths_same t u q))) (lengths_least s t u p q)

pub below_refl : (f : Inferred) → below f f ≡ true
below_refl Unset = refl
below_refl (Of k s) = both_true (kind_below k k) (shape_below s s) (kind_refl k) (shape_refl s)

pub below_trans : (f g h : Inferred) → below f g ≡ true → below g h ≡ true → below f h ≡ true
below_trans Unset g h p q = refl
below_trans (Of k s) Unset h p q = cc
below_trans (Of k s) (Of l t) Unset p q = q
below_trans (Of k s) (Of l t) (Of m u) p q =
    both_true (kind_below k m) (shape_below s u)
    (kind_trans k l m (left_true (kind_below k l) (shape_below s t) p) (left_true (kind_below l m) (shape_below t u) q))
    (shape_trans s t u (right_true (kind_below k l) (shape_below s t) p) (right_true (kind_below l m) (shape_below t u) q))

pub join_least : (f g h : Inferred) → below f h ≡ true → below g h ≡ true → below (join f g) h ≡ true
join_least Unset g h p q = q
join_least (Of k s) Unset h p q = p
join_least (Of k s) (Of l t) Unset p q = p
join_least (Of k s) (Of l t) (Of m u) p q =
    both_true (kind_below (kind_join k l) m) (shape_below (shape_join s t) u)
    (kind_least k l m (left_true (kind_below k m) (shape_below s u) p) (left_true (kind_below l m) (shape_below t u) q))
    (shape_least s t u (right_true (kind_below k m) (shape_below s u) p) (right_true (kind_below l m) (shape_below t u) q))

-- ---- Room

kind_falls : (k l : FactKind) → kind_below l k ≡ false → kind_room (kind_join k l) < kind_room k
kind_falls Bit Bit h = cc
kind_falls Bit Num h = omega arith
kind_falls Bit Char h = omega arith
kind_falls Bit Mixed h = omega arith
kind_falls Num Bit h = cc
kind_falls Num Num h = cc
kind_falls Num Char h = omega arith
kind_falls Num Mixed h = omega arith
kind_falls Char Bit h = omega arith
kind_falls Char Num h = omega arith
kind_falls Char Char h = cc
kind_falls Char Mixed h = omega arith
kind_falls Mixed Bit h = cc
kind_falls Mixed Num h = cc
kind_falls Mixed Char h = cc
kind_falls Mixed Mixed h = cc

kind_most : (k l : FactKind) → kind_room (kind_join k l) ≤ kind_room k
kind_most Bit Bit = omega arith
kind_most Bit Num = omega arith
kind_most Bit Char = omega arith
kind_most Bit Mixed = omega arith
kind_most Num Bit = omega arith
kind_most Num Num = omega arith
kind_most Num Char = omega arith
kind_most Num Mixed = omega arith
kind_most Char Bit = omega arith
kind_most Char Num = omega arith
kind_most Char Char = omega arith
kind_most Char Mixed = omega arith
kind_most Mixed l = omega arith

length_room_if : (b : Bool) (x : ℕ) → length_room (if b then Some x else None) ≤ 1
length_room_if true x = omega arith
length_room_if false x = omega arith

length_most : (x y : Option ℕ) → length_room (length_join x y) ≤ length_room x
length_most None y = omega arith
length_most (Some x) None = omega arith
length_most (Some x) (Some y) = length_room_if (nat_eq x y) x

length_falls_if : (b : Bool) (x : ℕ) → b ≡ false → length_room (if b then Some x else None) < 1
length_falls_if true x h = cc
length_falls_if false x h = omega arith

swapped : (x y : ℕ) → nat_eq y x ≡ false → nat_eq x y ≡ false
swapped x y h = grind (arith, nat_tests)

length_falls : (x y : Option ℕ) → length_below y x ≡ false → length_room (length_join x y) < length_room x
length_falls None y h = cc
length_falls (Some x) None h = omega arith
length_falls (Some x) (Some y) h = length_falls_if (nat_eq x y) x (swapped x y h)

lengths_most : (xs ys : List (Option ℕ)) → lengths_room (lengths_join xs ys) ≤ lengths_room xs
lengths_most [] ys = omega arith
lengths_most (x ∷ xs) [] = omega arith
lengths_most (x ∷ xs) (y ∷ ys) = let a = length_most x y in let b = lengths_most xs ys in omega arith

pub bad_part : (a b : Bool) → (a && b) ≡ false → (a ≡ false) ⊎ (b ≡ false)
bad_part true b h = inr h
bad_part false b h = inl refl

lengths_falls : (xs ys : List (Option ℕ)) → length xs ≡ length ys → lengths_below ys xs ≡ false → lengths_room (lengths_join xs ys) < lengths_room xs
lengths_falls [] [] e h = cc
lengths_falls [] (y ∷ ys) e h = cc
lengths_falls (x ∷ xs) [] e h = cc
lengths_falls (x ∷ xs) (y ∷ ys) e h = elim (bad_part (length_below y x) (lengths_below ys xs) h) as (λ _. lengths_room (lengths_join (x ∷ xs) (y ∷ ys)) < lengths_room (x ∷ xs)) [
  | inl u ↦ (let a = length_falls x y u in let b = lengths_most xs ys in omega arith)
  | inr u ↦ (let a = length_most x y in let b = lengths_falls xs ys (omega arith) u in omega arith)
]

shape_most_if : (b : Bool) (xs ys : List (Option ℕ)) → shape_room (if b then Some (lengths_join xs ys) else None) ≤ shape_room (Some xs)
shape_most_if true xs ys = let a = lengths_most xs ys in omega arith
shape_most_if false xs ys = omega arith

shape_most : (s t : Option (List (Option ℕ))) → shape_room (shape_join s t) ≤ shape_room s
shape_most None t = omega arith
shape_most (Some xs) None = omega arith
shape_most (Some xs) (Some ys) = shape_most_if (nat_eq (length xs) (length ys)) xs ys

shape_falls_if : (b : Bool) (xs ys : List (Option ℕ)) → nat_eq (length xs) (length ys) ≡ b → lengths_below ys xs ≡ false → shape_room (if b then Some (lengths_join xs ys) else None) < shape_room (Some xs)
shape_falls_if true xs ys e h = let a = lengths_falls xs ys (equal_of (length xs) (length ys) e) h in omega arith
shape_falls_if false xs ys e h = omega arith

shape_falls : (s t : Option (List (Option ℕ))) → shape_below t s ≡ false → shape_room (shape_join s t) < shape_room s
shape_falls None t h = cc
shape_falls (Some xs) None h = omega arith
shape_falls (Some xs) (Some ys) h = shape_falls_if (nat_eq (length xs) (length ys)) xs ys refl h

lengths_few : (xs : List (Option ℕ)) → lengths_room xs ≤ length xs
lengths_few [] = omega arith
lengths_few (None ∷ xs) = let a = lengths_few xs in omega arith
lengths_few (Some x ∷ xs) = let a = lengths_few xs in omega arith

kind_few : (k : FactKind) → kind_room k ≤ 2
kind_few Bit = omega arith
kind_few Num = omega arith
kind_few Char = omega arith
kind_few Mixed = omega arith

short_room : (f : Inferred) → IsShort f → below f Unset ≡ false → room f < 12
short_room Unset s h = cc
short_room (Of k None) s h = let a = kind_few k in omega arith
short_room (Of k (Some xs)) s h = let a = kind_few k in let b = lengths_few xs in omega arith

pub known_most : (k : FactKind) (s : Option (List (Option ℕ))) (g : Inferred) → room (join (Of k s) g) ≤ room (Of k s)
known_most k s Unset = omega arith
known_most k s (Of l t) = let a = kind_most k l in let b = shape_most s t in omega arith

pub known_falls : (k : FactKind) (s : Option (List (Option ℕ))) (g : Inferred) → below g (Of k s) ≡ false → room (join (Of k s) g) < room (Of k s)
known_falls k s Unset h = cc
known_falls k s (Of l t) h = elim (bad_part (kind_below l k) (shape_below t s) h) as (λ _. room (join (Of k s) (Of l t)) < room (Of k s)) [
  | inl u ↦ (let a = kind_falls k l u in let b = shape_most s t in omega arith)
  | inr u ↦ (let a = kind_most k l in let b = shape_falls s t u in omega arith)
]

-- a join that is no fact of the old one leaves less room
pub join_falls : (f g : Inferred) → IsShort g → below g f ≡ false → room (join f g) < room f
join_falls Unset g s h = short_room g s h
join_falls (Of k s) g i h = known_falls k s g h
