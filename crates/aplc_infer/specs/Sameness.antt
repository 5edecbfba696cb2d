-- When two facts are the same, and what a hash reads of one.
use Rattle.std.proofs.Common.{◌≡◌, ◌∙◌, ap, refl, subst, ℕ, List, [], ◌∷◌, Option, Some, None, Bool, true, ◌&&◌, nat_eq, arith}
use Rattle.std.proofs.lemmas.Bool.Decides.{nat_tests}
use Rattle.std.specs.Bool.{Decides}
use Rattle.std.specs.Hash as fed
use Rattle.aplc_infer.specs.declared.fact.FactKind.{FactKind}
use Rattle.aplc_infer.specs.declared.fact.FactKind.TheVariants.{Bit, Num, Char, Mixed}
use Rattle.aplc_infer.specs.declared.fact.Inferred.{Inferred}
use Rattle.aplc_infer.specs.declared.fact.Inferred.TheVariants.{Unset, Of}
use Rattle.aplc_infer.specs.Facts.{kind_below, length_below, lengths_below, shape_below, below}

-- each lies below the other
abbrev pub same : Inferred → Inferred → Bool
same f g = below f g && below g f

-- the lengths of its axes; of facts that have none, whether the rank is mixed
abbrev pub read : Inferred → List (List ℕ)
read Unset = fed.u8 0
read (Of k None) = fed.u8 1
read (Of k (Some xs)) = fed.slice (fed.option fed.u32) xs

-- ---- Such facts are equal

both_true : (a b : Bool) → a ≡ true → b ≡ true → (a && b) ≡ true
both_true a b p q = grind arith

left_true : (a b : Bool) → (a && b) ≡ true → a ≡ true
left_true a b h = grind arith

right_true : (a b : Bool) → (a && b) ≡ true → b ≡ true
right_true a b h = grind arith

equal_of : (m n : ℕ) → nat_eq m n ≡ true → m ≡ n
equal_of m n h = grind (arith, nat_tests)

equal_test : (n : ℕ) → nat_eq n n ≡ true
equal_test n = grind (arith, nat_tests)

kind_same : (a b : FactKind) → kind_below a b ≡ true → kind_below b a ≡ true → a ≡ b
kind_same Bit Bit h k = refl
kind_same Bit Num h k = cc
kind_same Bit Char h k = cc
kind_same Bit Mixed h k = cc
kind_same Num Bit h k = cc
kind_same Num Num h k = refl
kind_same Num Char h k = cc
kind_same Num Mixed h k = cc
kind_same Char Bit h k = cc
kind_same Char Num h k = cc
kind_same Char Char h k = refl
kind_same Char Mixed h k = cc
kind_same Mixed Bit h k = cc
kind_same Mixed Num h k = cc
kind_same Mixed Char h k = cc
kind_same Mixed Mixed h k = refl

length_same : (x y : Option ℕ) → length_below x y ≡ true → length_below y x ≡ true → x ≡ y
length_same None None h k = refl
length_same None (Some n) h k = cc
length_same (Some m) None h k = cc
length_same (Some m) (Some n) h k = ap (λ i. Some i) (equal_of m n h)

each_same : (xs ys : List (Option ℕ)) → lengths_below xs ys ≡ true → lengths_below ys xs ≡ true → xs ≡ ys
each_same [] [] h k = refl
each_same [] (y ∷ ys) h k = cc
each_same (x ∷ xs) [] h k = cc
each_same (x ∷ xs) (y ∷ ys) h k =
    ap (λ z. z ∷ xs) (length_same x y (left_true (length_below x y) (lengths_below xs ys) h) (left_true (length_below y x) (lengths_below ys xs) k))
    ∙ ap (λ zs. y ∷ zs) (each_same xs ys (right_true (length_below x y) (lengths_below xs ys) h) (right_true (length_below y x) (lengths_below ys xs) k))

shape_same : (s t : Option (List (Option ℕ))) → shape_below s t ≡ true → shape_below t s ≡ true → s ≡ t
shape_same None None h k = refl
shape_same None (Some ys) h k = cc
shape_same (Some xs) None h k = cc
shape_same (Some xs) (Some ys) h k = ap (λ zs. Some zs) (each_same xs ys h k)

same_below : (f g : Inferred) → below f g ≡ true → below g f ≡ true → f ≡ g
same_below Unset Unset h k = refl
same_below Unset (Of b t) h k = cc
same_below (Of a s) Unset h k = cc
same_below (Of a s) (Of b t) h k =
    ap (λ x. Of x s) (kind_same a b (left_true (kind_below a b) (shape_below s t) h) (left_true (kind_below b a) (shape_below t s) k))
    ∙ ap (λ x. Of b x) (shape_same s t (right_true (kind_below a b) (shape_below s t) h) (right_true (kind_below b a) (shape_below t s) k))

pub same_equal : (f g : Inferred) → same f g ≡ true → f ≡ g
same_equal f g h = same_below f g (left_true (below f g) (below g f) h) (right_true (below f g) (below g f) h)

-- ---- A fact is the same as itself

kind_itself : (k : FactKind) → kind_below k k ≡ true
kind_itself Bit = refl
kind_itself Num = refl
kind_itself Char = refl
kind_itself Mixed = refl

length_itself : (x : Option ℕ) → length_below x x ≡ true
length_itself None = refl
length_itself (Some n) = equal_test n

lengths_itself : (xs : List (Option ℕ)) → lengths_below xs xs ≡ true
lengths_itself [] = refl
lengths_itself (x ∷ xs) = both_true (length_below x x) (lengths_below xs xs) (length_itself x) (lengths_itself xs)

shape_itself : (s : Option (List (Option ℕ))) → shape_below s s ≡ true
shape_itself None = refl
shape_itself (Some xs) = lengths_itself xs

below_itself : (f : Inferred) → below f f ≡ true
below_itself Unset = refl
below_itself (Of k s) = both_true (kind_below k k) (shape_below s s) (kind_itself k) (shape_itself s)

same_itself : (f : Inferred) → same f f ≡ true
same_itself f = both_true (below f f) (below f f) (below_itself f) (below_itself f)

pub same_decides : (f g : Inferred) → Decides (same f g) (f ≡ g)
same_decides f g = (same_equal f g, λ e. subst (λ x. same f x ≡ true) e (same_itself f))
