-- Elements of two arrays together: the array to come, and the code that stands for its elements.
-- It must not know where the arrays stand.
use Rattle.std.proofs.Common.{◌≡◌, ℕ, ◌+◌, ◌*◌, ◌≤◌, List, [], ◌∷◌, ◌++◌, refl, sym, ap, ◌∙◌, subst, arith, ℤ, Bool, true, false}
use Rattle.std.specs.Prelude.{Some, None, Ok, Err, if◌then◌else◌, slice_index_or}
use Rattle.aplc_scalar.specs.declared.kind.Kind.{Kind}
use Rattle.aplc_scalar.specs.declared.kind.Kind.TheVariants.{Num, Char}
use Rattle.aplc_scalar.specs.declared.kind.FaultKind.TheVariants.{Domain, Rank, Length}
use Rattle.aplc_scalar.specs.declared.function.ScalarFn.{ScalarFn}
use Rattle.aplc_scalar.specs.declared.function.ScalarFn.TheVariants as f
use Rattle.aplc_scalar.specs.Scalar.{dyadic, is_dyadic}
use Rattle.aplc_arr.specs.Arrays.{Array, IsIndexOf, rank, at, place, fill, first_of, shape_eq, kind_eq, product}
use Rattle.aplc_arr.specs.Delayed.{Delayed, needs}
use Rattle.aplc_arr.specs.Each.{kinds_suit, ranks_suit, common_shape, extended, applied, each_pair, each_dyadic}
use Rattle.aplc_cprof.specs.Machine.{State}
use Rattle.aplc_cprof.specs.Frames.{Stays}
use Rattle.aplc_collect.specs.Elements.{Test, Steps}
use Rattle.aplc_collect.specs.Scalars.{dyad_steps}
use Rattle.aplc_collect.specs.Fused.{dyad_test, steps_of_two, where_both}
use Rattle.aplc_step.specs.Steppers.{zeros}
use Rattle.aplc_stage.specs.Computes.{with_heap}
use Rattle.aplc_stage.specs.Pieces.{StandsBeside, PlaceBeside, Own, First}
use Rattle.aplc_stage.proofs.Tests.{shape_self, shapes_same}

-- ---- The array to come

abbrev pub pair_array : ScalarFn → Array → Array → List ℕ → Delayed
pair_array g a b ns = record { kind = Num; shape = ns; element = λ is. applied g a.kind b.kind (extended a ns is) (extended b ns is) }

pub pair_prepared : (g : ScalarFn) (a b : Array) (ns : List ℕ) → kinds_suit g a.kind b.kind ≡ true → ranks_suit (rank a) (rank b) ≡ true → common_shape a.shape b.shape ≡ Some ns → each_dyadic g a b ≡ Ok (pair_array g a b ns)
pair_prepared g a b ns kinds ranks common =
    ap (λ t. needs t Domain (needs (ranks_suit (rank a) (rank b)) Rank (each_pair g a b (common_shape a.shape b.shape)))) kinds
    ∙ ap (λ t. needs t Rank (each_pair g a b (common_shape a.shape b.shape))) ranks
    ∙ ap (each_pair g a b) common

pub pair_unlike : (g : ScalarFn) (a b : Array) → kinds_suit g a.kind b.kind ≡ true → ranks_suit (rank a) (rank b) ≡ true → common_shape a.shape b.shape ≡ None → each_dyadic g a b ≡ Err Length
pair_unlike g a b kinds ranks common =
    ap (λ t. needs t Domain (needs (ranks_suit (rank a) (rank b)) Rank (each_pair g a b (common_shape a.shape b.shape)))) kinds
    ∙ ap (λ t. needs t Rank (each_pair g a b (common_shape a.shape b.shape))) ranks
    ∙ ap (each_pair g a b) common

kind_self : (k : Kind) → kind_eq k k ≡ true
kind_self Num = refl
kind_self Char = refl

-- elements of one kind
pub applied_alike : (g : ScalarFn) (k l : Kind) (x y : ℤ) → k ≡ l → applied g k l x y ≡ dyadic g x y
applied_alike g k l x y e = subst (λ j. applied g k j x y ≡ dyadic g x y) e (alike k)
  where
    alike : (j : Kind) → applied g j j x y ≡ dyadic g x y
    alike Num = refl
    alike Char = refl

-- a function that takes two arguments of one kind has a form with two
pub suits_form : (g : ScalarFn) (k : Kind) → kinds_suit g k k ≡ true → is_dyadic g ≡ true
suits_form g Num e = e
suits_form f.Equal Char e = refl
suits_form f.NotEqual Char e = refl
suits_form g Char e = absurd (cc e)

-- ---- Elements

pub few_steps_of : (g : ScalarFn) → dyad_steps g ≤ 4
few_steps_of f.Residue = omega arith
few_steps_of g = omega arith

-- whatever a new buffer holds, code stands for the elements of an array beside others of this shape
pub record ReadsBeside (test : Test) (steps : Steps) (tables : List (List ℤ)) (n m : ℕ) (s : State) (ns : List ℕ) (a : Array) : Type 0 where
  pub takes : (t : State) (other : List ℤ) → Stays n m (with_heap (s.heap ++ Some other ∷ []) s) t → steps tables t ≤ 1
  pub items : (t : State) (other : List ℤ) → Stays n m (with_heap (s.heap ++ Some other ∷ []) s) t → (is : List ℕ) → IsIndexOf ns is → test tables t is ≡ Some (Ok (extended a ns is))

pub pair_stands : (g : ScalarFn) (l r : Test) (i j : Steps) (tables : List (List ℤ)) (n m : ℕ) (s : State) (a b : Array) (ns : List ℕ) → a.kind ≡ b.kind → ReadsBeside l i tables n m s ns a → ReadsBeside r j tables n m s ns b → StandsBeside (dyad_test (dyadic g) l r) (steps_of_two (dyad_steps g) i j) tables n m s (pair_array g a b ns) 6
pair_stands g l r i j tables n m s a b ns same left right = record {
  takes = λ t other st. let x = left.takes t other st in let y = right.takes t other st in let z = few_steps_of g in omega (arith, x, y, z);
  items = λ t other st is index.
      ap (λ x. where_both (dyadic g) x (r tables t is)) (left.items t other st is index)
      ∙ ap (λ y. where_both (dyadic g) (Some (Ok (extended a ns is))) y) (right.items t other st is index)
      ∙ ap (λ q. Some q) (sym (applied_alike g a.kind b.kind (extended a ns is) (extended b ns is) same));
}

-- ---- Which element is meant

choose_true : (b : Bool) (x y : ℤ) → b ≡ true → (if b then x else y) ≡ x
choose_true true x y e = refl
choose_true false x y e = absurd (cc e)

choose_false : (b : Bool) (x y : ℤ) → b ≡ false → (if b then x else y) ≡ y
choose_false false x y e = refl
choose_false true x y e = absurd (cc e)

pub extended_own : (a : Array) (ns is : List ℕ) → a.shape ≡ ns → extended a ns is ≡ at a is
extended_own a ns is e = choose_true (shape_eq a.shape ns) (at a is) (first_of a) (subst (λ (l : List ℕ). shape_eq a.shape l ≡ true) e (shape_self a.shape))

pub extended_first : (a : Array) (ns is : List ℕ) → (a.shape ≡ ns → ⊥) → extended a ns is ≡ first_of a
extended_first a ns is other = choose_false (shape_eq a.shape ns) (at a is) (first_of a) (not_same (shape_eq a.shape ns) refl)
  where
    not_same : (b : Bool) → shape_eq a.shape ns ≡ b → shape_eq a.shape ns ≡ false
    not_same true e = absurd (other (shapes_same a.shape ns e))
    not_same false e = e

zero_place : (ns : List ℕ) → place ns (zeros ns) ≡ 0
zero_place [] = refl
zero_place (n ∷ ns) = let rest = zero_place ns in let e : 0 * product ns + place ns (zeros ns) ≡ 0 = omega (arith, rest) in e

-- the cell at the place that the strides give
pub beside_is : (a : Array) (ns is : List ℕ) (at_place : List ℕ → ℕ) → PlaceBeside a.shape ns (place a.shape) at_place → IsIndexOf ns is → slice_index_or a.cells (at_place is) (fill a.kind) ≡ extended a ns is
beside_is a ns is at_place (Own e h) index = ap (λ p. slice_index_or a.cells p (fill a.kind)) (h is index) ∙ sym (extended_own a ns is e)
beside_is a ns is at_place (First one other h) index = ap (λ p. slice_index_or a.cells p (fill a.kind)) (h is index ∙ zero_place a.shape) ∙ sym (extended_first a ns is other)
