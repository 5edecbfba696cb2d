-- Scalar functions of two arguments on values in memory.
use Rattle.std.proofs.Common.{◌≡◌, ℕ, ◌≤◌, List, [], ◌∷◌, length, refl, sym, ap, ◌∙◌, subst, arith, ℤ, Bool, true, false}
use Rattle.std.specs.Prelude.{Some, Ok, Err, IfOk, nat_eq, ◌||◌, pos, slice_index_or}
use Rattle.std.proofs.lemmas.Bool.Decides.{nat_tests}
use Rattle.aplc_scalar.specs.declared.kind.Kind.{Kind}
use Rattle.aplc_scalar.specs.declared.kind.Kind.TheVariants.{Num}
use Rattle.aplc_scalar.specs.declared.function.ScalarFn.{ScalarFn}
use Rattle.aplc_scalar.specs.Scalar.{Given, IsInRange, dyadic}
use Rattle.aplc_arr.specs.Arrays.{Array, IsArray, rank, place, fill, shape_fits}
use Rattle.aplc_arr.specs.Delayed.{Prepared, computed}
use Rattle.aplc_arr.specs.Each.{kinds_suit, ranks_suit, common_shape, applied, each_dyadic}
use Rattle.aplc_arr.proofs.KeepsEach.{HasBoth, joint-has, keeps-each_dyadic}
use Rattle.aplc_cprof.specs.declared.syntax.Int.{Int}
use Rattle.aplc_cprof.specs.Blocks.{Blocks}
use Rattle.aplc_cprof.specs.Machine.{State, Code}
use Rattle.aplc_cprof.specs.Frames.{AreGiven, IsOld, AreOld, Stays, Hold}
use Rattle.aplc_cprof.specs.Emitted.{joint, no_names}
use Rattle.aplc_cprof.proofs.Paths.{Does}
use Rattle.aplc_cprof.proofs.Frames.{given_left, given_right}
use Rattle.aplc_cprof.proofs.Emitted.{within_less, within_left, within_right}
use Rattle.aplc_collect.specs.Elements.{Test, Steps, scope_of, scalar_test, one_step}
use Rattle.aplc_collect.specs.Fused.{dyad_test, steps_of_two}
use Rattle.aplc_collect.specs.Scalars.{EmitsDyad, dyad_steps, dyad_depth}
use Rattle.aplc_step.specs.declared.stepper.Origin.{Origin}
use Rattle.aplc_step.specs.Steppers.{cells_at, stepper_test, StepsOver}
use Rattle.aplc_stage.specs.declared.staged.Staged.{Staged}
use Rattle.aplc_stage.specs.declared.staged.Staged.TheVariants as staged
use Rattle.aplc_stage.specs.Staged.{lengths_of, rank_of, Holds}
use Rattle.aplc_stage.specs.Computes.{Making, cells_of_prepared, most_steps, Comes, Faults, Computes, DyadicOf}
use Rattle.aplc_stage.specs.Pieces.{PlaceBeside}
use Rattle.aplc_stage.proofs.Heaps.{IsOldOrigin}
use Rattle.aplc_stage.proofs.Elements.{IsOldStaged, cells_in, same_element, holds_stay, scalar_beside, cell_beside}
use Rattle.aplc_stage.proofs.Scalars.{one_number, one_given, no_axes, scalar_is, scalar_runs}
use Rattle.aplc_stage.proofs.Parts.{name_declared}
use Rattle.aplc_stage.proofs.Pairs.{few_steps_of, pair_array, pair_prepared, applied_alike, ReadsBeside, pair_stands, extended_first, beside_is}
use Rattle.aplc_stage.proofs.Leads.{hold_length, Fillable}

-- ---- Two numbers

pub pair_given : (g : ScalarFn) (k : Kind) (z w : ℤ) → computed (Ok (pair_array g (one_number k z) (one_number k w) [])) ≡ one_given Num (dyadic g z w)
pair_given g k z w = by (applied g k k z w) ∙ ap (one_given Num) (applied_alike g k k z w refl)
  where
    by : (r : Given) → computed (Ok record { kind = Num; shape = []; element = λ is. r }) ≡ one_given Num r
    by (Ok y) = refl
    by (Err e) = refl

few_steps : (g : ScalarFn) (p : Prepared) → dyad_steps g ≤ most_steps 0 p
few_steps g (Ok d) = let four = few_steps_of g in omega (arith, four)
few_steps g (Err e) = let four = few_steps_of g in omega (arith, four)

-- the number of an array without axes is one of the machine's
pub number_in : (x : Array) (z : ℤ) → x ≡ one_number x.kind z → IsArray x → IsInRange z
number_in x z e array = cells_in (one_number x.kind z) (subst IsArray e array) 0 z refl

pub dyad_number : (g : ScalarFn) (k : Kind) (b0 b1 : Blocks) (x y v : Int) → kinds_suit g k k ≡ true → AreGiven (joint (scope_of x) (scope_of y)) b0 → EmitsDyad (dyadic g) (dyad_steps g) dyad_depth b0 b1 x y v → Computes (DyadicOf g k (staged.Scalar x) k (staged.Scalar y)) (joint (scope_of x) (scope_of y)) 0 b0 b1 (staged.Scalar v)
dyad_number g k b0 b1 x y v kinds given em = record {
  code = em.code;
  grown = em.grown;
  formed = λ sc room within are bufs more more_bufs le.
      let older : b0.ints ≤ sc.ints = let i = em.grown.ints in omega (arith, i, more) in
      em.formed sc room (within_less no_names (joint (scope_of x) (scope_of y)) sc (omega arith) (omega arith) (omega arith) (omega arith) within) (
        name_declared x b0 sc (given_left (scope_of x) (scope_of y) b0 given) (within_left (scope_of x) (scope_of y) sc within) older,
        (name_declared y b0 sc (given_right (scope_of x) (scope_of y) b0 given) (within_right (scope_of x) (scope_of y) sc within) older, tt),
      ) tt more more_bufs (omega (arith, le));
  fresh = em.fresh;
  ranked = tt;
  axes = refl;
  runs = λ c s p from. number_runs c s p from;
}
  where
    number_runs : (c : Code) (s : State) (p : Prepared) → DyadicOf g k (staged.Scalar x) k (staged.Scalar y) c.tables s p → Does c (Making b0.ints b0.bufs (cells_of_prepared p) s) (most_steps 0 p) em.code s (Comes c.tables b0.ints b0.bufs (staged.Scalar v) p s) (Faults b0.ints b0.bufs p s)
    number_runs c s p from =
        let a = from.left in
        let b = from.right in
        let z = from.left_holds.cells.0 in
        let w = from.right_holds.cells.0 in
        let a_is : a ≡ one_number a.kind z = scalar_is c.tables s x a from.left_holds in
        let b_is : b ≡ one_number b.kind w = scalar_is c.tables s y b from.right_holds in
        let left : a ≡ one_number k z = a_is ∙ ap (λ j. one_number j z) from.left_kind in
        let right : b ≡ one_number k w = b_is ∙ ap (λ j. one_number j w) from.right_kind in
        let prepared : p ≡ Ok (pair_array g (one_number k z) (one_number k w) []) =
        from.prepared ∙ ap (λ (t : Array). each_dyadic g t b) left ∙ ap (each_dyadic g (one_number k z)) right ∙ pair_prepared g (one_number k z) (one_number k w) [] kinds refl refl in
        let keeps : IfOk (computed p) IsArray = subst (λ (q : Prepared). IfOk (computed q) IsArray) (sym from.prepared) (keeps-each_dyadic g a b from.left_holds.array from.right_holds.array) in
        scalar_runs c b0.ints b0.bufs (dyad_steps g) 0 em.code s v Num (dyadic g z w) p (ap computed prepared ∙ pair_given g k z w) keeps (few_steps g p)
        (em.runs c s z w from.left_holds.cells.2 from.right_holds.cells.2 (number_in a z a_is from.left_holds.array) (number_in b w b_is from.right_holds.array))

-- ---- Arguments beside a new buffer

-- a number beside an array of this shape, which has an axis
pub scalar_reads : (tables : List (List ℤ)) (n m : ℕ) (s : State) (x : Int) (a : Array) (ns : List ℕ) → IsOld n x → 1 ≤ length ns → Holds tables s (staged.Scalar x) a → ReadsBeside (scalar_test x) one_step tables n m s ns a
scalar_reads tables n m s x a ns old some h = record {
  takes = λ t other st. omega arith;
  items = λ t other st is index.
      scalar_beside n m (Some other ∷ []) tables s t x h.cells.0 is old st h.cells.2 (number_in a h.cells.0 (scalar_is tables s x a h) h.array)
      ∙ ap (λ z. Some (Ok z)) (sym (extended_first a ns is other_shape ∙ ap (λ (l : List ℤ). slice_index_or l 0 (fill a.kind)) h.cells.1));
}
  where
    other_shape : a.shape ≡ ns → ⊥
    other_shape e = let same : 0 ≡ length ns = ap length (sym (no_axes s a.shape h.shape) ∙ e) in absurd (omega (arith, same, some))

-- the cells of an array beside others of this shape
pub cells_read : (tables : List (List ℤ)) (n m : ℕ) (s : State) (from : Origin) (base : Int) (strides lengths : List Int) (a : Array) (ns : List ℕ) (at_place : List ℕ → ℕ) → IsOldOrigin m from → IsOld n base → AreOld n strides → AreOld n lengths → IsArray a → cells_at from tables s ≡ Some a.cells → StepsOver lengths base strides s ns at_place (length a.cells) → PlaceBeside a.shape ns (place a.shape) at_place → ReadsBeside (stepper_test from base strides) one_step tables n m s ns a
cells_read tables n m s from base strides lengths a ns at_place old_from old_base old_strides old_lengths array cells over places = record {
  takes = λ t other st. omega arith;
  items = λ t other st is index.
      cell_beside n m (Some other ∷ []) tables s t from base strides lengths a ns is at_place old_from old_base old_strides old_lengths array cells over st index
      ∙ ap (λ z. Some (Ok z)) (same_element a.cells (at_place is) (pos 0) (fill a.kind) (over.below is index) ∙ beside_is a ns is at_place places index);
}

-- ---- Both arguments later on

-- where all stays, both do
abbrev pub pair_later : (g : ScalarFn) (k : Kind) (x : Staged) (l : Kind) (y : Staged) (n m : ℕ) (tables : List (List ℤ)) (s u : State) (p : Prepared) → IsOldStaged n m x → IsOldStaged n m y → Stays n m s u → DyadicOf g k x l y tables s p → DyadicOf g k x l y tables u p
pair_later g k x l y n m tables s u p old_x old_y st h = record {
  left = h.left;
  right = h.right;
  left_holds = holds_stay n m tables s u x h.left old_x st h.left_holds;
  right_holds = holds_stay n m tables s u y h.right old_y st h.right_holds;
  left_kind = h.left_kind;
  right_kind = h.right_kind;
  prepared = h.prepared;
}

-- the ranks are those that are known when compiling
pub ranks_held : (tables : List (List ℤ)) (s : State) (x y : Staged) (a b : Array) → Holds tables s x a → Holds tables s y b → ranks_suit (rank_of x) (rank_of y) ≡ true → ranks_suit (rank a) (rank b) ≡ true
ranks_held tables s x y a b h i e =
    ap (λ n. ranks_suit n (rank b)) (sym (hold_length s (lengths_of x) a.shape h.shape))
    ∙ ap (ranks_suit (rank_of x)) (sym (hold_length s (lengths_of y) b.shape i.shape))
    ∙ e

either_true : (a b : Bool) → b ≡ true → (a || b) ≡ true
either_true true b h = refl
either_true false b h = h

or_first : (a b : Bool) → a ≡ true → (a || b) ≡ true
or_first true b h = refl
or_first false b h = absurd (cc h)

pub scalar_suits : (r : ℕ) → ranks_suit r 0 ≡ true
scalar_suits r = let zero_is : nat_eq 0 0 ≡ true = refl in or_first (nat_eq r 0 || nat_eq 0 0) (nat_eq r 0) (either_true (nat_eq r 0) (nat_eq 0 0) zero_is)

pub same_suits : (r : ℕ) → ranks_suit r r ≡ true
same_suits r =
    let e : nat_eq r r ≡ true = grind (arith, nat_tests) in
    either_true (nat_eq r 0 || nat_eq r 0) (nat_eq r r) e

-- an array keeps its shape beside a scalar
pub beside_scalar : (ms ns : List ℕ) → ns ≡ [] → common_shape ms ns ≡ Some ms
beside_scalar ms ns e = ap (common_shape ms) e ∙ alone ms
  where
    alone : (ks : List ℕ) → common_shape ks [] ≡ Some ks
    alone [] = refl
    alone (k ∷ ks) = refl

-- ---- The array to come

-- the shape of both is one of theirs
pub common_fits : (ms ns rs : List ℕ) → shape_fits ms ≡ true → shape_fits ns ≡ true → common_shape ms ns ≡ Some rs → shape_fits rs ≡ true
common_fits ms ns rs left right e = subst (HasBoth (λ (l : List ℕ). shape_fits l ≡ true)) e (joint-has (λ (l : List ℕ). shape_fits l ≡ true) ms ns left right)

-- where the shape of both is known and code stands for the elements of each, it stands for those of the new array
pub pair_fillable : (g : ScalarFn) (k : Kind) (x y : Staged) (l r : Test) (i j : Steps) (own : List Int) (tables : List (List ℤ)) (n m : ℕ) (s : State) (p : Prepared) (ns : List ℕ) (h : DyadicOf g k x k y tables s p) → kinds_suit g k k ≡ true → ranks_suit (rank h.left) (rank h.right) ≡ true → common_shape h.left.shape h.right.shape ≡ Some ns → Hold s own ns → ReadsBeside l i tables n m s ns h.left → ReadsBeside r j tables n m s ns h.right → Fillable (dyad_test (dyadic g) l r) (steps_of_two (dyad_steps g) i j) n m 6 own tables s p
pair_fillable g k x y l r i j own tables n m s p ns h kinds ranks common hold left right = record {
  array = pair_array g h.left h.right ns;
  is = h.prepared ∙ pair_prepared g h.left h.right ns (ap (λ (q : Kind). kinds_suit g q h.right.kind) h.left_kind ∙ ap (kinds_suit g k) h.right_kind ∙ kinds) ranks common;
  shape = hold;
  fits = common_fits h.left.shape h.right.shape ns h.left_holds.array.fits h.right_holds.array.fits common;
  stands = pair_stands g l r i j tables n m s h.left h.right ns (h.left_kind ∙ sym h.right_kind) left right;
  keeps = subst (λ (q : Prepared). IfOk (computed q) IsArray) (sym h.prepared) (keeps-each_dyadic g h.left h.right h.left_holds.array h.right_holds.array);
}
