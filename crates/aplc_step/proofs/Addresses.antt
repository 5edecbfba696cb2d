-- Which element a cell at strides is.
use Rattle.std.proofs.Common.{◌≡◌, ℕ, suc, ◌+◌, ◌<◌, ◌≤◌, List, [], ◌∷◌, length, refl, sym, ap, ◌∙◌, arith, ℤ, Bool, true, cond}
use Rattle.std.specs.Prelude.{Option, Some, None, Ok, pos, negsuc, ◌^◌, ◌+ℤ◌, ◌*ℤ◌, nat_lt, slice_get, slice_index_or}
use Rattle.std.proofs.lemmas.Bool.Decides.{nat_tests}
use Rattle.std.proofs.lemmas.Int.{ints}
use Rattle.std.proofs.lemmas.Option.{slice_get-get_or}
use Rattle.aplc_scalar.specs.Scalar.{Given, in_range}
use Rattle.aplc_arr.specs.Arrays.{IsIndexOf}
use Rattle.aplc_cprof.specs.declared.syntax.Int.{Int}
use Rattle.aplc_cprof.specs.declared.syntax.Op.TheVariants as op
use Rattle.aplc_cprof.specs.Machine.{State, Is, apply, or_outside, read_int}
use Rattle.aplc_cprof.specs.Frames.{AreOld, IsOld, Stays}
use Rattle.aplc_cprof.proofs.Values.{ranged_in}
use Rattle.aplc_cprof.proofs.Frames.{read_stays, hold_stays}
use Rattle.aplc_collect.specs.Elements.{number_of}
use Rattle.aplc_step.specs.declared.stepper.Origin.{Origin}
use Rattle.aplc_step.specs.Steppers.{cells_at, address_value, cell_at, stepper_test, address, HoldInts, AreAxes, StepsOver, AreInRange, zeros}

-- ---- Addresses

pub zeros_index : (ns is : List ℕ) → IsIndexOf ns is → IsIndexOf ns (zeros ns)
zeros_index [] [] h = tt
zeros_index [] (i ∷ is) h = absurd h
zeros_index (n ∷ ns) [] h = absurd h
zeros_index (n ∷ ns) (i ∷ is) h = let lt = h.0 in (omega (arith, lt), zeros_index ns is h.1)

pub address_zeros : (base : ℤ) (ss : List ℤ) (ns : List ℕ) → address base ss (zeros ns) ≡ base
address_zeros base [] ns = refl
address_zeros base (s ∷ ss) [] = refl
address_zeros base (s ∷ ss) (n ∷ ns) =
    let e : base +ℤ pos 0 *ℤ s ≡ base = omega (arith, ints) in
    ap (λ b. address b ss (zeros ns)) e ∙ address_zeros base ss ns

small_in : (p : ℕ) → p < 2 ^ 31 → in_range (pos p) ≡ true
unfolding in_range
small_in p lt = grind (arith, nat_tests)

-- the difference of two places
difference_in : (z : ℤ) (p q : ℕ) → p < 2 ^ 31 → q < 2 ^ 31 → pos q +ℤ z ≡ pos p → in_range z ≡ true
unfolding in_range
difference_in (pos n) p q lp lq e =
    let le : n ≤ p = omega (arith, ints, e) in
    below n (omega (arith, le, lp))
  where
    below : (n : ℕ) → n < 2 ^ 63 → nat_lt n (2 ^ 63) ≡ true
    below n lt = grind (arith, nat_tests)
difference_in (negsuc n) p q lp lq e =
    let le : n + 1 ≤ q = omega (arith, ints, e) in
    below (suc n) (omega (arith, le, lq))
  where
    below : (n : ℕ) → n < 2 ^ 63 → nat_lt n (2 ^ 63) ≡ true
    below n lt = grind (arith, nat_tests)

-- each multi-index has a place
abbrev pub InBounds : ℤ → List ℤ → List ℕ → (List ℕ → ℕ) → ℕ → Type 0
InBounds base ss ns at size = (is : List ℕ) → IsIndexOf ns is → (address base ss is ≡ pos (at is)) × (at is < size)

-- each sum on the way is the address of a multi-index, so none leaves the range
address_known : (s : State) (b : ℤ) (xs : List Int) (ss : List ℤ) (ns is : List ℕ) (at : List ℕ → ℕ) (size : ℕ) → size ≤ 2 ^ 31 → HoldInts s xs ss → AreAxes ss ns → InBounds b ss ns at size → IsIndexOf ns is → address_value s (Is b) xs is ≡ Is (address b ss is)
address_known s b [] [] ns is at size le h l bounds index = refl
address_known s b [] (z ∷ ss) ns is at size le h l bounds index = absurd h
address_known s b (x ∷ xs) [] ns is at size le h l bounds index = absurd h
address_known s b (x ∷ xs) (z ∷ ss) [] is at size le h l bounds index = absurd l
address_known s b (x ∷ xs) (z ∷ ss) (n ∷ ns) [] at size le h l bounds index = absurd index
address_known s b (x ∷ xs) (z ∷ ss) (n ∷ ns) (i ∷ is) at size le h l bounds index =
    let rest = zeros_index ns is index.1 in
    let here = bounds (i ∷ zeros ns) (index.0, rest) in
    let start = bounds (0 ∷ zeros ns) (let lt = index.0 in omega (arith, lt), rest) in
    let here_below : at (i ∷ zeros ns) < 2 ^ 31 = let lt = here.1 in omega (arith, lt, le) in
    let start_below : at (0 ∷ zeros ns) < 2 ^ 31 = let lt = start.1 in omega (arith, lt, le) in
    let here_is : b +ℤ pos i *ℤ z ≡ pos (at (i ∷ zeros ns)) = sym (address_zeros (b +ℤ pos i *ℤ z) ss ns) ∙ here.0 in
    let start_is : b ≡ pos (at (0 ∷ zeros ns)) = start_zero b z ∙ sym (address_zeros (b +ℤ pos 0 *ℤ z) ss ns) ∙ start.0 in
    let term_in : in_range (pos i *ℤ z) ≡ true = difference_in (pos i *ℤ z) (at (i ∷ zeros ns)) (at (0 ∷ zeros ns)) here_below start_below (ap (λ y. y +ℤ pos i *ℤ z) (sym start_is) ∙ here_is) in
    let sum_in : in_range (b +ℤ pos i *ℤ z) ≡ true = ap in_range here_is ∙ small_in (at (i ∷ zeros ns)) here_below in
    let term : apply op.Mul (Is (pos i)) (read_int x s) ≡ Is (pos i *ℤ z) = ap (λ v. apply op.Mul (Is (pos i)) v) h.0 ∙ ranged_in (pos i *ℤ z) term_in in
    ap (λ v. address_value s v xs is) (ap (λ v. apply op.Add (Is b) v) term ∙ ranged_in (b +ℤ pos i *ℤ z) sum_in)
    ∙ address_known s (b +ℤ pos i *ℤ z) xs ss ns is (λ js. at (i ∷ js)) size le h.1 l (λ js k. bounds (i ∷ js) (index.0, k)) index.1
  where
    start_zero : (b z : ℤ) → b ≡ b +ℤ pos 0 *ℤ z
    start_zero b z = omega (arith, ints)

-- ---- The element

abbrev in_some : Bool → ℤ → Option Given
in_some b x = cond b (Some (Ok x)) None

number_in : (x : ℤ) (b : Bool) → b ≡ true → in_some b x ≡ Some (Ok x)
number_in x b h = ap (λ c. in_some c x) h

-- the element is the cell at the place of the multi-index
pub element_is : (from : Origin) (base : Int) (strides lengths : List Int) (tables : List (List ℤ)) (s : State) (ns is : List ℕ) (at : List ℕ → ℕ) (cells : List ℤ) → cells_at from tables s ≡ Some cells → length cells ≤ 2 ^ 31 → AreInRange cells → StepsOver lengths base strides s ns at (length cells) → IsIndexOf ns is → stepper_test from base strides tables s is ≡ Some (Ok (slice_index_or cells (at is) (pos 0)))
element_is from base strides lengths tables s ns is at cells held le fits over index =
    let cell : slice_get cells (at is) ≡ Some (slice_index_or cells (at is) (pos 0)) = slice_get-get_or cells (at is) (pos 0) (over.below is index) in
    ap (λ o. cell_at o (address_value s (read_int base s) strides is)) held
    ∙ ap (λ v. cell_at (Some cells) (address_value s v strides is)) over.base_is
    ∙ ap (λ v. cell_at (Some cells) v) (address_known s over.first strides over.widths ns is at (length cells) le over.strides_are over.axes (λ js k. (over.at_place js k, over.below js k)) index)
    ∙ ap (λ k. cell_at (Some cells) (Is k)) (over.at_place is index)
    ∙ ap (λ o. number_of (or_outside o)) cell
    ∙ number_in (slice_index_or cells (at is) (pos 0)) (in_range (slice_index_or cells (at is) (pos 0))) (fits (at is) (slice_index_or cells (at is) (pos 0)) cell)

-- ---- Where all stays

pub hold_ints_stays : (n m : ℕ) (s t : State) (xs : List Int) (zs : List ℤ) → Stays n m s t → AreOld n xs → HoldInts s xs zs → HoldInts t xs zs
hold_ints_stays n m s t [] [] f old h = h
hold_ints_stays n m s t [] (z ∷ zs) f old h = h
hold_ints_stays n m s t (x ∷ xs) [] f old h = h
hold_ints_stays n m s t (x ∷ xs) (z ∷ zs) f old h = (read_stays n m s t x f old.0 ∙ h.0, hold_ints_stays n m s t xs zs f old.1 h.1)

pub over_stays : (n m size : ℕ) (base : Int) (strides lengths : List Int) (s t : State) (ns : List ℕ) (at : List ℕ → ℕ) → Stays n m s t → AreOld n lengths → IsOld n base → AreOld n strides → StepsOver lengths base strides s ns at size → StepsOver lengths base strides t ns at size
over_stays n m size base strides lengths s t ns at f old_lengths old_base old_strides over = record {
  shape = hold_stays n m s t lengths ns f old_lengths over.shape;
  first = over.first;
  widths = over.widths;
  base_is = read_stays n m s t base f old_base ∙ over.base_is;
  strides_are = hold_ints_stays n m s t strides over.widths f old_strides over.strides_are;
  axes = over.axes;
  at_place = over.at_place;
  below = over.below;
}
