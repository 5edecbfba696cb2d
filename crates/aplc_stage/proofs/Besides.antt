-- A number beside an array, which has its own shape.
use Rattle.std.proofs.Common.{◌≡◌, ℕ, ◌+◌, ◌≤◌, List, length, refl, sym, ap, subst, arith, ℤ, true}
use Rattle.std.specs.Prelude.{max}
use Rattle.aplc_scalar.specs.declared.kind.Kind.{Kind}
use Rattle.aplc_scalar.specs.declared.function.ScalarFn.{ScalarFn}
use Rattle.aplc_scalar.specs.Scalar.{dyadic}
use Rattle.aplc_arr.specs.Arrays.{Array, place}
use Rattle.aplc_arr.specs.Delayed.{Prepared}
use Rattle.aplc_arr.specs.Each.{kinds_suit, common_shape}
use Rattle.aplc_cprof.specs.declared.syntax.Int.{Int}
use Rattle.aplc_cprof.specs.Blocks.{Blocks}
use Rattle.aplc_cprof.specs.Machine.{State}
use Rattle.aplc_cprof.specs.Frames.{AreGiven, Hold}
use Rattle.aplc_cprof.specs.Emitted.{joint}
use Rattle.aplc_cprof.proofs.Emitted.{within_left, within_right}
use Rattle.aplc_collect.specs.Elements.{Test, Steps, scope_of, scalar_test, one_step}
use Rattle.aplc_collect.specs.Fused.{dyad_test, steps_of_two}
use Rattle.aplc_collect.specs.Scalars.{dyad_steps, dyad_depth}
use Rattle.aplc_step.specs.declared.stepper.Origin.{Origin}
use Rattle.aplc_step.specs.Steppers.{stepper_test, stepper_scope}
use Rattle.aplc_step.specs.Wholes.{whole_steps, MakesStepper}
use Rattle.aplc_stage.specs.declared.staged.Staged.{Staged}
use Rattle.aplc_stage.specs.declared.staged.Staged.TheVariants as staged
use Rattle.aplc_stage.specs.Staged.{scope_of_staged}
use Rattle.aplc_stage.specs.Computes.{Computes, DyadicOf}
use Rattle.aplc_stage.specs.Pieces.{OwnLengths, Gathers, Own}
use Rattle.aplc_stage.proofs.Elements.{IsOldStaged, older, given_names}
use Rattle.aplc_stage.proofs.Scalars.{no_axes}
use Rattle.aplc_stage.proofs.Leads.{hold_length, Fillable, computes_by}
use Rattle.aplc_stage.proofs.Chains.{both_within}
use Rattle.aplc_stage.proofs.Ones.{HasSteps, leads_by, many, own_fresh, read_within}
use Rattle.aplc_stage.proofs.Dyadics.{pair_later, ranks_held, scalar_suits, beside_scalar, scalar_reads, cells_read, pair_fillable}

module _ (from : Origin) (lengths own strides : List Int) (base : Int) (b0 b1 b2 : Blocks) (given : AreGiven (scope_of_staged (staged.Cells from lengths)) b0) (lens : OwnLengths b0 b1 lengths own) (over : MakesStepper b1 b2 lengths base strides) (g : ScalarFn) (k : Kind) (x : Int) (kinds : kinds_suit g k k ≡ true) (some : 1 ≤ length lengths) (given_x : AreGiven (scope_of x) b0) where
  abbrev y : Staged
  y = staged.Cells from lengths

  abbrev r : ℕ
  r = length lengths

  old : IsOldStaged b0.ints b0.bufs y
  old = given_names y b0 given

  old2 : IsOldStaged b2.ints b2.bufs y
  old2 = older b0 b2 y (omega (arith, lens.grown.ints, over.grown.ints)) (omega (arith, lens.grown.bufs, over.grown.bufs)) old

  abbrev X : Staged
  X = staged.Scalar x

  old_x : IsOldStaged b0.ints b0.bufs X
  old_x = given_names X b0 given_x

  old_x2 : IsOldStaged b2.ints b2.bufs X
  old_x2 = older b0 b2 X (omega (arith, lens.grown.ints, over.grown.ints)) (omega (arith, lens.grown.bufs, over.grown.bufs)) old_x

  long : (s : State) (a : Array) → Hold s lengths a.shape → 1 ≤ length a.shape
  long s a h = let e = hold_length s lengths a.shape h in omega (arith, e, some)

  abbrev left_test : Test
  left_test = dyad_test (dyadic g) (scalar_test x) (stepper_test from base strides)

  abbrev right_test : Test
  right_test = dyad_test (dyadic g) (stepper_test from base strides) (scalar_test x)

  abbrev steps : Steps
  steps = steps_of_two (dyad_steps g) one_step one_step

  left_fillable : (tables : List (List ℤ)) (s t : State) (p : Prepared) (h : DyadicOf g k X k y tables s p) → HasSteps b0.ints b0.bufs own lengths base strides h.right s t → Fillable left_test steps b2.ints b2.bufs 6 own tables t p
  left_fillable tables s t p h m =
      let now = pair_later g k X k y b0.ints b0.bufs tables s t p old_x old m.stays h in
      pair_fillable g k X y (scalar_test x) (stepper_test from base strides) one_step one_step own tables b2.ints b2.bufs t p h.right.shape now kinds
      (ranks_held tables t X y h.left h.right now.left_holds now.right_holds refl)
      (ap (λ (l : List ℕ). common_shape l h.right.shape) (no_axes s h.left.shape h.left_holds.shape)) m.held
      (scalar_reads tables b2.ints b2.bufs t x h.left h.right.shape old_x2 (long s h.right h.right_holds.shape) now.left_holds)
      (cells_read tables b2.ints b2.bufs t from base strides lengths h.right h.right.shape (place h.right.shape) old2.0 over.base_given over.strides_given old2.1 h.right_holds.array now.right_holds.cells m.over (Own refl (λ is i. refl)))

  right_fillable : (tables : List (List ℤ)) (s t : State) (p : Prepared) (h : DyadicOf g k y k X tables s p) → HasSteps b0.ints b0.bufs own lengths base strides h.left s t → Fillable right_test steps b2.ints b2.bufs 6 own tables t p
  right_fillable tables s t p h m =
      let now = pair_later g k y k X b0.ints b0.bufs tables s t p old old_x m.stays h in
      pair_fillable g k y X (stepper_test from base strides) (scalar_test x) one_step one_step own tables b2.ints b2.bufs t p h.left.shape now kinds
      (ranks_held tables t y X h.left h.right now.left_holds now.right_holds (scalar_suits r))
      (beside_scalar h.left.shape h.right.shape (no_axes s h.right.shape h.right_holds.shape)) m.held
      (cells_read tables b2.ints b2.bufs t from base strides lengths h.left h.left.shape (place h.left.shape) old2.0 over.base_given over.strides_given old2.1 h.left_holds.array now.left_holds.cells m.over (Own refl (λ is i. refl)))
      (scalar_reads tables b2.ints b2.bufs t x h.right h.left.shape old_x2 (long s h.left h.left_holds.shape) now.right_holds)

  -- a number and an array
  pub left_computes : (b3 : Blocks) (v : Staged) → Gathers left_test steps (joint (scope_of x) (stepper_scope from base strides)) (max (max 0 (2 + length strides)) dyad_depth) b2 b3 own v → Computes (DyadicOf g k X k y) (joint (scope_of x) (scope_of_staged y)) r b0 b3 v
  left_computes b3 v last =
      let G = joint (scope_of x) (scope_of_staged y) in
      let H = joint (scope_of x) (stepper_scope from base strides) in
      let deep = over.as_many in
      let eq = many from lengths own strides base b0 b1 b2 given lens over in
      subst (λ (w : Staged). Computes (DyadicOf g k X k y) G r b0 b3 w) (sym last.name)
      (computes_by (DyadicOf g k X k y) left_test steps G H (max (max 0 (2 + length strides)) dyad_depth) 6 (r + whole_steps r) (1 + r) r b0 b2 b3 own
      (leads_by from lengths own strides base b0 b1 b2 given lens over (DyadicOf g k X k y) (Fillable left_test steps b2.ints b2.bufs 6 own) G (λ tables s p h. h.right) (λ sc w. within_right (scope_of x) (scope_of_staged y) sc w) (λ tables s p h. h.right_holds) left_fillable)
      (subst (λ (w : Staged). Gathers left_test steps H (max (max 0 (2 + length strides)) dyad_depth) b2 b3 own w) last.name last)
      (omega arith) (omega arith) (omega arith) (omega (arith, eq, deep)) eq some (own_fresh from lengths own strides base b0 b1 b2 given lens over)
      (λ sc w. both_within (scope_of x) (stepper_scope from base strides) sc (within_left (scope_of x) (scope_of_staged y) sc w) (read_within from lengths own strides base b0 b1 b2 given lens over sc (within_right (scope_of x) (scope_of_staged y) sc w))))

  -- an array and a number
  pub right_computes : (b3 : Blocks) (v : Staged) → Gathers right_test steps (joint (stepper_scope from base strides) (scope_of x)) (max (max (2 + length strides) 0) dyad_depth) b2 b3 own v → Computes (DyadicOf g k y k X) (joint (scope_of_staged y) (scope_of x)) r b0 b3 v
  right_computes b3 v last =
      let G = joint (scope_of_staged y) (scope_of x) in
      let H = joint (stepper_scope from base strides) (scope_of x) in
      let deep = over.as_many in
      let eq = many from lengths own strides base b0 b1 b2 given lens over in
      subst (λ (w : Staged). Computes (DyadicOf g k y k X) G r b0 b3 w) (sym last.name)
      (computes_by (DyadicOf g k y k X) right_test steps G H (max (max (2 + length strides) 0) dyad_depth) 6 (r + whole_steps r) (1 + r) r b0 b2 b3 own
      (leads_by from lengths own strides base b0 b1 b2 given lens over (DyadicOf g k y k X) (Fillable right_test steps b2.ints b2.bufs 6 own) G (λ tables s p h. h.left) (λ sc w. within_left (scope_of_staged y) (scope_of x) sc w) (λ tables s p h. h.left_holds) right_fillable)
      (subst (λ (w : Staged). Gathers right_test steps H (max (max (2 + length strides) 0) dyad_depth) b2 b3 own w) last.name last)
      (omega arith) (omega arith) (omega arith) (omega (arith, eq, deep)) eq some (own_fresh from lengths own strides base b0 b1 b2 given lens over)
      (λ sc w. both_within (stepper_scope from base strides) (scope_of x) sc (read_within from lengths own strides base b0 b1 b2 given lens over sc (within_left (scope_of_staged y) (scope_of x) sc w)) (within_right (scope_of_staged y) (scope_of x) sc w)))
