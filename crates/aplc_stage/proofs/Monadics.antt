-- Scalar functions of one argument on values in memory.
use Rattle.std.proofs.Common.{◌≡◌, ◌+◌, ◌≤◌, List, [], length, refl, sym, ap, ◌∙◌, subst, arith, ℤ, Bool, true, false}
use Rattle.std.specs.Prelude.{Ok, Err, IfOk, max, ◌&&◌}
use Rattle.aplc_scalar.specs.declared.kind.Kind.TheVariants.{Num}
use Rattle.aplc_scalar.specs.declared.kind.FaultKind.TheVariants.{Domain}
use Rattle.aplc_scalar.specs.declared.function.ScalarFn.{ScalarFn}
use Rattle.aplc_scalar.specs.Scalar.{Given, IsInRange, monadic, is_monadic}
use Rattle.aplc_arr.specs.Arrays.{Array, IsArray, at, is_numbers, kind_eq}
use Rattle.aplc_arr.specs.Delayed.{Delayed, Prepared, needs, computed}
use Rattle.aplc_arr.specs.Each.{each_monadic}
use Rattle.aplc_arr.proofs.KeepsEach.{keeps-each_monadic}
use Rattle.aplc_cprof.specs.declared.syntax.Int.{Int}
use Rattle.aplc_cprof.specs.Blocks.{Blocks}
use Rattle.aplc_cprof.specs.Machine.{State, Code}
use Rattle.aplc_cprof.specs.Frames.{AreGiven}
use Rattle.aplc_cprof.specs.Emitted.{no_names}
use Rattle.aplc_cprof.proofs.Paths.{Does}
use Rattle.aplc_cprof.proofs.Emitted.{within_less}
use Rattle.aplc_collect.specs.Elements.{scope_of, one_step}
use Rattle.aplc_collect.specs.Scalars.{EmitsMono, mono_steps, mono_depth}
use Rattle.aplc_collect.specs.Fused.{mono_test, steps_of_one, where_one}
use Rattle.aplc_step.specs.declared.stepper.Origin.{Origin}
use Rattle.aplc_step.specs.declared.stepper.Stepper.{Stepper}
use Rattle.aplc_step.specs.Steppers.{stepper_test, stepper_scope}
use Rattle.aplc_step.specs.Wholes.{MakesStepper}
use Rattle.aplc_stage.specs.declared.staged.Staged.{Staged}
use Rattle.aplc_stage.specs.declared.staged.Staged.TheVariants as staged
use Rattle.aplc_stage.specs.Staged.{scope_of_staged}
use Rattle.aplc_stage.specs.Computes.{Making, cells_of_prepared, most_steps, Comes, Faults, Computes, MonadicOf}
use Rattle.aplc_stage.specs.Pieces.{OwnLengths, Gathers}
use Rattle.aplc_stage.proofs.Elements.{cells_in}
use Rattle.aplc_stage.proofs.Scalars.{one_number, one_given, scalar_is, scalar_runs}
use Rattle.aplc_stage.proofs.Parts.{name_declared}
use Rattle.aplc_stage.proofs.Ones.{ArgumentOf, computes_from, one_cells}

both_hold : (a b : Bool) → a ≡ true → b ≡ true → (a && b) ≡ true
both_hold true b h k = k
both_hold false b h k = absurd (cc h)

-- the array to come, where the argument holds numbers
abbrev pub mono_array : ScalarFn → Array → Delayed
mono_array f a = record { kind = Num; shape = a.shape; element = λ is. monadic f (at a is) }

pub mono_prepared : (f : ScalarFn) (a : Array) → is_monadic f ≡ true → a.kind ≡ Num → each_monadic f a ≡ Ok (mono_array f a)
mono_prepared f a form kind =
    let test : (is_numbers a && is_monadic f) ≡ true = both_hold (is_numbers a) (is_monadic f) (ap (λ k. kind_eq k Num) kind) form in
    ap (λ b. needs b Domain (Ok (mono_array f a))) test

-- of a number it is a number
pub mono_given : (f : ScalarFn) (z : ℤ) → computed (Ok (mono_array f (one_number Num z))) ≡ one_given Num (monadic f z)
mono_given f z = by (monadic f z)
  where
    by : (r : Given) → computed (Ok record { kind = Num; shape = []; element = λ is. r }) ≡ one_given Num r
    by (Ok y) = refl
    by (Err e) = refl

-- ---- A number

few_steps : (p : Prepared) → mono_steps ≤ most_steps 0 p
few_steps (Ok d) = omega arith
few_steps (Err e) = omega arith

number_in : (x : Array) (z : ℤ) → x ≡ one_number Num z → IsArray x → IsInRange z
number_in x z e array = cells_in (one_number Num z) (subst IsArray e array) 0 z refl

pub mono_number : (f : ScalarFn) (b0 b1 : Blocks) (a v : Int) → is_monadic f ≡ true → AreGiven (scope_of a) b0 → EmitsMono (monadic f) mono_steps mono_depth b0 b1 a v → Computes (MonadicOf f (staged.Scalar a)) (scope_of a) 0 b0 b1 (staged.Scalar v)
mono_number f b0 b1 a v form given em = record {
  code = em.code;
  grown = em.grown;
  formed = λ sc room within are bufs more more_bufs le.
      em.formed sc room (within_less no_names (scope_of a) sc (omega arith) (omega arith) (omega arith) (omega arith) within)
      (name_declared a b0 sc given within (let i = em.grown.ints in omega (arith, i, more)), tt) tt more more_bufs (omega (arith, le));
  fresh = em.fresh;
  ranked = tt;
  axes = refl;
  runs = λ c s p from. number_runs c s p from;
}
  where
    number_runs : (c : Code) (s : State) (p : Prepared) → MonadicOf f (staged.Scalar a) c.tables s p → Does c (Making b0.ints b0.bufs (cells_of_prepared p) s) (most_steps 0 p) em.code s (Comes c.tables b0.ints b0.bufs (staged.Scalar v) p s) (Faults b0.ints b0.bufs p s)
    number_runs c s p from =
        let x = from.argument in
        let z = from.holds.cells.0 in
        let is : x ≡ one_number x.kind z = scalar_is c.tables s a x from.holds in
        let whole : x ≡ one_number Num z = is ∙ ap (λ k. one_number k z) from.kind in
        let prepared : p ≡ Ok (mono_array f (one_number Num z)) = from.prepared ∙ ap (each_monadic f) whole ∙ mono_prepared f (one_number Num z) form refl in
        let keeps : IfOk (computed p) IsArray = subst (λ (q : Prepared). IfOk (computed q) IsArray) (sym from.prepared) (keeps-each_monadic f x from.holds.array) in
        let inside : IsInRange z = number_in x z whole from.holds.array in
        scalar_runs c b0.ints b0.bufs mono_steps 0 em.code s v Num (monadic f z) p (ap computed prepared ∙ mono_given f z) keeps (few_steps p) (em.runs c s z from.holds.cells.2 inside)

-- ---- The cells of an array

pub mono_cells : (f : ScalarFn) (from : Origin) (lengths own : List Int) (a : Stepper) (b0 b1 b2 b3 : Blocks) (v : Staged) → is_monadic f ≡ true → 1 ≤ length lengths → AreGiven (scope_of_staged (staged.Cells from lengths)) b0 → OwnLengths b0 b1 lengths own → a.from ≡ from → MakesStepper b1 b2 lengths a.base a.strides → Gathers (mono_test (monadic f) (stepper_test a.from a.base a.strides)) (steps_of_one mono_steps one_step) (stepper_scope a.from a.base a.strides) (max (2 + length a.strides) mono_depth) b2 b3 own v → Computes (MonadicOf f (staged.Cells from lengths)) (scope_of_staged (staged.Cells from lengths)) (length lengths) b0 b3 v
mono_cells f from lengths own a b0 b1 b2 b3 v form some given lens ef over last =
    let x : Staged = staged.Cells from lengths in
    let many = over.as_many in
    computes_from (ArgumentOf (each_monadic f) (λ b. b.kind ≡ Num) x) (MonadicOf f x) (scope_of_staged x) (length lengths) b0 b3 v
    (λ tables s p h. record { argument = h.argument; holds = h.holds; suits = h.kind; prepared = h.prepared })
    (one_cells (each_monadic f) (λ b. b.kind ≡ Num) (λ b. Num) (monadic f) (λ b kind. mono_prepared f b form kind) (keeps-each_monadic f) from lengths own a.strides a.base b0 b1 b2 given lens over (mono_test (monadic f) (stepper_test from a.base a.strides)) (steps_of_one mono_steps one_step)
    (λ tables t is z e. ap (where_one (monadic f)) e) (λ tables t. omega arith) (max (2 + length a.strides) mono_depth) b3 v some (omega (arith, many))
    (subst (λ (o : Origin). Gathers (mono_test (monadic f) (stepper_test o a.base a.strides)) (steps_of_one mono_steps one_step) (stepper_scope o a.base a.strides) (max (2 + length a.strides) mono_depth) b2 b3 own v) ef last))
