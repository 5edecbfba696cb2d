-- Copies of values that stand in memory.
use Rattle.std.proofs.Common.{◌≡◌, ◌+◌, ◌≤◌, List, [], length, refl, sym, ap, ◌∙◌, subst, arith, ℤ}
use Rattle.std.specs.Prelude.{Ok, Err, IfOk, true}
use Rattle.aplc_scalar.specs.declared.kind.Kind.{Kind}
use Rattle.aplc_scalar.specs.Scalar.{in_range}
use Rattle.aplc_arr.specs.Arrays.{Array, IsArray, at}
use Rattle.aplc_arr.specs.Delayed.{Prepared, computed}
use Rattle.aplc_arr.proofs.Keeping.{cell-of, ranked, keeps-whole}
use Rattle.aplc_cprof.specs.declared.syntax.Int.{Int}
use Rattle.aplc_cprof.specs.Blocks.{Blocks}
use Rattle.aplc_cprof.specs.Machine.{State, Code}
use Rattle.aplc_cprof.specs.Frames.{AreGiven}
use Rattle.aplc_cprof.proofs.Paths.{Does}
use Rattle.aplc_collect.specs.Elements.{Emits, scope_of, number_of, scalar_test, one_step}
use Rattle.aplc_step.specs.declared.stepper.Origin.{Origin}
use Rattle.aplc_step.specs.declared.stepper.Stepper.{Stepper}
use Rattle.aplc_step.specs.Steppers.{stepper_test, stepper_scope}
use Rattle.aplc_step.specs.Wholes.{MakesStepper}
use Rattle.aplc_stage.specs.declared.staged.Staged.{Staged}
use Rattle.aplc_stage.specs.declared.staged.Staged.TheVariants as staged
use Rattle.aplc_stage.specs.Staged.{scope_of_staged}
use Rattle.aplc_stage.specs.Computes.{Making, cells_of_prepared, most_steps, Comes, Faults, Computes, CopyOf, itself}
use Rattle.aplc_stage.specs.Pieces.{OwnLengths, Gathers}
use Rattle.aplc_stage.proofs.Elements.{cells_in, in_some}
use Rattle.aplc_stage.proofs.Scalars.{one_number, one_given, scalar_is, scalar_runs}
use Rattle.aplc_stage.proofs.Ones.{ArgumentOf, computes_from, one_cells}

keeps_itself : (a : Array) → IsArray a → IfOk (computed (itself a)) IsArray
keeps_itself a h = keeps-whole a a.shape (at a) h.fits (ranked h) (λ is. cell-of a _ h)

-- ---- A number

few_steps : (p : Prepared) → 1 ≤ most_steps 0 p
few_steps (Ok d) = omega arith
few_steps (Err e) = omega arith

copied : (kind : Kind) (z : ℤ) → computed (itself (one_number kind z)) ≡ one_given kind (Ok z)
copied kind z = refl

pub copy_number : (b0 b1 : Blocks) (x v : Int) → Emits (scalar_test x) one_step (scope_of x) 0 b0 b1 [] v → Computes (CopyOf (staged.Scalar x)) (scope_of x) 0 b0 b1 (staged.Scalar v)
copy_number b0 b1 x v em = record {
  code = em.code;
  grown = em.grown;
  formed = λ sc room within are bufs more more_bufs le. em.formed sc room within are bufs more more_bufs (omega arith);
  fresh = em.fresh;
  ranked = tt;
  axes = refl;
  runs = λ c s p from. number_runs c s p from;
}
  where
    number_runs : (c : Code) (s : State) (p : Prepared) → CopyOf (staged.Scalar x) c.tables s p → Does c (Making b0.ints b0.bufs (cells_of_prepared p) s) (most_steps 0 p) em.code s (Comes c.tables b0.ints b0.bufs (staged.Scalar v) p s) (Faults b0.ints b0.bufs p s)
    number_runs c s p from =
        let a = from.argument in
        let z = from.holds.cells.0 in
        let is : a ≡ one_number a.kind z = scalar_is c.tables s x a from.holds in
        let given : computed p ≡ one_given a.kind (Ok z) = ap computed from.prepared ∙ ap (λ (b : Array). computed (itself b)) is ∙ copied a.kind z in
        let keeps : IfOk (computed p) IsArray = subst (λ (q : Prepared). IfOk (computed q) IsArray) (sym from.prepared) (keeps_itself a from.holds.array) in
        let inside : in_range z ≡ true = cells_in (one_number a.kind z) (subst IsArray is from.holds.array) 0 z refl in
        scalar_runs c b0.ints b0.bufs 1 0 em.code s v a.kind (Ok z) p given keeps (few_steps p)
        (em.runs c s [] (Ok z) tt (ap number_of from.holds.cells.2 ∙ in_some (in_range z) z inside))

-- ---- The cells of an array

pub copy_cells : (from : Origin) (lengths own : List Int) (a : Stepper) (b0 b1 b2 b3 : Blocks) (v : Staged) → 1 ≤ length lengths → AreGiven (scope_of_staged (staged.Cells from lengths)) b0 → OwnLengths b0 b1 lengths own → a.from ≡ from → MakesStepper b1 b2 lengths a.base a.strides → Gathers (stepper_test a.from a.base a.strides) one_step (stepper_scope a.from a.base a.strides) (2 + length a.strides) b2 b3 own v → Computes (CopyOf (staged.Cells from lengths)) (scope_of_staged (staged.Cells from lengths)) (length lengths) b0 b3 v
copy_cells from lengths own a b0 b1 b2 b3 v some given lens ef over last =
    let x : Staged = staged.Cells from lengths in
    let many = over.as_many in
    computes_from (ArgumentOf itself (λ b. Unit {0}) x) (CopyOf x) (scope_of_staged x) (length lengths) b0 b3 v
    (λ tables s p h. record { argument = h.argument; holds = h.holds; suits = tt; prepared = h.prepared })
    (one_cells itself (λ b. Unit {0}) (λ b. b.kind) (λ z. Ok z) (λ b h. refl) keeps_itself from lengths own a.strides a.base b0 b1 b2 given lens over (stepper_test from a.base a.strides) one_step
    (λ tables t is z e. e) (λ tables t. omega arith) (2 + length a.strides) b3 v some (omega (arith, many))
    (subst (λ (o : Origin). Gathers (stepper_test o a.base a.strides) one_step (stepper_scope o a.base a.strides) (2 + length a.strides) b2 b3 own v) ef last))
