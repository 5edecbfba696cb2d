-- The elements of an array as cells of a buffer or of a table, by a base and a stride for each axis.
use Rattle.std.specs.Prelude.{◌≡◌, ℕ, ◌+◌, ◌<◌, List, [], ◌∷◌, slice_get, true, Option, Some, None, ℤ, pos, ◌+ℤ◌, ◌*ℤ◌}
use Rattle.aplc_scalar.specs.Scalar.{Given, in_range}
use Rattle.aplc_arr.specs.Arrays.{IsIndexOf}
use Rattle.aplc_cprof.specs.declared.syntax.Int.{Int}
use Rattle.aplc_cprof.specs.declared.syntax.Op.TheVariants as op
use Rattle.aplc_cprof.specs.declared.syntax.CExpr.{CExpr}
use Rattle.aplc_cprof.specs.declared.syntax.CExpr.TheVariants as expr
use Rattle.aplc_cprof.specs.WellFormed.{Scope}
use Rattle.aplc_cprof.specs.Machine.{State, Value, Is, Bad, apply, item_at, read_int}
use Rattle.aplc_cprof.specs.Frames.{IsFresh, contents, Hold}
use Rattle.aplc_cprof.specs.Emitted.{no_names, joint, on_values}
use Rattle.aplc_collect.specs.Elements.{Test, scope_of, scope_of_buf, number_of}
use Rattle.aplc_step.specs.declared.stepper.Origin.{Origin}
use Rattle.aplc_step.specs.declared.stepper.Origin.TheVariants as origin

-- ---- Where the cells stand

-- the cells there, unless they are freed
abbrev pub cells_at : Origin → List (List ℤ) → State → Option (List ℤ)
cells_at (origin.Buffer p) tables s = contents p s
cells_at (origin.Table k) tables s = slice_get tables k

abbrev pub origin_scope : Origin → Scope
origin_scope (origin.Buffer p) = scope_of_buf p
origin_scope (origin.Table k) = record no_names { tables = k + 1 }

abbrev pub origin_expr : Origin → CExpr → CExpr
origin_expr (origin.Buffer p) e = expr.Cell p e
origin_expr (origin.Table k) e = expr.Table k e

-- the names of the variables
abbrev pub scope_of_all : List Int → Scope
scope_of_all [] = no_names
scope_of_all (x ∷ xs) = joint (scope_of x) (scope_of_all xs)

-- local variables, not given before the n-th, and given before the m-th
abbrev pub AreFresh : ℕ → ℕ → List Int → Type 0
AreFresh n m [] = Unit {0}
AreFresh n m (x ∷ xs) = IsFresh n m x × AreFresh n m xs

abbrev pub stepper_scope : Origin → Int → List Int → Scope
stepper_scope from base strides = joint (origin_scope from) (joint (scope_of base) (scope_of_all strides))

-- ---- The element, as the machine computes it

-- the place, by adding each stride times its index
abbrev pub address_expr : CExpr → List Int → List Int → CExpr
address_expr e [] at = e
address_expr e (x ∷ xs) [] = e
address_expr e (x ∷ xs) (i ∷ at) = address_expr (expr.Bin op.Add e (on_values op.Mul i x)) xs at

abbrev pub address_value : State → Value → List Int → List ℕ → Value
address_value s a [] is = a
address_value s a (x ∷ xs) [] = a
address_value s a (x ∷ xs) (i ∷ is) = address_value s (apply op.Add a (apply op.Mul (Is (pos i)) (read_int x s))) xs is

abbrev pub cell_at : Option (List ℤ) → Value → Option Given
cell_at None a = None
cell_at (Some cells) (Bad c) = None
cell_at (Some cells) (Is k) = number_of (item_at cells k)

-- the cell there, or none where the place can't be computed or has none
abbrev pub stepper_test : Origin → Int → List Int → Test
stepper_test from base strides tables s is = cell_at (cells_at from tables s) (address_value s (read_int base s) strides is)

-- ---- The element, as an array has it

-- the base and each stride times its index
abbrev pub address : ℤ → List ℤ → List ℕ → ℤ
address base [] is = base
address base (s ∷ ss) [] = base
address base (s ∷ ss) (i ∷ is) = address (base +ℤ pos i *ℤ s) ss is

-- the variables hold these numbers
abbrev pub HoldInts : State → List Int → List ℤ → Type 0
HoldInts s [] [] = Unit {0}
HoldInts s [] (z ∷ zs) = ⊥
HoldInts s (x ∷ xs) [] = ⊥
HoldInts s (x ∷ xs) (z ∷ zs) = (read_int x s ≡ Is z) × HoldInts s xs zs

-- as many numbers as lengths
abbrev pub AreAxes : List ℤ → List ℕ → Type 0
AreAxes [] [] = Unit {0}
AreAxes [] (n ∷ ns) = ⊥
AreAxes (z ∷ zs) [] = ⊥
AreAxes (z ∷ zs) (n ∷ ns) = AreAxes zs ns

-- In this state the stepper goes over an array of the shape ns: the element at each multi-index is the cell at its
-- place, and there are more cells than the place.
pub record StepsOver (lengths : List Int) (base : Int) (strides : List Int) (s : State) (ns : List ℕ) (place : List ℕ → ℕ) (size : ℕ) : Type 0 where
  pub shape : Hold s lengths ns
  pub first : ℤ
  pub widths : List ℤ
  pub base_is : read_int base s ≡ Is first
  pub strides_are : HoldInts s strides widths
  pub axes : AreAxes widths ns
  pub at_place : (is : List ℕ) → IsIndexOf ns is → address first widths is ≡ pos (place is)
  pub below : (is : List ℕ) → IsIndexOf ns is → place is < size

abbrev pub AreInRange : List ℤ → Type 0
AreInRange cells = (k : ℕ) (x : ℤ) → slice_get cells k ≡ Some x → in_range x ≡ true

-- the first multi-index of a shape
abbrev pub zeros : List ℕ → List ℕ
zeros [] = []
zeros (n ∷ ns) = 0 ∷ zeros ns
