-- Arrays that stand in memory while code runs.
use Rattle.std.specs.Prelude.{◌≡◌, ℕ, ◌≤◌, List, [], ◌∷◌, length, Some, ℤ}
use Rattle.aplc_arr.specs.Arrays.{Array, IsArray}
use Rattle.aplc_cprof.specs.declared.syntax.Int.{Int}
use Rattle.aplc_cprof.specs.WellFormed.{Scope}
use Rattle.aplc_cprof.specs.Machine.{State, Is, read_int}
use Rattle.aplc_cprof.specs.Frames.{Hold}
use Rattle.aplc_cprof.specs.Emitted.{joint}
use Rattle.aplc_collect.specs.Elements.{scope_of}
use Rattle.aplc_step.specs.Steppers.{cells_at, origin_scope, scope_of_all}
use Rattle.aplc_stage.specs.declared.staged.Staged.{Staged}
use Rattle.aplc_stage.specs.declared.staged.Staged.TheVariants as staged

-- ---- What is known when compiling

-- the variables of its lengths, one for each axis
abbrev pub lengths_of : Staged → List Int
lengths_of (staged.Scalar x) = []
lengths_of (staged.Cells from lengths) = lengths

-- how many axes it has
abbrev pub rank_of : Staged → ℕ
rank_of x = length (lengths_of x)

-- what has no axis is in a variable
abbrev pub IsRanked : Staged → Type 0
IsRanked (staged.Scalar x) = Unit {0}
IsRanked (staged.Cells from lengths) = 1 ≤ length lengths

-- its names
abbrev pub scope_of_staged : Staged → Scope
scope_of_staged (staged.Scalar x) = scope_of x
scope_of_staged (staged.Cells from lengths) = joint (origin_scope from) (scope_of_all lengths)

-- ---- What it stands for

-- it has these cells in this state, with the tables
abbrev pub HasCells : List (List ℤ) → State → Staged → List ℤ → Type 0
HasCells tables s (staged.Scalar x) zs = (z : ℤ) × (zs ≡ z ∷ []) × (read_int x s ≡ Is z)
HasCells tables s (staged.Cells from lengths) zs = cells_at from tables s ≡ Some zs

-- The array stands there in this state: an array of the language, the variables hold its lengths, and the cells are its
-- elements in row-major order, just as many.
pub record Holds (tables : List (List ℤ)) (s : State) (x : Staged) (a : Array) : Type 0 where
  pub array : IsArray a
  pub shape : Hold s (lengths_of x) a.shape
  pub cells : HasCells tables s x a.cells
