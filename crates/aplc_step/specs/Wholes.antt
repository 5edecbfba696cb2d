-- Steppers over whole buffers and tables, whose elements stand in row-major order.
use Rattle.std.specs.Prelude.{◌≡◌, ℕ, ◌+◌, ◌*◌, ◌<◌, ◌≤◌, ◌^◌, List, [], ◌∷◌, ◌++◌, length, true, ℤ, pos}
use Rattle.aplc_arr.specs.Arrays.{product, place}
use Rattle.aplc_cprof.specs.declared.syntax.Int.{Int}
use Rattle.aplc_cprof.specs.declared.syntax.Int.TheVariants as int
use Rattle.aplc_cprof.specs.declared.syntax.Op.TheVariants as op
use Rattle.aplc_cprof.specs.declared.syntax.CExpr.{CExpr}
use Rattle.aplc_cprof.specs.declared.syntax.CExpr.TheVariants as expr
use Rattle.aplc_cprof.specs.declared.syntax.CStmt.{CStmt}
use Rattle.aplc_cprof.specs.declared.syntax.CStmt.TheVariants as stmt
use Rattle.aplc_cprof.specs.Blocks.{Blocks}
use Rattle.aplc_cprof.specs.WellFormed.{Scope, is_int}
use Rattle.aplc_cprof.specs.Machine.{State, Code, Is, read_int}
use Rattle.aplc_cprof.specs.Frames.{AreOld, IsOld, IsFresh, Stays, Hold}
use Rattle.aplc_cprof.specs.Emitted.{no_names, Grown, IsFormed}
use Rattle.aplc_cprof.proofs.Paths.{Does}
use Rattle.aplc_step.specs.Steppers.{AreFresh, StepsOver, HoldInts, zeros}

-- a whole variable is given, and set to the value
abbrev pub with_set : CExpr → Blocks → Blocks
with_set e b = record { outer = b.outer; inner = b.inner ++ stmt.Set (int.Local b.ints) e ∷ []; ints = b.ints + 1; bufs = b.bufs }

-- whether there is an element: no length is 0
abbrev pub some_element : List Int → CExpr
some_element [] = expr.Lit (pos 1)
some_element (x ∷ xs) = expr.Bin op.And (expr.Bin op.Greater (expr.Var x) (expr.Lit (pos 0))) (some_element xs)

-- ---- Products of lengths, all of them 0 where an array has no elements

-- the product of each length and those behind it, times f
abbrev pub products_by : ℕ → List ℕ → List ℤ
products_by f [] = []
products_by f (n ∷ ns) = pos (f * product (n ∷ ns)) ∷ products_by f ns

-- each of them is below 2 ^ 31
abbrev pub AreBelow : ℕ → List ℕ → Type 0
AreBelow f [] = Unit {0}
AreBelow f (n ∷ ns) = (f * product (n ∷ ns) < 2 ^ 31) × AreBelow f ns

-- the variables in front hold them, and v the first one
pub record HoldProducts (n m f : ℕ) (some : Int) (xs : List Int) (ns : List ℕ) (v : Int) (s t : State) : Type 0 where
  pub stays : Stays n m s t
  pub held : HoldInts t xs (products_by f ns)
  pub last : read_int v t ≡ Is (pos (f * product ns))

-- code that sets a fresh variable to each product; they stand before the variables that were there
pub record EmitsProducts (old new : Blocks) (some : Int) (lengths before after : List Int) (v : Int) : Type 0 where
  pub code : List CStmt
  pub grown : Grown code old new
  pub names : List Int
  pub in_front : after ≡ names ++ before
  pub old_names : AreOld new.ints names
  pub fresh_names : AreFresh old.ints new.ints names
  pub old_last : IsOld new.ints v
  pub declared : (sc : Scope) → is_int sc some ≡ true → new.ints ≤ sc.ints → is_int sc v ≡ true
  pub as_many : length names ≡ length lengths
  pub formed : IsFormed no_names (some ∷ lengths) [] new 1 code
  pub runs : (c : Code) (s : State) (ns : List ℕ) (f : ℕ) → Hold s lengths ns → read_int some s ≡ Is (pos f) → f < 2 → AreBelow f ns → Does c (Stays old.ints old.bufs s) (length lengths) code s (HoldProducts old.ints old.bufs f some names ns v s) (λ kind t. ⊥)

-- ---- Row-major order

-- the most steps of the code
abbrev pub whole_steps : ℕ → ℕ
whole_steps rank = 3 + rank

-- Code after which the base and the strides, which are variables of its own, go over an array of the lengths in these
-- variables, whose elements are the first cells in row-major order. It cannot fault, and leaves all else as it was.
pub record MakesStepper (old new : Blocks) (lengths : List Int) (base : Int) (strides : List Int) : Type 0 where
  pub code : List CStmt
  pub grown : Grown code old new
  pub base_given : IsOld new.ints base
  pub strides_given : AreOld new.ints strides
  pub fresh : IsFresh old.ints new.ints base × AreFresh old.ints new.ints strides
  pub as_many : length strides ≡ length lengths
  pub formed : IsFormed no_names lengths [] new (1 + length lengths) code
  pub runs : (c : Code) (s : State) (ns : List ℕ) (size : ℕ) → Hold s lengths ns → product ns ≤ size → size < 2 ^ 31 → Does c (Stays old.ints old.bufs s) (whole_steps (length lengths)) code s (λ t. Stays old.ints old.bufs s t × StepsOver lengths base strides t ns (place ns) size) (λ kind t. ⊥)

-- ---- Extension

-- Code after which the base and the strides go over an array of the lengths in these variables, each of whose elements
-- is the first one of what the other base and strides went over. It cannot fault, and leaves all else as it was.
pub record ExtendsStepper (old new : Blocks) (others : List Int) (base : Int) (widths lengths strides : List Int) : Type 0 where
  pub code : List CStmt
  pub grown : Grown code old new
  pub strides_given : AreOld new.ints strides
  pub as_many : length strides ≡ length lengths
  pub formed : IsFormed no_names [] [] new 0 code
  pub runs : (c : Code) (s : State) (ns ms : List ℕ) (at : List ℕ → ℕ) (size : ℕ) → StepsOver others base widths s ns at size → 0 < product ns → Hold s lengths ms → Does c (Stays old.ints old.bufs s) 1 code s (λ t. Stays old.ints old.bufs s t × StepsOver lengths base strides t ms (λ is. at (zeros ns)) size) (λ kind t. ⊥)
