-- What code that fills a buffer does.
use Rattle.std.specs.Prelude.{◌≡◌, ℕ, ◌+◌, ◌*◌, ◌<◌, ◌≤◌, ◌^◌, List, [], ◌∷◌, ◌++◌, length, Some, slice_get, slice_set, drop, ℤ, Result, Ok, Err}
use Rattle.aplc_scalar.specs.declared.kind.Kind.TheVariants.{Num}
use Rattle.aplc_scalar.specs.declared.kind.FaultKind.{FaultKind}
use Rattle.aplc_scalar.specs.Scalar.{Given}
use Rattle.aplc_arr.specs.Arrays.{product, IsIndexOf}
use Rattle.aplc_arr.specs.Delayed.{cells_of}
use Rattle.aplc_cprof.specs.declared.syntax.Int.{Int}
use Rattle.aplc_cprof.specs.declared.syntax.Buf.{Buf}
use Rattle.aplc_cprof.specs.declared.syntax.CStmt.{CStmt}
use Rattle.aplc_cprof.specs.Blocks.{Blocks}
use Rattle.aplc_cprof.specs.WellFormed.{Scope}
use Rattle.aplc_cprof.specs.Machine.{State, Code, named_buf, held}
use Rattle.aplc_cprof.specs.Frames.{around_of, with_buffer, Hold}
use Rattle.aplc_cprof.specs.Emitted.{IsFormed, Grown}
use Rattle.aplc_cprof.proofs.Paths.{Does}
use Rattle.aplc_collect.specs.Elements.{Test, Steps}

-- ---- The array

-- the elements of an array of this shape in row-major order, or the fault of the first one that has one
abbrev pub elements : List ℕ → (List ℕ → Given) → Result (List ℤ) FaultKind
elements ns item = cells_of record { kind = Num; shape = ns; element = item }

-- Whatever the buffer b of so many cells holds, code stands in this state for an array of the shape ns with these
-- elements, and takes at most k steps for each.
pub record Stands (test : Test) (steps : Steps) (tables : List (List ℤ)) (s : State) (b size : ℕ) (ns : List ℕ) (k : ℕ) (item : List ℕ → Given) : Type 0 where
  pub takes : (other : List ℤ) → length other ≡ size → steps tables (with_buffer b other s) ≤ k
  pub items : (other : List ℤ) → length other ≡ size → (is : List ℕ) → IsIndexOf ns is → test tables (with_buffer b other s) is ≡ Some (item is)

-- lengths of an array, each below 2 ^ 31
abbrev pub AreShort : List ℕ → Type 0
AreShort [] = Unit {0}
AreShort (n ∷ ns) = (n < 2 ^ 31) × AreShort ns

-- ---- The states

-- All but the cells of the buffer b is as it was before the n-th whole variable and the m-th buffer variable were
-- given, and as many cells are held.
pub record CellsAlone (n m b size : ℕ) (s t : State) : Type 0 where
  pub ints : (x : ℕ) → x < n → t.ints x ≡ s.ints x
  pub bufs : (p : ℕ) → p < m → t.bufs p ≡ s.bufs p
  pub around : around_of t ≡ around_of s
  pub cells : List ℤ
  pub as_many : length cells ≡ size
  pub heap : t.heap ≡ slice_set s.heap b (Some cells)
  pub none_beside : held t ≡ held s

-- the first cells of the buffer are the elements, and those behind them are as they were
pub record FilledWith (n m b size : ℕ) (cells : List ℤ) (ns : List ℕ) (item : List ℕ → Given) (s t : State) : Type 0 where
  pub stays : CellsAlone n m b size s t
  pub values : List ℤ
  pub given : elements ns item ≡ Ok values
  pub as_written : stays.cells ≡ values ++ drop (length values) cells

-- the fault is that of the first element that has one
pub record FirstFault (n m b size : ℕ) (ns : List ℕ) (item : List ℕ → Given) (s : State) (k : FaultKind) (t : State) : Type 0 where
  pub stays : CellsAlone n m b size s t
  pub given : elements ns item ≡ Err k

-- ---- The code

-- The most steps of filling an array of this shape, with k for each element. There are two where it has no elements,
-- whatever its lengths are.
abbrev pub fill_steps : List ℕ → ℕ → ℕ
fill_steps ns k = product ns * (k + 4 * length ns + 2) + 2

-- the nesting beside that of an element's code
abbrev pub fill_depth : ℕ → ℕ → ℕ
fill_depth rank depth = 2 + depth + rank

-- code that fills a buffer with the elements of an array of the lengths in these variables
pub record Fills (test : Test) (steps : Steps) (g : Scope) (depth : ℕ) (old new : Blocks) (lengths : List Int) (into : Buf) : Type 0 where
  pub code : List CStmt
  pub grown : Grown code old new
  pub formed : IsFormed g lengths (into ∷ []) new (fill_depth (length lengths) depth) code
  pub runs : (c : Code) (s : State) (ns : List ℕ) (b size : ℕ) (cells : List ℤ) (k : ℕ) (item : List ℕ → Given) → Hold s lengths ns → AreShort ns → named_buf into s ≡ Some b → slice_get s.heap b ≡ Some (Some cells) → length cells ≡ size → product ns ≤ size → size < 2 ^ 31 → Stands test steps c.tables s b size ns k item → Does c (CellsAlone old.ints old.bufs b size s) (fill_steps ns k) code s (FilledWith old.ints old.bufs b size cells ns item s) (FirstFault old.ints old.bufs b size ns item s)
