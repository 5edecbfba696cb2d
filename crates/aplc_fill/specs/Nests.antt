-- What the code of a nest of loops does that fills a part of a buffer.
use Rattle.std.specs.Prelude.{◌≡◌, ℕ, zero, suc, ◌+◌, ◌*◌, ◌<◌, ◌≤◌, ◌^◌, List, [], ◌∷◌, ◌++◌, length, Some, slice_get, ℤ, pos, Ok, Err}
use Rattle.std.proofs.Math.Seq.{sets}
use Rattle.aplc_scalar.specs.declared.kind.FaultKind.{FaultKind}
use Rattle.aplc_scalar.specs.Scalar.{Given}
use Rattle.aplc_arr.specs.Arrays.{product, IsIndexOf}
use Rattle.aplc_arr.specs.Delayed.{all_given}
use Rattle.aplc_cprof.specs.declared.syntax.Int.{Int}
use Rattle.aplc_cprof.specs.declared.syntax.Int.TheVariants as int
use Rattle.aplc_cprof.specs.declared.syntax.Buf.{Buf}
use Rattle.aplc_cprof.specs.declared.syntax.Op.TheVariants as op
use Rattle.aplc_cprof.specs.declared.syntax.CExpr.{CExpr}
use Rattle.aplc_cprof.specs.declared.syntax.CExpr.TheVariants as expr
use Rattle.aplc_cprof.specs.declared.syntax.CStmt.{CStmt}
use Rattle.aplc_cprof.specs.Blocks.{Blocks}
use Rattle.aplc_cprof.specs.WellFormed.{Scope}
use Rattle.aplc_cprof.specs.Machine.{State, Code, named_buf}
use Rattle.aplc_cprof.specs.Frames.{with_buffer, Filling, Hold}
use Rattle.aplc_cprof.specs.Emitted.{IsFormed, Grown}
use Rattle.aplc_cprof.proofs.Paths.{Does}
use Rattle.aplc_collect.specs.Elements.{Test, Steps}
use Rattle.aplc_fill.specs.Fills.{AreShort}

-- whether there is an element: no length is 0
abbrev pub some_element : List Int → CExpr
some_element [] = expr.Lit (pos 1)
some_element (x ∷ xs) = expr.Bin op.And (expr.Bin op.Greater (expr.Var x) (expr.Lit (pos 0))) (some_element xs)

-- ---- The elements, one axis after the other

-- f 0, then f 1, .., then f (n - 1)
abbrev pub joined : {A : Type 0} → (ℕ → List A) → ℕ → List A
joined f zero = []
joined f (suc n) = joined f n ++ f n

-- the elements at all multi-indices, where the last axis runs fastest
abbrev pub row_major : {A : Type 0} → List ℕ → (List ℕ → A) → List A
row_major [] item = item [] ∷ []
row_major (n ∷ ns) item = joined (λ i. row_major ns (λ is. item (i ∷ is))) n

-- whatever the buffer b holds, code stands for these elements at the multi-indices that begin with `before`
pub record StandsBehind (test : Test) (steps : Steps) (tables : List (List ℤ)) (s : State) (b size : ℕ) (before ns : List ℕ) (k : ℕ) (item : List ℕ → Given) : Type 0 where
  pub takes : (other : List ℤ) → length other ≡ size → steps tables (with_buffer b other s) ≤ k
  pub items : (other : List ℤ) → length other ≡ size → (is : List ℕ) → IsIndexOf ns is → test tables (with_buffer b other s) (before ++ is) ≡ Some (item is)

-- ---- The nest

-- the most steps of a nest of loops over these lengths
abbrev pub nest_steps : List ℕ → ℕ → ℕ
nest_steps [] k = k + 2
nest_steps (n ∷ ns) k = n * (nest_steps ns k + 2) + 2

-- the elements stand from place p on, the variable q holds the place after them, all else stays
pub record Filled (n m q b p size : ℕ) (cells : List ℤ) (ns : List ℕ) (item : List ℕ → Given) (s t : State) : Type 0 where
  pub stays : Filling n m q b size s t
  pub place : t.ints q ≡ Some (pos (p + product ns))
  pub values : List ℤ
  pub given : all_given (row_major ns item) ≡ Ok values
  pub as_written : stays.cells ≡ sets cells p values

-- the fault is that of the first element that has one
pub record FillFails (n m q b size : ℕ) (ns : List ℕ) (item : List ℕ → Given) (s : State) (k : FaultKind) (t : State) : Type 0 where
  pub stays : Filling n m q b size s t
  pub given : all_given (row_major ns item) ≡ Err k

-- The code writes the elements at all multi-indices that begin with `before`, from place p on. What stood before the
-- n-th whole variable and the m-th buffer variable stays.
abbrev pub NestRuns : Code → Test → Steps → ℕ → ℕ → ℕ → List Int → List Int → Buf → List CStmt → Type 0
NestRuns c test steps n m q at lengths into code =
    (s : State) (before ns : List ℕ) (b p size : ℕ) (cells : List ℤ) (k : ℕ) (item : List ℕ → Given) → Hold s at before → Hold s lengths ns → AreShort ns → s.ints q ≡ Some (pos p) → named_buf into s ≡ Some b → slice_get s.heap b ≡ Some (Some cells) → length cells ≡ size → p + product ns ≤ size → size < 2 ^ 31 → StandsBehind test steps c.tables s b size before ns k item → Does c (Filling n m q b size s) (nest_steps ns k) code s (Filled n m q b p size cells ns item s) (FillFails n m q b size ns item s)

-- code that writes the elements at all multi-indices that begin with those in `at`, from the place in q on
pub record FillsNest (test : Test) (steps : Steps) (g : Scope) (depth : ℕ) (old new : Blocks) (at lengths : List Int) (into : Buf) (q : ℕ) : Type 0 where
  pub code : List CStmt
  pub grown : Grown code old new
  pub formed : IsFormed g (int.Local q ∷ at ++ lengths) (into ∷ []) new (1 + depth + length lengths) code
  pub runs : (c : Code) → NestRuns c test steps old.ints old.bufs q at lengths into code
