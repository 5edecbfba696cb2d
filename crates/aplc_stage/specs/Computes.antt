-- What code does that makes a value of others: it has an array of its own then, or ended with the fault of the definition.
use Rattle.std.specs.Prelude.{◌≡◌, ℕ, ◌+◌, ◌*◌, ◌<◌, ◌≤◌, List, [], ◌∷◌, ◌++◌, length, Option, Some, None, Ok, Err, slice_set, sum_by, ℤ}
use Rattle.aplc_scalar.specs.declared.kind.Kind.{Kind}
use Rattle.aplc_scalar.specs.declared.kind.Kind.TheVariants.{Num}
use Rattle.aplc_scalar.specs.declared.kind.FaultKind.{FaultKind}
use Rattle.aplc_scalar.specs.declared.function.ScalarFn.{ScalarFn}
use Rattle.aplc_arr.specs.Arrays.{Array, product, at}
use Rattle.aplc_arr.specs.Delayed.{Prepared, computed, moved}
use Rattle.aplc_arr.specs.Each.{each_monadic, each_dyadic}
use Rattle.aplc_cprof.specs.declared.syntax.Buf.{Buf}
use Rattle.aplc_cprof.specs.declared.syntax.Buf.TheVariants as buf
use Rattle.aplc_cprof.specs.declared.syntax.CStmt.{CStmt}
use Rattle.aplc_cprof.specs.Blocks.{Blocks}
use Rattle.aplc_cprof.specs.WellFormed.{Scope}
use Rattle.aplc_cprof.specs.Machine.{State, Code, named_buf, cells_of, held}
use Rattle.aplc_cprof.specs.Frames.{IsFresh, Stays}
use Rattle.aplc_cprof.specs.Emitted.{Grown, IsFormed}
use Rattle.aplc_cprof.proofs.Paths.{Does}
use Rattle.aplc_step.specs.declared.stepper.Origin.TheVariants as origin
use Rattle.aplc_step.specs.Steppers.{AreFresh}
use Rattle.aplc_stage.specs.declared.staged.Staged.{Staged}
use Rattle.aplc_stage.specs.declared.staged.Staged.TheVariants as staged
use Rattle.aplc_stage.specs.Staged.{IsRanked, rank_of, Holds}

-- ---- States

-- other buffers
abbrev pub with_heap : List (Option (List ℤ)) → State → State
with_heap heap s = record s { heap = heap }

-- All that stood before the n-th whole variable and the m-th buffer variable were given is as it was, but there may be
-- buffers behind the others, which hold at most so many cells.
pub record Making (n m size : ℕ) (s t : State) : Type 0 where
  pub more : List (Option (List ℤ))
  pub stays : Stays n m (with_heap (s.heap ++ more) s) t
  pub held_more : sum_by cells_of more ≤ size

-- the buffers that a value needs beside those that are there
abbrev pub buffers_for : Staged → List ℤ → List (Option (List ℤ))
buffers_for (staged.Scalar x) zs = []
buffers_for (staged.Cells from lengths) zs = Some zs ∷ []

-- the cells that an array of this shape takes: none where it is a scalar, which is in a variable
abbrev pub cells_for : List ℕ → ℕ
cells_for [] = 0
cells_for (n ∷ ns) = product (n ∷ ns)

-- a value with cells has the buffer of this number
abbrev pub IsIn : Staged → ℕ → State → Type 0
IsIn (staged.Scalar x) b s = Unit {0}
IsIn (staged.Cells (origin.Buffer p) lengths) b s = named_buf p s ≡ Some b
IsIn (staged.Cells (origin.Table k) lengths) b s = ⊥

-- The array stands there: in a variable, or in one buffer more, which is the one behind all others. All that was given
-- before is as it was.
pub record Made (tables : List (List ℤ)) (n m : ℕ) (x : Staged) (a : Array) (s t : State) : Type 0 where
  pub stays : Stays n m (with_heap (s.heap ++ buffers_for x a.cells) s) t
  pub holds : Holds tables t x a
  pub place : IsIn x (length s.heap) t
  pub held_more : held t ≡ held s + cells_for a.shape

-- ---- Names

-- a local buffer variable, not given before the n-th, and given before the m-th
abbrev pub IsFreshBuf : ℕ → ℕ → Buf → Type 0
IsFreshBuf n m (buf.Local k) = (n ≤ k) × (k < m)
IsFreshBuf n m (buf.Global k) = ⊥

-- it is in variables that were given between the two, and is no table
abbrev pub IsNew : Blocks → Blocks → Staged → Type 0
IsNew old new (staged.Scalar x) = IsFresh old.ints new.ints x
IsNew old new (staged.Cells (origin.Buffer p) lengths) = IsFreshBuf old.bufs new.bufs p × AreFresh old.ints new.ints lengths
IsNew old new (staged.Cells (origin.Table k) lengths) = ⊥

-- ---- The code

-- The cells that are taken on the way, of what the first step of a primitive gives.
abbrev pub cells_of_prepared : Prepared → ℕ
cells_of_prepared (Ok d) = cells_for d.shape
cells_of_prepared (Err e) = 0

-- the most steps of code without the elements, for a value of this rank
abbrev pub shape_steps : ℕ → ℕ
shape_steps rank = 5 * rank + 24

-- the most steps of the code of a value of this rank: they rise with the number of elements
abbrev pub most_steps : ℕ → Prepared → ℕ
most_steps rank (Ok d) = product d.shape * (4 * rank + 8) + shape_steps rank
most_steps rank (Err e) = shape_steps rank

-- how deep it nests
abbrev pub code_depth : ℕ → ℕ
code_depth rank = 8 + 2 * rank

-- the array of the definition stands there
pub record Comes (tables : List (List ℤ)) (n m : ℕ) (x : Staged) (p : Prepared) (s t : State) : Type 0 where
  pub array : Array
  pub given : computed p ≡ Ok array
  pub made : Made tables n m x array s t

-- the fault is that of the definition
pub record Faults (n m : ℕ) (p : Prepared) (s : State) (k : FaultKind) (t : State) : Type 0 where
  pub stays : Making n m (cells_of_prepared p) s t
  pub given : computed p ≡ Err k

-- Code was added that makes the value x. From every state in which `From` says what is to be computed it comes to the
-- array of that in x, or ends with its fault. x has new names, and the rank is known when compiling.
pub record Computes (From : List (List ℤ) → State → Prepared → Type 0) (g : Scope) (rank : ℕ) (old new : Blocks) (x : Staged) : Type 0 where
  pub code : List CStmt
  pub grown : Grown code old new
  pub formed : IsFormed g [] [] new (code_depth rank) code
  pub fresh : IsNew old new x
  pub ranked : IsRanked x
  pub axes : rank_of x ≡ rank
  pub runs : (c : Code) (s : State) (p : Prepared) → From c.tables s p → Does c (Making old.ints old.bufs (cells_of_prepared p) s) (most_steps rank p) code s (Comes c.tables old.ints old.bufs x p s) (Faults old.ints old.bufs p s)

-- ---- What is to be computed

-- a function of one argument, which holds numbers
pub record MonadicOf (f : ScalarFn) (x : Staged) (tables : List (List ℤ)) (s : State) (p : Prepared) : Type 0 where
  pub argument : Array
  pub holds : Holds tables s x argument
  pub kind : argument.kind ≡ Num
  pub prepared : p ≡ each_monadic f argument

-- a function of two arguments of these kinds
pub record DyadicOf (f : ScalarFn) (k : Kind) (x : Staged) (l : Kind) (y : Staged) (tables : List (List ℤ)) (s : State) (p : Prepared) : Type 0 where
  pub left : Array
  pub right : Array
  pub left_holds : Holds tables s x left
  pub right_holds : Holds tables s y right
  pub left_kind : left.kind ≡ k
  pub right_kind : right.kind ≡ l
  pub prepared : p ≡ each_dyadic f left right

-- the array itself
abbrev pub itself : Array → Prepared
itself a = moved a.kind a.shape (at a)

pub record CopyOf (x : Staged) (tables : List (List ℤ)) (s : State) (p : Prepared) : Type 0 where
  pub argument : Array
  pub holds : Holds tables s x argument
  pub prepared : p ≡ itself argument

-- ---- Freeing

-- the value's buffer is freed, if it has one, and all else is as it was
abbrev pub Freed : ℕ → ℕ → Staged → Array → State → State → Type 0
Freed n m (staged.Cells (origin.Buffer p) lengths) a s t =
    (b : ℕ) × (named_buf p s ≡ Some b) × Stays n m (with_heap (slice_set s.heap b None) s) t × (held t + cells_for a.shape ≡ held s)
Freed n m x a s t = Stays n m s t

-- all that was given before is as it was, but buffers may be freed
pub record Freeing (n m : ℕ) (s t : State) : Type 0 where
  pub heap : List (Option (List ℤ))
  pub stays : Stays n m (with_heap heap s) t
  pub held_less : held t ≤ held s

-- no fault comes
abbrev pub NoFault : FaultKind → State → Type 0
NoFault k t = ⊥

-- Code was added that frees the buffer of a value. It does nothing for a value in a variable or in a table.
pub record Frees (g : Scope) (old new : Blocks) (x : Staged) : Type 0 where
  pub code : List CStmt
  pub grown : Grown code old new
  pub names : (new.ints ≡ old.ints) × (new.bufs ≡ old.bufs)
  pub formed : IsFormed g [] [] new 0 code
  pub runs : (c : Code) (s : State) (a : Array) → Holds c.tables s x a → Does c (Freeing old.ints old.bufs s) 1 code s (Freed old.ints old.bufs x a s) NoFault
