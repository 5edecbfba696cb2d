-- What the emitted code of an element does.
use Rattle.std.specs.Prelude.{◌≡◌, ℕ, ◌+◌, List, [], Option, Some, None, ℤ, Ok, Err, if◌then◌else◌}
use Rattle.aplc_scalar.specs.declared.kind.FaultKind.{FaultKind}
use Rattle.aplc_scalar.specs.Scalar.{Given, IsInRange, in_range}
use Rattle.aplc_cprof.specs.declared.syntax.Int.{Int}
use Rattle.aplc_cprof.specs.declared.syntax.Int.TheVariants as int
use Rattle.aplc_cprof.specs.declared.syntax.Buf.{Buf}
use Rattle.aplc_cprof.specs.declared.syntax.Buf.TheVariants as buf
use Rattle.aplc_cprof.specs.declared.syntax.CStmt.{CStmt}
use Rattle.aplc_cprof.specs.Blocks.{Blocks}
use Rattle.aplc_cprof.specs.WellFormed.{Scope}
use Rattle.aplc_cprof.specs.Machine.{State, Code, Value, Is, Bad, read_int}
use Rattle.aplc_cprof.specs.Frames.{IsFresh, Stays, SameSeen, Hold}
use Rattle.aplc_cprof.specs.Emitted.{Grown, no_names, IsFormed}
use Rattle.aplc_cprof.proofs.Paths.{Does}

-- ---- Tests

-- The element that code stands for, with the tables, in a state, at a multi-index; None where it stands for none there.
abbrev pub Test : Type 0
Test = List (List ℤ) → State → List ℕ → Option Given

-- the most steps of the code, with the tables, from a state
abbrev pub Steps : Type 0
Steps = List (List ℤ) → State → ℕ

-- they look only at these names and their buffers, and at the tables
pub record ReadsWithin (g : Scope) (test : Test) (steps : Steps) : Type 0 where
  pub same : (tables : List (List ℤ)) (s t : State) → SameSeen g s t → (is : List ℕ) → test tables t is ≡ test tables s is
  pub same_steps : (tables : List (List ℤ)) (s t : State) → SameSeen g s t → steps tables t ≡ steps tables s

-- each number of the array is one of the machine's
pub record GivesInRange (test : Test) : Type 0 where
  pub within : (tables : List (List ℤ)) (s : State) (is : List ℕ) (x : ℤ) → test tables s is ≡ Some (Ok x) → IsInRange x

-- ---- Code

-- the variable holds the number, and all else stays
pub record Computed (n m : ℕ) (s : State) (v : Int) (r : Given) (t : State) : Type 0 where
  pub stays : Stays n m s t
  pub value : ℤ
  pub given : r ≡ Ok value
  pub is : read_int v t ≡ Is value

-- the fault is that of the element, and all stays
pub record Failed (n m : ℕ) (s : State) (r : Given) (k : FaultKind) (t : State) : Type 0 where
  pub stays : Stays n m s t
  pub given : r ≡ Err k

-- In at most k steps the code sets v to the number, or faults as is given. On the way, too, all stays that stood before
-- the n-th whole variable and the m-th buffer variable were given.
abbrev pub Yields : Code → ℕ → ℕ → ℕ → List CStmt → State → Int → Given → Type 0
Yields c n m k code s v r = Does c (Stays n m s) k code s (Computed n m s v r) (Failed n m s r)

-- Code that sets the fresh variable v to the element at the multi-index in the variables `at`: from each state in which
-- there is one. So it is never stuck there.
pub record Emits (test : Test) (steps : Steps) (g : Scope) (depth : ℕ) (old new : Blocks) (at : List Int) (v : Int) : Type 0 where
  pub code : List CStmt
  pub grown : Grown code old new
  pub fresh : IsFresh old.ints new.ints v
  pub formed : IsFormed g at [] new depth code
  pub runs : (c : Code) (s : State) (is : List ℕ) (r : Given) → Hold s at is → test c.tables s is ≡ Some r → Yields c old.ints old.bufs (steps c.tables s) code s v r

-- ---- Numbers in variables

-- the least scope of a name
abbrev pub scope_of : Int → Scope
scope_of (int.Local k) = record no_names { ints = k + 1 }
scope_of (int.Global k) = record no_names { global_ints = k + 1 }

abbrev pub scope_of_buf : Buf → Scope
scope_of_buf (buf.Local k) = record no_names { bufs = k + 1 }
scope_of_buf (buf.Global k) = record no_names { global_bufs = k + 1 }

-- a number of the machine's range, or none
abbrev pub number_of : Value → Option Given
number_of (Bad c) = None
number_of (Is v) = if in_range v then Some (Ok v) else None

-- the number in a variable, at every multi-index
abbrev pub scalar_test : Int → Test
scalar_test x tables s is = number_of (read_int x s)

abbrev pub one_step : Steps
one_step tables s = 1
