-- The code of the parts of a value: counts, lengths, which of two arrays is extended, and elements in a buffer of their own.
use Rattle.std.specs.Prelude.{◌≡◌, max, ℕ, ◌+◌, ◌*◌, ◌<◌, ◌≤◌, ◌^◌, List, [], ◌∷◌, ◌++◌, length, Some, None, Ok, Err, Bool, true, false, ℤ, pos}
use Rattle.aplc_scalar.specs.declared.kind.FaultKind.{FaultKind}
use Rattle.aplc_scalar.specs.declared.kind.FaultKind.TheVariants as fault
use Rattle.aplc_scalar.specs.Scalar.{truth}
use Rattle.aplc_scalar.specs.declared.function.ScalarFn.{ScalarFn}
use Rattle.aplc_scalar.specs.declared.function.ScalarFn.TheVariants as f
use Rattle.aplc_arr.specs.Arrays.{product, shape_fits, IsIndexOf}
use Rattle.aplc_arr.specs.Delayed.{Delayed}
use Rattle.aplc_arr.specs.Delayed as delay
use Rattle.aplc_arr.specs.Each.{common_shape}
use Rattle.aplc_cprof.specs.declared.syntax.Int.{Int}
use Rattle.aplc_cprof.specs.declared.syntax.Int.TheVariants as int
use Rattle.aplc_cprof.specs.declared.syntax.Buf.TheVariants as buf
use Rattle.aplc_cprof.specs.declared.syntax.Op.TheVariants as op
use Rattle.aplc_cprof.specs.declared.syntax.CExpr.{CExpr}
use Rattle.aplc_cprof.specs.declared.syntax.CExpr.TheVariants as expr
use Rattle.aplc_cprof.specs.declared.syntax.CStmt.{CStmt}
use Rattle.aplc_cprof.specs.declared.syntax.CStmt.TheVariants as stmt
use Rattle.aplc_cprof.specs.Blocks.{Blocks}
use Rattle.aplc_cprof.specs.WellFormed.{Scope, is_int}
use Rattle.aplc_cprof.specs.Machine.{State, Code, Is, read_int}
use Rattle.aplc_cprof.specs.Frames.{IsOld, Stays, Hold}
use Rattle.aplc_cprof.specs.Emitted.{on_values, no_names, Grown, AreInts, IsFormed}
use Rattle.aplc_cprof.proofs.Paths.{Does}
use Rattle.aplc_collect.specs.Elements.{Test, Steps}
use Rattle.aplc_step.specs.declared.stepper.Origin.TheVariants as origin
use Rattle.aplc_step.specs.Steppers.{AreFresh, StepsOver, zeros}
use Rattle.aplc_step.specs.Wholes.{some_element}
use Rattle.aplc_stage.specs.declared.staged.Staged.{Staged}
use Rattle.aplc_stage.specs.declared.staged.Staged.TheVariants as staged
use Rattle.aplc_stage.specs.Computes.{with_heap, Making, NoFault}

-- ---- Statements

-- these statements are added
abbrev pub with_code : List CStmt → Blocks → Blocks
with_code code b = record { outer = b.outer; inner = b.inner ++ code; ints = b.ints; bufs = b.bufs }

-- whole variables from the n-th on, as many as there are items
abbrev pub locals : ℕ → List Int → List Int
locals n [] = []
locals n (x ∷ xs) = int.Local n ∷ locals (n + 1) xs

-- each variable is set to the value of the other one at its place
abbrev pub copies : List Int → List Int → List CStmt
copies [] ys = []
copies (x ∷ xs) [] = []
copies (x ∷ xs) (y ∷ ys) = stmt.Set x (expr.Var y) ∷ copies xs ys

-- each variable is set to 0
abbrev pub clears : List Int → List CStmt
clears [] = []
clears (x ∷ xs) = stmt.Set x (expr.Lit (pos 0)) ∷ clears xs

-- ---- Lengths of its own

-- code after which variables of its own hold the lengths that others hold
pub record OwnLengths (old new : Blocks) (others lengths : List Int) : Type 0 where
  pub code : List CStmt
  pub grown : Grown code old new
  pub bufs : new.bufs ≡ old.bufs
  pub names : new.ints ≡ old.ints + length others
  pub lengths_are : lengths ≡ locals old.ints others
  pub formed : IsFormed no_names others [] new 0 code
  pub runs : (c : Code) (s : State) (ns : List ℕ) → Hold s others ns → Does c (Stays old.ints old.bufs s) (length others) code s (λ t. Stays old.ints old.bufs s t × Hold t lengths ns) NoFault

-- ---- The number of elements

abbrev pub product_expr : List Int → CExpr
product_expr [] = expr.Lit (pos 1)
product_expr (x ∷ xs) = expr.Bin op.Mul (expr.Var x) (product_expr xs)

-- the product, where no length is 0
abbrev pub count_stmt : Int → List Int → CStmt
count_stmt v lengths = stmt.If (some_element lengths) (stmt.Set v (product_expr lengths) ∷ []) None

-- code after which v holds the number of elements of an array of the lengths in these variables
pub record Counts (old new : Blocks) (lengths : List Int) (v : Int) : Type 0 where
  pub code : List CStmt
  pub grown : Grown code old new
  pub bufs : new.bufs ≡ old.bufs
  pub old_name : IsOld new.ints v
  pub declared : (sc : Scope) → AreInts sc lengths → new.ints ≤ sc.ints → is_int sc v ≡ true
  pub formed : IsFormed no_names lengths [] new (2 + length lengths) code
  pub runs : (c : Code) (s : State) (ns : List ℕ) → Hold s lengths ns → product ns < 2 ^ 31 → Does c (Stays old.ints old.bufs s) 3 code s (λ t. Stays old.ints old.bufs s t × (read_int v t ≡ Is (pos (product ns)))) NoFault

-- ---- Elements in a buffer of their own

-- Whatever a new buffer holds, code stands for the elements of d, and takes at most k steps for each.
pub record StandsBeside (test : Test) (steps : Steps) (tables : List (List ℤ)) (n m : ℕ) (s : State) (d : Delayed) (k : ℕ) : Type 0 where
  pub takes : (t : State) (other : List ℤ) → Stays n m (with_heap (s.heap ++ Some other ∷ []) s) t → steps tables t ≤ k
  pub items : (t : State) (other : List ℤ) → Stays n m (with_heap (s.heap ++ Some other ∷ []) s) t → (is : List ℕ) → IsIndexOf d.shape is → test tables t is ≡ Some (d.element is)

-- the elements are the cells of a new buffer, which the m-th buffer variable has
pub record Gathered (n m : ℕ) (d : Delayed) (s t : State) : Type 0 where
  pub cells : List ℤ
  pub given : delay.cells_of d ≡ Ok cells
  pub stays : Stays n m (with_heap (s.heap ++ Some cells ∷ []) s) t
  pub named : t.bufs m ≡ Some (length s.heap)

-- the fault is that of the first element that has one
pub record FaultGathered (n m : ℕ) (d : Delayed) (s : State) (k : FaultKind) (t : State) : Type 0 where
  pub stays : Making n m (product d.shape) s t
  pub given : delay.cells_of d ≡ Err k

-- code that puts the elements of an array of the lengths in these variables into a buffer of their own
pub record Gathers (test : Test) (steps : Steps) (g : Scope) (depth : ℕ) (old new : Blocks) (lengths : List Int) (x : Staged) : Type 0 where
  pub code : List CStmt
  pub grown : Grown code old new
  pub one_more : old.bufs < new.bufs
  pub formed : IsFormed g lengths [] new (2 + depth + length lengths) code
  pub name : x ≡ staged.Cells (origin.Buffer (buf.Local old.bufs)) lengths
  pub runs : (c : Code) (s : State) (d : Delayed) (k : ℕ) → Hold s lengths d.shape → shape_fits d.shape ≡ true → StandsBeside test steps c.tables old.ints old.bufs s d k → Does c (Making old.ints old.bufs (product d.shape) s) (product d.shape * (k + 4 * length d.shape + 2) + 6) code s (Gathered old.ints old.bufs d s) (FaultGathered old.ints old.bufs d s)

-- ---- Two shapes

-- whether a length differs from the one at its place
abbrev pub differ : List Int → List Int → CExpr
differ [] ys = expr.Lit (pos 0)
differ (x ∷ xs) [] = expr.Lit (pos 0)
differ (x ∷ xs) (y ∷ ys) = expr.Bin op.Or (on_values op.NotEqual x y) (differ xs ys)

-- whether all lengths are 1, so that there is one element
abbrev pub all_one : List Int → CExpr
all_one [] = expr.Lit (pos 1)
all_one (x ∷ xs) = expr.Bin op.And (expr.Bin op.Equal (expr.Var x) (expr.Lit (pos 1))) (all_one xs)

-- The lengths become those of one of the arrays, and two variables say which array keeps its own shape.
abbrev pub takes_on : List Int → Int → Int → Bool → Bool → List Int → List CStmt
takes_on lengths keeps_left keeps_right left right from = copies lengths from ++ stmt.Set keeps_left (expr.Lit (truth left)) ∷ [] ++ stmt.Set keeps_right (expr.Lit (truth right)) ∷ []

-- where shapes differ: LENGTH where neither array has one element
abbrev pub extended_block : List Int → Int → Int → List Int → List Int → List CStmt
extended_block lengths keeps_left keeps_right left right =
    stmt.If (all_one left) (takes_on lengths keeps_left keeps_right false true right)
    (Some (stmt.If (all_one right) (takes_on lengths keeps_left keeps_right true false left) (Some (stmt.Fault fault.Length ∷ [])) ∷ [])) ∷ []

abbrev pub conform_stmt : List Int → Int → Int → List Int → List Int → CStmt
conform_stmt lengths keeps_left keeps_right left right =
    stmt.If (differ left right) (extended_block lengths keeps_left keeps_right left right) (Some (takes_on lengths keeps_left keeps_right true true left))

-- An array of the shape ns beside others of the shape rs: the variable is 1 where it keeps its own shape, which is that one,
-- and 0 where it is extended, as it has one element and another shape.
pub data Beside (keeps : Int) (s : State) (ns rs : List ℕ) : Type 0 where
  Kept : read_int keeps s ≡ Is (pos 1) → ns ≡ rs → Beside keeps s ns rs
  Extended : read_int keeps s ≡ Is (pos 0) → product ns ≡ 1 → (ns ≡ rs → ⊥) → Beside keeps s ns rs

-- both arrays conform, and the variables hold the lengths that they have together
pub record Conformed (n m : ℕ) (lengths : List Int) (keeps_left keeps_right : Int) (ms ns : List ℕ) (s t : State) : Type 0 where
  pub stays : Stays n m s t
  pub shape : List ℕ
  pub common : common_shape ms ns ≡ Some shape
  pub held : Hold t lengths shape
  pub left : Beside keeps_left t ms shape
  pub right : Beside keeps_right t ns shape

-- the variables hold the lengths that both have together
pub record SharedLengths (n m : ℕ) (lengths : List Int) (ms ns : List ℕ) (s t : State) : Type 0 where
  pub stays : Stays n m s t
  pub shape : List ℕ
  pub common : common_shape ms ns ≡ Some shape
  pub held : Hold t lengths shape

-- they do not conform
pub record Unlike (n m : ℕ) (ms ns : List ℕ) (s : State) (k : FaultKind) (t : State) : Type 0 where
  pub stays : Stays n m s t
  pub kind : k ≡ fault.Length
  pub none : common_shape ms ns ≡ None

-- code that finds the shape of two arrays together, of one rank that is not 0
pub record Conforms (old new : Blocks) (left right lengths : List Int) (keeps_left keeps_right : Int) : Type 0 where
  pub code : List CStmt
  pub grown : Grown code old new
  pub bufs : new.bufs ≡ old.bufs
  pub lengths_are : lengths ≡ locals old.ints left
  pub left_is : keeps_left ≡ int.Local (old.ints + length left)
  pub right_is : keeps_right ≡ int.Local (old.ints + length left + 1)
  pub names : new.ints ≡ old.ints + length left + 2
  pub formed : IsFormed no_names (left ++ right) [] new (4 + length left) code
  pub runs : (c : Code) (s : State) (ms ns : List ℕ) → Hold s left ms → Hold s right ns → Does c (Stays old.ints old.bufs s) (length left + 5) code s (Conformed old.ints old.bufs lengths keeps_left keeps_right ms ns s) (Unlike old.ints old.bufs ms ns s)

-- code that finds the lengths of two values together: those of the array beside a scalar, which need no test, or those on
-- which two arrays of one rank conform
pub record Shares (old new : Blocks) (left right lengths : List Int) : Type 0 where
  pub code : List CStmt
  pub grown : Grown code old new
  pub bufs : new.bufs ≡ old.bufs
  pub fresh : AreFresh old.ints new.ints lengths
  pub as_many : length lengths ≡ max (length left) (length right)
  pub formed : IsFormed no_names (left ++ right) [] new (4 + length lengths) code
  pub runs : (c : Code) (s : State) (ms ns : List ℕ) → Hold s left ms → Hold s right ns → Does c (Stays old.ints old.bufs s) (length lengths + 5) code s (SharedLengths old.ints old.bufs lengths ms ns s) (Unlike old.ints old.bufs ms ns s)

-- ---- A number and a character

-- 1 for inequality, else 0
abbrev pub unlike_expr : ScalarFn → CExpr
unlike_expr f.NotEqual = expr.Lit (pos 1)
unlike_expr g = expr.Lit (pos 0)

-- ---- Extension

-- the strides of an array, or 0 for all axes
abbrev pub extend_stmt : Int → List Int → List Int → CStmt
extend_stmt keeps names strides = stmt.If (expr.Var keeps) (copies names strides) (Some (clears names))

-- where the array keeps its own shape its own place, else the first one
pub data PlaceBeside (ns rs : List ℕ) (own : List ℕ → ℕ) (at : List ℕ → ℕ) : Type 0 where
  Own : ns ≡ rs → ((is : List ℕ) → IsIndexOf rs is → at is ≡ own is) → PlaceBeside ns rs own at
  First : product ns ≡ 1 → (ns ≡ rs → ⊥) → ((is : List ℕ) → IsIndexOf rs is → at is ≡ own (zeros ns)) → PlaceBeside ns rs own at

pub record SteppedBeside (lengths : List Int) (base : Int) (strides : List Int) (n m size : ℕ) (ns rs : List ℕ) (own : List ℕ → ℕ) (s t : State) : Type 0 where
  pub stays : Stays n m s t
  pub at : List ℕ → ℕ
  pub over : StepsOver lengths base strides t rs at size
  pub places : PlaceBeside ns rs own at

-- Code after which the base and the new strides go over an array of the lengths in these variables, beside which the other
-- one, over which the old strides went, keeps its shape or is extended, as the variable says.
pub record KeepsOrExtends (old new : Blocks) (keeps : Int) (others : List Int) (base : Int) (widths lengths strides : List Int) : Type 0 where
  pub code : List CStmt
  pub grown : Grown code old new
  pub bufs : new.bufs ≡ old.bufs
  pub strides_are : strides ≡ locals old.ints widths
  pub names : new.ints ≡ old.ints + length widths
  pub formed : IsFormed no_names (keeps ∷ widths) [] new 2 code
  pub runs : (c : Code) (s : State) (ns rs : List ℕ) (own : List ℕ → ℕ) (size : ℕ) → StepsOver others base widths s ns own size → Beside keeps s ns rs → Hold s lengths rs → length ns ≡ length rs → Does c (Stays old.ints old.bufs s) (length widths + 1) code s (SteppedBeside lengths base strides old.ints old.bufs size ns rs own s) NoFault
