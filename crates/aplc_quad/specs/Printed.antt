-- What code that prints does, and when it may be added.
use Rattle.std.specs.Prelude.{◌≡◌, ℕ, ◌+◌, ◌*◌, ◌<◌, ◌≤◌, ◌^◌, List, [], ◌∷◌, ◌++◌, Some, Ok, slice_get, nat_lt, ℤ, pos, true}
use Rattle.aplc_scalar.specs.declared.kind.Kind.{Kind}
use Rattle.aplc_scalar.specs.declared.kind.Kind.TheVariants.{Num, Char}
use Rattle.aplc_scalar.specs.declared.kind.FaultKind.{FaultKind}
use Rattle.aplc_scalar.specs.Scalar.{in_range, truth}
use Rattle.aplc_arr.specs.Arrays.{product, place, IsIndexOf}
use Rattle.aplc_cprof.specs.declared.syntax.Int.{Int}
use Rattle.aplc_cprof.specs.declared.syntax.Buf.{Buf}
use Rattle.aplc_cprof.specs.declared.syntax.CStmt.{CStmt}
use Rattle.aplc_cprof.specs.Blocks.{Blocks}
use Rattle.aplc_cprof.specs.WellFormed.{Scope}
use Rattle.aplc_cprof.specs.Machine.{State, Code, Is, read_int, named_buf, is_scalar}
use Rattle.aplc_cprof.specs.Frames.{IsOldBuf, Stays, Hold}
use Rattle.aplc_cprof.specs.Emitted.{Grown, IsFormed}
use Rattle.aplc_cprof.proofs.Paths.{Does}
use Rattle.aplc_collect.specs.Elements.{Test, Steps}
use Rattle.aplc_quad.specs.declared.printing.Columns.{Columns}
use Rattle.aplc_quad.specs.declared.printing.Columns.TheVariants.{Characters, Numbers, Justified}
use Rattle.aplc_quad.specs.Rows.{width, justified_bytes, gap_before, row_bytes, nest_bytes}

-- ---- States

-- other output
abbrev pub with_output : List ℕ → State → State
with_output out s = record s { output = out }

-- all but the output is as it was
abbrev pub Printing : ℕ → ℕ → State → State → Type 0
Printing n m s t = (out : List ℕ) × Stays n m (with_output out s) t

-- the text was written, and all but the output is as it was
abbrev pub Printed : ℕ → ℕ → List ℕ → State → State → Type 0
Printed n m text s t = Stays n m (with_output (s.output ++ text) s) t

-- no element faults
abbrev pub NoFault : FaultKind → State → Type 0
NoFault k t = ⊥

-- In at most k steps the code writes the text. On the way, too, all else stays that stood before the n-th whole variable
-- and the m-th buffer variable were given.
abbrev pub Puts : Code → ℕ → ℕ → ℕ → List CStmt → State → List ℕ → Type 0
Puts c n m k code s text = Does c (Printing n m s) k code s (Printed n m text s) NoFault

-- ---- Columns

-- what is printed
abbrev pub kind_of : Columns → Kind
kind_of Characters = Char
kind_of Numbers = Num
kind_of (Justified widths) = Num

-- the buffer with the widths
abbrev pub bufs_of : Columns → List Buf
bufs_of Characters = []
bufs_of Numbers = []
bufs_of (Justified widths) = widths ∷ []

-- it was given before the m-th
abbrev pub AreOldColumns : ℕ → Columns → Type 0
AreOldColumns m Characters = Unit {0}
AreOldColumns m Numbers = Unit {0}
AreOldColumns m (Justified widths) = IsOldBuf m widths

-- the cell of a column holds its width
pub record HoldsWidth (widths : Buf) (s : State) (j w : ℕ) : Type 0 where
  pub buffer : ℕ
  pub cells : List ℤ
  pub named : named_buf widths s ≡ Some buffer
  pub live : slice_get s.heap buffer ≡ Some (Some cells)
  pub cell : slice_get cells j ≡ Some (pos w)

-- the width of column j is w in this state
abbrev pub Laid : Columns → State → ℕ → ℕ → Type 0
Laid Characters s j w = Unit {0}
Laid Numbers s j w = Unit {0}
Laid (Justified widths) s j w = HoldsWidth widths s j w

-- the code of a Unicode scalar value
abbrev pub IsCharacter : ℤ → Type 0
IsCharacter z = (k : ℕ) × (z ≡ pos k) × (is_scalar k ≡ true)

-- the element can be printed so with this width
abbrev pub Fits : Columns → ℕ → ℤ → Type 0
Fits Characters w z = (w ≡ 0) × IsCharacter z
Fits Numbers w z = (w ≡ 0) × (in_range z ≡ true)
Fits (Justified widths) w z = (width Num z ≤ w) × (w ≤ 20) × (in_range z ≡ true)

-- all elements of a row can, the first of which has place p
abbrev pub RowFits : Columns → (ℕ → ℕ) → (ℕ → ℤ) → ℕ → ℕ → Type 0
RowFits columns ws item n p = (j : ℕ) → j < n → Fits columns (ws j) (item (p + j))

-- all elements along the axes that are left
abbrev pub NestFits : Columns → (ℕ → ℕ) → (ℕ → ℤ) → List ℕ → ℕ → Type 0
NestFits columns ws item [] p = Unit {0}
NestFits columns ws item (n ∷ []) p = RowFits columns ws item n p
NestFits columns ws item (l ∷ n ∷ ns) p = (i : ℕ) → i < l → NestFits columns ws item (n ∷ ns) (p + i * product (n ∷ ns))

-- ---- Elements

-- lengths of an array, each below 2 ^ 31
abbrev pub AreShort : List ℕ → Type 0
AreShort [] = Unit {0}
AreShort (n ∷ ns) = (n < 2 ^ 31) × AreShort ns

-- the length of the last axis
abbrev pub last_length : List ℕ → ℕ
last_length [] = 1
last_length (n ∷ []) = n
last_length (m ∷ n ∷ ns) = last_length (n ∷ ns)

-- code stands for these elements, from place p on, at the multi-indices that begin with `before`, with at most k steps for each
pub record Stands (test : Test) (steps : Steps) (tables : List (List ℤ)) (s : State) (before ns : List ℕ) (p k : ℕ) (item : ℕ → ℤ) : Type 0 where
  pub takes : steps tables s ≤ k
  pub items : (is : List ℕ) → IsIndexOf ns is → test tables s (before ++ is) ≡ Some (Ok (item (p + place ns is)))

-- ---- Code

-- code was added that is well formed and does this
pub record Adds (g : Scope) (depth : ℕ) (old new : Blocks) (xs : List Int) (ps : List Buf) (Runs : Code → ℕ → ℕ → List CStmt → Type 0) : Type 0 where
  pub code : List CStmt
  pub grown : Grown code old new
  pub formed : IsFormed g xs ps new depth code
  pub runs : (c : Code) → Runs c old.ints old.bufs code

-- What it does is told of the code, whatever state it begins in, by the numbers of whole and buffer variables that were
-- given before it.

-- an element of a row, behind what parts it from those before it
abbrev pub CellPuts : Test → Steps → List Int → Int → Columns → Code → ℕ → ℕ → List CStmt → Type 0
CellPuts test steps at column columns c n m code =
    (s : State) (before : List ℕ) (j w k : ℕ) (z : ℤ) → Hold s at before → read_int column s ≡ Is (pos j) → steps c.tables s ≤ k → test c.tables s (before ++ j ∷ []) ≡ Some (Ok z) → Laid columns s j w → Fits columns w z → Puts c n m (k + 4) code s (gap_before (kind_of columns) j ++ justified_bytes (kind_of columns) w z)

-- the most steps of a row
abbrev pub row_steps : ℕ → ℕ → ℕ
row_steps n k = n * (k + 6) + 2

-- the elements of a row
abbrev pub RowPuts : Test → Steps → List Int → Int → Columns → Code → ℕ → ℕ → List CStmt → Type 0
RowPuts test steps at length columns c n m code =
    (s : State) (before : List ℕ) (len p k : ℕ) (ws : ℕ → ℕ) (item : ℕ → ℤ) → Hold s at before → read_int length s ≡ Is (pos len) → len < 2 ^ 31 → Stands test steps c.tables s before (len ∷ []) p k item → ((j : ℕ) → j < len → Laid columns s j (ws j)) → RowFits columns ws item len p → Puts c n m (row_steps len k) code s (row_bytes (kind_of columns) ws (λ j. item (p + j)) len)

-- and the end of the line
abbrev pub LinePuts : Test → Steps → List Int → Int → Columns → Code → ℕ → ℕ → List CStmt → Type 0
LinePuts test steps at length columns c n m code =
    (s : State) (before : List ℕ) (len p k : ℕ) (ws : ℕ → ℕ) (item : ℕ → ℤ) → Hold s at before → read_int length s ≡ Is (pos len) → len < 2 ^ 31 → Stands test steps c.tables s before (len ∷ []) p k item → ((j : ℕ) → j < len → Laid columns s j (ws j)) → RowFits columns ws item len p → Puts c n m (row_steps len k + 1) code s (row_bytes (kind_of columns) ws (λ j. item (p + j)) len ++ 10 ∷ [])

-- ---- Rank 2 and more

-- the most steps of loops over these lengths
abbrev pub nest_steps : List ℕ → ℕ → ℕ
nest_steps [] k = 0
nest_steps (n ∷ []) k = row_steps n k + 1
nest_steps (m ∷ n ∷ []) k = m * (row_steps n k + 1 + 2) + 2
nest_steps (l ∷ m ∷ n ∷ ns) k = l * (1 + (2 + nest_steps (m ∷ n ∷ ns) k) + 2) + 2

-- Lines of the elements from place p on, with empty lines between planes. The variable `started` tells whether a row was
-- written before.
abbrev pub NestPuts : Test → Steps → List Int → List Int → Int → Columns → Code → ℕ → ℕ → List CStmt → Type 0
NestPuts test steps at lengths started columns c n m code =
    (s : State) (before ns : List ℕ) (p k : ℕ) (ws : ℕ → ℕ) (item : ℕ → ℤ) → 0 < product ns → Hold s at before → Hold s lengths ns → AreShort ns → read_int started s ≡ Is (truth (nat_lt 0 p)) → Stands test steps c.tables s before ns p k item → ((j : ℕ) → j < last_length ns → Laid columns s j (ws j)) → NestFits columns ws item ns p → Puts c n m (nest_steps ns k) code s (nest_bytes (kind_of columns) ws item ns p)

-- the same from the first place on
abbrev pub PlanesPut : Test → Steps → List Int → Columns → Code → ℕ → ℕ → List CStmt → Type 0
PlanesPut test steps lengths columns c n m code =
    (s : State) (ns : List ℕ) (k : ℕ) (ws : ℕ → ℕ) (item : ℕ → ℤ) → 0 < product ns → Hold s lengths ns → AreShort ns → Stands test steps c.tables s [] ns 0 k item → ((j : ℕ) → j < last_length ns → Laid columns s j (ws j)) → NestFits columns ws item ns 0 → Puts c n m (1 + nest_steps ns k) code s (nest_bytes (kind_of columns) ws item ns 0)
