-- The least and the greatest number of a column, and code that finds them.
use Rattle.std.specs.Prelude.{◌≡◌, ℕ, zero, suc, ◌+◌, ◌*◌, ◌<◌, ◌≤◌, ◌^◌, List, [], ◌∷◌, ◌++◌, length, Some, None, Ok, slice_get, slice_set, ℤ, pos, int_lt, true, if◌then◌else◌}
use Rattle.aplc_scalar.specs.declared.kind.Kind.TheVariants.{Num}
use Rattle.aplc_scalar.specs.Scalar.{in_range}
use Rattle.aplc_cprof.specs.declared.syntax.Int.{Int}
use Rattle.aplc_cprof.specs.declared.syntax.Int.TheVariants as int
use Rattle.aplc_cprof.specs.declared.syntax.Buf.{Buf}
use Rattle.aplc_cprof.specs.declared.syntax.CExpr.TheVariants as expr
use Rattle.aplc_cprof.specs.declared.syntax.CStmt.{CStmt}
use Rattle.aplc_cprof.specs.declared.syntax.CStmt.TheVariants as stmt
use Rattle.aplc_cprof.specs.Blocks.{Blocks}
use Rattle.aplc_cprof.specs.WellFormed.{Scope}
use Rattle.aplc_cprof.specs.Machine.{State, Code, Is, read_int, named_buf, put}
use Rattle.aplc_cprof.specs.Frames.{Stays, with_buffer, Unnamed, Hold, number}
use Rattle.aplc_cprof.specs.Emitted.{less}
use Rattle.aplc_cprof.proofs.Paths.{Does}
use Rattle.aplc_collect.specs.Elements.{Test, Steps}
use Rattle.aplc_quad.specs.Rows.{column_width}
use Rattle.aplc_quad.specs.Printed.{AreShort, last_length, NoFault}

-- ---- Numbers

abbrev pub smaller : ℤ → ℤ → ℤ
smaller a z = if int_lt z a then z else a

abbrev pub larger : ℤ → ℤ → ℤ
larger a z = if int_lt a z then z else a

-- the least of 0 and the first r numbers
abbrev pub lowest : (ℕ → ℤ) → ℕ → ℤ
lowest item zero = pos 0
lowest item (suc r) = smaller (lowest item r) (item r)

-- the greatest
abbrev pub highest : (ℕ → ℤ) → ℕ → ℤ
highest item zero = pos 0
highest item (suc r) = larger (highest item r) (item r)

-- ---- Statements

abbrev pub set_if_less : Int → Int → Int → Int → CStmt
set_if_less x y target value = stmt.If (less x y) (stmt.Set target (expr.Var value) ∷ []) None

abbrev pub widen_stmts : Int → Int → Int → List CStmt
widen_stmts v least greatest = set_if_less v least least v ∷ set_if_less greatest v greatest v ∷ []

abbrev pub zero_stmts : Int → Int → List CStmt
zero_stmts least greatest = stmt.Set least (expr.Lit (pos 0)) ∷ stmt.Set greatest (expr.Lit (pos 0)) ∷ []

-- the wider one of two texts
abbrev pub width_stmts : Int → Int → Int → Int → Buf → Int → List CStmt
width_stmts wide other least greatest widths column =
    stmt.Width wide (expr.Var greatest) ∷ stmt.Width other (expr.Var least) ∷ set_if_less wide other wide other ∷ stmt.SetCell widths (expr.Var column) (expr.Var wide) ∷ []

abbrev pub with_widths : Int → Int → Buf → Int → Blocks → Blocks
with_widths least greatest widths column b = record b { inner = b.inner ++ width_stmts (int.Local b.ints) (int.Local (b.ints + 1)) least greatest widths column; ints = b.ints + 2 }

-- ---- Names

-- two local variables, given after the names that are looked at
pub record IsRange (g n : ℕ) (least greatest : Int) : Type 0 where
  pub low : ℕ
  pub high : ℕ
  pub is_low : least ≡ int.Local low
  pub is_high : greatest ≡ int.Local high
  pub low_from : g ≤ low
  pub high_from : g ≤ high
  pub low_below : low < n
  pub high_below : high < n
  pub apart : low ≡ high → ⊥

-- given before the n-th, and neither of them
abbrev pub IsApart : ℕ → Int → Int → Int → Type 0
IsApart n least greatest (int.Local k) = (k < n) × (k ≡ number least → ⊥) × (k ≡ number greatest → ⊥)
IsApart n least greatest (int.Global k) = Unit {0}

abbrev pub AreApart : ℕ → Int → Int → List Int → Type 0
AreApart n least greatest [] = Unit {0}
AreApart n least greatest (x ∷ xs) = IsApart n least greatest x × AreApart n least greatest xs

-- ---- States

-- the two variables hold other numbers
abbrev pub with_range : ℕ → ℕ → ℤ → ℤ → State → State
with_range low high a b s = record s { ints = put (put s.ints low (Some a)) high (Some b) }

-- all but those is as it was
abbrev pub Ranging : ℕ → ℕ → ℕ → ℕ → State → State → Type 0
Ranging n m low high s t = (a : ℤ) × (b : ℤ) × Stays n m (with_range low high a b s) t

-- In at most k steps they are set to a and b.
abbrev pub Widens : Code → ℕ → ℕ → ℕ → ℕ → ℕ → List CStmt → State → ℤ → ℤ → Type 0
Widens c n m low high k code s a b = Does c (Ranging n m low high s) k code s (Stays n m (with_range low high a b s)) NoFault

-- ---- Columns

-- the number of rows along all axes but the last
abbrev pub rows_in_all : List ℕ → ℕ
rows_in_all [] = 1
rows_in_all (n ∷ []) = 1
rows_in_all (l ∷ n ∷ ns) = l * rows_in_all (n ∷ ns)

-- code stands for these elements of column j, from row p on
abbrev pub ColumnItems : Test → List (List ℤ) → State → List ℕ → List ℕ → ℕ → ℕ → (ℕ → ℤ) → Type 0
ColumnItems test tables s before [] j p item = Unit {0}
ColumnItems test tables s before (n ∷ []) j p item = test tables s (before ++ j ∷ []) ≡ Some (Ok (item p))
ColumnItems test tables s before (l ∷ n ∷ ns) j p item = (i : ℕ) → i < l → ColumnItems test tables s (before ++ i ∷ []) (n ∷ ns) j (p + i * rows_in_all (n ∷ ns)) item

-- the most steps of widening a range by a column
abbrev pub range_steps : List ℕ → ℕ → ℕ
range_steps [] k = 0
range_steps (n ∷ []) k = k + 4
range_steps (l ∷ n ∷ ns) k = l * (range_steps (n ∷ ns) k + 2) + 2

-- The range of a column from its start to before row p becomes that to behind the rows of these axes.
abbrev pub RangeRuns : Test → Steps → List Int → List Int → Int → Int → Int → Code → ℕ → ℕ → List CStmt → Type 0
RangeRuns test steps at lengths column least greatest c n m code =
    (s : State) (before ns : List ℕ) (j p k : ℕ) (item : ℕ → ℤ) → Hold s at before → Hold s lengths ns → AreShort ns → read_int column s ≡ Is (pos j) → s.ints (number least) ≡ Some (lowest item p) → s.ints (number greatest) ≡ Some (highest item p) → steps c.tables s ≤ k → ColumnItems test c.tables s before ns j p item → Widens c n m (number least) (number greatest) (range_steps ns k) code s (lowest item (p + rows_in_all ns)) (highest item (p + rows_in_all ns))

-- ---- Widths

-- the buffer b, of so many cells, holds other cells, and all else is as it was
abbrev pub Measuring : ℕ → ℕ → ℕ → ℕ → State → State → Type 0
Measuring n m b size s t = (cells : List ℤ) × (length cells ≡ size) × Stays n m (with_buffer b cells s) t

-- the most steps for a column
abbrev pub column_steps : List ℕ → ℕ → ℕ
column_steps ns k = 2 + (range_steps ns k + 5)

-- The cell of a column becomes its width.
abbrev pub ColumnRuns : Test → Steps → List Int → Int → Buf → Code → ℕ → ℕ → List CStmt → Type 0
ColumnRuns test steps lengths column widths c n m code =
    (s : State) (ns : List ℕ) (b size j k : ℕ) (cells : List ℤ) (item : ℕ → ℤ) → Hold s lengths ns → AreShort ns → 0 < rows_in_all ns → read_int column s ≡ Is (pos j) → named_buf widths s ≡ Some b → slice_get s.heap b ≡ Some (Some cells) → length cells ≡ size → j < size → steps c.tables s ≤ k → ColumnItems test c.tables s [] ns j 0 item → ((q : ℕ) → q < rows_in_all ns → in_range (item q) ≡ true) → Does c (Measuring n m b size s) (column_steps ns k) code s (Stays n m (with_buffer b (slice_set cells j (pos (column_width Num item (rows_in_all ns)))) s)) NoFault

-- each of the first j cells is the width of its column
pub record Measured (n m b size : ℕ) (wide : ℕ → ℕ) (s : State) (j : ℕ) (t : State) : Type 0 where
  pub cells : List ℤ
  pub as_many : length cells ≡ size
  pub stays : Stays n m (with_buffer b cells s) t
  pub each : (i : ℕ) → i < j → slice_get cells i ≡ Some (pos (wide i))

-- The cells of a buffer become the widths of the columns. No name that the elements' code looks at has that buffer.
abbrev pub WidthsRun : Test → Steps → Scope → List Int → Buf → Code → ℕ → ℕ → List CStmt → Type 0
WidthsRun test steps g lengths widths c n m code =
    (s : State) (ns : List ℕ) (b k : ℕ) (cells : List ℤ) (item : ℕ → ℕ → ℤ) → Hold s lengths ns → AreShort ns → 0 < rows_in_all ns → last_length ns < 2 ^ 31 → named_buf widths s ≡ Some b → slice_get s.heap b ≡ Some (Some cells) → length cells ≡ last_length ns → Unnamed g b s → steps c.tables s ≤ k → ((j : ℕ) → j < last_length ns → ColumnItems test c.tables s [] ns j 0 (item j)) → ((j q : ℕ) → j < last_length ns → q < rows_in_all ns → in_range (item j q) ≡ true) → Does c (Measuring n m b (last_length ns) s) (last_length ns * (column_steps ns k + 2) + 2) code s (Measured n m b (last_length ns) (λ j. column_width Num (item j) (rows_in_all ns)) s (last_length ns)) NoFault
