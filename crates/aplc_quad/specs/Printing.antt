-- The statements that print one element of a row.
use Rattle.std.specs.Prelude.{◌+◌, List, [], ◌∷◌, ◌++◌, Some, None, pos}
use Rattle.aplc_cprof.specs.declared.syntax.Int.{Int}
use Rattle.aplc_cprof.specs.declared.syntax.Int.TheVariants as int
use Rattle.aplc_cprof.specs.declared.syntax.Buf.{Buf}
use Rattle.aplc_cprof.specs.declared.syntax.Op.TheVariants as op
use Rattle.aplc_cprof.specs.declared.syntax.CExpr.{CExpr}
use Rattle.aplc_cprof.specs.declared.syntax.CExpr.TheVariants as expr
use Rattle.aplc_cprof.specs.declared.syntax.CStmt.{CStmt}
use Rattle.aplc_cprof.specs.declared.syntax.CStmt.TheVariants as stmt
use Rattle.aplc_cprof.specs.Blocks.{Blocks}
use Rattle.aplc_quad.specs.declared.printing.Columns.{Columns}
use Rattle.aplc_quad.specs.declared.printing.Columns.TheVariants.{Characters, Numbers, Justified}

-- ---- Expressions

-- whether it is not the first column
abbrev pub later : Int → CExpr
later column = expr.Bin op.Greater (expr.Var column) (expr.Lit (pos 0))

-- whether the number's text is one digit
abbrev pub is_digit : Int → CExpr
is_digit v = expr.Bin op.And (expr.Bin op.GreaterEq (expr.Var v) (expr.Lit (pos 0))) (expr.Bin op.Less (expr.Var v) (expr.Lit (pos 10)))

-- the width of the column
abbrev pub width_at : Buf → Int → CExpr
width_at widths column = expr.Cell widths (expr.Var column)

-- whether the column has room for no more than a digit
abbrev pub is_narrow : Buf → Int → CExpr
is_narrow widths column = expr.Bin op.Less (width_at widths column) (expr.Lit (pos 2))

-- the character of a digit
abbrev pub digit : Int → CExpr
digit v = expr.Bin op.Add (expr.Lit (pos 48)) (expr.Var v)

-- ---- Statements

-- a number of one digit as a character, another one by its text
abbrev pub number_stmt : CExpr → CExpr → Int → CStmt
number_stmt test width v = stmt.If test (stmt.PutChar (digit v) ∷ []) (Some (stmt.PutNum (expr.Var v) width ∷ []))

-- an element
abbrev pub element_stmt : Columns → Int → Int → CStmt
element_stmt Characters column v = stmt.PutChar (expr.Var v)
element_stmt Numbers column v = number_stmt (is_digit v) (expr.Lit (pos 0)) v
element_stmt (Justified widths) column v = number_stmt (is_narrow widths column) (width_at widths column) v

-- what parts it from those before it
abbrev pub gap_stmts : Columns → Int → List CStmt
gap_stmts Characters column = []
gap_stmts Numbers column = stmt.If (later column) (stmt.PutChar (expr.Lit (pos 32)) ∷ []) None ∷ []
gap_stmts (Justified widths) column = stmt.If (later column) (stmt.PutChar (expr.Lit (pos 32)) ∷ []) None ∷ []

-- the end of a line
abbrev pub line_feed : CStmt
line_feed = stmt.PutChar (expr.Lit (pos 10))

-- whether a row was written before turn i of an axis: one was before the axis, or it is not its first turn
abbrev pub goes_on : Int → Int → CExpr
goes_on started i = expr.Bin op.Or (expr.Var started) (expr.Bin op.Greater (expr.Var i) (expr.Lit (pos 0)))

-- whether an empty line parts it from that row: the axis has more than one index
abbrev pub parts : Int → Int → CExpr
parts moved length = expr.Bin op.And (expr.Var moved) (expr.Bin op.Greater (expr.Var length) (expr.Lit (pos 1)))

-- the head of a turn of an axis before the last two
abbrev pub head_stmts : Int → Int → Int → Int → List CStmt
head_stmts moved started i length = stmt.Set moved (goes_on started i) ∷ stmt.If (parts moved length) (line_feed ∷ []) None ∷ []

-- a builder with it, for which a whole variable is given
abbrev pub with_head : Int → Int → Int → Blocks → Blocks
with_head started i length b = record b { inner = b.inner ++ head_stmts (int.Local b.ints) started i length; ints = b.ints + 1 }

-- a builder with more statements in its innermost block
abbrev pub with_code : List CStmt → Blocks → Blocks
with_code code b = record b { inner = b.inner ++ code }
