-- The text of a program: each form has one.
use Rattle.std.specs.Prelude.{ℕ, zero, suc, ◌+◌, List, [], ◌∷◌, ◌++◌, length, codes, decimal, ℤ, Option, Some, None, map, if◌then◌else◌, nat_eq}
use Rattle.std.specs.Fmt.{signed_decimal}
use Rattle.aplc_scalar.specs.declared.kind.FaultKind.{FaultKind}
use Rattle.aplc_scalar.specs.declared.kind.FaultKind.TheVariants as fault
use Rattle.aplc_cprof.specs.declared.syntax.Int.{Int}
use Rattle.aplc_cprof.specs.declared.syntax.Int.TheVariants as int
use Rattle.aplc_cprof.specs.declared.syntax.Buf.{Buf}
use Rattle.aplc_cprof.specs.declared.syntax.Buf.TheVariants as buf
use Rattle.aplc_cprof.specs.declared.syntax.Op.{Op}
use Rattle.aplc_cprof.specs.declared.syntax.Op.TheVariants as op
use Rattle.aplc_cprof.specs.declared.syntax.Checked.{Checked}
use Rattle.aplc_cprof.specs.declared.syntax.Checked.TheVariants as checked
use Rattle.aplc_cprof.specs.declared.syntax.CExpr.{CExpr, fold-CExpr}
use Rattle.aplc_cprof.specs.declared.syntax.CExpr.TheOpen.{CExpr-F}
use Rattle.aplc_cprof.specs.declared.syntax.CStmt.{CStmt, fold-CStmt}
use Rattle.aplc_cprof.specs.declared.syntax.CStmt.TheFolds.{fold-Arm}
use Rattle.aplc_cprof.specs.declared.syntax.CStmt.TheOpen.{CStmt-F, Arm-F}
use Rattle.aplc_cprof.specs.declared.syntax.Arm.{Arm}
use Rattle.aplc_cprof.specs.declared.syntax.CFunction.{CFunction}
use Rattle.aplc_cprof.specs.declared.syntax.CProgram.{CProgram}
use Rattle.aplc_cprof.specs.Preamble.{preamble, tail}

-- ---- Names, operators, numbers

unfoldable pub int_name : Int → List ℕ
int_name (int.Local n) = codes "v" ++ decimal n
int_name (int.Global n) = codes "g" ++ decimal n

unfoldable pub buf_name : Buf → List ℕ
buf_name (buf.Local n) = codes "b" ++ decimal n
buf_name (buf.Global n) = codes "h" ++ decimal n

abbrev pub op_text : Op → List ℕ
op_text op.Add = codes " + "
op_text op.Sub = codes " - "
op_text op.Mul = codes " * "
op_text op.Div = codes " / "
op_text op.Rem = codes " % "
op_text op.Less = codes " < "
op_text op.LessEq = codes " <= "
op_text op.Equal = codes " == "
op_text op.NotEqual = codes " != "
op_text op.GreaterEq = codes " >= "
op_text op.Greater = codes " > "
op_text op.And = codes " && "
op_text op.Or = codes " || "

abbrev pub checked_text : Checked → List ℕ
checked_text checked.Add = codes " = add("
checked_text checked.Sub = codes " = sub("
checked_text checked.Mul = codes " = mul("

-- a fault's number is its kind's place in the list of kinds
abbrev pub fault_number : FaultKind → ℕ
fault_number fault.Domain = 0
fault_number fault.Index = 1
fault_number fault.Length = 2
fault_number fault.Limit = 3
fault_number fault.Rank = 4
fault_number fault.Value = 5
fault_number fault.Input = 6

-- ---- Expressions

-- one level of an expression, with the text of each part in its place
abbrev pub expr_step : CExpr-F (List ℕ) → List ℕ
expr_step (CExpr-F.Lit n) = signed_decimal n ++ codes "LL"
expr_step (CExpr-F.Var x) = int_name x
expr_step (CExpr-F.Cell p e) = buf_name p ++ codes "[" ++ e ++ codes "]"
expr_step (CExpr-F.Table k e) = codes "k" ++ decimal k ++ codes "[" ++ e ++ codes "]"
expr_step (CExpr-F.Bin o x y) = codes "(" ++ x ++ op_text o ++ y ++ codes ")"

abbrev pub expr_text : CExpr → List ℕ
expr_text = fold-CExpr (List ℕ) expr_step

-- ---- Statements

-- one text after the other
abbrev pub all_text : List (List ℕ) → List ℕ
all_text [] = []
all_text (t ∷ ts) = t ++ all_text ts

abbrev pub else_text : Option (List (List ℕ)) → List ℕ
else_text None = []
else_text (Some ts) = codes "} else {\n" ++ all_text ts

abbrev pub source_text : Option Buf → List ℕ
source_text None = codes " = 0;\n"
source_text (Some q) = codes " = " ++ buf_name q ++ codes ";\n"

-- one level of a statement, with the text of each statement and arm in it in its place
abbrev pub stmt_step : CStmt-F (List ℕ) (List ℕ) → List ℕ
stmt_step (CStmt-F.Set x e) = int_name x ++ codes " = " ++ expr_text e ++ codes ";\n"
stmt_step (CStmt-F.SetCell p e f) = buf_name p ++ codes "[" ++ expr_text e ++ codes "] = " ++ expr_text f ++ codes ";\n"
stmt_step (CStmt-F.SetBuf p q) = buf_name p ++ source_text q
stmt_step (CStmt-F.Cells p e) = buf_name p ++ codes " = cells(" ++ expr_text e ++ codes ");\n"
stmt_step (CStmt-F.Free p) = codes "drop(" ++ buf_name p ++ codes ");\n"
stmt_step (CStmt-F.Check x c e f) = int_name x ++ checked_text c ++ expr_text e ++ codes ", " ++ expr_text f ++ codes ");\n"
stmt_step (CStmt-F.Width x e) = int_name x ++ codes " = width(" ++ expr_text e ++ codes ");\n"
stmt_step (CStmt-F.PutNum e f) = codes "put_num(" ++ expr_text e ++ codes ", " ++ expr_text f ++ codes ");\n"
stmt_step (CStmt-F.PutChar e) = codes "put_char(" ++ expr_text e ++ codes ");\n"
stmt_step (CStmt-F.ReadText p) = buf_name p ++ codes " = read_text();\n"
stmt_step (CStmt-F.ReadNums p) = buf_name p ++ codes " = read_nums();\n"
stmt_step (CStmt-F.ReadCount x) = int_name x ++ codes " = read_n;\n"
stmt_step (CStmt-F.At name n) = codes "at(\"" ++ name ++ codes "\", " ++ signed_decimal n ++ codes ");\n"
stmt_step CStmt-F.Enter = codes "enter();\n"
stmt_step CStmt-F.Leave = codes "leave();\n"
stmt_step (CStmt-F.Fault k) = codes "fault(" ++ decimal (fault_number k) ++ codes ");\n"
stmt_step (CStmt-F.Call n) = codes "f" ++ decimal n ++ codes "();\n"
stmt_step CStmt-F.Return = codes "return;\n"
stmt_step (CStmt-F.If e a o) = codes "if (" ++ expr_text e ++ codes ") {\n" ++ all_text a ++ else_text o ++ codes "}\n"
stmt_step (CStmt-F.While e a) = codes "while (" ++ expr_text e ++ codes ") {\n" ++ all_text a ++ codes "}\n"
stmt_step (CStmt-F.Switch x arms d) = codes "switch (" ++ int_name x ++ codes ") {\n" ++ all_text arms ++ codes "default: {\n" ++ all_text d ++ codes "} break;\n}\n"

-- the text of an arm, with the text of each of its statements in its place
abbrev pub arm_step : Arm-F (List ℕ) (List ℕ) → List ℕ
arm_step a = codes "case " ++ signed_decimal a.value ++ codes ": {\n" ++ all_text a.body ++ codes "} break;\n"

abbrev pub stmt_text : CStmt → List ℕ
stmt_text = fold-CStmt (List ℕ) (List ℕ) stmt_step arm_step

abbrev pub stmts_text : List CStmt → List ℕ
stmts_text ss = all_text (map stmt_text ss)

abbrev pub arm_text : Arm → List ℕ
arm_text = fold-Arm (List ℕ) (List ℕ) stmt_step arm_step

abbrev pub arms_text : List Arm → List ℕ
arms_text ss = all_text (map arm_text ss)

abbrev pub otherwise_text : Option (List CStmt) → List ℕ
otherwise_text None = []
otherwise_text (Some ss) = codes "} else {\n" ++ stmts_text ss

-- ---- Programs

-- items 0 to n - 1, parted by commas
abbrev pub listed_from : (ℕ → List ℕ) → ℕ → ℕ → List ℕ
listed_from item k zero = []
listed_from item k (suc n) = codes ", " ++ item k ++ listed_from item (k + 1) n

abbrev pub listed : (ℕ → List ℕ) → ℕ → List ℕ
listed item zero = []
listed item (suc n) = item 0 ++ listed_from item 1 n

-- a line that declares n variables, where there are any
abbrev pub declaration : List ℕ → (ℕ → List ℕ) → ℕ → List ℕ
declaration head item n = if nat_eq n 0 then [] else head ++ listed item n ++ codes ";\n"

abbrev pub local_int : ℕ → List ℕ
local_int k = codes "v" ++ decimal k

abbrev pub local_buf : ℕ → List ℕ
local_buf k = codes "*b" ++ decimal k ++ codes " = 0"

abbrev pub global_int : ℕ → List ℕ
global_int k = codes "g" ++ decimal k

abbrev pub global_buf : ℕ → List ℕ
global_buf k = codes "*h" ++ decimal k

abbrev pub more_numbers : List ℤ → List ℕ
more_numbers [] = []
more_numbers (x ∷ xs) = codes ", " ++ signed_decimal x ++ more_numbers xs

abbrev pub numbers_text : List ℤ → List ℕ
numbers_text [] = []
numbers_text (x ∷ xs) = signed_decimal x ++ more_numbers xs

-- the table of number k
abbrev pub table_text : ℕ → List ℤ → List ℕ
table_text k xs = codes "static const int64_t k" ++ decimal k ++ codes "[" ++ decimal (length xs) ++ codes "] = {" ++ numbers_text xs ++ codes "};\n"

abbrev pub tables_text : ℕ → List (List ℤ) → List ℕ
tables_text k [] = []
tables_text k (t ∷ ts) = table_text k t ++ tables_text (k + 1) ts

-- the prototypes of functions k to k + n - 1
abbrev pub prototypes_text : ℕ → ℕ → List ℕ
prototypes_text k zero = []
prototypes_text k (suc n) = codes "static void f" ++ decimal k ++ codes "(void);\n" ++ prototypes_text (k + 1) n

-- the function of number k
abbrev pub function_text : ℕ → CFunction → List ℕ
function_text k f =
    codes "static void f" ++ decimal k ++ codes "(void) {\n"
    ++ declaration (codes "int64_t ") local_int f.ints ++ declaration (codes "int64_t ") local_buf f.bufs
    ++ stmts_text f.body ++ codes "}\n"

abbrev pub functions_text : ℕ → List CFunction → List ℕ
functions_text k [] = []
functions_text k (f ∷ fs) = function_text k f ++ functions_text (k + 1) fs

unfoldable pub program_text : CProgram → List ℕ
program_text p =
    preamble ++ tables_text 0 p.tables
    ++ declaration (codes "static int64_t ") global_int p.ints ++ declaration (codes "static int64_t ") global_buf p.bufs
    ++ prototypes_text 0 (length p.functions) ++ functions_text 0 p.functions ++ tail
