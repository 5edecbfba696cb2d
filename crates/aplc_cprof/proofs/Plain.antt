-- Programs whose numbers fit their types and whose names hold no quote.
use Rattle.std.specs.Prelude.{ℕ, ◌^◌, List, [], ◌∷◌, length, map, ℤ, pos, negsuc, Some, None, Bool, true, ◌&&◌, not, IsTrue, nat_eq, nat_lt}
use Rattle.aplc_cprof.specs.declared.syntax.Int.{Int}
use Rattle.aplc_cprof.specs.declared.syntax.Int.TheVariants as int
use Rattle.aplc_cprof.specs.declared.syntax.Buf.{Buf}
use Rattle.aplc_cprof.specs.declared.syntax.Buf.TheVariants as buf
use Rattle.aplc_cprof.specs.declared.syntax.CExpr.{CExpr, fold-CExpr}
use Rattle.aplc_cprof.specs.declared.syntax.CExpr.TheOpen.{CExpr-F}
use Rattle.aplc_cprof.specs.declared.syntax.CStmt.{CStmt, fold-CStmt}
use Rattle.aplc_cprof.specs.declared.syntax.CStmt.TheFolds.{fold-Arm}
use Rattle.aplc_cprof.specs.declared.syntax.CStmt.TheOpen.{CStmt-F, Arm-F}
use Rattle.aplc_cprof.specs.declared.syntax.Arm.{Arm}
use Rattle.aplc_cprof.specs.declared.syntax.CFunction.{CFunction}
use Rattle.aplc_cprof.specs.declared.syntax.CProgram.{CProgram}

-- a number of 64 bits with a sign: from -(2 ^ 63) to 2 ^ 63 - 1
abbrev pub is_word : ℤ → Bool
is_word (pos n) = nat_lt n (2 ^ 63)
is_word (negsuc n) = nat_lt n (2 ^ 63)

-- the number of a variable, a table or a function
abbrev pub is_index : ℕ → Bool
is_index n = nat_lt n (2 ^ 32)

abbrev pub is_plain_int : Int → Bool
is_plain_int (int.Local n) = is_index n
is_plain_int (int.Global n) = is_index n

abbrev pub is_plain_buf : Buf → Bool
is_plain_buf (buf.Local n) = is_index n
is_plain_buf (buf.Global n) = is_index n

-- no byte is a quote
abbrev pub is_quoteless : List ℕ → Bool
is_quoteless [] = true
is_quoteless (c ∷ cs) = not (nat_eq c 34) && is_quoteless cs

abbrev pub all_true : List Bool → Bool
all_true [] = true
all_true (b ∷ bs) = b && all_true bs

-- one level of an expression, with what its parts are in their place
abbrev pub plain_expr_step : CExpr-F Bool → Bool
plain_expr_step (CExpr-F.Lit n) = is_word n
plain_expr_step (CExpr-F.Var x) = is_plain_int x
plain_expr_step (CExpr-F.Cell p e) = is_plain_buf p && e
plain_expr_step (CExpr-F.Table k e) = is_index k && e
plain_expr_step (CExpr-F.Bin o x y) = x && y

abbrev pub is_plain_expr : CExpr → Bool
is_plain_expr = fold-CExpr Bool plain_expr_step

-- one level of a statement, with what each statement and arm in it is in its place
abbrev pub plain_stmt_step : CStmt-F Bool Bool → Bool
plain_stmt_step (CStmt-F.Set x e) = is_plain_int x && is_plain_expr e
plain_stmt_step (CStmt-F.SetCell p e f) = is_plain_buf p && (is_plain_expr e && is_plain_expr f)
plain_stmt_step (CStmt-F.SetBuf p None) = is_plain_buf p
plain_stmt_step (CStmt-F.SetBuf p (Some q)) = is_plain_buf p && is_plain_buf q
plain_stmt_step (CStmt-F.Cells p e) = is_plain_buf p && is_plain_expr e
plain_stmt_step (CStmt-F.Free p) = is_plain_buf p
plain_stmt_step (CStmt-F.Check x c e f) = is_plain_int x && (is_plain_expr e && is_plain_expr f)
plain_stmt_step (CStmt-F.Width x e) = is_plain_int x && is_plain_expr e
plain_stmt_step (CStmt-F.PutNum e f) = is_plain_expr e && is_plain_expr f
plain_stmt_step (CStmt-F.PutChar e) = is_plain_expr e
plain_stmt_step (CStmt-F.ReadText p) = is_plain_buf p
plain_stmt_step (CStmt-F.ReadNums p) = is_plain_buf p
plain_stmt_step (CStmt-F.ReadCount x) = is_plain_int x
plain_stmt_step (CStmt-F.At name n) = is_quoteless name && is_word n
plain_stmt_step CStmt-F.Enter = true
plain_stmt_step CStmt-F.Leave = true
plain_stmt_step (CStmt-F.Fault k) = true
plain_stmt_step (CStmt-F.Call n) = is_index n
plain_stmt_step CStmt-F.Return = true
plain_stmt_step (CStmt-F.If e a None) = is_plain_expr e && all_true a
plain_stmt_step (CStmt-F.If e a (Some b)) = is_plain_expr e && (all_true a && all_true b)
plain_stmt_step (CStmt-F.While e a) = is_plain_expr e && all_true a
plain_stmt_step (CStmt-F.Switch x arms d) = is_plain_int x && (all_true arms && all_true d)

abbrev pub plain_arm_step : Arm-F Bool Bool → Bool
plain_arm_step a = is_word a.value && all_true a.body

abbrev pub is_plain_stmt : CStmt → Bool
is_plain_stmt = fold-CStmt Bool Bool plain_stmt_step plain_arm_step

abbrev pub is_plain_arm : Arm → Bool
is_plain_arm = fold-Arm Bool Bool plain_stmt_step plain_arm_step

abbrev pub are_plain_functions : List CFunction → Bool
are_plain_functions [] = true
are_plain_functions (f ∷ fs) = all_true (map is_plain_stmt f.body) && are_plain_functions fs

-- a table of numbers, so many that 64 bits can count them
abbrev pub is_plain_table : List ℤ → Bool
is_plain_table t = nat_lt (length t) (2 ^ 64) && all_true (map is_word t)

-- so few functions that 64 bits can count them
abbrev pub is_plain : CProgram → Bool
is_plain p =
    all_true (map is_plain_table p.tables)
    && (nat_lt (length p.functions) (2 ^ 64) && are_plain_functions p.functions)

abbrev pub IsPlain : CProgram → Type 0
IsPlain p = IsTrue (is_plain p)
