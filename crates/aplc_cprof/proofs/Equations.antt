-- What the text of each form is.
use Rattle.std.proofs.Common.{◌≡◌, ◌∙◌, ap, sym, ℕ, List, ◌++◌, codes, decimal, ℤ}
use Rattle.std.specs.Prelude.{Option, Some, None}
use Rattle.std.specs.Fmt.{signed_decimal}
use Rattle.aplc_scalar.specs.declared.kind.FaultKind.{FaultKind}
use Rattle.aplc_cprof.specs.declared.syntax.Int.{Int}
use Rattle.aplc_cprof.specs.declared.syntax.Buf.{Buf}
use Rattle.aplc_cprof.specs.declared.syntax.Op.{Op}
use Rattle.aplc_cprof.specs.declared.syntax.Checked.{Checked}
use Rattle.aplc_cprof.specs.declared.syntax.CExpr.{CExpr}
use Rattle.aplc_cprof.specs.declared.syntax.CExpr.TheVariants as expr
use Rattle.aplc_cprof.specs.declared.syntax.CExpr.TheOpen.{CExpr-F}
use Rattle.aplc_cprof.specs.declared.syntax.CExpr.TheFolds.{fold-roll-CExpr}
use Rattle.aplc_cprof.specs.declared.syntax.Arm.{Arm}
use Rattle.aplc_cprof.specs.declared.syntax.CStmt.{CStmt}
use Rattle.aplc_cprof.specs.declared.syntax.CStmt.TheVariants as stmt
use Rattle.aplc_cprof.specs.declared.syntax.CStmt.TheOpen.{CStmt-F}
use Rattle.aplc_cprof.specs.declared.syntax.CStmt.TheFolds.{fold-roll-CStmt, fold_out-Arm}
use Rattle.aplc_cprof.specs.Text.{int_name, buf_name, op_text, checked_text, fault_number, expr_step, expr_text, stmt_step, arm_step, stmt_text, stmts_text, arm_text, arms_text, otherwise_text, source_text}

-- ---- Expressions

pub expr_text_Lit : (n : ℤ) → expr_text (expr.Lit n) ≡ signed_decimal n ++ codes "LL"
expr_text_Lit n = ap expr_text (sym (expr.rolls-Lit n)) ∙ fold-roll-CExpr (List ℕ) expr_step (CExpr-F.Lit n)

pub expr_text_Var : (x : Int) → expr_text (expr.Var x) ≡ int_name x
expr_text_Var x = ap expr_text (sym (expr.rolls-Var x)) ∙ fold-roll-CExpr (List ℕ) expr_step (CExpr-F.Var x)

pub expr_text_Cell : (p : Buf) (e : CExpr) → expr_text (expr.Cell p e) ≡ buf_name p ++ codes "[" ++ expr_text e ++ codes "]"
expr_text_Cell p e = ap expr_text (sym (expr.rolls-Cell p e)) ∙ fold-roll-CExpr (List ℕ) expr_step (CExpr-F.Cell p e)

pub expr_text_Table : (k : ℕ) (e : CExpr) → expr_text (expr.Table k e) ≡ codes "k" ++ decimal k ++ codes "[" ++ expr_text e ++ codes "]"
expr_text_Table k e = ap expr_text (sym (expr.rolls-Table k e)) ∙ fold-roll-CExpr (List ℕ) expr_step (CExpr-F.Table k e)

pub expr_text_Bin : (o : Op) (x y : CExpr) → expr_text (expr.Bin o x y) ≡ codes "(" ++ expr_text x ++ op_text o ++ expr_text y ++ codes ")"
expr_text_Bin o x y = ap expr_text (sym (expr.rolls-Bin o x y)) ∙ fold-roll-CExpr (List ℕ) expr_step (CExpr-F.Bin o x y)

pub ruleset expr_texts = (expr_text_Lit, expr_text_Var, expr_text_Cell, expr_text_Table, expr_text_Bin)

-- ---- Statements

pub text_Set : (x : Int) (e : CExpr) → stmt_text (stmt.Set x e) ≡ int_name x ++ codes " = " ++ expr_text e ++ codes ";\n"
text_Set x e = ap stmt_text (sym (stmt.rolls-Set x e)) ∙ fold-roll-CStmt (List ℕ) (List ℕ) stmt_step arm_step (CStmt-F.Set x e)

pub text_SetCell : (p : Buf) (e f : CExpr) → stmt_text (stmt.SetCell p e f) ≡ buf_name p ++ codes "[" ++ expr_text e ++ codes "] = " ++ expr_text f ++ codes ";\n"
text_SetCell p e f = ap stmt_text (sym (stmt.rolls-SetCell p e f)) ∙ fold-roll-CStmt (List ℕ) (List ℕ) stmt_step arm_step (CStmt-F.SetCell p e f)

pub text_SetBuf : (p : Buf) (q : Option Buf) → stmt_text (stmt.SetBuf p q) ≡ buf_name p ++ source_text q
text_SetBuf p None = ap stmt_text (sym (stmt.rolls-SetBuf p None)) ∙ fold-roll-CStmt (List ℕ) (List ℕ) stmt_step arm_step (CStmt-F.SetBuf p None)
text_SetBuf p (Some q) = ap stmt_text (sym (stmt.rolls-SetBuf p (Some q))) ∙ fold-roll-CStmt (List ℕ) (List ℕ) stmt_step arm_step (CStmt-F.SetBuf p (Some q))

pub text_Cells : (p : Buf) (e : CExpr) → stmt_text (stmt.Cells p e) ≡ buf_name p ++ codes " = cells(" ++ expr_text e ++ codes ");\n"
text_Cells p e = ap stmt_text (sym (stmt.rolls-Cells p e)) ∙ fold-roll-CStmt (List ℕ) (List ℕ) stmt_step arm_step (CStmt-F.Cells p e)

pub text_Free : (p : Buf) → stmt_text (stmt.Free p) ≡ codes "drop(" ++ buf_name p ++ codes ");\n"
text_Free p = ap stmt_text (sym (stmt.rolls-Free p)) ∙ fold-roll-CStmt (List ℕ) (List ℕ) stmt_step arm_step (CStmt-F.Free p)

pub text_Check : (x : Int) (o : Checked) (e f : CExpr) → stmt_text (stmt.Check x o e f) ≡ int_name x ++ checked_text o ++ expr_text e ++ codes ", " ++ expr_text f ++ codes ");\n"
text_Check x o e f = ap stmt_text (sym (stmt.rolls-Check x o e f)) ∙ fold-roll-CStmt (List ℕ) (List ℕ) stmt_step arm_step (CStmt-F.Check x o e f)

pub text_Width : (x : Int) (e : CExpr) → stmt_text (stmt.Width x e) ≡ int_name x ++ codes " = width(" ++ expr_text e ++ codes ");\n"
text_Width x e = ap stmt_text (sym (stmt.rolls-Width x e)) ∙ fold-roll-CStmt (List ℕ) (List ℕ) stmt_step arm_step (CStmt-F.Width x e)

pub text_PutNum : (e f : CExpr) → stmt_text (stmt.PutNum e f) ≡ codes "put_num(" ++ expr_text e ++ codes ", " ++ expr_text f ++ codes ");\n"
text_PutNum e f = ap stmt_text (sym (stmt.rolls-PutNum e f)) ∙ fold-roll-CStmt (List ℕ) (List ℕ) stmt_step arm_step (CStmt-F.PutNum e f)

pub text_PutChar : (e : CExpr) → stmt_text (stmt.PutChar e) ≡ codes "put_char(" ++ expr_text e ++ codes ");\n"
text_PutChar e = ap stmt_text (sym (stmt.rolls-PutChar e)) ∙ fold-roll-CStmt (List ℕ) (List ℕ) stmt_step arm_step (CStmt-F.PutChar e)

pub text_ReadText : (p : Buf) → stmt_text (stmt.ReadText p) ≡ buf_name p ++ codes " = read_text();\n"
text_ReadText p = ap stmt_text (sym (stmt.rolls-ReadText p)) ∙ fold-roll-CStmt (List ℕ) (List ℕ) stmt_step arm_step (CStmt-F.ReadText p)

pub text_ReadNums : (p : Buf) → stmt_text (stmt.ReadNums p) ≡ buf_name p ++ codes " = read_nums();\n"
text_ReadNums p = ap stmt_text (sym (stmt.rolls-ReadNums p)) ∙ fold-roll-CStmt (List ℕ) (List ℕ) stmt_step arm_step (CStmt-F.ReadNums p)

pub text_ReadCount : (x : Int) → stmt_text (stmt.ReadCount x) ≡ int_name x ++ codes " = read_n;\n"
text_ReadCount x = ap stmt_text (sym (stmt.rolls-ReadCount x)) ∙ fold-roll-CStmt (List ℕ) (List ℕ) stmt_step arm_step (CStmt-F.ReadCount x)

pub text_At : (name : List ℕ) (n : ℤ) → stmt_text (stmt.At name n) ≡ codes "at(\"" ++ name ++ codes "\", " ++ signed_decimal n ++ codes ");\n"
text_At name n = ap stmt_text (sym (stmt.rolls-At name n)) ∙ fold-roll-CStmt (List ℕ) (List ℕ) stmt_step arm_step (CStmt-F.At name n)

pub text_Enter : stmt_text stmt.Enter ≡ codes "enter();\n"
text_Enter = ap stmt_text (sym stmt.rolls-Enter) ∙ fold-roll-CStmt (List ℕ) (List ℕ) stmt_step arm_step CStmt-F.Enter

pub text_Leave : stmt_text stmt.Leave ≡ codes "leave();\n"
text_Leave = ap stmt_text (sym stmt.rolls-Leave) ∙ fold-roll-CStmt (List ℕ) (List ℕ) stmt_step arm_step CStmt-F.Leave

pub text_Fault : (k : FaultKind) → stmt_text (stmt.Fault k) ≡ codes "fault(" ++ decimal (fault_number k) ++ codes ");\n"
text_Fault k = ap stmt_text (sym (stmt.rolls-Fault k)) ∙ fold-roll-CStmt (List ℕ) (List ℕ) stmt_step arm_step (CStmt-F.Fault k)

pub text_Call : (n : ℕ) → stmt_text (stmt.Call n) ≡ codes "f" ++ decimal n ++ codes "();\n"
text_Call n = ap stmt_text (sym (stmt.rolls-Call n)) ∙ fold-roll-CStmt (List ℕ) (List ℕ) stmt_step arm_step (CStmt-F.Call n)

pub text_Return : stmt_text stmt.Return ≡ codes "return;\n"
text_Return = ap stmt_text (sym stmt.rolls-Return) ∙ fold-roll-CStmt (List ℕ) (List ℕ) stmt_step arm_step CStmt-F.Return

pub text_If : (e : CExpr) (a : List CStmt) (o : Option (List CStmt)) → stmt_text (stmt.If e a o) ≡ codes "if (" ++ expr_text e ++ codes ") {\n" ++ stmts_text a ++ otherwise_text o ++ codes "}\n"
text_If e a None = ap stmt_text (sym (stmt.rolls-If e a None)) ∙ fold-roll-CStmt (List ℕ) (List ℕ) stmt_step arm_step (CStmt-F.If e a None)
text_If e a (Some b) = ap stmt_text (sym (stmt.rolls-If e a (Some b))) ∙ fold-roll-CStmt (List ℕ) (List ℕ) stmt_step arm_step (CStmt-F.If e a (Some b))

pub text_While : (e : CExpr) (a : List CStmt) → stmt_text (stmt.While e a) ≡ codes "while (" ++ expr_text e ++ codes ") {\n" ++ stmts_text a ++ codes "}\n"
text_While e a = ap stmt_text (sym (stmt.rolls-While e a)) ∙ fold-roll-CStmt (List ℕ) (List ℕ) stmt_step arm_step (CStmt-F.While e a)

pub text_Switch : (x : Int) (arms : List Arm) (d : List CStmt) → stmt_text (stmt.Switch x arms d) ≡ codes "switch (" ++ int_name x ++ codes ") {\n" ++ arms_text arms ++ codes "default: {\n" ++ stmts_text d ++ codes "} break;\n}\n"
text_Switch x arms d = ap stmt_text (sym (stmt.rolls-Switch x arms d)) ∙ fold-roll-CStmt (List ℕ) (List ℕ) stmt_step arm_step (CStmt-F.Switch x arms d)

pub text_arm : (a : Arm) → arm_text a ≡ codes "case " ++ signed_decimal a.value ++ codes ": {\n" ++ stmts_text a.body ++ codes "} break;\n"
text_arm a = fold_out-Arm (List ℕ) (List ℕ) stmt_step arm_step a

pub ruleset texts = (text_Set, text_SetCell, text_SetBuf, text_Cells, text_Free, text_Check, text_Width, text_PutNum, text_PutChar, text_ReadText, text_ReadNums, text_ReadCount, text_At, text_Enter, text_Leave, text_Fault, text_Call, text_Return, text_If, text_While, text_Switch)
