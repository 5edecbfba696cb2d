-- When each form is well formed, within a scope and the room that is left.
use Rattle.std.proofs.Common.{◌≡◌, ◌∙◌, ap, sym, ℕ, List, map, ℤ}
use Rattle.std.specs.Prelude.{Option, Some, None, Bool, true, ◌&&◌, nat_lt}
use Rattle.aplc_scalar.specs.declared.kind.FaultKind.{FaultKind}
use Rattle.aplc_cprof.specs.declared.syntax.Int.{Int}
use Rattle.aplc_cprof.specs.declared.syntax.Buf.{Buf}
use Rattle.aplc_cprof.specs.declared.syntax.Op.{Op}
use Rattle.aplc_cprof.specs.declared.syntax.Checked.{Checked}
use Rattle.aplc_cprof.specs.declared.syntax.CExpr.{CExpr}
use Rattle.aplc_cprof.specs.declared.syntax.CExpr.TheVariants as expr
use Rattle.aplc_cprof.specs.declared.syntax.CExpr.TheOpen.{CExpr-F}
use Rattle.aplc_cprof.specs.declared.syntax.CExpr.TheFolds.{fold-roll-CExpr}
use Rattle.aplc_cprof.specs.declared.syntax.Arm.{Arm}
use Rattle.aplc_cprof.specs.declared.syntax.CStmt.{CStmt}
use Rattle.aplc_cprof.specs.declared.syntax.CStmt.TheVariants as stmt
use Rattle.aplc_cprof.specs.declared.syntax.CStmt.TheOpen.{CStmt-F}
use Rattle.aplc_cprof.specs.declared.syntax.CStmt.TheFolds.{fold-roll-CStmt, fold_out-Arm}
use Rattle.aplc_cprof.specs.WellFormed.{Scope, ArmTest, is_int, is_buf, is_source, is_plain, is_name, inside, rise, arms_fit, expr_fits, stmt_fits, arm_fits, is_expr, is_stmt, arm_test, are_stmts, is_otherwise}

-- ---- Expressions

pub is_Lit : (sc : Scope) (n : ℤ) (room : Option ℕ) → is_expr sc (expr.Lit n) room ≡ is_plain n
unfolding is_expr
is_Lit sc n room = ap (λ e. is_expr sc e room) (sym (expr.rolls-Lit n)) ∙ ap (λ f. f room) (fold-roll-CExpr (Option ℕ → Bool) (expr_fits sc) (CExpr-F.Lit n))

pub is_Var : (sc : Scope) (x : Int) (room : Option ℕ) → is_expr sc (expr.Var x) room ≡ is_int sc x
unfolding is_expr
is_Var sc x room = ap (λ e. is_expr sc e room) (sym (expr.rolls-Var x)) ∙ ap (λ f. f room) (fold-roll-CExpr (Option ℕ → Bool) (expr_fits sc) (CExpr-F.Var x))

pub is_Cell : (sc : Scope) (p : Buf) (e : CExpr) (room : Option ℕ) → is_expr sc (expr.Cell p e) room ≡ (is_buf sc p && inside room (is_expr sc e))
unfolding is_expr
is_Cell sc p e room = ap (λ e. is_expr sc e room) (sym (expr.rolls-Cell p e)) ∙ ap (λ f. f room) (fold-roll-CExpr (Option ℕ → Bool) (expr_fits sc) (CExpr-F.Cell p e))

pub is_Table : (sc : Scope) (k : ℕ) (e : CExpr) (room : Option ℕ) → is_expr sc (expr.Table k e) room ≡ (nat_lt k sc.tables && inside room (is_expr sc e))
unfolding is_expr
is_Table sc k e room = ap (λ e. is_expr sc e room) (sym (expr.rolls-Table k e)) ∙ ap (λ f. f room) (fold-roll-CExpr (Option ℕ → Bool) (expr_fits sc) (CExpr-F.Table k e))

pub is_Bin : (sc : Scope) (o : Op) (x y : CExpr) (room : Option ℕ) → is_expr sc (expr.Bin o x y) room ≡ inside room (λ r. is_expr sc x r && is_expr sc y r)
unfolding is_expr
is_Bin sc o x y room = ap (λ e. is_expr sc e room) (sym (expr.rolls-Bin o x y)) ∙ ap (λ f. f room) (fold-roll-CExpr (Option ℕ → Bool) (expr_fits sc) (CExpr-F.Bin o x y))

pub ruleset expr_forms = (is_Lit, is_Var, is_Cell, is_Table, is_Bin)

-- ---- Statements

pub is_Set : (sc : Scope) (x : Int) (e : CExpr) (room : Option ℕ) → is_stmt sc (stmt.Set x e) room ≡ (is_int sc x && is_expr sc e room)
unfolding is_stmt
is_Set sc x e room = ap (λ s. is_stmt sc s room) (sym (stmt.rolls-Set x e)) ∙ ap (λ f. f room) (fold-roll-CStmt (Option ℕ → Bool) ArmTest (stmt_fits sc) arm_fits (CStmt-F.Set x e))

pub is_SetCell : (sc : Scope) (p : Buf) (e f : CExpr) (room : Option ℕ) → is_stmt sc (stmt.SetCell p e f) room ≡ (is_buf sc p && is_expr sc e room && is_expr sc f room)
unfolding is_stmt
is_SetCell sc p e f room = ap (λ s. is_stmt sc s room) (sym (stmt.rolls-SetCell p e f)) ∙ ap (λ f. f room) (fold-roll-CStmt (Option ℕ → Bool) ArmTest (stmt_fits sc) arm_fits (CStmt-F.SetCell p e f))

pub is_SetBuf : (sc : Scope) (p : Buf) (q : Option Buf) (room : Option ℕ) → is_stmt sc (stmt.SetBuf p q) room ≡ (is_buf sc p && is_source sc q)
unfolding is_stmt
is_SetBuf sc p None room = ap (λ s. is_stmt sc s room) (sym (stmt.rolls-SetBuf p None)) ∙ ap (λ f. f room) (fold-roll-CStmt (Option ℕ → Bool) ArmTest (stmt_fits sc) arm_fits (CStmt-F.SetBuf p None))
is_SetBuf sc p (Some q) room = ap (λ s. is_stmt sc s room) (sym (stmt.rolls-SetBuf p (Some q))) ∙ ap (λ f. f room) (fold-roll-CStmt (Option ℕ → Bool) ArmTest (stmt_fits sc) arm_fits (CStmt-F.SetBuf p (Some q)))

pub is_Cells : (sc : Scope) (p : Buf) (e : CExpr) (room : Option ℕ) → is_stmt sc (stmt.Cells p e) room ≡ (is_buf sc p && is_expr sc e room)
unfolding is_stmt
is_Cells sc p e room = ap (λ s. is_stmt sc s room) (sym (stmt.rolls-Cells p e)) ∙ ap (λ f. f room) (fold-roll-CStmt (Option ℕ → Bool) ArmTest (stmt_fits sc) arm_fits (CStmt-F.Cells p e))

pub is_Free : (sc : Scope) (p : Buf) (room : Option ℕ) → is_stmt sc (stmt.Free p) room ≡ is_buf sc p
unfolding is_stmt
is_Free sc p room = ap (λ s. is_stmt sc s room) (sym (stmt.rolls-Free p)) ∙ ap (λ f. f room) (fold-roll-CStmt (Option ℕ → Bool) ArmTest (stmt_fits sc) arm_fits (CStmt-F.Free p))

pub is_Check : (sc : Scope) (x : Int) (o : Checked) (e f : CExpr) (room : Option ℕ) → is_stmt sc (stmt.Check x o e f) room ≡ (is_int sc x && is_expr sc e room && is_expr sc f room)
unfolding is_stmt
is_Check sc x o e f room = ap (λ s. is_stmt sc s room) (sym (stmt.rolls-Check x o e f)) ∙ ap (λ f. f room) (fold-roll-CStmt (Option ℕ → Bool) ArmTest (stmt_fits sc) arm_fits (CStmt-F.Check x o e f))

pub is_Width : (sc : Scope) (x : Int) (e : CExpr) (room : Option ℕ) → is_stmt sc (stmt.Width x e) room ≡ (is_int sc x && is_expr sc e room)
unfolding is_stmt
is_Width sc x e room = ap (λ s. is_stmt sc s room) (sym (stmt.rolls-Width x e)) ∙ ap (λ f. f room) (fold-roll-CStmt (Option ℕ → Bool) ArmTest (stmt_fits sc) arm_fits (CStmt-F.Width x e))

pub is_PutNum : (sc : Scope) (e f : CExpr) (room : Option ℕ) → is_stmt sc (stmt.PutNum e f) room ≡ (is_expr sc e room && is_expr sc f room)
unfolding is_stmt
is_PutNum sc e f room = ap (λ s. is_stmt sc s room) (sym (stmt.rolls-PutNum e f)) ∙ ap (λ f. f room) (fold-roll-CStmt (Option ℕ → Bool) ArmTest (stmt_fits sc) arm_fits (CStmt-F.PutNum e f))

pub is_PutChar : (sc : Scope) (e : CExpr) (room : Option ℕ) → is_stmt sc (stmt.PutChar e) room ≡ is_expr sc e room
unfolding is_stmt
is_PutChar sc e room = ap (λ s. is_stmt sc s room) (sym (stmt.rolls-PutChar e)) ∙ ap (λ f. f room) (fold-roll-CStmt (Option ℕ → Bool) ArmTest (stmt_fits sc) arm_fits (CStmt-F.PutChar e))

pub is_ReadText : (sc : Scope) (p : Buf) (room : Option ℕ) → is_stmt sc (stmt.ReadText p) room ≡ is_buf sc p
unfolding is_stmt
is_ReadText sc p room = ap (λ s. is_stmt sc s room) (sym (stmt.rolls-ReadText p)) ∙ ap (λ f. f room) (fold-roll-CStmt (Option ℕ → Bool) ArmTest (stmt_fits sc) arm_fits (CStmt-F.ReadText p))

pub is_ReadNums : (sc : Scope) (p : Buf) (room : Option ℕ) → is_stmt sc (stmt.ReadNums p) room ≡ is_buf sc p
unfolding is_stmt
is_ReadNums sc p room = ap (λ s. is_stmt sc s room) (sym (stmt.rolls-ReadNums p)) ∙ ap (λ f. f room) (fold-roll-CStmt (Option ℕ → Bool) ArmTest (stmt_fits sc) arm_fits (CStmt-F.ReadNums p))

pub is_ReadCount : (sc : Scope) (x : Int) (room : Option ℕ) → is_stmt sc (stmt.ReadCount x) room ≡ is_int sc x
unfolding is_stmt
is_ReadCount sc x room = ap (λ s. is_stmt sc s room) (sym (stmt.rolls-ReadCount x)) ∙ ap (λ f. f room) (fold-roll-CStmt (Option ℕ → Bool) ArmTest (stmt_fits sc) arm_fits (CStmt-F.ReadCount x))

pub is_At : (sc : Scope) (name : List ℕ) (n : ℤ) (room : Option ℕ) → is_stmt sc (stmt.At name n) room ≡ (is_name name && is_plain n)
unfolding is_stmt
is_At sc name n room = ap (λ s. is_stmt sc s room) (sym (stmt.rolls-At name n)) ∙ ap (λ f. f room) (fold-roll-CStmt (Option ℕ → Bool) ArmTest (stmt_fits sc) arm_fits (CStmt-F.At name n))

pub is_Enter : (sc : Scope) (room : Option ℕ) → is_stmt sc stmt.Enter room ≡ true
unfolding is_stmt
is_Enter sc room = ap (λ s. is_stmt sc s room) (sym stmt.rolls-Enter) ∙ ap (λ f. f room) (fold-roll-CStmt (Option ℕ → Bool) ArmTest (stmt_fits sc) arm_fits CStmt-F.Enter)

pub is_Leave : (sc : Scope) (room : Option ℕ) → is_stmt sc stmt.Leave room ≡ true
unfolding is_stmt
is_Leave sc room = ap (λ s. is_stmt sc s room) (sym stmt.rolls-Leave) ∙ ap (λ f. f room) (fold-roll-CStmt (Option ℕ → Bool) ArmTest (stmt_fits sc) arm_fits CStmt-F.Leave)

pub is_Fault : (sc : Scope) (k : FaultKind) (room : Option ℕ) → is_stmt sc (stmt.Fault k) room ≡ true
unfolding is_stmt
is_Fault sc k room = ap (λ s. is_stmt sc s room) (sym (stmt.rolls-Fault k)) ∙ ap (λ f. f room) (fold-roll-CStmt (Option ℕ → Bool) ArmTest (stmt_fits sc) arm_fits (CStmt-F.Fault k))

pub is_Call : (sc : Scope) (n : ℕ) (room : Option ℕ) → is_stmt sc (stmt.Call n) room ≡ nat_lt n sc.functions
unfolding is_stmt
is_Call sc n room = ap (λ s. is_stmt sc s room) (sym (stmt.rolls-Call n)) ∙ ap (λ f. f room) (fold-roll-CStmt (Option ℕ → Bool) ArmTest (stmt_fits sc) arm_fits (CStmt-F.Call n))

pub is_Return : (sc : Scope) (room : Option ℕ) → is_stmt sc stmt.Return room ≡ true
unfolding is_stmt
is_Return sc room = ap (λ s. is_stmt sc s room) (sym stmt.rolls-Return) ∙ ap (λ f. f room) (fold-roll-CStmt (Option ℕ → Bool) ArmTest (stmt_fits sc) arm_fits CStmt-F.Return)

pub is_If : (sc : Scope) (e : CExpr) (a : List CStmt) (o : Option (List CStmt)) (room : Option ℕ) → is_stmt sc (stmt.If e a o) room ≡ (is_expr sc e room && inside room (λ r. are_stmts sc a r && is_otherwise sc o r))
unfolding is_stmt
is_If sc e a None room = ap (λ s. is_stmt sc s room) (sym (stmt.rolls-If e a None)) ∙ ap (λ f. f room) (fold-roll-CStmt (Option ℕ → Bool) ArmTest (stmt_fits sc) arm_fits (CStmt-F.If e a None))
is_If sc e a (Some b) room = ap (λ s. is_stmt sc s room) (sym (stmt.rolls-If e a (Some b))) ∙ ap (λ f. f room) (fold-roll-CStmt (Option ℕ → Bool) ArmTest (stmt_fits sc) arm_fits (CStmt-F.If e a (Some b)))

pub is_While : (sc : Scope) (e : CExpr) (a : List CStmt) (room : Option ℕ) → is_stmt sc (stmt.While e a) room ≡ (is_expr sc e room && inside room (are_stmts sc a))
unfolding is_stmt
is_While sc e a room = ap (λ s. is_stmt sc s room) (sym (stmt.rolls-While e a)) ∙ ap (λ f. f room) (fold-roll-CStmt (Option ℕ → Bool) ArmTest (stmt_fits sc) arm_fits (CStmt-F.While e a))

pub is_Switch : (sc : Scope) (x : Int) (arms : List Arm) (d : List CStmt) (room : Option ℕ) → is_stmt sc (stmt.Switch x arms d) room ≡ (is_int sc x && rise (map (arm_test sc) arms) && inside room (λ r. arms_fit (map (arm_test sc) arms) r && inside r (are_stmts sc d)))
unfolding is_stmt arm_test
is_Switch sc x arms d room = ap (λ s. is_stmt sc s room) (sym (stmt.rolls-Switch x arms d)) ∙ ap (λ f. f room) (fold-roll-CStmt (Option ℕ → Bool) ArmTest (stmt_fits sc) arm_fits (CStmt-F.Switch x arms d))

pub is_arm : (sc : Scope) (a : Arm) → arm_test sc a ≡ record { value = a.value; fits = λ room. is_plain a.value && inside room (are_stmts sc a.body) }
unfolding is_stmt arm_test
is_arm sc a = fold_out-Arm (Option ℕ → Bool) ArmTest (stmt_fits sc) arm_fits a

pub ruleset forms = (is_Set, is_SetCell, is_SetBuf, is_Cells, is_Free, is_Check, is_Width, is_PutNum, is_PutChar, is_ReadText, is_ReadNums, is_ReadCount, is_At, is_Enter, is_Leave, is_Fault, is_Call, is_Return, is_If, is_While, is_Switch, is_arm)
