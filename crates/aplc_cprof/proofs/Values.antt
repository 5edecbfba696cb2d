-- What the value of each expression is, and how many statements a statement has.
use Rattle.std.proofs.Common.{◌≡◌, ◌∙◌, ap, sym, subst, refl, ℕ, ◌+◌, List, ℤ, map, pos, true, false, cond, arith}
use Rattle.std.proofs.Math.Path.{fun_ext}
use Rattle.std.specs.Prelude.{◌<◌, ◌^◌, Option, Some, None, slice_get, option_and_then}
use Rattle.aplc_scalar.specs.declared.kind.FaultKind.{FaultKind}
use Rattle.aplc_cprof.specs.declared.syntax.Int.{Int}
use Rattle.aplc_cprof.specs.declared.syntax.Int.TheVariants as int
use Rattle.aplc_cprof.specs.declared.syntax.Buf.{Buf}
use Rattle.aplc_cprof.specs.declared.syntax.Buf.TheVariants as buf
use Rattle.aplc_cprof.specs.declared.syntax.Op.{Op}
use Rattle.aplc_cprof.specs.declared.syntax.Checked.{Checked}
use Rattle.aplc_cprof.specs.declared.syntax.CExpr.{CExpr}
use Rattle.aplc_cprof.specs.declared.syntax.CExpr.TheVariants as expr
use Rattle.aplc_cprof.specs.declared.syntax.CExpr.TheOpen.{CExpr-F}
use Rattle.aplc_cprof.specs.declared.syntax.CExpr.TheFolds.{fold-roll-CExpr, map-CExpr, ind-CExpr}
use Rattle.aplc_cprof.specs.declared.syntax.CExpr.TheViews.{roll-CExpr}
use Rattle.aplc_cprof.specs.declared.syntax.Arm.{Arm}
use Rattle.aplc_cprof.specs.declared.syntax.CStmt.{CStmt}
use Rattle.aplc_cprof.specs.declared.syntax.CStmt.TheVariants as stmt
use Rattle.aplc_cprof.specs.declared.syntax.CStmt.TheOpen.{CStmt-F}
use Rattle.aplc_cprof.specs.declared.syntax.CStmt.TheFolds.{fold-roll-CStmt, fold-Arm, fold_out-Arm}
use Rattle.aplc_scalar.specs.Scalar.{in_range}
use Rattle.aplc_cprof.specs.declared.syntax.StuckCause.TheVariants.{Range}
use Rattle.aplc_cprof.specs.Machine.{ranged, Bad, Todo, State, settled, or_unset, Value, Is, read_int, named_buf, at_place, live_cell, table_cell, apply, value_step, value, total, size_step, size_arm, size}

-- a literal is its number
pub value_Lit : (n : ℤ) (tables : List (List ℤ)) (s : State) → value (expr.Lit n) tables s ≡ Is n
unfolding value
value_Lit n tables s = ap (λ x. value x tables s) (sym (expr.rolls-Lit n)) ∙ ap (λ g. g tables s) (fold-roll-CExpr (List (List ℤ) → State → Value) value_step (CExpr-F.Lit n))

-- a variable is what the state has for it
pub value_Var : (x : Int) (tables : List (List ℤ)) (s : State) → value (expr.Var x) tables s ≡ read_int x s
unfolding value
value_Var x tables s = ap (λ x. value x tables s) (sym (expr.rolls-Var x)) ∙ ap (λ g. g tables s) (fold-roll-CExpr (List (List ℤ) → State → Value) value_step (CExpr-F.Var x))

-- a cell of a buffer is read at the value of its place
pub value_Cell : (p : Buf) (e : CExpr) (tables : List (List ℤ)) (s : State) → value (expr.Cell p e) tables s ≡ at_place (value e tables s) (live_cell (option_and_then (slice_get s.heap) (named_buf p s)))
unfolding value
value_Cell p e tables s = ap (λ x. value x tables s) (sym (expr.rolls-Cell p e)) ∙ ap (λ g. g tables s) (fold-roll-CExpr (List (List ℤ) → State → Value) value_step (CExpr-F.Cell p e))

-- a cell of a table is read at the value of its place
pub value_Table : (k : ℕ) (e : CExpr) (tables : List (List ℤ)) (s : State) → value (expr.Table k e) tables s ≡ at_place (value e tables s) (table_cell (slice_get tables k))
unfolding value
value_Table k e tables s = ap (λ x. value x tables s) (sym (expr.rolls-Table k e)) ∙ ap (λ g. g tables s) (fold-roll-CExpr (List (List ℤ) → State → Value) value_step (CExpr-F.Table k e))

-- an operation is applied to the values of its sides
pub value_Bin : (o : Op) (a b : CExpr) (tables : List (List ℤ)) (s : State) → value (expr.Bin o a b) tables s ≡ apply o (value a tables s) (value b tables s)
unfolding value
value_Bin o a b tables s = ap (λ x. value x tables s) (sym (expr.rolls-Bin o a b)) ∙ ap (λ g. g tables s) (fold-roll-CExpr (List (List ℤ) → State → Value) value_step (CExpr-F.Bin o a b))

-- a number in range is a value
pub ranged_in : (v : ℤ) → in_range v ≡ true → ranged v ≡ Is v
unfolding ranged
ranged_in v h = ap (λ b. cond b (Is v) (Bad Range)) h

-- a number out of range is none
pub ranged_out : (v : ℤ) → in_range v ≡ false → ranged v ≡ Bad Range
unfolding ranged
ranged_out v h = ap (λ b. cond b (Is v) (Bad Range)) h

-- a natural number below 2 ^ 63 is a value
pub ranged_below : (n : ℕ) → n < 2 ^ 63 → ranged (pos n) ≡ Is (pos n)
unfolding in_range
ranged_below n lt = ranged_in (pos n) (grind (arith, lt))

-- the states have the same variables and cells
pub record SameRead (s t : State) : Type 0 where
  pub ints : s.ints ≡ t.ints
  pub bufs : s.bufs ≡ t.bufs
  pub global_ints : s.global_ints ≡ t.global_ints
  pub global_bufs : s.global_bufs ≡ t.global_bufs
  pub heap : s.heap ≡ t.heap

read_same : (s t : State) → SameRead s t → (x : Int) → read_int x s ≡ read_int x t
read_same s t r (int.Local k) = ap (λ (f : ℕ → Option ℤ). or_unset (f k)) r.ints
read_same s t r (int.Global k) = ap (λ (f : ℕ → ℤ). Is (f k)) r.global_ints

named_same : (s t : State) → SameRead s t → (p : Buf) → named_buf p s ≡ named_buf p t
named_same s t r (buf.Local k) = ap (λ (f : ℕ → Option ℕ). f k) r.bufs
named_same s t r (buf.Global k) = ap (λ (f : ℕ → Option ℕ). f k) r.global_bufs

level : (f : CExpr-F CExpr) (tables : List (List ℤ)) (s : State) → value (roll-CExpr f) tables s ≡ value_step (map-CExpr CExpr (List (List ℤ) → State → Value) value f) tables s
unfolding value
level f tables s = ap (λ g. g tables s) (fold-roll-CExpr (List (List ℤ) → State → Value) value_step f)

abbrev SameValue : List (List ℤ) → State → State → CExpr → Type 0
SameValue tables s t e = value e tables s ≡ value e tables t

abbrev Known : List (List ℤ) → State → State → Type 0
Known tables s t = (e : CExpr) × SameValue tables s t e

same_level : (tables : List (List ℤ)) (s t : State) → SameRead s t → (y : CExpr-F (Known tables s t)) → value_step (map-CExpr CExpr (List (List ℤ) → State → Value) value (map-CExpr (Known tables s t) CExpr (λ k. k.0) y)) tables s ≡ value_step (map-CExpr CExpr (List (List ℤ) → State → Value) value (map-CExpr (Known tables s t) CExpr (λ k. k.0) y)) tables t
same_level tables s t r (CExpr-F.Lit n) = refl
same_level tables s t r (CExpr-F.Var x) = read_same s t r x
same_level tables s t r (CExpr-F.Cell p k) =
    ap (λ v. at_place v (live_cell (option_and_then (slice_get s.heap) (named_buf p s)))) k.1
    ∙ ap (λ (h : List (Option (List ℤ))). at_place (value k.0 tables t) (live_cell (option_and_then (slice_get h) (named_buf p s)))) r.heap
    ∙ ap (λ (b : Option ℕ). at_place (value k.0 tables t) (live_cell (option_and_then (slice_get t.heap) b))) (named_same s t r p)
same_level tables s t r (CExpr-F.Table i k) = ap (λ v. at_place v (table_cell (slice_get tables i))) k.1
same_level tables s t r (CExpr-F.Bin o a b) = ap (λ v. apply o v (value b.0 tables s)) a.1 ∙ ap (λ v. apply o (value a.0 tables t) v) b.1

same_step : (tables : List (List ℤ)) (s t : State) → SameRead s t → (x : CExpr-F CExpr) (y : CExpr-F (Known tables s t)) → map-CExpr (Known tables s t) CExpr (λ k. k.0) y ≡ x → SameValue tables s t (roll-CExpr x)
same_step tables s t r x y h =
    subst (λ (f : CExpr-F CExpr). SameValue tables s t (roll-CExpr f)) h
    (level (map-CExpr (Known tables s t) CExpr (λ k. k.0) y) tables s
    ∙ same_level tables s t r y
    ∙ sym (level (map-CExpr (Known tables s t) CExpr (λ k. k.0) y) tables t))

-- a value depends on the variables and cells alone
pub value_same : (s t : State) → SameRead s t → (e : CExpr) (tables : List (List ℤ)) → value e tables s ≡ value e tables t
value_same s t r e tables = ind-CExpr (SameValue tables s t) (same_step tables s t r) e

-- a value does not depend on what is still to do
pub value_todo : (e : CExpr) (tables : List (List ℤ)) (s : State) (todo : Todo) → value e tables (record s { todo = todo }) ≡ value e tables s
value_todo e tables s todo = value_same (record s { todo = todo }) s (record { ints = refl; bufs = refl; global_ints = refl; global_bufs = refl; heap = refl }) e tables

-- a value does not depend on the counts of steps and cells
pub value_settled : (e : CExpr) (tables : List (List ℤ)) (s : State) → value e tables (settled s) ≡ value e tables s
value_settled e tables s = value_same (settled s) s (record { ints = refl; bufs = refl; global_ints = refl; global_bufs = refl; heap = refl }) e tables

-- the values of expressions
pub ruleset values = (value_Lit, value_Var, value_Cell, value_Table, value_Bin)

-- a set is one statement
pub size_Set : (x : Int) (e : CExpr) → size (stmt.Set x e) ≡ 1
unfolding size
size_Set x e = ap size (sym (stmt.rolls-Set x e)) ∙ fold-roll-CStmt ℕ ℕ size_step size_arm (CStmt-F.Set x e)

-- a write of a cell is one statement
pub size_SetCell : (p : Buf) (e f : CExpr) → size (stmt.SetCell p e f) ≡ 1
unfolding size
size_SetCell p e f = ap size (sym (stmt.rolls-SetCell p e f)) ∙ fold-roll-CStmt ℕ ℕ size_step size_arm (CStmt-F.SetCell p e f)

-- a naming of a buffer is one statement
pub size_SetBuf : (p : Buf) (q : Option Buf) → size (stmt.SetBuf p q) ≡ 1
unfolding size
size_SetBuf p None = ap size (sym (stmt.rolls-SetBuf p None)) ∙ fold-roll-CStmt ℕ ℕ size_step size_arm (CStmt-F.SetBuf p None)
size_SetBuf p (Some q) = ap size (sym (stmt.rolls-SetBuf p (Some q))) ∙ fold-roll-CStmt ℕ ℕ size_step size_arm (CStmt-F.SetBuf p (Some q))

-- a making of cells is one statement
pub size_Cells : (p : Buf) (e : CExpr) → size (stmt.Cells p e) ≡ 1
unfolding size
size_Cells p e = ap size (sym (stmt.rolls-Cells p e)) ∙ fold-roll-CStmt ℕ ℕ size_step size_arm (CStmt-F.Cells p e)

-- a freeing is one statement
pub size_Free : (p : Buf) → size (stmt.Free p) ≡ 1
unfolding size
size_Free p = ap size (sym (stmt.rolls-Free p)) ∙ fold-roll-CStmt ℕ ℕ size_step size_arm (CStmt-F.Free p)

-- checked arithmetic is one statement
pub size_Check : (x : Int) (o : Checked) (e f : CExpr) → size (stmt.Check x o e f) ≡ 1
unfolding size
size_Check x o e f = ap size (sym (stmt.rolls-Check x o e f)) ∙ fold-roll-CStmt ℕ ℕ size_step size_arm (CStmt-F.Check x o e f)

-- a width is one statement
pub size_Width : (x : Int) (e : CExpr) → size (stmt.Width x e) ≡ 1
unfolding size
size_Width x e = ap size (sym (stmt.rolls-Width x e)) ∙ fold-roll-CStmt ℕ ℕ size_step size_arm (CStmt-F.Width x e)

-- a number printed is one statement
pub size_PutNum : (e f : CExpr) → size (stmt.PutNum e f) ≡ 1
unfolding size
size_PutNum e f = ap size (sym (stmt.rolls-PutNum e f)) ∙ fold-roll-CStmt ℕ ℕ size_step size_arm (CStmt-F.PutNum e f)

-- a character printed is one statement
pub size_PutChar : (e : CExpr) → size (stmt.PutChar e) ≡ 1
unfolding size
size_PutChar e = ap size (sym (stmt.rolls-PutChar e)) ∙ fold-roll-CStmt ℕ ℕ size_step size_arm (CStmt-F.PutChar e)

-- a read of a text is one statement
pub size_ReadText : (p : Buf) → size (stmt.ReadText p) ≡ 1
unfolding size
size_ReadText p = ap size (sym (stmt.rolls-ReadText p)) ∙ fold-roll-CStmt ℕ ℕ size_step size_arm (CStmt-F.ReadText p)

-- a read of numbers is one statement
pub size_ReadNums : (p : Buf) → size (stmt.ReadNums p) ≡ 1
unfolding size
size_ReadNums p = ap size (sym (stmt.rolls-ReadNums p)) ∙ fold-roll-CStmt ℕ ℕ size_step size_arm (CStmt-F.ReadNums p)

-- the count of a read is one statement
pub size_ReadCount : (x : Int) → size (stmt.ReadCount x) ≡ 1
unfolding size
size_ReadCount x = ap size (sym (stmt.rolls-ReadCount x)) ∙ fold-roll-CStmt ℕ ℕ size_step size_arm (CStmt-F.ReadCount x)

-- a mark is one statement
pub size_At : (name : List ℕ) (l : ℤ) → size (stmt.At name l) ≡ 1
unfolding size
size_At name l = ap size (sym (stmt.rolls-At name l)) ∙ fold-roll-CStmt ℕ ℕ size_step size_arm (CStmt-F.At name l)

-- a fault is one statement
pub size_Enter : size stmt.Enter ≡ 1
unfolding size
size_Enter = ap size (sym stmt.rolls-Enter) ∙ fold-roll-CStmt ℕ ℕ size_step size_arm CStmt-F.Enter

pub size_Leave : size stmt.Leave ≡ 1
unfolding size
size_Leave = ap size (sym stmt.rolls-Leave) ∙ fold-roll-CStmt ℕ ℕ size_step size_arm CStmt-F.Leave

pub size_Fault : (k : FaultKind) → size (stmt.Fault k) ≡ 1
unfolding size
size_Fault k = ap size (sym (stmt.rolls-Fault k)) ∙ fold-roll-CStmt ℕ ℕ size_step size_arm (CStmt-F.Fault k)

-- a call is one statement
pub size_Call : (k : ℕ) → size (stmt.Call k) ≡ 1
unfolding size
size_Call k = ap size (sym (stmt.rolls-Call k)) ∙ fold-roll-CStmt ℕ ℕ size_step size_arm (CStmt-F.Call k)

-- a return is one statement
pub size_Return : size stmt.Return ≡ 1
unfolding size
size_Return = ap size (sym stmt.rolls-Return) ∙ fold-roll-CStmt ℕ ℕ size_step size_arm CStmt-F.Return

-- how many statements an if has for where its condition is 0
abbrev pub sizes_if : Option (List CStmt) → ℕ
sizes_if None = 0
sizes_if (Some ss) = total (map size ss)

-- an if has its parts' statements and itself
pub size_If : (e : CExpr) (a : List CStmt) (o : Option (List CStmt)) → size (stmt.If e a o) ≡ 1 + total (map size a) + sizes_if o
unfolding size
size_If e a None = ap size (sym (stmt.rolls-If e a None)) ∙ fold-roll-CStmt ℕ ℕ size_step size_arm (CStmt-F.If e a None)
size_If e a (Some b) = ap size (sym (stmt.rolls-If e a (Some b))) ∙ fold-roll-CStmt ℕ ℕ size_step size_arm (CStmt-F.If e a (Some b))

-- a while has its body's statements and itself
pub size_While : (e : CExpr) (a : List CStmt) → size (stmt.While e a) ≡ 1 + total (map size a)
unfolding size
size_While e a = ap size (sym (stmt.rolls-While e a)) ∙ fold-roll-CStmt ℕ ℕ size_step size_arm (CStmt-F.While e a)

-- the number of statements of an arm
abbrev pub arm_size : Arm → ℕ
arm_size a = total (map size a.body)

size_Arm : (a : Arm) → fold-Arm ℕ ℕ size_step size_arm a ≡ arm_size a
unfolding size
size_Arm a = fold_out-Arm ℕ ℕ size_step size_arm a

-- a switch has its arms' and its default's statements and itself
pub size_Switch : (x : Int) (arms : List Arm) (d : List CStmt) → size (stmt.Switch x arms d) ≡ 1 + total (map arm_size arms) + total (map size d)
unfolding size
size_Switch x arms d =
    ap size (sym (stmt.rolls-Switch x arms d))
    ∙ fold-roll-CStmt ℕ ℕ size_step size_arm (CStmt-F.Switch x arms d)
    ∙ ap (λ (f : Arm → ℕ). 1 + total (map f arms) + total (map size d)) (fun_ext size_Arm)

-- the numbers of statements
pub ruleset sizes = (size_Set, size_SetCell, size_SetBuf, size_Cells, size_Free, size_Check, size_Width, size_PutNum, size_PutChar, size_ReadText, size_ReadNums, size_ReadCount, size_At, size_Enter, size_Leave, size_Fault, size_Call, size_Return, size_If, size_While, size_Switch)
