-- What a call that lays out a statement, a block, arms or a function has made, in the order of its calls.
use Rattle.std.proofs.Common.{◌≡◌, ◌∙◌, ap, sym, refl, subst, ℕ, zero, suc, ◌+◌, ◌<◌, ◌≤◌, List, [], ◌∷◌, ◌++◌, length, length-append, append_assoc, map, arith, zero-add, add-zero, add_assoc, ℤ, take, get_or}
use Rattle.std.proofs.Math.Seq.{take-suc, take-length}
use mathlib.Core.List.{append-nil}
use Rattle.std.specs.Prelude.{Option, Some, None, slice_get, ◌^◌, OnOk, Result, Ok, Err}
use Rattle.std.specs.declared.alloc.AllocError.{AllocError}
use Rattle.aplc_scalar.specs.declared.kind.FaultKind.{FaultKind}
use Rattle.aplc_cprof.specs.declared.syntax.Int.{Int}
use Rattle.aplc_cprof.specs.declared.syntax.Buf.{Buf}
use Rattle.aplc_cprof.specs.declared.syntax.Checked.{Checked}
use Rattle.aplc_cprof.specs.declared.syntax.CExpr.{CExpr}
use Rattle.aplc_cprof.specs.declared.syntax.CStmt.{CStmt}
use Rattle.aplc_cprof.specs.declared.syntax.CStmt.TheVariants as stmt
use Rattle.aplc_cprof.specs.declared.syntax.Arm.{Arm}
use Rattle.aplc_cprof.specs.declared.syntax.CFunction.{CFunction}
use Rattle.aplc_cprof.specs.declared.syntax.CProgram.{CProgram}
use Rattle.aplc_cprof.specs.WellFormed.{Scope, declared}
use Rattle.aplc_cprof.specs.Machine.{Todo, size, total, numbered, bodies_from}
use Rattle.aplc_cprof.proofs.Values.{size_Set, size_SetCell, size_SetBuf, size_Cells, size_Free, size_Check, size_Width, size_PutNum, size_PutChar, size_ReadText, size_ReadNums, size_ReadCount, size_At, size_Enter, size_Leave, size_Fault, size_Call, size_Return}
use Rattle.aplc_crun.specs.Terms.{expr_of, IsTerm}
use Rattle.aplc_crun.specs.declared.term.Term.{Term}
use Rattle.aplc_crun.specs.declared.code.Node.{Node}
use Rattle.aplc_crun.specs.declared.code.Node.TheVariants as form
use Rattle.aplc_crun.specs.declared.choices.Choice.{Choice}
use Rattle.aplc_crun.specs.declared.code.Entry.{Entry}
use Rattle.aplc_crun.specs.Flat.{Layout}
use Rattle.aplc_crun.specs.Laying.{Spot, Due, NodeOk, PartOk, AllFit, IsLaid}
use Rattle.aplc_crun.specs.Building.{globals_of, globals, IsFormedStmt, AreFormedFunctions, spot, nowhere, Within, Agrees, entry, BlockOk, place_after, arm_size, choices_of, choices_up, ArmsOk, OpenedIf, OpenedWhile, LaidStmt, LaidBlock, LaidArms, FunctionsOk, LaidFunctions, sizes_of}
use Rattle.aplc_crun.proofs.Formed.{in_Set, in_SetBuf, in_Cells, in_Check, in_Width, in_ReadText, in_ReadNums, in_ReadCount, formed_function}
use Rattle.aplc_crun.proofs.Parts.{agrees_first, agrees_second, part_append, onward_at, last_at, int_in, buf_in, stmt_leaf, stmt_while, stmt_if, stmt_else, stmt_switch, block_none, block_more, arms_none, arms_more}

laid_leaf : (old new : List Node) (nd : Node) (x : CStmt) (next : ℕ) → new ≡ old ++ nd ∷ [] → size x ≡ 1 → ((sc : Scope) → IsFormedStmt sc x → (k : Due) → Within sc (k next) → k (length old) ≡ spot sc ((length old, x) ∷ (k next).todo) → NodeOk (globals_of sc) k (length old) nd) → LaidStmt old new x next
laid_leaf old new nd x next h e g = record { added = nd ∷ []; new_is = h; ok = λ sc. stmt_leaf sc (length old) nd x next e (g sc) }

pub laid_Set : (old new : List Node) (x : Int) (e : CExpr) (e2 : Term) (next : ℕ) → IsTerm e e2 → new ≡ old ++ form.Set x e2 next ∷ [] → LaidStmt old new (stmt.Set x e) next
laid_Set old new x e e2 next is_e h =
    subst (λ (y : CExpr). LaidStmt old new (stmt.Set x y) next) is_e.same
    (laid_leaf old new (form.Set x e2 next) (stmt.Set x (expr_of e2)) next h (size_Set x (expr_of e2)) (λ sc formed k w e0. (onward_at sc k (length old) (stmt.Set x (expr_of e2)) next w e0, int_in sc k (length old) ((length old, stmt.Set x (expr_of e2)) ∷ (k next).todo) x e0 (in_Set sc x (expr_of e2) formed))))

pub laid_SetCell : (old new : List Node) (p : Buf) (e : CExpr) (f : CExpr) (e2 : Term) (f2 : Term) (next : ℕ) → IsTerm e e2 → IsTerm f f2 → new ≡ old ++ form.SetCell p e2 f2 next ∷ [] → LaidStmt old new (stmt.SetCell p e f) next
laid_SetCell old new p e f e2 f2 next is_e is_f h =
    subst (λ (y : CExpr). LaidStmt old new (stmt.SetCell p e y) next) is_f.same
    (subst (λ (y : CExpr). LaidStmt old new (stmt.SetCell p y (expr_of f2)) next) is_e.same
    (laid_leaf old new (form.SetCell p e2 f2 next) (stmt.SetCell p (expr_of e2) (expr_of f2)) next h (size_SetCell p (expr_of e2) (expr_of f2)) (λ sc formed k w e0. onward_at sc k (length old) (stmt.SetCell p (expr_of e2) (expr_of f2)) next w e0)))

pub laid_SetBuf : (old new : List Node) (p : Buf) (q : Option Buf) (next : ℕ) → new ≡ old ++ form.SetBuf p q next ∷ [] → LaidStmt old new (stmt.SetBuf p q) next
laid_SetBuf old new p q next h =
    laid_leaf old new (form.SetBuf p q next) (stmt.SetBuf p q) next (h) (size_SetBuf p q) (λ sc formed k w e0. (onward_at sc k (length old) (stmt.SetBuf p q) next w e0, buf_in sc k (length old) ((length old, stmt.SetBuf p q) ∷ (k next).todo) p e0 (in_SetBuf sc p q formed)))

pub laid_Cells : (old new : List Node) (p : Buf) (e : CExpr) (e2 : Term) (next : ℕ) → IsTerm e e2 → new ≡ old ++ form.Cells p e2 next ∷ [] → LaidStmt old new (stmt.Cells p e) next
laid_Cells old new p e e2 next is_e h =
    subst (λ (y : CExpr). LaidStmt old new (stmt.Cells p y) next) is_e.same
    (laid_leaf old new (form.Cells p e2 next) (stmt.Cells p (expr_of e2)) next h (size_Cells p (expr_of e2)) (λ sc formed k w e0. (onward_at sc k (length old) (stmt.Cells p (expr_of e2)) next w e0, buf_in sc k (length old) ((length old, stmt.Cells p (expr_of e2)) ∷ (k next).todo) p e0 (in_Cells sc p (expr_of e2) formed))))

pub laid_Free : (old new : List Node) (p : Buf) (next : ℕ) → new ≡ old ++ form.Free p next ∷ [] → LaidStmt old new (stmt.Free p) next
laid_Free old new p next h =
    laid_leaf old new (form.Free p next) (stmt.Free p) next (h) (size_Free p) (λ sc formed k w e0. onward_at sc k (length old) (stmt.Free p) next w e0)

pub laid_Check : (old new : List Node) (x : Int) (o : Checked) (e : CExpr) (f : CExpr) (e2 : Term) (f2 : Term) (next : ℕ) → IsTerm e e2 → IsTerm f f2 → new ≡ old ++ form.Check x o e2 f2 next ∷ [] → LaidStmt old new (stmt.Check x o e f) next
laid_Check old new x o e f e2 f2 next is_e is_f h =
    subst (λ (y : CExpr). LaidStmt old new (stmt.Check x o e y) next) is_f.same
    (subst (λ (y : CExpr). LaidStmt old new (stmt.Check x o y (expr_of f2)) next) is_e.same
    (laid_leaf old new (form.Check x o e2 f2 next) (stmt.Check x o (expr_of e2) (expr_of f2)) next h (size_Check x o (expr_of e2) (expr_of f2)) (λ sc formed k w e0. (onward_at sc k (length old) (stmt.Check x o (expr_of e2) (expr_of f2)) next w e0, int_in sc k (length old) ((length old, stmt.Check x o (expr_of e2) (expr_of f2)) ∷ (k next).todo) x e0 (in_Check sc x o (expr_of e2) (expr_of f2) formed)))))

pub laid_Width : (old new : List Node) (x : Int) (e : CExpr) (e2 : Term) (next : ℕ) → IsTerm e e2 → new ≡ old ++ form.Width x e2 next ∷ [] → LaidStmt old new (stmt.Width x e) next
laid_Width old new x e e2 next is_e h =
    subst (λ (y : CExpr). LaidStmt old new (stmt.Width x y) next) is_e.same
    (laid_leaf old new (form.Width x e2 next) (stmt.Width x (expr_of e2)) next h (size_Width x (expr_of e2)) (λ sc formed k w e0. (onward_at sc k (length old) (stmt.Width x (expr_of e2)) next w e0, int_in sc k (length old) ((length old, stmt.Width x (expr_of e2)) ∷ (k next).todo) x e0 (in_Width sc x (expr_of e2) formed))))

pub laid_PutNum : (old new : List Node) (e : CExpr) (f : CExpr) (e2 : Term) (f2 : Term) (next : ℕ) → IsTerm e e2 → IsTerm f f2 → new ≡ old ++ form.PutNum e2 f2 next ∷ [] → LaidStmt old new (stmt.PutNum e f) next
laid_PutNum old new e f e2 f2 next is_e is_f h =
    subst (λ (y : CExpr). LaidStmt old new (stmt.PutNum e y) next) is_f.same
    (subst (λ (y : CExpr). LaidStmt old new (stmt.PutNum y (expr_of f2)) next) is_e.same
    (laid_leaf old new (form.PutNum e2 f2 next) (stmt.PutNum (expr_of e2) (expr_of f2)) next h (size_PutNum (expr_of e2) (expr_of f2)) (λ sc formed k w e0. onward_at sc k (length old) (stmt.PutNum (expr_of e2) (expr_of f2)) next w e0)))

pub laid_PutChar : (old new : List Node) (e : CExpr) (e2 : Term) (next : ℕ) → IsTerm e e2 → new ≡ old ++ form.PutChar e2 next ∷ [] → LaidStmt old new (stmt.PutChar e) next
laid_PutChar old new e e2 next is_e h =
    subst (λ (y : CExpr). LaidStmt old new (stmt.PutChar y) next) is_e.same
    (laid_leaf old new (form.PutChar e2 next) (stmt.PutChar (expr_of e2)) next h (size_PutChar (expr_of e2)) (λ sc formed k w e0. onward_at sc k (length old) (stmt.PutChar (expr_of e2)) next w e0))

pub laid_ReadText : (old new : List Node) (p : Buf) (next : ℕ) → new ≡ old ++ form.ReadText p next ∷ [] → LaidStmt old new (stmt.ReadText p) next
laid_ReadText old new p next h =
    laid_leaf old new (form.ReadText p next) (stmt.ReadText p) next (h) (size_ReadText p) (λ sc formed k w e0. (onward_at sc k (length old) (stmt.ReadText p) next w e0, buf_in sc k (length old) ((length old, stmt.ReadText p) ∷ (k next).todo) p e0 (in_ReadText sc p formed)))

pub laid_ReadNums : (old new : List Node) (p : Buf) (next : ℕ) → new ≡ old ++ form.ReadNums p next ∷ [] → LaidStmt old new (stmt.ReadNums p) next
laid_ReadNums old new p next h =
    laid_leaf old new (form.ReadNums p next) (stmt.ReadNums p) next (h) (size_ReadNums p) (λ sc formed k w e0. (onward_at sc k (length old) (stmt.ReadNums p) next w e0, buf_in sc k (length old) ((length old, stmt.ReadNums p) ∷ (k next).todo) p e0 (in_ReadNums sc p formed)))

pub laid_ReadCount : (old new : List Node) (x : Int) (next : ℕ) → new ≡ old ++ form.ReadCount x next ∷ [] → LaidStmt old new (stmt.ReadCount x) next
laid_ReadCount old new x next h =
    laid_leaf old new (form.ReadCount x next) (stmt.ReadCount x) next (h) (size_ReadCount x) (λ sc formed k w e0. (onward_at sc k (length old) (stmt.ReadCount x) next w e0, int_in sc k (length old) ((length old, stmt.ReadCount x) ∷ (k next).todo) x e0 (in_ReadCount sc x formed)))

pub laid_At : (old new : List Node) (name : List ℕ) (line : ℤ) (name2 : List ℕ) (next : ℕ) → name2 ≡ name → new ≡ old ++ form.At name2 line next ∷ [] → LaidStmt old new (stmt.At name line) next
laid_At old new name line name2 next is_name h =
    laid_leaf old new (form.At name line next) (stmt.At name line) next (h ∙ ap (λ y. old ++ form.At y line next ∷ []) is_name) (size_At name line) (λ sc formed k w e0. onward_at sc k (length old) (stmt.At name line) next w e0)

pub laid_Enter : (old new : List Node) (next : ℕ) → new ≡ old ++ form.Enter next ∷ [] → LaidStmt old new stmt.Enter next
laid_Enter old new next h = laid_leaf old new (form.Enter next) stmt.Enter next h size_Enter (λ sc formed k w e0. onward_at sc k (length old) stmt.Enter next w e0)

pub laid_Leave : (old new : List Node) (next : ℕ) → new ≡ old ++ form.Leave next ∷ [] → LaidStmt old new stmt.Leave next
laid_Leave old new next h = laid_leaf old new (form.Leave next) stmt.Leave next h size_Leave (λ sc formed k w e0. onward_at sc k (length old) stmt.Leave next w e0)

pub laid_Call : (old new : List Node) (c : ℕ) (next : ℕ) → new ≡ old ++ form.Call c next ∷ [] → LaidStmt old new (stmt.Call c) next
laid_Call old new c next h =
    laid_leaf old new (form.Call c next) (stmt.Call c) next (h) (size_Call c) (λ sc formed k w e0. onward_at sc k (length old) (stmt.Call c) next w e0)

pub laid_Fault : (old new : List Node) (kind : FaultKind) (next : ℕ) → new ≡ old ++ form.Fault kind ∷ [] → LaidStmt old new (stmt.Fault kind) next
laid_Fault old new kind next h = laid_leaf old new (form.Fault kind) (stmt.Fault kind) next h (size_Fault kind) (λ sc formed k w e0. last_at sc k (length old) (stmt.Fault kind) next e0)

pub laid_Return : (old new : List Node) (next : ℕ) → new ≡ old ++ form.Return ∷ [] → LaidStmt old new stmt.Return next
laid_Return old new next h = laid_leaf old new form.Return stmt.Return next h size_Return (λ sc formed k w e0. last_at sc k (length old) stmt.Return next e0)

-- where one node more is all that is laid
pub enter_ok : (result : Result (Unit {0}) AllocError) (old new : List Node) (next : ℕ) → OnOk result (new ≡ old ++ form.Enter next ∷ []) → OnOk result (LaidStmt old new stmt.Enter next)
enter_ok (Ok done) old new next h = laid_Enter old new next h
enter_ok (Err e) old new next h = tt

pub leave_ok : (result : Result (Unit {0}) AllocError) (old new : List Node) (next : ℕ) → OnOk result (new ≡ old ++ form.Leave next ∷ []) → OnOk result (LaidStmt old new stmt.Leave next)
leave_ok (Ok done) old new next h = laid_Leave old new next h
leave_ok (Err e) old new next h = tt

pub fault_ok : (result : Result (Unit {0}) AllocError) (old new : List Node) (kind : FaultKind) (next : ℕ) → OnOk result (new ≡ old ++ form.Fault kind ∷ []) → OnOk result (LaidStmt old new (stmt.Fault kind) next)
fault_ok (Ok done) old new kind next h = laid_Fault old new kind next h
fault_ok (Err e) old new kind next h = tt

pub return_ok : (result : Result (Unit {0}) AllocError) (old new : List Node) (next : ℕ) → OnOk result (new ≡ old ++ form.Return ∷ []) → OnOk result (LaidStmt old new stmt.Return next)
return_ok (Ok done) old new next h = laid_Return old new next h
return_ok (Err e) old new next h = tt

pub ruleset leaves = (laid_Set, laid_SetCell, laid_SetBuf, laid_Cells, laid_Free, laid_Check, laid_Width, laid_PutNum, laid_PutChar, laid_ReadText, laid_ReadNums, laid_ReadCount, laid_At, laid_Enter, laid_Leave, laid_Call, laid_Fault, laid_Return)

-- ---- Statements that hold statements

-- a scope with no names: how many nodes there are does not depend on names
abbrev no_names : Scope
no_names = record { ints = 0; bufs = 0; global_ints = 0; global_bufs = 0; tables = 0; functions = 0 }

reached : (at n : ℕ) → at + n < 2 ^ 63 → place_after at n ≡ at + n
reached at n h = omega arith

choices_reached : (at : ℕ) (arms : List Arm) (next : ℕ) → at + total (map arm_size arms) < 2 ^ 63 → choices_up at arms next ≡ choices_of at arms next
choices_reached at [] next h = refl
choices_reached at (a ∷ arms) next h =
    ap (λ cs. record { value = a.value; at = entry a.body at next } ∷ cs)
    (ap (λ n. choices_up n arms next) (reached at (arm_size a) (omega arith)) ∙ choices_reached (at + arm_size a) arms next (omega arith))

-- a block that stands behind one place more
block_at : (sc : Scope) (old mid new : List Node) (nd : Node) (a : List CStmt) (next m : ℕ) → mid ≡ old ++ nd ∷ [] → m ≡ length old + 1 → (b : LaidBlock mid new a next) → BlockOk sc m b.added a next
block_at sc old mid new nd a next m h e b =
    let f : length mid ≡ m = ap length h ∙ length-append old (nd ∷ []) ∙ sym e in
    subst (λ (n : ℕ). BlockOk sc n b.added a next) f (b.ok sc)

grown : (old mid new added : List Node) (nd : Node) → mid ≡ old ++ nd ∷ [] → new ≡ mid ++ added → new ≡ old ++ (nd ∷ added)
grown old mid new added nd h g = g ∙ ap (λ xs. xs ++ added) h ∙ append_assoc old (nd ∷ []) added

pub opened_if : (old new : List Node) (e : CExpr) (t : Term) (a : List CStmt) (at start met next : ℕ) → IsTerm e t → at ≡ length old → start ≡ at + 1 → met ≡ entry a start next → new ≡ old ++ form.If t met next ∷ [] → OpenedIf old new e (entry a (length old + 1) next) next
opened_if old new e t a at start met next is_t is_at is_start is_met h =
    let is : met ≡ entry a (length old + 1) next = is_met ∙ ap (λ n. entry a n next) is_start ∙ ap (λ n. entry a (n + 1) next) is_at in
    record { term = t; same = is_t; new_is = h ∙ ap (λ n. old ++ form.If t n next ∷ []) is }

pub opened_else : (old new : List Node) (e : CExpr) (t : Term) (a o : List CStmt) (at start middle met other next : ℕ) → IsTerm e t → at ≡ length old → start ≡ at + 1 → middle ≡ place_after start (total (map size a)) → met ≡ entry a start next → other ≡ entry o middle next → new ≡ old ++ form.If t met other ∷ [] → OpenedIf old new e (entry a (length old + 1) next) (entry o (place_after (length old + 1) (total (map size a))) next)
opened_else old new e t a o at start middle met other next is_t is_at is_start is_middle is_met is_other h =
    let is : met ≡ entry a (length old + 1) next = is_met ∙ ap (λ n. entry a n next) is_start ∙ ap (λ n. entry a (n + 1) next) is_at in
    let begun : start ≡ length old + 1 = omega arith in
    let place : middle ≡ place_after (length old + 1) (total (map size a)) = is_middle ∙ ap (λ n. place_after n (total (map size a))) begun in
    let there : other ≡ entry o (place_after (length old + 1) (total (map size a))) next = is_other ∙ ap (λ n. entry o n next) place in
    record { term = t; same = is_t; new_is = h ∙ ap (λ n. old ++ form.If t n other ∷ []) is ∙ ap (λ n. old ++ form.If t (entry a (length old + 1) next) n ∷ []) there }

pub opened_while : (old new : List Node) (e : CExpr) (t : Term) (a : List CStmt) (at start body next : ℕ) → IsTerm e t → at ≡ length old → start ≡ at + 1 → body ≡ entry a start at → new ≡ old ++ form.While t body next ∷ [] → OpenedWhile old new e (entry a (length old + 1) (length old)) next
opened_while old new e t a at start body next is_t is_at is_start is_body h =
    let is : body ≡ entry a (length old + 1) (length old) = is_body ∙ ap (λ n. entry a n at) is_start ∙ ap (λ n. entry a (n + 1) n) is_at in
    record { term = t; same = is_t; new_is = h ∙ ap (λ n. old ++ form.While t n next ∷ []) is }

pub opened_switch : (old new : List Node) (x : Int) (arms : List Arm) (d : List CStmt) (choices : List Choice) (at start middle other next : ℕ) → at ≡ length old → start ≡ at + 1 → choices ≡ choices_up start arms next → middle ≡ place_after start (total (map arm_size arms)) → other ≡ entry d middle next → new ≡ old ++ form.Switch x choices other ∷ [] → new ≡ old ++ form.Switch x (choices_up (length old + 1) arms next) (entry d (place_after (length old + 1) (total (map arm_size arms))) next) ∷ []
opened_switch old new x arms d choices at start middle other next is_at is_start is_choices is_middle is_other h =
    let begun : start ≡ length old + 1 = omega arith in
    let is : choices ≡ choices_up (length old + 1) arms next = is_choices ∙ ap (λ n. choices_up n arms next) begun in
    let place : middle ≡ place_after (length old + 1) (total (map arm_size arms)) = is_middle ∙ ap (λ n. place_after n (total (map arm_size arms))) begun in
    let there : other ≡ entry d (place_after (length old + 1) (total (map arm_size arms))) next = is_other ∙ ap (λ n. entry d n next) place in
    h ∙ ap (λ cs. old ++ form.Switch x cs other ∷ []) is ∙ ap (λ n. old ++ form.Switch x (choices_up (length old + 1) arms next) n ∷ []) there

pub ruleset opens = (opened_if, opened_else, opened_while, opened_switch)

pub laid_while : (old mid new : List Node) (e : CExpr) (a : List CStmt) (at next : ℕ) → at ≡ length old → OpenedWhile old mid e (entry a (length old + 1) (length old)) next → LaidBlock mid new a at → LaidStmt old new (stmt.While e a) next
laid_while old mid new e a at next is_at o b =
    let b2 : LaidBlock mid new a (length old) = subst (λ (n : ℕ). LaidBlock mid new a n) is_at b in
    subst (λ (y : CExpr). LaidStmt old new (stmt.While y a) next) o.same.same
    record {
      added = form.While o.term (entry a (length old + 1) (length old)) next ∷ b2.added;
      new_is = grown old mid new b2.added _ o.new_is b2.new_is;
      ok = λ sc. stmt_while sc (length old) o.term a b2.added next (block_at sc old mid new _ a (length old) (length old + 1) o.new_is refl b2);
    }

pub laid_if : (old mid new : List Node) (e : CExpr) (a : List CStmt) (next : ℕ) → OpenedIf old mid e (entry a (length old + 1) next) next → LaidBlock mid new a next → LaidStmt old new (stmt.If e a None) next
laid_if old mid new e a next o b =
    subst (λ (y : CExpr). LaidStmt old new (stmt.If y a None) next) o.same.same
    record {
      added = form.If o.term (entry a (length old + 1) next) next ∷ b.added;
      new_is = grown old mid new b.added _ o.new_is b.new_is;
      ok = λ sc. stmt_if sc (length old) o.term a b.added next (block_at sc old mid new _ a next (length old + 1) o.new_is refl b);
    }

pub laid_else : (old mid half new : List Node) (e : CExpr) (a o : List CStmt) (next : ℕ) → OpenedIf old mid e (entry a (length old + 1) next) (entry o (place_after (length old + 1) (total (map size a))) next) → LaidBlock mid half a next → LaidBlock half new o next → length half < 2 ^ 63 → LaidStmt old new (stmt.If e a (Some o)) next
laid_else old mid half new e a o next p b c short =
    let middle = length old + 1 + total (map size a) in
    let long : length half ≡ middle =
    ap length b.new_is ∙ length-append mid b.added ∙ (let f = ap length p.new_is ∙ length-append old (form.If p.term (entry a (length old + 1) next) (entry o (place_after (length old + 1) (total (map size a))) next) ∷ []) in let g = (b.ok no_names).size_is in omega arith) in
    let there : place_after (length old + 1) (total (map size a)) ≡ middle = reached (length old + 1) (total (map size a)) (omega arith) in
    let q : OpenedIf old mid e (entry a (length old + 1) next) (entry o middle next) = subst (λ (n : ℕ). OpenedIf old mid e (entry a (length old + 1) next) (entry o n next)) there p in
    subst (λ (y : CExpr). LaidStmt old new (stmt.If y a (Some o)) next) q.same.same
    record {
      added = form.If q.term (entry a (length old + 1) next) (entry o middle next) ∷ (b.added ++ c.added);
      new_is = c.new_is ∙ ap (λ xs. xs ++ c.added) (grown old mid half b.added _ q.new_is b.new_is) ∙ append_assoc old (form.If q.term (entry a (length old + 1) next) (entry o middle next) ∷ b.added) c.added;
      ok = λ sc. stmt_else sc (length old) middle q.term a o b.added c.added next refl (block_at sc old mid half _ a next (length old + 1) q.new_is refl b) (subst (λ (n : ℕ). BlockOk sc n c.added o next) long (c.ok sc));
    }

-- arms that stand behind one place more
arms_at : (sc : Scope) (old mid new : List Node) (nd : Node) (arms : List Arm) (next m : ℕ) → mid ≡ old ++ nd ∷ [] → m ≡ length old + 1 → (b : LaidArms mid new arms next) → ArmsOk sc m b.added arms next
arms_at sc old mid new nd arms next m h e b =
    let f : length mid ≡ m = ap length h ∙ length-append old (nd ∷ []) ∙ sym e in
    subst (λ (n : ℕ). ArmsOk sc n b.added arms next) f (b.ok sc)

pub laid_switch : (old mid half new : List Node) (x : Int) (arms : List Arm) (d : List CStmt) (next : ℕ) → mid ≡ old ++ form.Switch x (choices_up (length old + 1) arms next) (entry d (place_after (length old + 1) (total (map arm_size arms))) next) ∷ [] → LaidArms mid half arms next → LaidBlock half new d next → length half < 2 ^ 63 → LaidStmt old new (stmt.Switch x arms d) next
laid_switch old mid half new x arms d next h b c short =
    let middle = length old + 1 + total (map arm_size arms) in
    let long : length half ≡ middle =
    ap length b.new_is ∙ length-append mid b.added ∙ (let f = ap length h ∙ length-append old (form.Switch x (choices_up (length old + 1) arms next) (entry d (place_after (length old + 1) (total (map arm_size arms))) next) ∷ []) in let g = (b.ok no_names).size_is in omega arith) in
    let there : place_after (length old + 1) (total (map arm_size arms)) ≡ middle = reached (length old + 1) (total (map arm_size arms)) (omega arith) in
    let same : choices_up (length old + 1) arms next ≡ choices_of (length old + 1) arms next = choices_reached (length old + 1) arms next (omega arith) in
    let q : mid ≡ old ++ form.Switch x (choices_of (length old + 1) arms next) (entry d middle next) ∷ [] =
    h ∙ ap (λ n. old ++ form.Switch x (choices_up (length old + 1) arms next) (entry d n next) ∷ []) there ∙ ap (λ cs. old ++ form.Switch x cs (entry d middle next) ∷ []) same in
    record {
      added = form.Switch x (choices_of (length old + 1) arms next) (entry d middle next) ∷ (b.added ++ c.added);
      new_is = c.new_is ∙ ap (λ xs. xs ++ c.added) (grown old mid half b.added _ q b.new_is) ∙ append_assoc old (form.Switch x (choices_of (length old + 1) arms next) (entry d middle next) ∷ b.added) c.added;
      ok = λ sc. stmt_switch sc (length old) middle x arms d b.added c.added next refl (arms_at sc old mid half _ arms next (length old + 1) q refl b) (subst (λ (n : ℕ). BlockOk sc n c.added d next) long (c.ok sc));
    }

-- ---- Blocks and arms, one after the other

pub laid_none : (old : List Node) (next : ℕ) → LaidBlock old old [] next
laid_none old next = record { added = []; new_is = sym (append-nil old); ok = λ sc. block_none sc (length old) next }

laid_more : (old mid new : List Node) (xs : List CStmt) (x : CStmt) (next : ℕ) → LaidBlock old mid xs (length mid) → LaidStmt mid new x next → LaidBlock old new (xs ++ x ∷ []) next
laid_more old mid new xs x next b q = record {
  added = b.added ++ q.added;
  new_is = q.new_is ∙ ap (λ ys. ys ++ q.added) b.new_is ∙ append_assoc old b.added q.added;
  ok = λ sc. block_more sc (length old) (length mid) b.added q.added xs x next (ap length b.new_is ∙ length-append old b.added) (b.ok sc) (q.ok sc);
}

pub laid_next : (old mid new : List Node) (xs : List CStmt) (i m : ℕ) (x : CStmt) → LaidBlock old mid (take i xs) (length mid) → LaidStmt mid new x m → m ≡ place_after (length mid) (size x) → length new < 2 ^ 63 → x ≡ get_or xs i x → i < length xs → LaidBlock old new (take (i + 1) xs) (length new)
laid_next old mid new xs i m x b q is_m short is_x within =
    let grows : length new ≡ length mid + size x = ap length q.new_is ∙ length-append mid q.added ∙ ap (λ n. length mid + n) (q.ok no_names).size_is in
    let long : m ≡ length new = is_m ∙ reached (length mid) (size x) (omega arith) ∙ sym grows in
    let more : take i xs ++ x ∷ [] ≡ take (i + 1) xs = ap (λ y. take i xs ++ y ∷ []) is_x ∙ sym (take-suc xs i x within) ∙ ap (λ n. take n xs) (let f : suc i ≡ i + 1 = omega arith in f) in
    subst (λ (n : ℕ). LaidBlock old new (take (i + 1) xs) n) long (subst (λ (ys : List CStmt). LaidBlock old new ys m) more (laid_more old mid new (take i xs) x m b q))

pub laid_last : (old mid new : List Node) (xs : List CStmt) (i next : ℕ) (x : CStmt) → LaidBlock old mid (take i xs) (length mid) → LaidStmt mid new x next → x ≡ get_or xs i x → i + 1 ≡ length xs → LaidBlock old new xs next
laid_last old mid new xs i next x b q is_x last =
    let within : i < length xs = omega arith in
    let more : take i xs ++ x ∷ [] ≡ xs = ap (λ y. take i xs ++ y ∷ []) is_x ∙ sym (take-suc xs i x within) ∙ ap (λ n. take n xs) (let f : suc i ≡ length xs = omega arith in f) ∙ take-length xs in
    subst (λ (ys : List CStmt). LaidBlock old new ys next) more (laid_more old mid new (take i xs) x next b q)

empty_is : (xs : List CStmt) → length xs ≡ 0 → xs ≡ []
empty_is [] h = refl
empty_is (x ∷ xs) h = absurd (omega arith)

pub laid_empty : (old : List Node) (xs : List CStmt) (next : ℕ) → length xs ≡ 0 → LaidBlock old old xs next
laid_empty old xs next h = subst (λ (ys : List CStmt). LaidBlock old old ys next) (sym (empty_is xs h)) (laid_none old next)

pub laid_arms_none : (old : List Node) (next : ℕ) → LaidArms old old [] next
laid_arms_none old next = record { added = []; new_is = sym (append-nil old); ok = λ sc. arms_none sc (length old) next }

pub laid_arms_next : (old mid new : List Node) (arms : List Arm) (i next : ℕ) (a : Arm) (body : List CStmt) → LaidArms old mid (take i arms) next → LaidBlock mid new body next → body ≡ a.body → a ≡ get_or arms i a → i < length arms → LaidArms old new (take (i + 1) arms) next
laid_arms_next old mid new arms i next a body b q is_body is_a within =
    let q2 : LaidBlock mid new a.body next = subst (λ (xs : List CStmt). LaidBlock mid new xs next) is_body q in
    let more : take i arms ++ a ∷ [] ≡ take (i + 1) arms = ap (λ y. take i arms ++ y ∷ []) is_a ∙ sym (take-suc arms i a within) ∙ ap (λ n. take n arms) (let f : suc i ≡ i + 1 = omega arith in f) in
    let all : LaidArms old new (take i arms ++ a ∷ []) next = record {
      added = b.added ++ q2.added;
      new_is = q2.new_is ∙ ap (λ ys. ys ++ q2.added) b.new_is ∙ append_assoc old b.added q2.added;
      ok = λ sc. arms_more sc (length old) (length mid) b.added q2.added (take i arms) a next (ap length b.new_is ∙ length-append old b.added) (b.ok sc) (q2.ok sc);
    } in
    subst (λ (ys : List Arm). LaidArms old new ys next) more all

pub ruleset lays = (laid_empty, enter_ok, leave_ok, fault_ok, return_ok, laid_while, laid_if, laid_else, laid_switch, laid_none, laid_next, laid_last, laid_arms_none, laid_arms_next)

-- ---- Functions

bodies_more : (n : ℕ) (fs : List CFunction) (f : CFunction) → bodies_from n (fs ++ f ∷ []) ≡ bodies_from n fs ++ numbered (n + sizes_of fs) f.body ∷ []
bodies_more n [] f = ap (λ m. numbered m f.body ∷ []) (sym (add-zero n))
bodies_more n (g ∷ fs) f =
    ap (λ t. numbered n g.body ∷ t) (bodies_more (n + total (map size g.body)) fs f ∙ ap (λ m. bodies_from (n + total (map size g.body)) fs ++ numbered m f.body ∷ []) (add_assoc n (total (map size g.body)) (sizes_of fs)))

sizes_more : (fs : List CFunction) (f : CFunction) → sizes_of (fs ++ f ∷ []) ≡ sizes_of fs + total (map size f.body)
sizes_more [] f = omega arith
sizes_more (g ∷ fs) f = let h = sizes_more fs f in omega arith

map_one : (k : Due) (es : List Entry) (e : Entry) → map (λ (e : Entry). (k e.at).todo) (es ++ e ∷ []) ≡ map (λ (e : Entry). (k e.at).todo) es ++ (k e.at).todo ∷ []
map_one k [] e = refl
map_one k (x ∷ es) e = ap (λ t. (k x.at).todo ∷ t) (map_one k es e)

fit_one : (k : Due) (es : List Entry) (e : Entry) → AllFit k es → (k e.at).ints ≤ e.ints → (k e.at).bufs ≤ e.bufs → AllFit k (es ++ e ∷ [])
fit_one k [] e h i b = (i, b, tt)
fit_one k (x ∷ es) e h i b = (h.0, h.1, fit_one k es e h.2 i b)

laid_function : (p : CProgram) (old new : List Node) (es : List Entry) (fs : List CFunction) (f : CFunction) → FunctionsOk p old es fs → LaidBlock old new f.body 0 → FunctionsOk p new (es ++ record { at = entry f.body (length old) 0; ints = f.ints; bufs = f.bufs } ∷ []) (fs ++ f ∷ [])
laid_function p old new es fs f q b = record {
  size_is = ap length b.new_is ∙ length-append old b.added ∙ (let h = sizes_more fs f in let i = q.size_is in let j = (b.ok (declared p f)).size_is in omega arith);
  dues = q.dues ++ (b.ok (declared p f)).dues [];
  lengths = length-append q.dues ((b.ok (declared p f)).dues []) ∙ (let h = q.lengths in let i = (b.ok (declared p f)).lengths [] in let j = ap length b.new_is ∙ length-append old b.added in omega arith);
  nodes = λ formed k h.
      let d = formed_function p fs f formed in
      subst (λ (cs : List Node). PartOk (globals p.ints p.bufs) k 0 cs) (sym b.new_is)
      (part_append (globals p.ints p.bufs) k 0 (length old) old b.added (sym (zero-add (length old))) (q.nodes d.0 k (one k h)) ((b.ok (declared p f)).nodes d.1 k (end k h) (two k h)));
  starts = λ k h.
      map_one k es (record { at = entry f.body (length old) 0; ints = f.ints; bufs = f.bufs })
      ∙ ap (λ t. map (λ (e : Entry). (k e.at).todo) es ++ t ∷ []) ((b.ok (declared p f)).due k (two k h) ∙ ap (λ t. numbered (length old) f.body ++ t) (nothing k h) ∙ append-nil (numbered (length old) f.body) ∙ ap (λ n. numbered n f.body) q.size_is)
      ∙ ap (λ t. t ++ numbered (1 + sizes_of fs) f.body ∷ []) (q.starts k (one k h))
      ∙ sym (bodies_more 1 fs f);
  fits = λ k h.
      let w = (b.ok (declared p f)).inside k (end k h) (two k h) in
      fit_one k es (record { at = entry f.body (length old) 0; ints = f.ints; bufs = f.bufs }) (q.fits k (one k h)) w.ints w.bufs;
  leaves = λ k h. q.leaves k (one k h);
}
  where
    one : (k : Due) → Agrees k 0 (q.dues ++ (b.ok (declared p f)).dues []) → Agrees k 0 q.dues
    one k h = agrees_first k 0 q.dues ((b.ok (declared p f)).dues []) h

    nothing : (k : Due) → Agrees k 0 (q.dues ++ (b.ok (declared p f)).dues []) → (k 0).todo ≡ []
    nothing k h = ap (λ (s : Spot). s.todo) (q.leaves k (agrees_first k 0 q.dues ((b.ok (declared p f)).dues []) h))

    end : (k : Due) → Agrees k 0 (q.dues ++ (b.ok (declared p f)).dues []) → Within (declared p f) (k 0)
    end k h =
        let i : (k 0).ints ≡ 0 = ap (λ (s : Spot). s.ints) (q.leaves k (agrees_first k 0 q.dues ((b.ok (declared p f)).dues []) h)) in
        let j : (k 0).bufs ≡ 0 = ap (λ (s : Spot). s.bufs) (q.leaves k (agrees_first k 0 q.dues ((b.ok (declared p f)).dues []) h)) in
        record { ints = omega arith; bufs = omega arith }

    two : (k : Due) → Agrees k 0 (q.dues ++ (b.ok (declared p f)).dues []) → Agrees k (length old) ((b.ok (declared p f)).dues (k 0).todo)
    two k h =
        subst (λ (t : Todo). Agrees k (length old) ((b.ok (declared p f)).dues t)) (sym (ap (λ (s : Spot). s.todo) (q.leaves k (agrees_first k 0 q.dues ((b.ok (declared p f)).dues []) h))))
        (agrees_second k 0 (length old) q.dues ((b.ok (declared p f)).dues []) (let i = q.lengths in omega arith) h)

pub functions_none : LaidFunctions (form.End ∷ []) [] []
functions_none = record {
  ok = λ p. record {
    size_is = refl;
    dues = nowhere ∷ [];
    lengths = refl;
    nodes = λ f k h. (ap (λ (s : Spot). s.todo) h.0, tt);
    starts = λ k h. refl;
    fits = λ k h. tt;
    leaves = λ k h. h.0;
  };
}

pub functions_next : (old new : List Node) (es : List Entry) (fs : List CFunction) (i e : ℕ) (f : CFunction) (body : List CStmt) → LaidFunctions old es (take i fs) → body ≡ f.body → e ≡ entry body (length old) 0 → LaidBlock old new body 0 → f ≡ get_or fs i f → i < length fs → LaidFunctions new (es ++ record { at = e; ints = f.ints; bufs = f.bufs } ∷ []) (take (i + 1) fs)
functions_next old new es fs i e f body l is_body is_e b is_f within =
    let more : take i fs ++ f ∷ [] ≡ take (i + 1) fs = ap (λ y. take i fs ++ y ∷ []) is_f ∙ sym (take-suc fs i f within) ∙ ap (λ n. take n fs) (let f : suc i ≡ i + 1 = omega arith in f) in
    let b2 : LaidBlock old new f.body 0 = subst (λ (xs : List CStmt). LaidBlock old new xs 0) is_body b in
    let e2 : entry f.body (length old) 0 ≡ e = sym (is_e ∙ ap (λ xs. entry xs (length old) 0) is_body) in
    let all : LaidFunctions new (es ++ record { at = entry f.body (length old) 0; ints = f.ints; bufs = f.bufs } ∷ []) (take i fs ++ f ∷ []) = record { ok = λ p. laid_function p old new es (take i fs) f (l.ok p) b2 } in
    subst (λ (n : ℕ). LaidFunctions new (es ++ record { at = n; ints = f.ints; bufs = f.bufs } ∷ []) (take (i + 1) fs)) e2 (subst (λ (gs : List CFunction). LaidFunctions new (es ++ record { at = entry f.body (length old) 0; ints = f.ints; bufs = f.bufs } ∷ []) gs) more all)

pub ruleset programs = (functions_none, functions_next)

-- ---- What is due at each place, as a function

pub agrees_get : (n m : ℕ) (ts : List Spot) (k : Due) → ((i : ℕ) → k (n + i) ≡ get_or ts i nowhere) → Agrees k n ts
agrees_get n m [] k h = tt
agrees_get n m (t ∷ ts) k h = (ap k (sym (add-zero n)) ∙ h 0, agrees_get (suc n) m ts k (λ i. ap k (let e : suc n + i ≡ n + suc i = omega arith in e) ∙ h (suc i)))

past : (cs : List Node) (ts : List Spot) (n : ℕ) → length ts ≡ length cs → slice_get cs n ≡ None → get_or ts n nowhere ≡ nowhere
past [] [] n e h = refl
past [] (t ∷ ts) n e h = absurd (omega arith)
past (c ∷ cs) [] n e h = refl
past (c ∷ cs) (t ∷ ts) zero e h = cc
past (c ∷ cs) (t ∷ ts) (suc n) e h = past cs ts n (omega arith) h

-- the functions that were laid out are a layout
pub is_laid : (p : CProgram) (l : Layout) (fs : List CFunction) (q : FunctionsOk p l.nodes l.entries fs) → AreFormedFunctions p fs → IsLaid (globals p.ints p.bufs) (λ n. get_or q.dues n nowhere) l
is_laid p l fs q formed =
    let k : Due = λ n. get_or q.dues n nowhere in
    let a : Agrees k 0 q.dues = agrees_get 0 0 q.dues k (λ i. ap (λ n. get_or q.dues n nowhere) (zero-add i)) in
    record { nodes = q.nodes formed k a; beyond = λ n h. ap (λ (s : Spot). s.todo) (past l.nodes q.dues n q.lengths h); rooms = q.fits k a }
