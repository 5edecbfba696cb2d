-- What one step does at the forms of statement, and that runs add up.
use Rattle.std.proofs.Common.{◌≡◌, ◌∙◌, ap, refl, ℕ, zero, suc, ◌+◌, ◌-◌, ◌≤◌, List, [], ◌∷◌, ◌++◌, arith, ℤ, pos, Bool, true, cond}
use Rattle.std.specs.Prelude.{Option, Some, None, map, nat_le, nat_lt, ◌<◌, ◌^◌, length, replicate, slice_get, slice_set, encode_utf8}
use Rattle.aplc_scalar.specs.declared.kind.FaultKind.{FaultKind}
use Rattle.aplc_scalar.specs.declared.kind.FaultKind.TheVariants as fault
use Rattle.aplc_cprof.specs.declared.syntax.Int.{Int}
use Rattle.aplc_cprof.specs.declared.syntax.Buf.{Buf}
use Rattle.aplc_cprof.specs.declared.syntax.Checked.{Checked}
use Rattle.aplc_cprof.specs.declared.syntax.CExpr.{CExpr}
use Rattle.aplc_cprof.specs.declared.syntax.Arm.{Arm}
use Rattle.aplc_cprof.specs.declared.syntax.CStmt.{CStmt, out-CStmt}
use Rattle.aplc_cprof.specs.declared.syntax.CStmt.TheVariants as stmt
use Rattle.aplc_cprof.specs.declared.syntax.CStmt.TheOpen.{CStmt-F}
use Rattle.aplc_cprof.specs.declared.syntax.StuckCause.{StuckCause}
use Rattle.aplc_cprof.specs.declared.syntax.StuckCause.TheVariants.{Range, Outside}
use Rattle.aplc_scalar.specs.Number.{number_text}
use Rattle.aplc_scalar.specs.Input.{Line, Unread, input_line, number_line}
use Rattle.aplc_cprof.specs.Machine.{total, size, numbered, numbered_if, is_zero, chosen, no_ints, no_bufs, read_int, named_buf, set_buf, buf_or_null, text_width, new_cells, write_cell, write_live, with_line, read_cells, free_named, free_cells, enter, Place, all_places, most_places, placed, deeper, leave_place, Caller, Todo, Code, State, Value, Is, Bad, Next, Going, Ended, Faulted, Stuck, value, ranged, exact, set_int, onward, with_value, limit_or, padded_text, printed, put_number, put_character, is_scalar, leave, act, due, settled, settled_next, step, and_then, run}

goes : (c : Code) (k m : ℕ) (x : Next) → ((s : State) → run c (k + m) s ≡ and_then (run c k s) (run c m)) → and_then x (run c (k + m)) ≡ and_then (and_then x (run c k)) (run c m)
goes c k m (Going s) ih = ih s
goes c k m (Ended s) ih = refl
goes c k m (Faulted f s) ih = refl
goes c k m (Stuck f n s) ih = refl

-- k steps and then m are k + m
pub run_sum : (c : Code) (k m : ℕ) (s : State) → run c (k + m) s ≡ and_then (run c k s) (run c m)
run_sum c zero m s = ap (λ n. run c n s) (omega arith)
run_sum c (suc k) m s =
    let e : suc k + m ≡ suc (k + m) = omega arith in
    ap (λ n. run c n s) e ∙ goes c k m (step c s) (run_sum c k m)

-- a step does what the statement that is due does, and is counted
pub step_act : (c : Code) (n : ℕ) (st : CStmt) (form : CStmt-F CStmt Arm) (rest : Todo) (s : State) (next : Next) → s.todo ≡ (n, st) ∷ rest → out-CStmt st ≡ form → act c form n st rest s ≡ next → step c s ≡ settled_next next
unfolding step
step_act c n st form rest s next h o e = ap settled_next (ap (λ t. due c t s) h ∙ ap (λ f. act c f n st rest s) o ∙ e)

-- a variable is set to the value
pub step_Set : (c : Code) (n : ℕ) (x : Int) (e : CExpr) (rest : Todo) (s : State) (v : ℤ) → s.todo ≡ (n, stmt.Set x e) ∷ rest → value e c.tables s ≡ Is v → step c s ≡ Going (settled (record (set_int x v s) { todo = rest }))
step_Set c n x e rest s v h is =
    step_act c n (stmt.Set x e) (CStmt-F.Set x e) rest s (onward rest (set_int x v s)) h (stmt.outs-Set x e)
    (ap (λ w. with_value w n s (λ v. onward rest (set_int x v s))) is)

check_act : (c : Code) (n : ℕ) (x : Int) (o : Checked) (e f : CExpr) (rest : Todo) (s : State) (a b : ℤ) (r : Value) → s.todo ≡ (n, stmt.Check x o e f) ∷ rest → value e c.tables s ≡ Is a → value f c.tables s ≡ Is b → ranged (exact o a b) ≡ r → step c s ≡ settled_next (limit_or r s (λ v. onward rest (set_int x v s)))
check_act c n x o e f rest s a b r h is_a is_b is =
    step_act c n (stmt.Check x o e f) (CStmt-F.Check x o e f) rest s (limit_or r s (λ v. onward rest (set_int x v s))) h (stmt.outs-Check x o e f)
    (ap (λ w. with_value w n s (λ a. with_value (value f c.tables s) n s (λ b. limit_or (ranged (exact o a b)) s (λ v. onward rest (set_int x v s))))) is_a
    ∙ ap (λ w. with_value w n s (λ b. limit_or (ranged (exact o a b)) s (λ v. onward rest (set_int x v s)))) is_b
    ∙ ap (λ w. limit_or w s (λ v. onward rest (set_int x v s))) is)

-- checked arithmetic whose result is in range sets the variable
pub step_Check : (c : Code) (n : ℕ) (x : Int) (o : Checked) (e f : CExpr) (rest : Todo) (s : State) (a b v : ℤ) → s.todo ≡ (n, stmt.Check x o e f) ∷ rest → value e c.tables s ≡ Is a → value f c.tables s ≡ Is b → ranged (exact o a b) ≡ Is v → step c s ≡ Going (settled (record (set_int x v s) { todo = rest }))
step_Check c n x o e f rest s a b v = check_act c n x o e f rest s a b (Is v)

-- checked arithmetic whose result is out of range faults
pub step_Check_limit : (c : Code) (n : ℕ) (x : Int) (o : Checked) (e f : CExpr) (rest : Todo) (s : State) (a b : ℤ) (why : StuckCause) → s.todo ≡ (n, stmt.Check x o e f) ∷ rest → value e c.tables s ≡ Is a → value f c.tables s ≡ Is b → ranged (exact o a b) ≡ Bad why → step c s ≡ Faulted fault.Limit (settled s)
step_Check_limit c n x o e f rest s a b why = check_act c n x o e f rest s a b (Bad why)

-- a number is printed, right-justified to a width of at most 20
pub step_PutNum : (c : Code) (n : ℕ) (e f : CExpr) (rest : Todo) (s : State) (v : ℤ) (w : ℕ) → s.todo ≡ (n, stmt.PutNum e f) ∷ rest → value e c.tables s ≡ Is v → value f c.tables s ≡ Is (pos w) → w ≤ 20 → step c s ≡ Going (settled (record s { todo = rest; output = s.output ++ padded_text v w }))
step_PutNum c n e f rest s v w h is_v is_w le =
    let yes_le : nat_le w 20 ≡ true = grind (arith, le) in
    step_act c n (stmt.PutNum e f) (CStmt-F.PutNum e f) rest s (printed (padded_text v w) rest s) h (stmt.outs-PutNum e f)
    (ap (λ x. with_value x n s (λ v. with_value (value f c.tables s) n s (λ w. put_number v w n rest s))) is_v
    ∙ ap (λ x. with_value x n s (λ w. put_number v w n rest s)) is_w
    ∙ ap (λ b. cond b (printed (padded_text v w) rest s) (Stuck Range n s)) yes_le)

-- a number at width 0 is its text alone
pub padded_none : (v : ℤ) → padded_text v 0 ≡ number_text v
padded_none v =
    let none : 0 - text_width v ≡ 0 = omega arith in
    ap (λ k. replicate k 32 ++ number_text v) none

-- a scalar value is printed as its UTF-8 bytes
pub step_PutChar : (c : Code) (n : ℕ) (e : CExpr) (rest : Todo) (s : State) (k : ℕ) → s.todo ≡ (n, stmt.PutChar e) ∷ rest → value e c.tables s ≡ Is (pos k) → is_scalar k ≡ true → step c s ≡ Going (settled (record s { todo = rest; output = s.output ++ encode_utf8 k }))
step_PutChar c n e rest s k h is scalar =
    step_act c n (stmt.PutChar e) (CStmt-F.PutChar e) rest s (printed (encode_utf8 k) rest s) h (stmt.outs-PutChar e)
    (ap (λ x. with_value x n s (λ v. put_character v n rest s)) is
    ∙ ap (λ b. cond b (printed (encode_utf8 k) rest s) (Stuck Range n s)) scalar)

-- the innermost place is set, and leaves a mark
pub step_At : (c : Code) (n : ℕ) (name : List ℕ) (l : ℤ) (rest : Todo) (s : State) → s.todo ≡ (n, stmt.At name l) ∷ rest → step c s ≡ Going (settled (record (placed (record { name = name; line = l }) s) { todo = rest }))
step_At c n name l rest s h = step_act c n (stmt.At name l) (CStmt-F.At name l) rest s (onward rest (placed (record { name = name; line = l }) s)) h (stmt.outs-At name l) refl

-- an empty place before the others, where fewer than 4,096 stand
pub step_Enter : (c : Code) (n : ℕ) (rest : Todo) (s : State) → s.todo ≡ (n, stmt.Enter) ∷ rest → length (all_places s.places) < most_places → step c s ≡ Going (settled (record s { todo = rest; places = deeper s.places }))
step_Enter c n rest s h lt =
    let few : nat_lt (length (all_places s.places)) most_places ≡ true = grind (arith, lt) in
    step_act c n stmt.Enter CStmt-F.Enter rest s (onward rest (record s { places = deeper s.places })) h stmt.outs-Enter
    (ap (λ b. cond b (onward rest (record s { places = deeper s.places })) (Stuck Outside n s)) few)

-- the innermost place goes, where it is not the last
pub step_Leave : (c : Code) (n : ℕ) (rest : Todo) (s : State) (p : Place) (ps : List Place) → s.todo ≡ (n, stmt.Leave) ∷ rest → s.places.behind ≡ p ∷ ps → step c s ≡ Going (settled (record s { todo = rest; places = record { here = p; behind = ps } }))
step_Leave c n rest s p ps h is =
    step_act c n stmt.Leave CStmt-F.Leave rest s (onward rest (record s { places = record { here = p; behind = ps } })) h stmt.outs-Leave
    (ap (λ (qs : List Place). leave_place qs n rest s) is)

-- a variable is set to the number of characters of a number's text
pub step_Width : (c : Code) (n : ℕ) (x : Int) (e : CExpr) (rest : Todo) (s : State) (v : ℤ) → s.todo ≡ (n, stmt.Width x e) ∷ rest → value e c.tables s ≡ Is v → step c s ≡ Going (settled (record (set_int x (pos (text_width v)) s) { todo = rest }))
step_Width c n x e rest s v h is =
    step_act c n (stmt.Width x e) (CStmt-F.Width x e) rest s (onward rest (set_int x (pos (text_width v)) s)) h (stmt.outs-Width x e)
    (ap (λ w. with_value w n s (λ v. onward rest (set_int x (pos (text_width v)) s))) is)

-- a variable is set to the count of the last read
pub step_ReadCount : (c : Code) (n : ℕ) (x : Int) (rest : Todo) (s : State) → s.todo ≡ (n, stmt.ReadCount x) ∷ rest → step c s ≡ Going (settled (record (set_int x s.read_count s) { todo = rest }))
step_ReadCount c n x rest s h = step_act c n (stmt.ReadCount x) (CStmt-F.ReadCount x) rest s (onward rest (set_int x s.read_count s)) h (stmt.outs-ReadCount x) refl

-- the next line is read as characters into a new buffer
pub step_ReadText : (c : Code) (n : ℕ) (p : Buf) (rest : Todo) (s : State) (cells : List ℤ) (left : List ℕ) → s.todo ≡ (n, stmt.ReadText p) ∷ rest → input_line s.input ≡ Line cells left → step c s ≡ Going (settled (record (with_line p cells left s) { todo = rest }))
step_ReadText c n p rest s cells left h is =
    step_act c n (stmt.ReadText p) (CStmt-F.ReadText p) rest s (read_cells p (Line cells left) rest s) h (stmt.outs-ReadText p) (ap (λ line. read_cells p line rest s) is)

-- a line that can't be read as characters faults
pub step_ReadText_fault : (c : Code) (n : ℕ) (p : Buf) (rest : Todo) (s : State) (k : FaultKind) → s.todo ≡ (n, stmt.ReadText p) ∷ rest → input_line s.input ≡ Unread k → step c s ≡ Faulted k (settled s)
step_ReadText_fault c n p rest s k h is =
    step_act c n (stmt.ReadText p) (CStmt-F.ReadText p) rest s (Faulted k s) h (stmt.outs-ReadText p) (ap (λ line. read_cells p line rest s) is)

-- the next line is read as numbers into a new buffer
pub step_ReadNums : (c : Code) (n : ℕ) (p : Buf) (rest : Todo) (s : State) (cells : List ℤ) (left : List ℕ) → s.todo ≡ (n, stmt.ReadNums p) ∷ rest → number_line s.input ≡ Line cells left → step c s ≡ Going (settled (record (with_line p cells left s) { todo = rest }))
step_ReadNums c n p rest s cells left h is =
    step_act c n (stmt.ReadNums p) (CStmt-F.ReadNums p) rest s (read_cells p (Line cells left) rest s) h (stmt.outs-ReadNums p) (ap (λ line. read_cells p line rest s) is)

-- a line that can't be read as numbers faults
pub step_ReadNums_fault : (c : Code) (n : ℕ) (p : Buf) (rest : Todo) (s : State) (k : FaultKind) → s.todo ≡ (n, stmt.ReadNums p) ∷ rest → number_line s.input ≡ Unread k → step c s ≡ Faulted k (settled s)
step_ReadNums_fault c n p rest s k h is =
    step_act c n (stmt.ReadNums p) (CStmt-F.ReadNums p) rest s (Faulted k s) h (stmt.outs-ReadNums p) (ap (λ line. read_cells p line rest s) is)

-- a buffer variable is set to another's buffer, or to none
pub step_SetBuf : (c : Code) (n : ℕ) (p : Buf) (q : Option Buf) (rest : Todo) (s : State) → s.todo ≡ (n, stmt.SetBuf p q) ∷ rest → step c s ≡ Going (settled (record (set_buf p (buf_or_null q s) s) { todo = rest }))
step_SetBuf c n p q rest s h = step_act c n (stmt.SetBuf p q) (CStmt-F.SetBuf p q) rest s (onward rest (set_buf p (buf_or_null q s) s)) h (stmt.outs-SetBuf p q) refl

-- a new buffer of fewer than 2 ^ 31 cells, all 0
pub step_Cells : (c : Code) (n : ℕ) (p : Buf) (e : CExpr) (rest : Todo) (s : State) (k : ℕ) → s.todo ≡ (n, stmt.Cells p e) ∷ rest → value e c.tables s ≡ Is (pos k) → k < 2 ^ 31 → step c s ≡ Going (settled (record (set_buf p (Some (length s.heap)) (record s { heap = s.heap ++ Some (replicate k (pos 0)) ∷ [] })) { todo = rest }))
step_Cells c n p e rest s k h is lt =
    let fits : nat_lt k (2 ^ 31) ≡ true = grind (arith, lt) in
    let to : Next = onward rest (set_buf p (Some (length s.heap)) (record s { heap = s.heap ++ Some (replicate k (pos 0)) ∷ [] })) in
    step_act c n (stmt.Cells p e) (CStmt-F.Cells p e) rest s to h (stmt.outs-Cells p e)
    (ap (λ w. with_value w n s (λ k. new_cells p k n rest s)) is
    ∙ ap (λ b. cond b to (Stuck Range n s)) fits)

-- a cell of a buffer that is not freed is written
pub step_SetCell : (c : Code) (n : ℕ) (p : Buf) (e f : CExpr) (rest : Todo) (s : State) (b : ℕ) (cells : List ℤ) (k : ℕ) (v : ℤ) → s.todo ≡ (n, stmt.SetCell p e f) ∷ rest → value e c.tables s ≡ Is (pos k) → value f c.tables s ≡ Is v → named_buf p s ≡ Some b → slice_get s.heap b ≡ Some (Some cells) → k < length cells → step c s ≡ Going (settled (record s { todo = rest; heap = slice_set s.heap b (Some (slice_set cells k v)) }))
step_SetCell c n p e f rest s b cells k v h is_k is_v is_b live lt =
    let inside : nat_lt k (length cells) ≡ true = grind (arith, lt) in
    let to : Next = onward rest (record s { heap = slice_set s.heap b (Some (slice_set cells k v)) }) in
    step_act c n (stmt.SetCell p e f) (CStmt-F.SetCell p e f) rest s to h (stmt.outs-SetCell p e f)
    (ap (λ w. with_value w n s (λ k. with_value (value f c.tables s) n s (λ v. write_cell (named_buf p s) k v n rest s))) is_k
    ∙ ap (λ w. with_value w n s (λ v. write_cell (named_buf p s) (pos k) v n rest s)) is_v
    ∙ ap (λ (b : Option ℕ). write_cell b (pos k) v n rest s) is_b
    ∙ ap (λ (cells : Option (Option (List ℤ))). write_live b cells (pos k) v n rest s) live
    ∙ ap (λ t. cond t to (Stuck Outside n s)) inside)

-- freeing null does nothing
pub step_Free_null : (c : Code) (n : ℕ) (p : Buf) (rest : Todo) (s : State) → s.todo ≡ (n, stmt.Free p) ∷ rest → named_buf p s ≡ None → step c s ≡ Going (settled (record s { todo = rest }))
step_Free_null c n p rest s h is =
    step_act c n (stmt.Free p) (CStmt-F.Free p) rest s (onward rest s) h (stmt.outs-Free p) (ap (λ (b : Option ℕ). free_named b n rest s) is)

-- a buffer is freed
pub step_Free : (c : Code) (n : ℕ) (p : Buf) (rest : Todo) (s : State) (b : ℕ) (cells : List ℤ) → s.todo ≡ (n, stmt.Free p) ∷ rest → named_buf p s ≡ Some b → slice_get s.heap b ≡ Some (Some cells) → step c s ≡ Going (settled (record s { todo = rest; heap = slice_set s.heap b None }))
step_Free c n p rest s b cells h is live =
    step_act c n (stmt.Free p) (CStmt-F.Free p) rest s (onward rest (record s { heap = slice_set s.heap b None })) h (stmt.outs-Free p)
    (ap (λ (b : Option ℕ). free_named b n rest s) is ∙ ap (λ (cells : Option (Option (List ℤ))). free_cells b cells n rest s) live)

-- a function is entered with a new frame
pub step_Call : (c : Code) (n k : ℕ) (body rest : Todo) (s : State) → s.todo ≡ (n, stmt.Call k) ∷ rest → slice_get c.bodies k ≡ Some body → step c s ≡ Going (settled (record s { ints = no_ints; bufs = no_bufs; todo = body; callers = record { ints = s.ints; bufs = s.bufs; todo = rest } ∷ s.callers }))
step_Call c n k body rest s h is =
    step_act c n (stmt.Call k) (CStmt-F.Call k) rest s (enter (Some body) n rest s) h (stmt.outs-Call k) (ap (λ (b : Option Todo). enter b n rest s) is)

-- a return leaves a function for its caller
pub step_Return : (c : Code) (n : ℕ) (rest : Todo) (s : State) (f : Caller) (fs : List Caller) → s.todo ≡ (n, stmt.Return) ∷ rest → s.callers ≡ f ∷ fs → step c s ≡ Going (settled (record s { ints = f.ints; bufs = f.bufs; todo = f.todo; callers = fs }))
step_Return c n rest s f fs h is =
    step_act c n stmt.Return CStmt-F.Return rest s (leave (f ∷ fs) s) h stmt.outs-Return (ap (λ cs. leave cs s) is)

-- a return of the function that was entered first ends the run
pub step_Return_end : (c : Code) (n : ℕ) (rest : Todo) (s : State) → s.todo ≡ (n, stmt.Return) ∷ rest → s.callers ≡ [] → step c s ≡ Ended (settled s)
step_Return_end c n rest s h is = step_act c n stmt.Return CStmt-F.Return rest s (Ended s) h stmt.outs-Return (ap (λ cs. leave cs s) is)

-- a switch goes on with the arm of the variable's number, or with the default
pub step_Switch : (c : Code) (n : ℕ) (x : Int) (arms : List Arm) (d : List CStmt) (rest : Todo) (s : State) (v : ℤ) → s.todo ≡ (n, stmt.Switch x arms d) ∷ rest → read_int x s ≡ Is v → step c s ≡ Going (settled (record s { todo = chosen v (n + 1) arms d ++ rest }))
step_Switch c n x arms d rest s v h is =
    step_act c n (stmt.Switch x arms d) (CStmt-F.Switch x arms d) rest s (onward (chosen v (n + 1) arms d ++ rest) s) h (stmt.outs-Switch x arms d)
    (ap (λ w. with_value w n s (λ v. onward (chosen v (n + 1) arms d ++ rest) s)) is)

-- a fault faults
pub step_Fault : (c : Code) (n : ℕ) (k : FaultKind) (rest : Todo) (s : State) → s.todo ≡ (n, stmt.Fault k) ∷ rest → step c s ≡ Faulted k (settled s)
step_Fault c n k rest s h = step_act c n (stmt.Fault k) (CStmt-F.Fault k) rest s (Faulted k s) h (stmt.outs-Fault k) refl

-- an if goes on with the part that its condition chooses
pub step_If : (c : Code) (n : ℕ) (e : CExpr) (a : List CStmt) (o : Option (List CStmt)) (rest : Todo) (s : State) (v : ℤ) (over : Bool) → s.todo ≡ (n, stmt.If e a o) ∷ rest → value e c.tables s ≡ Is v → is_zero v ≡ over → step c s ≡ Going (settled (record s { todo = cond over (numbered_if (n + 1 + total (map size a)) o ++ rest) (numbered (n + 1) a ++ rest) }))
step_If c n e a o rest s v over h is test =
    let to = λ (b : Bool). onward (cond b (numbered_if (n + 1 + total (map size a)) o ++ rest) (numbered (n + 1) a ++ rest)) s in
    step_act c n (stmt.If e a o) (CStmt-F.If e a o) rest s (to over) h (stmt.outs-If e a o)
    (ap (λ w. with_value w n s (λ v. to (is_zero v))) is ∙ ap to test)

-- a while goes on with its body and itself, or with what follows it
pub step_While : (c : Code) (n : ℕ) (e : CExpr) (a : List CStmt) (rest : Todo) (s : State) (v : ℤ) (over : Bool) → s.todo ≡ (n, stmt.While e a) ∷ rest → value e c.tables s ≡ Is v → is_zero v ≡ over → step c s ≡ Going (settled (record s { todo = cond over rest (numbered (n + 1) a ++ ((n, stmt.While e a) ∷ rest)) }))
step_While c n e a rest s v over h is test =
    let to = λ (b : Bool). onward (cond b rest (numbered (n + 1) a ++ ((n, stmt.While e a) ∷ rest))) s in
    step_act c n (stmt.While e a) (CStmt-F.While e a) rest s (to over) h (stmt.outs-While e a)
    (ap (λ w. with_value w n s (λ v. to (is_zero v))) is ∙ ap to test)

-- the run ends at the end of the body that was entered first
pub step_end : (c : Code) (s : State) → s.todo ≡ [] → s.callers ≡ [] → step c s ≡ Ended (settled s)
unfolding step
step_end c s h none = ap settled_next (ap (λ t. due c t s) h ∙ ap (λ cs. leave cs s) none)

-- the end of a body leaves the function for its caller
pub step_leave : (c : Code) (s : State) (f : Caller) (fs : List Caller) → s.todo ≡ [] → s.callers ≡ f ∷ fs → step c s ≡ Going (settled (record s { ints = f.ints; bufs = f.bufs; todo = f.todo; callers = fs }))
unfolding step
step_leave c s f fs h is = ap settled_next (ap (λ t. due c t s) h ∙ ap (λ cs. leave cs s) is)
