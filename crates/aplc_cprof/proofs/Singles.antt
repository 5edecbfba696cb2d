-- Rules of the statements that are no blocks: each comes to what follows it, or faults.
-- They know no source, and count no steps.
use Rattle.std.proofs.Common.{◌≡◌, ℕ, ◌<◌, ◌≤◌, List, [], ◌∷◌, ◌++◌, ℤ, true}
use Rattle.std.specs.Prelude.{Option, Some, None, pos, ◌^◌, length, slice_get, slice_set, encode_utf8}
use Rattle.aplc_scalar.specs.Input.{Line, Unread, input_line, number_line}
use Rattle.aplc_scalar.specs.declared.kind.FaultKind.{FaultKind}
use Rattle.aplc_scalar.specs.declared.kind.FaultKind.TheVariants as fault
use Rattle.aplc_cprof.specs.declared.syntax.Int.{Int}
use Rattle.aplc_cprof.specs.declared.syntax.Buf.{Buf}
use Rattle.aplc_cprof.specs.declared.syntax.Checked.{Checked}
use Rattle.aplc_cprof.specs.declared.syntax.StuckCause.{StuckCause}
use Rattle.aplc_cprof.specs.declared.syntax.CExpr.{CExpr}
use Rattle.aplc_cprof.specs.declared.syntax.CStmt.TheVariants as stmt
use Rattle.aplc_cprof.specs.Machine.{Place, all_places, most_places, placed, deeper, named_buf, buf_or_null, set_buf, text_width, Todo, Code, State, Is, Bad, ranged, exact, set_int, with_line, padded_text, is_scalar, value, settled}
use Rattle.aplc_cprof.proofs.Paths.{with_cells, does_Set, does_Check, does_Check_limit, does_PutNum, does_PutChar, does_At, does_Enter, does_Leave, does_Width, does_SetBuf, does_Cells, does_ReadText, does_ReadText_fault, does_ReadNums, does_ReadNums_fault, does_ReadCount, does_SetCell, does_Free_null, does_Free, does_Fault}
use Rattle.aplc_cprof.proofs.Rules.{Runs, FaultsAt, runs_sure, runs_faults}

-- P holds after a step that came to t, whatever is due then
abbrev pub Onward : (State → Type 0) → State → Type 0
Onward P t = (rest : Todo) → P (settled (record t { todo = rest }))

-- a fault of the next step is a way to stop, whatever is due
abbrev pub FaultStops : Code → FaultKind → State → (State → Type 0) → Type 0
FaultStops c k s Stop = (todo : Todo) → FaultsAt c k (record s { todo = todo }) → Stop (record s { todo = todo })

module _ (c : Code) (Q : State → Type 0) where
  -- ---- Variables

  -- a variable is set to the value
  pub runs_Set : (x : Int) (e : CExpr) (s : State) (Post Stop : State → Type 0) (v : ℤ) → value e c.tables s ≡ Is v → Onward Q (set_int x v s) → Onward Post (set_int x v s) → Runs c Q (stmt.Set x e ∷ []) s Post Stop
  runs_Set x e s Post Stop v is q post = runs_sure c Q 1 (stmt.Set x e ∷ []) s Post Stop (does_Set c Q x e s Post (λ kind t. ⊥) v is q post)

  -- checked arithmetic whose result is in range sets the variable
  pub runs_Check : (x : Int) (o : Checked) (e f : CExpr) (s : State) (Post Stop : State → Type 0) (a b v : ℤ) → value e c.tables s ≡ Is a → value f c.tables s ≡ Is b → ranged (exact o a b) ≡ Is v → Onward Q (set_int x v s) → Onward Post (set_int x v s) → Runs c Q (stmt.Check x o e f ∷ []) s Post Stop
  runs_Check x o e f s Post Stop a b v is_a is_b is q post = runs_sure c Q 1 (stmt.Check x o e f ∷ []) s Post Stop (does_Check c Q x o e f s Post (λ kind t. ⊥) a b v is_a is_b is q post)

  -- and faults where it is not
  pub runs_Check_limit : (x : Int) (o : Checked) (e f : CExpr) (s : State) (Post Stop : State → Type 0) (a b : ℤ) (why : StuckCause) → value e c.tables s ≡ Is a → value f c.tables s ≡ Is b → ranged (exact o a b) ≡ Bad why → FaultStops c fault.Limit s Stop → Runs c Q (stmt.Check x o e f ∷ []) s Post Stop
  runs_Check_limit x o e f s Post Stop a b why is_a is_b is stop = runs_faults c Q 0 (stmt.Check x o e f ∷ []) s Post Stop (does_Check_limit c Q x o e f s Post (λ kind t. FaultsAt c kind t → Stop t) a b why is_a is_b is stop)

  -- a variable is set to the number of characters of a number's text
  pub runs_Width : (x : Int) (e : CExpr) (s : State) (Post Stop : State → Type 0) (v : ℤ) → value e c.tables s ≡ Is v → Onward Q (set_int x (pos (text_width v)) s) → Onward Post (set_int x (pos (text_width v)) s) → Runs c Q (stmt.Width x e ∷ []) s Post Stop
  runs_Width x e s Post Stop v is q post = runs_sure c Q 1 (stmt.Width x e ∷ []) s Post Stop (does_Width c Q x e s Post (λ kind t. ⊥) v is q post)

  -- ---- Buffers

  -- a buffer variable is set to another's buffer, or to none
  pub runs_SetBuf : (p : Buf) (q : Option Buf) (s : State) (Post Stop : State → Type 0) → Onward Q (set_buf p (buf_or_null q s) s) → Onward Post (set_buf p (buf_or_null q s) s) → Runs c Q (stmt.SetBuf p q ∷ []) s Post Stop
  runs_SetBuf p q s Post Stop way post = runs_sure c Q 1 (stmt.SetBuf p q ∷ []) s Post Stop (does_SetBuf c Q p q s Post (λ kind t. ⊥) way post)

  -- a new buffer of fewer than 2 ^ 31 cells, all 0
  pub runs_Cells : (p : Buf) (e : CExpr) (s : State) (Post Stop : State → Type 0) (k : ℕ) → value e c.tables s ≡ Is (pos k) → k < 2 ^ 31 → Onward Q (with_cells c p k s) → Onward Post (with_cells c p k s) → Runs c Q (stmt.Cells p e ∷ []) s Post Stop
  runs_Cells p e s Post Stop k is lt q post = runs_sure c Q 1 (stmt.Cells p e ∷ []) s Post Stop (does_Cells c Q p e s Post (λ kind t. ⊥) k is lt q post)

  -- a cell of a buffer that is not freed is written
  pub runs_SetCell : (p : Buf) (e f : CExpr) (s : State) (Post Stop : State → Type 0) (b : ℕ) (cells : List ℤ) (k : ℕ) (v : ℤ) → value e c.tables s ≡ Is (pos k) → value f c.tables s ≡ Is v → named_buf p s ≡ Some b → slice_get s.heap b ≡ Some (Some cells) → k < length cells → Onward Q (record s { heap = slice_set s.heap b (Some (slice_set cells k v)) }) → Onward Post (record s { heap = slice_set s.heap b (Some (slice_set cells k v)) }) → Runs c Q (stmt.SetCell p e f ∷ []) s Post Stop
  runs_SetCell p e f s Post Stop b cells k v is_k is_v is_b live lt q post = runs_sure c Q 1 (stmt.SetCell p e f ∷ []) s Post Stop (does_SetCell c Q p e f s Post (λ kind t. ⊥) b cells k v is_k is_v is_b live lt q post)

  -- freeing null does nothing
  pub runs_Free_null : (p : Buf) (s : State) (Post Stop : State → Type 0) → named_buf p s ≡ None → Onward Q s → Onward Post s → Runs c Q (stmt.Free p ∷ []) s Post Stop
  runs_Free_null p s Post Stop is q post = runs_sure c Q 1 (stmt.Free p ∷ []) s Post Stop (does_Free_null c Q p s Post (λ kind t. ⊥) is q post)

  -- a buffer is freed
  pub runs_Free : (p : Buf) (s : State) (Post Stop : State → Type 0) (b : ℕ) (cells : List ℤ) → named_buf p s ≡ Some b → slice_get s.heap b ≡ Some (Some cells) → Onward Q (record s { heap = slice_set s.heap b None }) → Onward Post (record s { heap = slice_set s.heap b None }) → Runs c Q (stmt.Free p ∷ []) s Post Stop
  runs_Free p s Post Stop b cells is live q post = runs_sure c Q 1 (stmt.Free p ∷ []) s Post Stop (does_Free c Q p s Post (λ kind t. ⊥) b cells is live q post)

  -- ---- Output, and where the source stands

  -- a number is printed, right-justified to a width of at most 20
  pub runs_PutNum : (e f : CExpr) (s : State) (Post Stop : State → Type 0) (v : ℤ) (w : ℕ) → value e c.tables s ≡ Is v → value f c.tables s ≡ Is (pos w) → w ≤ 20 → Onward Q (record s { output = s.output ++ padded_text v w }) → Onward Post (record s { output = s.output ++ padded_text v w }) → Runs c Q (stmt.PutNum e f ∷ []) s Post Stop
  runs_PutNum e f s Post Stop v w is_v is_w le q post = runs_sure c Q 1 (stmt.PutNum e f ∷ []) s Post Stop (does_PutNum c Q e f s Post (λ kind t. ⊥) v w is_v is_w le q post)

  -- a scalar value is printed as its UTF-8 bytes
  pub runs_PutChar : (e : CExpr) (s : State) (Post Stop : State → Type 0) (k : ℕ) → value e c.tables s ≡ Is (pos k) → is_scalar k ≡ true → Onward Q (record s { output = s.output ++ encode_utf8 k }) → Onward Post (record s { output = s.output ++ encode_utf8 k }) → Runs c Q (stmt.PutChar e ∷ []) s Post Stop
  runs_PutChar e s Post Stop k is scalar q post = runs_sure c Q 1 (stmt.PutChar e ∷ []) s Post Stop (does_PutChar c Q e s Post (λ kind t. ⊥) k is scalar q post)

  -- the innermost place is set, and leaves a mark
  pub runs_At : (name : List ℕ) (l : ℤ) (s : State) (Post Stop : State → Type 0) → Onward Q (placed (record { name = name; line = l }) s) → Onward Post (placed (record { name = name; line = l }) s) → Runs c Q (stmt.At name l ∷ []) s Post Stop
  runs_At name l s Post Stop q post = runs_sure c Q 1 (stmt.At name l ∷ []) s Post Stop (does_At c Q name l s Post (λ kind t. ⊥) q post)

  -- an empty place before the others, where fewer than 4,096 stand
  pub runs_Enter : (s : State) (Post Stop : State → Type 0) → length (all_places s.places) < most_places → Onward Q (record s { places = deeper s.places }) → Onward Post (record s { places = deeper s.places }) → Runs c Q (stmt.Enter ∷ []) s Post Stop
  runs_Enter s Post Stop lt q post = runs_sure c Q 1 (stmt.Enter ∷ []) s Post Stop (does_Enter c Q s Post (λ kind t. ⊥) lt q post)

  -- the innermost place goes, where it is not the last
  pub runs_Leave : (s : State) (Post Stop : State → Type 0) (p : Place) (ps : List Place) → s.places.behind ≡ p ∷ ps → Onward Q (record s { places = record { here = p; behind = ps } }) → Onward Post (record s { places = record { here = p; behind = ps } }) → Runs c Q (stmt.Leave ∷ []) s Post Stop
  runs_Leave s Post Stop p ps is q post = runs_sure c Q 1 (stmt.Leave ∷ []) s Post Stop (does_Leave c Q s Post (λ kind t. ⊥) p ps is q post)

  -- a fault faults
  pub runs_Fault : (k : FaultKind) (s : State) (Post Stop : State → Type 0) → FaultStops c k s Stop → Runs c Q (stmt.Fault k ∷ []) s Post Stop
  runs_Fault k s Post Stop stop = runs_faults c Q 0 (stmt.Fault k ∷ []) s Post Stop (does_Fault c Q k s Post (λ kind t. FaultsAt c kind t → Stop t) stop)

  -- ---- Input

  -- the next line is read as characters into a new buffer
  pub runs_ReadText : (p : Buf) (s : State) (Post Stop : State → Type 0) (cells : List ℤ) (left : List ℕ) → input_line s.input ≡ Line cells left → Onward Q (with_line p cells left s) → Onward Post (with_line p cells left s) → Runs c Q (stmt.ReadText p ∷ []) s Post Stop
  runs_ReadText p s Post Stop cells left is q post = runs_sure c Q 1 (stmt.ReadText p ∷ []) s Post Stop (does_ReadText c Q p s Post (λ kind t. ⊥) cells left is q post)

  -- a line that can't be faults
  pub runs_ReadText_fault : (p : Buf) (s : State) (Post Stop : State → Type 0) (k : FaultKind) → input_line s.input ≡ Unread k → FaultStops c k s Stop → Runs c Q (stmt.ReadText p ∷ []) s Post Stop
  runs_ReadText_fault p s Post Stop k is stop = runs_faults c Q 0 (stmt.ReadText p ∷ []) s Post Stop (does_ReadText_fault c Q p s Post (λ kind t. FaultsAt c kind t → Stop t) k is stop)

  -- the next line is read as numbers into a new buffer
  pub runs_ReadNums : (p : Buf) (s : State) (Post Stop : State → Type 0) (cells : List ℤ) (left : List ℕ) → number_line s.input ≡ Line cells left → Onward Q (with_line p cells left s) → Onward Post (with_line p cells left s) → Runs c Q (stmt.ReadNums p ∷ []) s Post Stop
  runs_ReadNums p s Post Stop cells left is q post = runs_sure c Q 1 (stmt.ReadNums p ∷ []) s Post Stop (does_ReadNums c Q p s Post (λ kind t. ⊥) cells left is q post)

  -- a line that can't be faults
  pub runs_ReadNums_fault : (p : Buf) (s : State) (Post Stop : State → Type 0) (k : FaultKind) → number_line s.input ≡ Unread k → FaultStops c k s Stop → Runs c Q (stmt.ReadNums p ∷ []) s Post Stop
  runs_ReadNums_fault p s Post Stop k is stop = runs_faults c Q 0 (stmt.ReadNums p ∷ []) s Post Stop (does_ReadNums_fault c Q p s Post (λ kind t. FaultsAt c kind t → Stop t) k is stop)

  -- a variable is set to the count of the last read
  pub runs_ReadCount : (x : Int) (s : State) (Post Stop : State → Type 0) → Onward Q (set_int x s.read_count s) → Onward Post (set_int x s.read_count s) → Runs c Q (stmt.ReadCount x ∷ []) s Post Stop
  runs_ReadCount x s Post Stop q post = runs_sure c Q 1 (stmt.ReadCount x ∷ []) s Post Stop (does_ReadCount c Q x s Post (λ kind t. ⊥) q post)
