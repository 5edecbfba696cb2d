-- What the code of a row prints, and that it is well formed.
use Rattle.std.proofs.Common.{◌≡◌, ℕ, ◌+◌, ◌*◌, ◌<◌, ◌≤◌, List, [], ◌∷◌, ◌++◌, length, refl, sym, ap, ◌∙◌, subst, arith, append_assoc, ℤ, true}
use Rattle.std.specs.Prelude.{Option, Some, None, Ok, Err, pos, slice_get}
use Rattle.std.proofs.lemmas.Str.{encode_ascii}
use Rattle.aplc_scalar.specs.declared.kind.FaultKind.{FaultKind}
use Rattle.aplc_scalar.specs.Scalar.{Given}
use Rattle.aplc_arr.specs.Arrays.{product, place}
use Rattle.aplc_cprof.specs.declared.syntax.Int.{Int}
use Rattle.aplc_cprof.specs.declared.syntax.Int.TheVariants as int
use Rattle.aplc_cprof.specs.declared.syntax.Buf.{Buf}
use Rattle.aplc_cprof.specs.declared.syntax.Buf.TheVariants as buf
use Rattle.aplc_cprof.specs.declared.syntax.Op.TheVariants as op
use Rattle.aplc_cprof.specs.declared.syntax.CExpr.{CExpr}
use Rattle.aplc_cprof.specs.declared.syntax.CExpr.TheVariants as expr
use Rattle.aplc_cprof.specs.declared.syntax.CStmt.{CStmt}
use Rattle.aplc_cprof.specs.declared.syntax.CStmt.TheVariants as stmt
use Rattle.aplc_cprof.specs.Blocks.{Blocks}
use Rattle.aplc_cprof.specs.WellFormed.{Scope, is_int, is_buf, is_expr, is_stmt, are_stmts}
use Rattle.aplc_cprof.specs.Machine.{State, Code, Is, read_int, or_unset, named_buf}
use Rattle.aplc_cprof.specs.Frames.{IsOld, AreOld, IsOldBuf, AreGiven, Around, Stays, Hold}
use Rattle.aplc_cprof.specs.Emitted.{counted_loop, loop_begun, LoopEnded, AreInts, AreBufs, IsFormed}
use Rattle.aplc_cprof.proofs.Forms.{is_PutChar, is_PutNum}
use Rattle.aplc_cprof.proofs.Values.{value_Lit}
use Rattle.aplc_cprof.proofs.Paths.{does_weaken}
use Rattle.aplc_cprof.proofs.Frames.{hold_append, read_stays, are_old_append, are_old_more, old_more}
use Rattle.aplc_cprof.proofs.Emitted.{both_true, fresh_declared, ints_append, ints_first, ints_last, bin_formed, var_formed, lit_formed, cell_formed, with_literal_formed, one_stmt, stmts_append, if_formed, if_else_formed, grown_then}
use Rattle.aplc_collect.specs.Elements.{Test, Steps, ReadsWithin, Computed, Failed, Yields, Emits}
use Rattle.aplc_collect.specs.ElementLaws.{value_is}
use Rattle.aplc_quad.specs.declared.printing.Columns.{Columns}
use Rattle.aplc_quad.specs.declared.printing.Columns.TheVariants.{Characters, Numbers, Justified}
use Rattle.aplc_quad.specs.Rows.{joined, justified_bytes, gap_before, row_bytes}
use Rattle.aplc_quad.specs.Printing.{later, is_digit, width_at, is_narrow, digit, number_stmt, element_stmt, gap_stmts, line_feed, with_code}
use Rattle.aplc_quad.specs.Printed.{Printed, NoFault, Puts, kind_of, bufs_of, AreOldColumns, Laid, Stands, Adds, CellPuts, row_steps, RowPuts, LinePuts}
use Rattle.aplc_quad.proofs.Puts.{puts_char, stays_printed, hold_printed, seen_printed, read_printed, puts_steps, puts_then, quiet_then, puts_loop}
use Rattle.aplc_quad.proofs.Prints.{gap_does, element_does}
use Rattle.aplc_quad.proofs.Builds.{with_code_names, code_grown, Just, code_adds, then_adds, loop_adds}

abbrev AreSame : Given → Given → Type 0
AreSame r q = r ≡ q

pub no_fault : (b : ℤ) (k : FaultKind) → AreSame (Ok b) (Err k) → ⊥
no_fault b k e = cc

-- ---- What stays while text is written

pub laid_printed : (columns : Columns) (n m : ℕ) (text : List ℕ) (s t : State) (j w : ℕ) → AreOldColumns m columns → Printed n m text s t → Laid columns s j w → Laid columns t j w
laid_printed Characters n m text s t j w old h laid = tt
laid_printed Numbers n m text s t j w old h laid = tt
laid_printed (Justified widths) n m text s t j w old h laid =
    record { buffer = laid.buffer; cells = laid.cells; named = same widths old ∙ laid.named; live = ap (λ (l : List (Option (List ℤ))). slice_get l laid.buffer) h.heap ∙ laid.live; cell = laid.cell }
  where
    same : (p : Buf) → IsOldBuf m p → named_buf p t ≡ named_buf p s
    same (buf.Local k) o = h.bufs k o
    same (buf.Global k) o = ap (λ (r : Around). r.global_bufs k) h.around

-- what the code of an element does
abbrev pub ElementRuns : Code → Test → Steps → ℕ → ℕ → List Int → Int → List CStmt → Type 0
ElementRuns c test steps n m at v code = (s : State) (is : List ℕ) (r : Given) → Hold s at is → test c.tables s is ≡ Some r → Yields c n m (steps c.tables s) code s v r

module _ (c : Code) (test : Test) (steps : Steps) (g : Scope) (reads : ReadsWithin g test steps) where
  -- what code stands for stays
  pub stands_printed : (n m : ℕ) (text : List ℕ) (s t : State) (before ns : List ℕ) (p k : ℕ) (item : ℕ → ℤ) → g.ints ≤ n → g.bufs ≤ m → Printed n m text s t → Stands test steps c.tables s before ns p k item → Stands test steps c.tables t before ns p k item
  stands_printed n m text s t before ns p k item le leb h stands =
      let seen = seen_printed g n m text s t le leb h in
      let as_many = reads.same_steps c.tables s t seen in
      let most = stands.takes in
      record { takes = omega (arith, as_many, most); items = λ is inside. reads.same c.tables s t seen (before ++ is) ∙ stands.items is inside }

  -- along one axis
  pub stands_along : (s : State) (before ns : List ℕ) (l i p k : ℕ) (item : ℕ → ℤ) → i < l → Stands test steps c.tables s before (l ∷ ns) p k item → Stands test steps c.tables s (before ++ i ∷ []) ns (p + i * product ns) k item
  stands_along s before ns l i p k item lt stands = record {
    takes = stands.takes;
    items = λ is inside.
        ap (λ at. test c.tables s at) (append_assoc before (i ∷ []) is) ∙ stands.items (i ∷ is) (lt, inside)
        ∙ ap (λ q. Some (Ok (item q))) (further (product ns) (place ns is));
  }
    where
      further : (size q : ℕ) → p + (i * size + q) ≡ p + i * size + q
      further size q = omega arith

  -- ---- One element

  pub cell_puts : (n m : ℕ) (at : List Int) (column v : Int) (columns : Columns) (em : List CStmt) → g.ints ≤ n → g.bufs ≤ m → AreOld n at → IsOld n column → AreOldColumns m columns → ElementRuns c test steps n m (at ++ column ∷ []) v em → CellPuts test steps at column columns c n m (gap_stmts columns column ++ (em ++ element_stmt columns column v ∷ []))
  cell_puts n m at column v columns em le leb old_at old old_columns runs s before j w k z held at_j most item laid fits =
      puts_steps c n m (2 + (k + 2)) (k + 4) (gap_stmts columns column ++ (em ++ element_stmt columns column v ∷ [])) s (gap ++ text) (omega arith)
      (puts_then c n m 2 (k + 2) (gap_stmts columns column) (em ++ element_stmt columns column v ∷ []) s gap text (gap_does c n m columns column j s at_j)
      (λ t h.
      let seen = seen_printed g n m gap s t le leb h in
      let as_many = reads.same_steps c.tables s t seen in
      let index : read_int column t ≡ Is (pos j) = read_printed n m gap s t column h old ∙ at_j in
      quiet_then c n m k 2 em (element_stmt columns column v ∷ []) t (Computed n m t v (Ok z)) text
      (does_weaken c (Stays n m t) (Stays n m t) (steps c.tables t) k em t (Computed n m t v (Ok z)) (Computed n m t v (Ok z)) (Failed n m t (Ok z)) NoFault (λ u q. q) (λ u q. q) (λ kind u d. no_fault z kind d.given) (omega (arith, as_many, most))
      (runs t (before ++ j ∷ []) (Ok z) (hold_append t at (column ∷ []) before (j ∷ []) (hold_printed n m gap s t at before h old_at held) (index, tt)) (reads.same c.tables s t seen (before ++ j ∷ []) ∙ item)))
      (λ u d. d.stays)
      (λ u d. on_value t u d index (laid_printed columns n m gap s t j w old_columns h laid))))
    where
      gap : List ℕ
      gap = gap_before (kind_of columns) j

      text : List ℕ
      text = justified_bytes (kind_of columns) w z

      on_value : (t u : State) → Computed n m t v (Ok z) u → read_int column t ≡ Is (pos j) → Laid columns t j w → Puts c n m 2 (element_stmt columns column v ∷ []) u text
      on_value t u d index laid_t =
          element_does c n m columns column v j w z u
          (read_stays n m t u column d.stays old ∙ index)
          (d.is ∙ ap Is (sym (value_is z d.value d.given)))
          (laid_printed columns n m [] t u j w old_columns (stays_printed n m t u d.stays) laid_t)
          fits

  -- ---- A row

  pub row_puts : (n m : ℕ) (at : List Int) (length : Int) (columns : Columns) (body : List CStmt) → g.ints ≤ n → g.bufs ≤ m → AreOld n at → IsOld n length → AreOldColumns m columns → CellPuts test steps at (int.Local n) columns c (n + 1) m body → RowPuts test steps at length columns c n m (counted_loop (int.Local n) length body)
  row_puts n m at length columns body le leb old_at old old_columns cell s before len p k ws item held is short stands laid fits =
      subst (λ q. Puts c n m (len * q + 2) (counted_loop (int.Local n) length body) s (joined piece len)) six
      (puts_loop c n m (k + 4) length len body s piece old short is
      (λ j t lt h index.
      let there = stands_printed n m (joined piece j) s t before (len ∷ []) p k item le leb h stands in
      cell t before j (ws j) k (item (p + j)) (hold_printed n m (joined piece j) s t at before h old_at held) (ap or_unset index) there.takes
      (there.items (j ∷ []) (lt, tt) ∙ ap (λ q. Some (Ok (item q))) (last j))
      (laid_printed columns n m (joined piece j) s t j (ws j) old_columns h (laid j lt)) (fits j lt)))
    where
      six : k + 4 + 2 ≡ k + 6
      six = omega arith

      piece : ℕ → List ℕ
      piece j = gap_before (kind_of columns) j ++ justified_bytes (kind_of columns) (ws j) (item (p + j))

      last : (j : ℕ) → p + (j * 1 + 0) ≡ p + j
      last j = omega arith

-- ---- Well formed

columns_declared : (sc : Scope) (widths : Buf) (p : List Buf) → AreBufs sc (widths ∷ p) → is_buf sc widths ≡ true
columns_declared sc widths p h = h.0

number_formed : (sc : Scope) (test wide : CExpr) (v : Int) (room : ℕ) → 2 ≤ room → is_int sc v ≡ true → ((r : ℕ) → 2 ≤ r → is_expr sc test (Some r) ≡ true) → ((r : ℕ) → 1 ≤ r → is_expr sc wide (Some r) ≡ true) → is_stmt sc (number_stmt test wide v) (Some room) ≡ true
number_formed sc test wide v room le iv it iw =
    if_else_formed sc 1 room test (stmt.PutChar (digit v) ∷ []) (stmt.PutNum (expr.Var v) wide ∷ []) (omega (arith, le)) (it room le)
    (λ r kr. one_stmt sc (Some r) (stmt.PutChar (digit v)) [] (is_PutChar sc (digit v) (Some r) ∙ bin_formed sc op.Add (expr.Lit (pos 48)) (expr.Var v) 0 r (omega (arith, kr)) (λ q kq. lit_formed sc 48 (omega arith) q) (λ q kq. var_formed sc v iv q)) refl)
    (λ r kr. one_stmt sc (Some r) (stmt.PutNum (expr.Var v) wide) [] (is_PutNum sc (expr.Var v) wide (Some r) ∙ both_true (is_expr sc (expr.Var v) (Some r)) (is_expr sc wide (Some r)) (var_formed sc v iv r) (iw r kr)) refl)

pub element_formed : (sc : Scope) (columns : Columns) (column v : Int) (room : ℕ) → 2 ≤ room → is_int sc column ≡ true → is_int sc v ≡ true → AreBufs sc (bufs_of columns) → is_stmt sc (element_stmt columns column v) (Some room) ≡ true
element_formed sc Characters column v room le ic iv bufs = is_PutChar sc (expr.Var v) (Some room) ∙ var_formed sc v iv room
element_formed sc Numbers column v room le ic iv bufs =
    number_formed sc (is_digit v) (expr.Lit (pos 0)) v room le iv
    (λ r kr. bin_formed sc op.And (expr.Bin op.GreaterEq (expr.Var v) (expr.Lit (pos 0))) (expr.Bin op.Less (expr.Var v) (expr.Lit (pos 10))) 1 r (omega (arith, kr))
    (λ q kq. with_literal_formed sc op.GreaterEq v 0 q kq (omega arith) iv)
    (λ q kq. with_literal_formed sc op.Less v 10 q kq (omega arith) iv))
    (λ r kr. lit_formed sc 0 (omega arith) r)
element_formed sc (Justified widths) column v room le ic iv bufs =
    number_formed sc (is_narrow widths column) (width_at widths column) v room le iv
    (λ r kr. bin_formed sc op.Less (width_at widths column) (expr.Lit (pos 2)) 1 r (omega (arith, kr)) there (λ q kq. lit_formed sc 2 (omega arith) q))
    there
  where
    there : (r : ℕ) → 1 ≤ r → is_expr sc (width_at widths column) (Some r) ≡ true
    there r kr = cell_formed sc widths (expr.Var column) 0 r (omega (arith, kr)) bufs.0 (λ q kq. var_formed sc column ic q)

blank_formed : (sc : Scope) (column : Int) (room : ℕ) → 1 ≤ room → is_int sc column ≡ true → are_stmts sc (gap_stmts Numbers column) (Some room) ≡ true
blank_formed sc column room le ic =
    one_stmt sc (Some room) (stmt.If (later column) (stmt.PutChar (expr.Lit (pos 32)) ∷ []) None) []
    (if_formed sc 0 room (later column) (stmt.PutChar (expr.Lit (pos 32)) ∷ []) (omega (arith, le)) (with_literal_formed sc op.Greater column 0 room le (omega arith) ic)
    (λ r kr. one_stmt sc (Some r) (stmt.PutChar (expr.Lit (pos 32))) [] (is_PutChar sc (expr.Lit (pos 32)) (Some r) ∙ lit_formed sc 32 (omega arith) r) refl)) refl

gap_formed : (sc : Scope) (columns : Columns) (column : Int) (room : ℕ) → 1 ≤ room → is_int sc column ≡ true → are_stmts sc (gap_stmts columns column) (Some room) ≡ true
gap_formed sc Characters column room le ic = refl
gap_formed sc Numbers column room le ic = blank_formed sc column room le ic
gap_formed sc (Justified widths) column room le ic = blank_formed sc column room le ic

-- ---- Built

pub cell_built : (test : Test) (steps : Steps) (g : Scope) (depth : ℕ) (b0 b1 b2 b3 : Blocks) (at at1 : List Int) (column v : Int) (columns : Columns) → ReadsWithin g test steps → AreGiven g b0 → AreOld b0.ints at → IsOld b0.ints column → AreOldColumns b0.bufs columns → b1 ≡ with_code (gap_stmts columns column) b0 → at1 ≡ at ++ column ∷ [] → Emits test steps g depth b1 b2 at1 v → b3 ≡ with_code (element_stmt columns column v ∷ []) b2 → Adds g (2 + depth) b0 b3 (at ++ column ∷ []) (bufs_of columns) (CellPuts test steps at column columns)
cell_built test steps g depth b0 b1 b2 b3 at at1 column v columns reads given old_at old old_columns e1 ea em e3 = record {
  code = gap_stmts columns column ++ (em.code ++ element_stmt columns column v ∷ []);
  grown =
      grown_then (gap_stmts columns column) (em.code ++ element_stmt columns column v ∷ []) b0 b1 b3 (code_grown (gap_stmts columns column) b0 b1 e1)
      (grown_then em.code (element_stmt columns column v ∷ []) b1 b2 b3 em.grown (code_grown (element_stmt columns column v ∷ []) b2 b3 e3));
  formed = formed_is;
  runs = λ c. cell_puts c test steps g reads b0.ints b0.bufs at column v columns em.code given.ints given.bufs old_at old old_columns (runs_is c);
}
  where
    names1 : (b1.ints ≡ b0.ints) × (b1.bufs ≡ b0.bufs)
    names1 = with_code_names (gap_stmts columns column) b0 b1 e1

    names3 : (b3.ints ≡ b2.ints) × (b3.bufs ≡ b2.bufs)
    names3 = with_code_names (element_stmt columns column v ∷ []) b2 b3 e3

    runs_is : (c : Code) → ElementRuns c test steps b0.ints b0.bufs (at ++ column ∷ []) v em.code
    runs_is c =
        subst (λ (l : List Int). ElementRuns c test steps b0.ints b0.bufs l v em.code) ea
        (subst (λ k. ElementRuns c test steps b0.ints k at1 v em.code) names1.1
        (subst (λ k. ElementRuns c test steps k b1.bufs at1 v em.code) names1.0 (em.runs c)))

    formed_is : IsFormed g (at ++ column ∷ []) (bufs_of columns) b3 (2 + depth) (gap_stmts columns column ++ (em.code ++ element_stmt columns column v ∷ []))
    formed_is sc room within are bufs more more_bufs le =
        let here = (ints_last sc at (column ∷ []) are).0 in
        let declared = fresh_declared sc b1.ints b2.ints v em.fresh (omega (arith, names3.0, more)) in
        stmts_append sc (Some room) (gap_stmts columns column) (em.code ++ element_stmt columns column v ∷ []) (gap_formed sc columns column room (omega (arith, le)) here)
        (stmts_append sc (Some room) em.code (element_stmt columns column v ∷ [])
        (em.formed sc room within (subst (λ (l : List Int). AreInts sc l) (sym ea) are) tt (omega (arith, names3.0, more)) (omega (arith, names3.1, more_bufs)) (omega (arith, le)))
        (one_stmt sc (Some room) (element_stmt columns column v) [] (element_formed sc columns column v room (omega (arith, le)) here declared bufs) refl))

pub row_built : (test : Test) (steps : Steps) (g : Scope) (depth : ℕ) (b0 b1 b2 b3 : Blocks) (at : List Int) (length i : Int) (columns : Columns) → ReadsWithin g test steps → AreGiven g b0 → AreOld b0.ints at → IsOld b0.ints length → AreOldColumns b0.bufs columns → i ≡ int.Local b0.ints → b1 ≡ loop_begun b0 → Adds g (2 + depth) b1 b2 (at ++ i ∷ []) (bufs_of columns) (CellPuts test steps at i columns) → LoopEnded i length b2 b3 → Adds g (3 + depth) b0 b3 (at ++ length ∷ []) (bufs_of columns) (RowPuts test steps at length columns)
row_built test steps g depth b0 b1 b2 b3 at length i columns reads given old_at old old_columns ei e1 cell ended =
    loop_adds g (2 + depth) (3 + depth) b0 b1 b2 b3 i length (at ++ i ∷ []) (at ++ length ∷ []) (bufs_of columns) (CellPuts test steps at i columns) (RowPuts test steps at length columns) ei e1 cell ended (omega arith) (omega arith)
    (λ sc counter are. (ints_append sc at (i ∷ []) (ints_first sc at (length ∷ []) are) (counter, tt), (ints_last sc at (length ∷ []) are).0))
    (λ c code h. row_puts c test steps g reads b0.ints b0.bufs at length columns code given.ints given.bufs old_at old old_columns (subst (λ (x : Int). CellPuts test steps at x columns c (b0.ints + 1) b0.bufs code) ei h))

-- ---- The end of a line

pub feed_puts : (c : Code) (n m : ℕ) (s : State) → Puts c n m 1 (line_feed ∷ []) s (10 ∷ [])
feed_puts c n m s = subst (λ b. Puts c n m 1 (line_feed ∷ []) s b) (encode_ascii 10 (omega arith)) (puts_char c n m (expr.Lit (pos 10)) 10 s (value_Lit (pos 10) c.tables s) refl)

pub feed_is_formed : (sc : Scope) (room : ℕ) → are_stmts sc (line_feed ∷ []) (Some room) ≡ true
feed_is_formed sc room = one_stmt sc (Some room) line_feed [] (is_PutChar sc (expr.Lit (pos 10)) (Some room) ∙ lit_formed sc 10 (omega arith) room) refl

pub feed_formed : (g : Scope) (xs : List Int) (ps : List Buf) (new : Blocks) (depth : ℕ) → IsFormed g xs ps new depth (line_feed ∷ [])
feed_formed g xs ps new depth sc room within are bufs more more_bufs le = feed_is_formed sc room

pub line_built : (test : Test) (steps : Steps) (g : Scope) (depth : ℕ) (b0 b1 b2 : Blocks) (at : List Int) (length : Int) (columns : Columns) → Adds g (3 + depth) b0 b1 (at ++ length ∷ []) (bufs_of columns) (RowPuts test steps at length columns) → b2 ≡ with_code (line_feed ∷ []) b1 → Adds g (3 + depth) b0 b2 (at ++ length ∷ []) (bufs_of columns) (LinePuts test steps at length columns)
line_built test steps g depth b0 b1 b2 at length columns row e2 =
    then_adds g (3 + depth) b0 b1 b2 (at ++ length ∷ []) (bufs_of columns) (RowPuts test steps at length columns) (Just (line_feed ∷ [])) (LinePuts test steps at length columns) row
    (code_adds (line_feed ∷ []) g (3 + depth) b1 b2 (at ++ length ∷ []) (bufs_of columns) e2 (feed_formed g (at ++ length ∷ []) (bufs_of columns) b2 (3 + depth)))
    (λ c x y le leb runs just s before len p k ws item held is short stands laid fits.
    subst (λ (l : List CStmt). Puts c b0.ints b0.bufs (row_steps len k + 1) (x ++ l) s (row_bytes (kind_of columns) ws (λ j. item (p + j)) len ++ 10 ∷ [])) (sym just)
    (puts_then c b0.ints b0.bufs (row_steps len k) 1 x (line_feed ∷ []) s (row_bytes (kind_of columns) ws (λ j. item (p + j)) len) (10 ∷ []) (runs s before len p k ws item held is short stands laid fits) (λ t h. feed_puts c b0.ints b0.bufs t)))

-- ---- What a call needs behind another

-- the multi-index of an element is old
pub places_old : (these : List CStmt) (a b : Blocks) (xs ys : List Int) (column : Int) → b ≡ with_code these a → ys ≡ xs ++ column ∷ [] → AreOld a.ints xs → IsOld a.ints column → AreOld b.ints ys
places_old these a b xs ys column e ey h k =
    let n = with_code_names these a b e in
    subst (λ (l : List Int). AreOld b.ints l) (sym ey) (are_old_append b.ints xs (column ∷ []) (are_old_more a.ints b.ints xs (omega (arith, n.0)) h) (old_more a.ints b.ints column (omega (arith, n.0)) k, tt))
