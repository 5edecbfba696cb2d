-- What the code of an array prints, by its kind and rank, and how it is built.
use Rattle.std.proofs.Common.{◌≡◌, ℕ, suc, ◌+◌, ◌-◌, ◌*◌, ◌<◌, ◌≤◌, List, [], ◌∷◌, ◌++◌, inl, inr, length, refl, sym, ap, ◌∙◌, subst, arith, append-nil, true}
use Rattle.std.specs.Prelude.{Some, None, pos, ◌^◌, slice_index_or, sum_by}
use Rattle.aplc_scalar.specs.declared.kind.Kind.TheVariants.{Num, Char}
use Rattle.aplc_scalar.specs.declared.kind.Kind.{Kind}
use Rattle.aplc_scalar.specs.Scalar.{in_range}
use Rattle.aplc_arr.specs.Arrays.{Array, IsArray, product, rank, is_cell}
use Rattle.aplc_arr.specs.Display.{shown}
use Rattle.aplc_cprof.specs.declared.syntax.Int.{Int}
use Rattle.aplc_cprof.specs.declared.syntax.Int.TheVariants as int
use Rattle.aplc_cprof.specs.declared.syntax.Buf.{Buf}
use Rattle.aplc_cprof.specs.declared.syntax.Buf.TheVariants as buf
use Rattle.aplc_cprof.specs.declared.syntax.CExpr.TheVariants as expr
use Rattle.aplc_cprof.specs.declared.syntax.CStmt.{CStmt}
use Rattle.aplc_cprof.specs.declared.syntax.CStmt.TheVariants as stmt
use Rattle.aplc_cprof.specs.Blocks.{Blocks}
use Rattle.aplc_cprof.specs.WellFormed.{Scope, is_buf, is_expr}
use Rattle.aplc_cprof.specs.Machine.{State, Code, Todo, settled, cells_of}
use Rattle.aplc_cprof.specs.Frames.{AreOld, AreGiven, Stays, Hold}
use Rattle.aplc_cprof.specs.Emitted.{IsFormed}
use Rattle.aplc_cprof.proofs.Forms.{is_Cells, is_Free}
use Rattle.aplc_cprof.proofs.Paths.{Does, does_weaken, does_if, does_else, does_none}
use Rattle.aplc_cprof.proofs.Frames.{seen_stays, hold_stays}
use Rattle.aplc_cprof.proofs.Emitted.{both_true, is_below, var_formed, stmts_append, one_stmt, grown_then}
use Rattle.aplc_collect.specs.Elements.{Test, Steps, ReadsWithin}
use Rattle.aplc_quad.specs.declared.printing.Columns.TheVariants.{Justified}
use Rattle.aplc_quad.specs.Rows.{nest_bytes, cell_of}
use Rattle.aplc_quad.specs.Printed.{Printing, Printed, with_output, NoFault, AreShort, last_length, nest_steps, PlanesPut, Puts, Adds}
use Rattle.aplc_quad.specs.Ranges.{rows_in_all, WidthsRun}
use Rattle.aplc_quad.specs.Shows.{some_element, Showing, Shown, matrix_steps, show_steps, LineShows, CharactersShow, MatrixShows, NumbersShow, Shows}
use Rattle.aplc_quad.proofs.Pieces.{times_more}
use Rattle.aplc_quad.proofs.Puts.{puts_less}
use Rattle.aplc_quad.proofs.WidthLoops.{last_declared}
use Rattle.aplc_quad.proofs.Nests.{some_factor}
use Rattle.aplc_quad.proofs.Whole.{nothing_shown}
use Rattle.aplc_quad.proofs.LineShows.{short_shape, stands_by_places, cell_is}
use Rattle.aplc_quad.proofs.CodeNumbers.{rows_times, column_items, wide_fits, wide_shown}
use Rattle.aplc_quad.proofs.CodePlanes.{Tells, some_value}
use Rattle.aplc_quad.proofs.CodeMatrices.{matrix_does}
use Rattle.aplc_quad.proofs.ShowSteps.{line_within, matrix_within}

-- ---- States

-- nothing but output
showing_output : (n m size : ℕ) (s t : State) → Printing n m s t → Showing n m size s t
showing_output n m size s t h = record {
  out = h.0;
  more = [];
  stays = record { ints = h.1.ints; bufs = h.1.bufs; around = h.1.around; heap = h.1.heap ∙ sym (append-nil s.heap) };
  held_more = omega arith;
}

shown_output : (n m : ℕ) (text : List ℕ) (s t : State) → Printed n m text s t → Shown n m text s t
shown_output n m text s t h = record {
  freed = 0;
  stays = record { ints = h.ints; bufs = h.bufs; around = h.around; heap = h.heap ∙ sym (append-nil s.heap) };
  as_many = ap (sum_by cells_of) h.heap;
}

printed_none : (n m : ℕ) (s t : State) → Stays n m s t → Printed n m [] s t
printed_none n m s t h = subst (λ l. Stays n m (with_output l s) t) (sym (append-nil s.output)) record { ints = h.ints; bufs = h.bufs; around = h.around; heap = h.heap }

-- code that prints, and needs no buffer
pub puts_shows : (c : Code) (n m size j k : ℕ) (code : List CStmt) (s : State) (text : List ℕ) → j ≤ k → Puts c n m j code s text → Does c (Showing n m size s) k code s (Shown n m text s) NoFault
puts_shows c n m size j k code s text le d =
    does_weaken c (Printing n m s) (Showing n m size s) j k code s (Printed n m text s) (Shown n m text s) NoFault NoFault
    (λ u q. showing_output n m size s u q) (λ u q. shown_output n m text s u q) (λ kind u q. q) le d

-- ---- Numbers

short_last : (ns : List ℕ) → AreShort ns → last_length ns < 2 ^ 31
short_last [] h = omega arith
short_last (n ∷ []) h = h.0
short_last (m ∷ n ∷ ns) h = short_last (n ∷ ns) h.1

numbers_fit : (a : Array) (j q : ℕ) → IsArray a → a.kind ≡ Num → 2 ≤ rank a → j < last_length a.shape → q < rows_in_all a.shape → in_range (cell_of a (j + q * last_length a.shape)) ≡ true
numbers_fit a j q array ek ranked lj lq =
    let size = last_length a.shape in
    let split = rows_times a.shape (omega (arith, ranked)) in
    let before = times_more q (rows_in_all a.shape) size lq in
    subst (λ k. is_cell k (cell_of a (j + q * size)) ≡ true) ek (cell_is a (j + q * size) array (omega (arith, split, before, lj)))

module _ (c : Code) (test : Test) (steps : Steps) (g : Scope) (reads : ReadsWithin g test steps) where
  pub matrix_shows : (n n2 m : ℕ) (lengths : List Int) (widths_are planes : List CStmt) → 2 ≤ length lengths → g.ints ≤ n → g.bufs ≤ m → n ≤ n2 → AreOld n lengths → WidthsRun test steps g lengths (buf.Local m) c n (m + 1) widths_are → PlanesPut test steps lengths (Justified (buf.Local m)) c n2 (m + 1) planes
      → MatrixShows test steps g lengths c n m (stmt.Cells (buf.Local m) (expr.Var (slice_index_or lengths (length lengths - 1) (int.Local 0))) ∷ (widths_are ++ (planes ++ stmt.Free (buf.Local m) ∷ [])))
  matrix_shows n n2 m lengths widths_are planes ranked le leb more old widths_run planes_put s a k array ek two some held stands apart =
      let size = last_length a.shape in
      let rows = rows_in_all a.shape in
      let there = stands_by_places test steps c.tables s a k array stands in
      let split = rows_times a.shape (omega (arith, two)) in
      let fit : (j q : ℕ) → j < size → q < rows → in_range (cell_of a (j + q * size)) ≡ true = λ j q lj lq. numbers_fit a j q array ek two lj lq in
      matrix_does c test steps g reads n n2 m lengths widths_are planes (omega (arith, ranked)) le leb more old widths_run planes_put s a.shape k (cell_of a) (λ j q. cell_of a (j + q * size)) (shown a) some
      (some_factor rows size (subst (λ p. 0 < p) split some)).0 (short_last a.shape (short_shape a array)) held (short_shape a array) there apart
      (λ j lj. column_items test c.tables s [] a.shape j 0 0 size (cell_of a) refl lj (omega arith) (λ is inside. there.items is inside)) fit
      (wide_fits (buf.Local m) (cell_of a) a.shape 0 0 size rows refl (omega arith) (omega arith) fit) (wide_shown a array ek two some)

  pub numbers_show : (n m : ℕ) (lengths : List Int) (matrix : List CStmt) → g.ints ≤ n → g.bufs ≤ m → AreOld n lengths → MatrixShows test steps g lengths c n m matrix → NumbersShow test steps g lengths c n m (stmt.If (some_element lengths) matrix None ∷ [])
  numbers_show n m lengths matrix le leb old runs s a k array ek ranked held stands apart = by (some_value c.tables s lengths a.shape held)
    where
      size : ℕ
      size = last_length a.shape

      code : List CStmt
      code = stmt.If (some_element lengths) matrix None ∷ []

      same : (todo : Todo) → Stays n m s (settled (record s { todo = todo }))
      same todo = record { ints = λ x lt. refl; bufs = λ p lt. refl; around = refl; heap = refl }

      still : (todo : Todo) → Showing n m size s (settled (record s { todo = todo }))
      still todo = showing_output n m size s (settled (record s { todo = todo })) (s.output, same todo)

      by : Tells (some_element lengths) c.tables s a.shape → Does c (Showing n m size s) (show_steps a.shape k) code s (Shown n m (shown a) s) NoFault
      by (inr none) =
          does_weaken c (Showing n m size s) (Showing n m size s) 1 (show_steps a.shape k) code s (Shown n m (shown a) s) (Shown n m (shown a) s) NoFault NoFault (λ u q. q) (λ u q. q) (λ kind u q. q) (omega arith)
          (does_else c (Showing n m size s) 0 (some_element lengths) matrix None s (Shown n m (shown a) s) NoFault (pos 0) none.0 refl still
          (does_none c (Showing n m size s) (settled s) (Shown n m (shown a) s) NoFault (λ todo.
          subst (λ l. Shown n m l s (settled (record s { todo = todo }))) (nothing_shown a array ranked none.1)
          (shown_output n m [] s (settled (record s { todo = todo })) (printed_none n m s (settled (record s { todo = todo })) (same todo))))))
      by (inl some) =
          let there = same s.todo in
          let seen = seen_stays g n m s (settled s) le leb there in
          let as_many = reads.same_steps c.tables s (settled s) seen in
          let most = stands.takes in
          does_weaken c (Showing n m size s) (Showing n m size s) (matrix_steps a.shape k + 1) (show_steps a.shape k) code s (Shown n m (shown a) s) (Shown n m (shown a) s) NoFault NoFault (λ u q. q) (λ u q. q) (λ kind u q. q) (matrix_within a.shape k ranked some.1)
          (does_if c (Showing n m size s) (matrix_steps a.shape k) (some_element lengths) matrix None s (Shown n m (shown a) s) NoFault (pos 1) some.0 refl still
          (does_weaken c (Showing n m size (settled s)) (Showing n m size s) (matrix_steps a.shape k) (matrix_steps a.shape k) matrix (settled s) (Shown n m (shown a) (settled s)) (Shown n m (shown a) s) NoFault NoFault
          (λ u q. record { out = q.out; more = q.more; stays = record { ints = q.stays.ints; bufs = q.stays.bufs; around = q.stays.around; heap = q.stays.heap }; held_more = q.held_more })
          (λ u q. record { freed = q.freed; stays = record { ints = q.stays.ints; bufs = q.stays.bufs; around = q.stays.around; heap = q.stays.heap }; as_many = q.as_many })
          (λ kind u q. q) (omega arith)
          (runs (settled s) a k array ek ranked some.1 (hold_stays n m s (settled s) lengths a.shape there old held)
          record { takes = omega (arith, as_many, most); items = λ is inside. reads.same c.tables s (settled s) seen is ∙ stands.items is inside }
          record { bufs = apart.bufs; global_bufs = apart.global_bufs })))

-- ---- Built

pub matrix_built : (test : Test) (steps : Steps) (g : Scope) (depth : ℕ) (b0 b1 b2 b3 b4 b5 : Blocks) (lengths : List Int) (last : Int) (widths : Buf) → 2 ≤ length lengths → ReadsWithin g test steps → AreGiven g b0 → AreOld b0.ints lengths → last ≡ slice_index_or lengths (length lengths - 1) (int.Local 0) → widths ≡ buf.Local b0.bufs → b1 ≡ record b0 { bufs = b0.bufs + 1 } → b2 ≡ record b1 { inner = b1.inner ++ stmt.Cells widths (expr.Var last) ∷ [] }
    → Adds g (1 + depth + length lengths) b2 b3 lengths (widths ∷ []) (WidthsRun test steps g lengths widths) → Adds g (2 + depth + length lengths) b3 b4 lengths (widths ∷ []) (PlanesPut test steps lengths (Justified widths)) → b5 ≡ record b4 { inner = b4.inner ++ stmt.Free widths ∷ [] } → Adds g (2 + depth + length lengths) b0 b5 lengths [] (MatrixShows test steps g lengths)
matrix_built test steps g depth b0 b1 b2 b3 b4 b5 lengths last widths ranked reads given old el ew e1 e2 wide planes e5 = record {
  code = made ∷ (wide.code ++ (planes.code ++ freed ∷ []));
  grown =
      grown_then (made ∷ []) (wide.code ++ (planes.code ++ freed ∷ [])) b0 b2 b5 record { inner = made_there; outer = ap (λ (b : Blocks). b.outer) e2 ∙ ap (λ (b : Blocks). b.outer) e1; ints = omega (arith, ints2); bufs = omega (arith, bufs2) }
      (grown_then wide.code (planes.code ++ freed ∷ []) b2 b3 b5 wide.grown
      (grown_then planes.code (freed ∷ []) b3 b4 b5 planes.grown record { inner = ap (λ (b : Blocks). b.inner) e5 ∙ ap (λ (p : Buf). b4.inner ++ stmt.Free p ∷ []) ew; outer = ap (λ (b : Blocks). b.outer) e5; ints = omega (arith, ints5); bufs = omega (arith, bufs5) }));
  formed = formed_is;
  runs = λ c. matrix_shows c test steps g reads n b3.ints m lengths wide.code planes.code ranked given.ints given.bufs (omega (arith, ints2, wide.grown.ints)) old (wide_is c) (planes_are c);
}
  where
    n : ℕ
    n = b0.ints

    m : ℕ
    m = b0.bufs

    behind : Int
    behind = slice_index_or lengths (length lengths - 1) (int.Local 0)

    made : CStmt
    made = stmt.Cells (buf.Local m) (expr.Var behind)

    freed : CStmt
    freed = stmt.Free (buf.Local m)

    ints2 : b2.ints ≡ n
    ints2 = ap (λ (b : Blocks). b.ints) e2 ∙ ap (λ (b : Blocks). b.ints) e1

    bufs2 : b2.bufs ≡ m + 1
    bufs2 = ap (λ (b : Blocks). b.bufs) e2 ∙ ap (λ (b : Blocks). b.bufs) e1

    ints5 : b5.ints ≡ b4.ints
    ints5 = ap (λ (b : Blocks). b.ints) e5

    bufs5 : b5.bufs ≡ b4.bufs
    bufs5 = ap (λ (b : Blocks). b.bufs) e5

    made_there : b2.inner ≡ b0.inner ++ made ∷ []
    made_there =
        ap (λ (b : Blocks). b.inner) e2
        ∙ ap (λ (b : Blocks). b.inner ++ stmt.Cells widths (expr.Var last) ∷ []) e1
        ∙ ap (λ (p : Buf). b0.inner ++ stmt.Cells p (expr.Var last) ∷ []) ew
        ∙ ap (λ (x : Int). b0.inner ++ stmt.Cells (buf.Local m) (expr.Var x) ∷ []) el

    wide_is : (c : Code) → WidthsRun test steps g lengths (buf.Local m) c n (m + 1) wide.code
    wide_is c =
        subst (λ (p : Buf). WidthsRun test steps g lengths p c n (m + 1) wide.code) ew
        (subst (λ k. WidthsRun test steps g lengths widths c n k wide.code) bufs2
        (subst (λ k. WidthsRun test steps g lengths widths c k b2.bufs wide.code) ints2 (wide.runs c)))

    planes_are : (c : Code) → PlanesPut test steps lengths (Justified (buf.Local m)) c b3.ints (m + 1) planes.code
    planes_are c s ns k ws item some held short stands laid fits =
        puts_less c b3.ints b3.ints (m + 1) b3.bufs (1 + nest_steps ns k) (1 + nest_steps ns k) planes.code s (nest_bytes Num ws item ns 0) (omega arith) (omega (arith, bufs2, wide.grown.bufs)) (omega arith)
        (subst (λ (p : Buf). PlanesPut test steps lengths (Justified p) c b3.ints b3.bufs planes.code) ew (planes.runs c) s ns k ws item some held short stands laid fits)

    formed_is : IsFormed g lengths [] b5 (2 + depth + length lengths) (made ∷ (wide.code ++ (planes.code ++ freed ∷ [])))
    formed_is sc room within are bufs more more_bufs le =
        let here : is_buf sc (buf.Local m) ≡ true = is_below m sc.bufs (omega (arith, bufs2, wide.grown.bufs, planes.grown.bufs, bufs5, more_bufs)) in
        let named : is_buf sc widths ≡ true = ap (is_buf sc) ew ∙ here in
        one_stmt sc (Some room) made (wide.code ++ (planes.code ++ freed ∷ []))
        (is_Cells sc (buf.Local m) (expr.Var behind) (Some room) ∙ both_true (is_buf sc (buf.Local m)) (is_expr sc (expr.Var behind) (Some room)) here (var_formed sc behind (last_declared sc lengths (omega (arith, ranked)) are) room))
        (stmts_append sc (Some room) wide.code (planes.code ++ freed ∷ [])
        (wide.formed sc room within are (named, tt) (omega (arith, planes.grown.ints, ints5, more)) (omega (arith, planes.grown.bufs, bufs5, more_bufs)) (omega (arith, le)))
        (stmts_append sc (Some room) planes.code (freed ∷ [])
        (planes.formed sc room within are (named, tt) (omega (arith, ints5, more)) (omega (arith, bufs5, more_bufs)) le)
        (one_stmt sc (Some room) freed [] (is_Free sc (buf.Local m) (Some room) ∙ here) refl)))

-- code that stands for the same elements prints the same planes
pub planes_same : (test test' : Test) (steps steps' : Steps) (g g' : Scope) (depth depth' : ℕ) (b0 b1 : Blocks) (lengths : List Int) (widths : Buf) → (test' ≡ test) × (steps' ≡ steps) × (g' ≡ g) × (depth' ≡ depth) → Adds g' (2 + depth' + length lengths) b0 b1 lengths (widths ∷ []) (PlanesPut test' steps' lengths (Justified widths)) → Adds g (2 + depth + length lengths) b0 b1 lengths (widths ∷ []) (PlanesPut test steps lengths (Justified widths))
planes_same test test' steps steps' g g' depth depth' b0 b1 lengths widths same a =
    subst (λ (t : Test). Adds g (2 + depth + length lengths) b0 b1 lengths (widths ∷ []) (PlanesPut t steps lengths (Justified widths))) same.0
    (subst (λ (s : Steps). Adds g (2 + depth + length lengths) b0 b1 lengths (widths ∷ []) (PlanesPut test' s lengths (Justified widths))) same.1
    (subst (λ (h : Scope). Adds h (2 + depth + length lengths) b0 b1 lengths (widths ∷ []) (PlanesPut test' steps' lengths (Justified widths))) same.2
    (subst (λ d. Adds g' (2 + d + length lengths) b0 b1 lengths (widths ∷ []) (PlanesPut test' steps' lengths (Justified widths))) same.3 a)))

-- ---- By kind and rank

hold_length : (s : State) (xs : List Int) (ns : List ℕ) → Hold s xs ns → length xs ≡ length ns
hold_length s [] [] h = refl
hold_length s [] (n ∷ ns) h = absurd h
hold_length s (x ∷ xs) [] h = absurd h
hold_length s (x ∷ xs) (n ∷ ns) h = ap suc (hold_length s xs ns h.1)

-- a scalar or a vector
pub line_is : (test : Test) (steps : Steps) (g : Scope) (depth : ℕ) (b0 b1 : Blocks) (kind : Kind) (lengths : List Int) → Adds g (3 + depth) b0 b1 lengths [] (LineShows test steps lengths kind) → Shows test steps g depth b0 b1 kind lengths
line_is test steps g depth b0 b1 kind lengths a = record {
  code = a.code;
  grown = a.grown;
  formed = λ sc room within are bufs more more_bufs le. a.formed sc room within are bufs more more_bufs (omega (arith, le));
  runs = λ c s x k array ek held stands apart. puts_shows c b0.ints b0.bufs (last_length x.shape) (product x.shape * (k + 6) + 3) (show_steps x.shape k) a.code s (shown x) (line_within x.shape k) (a.runs c s x k array ek held stands);
}

pub characters_are : (test : Test) (steps : Steps) (g : Scope) (depth : ℕ) (b0 b1 : Blocks) (kind : Kind) (lengths : List Int) → kind ≡ Char → 2 ≤ length lengths → Adds g (3 + depth + length lengths) b0 b1 lengths [] (CharactersShow test steps lengths) → Shows test steps g depth b0 b1 kind lengths
characters_are test steps g depth b0 b1 kind lengths e ranked a = record {
  code = a.code;
  grown = a.grown;
  formed = a.formed;
  runs = λ c s x k array ek held stands apart.
      let many = hold_length s lengths x.shape held in
      puts_shows c b0.ints b0.bufs (last_length x.shape) (show_steps x.shape k) (show_steps x.shape k) a.code s (shown x) (omega arith) (a.runs c s x k array (ek ∙ e) (omega (arith, many, ranked)) held stands);
}

pub numbers_are : (test : Test) (steps : Steps) (g : Scope) (depth : ℕ) (b0 b1 : Blocks) (kind : Kind) (lengths : List Int) → kind ≡ Num → 2 ≤ length lengths → Adds g (3 + depth + length lengths) b0 b1 lengths [] (NumbersShow test steps g lengths) → Shows test steps g depth b0 b1 kind lengths
numbers_are test steps g depth b0 b1 kind lengths e ranked a = record {
  code = a.code;
  grown = a.grown;
  formed = a.formed;
  runs = λ c s x k array ek held stands apart. let many = hold_length s lengths x.shape held in a.runs c s x k array (ek ∙ e) (omega (arith, many, ranked)) held stands apart;
}
