-- The widths of all columns, and how their code is built.
use Rattle.std.proofs.Common.{◌≡◌, ℕ, suc, ◌+◌, ◌-◌, ◌*◌, ◌<◌, ◌≤◌, List, [], ◌∷◌, ◌++◌, length, refl, sym, ap, ◌∙◌, subst, arith, ℤ, true, ⊎_elim}
use Rattle.std.specs.Prelude.{Option, Some, pos, slice_get, slice_set, slice_index_or}
use Rattle.std.proofs.lemmas.List.{length-set}
use Rattle.std.proofs.lemmas.Bool.{cases_lt}
use Rattle.aplc_scalar.specs.declared.kind.Kind.TheVariants.{Num}
use Rattle.aplc_cprof.specs.declared.syntax.Int.{Int}
use Rattle.aplc_cprof.specs.declared.syntax.Int.TheVariants as int
use Rattle.aplc_cprof.specs.declared.syntax.Buf.{Buf}
use Rattle.aplc_cprof.specs.declared.syntax.Buf.TheVariants as buf
use Rattle.aplc_cprof.specs.declared.syntax.CExpr.TheVariants as expr
use Rattle.aplc_cprof.specs.declared.syntax.CStmt.{CStmt}
use Rattle.aplc_cprof.specs.declared.syntax.CStmt.TheVariants as stmt
use Rattle.aplc_cprof.specs.Blocks.{Blocks}
use Rattle.aplc_cprof.specs.WellFormed.{Scope, is_int, is_expr}
use Rattle.aplc_cprof.specs.Machine.{State, Code, Todo, Is, read_int, or_unset, named_buf}
use Rattle.aplc_cprof.specs.Frames.{IsOld, AreOld, IsOldBuf, AreGiven, Stays, with_buffer, Hold}
use Rattle.aplc_cprof.specs.Emitted.{counted_loop, loop_begun, LoopEnded, AreInts, IsFormed}
use Rattle.aplc_cprof.proofs.Forms.{is_Width}
use Rattle.aplc_cprof.proofs.Paths.{Does, does_weaken}
use Rattle.aplc_cprof.proofs.Frames.{after_set, put_at, set_same, got_set, got_other, stays_none, stays_less, stays_set, stays_settled, read_stays, hold_stays, named_around, seen_stays, seen_apart, seen_then}
use Rattle.aplc_cprof.proofs.Emitted.{is_below, both_true, var_formed, lit_formed, one_stmt, stmts_append, set_formed, set_cell_formed, grown_then}
use Rattle.aplc_cprof.proofs.Counting.{does_counted}
use Rattle.aplc_collect.specs.Elements.{Test, Steps, ReadsWithin}
use Rattle.aplc_quad.specs.Rows.{column_width}
use Rattle.aplc_quad.specs.Printed.{NoFault, last_length, Adds}
use Rattle.aplc_quad.specs.Ranges.{set_if_less, zero_stmts, width_stmts, with_widths, IsRange, IsApart, AreApart, rows_in_all, RangeRuns, Measuring, column_steps, ColumnRuns, Measured, WidthsRun}
use Rattle.aplc_quad.proofs.Builds.{loop_adds}
use Rattle.aplc_quad.proofs.RangeNests.{items_seen, set_if_less_formed}
use Rattle.aplc_quad.proofs.ColumnWidths.{set_there, cells_then, column_does}

-- ---- Other cells

read_buffer : (x : Int) (b : ℕ) (cells : List ℤ) (s : State) → read_int x (with_buffer b cells s) ≡ read_int x s
read_buffer (int.Local k) b cells s = refl
read_buffer (int.Global k) b cells s = refl

named_buffer : (p : Buf) (b : ℕ) (cells : List ℤ) (s : State) → named_buf p (with_buffer b cells s) ≡ named_buf p s
named_buffer (buf.Local k) b cells s = refl
named_buffer (buf.Global k) b cells s = refl

hold_buffer : (b : ℕ) (cells : List ℤ) (s : State) (xs : List Int) (is : List ℕ) → Hold s xs is → Hold (with_buffer b cells s) xs is
hold_buffer b cells s [] [] h = h
hold_buffer b cells s [] (i ∷ is) h = h
hold_buffer b cells s (x ∷ xs) [] h = h
hold_buffer b cells s (x ∷ xs) (i ∷ is) h = (read_buffer x b cells s ∙ h.0, hold_buffer b cells s xs is h.1)

-- the last variable holds the last length
pub last_held : (s : State) (xs : List Int) (ns : List ℕ) → 1 ≤ length xs → Hold s xs ns → read_int (slice_index_or xs (length xs - 1) (int.Local 0)) s ≡ Is (pos (last_length ns))
last_held s [] ns some h = absurd (omega (arith, some))
last_held s (x ∷ []) [] some h = absurd h
last_held s (x ∷ []) (n ∷ []) some h = h.0
last_held s (x ∷ []) (n ∷ w ∷ ns) some h = absurd h.1
last_held s (x ∷ y ∷ xs) [] some h = absurd h
last_held s (x ∷ y ∷ xs) (n ∷ []) some h = absurd h.1
last_held s (x ∷ y ∷ xs) (n ∷ w ∷ ns) some h =
    let e : length (x ∷ y ∷ xs) - 1 ≡ suc (length (y ∷ xs) - 1) = omega arith in
    ap (λ i. read_int (slice_index_or (x ∷ y ∷ xs) i (int.Local 0)) s) e ∙ last_held s (y ∷ xs) (w ∷ ns) (omega arith) h.1

pub last_old : (n : ℕ) (xs : List Int) → 1 ≤ length xs → AreOld n xs → IsOld n (slice_index_or xs (length xs - 1) (int.Local 0))
last_old n [] some h = absurd (omega (arith, some))
last_old n (x ∷ []) some h = h.0
last_old n (x ∷ y ∷ xs) some h =
    let e : length (x ∷ y ∷ xs) - 1 ≡ suc (length (y ∷ xs) - 1) = omega arith in
    subst (λ i. IsOld n (slice_index_or (x ∷ y ∷ xs) i (int.Local 0))) (sym e) (last_old n (y ∷ xs) (omega arith) h.1)

pub last_declared : (sc : Scope) (xs : List Int) → 1 ≤ length xs → AreInts sc xs → is_int sc (slice_index_or xs (length xs - 1) (int.Local 0)) ≡ true
last_declared sc [] some h = absurd (omega (arith, some))
last_declared sc (x ∷ []) some h = h.0
last_declared sc (x ∷ y ∷ xs) some h =
    let e : length (x ∷ y ∷ xs) - 1 ≡ suc (length (y ∷ xs) - 1) = omega arith in
    ap (λ i. is_int sc (slice_index_or (x ∷ y ∷ xs) i (int.Local 0))) e ∙ last_declared sc (y ∷ xs) (omega arith) h.1

module _ (c : Code) (test : Test) (steps : Steps) (g : Scope) (reads : ReadsWithin g test steps) where
  -- the columns before j have their widths
  record AtColumn (n m b size : ℕ) (wide : ℕ → ℕ) (s : State) (i j : ℕ) (t : State) : Type 0 where
    pub measured : Measured n m b size wide s j t
    pub index : t.ints n ≡ Some (pos i)

  pub widths_do : (n m : ℕ) (lengths : List Int) (widths : Buf) (body : List CStmt) → 1 ≤ length lengths → g.ints ≤ n → g.bufs ≤ m → AreOld n lengths → IsOldBuf m widths → ColumnRuns test steps lengths (int.Local n) widths c (n + 1) m body → WidthsRun test steps g lengths widths c n m (counted_loop (int.Local n) (slice_index_or lengths (length lengths - 1) (int.Local 0)) body)
  widths_do n m lengths widths body ranked le leb old old_buf column s ns b k cells item held short some small named live sized apart most items range =
      does_weaken c Q Q (size * (column_steps ns k + 2) + 2) (size * (column_steps ns k + 2) + 2) (counted_loop (int.Local n) last body) s (AtColumn n m b size wide s size size) (Measured n m b size wide s size) NoFault NoFault (λ u q. q) (λ u q. q.measured) (λ kind u q. q) (omega arith)
      (does_counted c Q (column_steps ns k) n last size body (λ j. AtColumn n m b size wide s j j) (λ j. AtColumn n m b size wide s j (suc j)) s NoFault record {
        short = small;
        steps_on = λ j t todo h.
            let st = stays_settled n m (with_buffer b h.measured.cells s) t todo h.measured.stays in
            (record { measured = record { cells = h.measured.cells; as_many = h.measured.as_many; stays = st; each = h.measured.each }; index = h.index }, (h.measured.cells, h.measured.as_many, st));
        counter = λ j t h. h.index;
        bound = λ j t h. read_stays n m (with_buffer b h.measured.cells s) t last h.measured.stays (last_old n lengths ranked old) ∙ read_buffer last b h.measured.cells s ∙ last_held s lengths ns ranked held;
        starts = λ rest. (record { measured = record { cells = cells; as_many = sized; stays = first rest; each = λ i lt. absurd (omega (arith, lt)) }; index = put_at s.ints n (Some (pos 0)) }, (cells, sized, first rest));
        turn = turn;
        kept = λ j u lt h. h.index;
        next = λ j u lt h rest.
            let st = stays_set n m n (pos (j + 1)) (with_buffer b h.measured.cells s) u rest (omega arith) h.measured.stays in
            (record { measured = record { cells = h.measured.cells; as_many = h.measured.as_many; stays = st; each = h.measured.each }; index = put_at u.ints n (Some (pos (j + 1))) ∙ ap (λ x. Some (pos x)) (next_is j) }, (h.measured.cells, h.measured.as_many, st));
      })
    where
      size : ℕ
      size = last_length ns

      last : Int
      last = slice_index_or lengths (length lengths - 1) (int.Local 0)

      wide : ℕ → ℕ
      wide j = column_width Num (item j) (rows_in_all ns)

      Q : State → Type 0
      Q = Measuring n m b size s

      next_is : (j : ℕ) → j + 1 ≡ suc j
      next_is j = omega arith

      first : (rest : Todo) → Stays n m (with_buffer b cells s) (after_set n (pos 0) rest s)
      first rest =
          let st = stays_set n m n (pos 0) s s rest (omega arith) (stays_none n m s) in
          record { ints = st.ints; bufs = st.bufs; around = st.around; heap = set_same s.heap b (Some cells) live }

      one_more : (j : ℕ) (xs : List ℤ) → j < size → length xs ≡ size → ((i : ℕ) → i < j → slice_get xs i ≡ Some (pos (wide i))) → (i : ℕ) → i < suc j → slice_get (slice_set xs j (pos (wide j))) i ≡ Some (pos (wide i))
      one_more j xs lt sized each i less =
          ⊎_elim
          (λ before. got_other xs j i (pos (wide j)) (λ e. omega (arith, e, before)) ∙ each i before)
          (λ behind.
          let e : j ≡ i = omega (arith, less, behind) in
          subst (λ q. slice_get (slice_set xs j (pos (wide j))) q ≡ Some (pos (wide q))) e (set_there xs j (pos (wide j)) (omega (arith, lt, sized))))
          (cases_lt i j)

      turn : (j : ℕ) (t : State) → j < size → AtColumn n m b size wide s j j t → Does c Q (column_steps ns k) body t (AtColumn n m b size wide s j (suc j)) NoFault
      turn j t lt h =
          let here = h.measured in
          let st = here.stays in
          let seen = seen_then g s (with_buffer b here.cells s) t (seen_apart g b here.cells s apart) (seen_stays g n m (with_buffer b here.cells s) t le leb st) in
          let as_many = reads.same_steps c.tables s t seen in
          does_weaken c (Measuring (n + 1) m b size t) Q (column_steps ns k) (column_steps ns k) body t (Stays (n + 1) m (with_buffer b (slice_set here.cells j (pos (wide j))) t)) (AtColumn n m b size wide s j (suc j)) NoFault NoFault
          (λ u q. (q.0, q.1, cells_then n m b here.cells q.0 s t u st (stays_less n (n + 1) m m (with_buffer b q.0 t) u (omega arith) (omega arith) q.2)))
          (λ u q. record {
            measured = record {
              cells = slice_set here.cells j (pos (wide j));
              as_many = length-set here.cells j (pos (wide j)) ∙ here.as_many;
              stays = cells_then n m b here.cells (slice_set here.cells j (pos (wide j))) s t u st (stays_less n (n + 1) m m (with_buffer b (slice_set here.cells j (pos (wide j))) t) u (omega arith) (omega arith) q);
              each = one_more j here.cells lt here.as_many here.each;
            };
            index = q.ints n (omega arith) ∙ h.index;
          })
          (λ kind u q. q) (omega arith)
          (column t ns b size j k here.cells (item j)
          (hold_stays n m (with_buffer b here.cells s) t lengths ns st old (hold_buffer b here.cells s lengths ns held))
          short some (ap or_unset h.index)
          (named_around m (with_buffer b here.cells s) t widths st.bufs st.around old_buf ∙ named_buffer widths b here.cells s ∙ named)
          (ap (λ (l : List (Option (List ℤ))). slice_get l b) st.heap ∙ got_set s.heap b (Some here.cells) (Some cells) live)
          here.as_many lt (omega (arith, as_many, most))
          (items_seen g test steps c.tables s t [] ns j 0 (item j) reads seen (items j lt))
          (λ q less. range j q lt less))

-- ---- Names

pub old_apart : (n n' low high : ℕ) (x : Int) → n ≤ low → n ≤ high → n ≤ n' → IsOld n x → IsApart n' (int.Local low) (int.Local high) x
old_apart n n' low high (int.Local k) le le' more h = (omega (arith, h, more), λ e. omega (arith, e, h, le), λ e. omega (arith, e, h, le'))
old_apart n n' low high (int.Global k) le le' more h = tt

pub are_old_apart : (n n' low high : ℕ) (xs : List Int) → n ≤ low → n ≤ high → n ≤ n' → AreOld n xs → AreApart n' (int.Local low) (int.Local high) xs
are_old_apart n n' low high [] le le' more h = tt
are_old_apart n n' low high (x ∷ xs) le le' more h = (old_apart n n' low high x le le' more h.0, are_old_apart n n' low high xs le le' more h.1)

pub zero_range : (g n n' : ℕ) (least greatest : Int) → least ≡ int.Local n → greatest ≡ int.Local (n + 1) → g ≤ n → n + 2 ≤ n' → IsRange g n' least greatest
zero_range g n n' least greatest el eh le more = record { low = n; high = n + 1; is_low = el; is_high = eh; low_from = le; high_from = omega (arith, le); low_below = omega (arith, more); high_below = omega (arith, more); apart = λ e. omega (arith, e) }

-- ---- Built

pub column_built : (test : Test) (steps : Steps) (g : Scope) (depth : ℕ) (b0 b1 b2 b3 : Blocks) (at lengths : List Int) (column least greatest : Int) (widths : Buf) → 1 ≤ depth → ReadsWithin g test steps → AreGiven g b0 → AreOld b0.ints lengths → IsOld b0.ints column → IsOldBuf b0.bufs widths → least ≡ int.Local b0.ints → greatest ≡ int.Local (b0.ints + 1) → b1 ≡ record b0 { inner = b0.inner ++ zero_stmts (int.Local b0.ints) (int.Local (b0.ints + 1)); ints = b0.ints + 2 } → at ≡ [] → Adds g depth b1 b2 (least ∷ greatest ∷ column ∷ at ++ lengths) [] (RangeRuns test steps at lengths column least greatest) → b3 ≡ with_widths least greatest widths column b2 → Adds g depth b0 b3 (column ∷ lengths) (widths ∷ []) (ColumnRuns test steps lengths column widths)
column_built test steps g depth b0 b1 b2 b3 at lengths column least greatest widths some reads given old old_column old_buf el eh e1 ea nest e3 = record {
  code = zeros ++ (nest.code ++ ends);
  grown =
      grown_then zeros (nest.code ++ ends) b0 b1 b3 record { inner = ap (λ (b : Blocks). b.inner) e1; outer = ap (λ (b : Blocks). b.outer) e1; ints = omega (arith, ints1); bufs = omega (arith, bufs1) }
      (grown_then nest.code ends b1 b2 b3 nest.grown record { inner = ends_are; outer = ap (λ (b : Blocks). b.outer) e3; ints = omega (arith, ints3); bufs = omega (arith, bufs3) });
  formed = formed_is;
  runs = λ c. column_does c test steps g reads n b2.ints b0.bufs lengths column widths nest.code given.ints given.bufs (omega (arith, ints1, nest.grown.ints)) old old_column old_buf (nest_is c);
}
  where
    n : ℕ
    n = b0.ints

    zeros : List CStmt
    zeros = zero_stmts (int.Local n) (int.Local (n + 1))

    ends : List CStmt
    ends = width_stmts (int.Local b2.ints) (int.Local (b2.ints + 1)) (int.Local n) (int.Local (n + 1)) widths column

    ints1 : b1.ints ≡ n + 2
    ints1 = ap (λ (b : Blocks). b.ints) e1

    bufs1 : b1.bufs ≡ b0.bufs
    bufs1 = ap (λ (b : Blocks). b.bufs) e1

    ints3 : b3.ints ≡ b2.ints + 2
    ints3 = ap (λ (b : Blocks). b.ints) e3

    bufs3 : b3.bufs ≡ b2.bufs
    bufs3 = ap (λ (b : Blocks). b.bufs) e3

    ends_are : b3.inner ≡ b2.inner ++ ends
    ends_are =
        ap (λ (b : Blocks). b.inner) e3
        ∙ ap (λ (x : Int). b2.inner ++ width_stmts (int.Local b2.ints) (int.Local (b2.ints + 1)) x greatest widths column) el
        ∙ ap (λ (x : Int). b2.inner ++ width_stmts (int.Local b2.ints) (int.Local (b2.ints + 1)) (int.Local n) x widths column) eh

    nest_is : (c : Code) → RangeRuns test steps [] lengths column (int.Local n) (int.Local (n + 1)) c (n + 2) b0.bufs nest.code
    nest_is c =
        subst (λ (l : List Int). RangeRuns test steps l lengths column (int.Local n) (int.Local (n + 1)) c (n + 2) b0.bufs nest.code) ea
        (subst (λ (x : Int). RangeRuns test steps at lengths column x (int.Local (n + 1)) c (n + 2) b0.bufs nest.code) el
        (subst (λ (x : Int). RangeRuns test steps at lengths column least x c (n + 2) b0.bufs nest.code) eh
        (subst (λ k. RangeRuns test steps at lengths column least greatest c (n + 2) k nest.code) bufs1
        (subst (λ k. RangeRuns test steps at lengths column least greatest c k b1.bufs nest.code) ints1 (nest.runs c)))))

    formed_is : IsFormed g (column ∷ lengths) (widths ∷ []) b3 depth (zeros ++ (nest.code ++ ends))
    formed_is sc room within are bufs more more_bufs le =
        let il : is_int sc (int.Local n) ≡ true = is_below n sc.ints (omega (arith, ints1, nest.grown.ints, ints3, more)) in
        let ih : is_int sc (int.Local (n + 1)) ≡ true = is_below (n + 1) sc.ints (omega (arith, ints1, nest.grown.ints, ints3, more)) in
        let iw : is_int sc (int.Local b2.ints) ≡ true = is_below b2.ints sc.ints (omega (arith, ints3, more)) in
        let io : is_int sc (int.Local (b2.ints + 1)) ≡ true = is_below (b2.ints + 1) sc.ints (omega (arith, ints3, more)) in
        stmts_append sc (Some room) zeros (nest.code ++ ends)
        (one_stmt sc (Some room) (stmt.Set (int.Local n) (expr.Lit (pos 0))) (stmt.Set (int.Local (n + 1)) (expr.Lit (pos 0)) ∷ []) (set_formed sc (Some room) (int.Local n) (expr.Lit (pos 0)) il (lit_formed sc 0 (omega arith) room))
        (one_stmt sc (Some room) (stmt.Set (int.Local (n + 1)) (expr.Lit (pos 0))) [] (set_formed sc (Some room) (int.Local (n + 1)) (expr.Lit (pos 0)) ih (lit_formed sc 0 (omega arith) room)) refl))
        (stmts_append sc (Some room) nest.code ends
        (nest.formed sc room within (ap (is_int sc) el ∙ il, (ap (is_int sc) eh ∙ ih, (are.0, subst (λ (l : List Int). AreInts sc (l ++ lengths)) (sym ea) are.1))) tt (omega (arith, ints3, more)) (omega (arith, bufs3, more_bufs)) le)
        (one_stmt sc (Some room) (stmt.Width (int.Local b2.ints) (expr.Var (int.Local (n + 1)))) (stmt.Width (int.Local (b2.ints + 1)) (expr.Var (int.Local n)) ∷ set_if_less (int.Local b2.ints) (int.Local (b2.ints + 1)) (int.Local b2.ints) (int.Local (b2.ints + 1)) ∷ stmt.SetCell widths (expr.Var column) (expr.Var (int.Local b2.ints)) ∷ [])
        (is_Width sc (int.Local b2.ints) (expr.Var (int.Local (n + 1))) (Some room) ∙ both_true (is_int sc (int.Local b2.ints)) (is_expr sc (expr.Var (int.Local (n + 1))) (Some room)) iw (var_formed sc (int.Local (n + 1)) ih room))
        (one_stmt sc (Some room) (stmt.Width (int.Local (b2.ints + 1)) (expr.Var (int.Local n))) (set_if_less (int.Local b2.ints) (int.Local (b2.ints + 1)) (int.Local b2.ints) (int.Local (b2.ints + 1)) ∷ stmt.SetCell widths (expr.Var column) (expr.Var (int.Local b2.ints)) ∷ [])
        (is_Width sc (int.Local (b2.ints + 1)) (expr.Var (int.Local n)) (Some room) ∙ both_true (is_int sc (int.Local (b2.ints + 1))) (is_expr sc (expr.Var (int.Local n)) (Some room)) io (var_formed sc (int.Local n) il room))
        (one_stmt sc (Some room) (set_if_less (int.Local b2.ints) (int.Local (b2.ints + 1)) (int.Local b2.ints) (int.Local (b2.ints + 1))) (stmt.SetCell widths (expr.Var column) (expr.Var (int.Local b2.ints)) ∷ [])
        (set_if_less_formed sc (int.Local b2.ints) (int.Local (b2.ints + 1)) (int.Local b2.ints) (int.Local (b2.ints + 1)) room (omega (arith, some, le)) iw io iw io)
        (one_stmt sc (Some room) (stmt.SetCell widths (expr.Var column) (expr.Var (int.Local b2.ints))) []
        (set_cell_formed sc (Some room) widths (expr.Var column) (expr.Var (int.Local b2.ints)) bufs.0 (var_formed sc column are.0 room) (var_formed sc (int.Local b2.ints) iw room)) refl)))))

pub widths_built : (test : Test) (steps : Steps) (g : Scope) (depth : ℕ) (b0 b1 b2 b3 : Blocks) (lengths : List Int) (last i : Int) (widths : Buf) → 1 ≤ length lengths → ReadsWithin g test steps → AreGiven g b0 → AreOld b0.ints lengths → IsOldBuf b0.bufs widths → last ≡ slice_index_or lengths (length lengths - 1) (int.Local 0) → i ≡ int.Local b0.ints → b1 ≡ loop_begun b0 → Adds g (depth + length lengths) b1 b2 (i ∷ lengths) (widths ∷ []) (ColumnRuns test steps lengths i widths) → LoopEnded i last b2 b3 → Adds g (1 + depth + length lengths) b0 b3 lengths (widths ∷ []) (WidthsRun test steps g lengths widths)
widths_built test steps g depth b0 b1 b2 b3 lengths last i widths ranked reads given old old_buf el ei e1 column ended =
    loop_adds g (depth + length lengths) (1 + depth + length lengths) b0 b1 b2 b3 i last (i ∷ lengths) lengths (widths ∷ []) (ColumnRuns test steps lengths i widths) (WidthsRun test steps g lengths widths) ei e1 column ended (omega (arith, ranked)) (omega arith)
    (λ sc counter are. ((counter, are), ap (is_int sc) el ∙ last_declared sc lengths ranked are))
    (λ c code h.
    subst (λ (x : Int). WidthsRun test steps g lengths widths c b0.ints b0.bufs (counted_loop (int.Local b0.ints) x code)) (sym el)
    (widths_do c test steps g reads b0.ints b0.bufs lengths widths code ranked given.ints given.bufs old old_buf (subst (λ (x : Int). ColumnRuns test steps lengths x widths c (b0.ints + 1) b0.bufs code) ei h)))
