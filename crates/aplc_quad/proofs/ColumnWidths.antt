-- What the code that finds the widths of columns does, and that it is well formed.
use Rattle.std.proofs.Common.{◌≡◌, ℕ, zero, suc, ◌+◌, ◌<◌, ◌≤◌, List, [], ◌∷◌, ◌++◌, length, refl, ap, ◌∙◌, subst, arith, ℤ, Bool, true, false}
use Rattle.std.specs.Prelude.{Option, Some, pos, max, int_lt, slice_get, slice_set, if◌then◌else◌}
use Rattle.std.proofs.lemmas.List.{length-set}
use Rattle.std.proofs.lemmas.Bool.Decides.{nat_tests}
use Rattle.aplc_scalar.specs.declared.kind.Kind.TheVariants.{Num}
use Rattle.aplc_cprof.specs.declared.syntax.Int.{Int}
use Rattle.aplc_cprof.specs.declared.syntax.Int.TheVariants as int
use Rattle.aplc_cprof.specs.declared.syntax.Buf.{Buf}
use Rattle.aplc_cprof.specs.declared.syntax.Op.TheVariants as op
use Rattle.aplc_cprof.specs.declared.syntax.CExpr.TheVariants as expr
use Rattle.aplc_cprof.specs.declared.syntax.CStmt.{CStmt}
use Rattle.aplc_cprof.specs.declared.syntax.CStmt.TheVariants as stmt
use Rattle.aplc_cprof.specs.WellFormed.{Scope}
use Rattle.aplc_cprof.specs.Machine.{State, Code, Todo, Is, read_int, or_unset, named_buf, text_width, settled}
use Rattle.aplc_cprof.specs.Frames.{IsOld, AreOld, IsOldBuf, Stays, with_buffer}
use Rattle.aplc_cprof.proofs.Values.{value_Var, value_Lit}
use Rattle.aplc_cprof.proofs.Paths.{Does, does_then, does_weaken, does_Width, does_SetCell}
use Rattle.aplc_cprof.proofs.Frames.{after_set, put_at, put_other, old_more, set_same, set_twice, stays_none, stays_then, stays_less, stays_set, read_stays, hold_stays, named_around, seen_stays}
use Rattle.aplc_cprof.proofs.Counting.{on_values_value, does_set}
use Rattle.aplc_collect.specs.Elements.{Test, Steps, ReadsWithin}
use Rattle.aplc_quad.specs.Rows.{column_width}
use Rattle.aplc_quad.specs.Printed.{NoFault}
use Rattle.aplc_quad.specs.Ranges.{lowest, highest, set_if_less, zero_stmts, width_stmts, with_range, Ranging, rows_in_all, range_steps, RangeRuns, Measuring, ColumnRuns}
use Rattle.aplc_quad.proofs.RangeWidths.{width_of_range}
use Rattle.aplc_quad.proofs.RangeStates.{SetTo, set_when, low_is, high_is, apart_is}
use Rattle.aplc_quad.proofs.RangeNests.{items_seen}

-- ---- Numbers and lists

the_wider : (x y : ℕ) → (if int_lt (pos x) (pos y) then pos y else pos x) ≡ pos (max x y)
the_wider x y = by (int_lt (pos x) (pos y)) refl
  where
    by : (b : Bool) → int_lt (pos x) (pos y) ≡ b → (if b then pos y else pos x) ≡ pos (max x y)
    by true e = let lt : x < y = grind (arith, nat_tests) in ap pos (omega (arith, lt))
    by false e = let le : y ≤ x = grind (arith, nat_tests) in ap pos (omega (arith, le))

pub set_there : (xs : List ℤ) (j : ℕ) (x : ℤ) → j < length xs → slice_get (slice_set xs j x) j ≡ Some x
set_there [] j x lt = absurd (omega (arith, lt))
set_there (y ∷ xs) zero x lt = refl
set_there (y ∷ xs) (suc j) x lt = set_there xs j x (omega (arith, lt))

-- ---- States

-- other cells after other cells
pub cells_then : (n m b : ℕ) (cells other : List ℤ) (s t u : State) → Stays n m (with_buffer b cells s) t → Stays n m (with_buffer b other t) u → Stays n m (with_buffer b other s) u
cells_then n m b cells other s t u h k = record {
  ints = λ x lt. k.ints x lt ∙ h.ints x lt;
  bufs = λ p lt. k.bufs p lt ∙ h.bufs p lt;
  around = k.around ∙ h.around;
  heap = k.heap ∙ ap (λ (l : List (Option (List ℤ))). slice_set l b (Some other)) h.heap ∙ set_twice s.heap b (Some cells) (Some other);
}

-- the cells are what they were
cells_same : (n m b : ℕ) (cells : List ℤ) (s t : State) → slice_get s.heap b ≡ Some (Some cells) → Stays n m s t → Stays n m (with_buffer b cells s) t
cells_same n m b cells s t is h = record { ints = h.ints; bufs = h.bufs; around = h.around; heap = h.heap ∙ set_same s.heap b (Some cells) is }

after_stays : (n m b : ℕ) (other : List ℤ) (s t u : State) → Stays n m s t → Stays n m (with_buffer b other t) u → Stays n m (with_buffer b other s) u
after_stays n m b other s t u h k = record {
  ints = λ x lt. k.ints x lt ∙ h.ints x lt;
  bufs = λ p lt. k.bufs p lt ∙ h.bufs p lt;
  around = k.around ∙ h.around;
  heap = k.heap ∙ ap (λ (l : List (Option (List ℤ))). slice_set l b (Some other)) h.heap;
}

-- the range is of no account from outside
range_stays : (n n' m low high : ℕ) (a b : ℤ) (s t : State) → n ≤ low → n ≤ high → n ≤ n' → Stays n' m (with_range low high a b s) t → Stays n m s t
range_stays n n' m low high a b s t le le' more h = record {
  ints = λ x lt. apart_is n' m low high a b s t x (omega (arith, more, lt)) (λ e. omega (arith, e, le, lt)) (λ e. omega (arith, e, le', lt)) h;
  bufs = h.bufs;
  around = h.around;
  heap = h.heap;
}

set_stays : (n m x : ℕ) (y : ℤ) (s t u : State) → n ≤ x → Stays n m s t → SetTo x y t u → Stays n m s u
set_stays n m x y s t u le h k = record {
  ints = λ z lt. k.ints z ∙ put_other t.ints x (Some y) z (λ e. omega (arith, e, le, lt)) ∙ h.ints z lt;
  bufs = λ p lt. k.bufs p ∙ h.bufs p lt;
  around = k.around ∙ h.around;
  heap = k.heap ∙ h.heap;
}

module _ (c : Code) where
  -- ---- One width

  -- both widths are there
  record Wide (n m x : ℕ) (v : ℤ) (s t : State) : Type 0 where
    pub stays : Stays n m s t
    pub is : t.ints x ≡ Some v

  record WideTwo (n m x y : ℕ) (v w : ℤ) (s t : State) : Type 0 where
    pub stays : Stays n m s t
    pub one : t.ints x ≡ Some v
    pub two : t.ints y ≡ Some w

  pub width_does : (n m b size j : ℕ) (least greatest column : Int) (widths : Buf) (low high : ℤ) (cells : List ℤ) (s : State) → IsOld n least → IsOld n greatest → IsOld n column → IsOldBuf m widths → read_int least s ≡ Is low → read_int greatest s ≡ Is high → read_int column s ≡ Is (pos j) → named_buf widths s ≡ Some b → slice_get s.heap b ≡ Some (Some cells) → length cells ≡ size → j < size → Does c (Measuring n m b size s) 5 (width_stmts (int.Local n) (int.Local (n + 1)) least greatest widths column) s (Stays n m (with_buffer b (slice_set cells j (pos (max (text_width high) (text_width low)))) s)) NoFault
  width_does n m b size j least greatest column widths low high cells s old_least old_greatest old_column old_buf is_low is_high is_j named live sized lt =
      does_then c Q 1 4 (stmt.Width (int.Local n) (expr.Var greatest) ∷ []) (stmt.Width (int.Local (n + 1)) (expr.Var least) ∷ set_if_less (int.Local n) (int.Local (n + 1)) (int.Local n) (int.Local (n + 1)) ∷ stmt.SetCell widths (expr.Var column) (expr.Var (int.Local n)) ∷ []) s (Wide n m n (pos x) s) Post NoFault
      (does_Width c Q (int.Local n) (expr.Var greatest) s (Wide n m n (pos x) s) NoFault high (value_Var greatest c.tables s ∙ is_high)
      (λ rest. quiet (after_set n (pos x) rest s) (first rest))
      (λ rest. record { stays = first rest; is = put_at s.ints n (Some (pos x)) }))
      (λ t h.
      does_then c Q 1 3 (stmt.Width (int.Local (n + 1)) (expr.Var least) ∷ []) (set_if_less (int.Local n) (int.Local (n + 1)) (int.Local n) (int.Local (n + 1)) ∷ stmt.SetCell widths (expr.Var column) (expr.Var (int.Local n)) ∷ []) t (WideTwo n m n (n + 1) (pos x) (pos y) s) Post NoFault
      (does_Width c Q (int.Local (n + 1)) (expr.Var least) t (WideTwo n m n (n + 1) (pos x) (pos y) s) NoFault low (value_Var least c.tables t ∙ read_stays n m s t least h.stays old_least ∙ is_low)
      (λ rest. quiet (after_set (n + 1) (pos y) rest t) (stays_set n m (n + 1) (pos y) s t rest (omega arith) h.stays))
      (λ rest. record { stays = stays_set n m (n + 1) (pos y) s t rest (omega arith) h.stays; one = put_other t.ints (n + 1) (Some (pos y)) n (λ e. omega (arith, e)) ∙ h.is; two = put_at t.ints (n + 1) (Some (pos y)) }))
      (λ u k.
      does_then c Q 2 1 (set_if_less (int.Local n) (int.Local (n + 1)) (int.Local n) (int.Local (n + 1)) ∷ []) (stmt.SetCell widths (expr.Var column) (expr.Var (int.Local n)) ∷ []) u (SetTo n (if int_lt (pos x) (pos y) then pos y else pos x) u) Post NoFault
      (set_when c Q (int.Local n) (int.Local (n + 1)) n (int.Local (n + 1)) u (pos x) (pos y) (int_lt (pos x) (pos y))
      (on_values_value c.tables u op.Less (int.Local n) (int.Local (n + 1)) (pos x) (pos y) (ap or_unset k.one) (ap or_unset k.two)) (ap or_unset k.two) k.one
      (λ w v q. quiet v (set_stays n m n w s u v (omega arith) k.stays q)))
      (λ v q. last v (set_stays n m n (if int_lt (pos x) (pos y) then pos y else pos x) s u v (omega arith) k.stays q) (q.ints n ∙ put_at u.ints n (Some (if int_lt (pos x) (pos y) then pos y else pos x)) ∙ ap Some (the_wider x y)))))
    where
      x : ℕ
      x = text_width high

      y : ℕ
      y = text_width low

      other : List ℤ
      other = slice_set cells j (pos (max x y))

      Q : State → Type 0
      Q = Measuring n m b size s

      Post : State → Type 0
      Post = Stays n m (with_buffer b other s)

      quiet : (t : State) → Stays n m s t → Q t
      quiet t h = (cells, sized, cells_same n m b cells s t live h)

      first : (rest : Todo) → Stays n m s (after_set n (pos x) rest s)
      first rest = stays_set n m n (pos x) s s rest (omega arith) (stays_none n m s)

      last : (t : State) → Stays n m s t → t.ints n ≡ Some (pos (max x y)) → Does c Q 1 (stmt.SetCell widths (expr.Var column) (expr.Var (int.Local n)) ∷ []) t Post NoFault
      last t h is =
          does_SetCell c Q widths (expr.Var column) (expr.Var (int.Local n)) t Post NoFault b cells j (pos (max x y))
          (value_Var column c.tables t ∙ read_stays n m s t column h old_column ∙ is_j) (value_Var (int.Local n) c.tables t ∙ ap or_unset is)
          (named_around m s t widths h.bufs h.around old_buf ∙ named) (ap (λ (l : List (Option (List ℤ))). slice_get l b) h.heap ∙ live) (omega (arith, lt, sized))
          (λ rest. (other, length-set cells j (pos (max x y)) ∙ sized, put_cell rest))
          put_cell
        where
          put_cell : (rest : Todo) → Stays n m (with_buffer b other s) (settled (record t { todo = rest; heap = slice_set t.heap b (Some other) }))
          put_cell rest = record { ints = h.ints; bufs = h.bufs; around = h.around; heap = ap (λ (l : List (Option (List ℤ))). slice_set l b (Some other)) h.heap }

  -- ---- One column

  -- a range that holds 0 alone
  record Zero (n m : ℕ) (s t : State) : Type 0 where
    pub stays : Stays n m s t
    pub low : t.ints n ≡ Some (pos 0)
    pub high : t.ints (n + 1) ≡ Some (pos 0)

  zero_does : (n m : ℕ) (s : State) → Does c (Stays n m s) 2 (zero_stmts (int.Local n) (int.Local (n + 1))) s (Zero n m s) NoFault
  zero_does n m s =
      does_then c (Stays n m s) 1 1 (stmt.Set (int.Local n) (expr.Lit (pos 0)) ∷ []) (stmt.Set (int.Local (n + 1)) (expr.Lit (pos 0)) ∷ []) s (Wide n m n (pos 0) s) (Zero n m s) NoFault
      (does_set c (Stays n m s) n (expr.Lit (pos 0)) s (Wide n m n (pos 0) s) NoFault (pos 0) (value_Lit (pos 0) c.tables s)
      (λ rest. stays_set n m n (pos 0) s s rest (omega arith) (stays_none n m s))
      (λ rest. record { stays = stays_set n m n (pos 0) s s rest (omega arith) (stays_none n m s); is = put_at s.ints n (Some (pos 0)) }))
      (λ t h. does_set c (Stays n m s) (n + 1) (expr.Lit (pos 0)) t (Zero n m s) NoFault (pos 0) (value_Lit (pos 0) c.tables t)
      (λ rest. stays_set n m (n + 1) (pos 0) s t rest (omega arith) h.stays)
      (λ rest. record { stays = stays_set n m (n + 1) (pos 0) s t rest (omega arith) h.stays; low = put_other t.ints (n + 1) (Some (pos 0)) n (λ e. omega (arith, e)) ∙ h.is; high = put_at t.ints (n + 1) (Some (pos 0)) }))

  module _ (test : Test) (steps : Steps) (g : Scope) (reads : ReadsWithin g test steps) where
    pub column_does : (n n' m : ℕ) (lengths : List Int) (column : Int) (widths : Buf) (nest : List CStmt) → g.ints ≤ n → g.bufs ≤ m → n + 2 ≤ n' → AreOld n lengths → IsOld n column → IsOldBuf m widths → RangeRuns test steps [] lengths column (int.Local n) (int.Local (n + 1)) c (n + 2) m nest → ColumnRuns test steps lengths column widths c n m (zero_stmts (int.Local n) (int.Local (n + 1)) ++ (nest ++ width_stmts (int.Local n') (int.Local (n' + 1)) (int.Local n) (int.Local (n + 1)) widths column))
    column_does n n' m lengths column widths nest le leb more old_lengths old_column old_buf runs s ns b size j k cells item held short some is_j named live sized lt most items range =
        does_then c Q 2 (range_steps ns k + 5) (zero_stmts (int.Local n) (int.Local (n + 1))) (nest ++ ends) s (Zero n m s) Post NoFault
        (does_weaken c (Stays n m s) Q 2 2 (zero_stmts (int.Local n) (int.Local (n + 1))) s (Zero n m s) (Zero n m s) NoFault NoFault (λ u q. quiet u q) (λ u q. q) (λ kind u q. q) (omega arith) (zero_does n m s))
        (λ t z.
        let seen = seen_stays g n m s t le leb z.stays in
        let as_many = reads.same_steps c.tables s t seen in
        does_then c Q (range_steps ns k) 5 nest ends t (Stays (n + 2) m (with_range n (n + 1) (lowest item rows) (highest item rows) t)) Post NoFault
        (does_weaken c (Ranging (n + 2) m n (n + 1) t) Q (range_steps ns k) (range_steps ns k) nest t (Stays (n + 2) m (with_range n (n + 1) (lowest item (0 + rows)) (highest item (0 + rows)) t)) (Stays (n + 2) m (with_range n (n + 1) (lowest item rows) (highest item rows) t)) NoFault NoFault
        (λ u q. quiet u (stays_then n m s t u z.stays (range_stays n (n + 2) m n (n + 1) q.0 q.1 t u (omega arith) (omega arith) (omega arith) q.2)))
        (λ u q. subst (λ r. Stays (n + 2) m (with_range n (n + 1) (lowest item r) (highest item r) t) u) from_none q)
        (λ kind u q. q) (omega arith)
        (runs t [] ns j 0 k item tt (hold_stays n m s t lengths ns z.stays old_lengths held) short (read_stays n m s t column z.stays old_column ∙ is_j) z.low z.high (omega (arith, as_many, most)) (items_seen g test steps c.tables s t [] ns j 0 item reads seen items)))
        (λ u r.
        let inner = range_stays n (n + 2) m n (n + 1) (lowest item rows) (highest item rows) t u (omega arith) (omega arith) (omega arith) r in
        let kept = stays_then n m s t u z.stays inner in
        does_weaken c (Measuring n' m b size u) Q 5 5 ends u (Stays n' m (with_buffer b (slice_set cells j (pos (max (text_width (highest item rows)) (text_width (lowest item rows))))) u)) Post NoFault NoFault
        (λ v q. (q.0, q.1, after_stays n m b q.0 s u v kept (stays_less n n' m m (with_buffer b q.0 u) v (omega (arith, more)) (omega arith) q.2)))
        (λ v q. subst (λ w. Stays n m (with_buffer b (slice_set cells j (pos w)) s) v) (width_of_range item rows some range)
        (after_stays n m b (slice_set cells j (pos (max (text_width (highest item rows)) (text_width (lowest item rows))))) s u v kept (stays_less n n' m m (with_buffer b (slice_set cells j (pos (max (text_width (highest item rows)) (text_width (lowest item rows))))) u) v (omega (arith, more)) (omega arith) q)))
        (λ kind v q. q) (omega arith)
        (width_does n' m b size j (int.Local n) (int.Local (n + 1)) column widths (lowest item rows) (highest item rows) cells u (omega (arith, more)) (omega (arith, more)) (old_more n n' column (omega (arith, more)) old_column) old_buf
        (ap or_unset (low_is (n + 2) m n (n + 1) (lowest item rows) (highest item rows) t u (omega arith) (λ e. omega (arith, e)) r))
        (ap or_unset (high_is (n + 2) m n (n + 1) (lowest item rows) (highest item rows) t u (omega arith) r))
        (read_stays n m s u column kept old_column ∙ is_j)
        (named_around m s u widths kept.bufs kept.around old_buf ∙ named) (ap (λ (l : List (Option (List ℤ))). slice_get l b) kept.heap ∙ live) sized lt)))
      where
        rows : ℕ
        rows = rows_in_all ns

        ends : List CStmt
        ends = width_stmts (int.Local n') (int.Local (n' + 1)) (int.Local n) (int.Local (n + 1)) widths column

        Q : State → Type 0
        Q = Measuring n m b size s

        Post : State → Type 0
        Post = Stays n m (with_buffer b (slice_set cells j (pos (column_width Num item rows))) s)

        from_none : 0 + rows ≡ rows
        from_none = omega arith

        quiet : (t : State) → Stays n m s t → Q t
        quiet t h = (cells, sized, cells_same n m b cells s t live h)
