-- What the code of numbers of rank 2 or more prints: with a buffer for the widths of columns, which is freed.
use Rattle.std.proofs.Common.{◌≡◌, ℕ, zero, suc, ◌+◌, ◌-◌, ◌*◌, ◌<◌, ◌≤◌, List, [], ◌∷◌, ◌++◌, length, refl, sym, ap, ◌∙◌, subst, arith, ℤ, true}
use Rattle.std.specs.Prelude.{Option, Some, None, pos, ◌^◌, replicate, option_and_then, slice_get, slice_set, slice_index_or, sum_by}
use Rattle.std.proofs.lemmas.List.{length-replicate}
use Rattle.std.proofs.lemmas.List.Sums.{sum_by-cons, sum_by-append}
use Rattle.aplc_scalar.specs.declared.kind.Kind.TheVariants.{Num}
use Rattle.aplc_scalar.specs.Scalar.{in_range}
use Rattle.aplc_arr.specs.Arrays.{product}
use Rattle.aplc_cprof.specs.declared.syntax.Int.{Int}
use Rattle.aplc_cprof.specs.declared.syntax.Int.TheVariants as int
use Rattle.aplc_cprof.specs.declared.syntax.Buf.TheVariants as buf
use Rattle.aplc_cprof.specs.declared.syntax.CExpr.TheVariants as expr
use Rattle.aplc_cprof.specs.declared.syntax.CStmt.{CStmt}
use Rattle.aplc_cprof.specs.declared.syntax.CStmt.TheVariants as stmt
use Rattle.aplc_cprof.specs.WellFormed.{Scope}
use Rattle.aplc_cprof.specs.Machine.{State, Code, Todo, Is, read_int, or_unset, put, settled, cells_of, held}
use Rattle.aplc_cprof.specs.Frames.{IsOld, AreOld, Around, Stays, SameSeen, Unnamed, live, with_buffer, Hold}
use Rattle.aplc_cprof.proofs.Values.{value_Var}
use Rattle.aplc_cprof.proofs.Paths.{Does, does_then, does_weaken, does_Cells, does_Free}
use Rattle.aplc_cprof.proofs.Frames.{put_at, put_other, stays_less}
use Rattle.aplc_collect.specs.Elements.{Test, Steps, ReadsWithin}
use Rattle.aplc_quad.specs.declared.printing.Columns.TheVariants.{Justified}
use Rattle.aplc_quad.specs.Rows.{column_width, nest_bytes}
use Rattle.aplc_quad.specs.Printed.{with_output, Printed, Printing, NoFault, NestFits, Stands, AreShort, last_length, nest_steps, PlanesPut}
use Rattle.aplc_quad.specs.Ranges.{rows_in_all, ColumnItems, column_steps, Measuring, Measured, WidthsRun}
use Rattle.aplc_quad.specs.Shows.{with_more, Showing, Shown, matrix_steps}
use Rattle.aplc_quad.proofs.RangeNests.{items_seen}
use Rattle.aplc_quad.proofs.WidthLoops.{last_held}

-- ---- One more buffer

get_last : {A : Type 0} (xs : List A) (y : A) → slice_get (xs ++ y ∷ []) (length xs) ≡ Some y
get_last [] y = refl
get_last (x ∷ xs) y = get_last xs y

get_before : {A : Type 0} (xs : List A) (y : A) (j : ℕ) → (j ≡ length xs → ⊥) → slice_get (xs ++ y ∷ []) j ≡ slice_get xs j
get_before [] y zero ne = absurd (ne refl)
get_before [] y (suc j) ne = refl
get_before (x ∷ xs) y zero ne = refl
get_before (x ∷ xs) y (suc j) ne = get_before xs y j (λ e. ne (ap suc e))

set_last : {A : Type 0} (xs : List A) (y z : A) → slice_set (xs ++ y ∷ []) (length xs) z ≡ xs ++ z ∷ []
set_last [] y z = refl
set_last (x ∷ xs) y z = ap (λ l. x ∷ l) (set_last xs y z)

-- a state with one more buffer, which the m-th buffer variable names
record Inside (n m : ℕ) (out : List ℕ) (cells : List ℤ) (s t : State) : Type 0 where
  pub stays : Stays n m (with_more out (Some cells ∷ []) s) t
  pub named : t.bufs m ≡ Some (length s.heap)

same_live : (heap : List (Option (List ℤ))) (y : Option (List ℤ)) (o : Option ℕ) → (o ≡ Some (length heap) → ⊥) → live (option_and_then (slice_get (heap ++ y ∷ [])) o) ≡ live (option_and_then (slice_get heap) o)
same_live heap y None ne = refl
same_live heap y (Some j) ne = ap live (get_before heap y j (λ e. ne (ap Some e)))

inside_seen : (g : Scope) (n m : ℕ) (out : List ℕ) (cells : List ℤ) (s t : State) → g.ints ≤ n → g.bufs ≤ m → Unnamed g (length s.heap) s → Inside n m out cells s t → SameSeen g s t
inside_seen g n m out cells s t le leb apart h = record {
  ints = λ x lt. h.stays.ints x (omega (arith, le, lt));
  bufs = λ p lt. ap (λ (l : List (Option (List ℤ))). live (option_and_then (slice_get l) (t.bufs p))) h.stays.heap ∙ ap (λ o. live (option_and_then (slice_get (s.heap ++ Some cells ∷ [])) o)) (h.stays.bufs p (omega (arith, leb, lt))) ∙ same_live s.heap (Some cells) (s.bufs p) (apart.bufs p lt);
  global_ints = λ x lt. ap (λ (r : Around). r.global_ints x) h.stays.around;
  global_bufs = λ p lt. ap (λ (l : List (Option (List ℤ))). live (option_and_then (slice_get l) (t.global_bufs p))) h.stays.heap ∙ ap (λ (r : Around). live (option_and_then (slice_get (s.heap ++ Some cells ∷ [])) (r.global_bufs p))) h.stays.around ∙ same_live s.heap (Some cells) (s.global_bufs p) (apart.global_bufs p lt);
}

inside_unnamed : (g : Scope) (n m : ℕ) (out : List ℕ) (cells : List ℤ) (s t : State) → g.bufs ≤ m → Unnamed g (length s.heap) s → Inside n m out cells s t → Unnamed g (length s.heap) t
inside_unnamed g n m out cells s t leb apart h = record {
  bufs = λ p lt e. apart.bufs p lt (sym (h.stays.bufs p (omega (arith, leb, lt))) ∙ e);
  global_bufs = λ p lt e. apart.global_bufs p lt (sym (ap (λ (r : Around). r.global_bufs p) h.stays.around) ∙ e);
}

inside_live : (n m : ℕ) (out : List ℕ) (cells : List ℤ) (s t : State) → Inside n m out cells s t → slice_get t.heap (length s.heap) ≡ Some (Some cells)
inside_live n m out cells s t h = ap (λ (l : List (Option (List ℤ))). slice_get l (length s.heap)) h.stays.heap ∙ get_last s.heap (Some cells)

-- other cells
inside_cells : (n m : ℕ) (out : List ℕ) (cells other : List ℤ) (s t u : State) → Inside n m out cells s t → Stays n (m + 1) (with_buffer (length s.heap) other t) u → Inside n m out other s u
inside_cells n m out cells other s t u h k = record {
  stays = record {
    ints = λ x lt. k.ints x lt ∙ h.stays.ints x lt;
    bufs = λ p lt. k.bufs p (omega (arith, lt)) ∙ h.stays.bufs p lt;
    around = k.around ∙ h.stays.around;
    heap = k.heap ∙ ap (λ (l : List (Option (List ℤ))). slice_set l (length s.heap) (Some other)) h.stays.heap ∙ set_last s.heap (Some cells) (Some other);
  };
  named = k.bufs m (omega arith) ∙ h.named;
}

-- more was written
inside_output : (n m : ℕ) (out other : List ℕ) (cells : List ℤ) (s t u : State) → Inside n m out cells s t → Stays n (m + 1) (with_output other t) u → Inside n m other cells s u
inside_output n m out other cells s t u h k = record {
  stays = record {
    ints = λ x lt. k.ints x lt ∙ h.stays.ints x lt;
    bufs = λ p lt. k.bufs p (omega (arith, lt)) ∙ h.stays.bufs p lt;
    around = k.around ∙ ap (λ (r : Around). record r { output = other }) h.stays.around;
    heap = k.heap ∙ h.stays.heap;
  };
  named = k.bufs m (omega arith) ∙ h.named;
}

hold_inside : (n m : ℕ) (out : List ℕ) (cells : List ℤ) (s t : State) (xs : List Int) (is : List ℕ) → Inside n m out cells s t → AreOld n xs → Hold s xs is → Hold t xs is
hold_inside n m out cells s t [] [] h old held = held
hold_inside n m out cells s t [] (i ∷ is) h old held = held
hold_inside n m out cells s t (x ∷ xs) [] h old held = held
hold_inside n m out cells s t (x ∷ xs) (i ∷ is) h old held = (same x old.0 ∙ held.0, hold_inside n m out cells s t xs is h old.1 held.1)
  where
    same : (y : Int) → IsOld n y → read_int y t ≡ read_int y s
    same (int.Local k) o = ap or_unset (h.stays.ints k o)
    same (int.Global k) o = ap (λ (r : Around). Is (r.global_ints k)) h.stays.around

-- the cells of the buffer are all that is held besides
showing : (n m size : ℕ) (out : List ℕ) (cells : List ℤ) (s t : State) → length cells ≡ size → Inside n m out cells s t → Showing n m size s t
showing n m size out cells s t many h = record { out = out; more = Some cells ∷ []; stays = h.stays; held_more = let e = sum_by-cons cells_of (Some cells) [] in omega (arith, e, many) }

output_inside : (n m : ℕ) (out : List ℕ) (cells : List ℤ) (s t : State) → Inside n m out cells s t → t.output ≡ out
output_inside n m out cells s t h = ap (λ (r : Around). r.output) h.stays.around

-- the buffer is there, and its cells are the widths
record WithWidths (n m size : ℕ) (wide : ℕ → ℕ) (s t : State) : Type 0 where
  pub cells : List ℤ
  pub as_many : length cells ≡ size
  pub inside : Inside n m s.output cells s t
  pub each : (j : ℕ) → j < size → slice_get cells j ≡ Some (pos (wide j))

-- the text was written
record WithText (n m size : ℕ) (text : List ℕ) (s t : State) : Type 0 where
  pub cells : List ℤ
  pub as_many : length cells ≡ size
  pub inside : Inside n m (s.output ++ text) cells s t

module _ (c : Code) (test : Test) (steps : Steps) (g : Scope) (reads : ReadsWithin g test steps) where
  made_does : (n m size : ℕ) (last : Int) (s : State) → read_int last s ≡ Is (pos size) → size < 2 ^ 31 → Does c (Showing n m size s) 1 (stmt.Cells (buf.Local m) (expr.Var last) ∷ []) s (Inside n m s.output (replicate size (pos 0)) s) NoFault
  made_does n m size last s is small =
      does_Cells c (Showing n m size s) (buf.Local m) (expr.Var last) s (Inside n m s.output zeros s) NoFault size (value_Var last c.tables s ∙ is) small
      (λ rest. showing n m size s.output zeros s (made rest) (length-replicate size (pos 0)) (inside rest))
      (λ rest. inside rest)
    where
      zeros : List ℤ
      zeros = replicate size (pos 0)

      made : Todo → State
      made rest = settled (record s { bufs = put s.bufs m (Some (length s.heap)); heap = s.heap ++ Some zeros ∷ []; todo = rest })

      inside : (rest : Todo) → Inside n m s.output zeros s (made rest)
      inside rest = record {
        stays = record { ints = λ x lt. refl; bufs = λ p lt. put_other s.bufs m (Some (length s.heap)) p (λ e. omega (arith, e, lt)); around = refl; heap = refl };
        named = put_at s.bufs m (Some (length s.heap));
      }

  freed_does : (n m size : ℕ) (text : List ℕ) (s t : State) → WithText n m size text s t → Does c (Showing n m size s) 1 (stmt.Free (buf.Local m) ∷ []) t (Shown n m text s) NoFault
  freed_does n m size text s t h =
      does_Free c (Showing n m size s) (buf.Local m) t (Shown n m text s) NoFault (length s.heap) h.cells h.inside.named (inside_live n m (s.output ++ text) h.cells s t h.inside)
      (λ rest. record { out = s.output ++ text; more = None ∷ []; stays = gone rest; held_more = let e = sum_by-cons cells_of None [] in omega (arith, e) })
      (λ rest. record { freed = 1; stays = gone rest; as_many = ap (sum_by cells_of) (gone rest).heap ∙ sum_by-append cells_of s.heap (None ∷ []) ∙ none_more (held s) })
    where
      gone : (rest : Todo) → Stays n m (with_more (s.output ++ text) (None ∷ []) s) (settled (record t { todo = rest; heap = slice_set t.heap (length s.heap) None }))
      gone rest = record {
        ints = h.inside.stays.ints;
        bufs = h.inside.stays.bufs;
        around = h.inside.stays.around;
        heap = ap (λ (l : List (Option (List ℤ))). slice_set l (length s.heap) None) h.inside.stays.heap ∙ set_last s.heap (Some h.cells) None;
      }

      none_more : (x : ℕ) → x + sum_by cells_of (None ∷ []) ≡ x
      none_more x = let e = sum_by-cons cells_of None [] in omega (arith, e)

  pub matrix_does : (n n2 m : ℕ) (lengths : List Int) (widths_are planes : List CStmt) → 1 ≤ length lengths → g.ints ≤ n → g.bufs ≤ m → n ≤ n2 → AreOld n lengths → WidthsRun test steps g lengths (buf.Local m) c n (m + 1) widths_are → PlanesPut test steps lengths (Justified (buf.Local m)) c n2 (m + 1) planes
      → (s : State) (ns : List ℕ) (k : ℕ) (item : ℕ → ℤ) (column : ℕ → ℕ → ℤ) (text : List ℕ) → 0 < product ns → 0 < rows_in_all ns → last_length ns < 2 ^ 31 → Hold s lengths ns → AreShort ns → Stands test steps c.tables s [] ns 0 k item → Unnamed g (length s.heap) s
      → ((j : ℕ) → j < last_length ns → ColumnItems test c.tables s [] ns j 0 (column j)) → ((j q : ℕ) → j < last_length ns → q < rows_in_all ns → in_range (column j q) ≡ true) → NestFits (Justified (buf.Local m)) (λ j. column_width Num (column j) (rows_in_all ns)) item ns 0 → nest_bytes Num (λ j. column_width Num (column j) (rows_in_all ns)) item ns 0 ≡ text
      → Does c (Showing n m (last_length ns) s) (matrix_steps ns k) (stmt.Cells (buf.Local m) (expr.Var (slice_index_or lengths (length lengths - 1) (int.Local 0))) ∷ (widths_are ++ (planes ++ stmt.Free (buf.Local m) ∷ []))) s (Shown n m text s) NoFault
  matrix_does n n2 m lengths widths_are planes ranked le leb more old widths_run planes_put s ns k item column text some rows small held short stands apart items range fits text_is =
      does_then c Q 1 (W + (P + 1)) (stmt.Cells (buf.Local m) (expr.Var last) ∷ []) (widths_are ++ (planes ++ stmt.Free (buf.Local m) ∷ [])) s (Inside n m s.output (replicate size (pos 0)) s) (Shown n m text s) NoFault
      (made_does n m size last s (last_held s lengths ns ranked held) small)
      (λ t h.
      does_then c Q W (P + 1) widths_are (planes ++ stmt.Free (buf.Local m) ∷ []) t (WithWidths n m size wide s) (Shown n m text s) NoFault (widths_there t h)
      (λ u w.
      does_then c Q P 1 planes (stmt.Free (buf.Local m) ∷ []) u (WithText n m size text s) (Shown n m text s) NoFault (text_there u w)
      (λ v x. freed_does n m size text s v x)))
    where
      size : ℕ
      size = last_length ns

      last : Int
      last = slice_index_or lengths (length lengths - 1) (int.Local 0)

      wide : ℕ → ℕ
      wide j = column_width Num (column j) (rows_in_all ns)

      W : ℕ
      W = size * (column_steps ns k + 2) + 2

      P : ℕ
      P = 1 + nest_steps ns k

      Q : State → Type 0
      Q = Showing n m size s

      widths_there : (t : State) → Inside n m s.output (replicate size (pos 0)) s t → Does c Q W widths_are t (WithWidths n m size wide s) NoFault
      widths_there t h =
          let zeros = replicate size (pos 0) in
          let seen = inside_seen g n m s.output zeros s t le leb apart h in
          let as_many = reads.same_steps c.tables s t seen in
          let most = stands.takes in
          does_weaken c (Measuring n (m + 1) (length s.heap) size t) Q W W widths_are t (Measured n (m + 1) (length s.heap) size wide t size) (WithWidths n m size wide s) NoFault NoFault
          (λ u q. showing n m size s.output q.0 s u q.1 (inside_cells n m s.output zeros q.0 s t u h q.2))
          (λ u q. record { cells = q.cells; as_many = q.as_many; inside = inside_cells n m s.output zeros q.cells s t u h q.stays; each = q.each })
          (λ kind u q. q) (omega arith)
          (widths_run t ns (length s.heap) k zeros column (hold_inside n m s.output zeros s t lengths ns h old held) short rows small h.named (inside_live n m s.output zeros s t h) (length-replicate size (pos 0)) (inside_unnamed g n m s.output zeros s t leb apart h) (omega (arith, as_many, most))
          (λ j lj. items_seen g test steps c.tables s t [] ns j 0 (column j) reads seen (items j lj)) range)

      text_there : (u : State) → WithWidths n m size wide s u → Does c Q P planes u (WithText n m size text s) NoFault
      text_there u w =
          let h = w.inside in
          let seen = inside_seen g n m s.output w.cells s u le leb apart h in
          let as_many = reads.same_steps c.tables s u seen in
          let most = stands.takes in
          does_weaken c (Printing n2 (m + 1) u) Q P P planes u (Printed n2 (m + 1) (nest_bytes Num wide item ns 0) u) (WithText n m size text s) NoFault NoFault
          (λ v q. showing n m size q.0 w.cells s v w.as_many (inside_output n m s.output q.0 w.cells s u v h (stays_less n n2 (m + 1) (m + 1) (with_output q.0 u) v more (omega arith) q.1)))
          (λ v q. record {
            cells = w.cells;
            as_many = w.as_many;
            inside = subst (λ l. Inside n m l w.cells s v) (ap (λ l. l ++ nest_bytes Num wide item ns 0) (output_inside n m s.output w.cells s u h) ∙ ap (λ l. s.output ++ l) text_is)
                (inside_output n m s.output (u.output ++ nest_bytes Num wide item ns 0) w.cells s u v h (stays_less n n2 (m + 1) (m + 1) (with_output (u.output ++ nest_bytes Num wide item ns 0) u) v more (omega arith) q));
          })
          (λ kind v q. q) (omega arith)
          (planes_put u ns k wide item some (hold_inside n m s.output w.cells s u lengths ns h old held) short
          record { takes = omega (arith, as_many, most); items = λ is inside. reads.same c.tables s u seen is ∙ stands.items is inside }
          (λ j lj. record { buffer = length s.heap; cells = w.cells; named = h.named; live = inside_live n m s.output w.cells s u h; cell = w.each j lj })
          fits)
