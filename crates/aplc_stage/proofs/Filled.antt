-- Elements that go into a buffer of their own.
-- It must not know what the elements are.
use Rattle.std.proofs.Common.{◌≡◌, ℕ, ◌+◌, ◌*◌, ◌<◌, ◌≤◌, List, [], ◌∷◌, ◌++◌, length, drop, refl, sym, ap, ◌∙◌, subst, arith, append-nil, true, ℤ}
use Rattle.std.specs.Prelude.{Option, Some, pos, ◌^◌, slice_get, slice_set, replicate}
use Rattle.std.proofs.lemmas.List.{length-replicate, drop_all}
use Rattle.aplc_arr.specs.Arrays.{product, shape_fits, lengths_fit}
use Rattle.aplc_arr.specs.Delayed.{Delayed}
use Rattle.aplc_arr.proofs.Elements.{count-cells}
use Rattle.aplc_arr.proofs.Keeping.{parts-fit, most-of}
use Rattle.aplc_arr.proofs.Basics.{and-parts}
use Rattle.aplc_cprof.specs.declared.syntax.Int.{Int}
use Rattle.aplc_cprof.specs.declared.syntax.Buf.{Buf}
use Rattle.aplc_cprof.specs.declared.syntax.Buf.TheVariants as buf
use Rattle.aplc_cprof.specs.declared.syntax.CExpr.TheVariants as expr
use Rattle.aplc_cprof.specs.declared.syntax.CStmt.{CStmt}
use Rattle.aplc_cprof.specs.declared.syntax.CStmt.TheVariants as stmt
use Rattle.aplc_cprof.specs.Blocks.{Blocks}
use Rattle.aplc_cprof.specs.WellFormed.{Scope, is_buf, is_expr}
use Rattle.aplc_cprof.specs.Machine.{State, Code, Todo, Is, read_int, put, settled}
use Rattle.aplc_cprof.specs.Frames.{IsOldBuf, AreOld, around_of, Stays, Hold, with_buffer}
use Rattle.aplc_cprof.specs.Emitted.{no_names, Grown, IsFormed}
use Rattle.aplc_cprof.proofs.Values.{value_Var}
use Rattle.aplc_cprof.proofs.Forms.{is_Cells}
use Rattle.aplc_cprof.proofs.Paths.{Does, does_then, does_weaken, does_Cells}
use Rattle.aplc_cprof.proofs.Frames.{put_at, put_other, hold_stays}
use Rattle.aplc_cprof.proofs.Emitted.{is_below, both_true, var_formed, one_stmt, stmts_append, grown_then, within_less}
use Rattle.aplc_cprof.proofs.Stores.{get_last}
use Rattle.aplc_collect.specs.Elements.{Test, Steps}
use Rattle.aplc_fill.specs.Fills.{AreShort, CellsAlone, FilledWith, FirstFault, fill_steps, Fills}
use Rattle.aplc_step.specs.declared.stepper.Origin.TheVariants as origin
use Rattle.aplc_stage.specs.declared.staged.Staged.TheVariants as staged
use Rattle.aplc_stage.specs.Computes.{with_heap, Making, NoFault}
use Rattle.aplc_stage.specs.Pieces.{Counts, StandsBeside, Gathered, FaultGathered, Gathers}
use Rattle.aplc_stage.proofs.Heaps.{hold_heap, set_last, one_held, none_made}

-- lengths of a shape that fits are short
short_lengths : (ns : List ℕ) → lengths_fit ns ≡ true → AreShort ns
short_lengths [] h = tt
short_lengths (n ∷ ns) h =
    let parts = and-parts _ (lengths_fit ns) h in
    let most = most-of n parts.0 in
    (omega (arith, most), short_lengths ns parts.1)

few : (ns : List ℕ) → shape_fits ns ≡ true → product ns < 2 ^ 31
few ns h = let most = most-of (product ns) (parts-fit ns h).1 in omega (arith, most)

-- the buffer was made
record Roomed (n m size : ℕ) (s t : State) : Type 0 where
  pub stays : Stays n m (with_heap (s.heap ++ Some (replicate size (pos 0)) ∷ []) s) t
  pub named : t.bufs m ≡ Some (length s.heap)

module _ (c : Code) (test : Test) (steps : Steps) (n m : ℕ) (s : State) (d : Delayed) (k : ℕ) where
  abbrev P : ℕ
  P = product d.shape

  abbrev b : ℕ
  b = length s.heap

  abbrev Way : State → Type 0
  Way = Making n m P s

  -- the state with these cells in the new buffer
  beside : (n' m' : ℕ) (u t : State) (cells : List ℤ) → n ≤ n' → m ≤ m' → Roomed n m P s u → ((x : ℕ) → x < n' → t.ints x ≡ u.ints x) → ((p : ℕ) → p < m' → t.bufs p ≡ u.bufs p) → around_of t ≡ around_of u → t.heap ≡ slice_set u.heap b (Some cells) → Stays n m (with_heap (s.heap ++ Some cells ∷ []) s) t
  beside n' m' u t cells le leb r ints bufs around heap = record {
    ints = λ x lt. ints x (omega (arith, le, lt)) ∙ r.stays.ints x lt;
    bufs = λ p lt. bufs p (omega (arith, leb, lt)) ∙ r.stays.bufs p lt;
    around = around ∙ r.stays.around;
    heap = heap ∙ ap (λ (h : List (Option (List ℤ))). slice_set h b (Some cells)) r.stays.heap ∙ set_last s.heap (Some (replicate P (pos 0))) (Some cells);
  }

  made : (cells : List ℤ) (t : State) → length cells ≡ P → Stays n m (with_heap (s.heap ++ Some cells ∷ []) s) t → Way t
  made cells t many f = record { more = Some cells ∷ []; stays = f; held_more = let e = one_held cells in omega (arith, e, many) }

  -- the buffer is made
  cells_run : (p : Buf) (v : Int) (t : State) → p ≡ buf.Local m → P < 2 ^ 31 → Stays n m s t → read_int v t ≡ Is (pos P) → Does c Way 1 (stmt.Cells p (expr.Var v) ∷ []) t (Roomed n m P s) NoFault
  cells_run p v t ep small f is =
      subst (λ (q : Buf). Does c Way 1 (stmt.Cells q (expr.Var v) ∷ []) t (Roomed n m P s) NoFault) (sym ep)
      (does_Cells c Way (buf.Local m) (expr.Var v) t (Roomed n m P s) NoFault P (value_Var v c.tables t ∙ is) small
      (λ rest. made (replicate P (pos 0)) _ (length-replicate P (pos 0)) (roomed rest).stays) roomed)
    where
      roomed : (rest : Todo) → Roomed n m P s (settled (record t { todo = rest; bufs = put t.bufs m (Some (length t.heap)); heap = t.heap ++ Some (replicate P (pos 0)) ∷ [] }))
      roomed rest = record {
        stays = record {
          ints = f.ints;
          bufs = λ q lt. put_other t.bufs m (Some (length t.heap)) q (λ e. omega (arith, lt, e)) ∙ f.bufs q lt;
          around = f.around;
          heap = ap (λ (h : List (Option (List ℤ))). h ++ Some (replicate P (pos 0)) ∷ []) f.heap;
        };
        named = put_at t.bufs m (Some (length t.heap)) ∙ ap (λ (h : List (Option (List ℤ))). Some (length h)) f.heap;
      }

  -- it is filled
  filled_run : (n' : ℕ) (g : Scope) (depth : ℕ) (b0 b1 : Blocks) (lengths : List Int) (u : State) (fills : Fills test steps g depth b0 b1 lengths (buf.Local m)) → b0.ints ≡ n' → b0.bufs ≡ m + 1 → n ≤ n' → Hold u lengths d.shape → shape_fits d.shape ≡ true → StandsBeside test steps c.tables n m s d k → Roomed n m P s u → Does c Way (fill_steps d.shape k) fills.code u (Gathered n m d s) (FaultGathered n m d s)
  filled_run n' g depth b0 b1 lengths u fills en em le hold fits stands r =
      does_weaken c (CellsAlone b0.ints b0.bufs b P u) Way (fill_steps d.shape k) (fill_steps d.shape k) fills.code u (FilledWith b0.ints b0.bufs b P (replicate P (pos 0)) d.shape d.element u) (Gathered n m d s) (FirstFault b0.ints b0.bufs b P d.shape d.element u) (FaultGathered n m d s)
      (λ t f. made f.cells t f.as_many (on t f))
      gathered
      (λ kind t f. record { stays = made f.stays.cells t f.stays.as_many (on t f.stays); given = f.given })
      (omega arith)
      (fills.runs c u d.shape b P (replicate P (pos 0)) k d.element hold (short_lengths d.shape (parts-fit d.shape fits).0) r.named is (length-replicate P (pos 0)) (omega arith) (few d.shape fits)
      record { takes = λ other many. stands.takes (with_buffer b other u) other (whatever other); items = λ other many. stands.items (with_buffer b other u) other (whatever other) })
    where
      is : slice_get u.heap b ≡ Some (Some (replicate P (pos 0)))
      is = ap (λ (h : List (Option (List ℤ))). slice_get h b) r.stays.heap ∙ get_last s.heap (Some (replicate P (pos 0)))

      whatever : (other : List ℤ) → Stays n m (with_heap (s.heap ++ Some other ∷ []) s) (with_buffer b other u)
      whatever other = beside n m u (with_buffer b other u) other (omega arith) (omega arith) r (λ x lt. refl) (λ p lt. refl) refl refl

      on : (t : State) (f : CellsAlone b0.ints b0.bufs b P u t) → Stays n m (with_heap (s.heap ++ Some f.cells ∷ []) s) t
      on t f = beside b0.ints b0.bufs u t f.cells (omega (arith, en, le)) (omega (arith, em)) r f.ints f.bufs f.around f.heap

      gathered : (t : State) → FilledWith b0.ints b0.bufs b P (replicate P (pos 0)) d.shape d.element u t → Gathered n m d s t
      gathered t f =
          let many : length f.values ≡ P = count-cells d f.values f.given in
          let none : drop (length f.values) (replicate P (pos 0)) ≡ [] = drop_all (length f.values) (replicate P (pos 0)) (let e = length-replicate P (pos 0) in omega (arith, e, many)) in
          let whole : f.stays.cells ≡ f.values = f.as_written ∙ ap (λ l. f.values ++ l) none ∙ append-nil f.values in
          record {
            cells = f.values;
            given = f.given;
            stays = subst (λ (l : List ℤ). Stays n m (with_heap (s.heap ++ Some l ∷ []) s) t) whole (on t f.stays);
            named = f.stays.bufs m (omega (arith, em)) ∙ r.named;
          }

-- ---- The builder's states

-- a buffer variable that was given just now
pub new_buffer : (b1 b2 b3 : Blocks) (p : Buf) (l : List CStmt) → p ≡ buf.Local b1.bufs → b2 ≡ record b1 { bufs = b1.bufs + 1 } → b3 ≡ record b2 { inner = l } → IsOldBuf b3.bufs p
new_buffer b1 b2 b3 p l ep e2 e3 =
    let i : b2.bufs ≡ b1.bufs + 1 = ap (λ (b : Blocks). b.bufs) e2 in
    let j : b3.bufs ≡ b2.bufs = ap (λ (b : Blocks). b.bufs) e3 in
    subst (λ (q : Buf). IsOldBuf b3.bufs q) (sym ep) (omega (arith, i, j))

pub gather_built : (test : Test) (steps : Steps) (g : Scope) (depth : ℕ) (b0 b1 b2 b3 b4 : Blocks) (lengths : List Int) (v : Int) (p : Buf) → AreOld b0.ints lengths → Counts b0 b1 lengths v → p ≡ buf.Local b1.bufs → b2 ≡ record b1 { bufs = b1.bufs + 1 } → b3 ≡ record b2 { inner = b2.inner ++ stmt.Cells p (expr.Var v) ∷ [] } → Fills test steps g depth b3 b4 lengths p → Gathers test steps g depth b0 b4 lengths (staged.Cells (origin.Buffer p) lengths)
gather_built test steps g depth b0 b1 b2 b3 b4 lengths v p old cn ep e2 e3 fl = record {
  code = cn.code ++ made_stmt ∷ fl'.code;
  grown = grown_then cn.code (made_stmt ∷ fl'.code) b0 b1 b4 cn.grown (grown_then (made_stmt ∷ []) fl'.code b1 b3 b4 one_grown fl'.grown);
  one_more = omega (arith, cn.bufs, bufs3, fl'.grown.bufs);
  formed = formed_is;
  name = ap (λ (q : Buf). staged.Cells (origin.Buffer q) lengths) pe;
  runs = runs_are;
}
  where
    n : ℕ
    n = b0.ints

    m : ℕ
    m = b0.bufs

    pe : p ≡ buf.Local m
    pe = ep ∙ ap buf.Local cn.bufs

    fl' : Fills test steps g depth b3 b4 lengths (buf.Local m)
    fl' = subst (λ (q : Buf). Fills test steps g depth b3 b4 lengths q) pe fl

    made_stmt : CStmt
    made_stmt = stmt.Cells (buf.Local m) (expr.Var v)

    ints3 : b3.ints ≡ b1.ints
    ints3 = ap (λ (b : Blocks). b.ints) e3 ∙ ap (λ (b : Blocks). b.ints) e2

    bufs3 : b3.bufs ≡ b1.bufs + 1
    bufs3 = ap (λ (b : Blocks). b.bufs) e3 ∙ ap (λ (b : Blocks). b.bufs) e2

    one_grown : Grown (made_stmt ∷ []) b1 b3
    one_grown = record {
      inner = ap (λ (b : Blocks). b.inner) e3 ∙ ap (λ (b : Blocks). b.inner ++ stmt.Cells p (expr.Var v) ∷ []) e2 ∙ ap (λ (q : Buf). b1.inner ++ stmt.Cells q (expr.Var v) ∷ []) pe;
      outer = ap (λ (b : Blocks). b.outer) e3 ∙ ap (λ (b : Blocks). b.outer) e2;
      ints = omega (arith, ints3);
      bufs = omega (arith, bufs3);
    }

    formed_is : IsFormed g lengths [] b4 (2 + depth + length lengths) (cn.code ++ made_stmt ∷ fl'.code)
    formed_is sc room within are bufs more more_bufs le =
        let here : is_buf sc (buf.Local m) ≡ true = is_below m sc.bufs (omega (arith, cn.bufs, bufs3, fl'.grown.bufs, more_bufs)) in
        let counted = cn.declared sc are (omega (arith, ints3, fl'.grown.ints, more)) in
        stmts_append sc (Some room) cn.code (made_stmt ∷ fl'.code)
        (cn.formed sc room (within_less no_names g sc (omega arith) (omega arith) (omega arith) (omega arith) within) are tt (omega (arith, ints3, fl'.grown.ints, more)) (omega (arith, bufs3, fl'.grown.bufs, more_bufs)) (omega (arith, le)))
        (one_stmt sc (Some room) made_stmt fl'.code
        (is_Cells sc (buf.Local m) (expr.Var v) (Some room) ∙ both_true (is_buf sc (buf.Local m)) (is_expr sc (expr.Var v) (Some room)) here (var_formed sc v counted room))
        (fl'.formed sc room within are (here, tt) more more_bufs le))

    runs_are : (c : Code) (s : State) (d : Delayed) (k : ℕ) → Hold s lengths d.shape → shape_fits d.shape ≡ true → StandsBeside test steps c.tables n m s d k → Does c (Making n m (product d.shape) s) (product d.shape * (k + 4 * length d.shape + 2) + 6) (cn.code ++ made_stmt ∷ fl'.code) s (Gathered n m d s) (FaultGathered n m d s)
    runs_are c s d k hold fits stands =
        let P = product d.shape in
        let Way : State → Type 0 = Making n m P s in
        let Counted : State → Type 0 = λ t. Stays n m s t × (read_int v t ≡ Is (pos P)) in
        does_weaken c Way Way (3 + (1 + fill_steps d.shape k)) (P * (k + 4 * length d.shape + 2) + 6) (cn.code ++ made_stmt ∷ fl'.code) s (Gathered n m d s) (Gathered n m d s) (FaultGathered n m d s) (FaultGathered n m d s) (λ u x. x) (λ u x. x) (λ kind u x. x) (omega arith)
        (does_then c Way 3 (1 + fill_steps d.shape k) cn.code (made_stmt ∷ fl'.code) s Counted (Gathered n m d s) (FaultGathered n m d s)
        (does_weaken c (Stays n m s) Way 3 3 cn.code s Counted Counted NoFault (FaultGathered n m d s) (λ u f. none_made n m P s u f) (λ u x. x) (λ kind u x. absurd x) (omega arith) (cn.runs c s d.shape hold (few d.shape fits)))
        (λ t counted. does_then c Way 1 (fill_steps d.shape k) (made_stmt ∷ []) fl'.code t (Roomed n m P s) (Gathered n m d s) (FaultGathered n m d s)
        (does_weaken c Way Way 1 1 (made_stmt ∷ []) t (Roomed n m P s) (Roomed n m P s) NoFault (FaultGathered n m d s) (λ u x. x) (λ u x. x) (λ kind u x. absurd x) (omega arith)
        (cells_run c test steps n m s d k (buf.Local m) v t refl (few d.shape fits) counted.0 counted.1))
        (λ u r. filled_run c test steps n m s d k b3.ints g depth b3 b4 lengths u fl' refl (bufs3 ∙ ap (λ i. i + 1) cn.bufs) (omega (arith, ints3, cn.grown.ints))
        (hold_stays n m (with_heap (s.heap ++ Some (replicate P (pos 0)) ∷ []) s) u lengths d.shape r.stays old (hold_heap (s.heap ++ Some (replicate P (pos 0)) ∷ []) s lengths d.shape hold))
        fits stands r)))
