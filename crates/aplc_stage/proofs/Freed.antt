-- The end of a value: its buffer is freed.
-- It must not know what the value was for.
use Rattle.std.proofs.Common.{◌≡◌, ℕ, ◌≤◌, List, [], ◌∷◌, ◌++◌, length, refl, ap, ◌∙◌, arith, true}
use Rattle.std.specs.Prelude.{Some, None, slice_get, slice_set}
use Rattle.aplc_arr.specs.Arrays.{Array}
use Rattle.aplc_cprof.specs.declared.syntax.Int.{Int}
use Rattle.aplc_cprof.specs.declared.syntax.Buf.{Buf}
use Rattle.aplc_cprof.specs.declared.syntax.Buf.TheVariants as buf
use Rattle.aplc_cprof.specs.declared.syntax.CStmt.TheVariants as stmt
use Rattle.aplc_cprof.specs.Blocks.{Blocks}
use Rattle.aplc_cprof.specs.WellFormed.{Scope, is_buf}
use Rattle.aplc_cprof.specs.Machine.{State, Code, Todo, named_buf}
use Rattle.aplc_cprof.specs.Frames.{AreGiven, Stays}
use Rattle.aplc_cprof.specs.Emitted.{IsWithin}
use Rattle.aplc_cprof.proofs.Forms.{is_Free}
use Rattle.aplc_cprof.proofs.Paths.{Does, does_weaken, does_none, does_Free}
use Rattle.aplc_cprof.proofs.Frames.{given_left}
use Rattle.aplc_cprof.proofs.Emitted.{is_below, one_stmt, grown_none, grown_emit, within_left}
use Rattle.aplc_cprof.proofs.Stores.{held_set}
use Rattle.aplc_collect.specs.Elements.{scope_of_buf}
use Rattle.aplc_step.specs.declared.stepper.Origin.TheVariants as origin
use Rattle.aplc_step.specs.Steppers.{scope_of_all}
use Rattle.aplc_stage.specs.declared.staged.Staged.TheVariants as staged
use Rattle.aplc_stage.specs.Staged.{scope_of_staged, Holds}
use Rattle.aplc_stage.specs.Computes.{Freed, Freeing, NoFault, Frees}
use Rattle.aplc_stage.proofs.Heaps.{buffer_of}
use Rattle.aplc_stage.proofs.Leads.{hold_length, some_cells}

buf_declared : (p : Buf) (b : Blocks) (sc : Scope) → AreGiven (scope_of_buf p) b → IsWithin (scope_of_buf p) sc → b.bufs ≤ sc.bufs → is_buf sc p ≡ true
buf_declared (buf.Local k) b sc g w le = let i = g.bufs in is_below k sc.bufs (omega (arith, i, le))
buf_declared (buf.Global k) b sc g w le = let i = w.global_bufs in is_below k sc.global_bufs (omega (arith, i))

-- nothing is freed, and nothing was done
still : (n m : ℕ) (s : State) (todo : Todo) → Stays n m s (record s { todo = todo })
still n m s todo = record { ints = λ x lt. refl; bufs = λ p lt. refl; around = refl; heap = refl }

-- a value that has no buffer
pub scalar_frees : (g : Scope) (b : Blocks) (x : Int) → Frees g b b (staged.Scalar x)
scalar_frees g b x = record {
  code = [];
  grown = grown_none b;
  names = (refl, refl);
  formed = λ sc room within are bufs more more_bufs le. refl;
  runs = λ c s a h.
      does_weaken c (Freeing b.ints b.bufs s) (Freeing b.ints b.bufs s) 0 1 [] s (Stays b.ints b.bufs s) (Freed b.ints b.bufs (staged.Scalar x) a s) NoFault NoFault (λ u y. y) (λ u y. y) (λ i u y. y) (omega arith)
      (does_none c (Freeing b.ints b.bufs s) s (Stays b.ints b.bufs s) NoFault (still b.ints b.bufs s));
}

pub table_frees : (g : Scope) (b : Blocks) (k : ℕ) (lengths : List Int) → Frees g b b (staged.Cells (origin.Table k) lengths)
table_frees g b k lengths = record {
  code = [];
  grown = grown_none b;
  names = (refl, refl);
  formed = λ sc room within are bufs more more_bufs le. refl;
  runs = λ c s a h.
      does_weaken c (Freeing b.ints b.bufs s) (Freeing b.ints b.bufs s) 0 1 [] s (Stays b.ints b.bufs s) (Freed b.ints b.bufs (staged.Cells (origin.Table k) lengths) a s) NoFault NoFault (λ u y. y) (λ u y. y) (λ i u y. y) (omega arith)
      (does_none c (Freeing b.ints b.bufs s) s (Stays b.ints b.bufs s) NoFault (still b.ints b.bufs s));
}

-- a value in a buffer
pub buffer_frees : (b0 b1 : Blocks) (p : Buf) (lengths : List Int) → 1 ≤ length lengths → AreGiven (scope_of_staged (staged.Cells (origin.Buffer p) lengths)) b0 → b1 ≡ record b0 { inner = b0.inner ++ stmt.Free p ∷ [] } → Frees (scope_of_staged (staged.Cells (origin.Buffer p) lengths)) b0 b1 (staged.Cells (origin.Buffer p) lengths)
buffer_frees b0 b1 p lengths some given e1 = record {
  code = stmt.Free p ∷ [];
  grown = grown_emit (stmt.Free p) b0 b1 e1;
  names = (ap (λ (b : Blocks). b.ints) e1, bufs1);
  formed = λ sc room within are bufs more more_bufs le.
      one_stmt sc (Some room) (stmt.Free p) []
      (is_Free sc p (Some room) ∙ buf_declared p b0 sc (given_left (scope_of_buf p) (scope_of_all lengths) b0 given) (within_left (scope_of_buf p) (scope_of_all lengths) sc within) (omega (arith, bufs1, more_bufs))) refl;
  runs = λ c s a h. by_buffer c s a h (buffer_of p s a.cells h.cells);
}
  where
    bufs1 : b1.bufs ≡ b0.bufs
    bufs1 = ap (λ (b : Blocks). b.bufs) e1

    by_buffer : (c : Code) (s : State) (a : Array) → Holds c.tables s (staged.Cells (origin.Buffer p) lengths) a → (b : ℕ) × (named_buf p s ≡ Some b) × (slice_get s.heap b ≡ Some (Some a.cells)) → Does c (Freeing b0.ints b0.bufs s) 1 (stmt.Free p ∷ []) s (Freed b0.ints b0.bufs (staged.Cells (origin.Buffer p) lengths) a s) NoFault
    by_buffer c s a h (b, named, live) =
        let gone = held_set s.heap b (Some a.cells) None live in
        let whole = h.array.whole in
        let long : 1 ≤ length a.shape = let eq = hold_length s lengths a.shape h.shape in omega (arith, eq, some) in
        let taken = some_cells a.shape long in
        does_Free c (Freeing b0.ints b0.bufs s) p s (Freed b0.ints b0.bufs (staged.Cells (origin.Buffer p) lengths) a s) NoFault b a.cells named live
        (λ rest. record { heap = slice_set s.heap b None; stays = record { ints = λ x lt. refl; bufs = λ q lt. refl; around = refl; heap = refl }; held_less = omega (arith, gone) })
        (λ rest. (b, named, record { ints = λ x lt. refl; bufs = λ q lt. refl; around = refl; heap = refl }, omega (arith, gone, whole, taken)))
