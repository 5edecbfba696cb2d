-- A state with other buffers, or with one more behind the others.
-- It must not know what the cells are.
use Rattle.std.proofs.Common.{◌≡◌, ℕ, suc, List, [], ◌∷◌, ◌++◌, length, refl, sym, ap, ◌∙◌, arith, append-nil, ℤ}
use Rattle.std.specs.Prelude.{Option, Some, None, option_and_then, slice_get, slice_set, sum_by}
use Rattle.aplc_cprof.specs.declared.syntax.Int.{Int}
use Rattle.aplc_cprof.specs.declared.syntax.Int.TheVariants as int
use Rattle.aplc_cprof.specs.declared.syntax.Buf.{Buf}
use Rattle.aplc_cprof.specs.declared.syntax.Buf.TheVariants as buf
use Rattle.aplc_cprof.specs.Machine.{State, read_int, named_buf, cells_of}
use Rattle.aplc_cprof.specs.Frames.{IsOldBuf, Stays, Hold, live, contents}
use Rattle.aplc_cprof.proofs.Frames.{named_around}
use Rattle.aplc_cprof.proofs.Stores.{get_before, held_new}
use Rattle.aplc_step.specs.declared.stepper.Origin.{Origin}
use Rattle.aplc_step.specs.declared.stepper.Origin.TheVariants as origin
use Rattle.aplc_step.specs.Steppers.{cells_at, HoldInts, StepsOver}
use Rattle.aplc_stage.specs.Computes.{with_heap, Making}

-- ---- Variables do not see the heap

pub read_heap : (x : Int) (heap : List (Option (List ℤ))) (s : State) → read_int x (with_heap heap s) ≡ read_int x s
read_heap (int.Local k) heap s = refl
read_heap (int.Global k) heap s = refl

pub named_heap : (p : Buf) (heap : List (Option (List ℤ))) (s : State) → named_buf p (with_heap heap s) ≡ named_buf p s
named_heap (buf.Local k) heap s = refl
named_heap (buf.Global k) heap s = refl

pub hold_heap : (heap : List (Option (List ℤ))) (s : State) (xs : List Int) (ns : List ℕ) → Hold s xs ns → Hold (with_heap heap s) xs ns
hold_heap heap s [] [] h = h
hold_heap heap s [] (n ∷ ns) h = h
hold_heap heap s (x ∷ xs) [] h = h
hold_heap heap s (x ∷ xs) (n ∷ ns) h = (read_heap x heap s ∙ h.0, hold_heap heap s xs ns h.1)

pub ints_heap : (heap : List (Option (List ℤ))) (s : State) (xs : List Int) (zs : List ℤ) → HoldInts s xs zs → HoldInts (with_heap heap s) xs zs
ints_heap heap s [] [] h = h
ints_heap heap s [] (z ∷ zs) h = h
ints_heap heap s (x ∷ xs) [] h = h
ints_heap heap s (x ∷ xs) (z ∷ zs) h = (read_heap x heap s ∙ h.0, ints_heap heap s xs zs h.1)

pub over_heap : (heap : List (Option (List ℤ))) (lengths : List Int) (base : Int) (strides : List Int) (s : State) (ns : List ℕ) (at : List ℕ → ℕ) (size : ℕ) → StepsOver lengths base strides s ns at size → StepsOver lengths base strides (with_heap heap s) ns at size
over_heap heap lengths base strides s ns at size over = record {
  shape = hold_heap heap s lengths ns over.shape;
  first = over.first;
  widths = over.widths;
  base_is = read_heap base heap s ∙ over.base_is;
  strides_are = ints_heap heap s strides over.widths over.strides_are;
  axes = over.axes;
  at_place = over.at_place;
  below = over.below;
}

-- ---- Buffers that were there

live_at : (o : Option (Option (List ℤ))) (cells : List ℤ) → live o ≡ Some cells → o ≡ Some (Some cells)
live_at None cells e = absurd (cc e)
live_at (Some None) cells e = absurd (cc e)
live_at (Some (Some xs)) cells e = ap Some e

still_there : (heap more : List (Option (List ℤ))) (o : Option ℕ) (cells : List ℤ) → live (option_and_then (slice_get heap) o) ≡ Some cells → live (option_and_then (slice_get (heap ++ more)) o) ≡ Some cells
still_there heap more None cells e = absurd (cc e)
still_there heap more (Some b) cells e = ap live (get_before heap more b (Some cells) (live_at (slice_get heap b) cells e))

-- the buffer that holds these cells
pub buffer_of : (p : Buf) (s : State) (cells : List ℤ) → contents p s ≡ Some cells → (b : ℕ) × (named_buf p s ≡ Some b) × (slice_get s.heap b ≡ Some (Some cells))
buffer_of p s cells e = by_name (named_buf p s) refl e
  where
    by_name : (o : Option ℕ) → named_buf p s ≡ o → live (option_and_then (slice_get s.heap) o) ≡ Some cells → (b : ℕ) × (named_buf p s ≡ Some b) × (slice_get s.heap b ≡ Some (Some cells))
    by_name None h k = absurd (cc k)
    by_name (Some b) h k = (b, h, live_at (slice_get s.heap b) cells k)

-- a buffer variable that was given before the m-th, or a table
abbrev pub IsOldOrigin : ℕ → Origin → Type 0
IsOldOrigin m (origin.Buffer p) = IsOldBuf m p
IsOldOrigin m (origin.Table k) = Unit {0}

-- its cells are there beside new buffers
pub cells_beside : (from : Origin) (tables : List (List ℤ)) (n m : ℕ) (more : List (Option (List ℤ))) (s t : State) (cells : List ℤ) → IsOldOrigin m from → Stays n m (with_heap (s.heap ++ more) s) t → cells_at from tables s ≡ Some cells → cells_at from tables t ≡ Some cells
cells_beside (origin.Table k) tables n m more s t cells old f e = e
cells_beside (origin.Buffer p) tables n m more s t cells old f e =
    ap (λ (h : List (Option (List ℤ))). live (option_and_then (slice_get h) (named_buf p t))) f.heap
    ∙ ap (λ o. live (option_and_then (slice_get (s.heap ++ more)) o)) (named_around m (with_heap (s.heap ++ more) s) t p f.bufs f.around old ∙ named_heap p (s.heap ++ more) s)
    ∙ still_there s.heap more (named_buf p s) cells e

-- ---- A buffer behind the others

pub set_last : {A : Type 0} (xs : List A) (x y : A) → slice_set (xs ++ x ∷ []) (length xs) y ≡ xs ++ y ∷ []
set_last [] x y = refl
set_last (z ∷ xs) x y = let e : length (z ∷ xs) ≡ suc (length xs) = omega arith in ap (λ i. slice_set (z ∷ (xs ++ x ∷ [])) i y) e ∙ ap (λ l. z ∷ l) (set_last xs x y)

pub one_held : (cells : List ℤ) → sum_by cells_of (Some cells ∷ []) ≡ length cells
one_held cells = held_new [] (Some cells) ∙ omega arith

-- nothing was made yet
pub none_made : (n m size : ℕ) (s t : State) → Stays n m s t → Making n m size s t
none_made n m size s t f = record {
  more = [];
  stays = record { ints = f.ints; bufs = f.bufs; around = f.around; heap = f.heap ∙ sym (append-nil s.heap) };
  held_more = omega arith;
}
