-- A value survives what does not touch it: the setting of another variable, a write to another buffer, a new buffer, a freed one.
-- It must not know what the values are for.
use Rattle.std.proofs.Common.{◌≡◌, ◌∙◌, ap, sym, refl, ℕ, zero, suc, ◌<◌, List, [], ◌∷◌, ◌++◌, ℤ, arith}
use Rattle.std.specs.Prelude.{Option, Some, None, IsTrue, length, slice_get, slice_set, option_and_then}
use Rattle.aplc_cprof.specs.declared.syntax.Int.{Int}
use Rattle.aplc_cprof.specs.declared.syntax.Int.TheVariants as int
use Rattle.aplc_cprof.specs.declared.syntax.Buf.{Buf}
use Rattle.aplc_cprof.specs.declared.syntax.Buf.TheVariants as buf
use Rattle.aplc_cprof.specs.Machine.{Todo, State, read_int, named_buf, set_int, set_buf, settled}
use Rattle.aplc_cprof.specs.WellFormed.{Scope, is_int, is_buf}
use Rattle.aplc_cprof.proofs.Stores.{Agree, read_other, named_other, named_set_int, read_set_buf, get_set_other}

-- ---- States that agree on the names of a scope

-- a state agrees with itself
pub agree_same : (sc : Scope) (s : State) → Agree sc s s
agree_same sc s = record { ints = λ x h. refl; cells = λ p h. refl }

-- and with what a third one agrees with
pub agree_trans : (sc : Scope) (s t u : State) → Agree sc s t → Agree sc t u → Agree sc s u
agree_trans sc s t u p q = record { ints = λ x h. p.ints x h ∙ q.ints x h; cells = λ b h. p.cells b h ∙ q.cells b h }

read_onward : (x : Int) (s : State) (todo : Todo) → read_int x s ≡ read_int x (settled (record s { todo = todo }))
read_onward (int.Local k) s todo = refl
read_onward (int.Global k) s todo = refl

named_onward : (p : Buf) (s : State) (todo : Todo) → named_buf p s ≡ named_buf p (settled (record s { todo = todo }))
named_onward (buf.Local k) s todo = refl
named_onward (buf.Global k) s todo = refl

-- a step has been counted, and something else is due
pub agree_onward : (sc : Scope) (s : State) (todo : Todo) → Agree sc s (settled (record s { todo = todo }))
agree_onward sc s todo = record { ints = λ x h. read_onward x s todo; cells = λ p h. ap (option_and_then (slice_get s.heap)) (named_onward p s todo) }

-- ---- What the scope does not have

heap_set_int : (x : Int) (v : ℤ) (s : State) → (set_int x v s).heap ≡ s.heap
heap_set_int (int.Local k) v s = refl
heap_set_int (int.Global k) v s = refl

heap_set_buf : (p : Buf) (b : Option ℕ) (s : State) → (set_buf p b s).heap ≡ s.heap
heap_set_buf (buf.Local k) b s = refl
heap_set_buf (buf.Global k) b s = refl

-- a variable that is not of the scope is set
pub agree_set_int : (sc : Scope) (x : Int) (v : ℤ) (s : State) → (IsTrue (is_int sc x) → ⊥) → Agree sc s (set_int x v s)
agree_set_int sc x v s other = record {
  ints = λ y h. sym (read_other x y v s (λ (e : y ≡ x). other (ap (λ z. is_int sc z) (sym e) ∙ h)));
  cells = λ p h.
      ap (option_and_then (slice_get s.heap)) (sym (named_set_int p x v s))
      ∙ ap (λ (l : List (Option (List ℤ))). option_and_then (slice_get l) (named_buf p (set_int x v s))) (sym (heap_set_int x v s));
}

-- a buffer variable that is not of the scope is set
pub agree_set_buf : (sc : Scope) (p : Buf) (b : Option ℕ) (s : State) → (IsTrue (is_buf sc p) → ⊥) → Agree sc s (set_buf p b s)
agree_set_buf sc p b s other = record {
  ints = λ x h. sym (read_set_buf x p b s);
  cells = λ q h.
      ap (option_and_then (slice_get s.heap)) (sym (named_other p q b s (λ (e : q ≡ p). other (ap (λ z. is_buf sc z) (sym e) ∙ h))))
      ∙ ap (λ (l : List (Option (List ℤ))). option_and_then (slice_get l) (named_buf q (set_buf p b s))) (sym (heap_set_buf p b s));
}

-- ---- The heap

read_heap : (x : Int) (s : State) (heap : List (Option (List ℤ))) → read_int x s ≡ read_int x (record s { heap = heap })
read_heap (int.Local k) s heap = refl
read_heap (int.Global k) s heap = refl

named_heap : (p : Buf) (s : State) (heap : List (Option (List ℤ))) → named_buf p s ≡ named_buf p (record s { heap = heap })
named_heap (buf.Local k) s heap = refl
named_heap (buf.Global k) s heap = refl

-- another heap, in which each buffer that a name of the scope names is the same
pub agree_heap : (sc : Scope) (s : State) (heap : List (Option (List ℤ))) → ((p : Buf) (i : ℕ) → IsTrue (is_buf sc p) → named_buf p s ≡ Some i → slice_get s.heap i ≡ slice_get heap i) → Agree sc s (record s { heap = heap })
agree_heap sc s heap same = record { ints = λ x h. read_heap x s heap; cells = λ p h. at_name p (named_buf p s) refl (λ i e. same p i h e) ∙ ap (option_and_then (slice_get heap)) (named_heap p s heap) }
  where
    at_name : (p : Buf) (b : Option ℕ) → named_buf p s ≡ b → ((i : ℕ) → b ≡ Some i → slice_get s.heap i ≡ slice_get heap i) → option_and_then (slice_get s.heap) (named_buf p s) ≡ option_and_then (slice_get heap) (named_buf p s)
    at_name p None e f = ap (option_and_then (slice_get s.heap)) e ∙ ap (option_and_then (slice_get heap)) (sym e)
    at_name p (Some i) e f = ap (option_and_then (slice_get s.heap)) e ∙ f i refl ∙ ap (option_and_then (slice_get heap)) (sym e)

-- a buffer that no name of the scope names is written or freed
pub agree_slot : (sc : Scope) (s : State) (b : ℕ) (slot : Option (List ℤ)) → ((p : Buf) → IsTrue (is_buf sc p) → named_buf p s ≡ Some b → ⊥) → Agree sc s (record s { heap = slice_set s.heap b slot })
agree_slot sc s b slot other = agree_heap sc s (slice_set s.heap b slot) (λ p i h is. sym (get_set_other s.heap b i slot (λ (e : i ≡ b). other p h (is ∙ ap Some e))))

get_earlier : {A : Type 0} → (xs ys : List A) (i : ℕ) → i < length xs → slice_get xs i ≡ slice_get (xs ++ ys) i
get_earlier [] ys i lt = absurd (omega (arith, lt))
get_earlier (x ∷ xs) ys zero lt = refl
get_earlier (x ∷ xs) ys (suc i) lt = get_earlier xs ys i (omega (arith, lt))

-- new buffers are made, where each name of the scope that is not null names an older one
pub agree_new : (sc : Scope) (s : State) (new : List (Option (List ℤ))) → ((p : Buf) (i : ℕ) → IsTrue (is_buf sc p) → named_buf p s ≡ Some i → i < length s.heap) → Agree sc s (record s { heap = s.heap ++ new })
agree_new sc s new older = agree_heap sc s (s.heap ++ new) (λ p i h is. get_earlier s.heap new i (older p i h is))
