-- What stays from one state to another, and what is read and seen then.
-- It must not know what the code between them is for.
use Rattle.std.proofs.Common.{◌≡◌, ℕ, zero, suc, ◌<◌, ◌≤◌, List, [], ◌∷◌, ◌++◌, length, refl, ap, ◌∙◌, arith, ℤ}
use Rattle.std.specs.Prelude.{Option, Some, None, max, slice_get, slice_set, option_and_then}
use Rattle.std.proofs.lemmas.Bool.Decides.{nat_tests}
use Rattle.aplc_cprof.specs.declared.syntax.Int.{Int}
use Rattle.aplc_cprof.specs.declared.syntax.Int.TheVariants as int
use Rattle.aplc_cprof.specs.declared.syntax.Buf.{Buf}
use Rattle.aplc_cprof.specs.declared.syntax.Buf.TheVariants as buf
use Rattle.aplc_cprof.specs.Blocks.{Blocks}
use Rattle.aplc_cprof.specs.WellFormed.{Scope}
use Rattle.aplc_cprof.specs.Machine.{State, Todo, Is, read_int, or_unset, named_buf, put, settled}
use Rattle.aplc_cprof.specs.Frames.{IsOld, AreOld, IsOldBuf, IsFresh, IsOldBut, AreOldBut, AreGiven, Around, around_of, Stays, with_buffer, Filling, live, SameSeen, Unnamed, Hold}
use Rattle.aplc_cprof.specs.Emitted.{joint}

pub put_at : {A : Type 0} (f : ℕ → A) (n : ℕ) (v : A) → put f n v n ≡ v
put_at f n v = grind (arith, nat_tests)

pub put_other : {A : Type 0} (f : ℕ → A) (n : ℕ) (v : A) (k : ℕ) → (n ≡ k → ⊥) → put f n v k ≡ f k
put_other f n v k ne = grind (arith, nat_tests)

-- the state after a local variable was set
abbrev pub after_set : ℕ → ℤ → Todo → State → State
after_set x v rest s = settled (record s { ints = put s.ints x (Some v); todo = rest })

-- ---- Names

pub old_more : (n m : ℕ) (x : Int) → n ≤ m → IsOld n x → IsOld m x
old_more n m (int.Local k) le h = omega (arith, le, h)
old_more n m (int.Global k) le h = tt

pub are_old_more : (n m : ℕ) (xs : List Int) → n ≤ m → AreOld n xs → AreOld m xs
are_old_more n m [] le h = tt
are_old_more n m (x ∷ xs) le h = (old_more n m x le h.0, are_old_more n m xs le h.1)

pub are_old_append : (n : ℕ) (xs ys : List Int) → AreOld n xs → AreOld n ys → AreOld n (xs ++ ys)
are_old_append n [] ys h k = k
are_old_append n (x ∷ xs) ys h k = (h.0, are_old_append n xs ys h.1 k)

pub old_buf_more : (m m' : ℕ) (p : Buf) → m ≤ m' → IsOldBuf m p → IsOldBuf m' p
old_buf_more m m' (buf.Local k) le h = omega (arith, le, h)
old_buf_more m m' (buf.Global k) le h = tt

pub fresh_old : (n m : ℕ) (x : Int) → IsFresh n m x → IsOld m x
fresh_old n m (int.Local k) h = h.1
fresh_old n m (int.Global k) h = absurd h

-- a name that is fresh since later is fresh since earlier
pub fresh_wider : (n n' m : ℕ) (x : Int) → n ≤ n' → IsFresh n' m x → IsFresh n m x
fresh_wider n n' m (int.Local k) le h = let lt = h.0 in (omega (arith, le, lt), h.1)
fresh_wider n n' m (int.Global k) le h = absurd h

pub fresh_more : (n m m' : ℕ) (x : Int) → m ≤ m' → IsFresh n m x → IsFresh n m' x
fresh_more n m m' (int.Local k) le h = let lt = h.1 in (h.0, omega (arith, le, lt))
fresh_more n m m' (int.Global k) le h = absurd h

pub old_but_more : (n n' q : ℕ) (x : Int) → n ≤ n' → IsOldBut n q x → IsOldBut n' q x
old_but_more n n' q (int.Local k) le h = let lt = h.0 in (omega (arith, le, lt), h.1)
old_but_more n n' q (int.Global k) le h = tt

pub are_old_but_more : (n n' q : ℕ) (xs : List Int) → n ≤ n' → AreOldBut n q xs → AreOldBut n' q xs
are_old_but_more n n' q [] le h = tt
are_old_but_more n n' q (x ∷ xs) le h = (old_but_more n n' q x le h.0, are_old_but_more n n' q xs le h.1)

pub are_old_but_append : (n q : ℕ) (xs ys : List Int) → AreOldBut n q xs → AreOldBut n q ys → AreOldBut n q (xs ++ ys)
are_old_but_append n q [] ys h k = k
are_old_but_append n q (x ∷ xs) ys h k = (h.0, are_old_but_append n q xs ys h.1 k)

old_but_old : (n q : ℕ) (x : Int) → IsOldBut n q x → IsOld n x
old_but_old n q (int.Local k) h = h.0
old_but_old n q (int.Global k) h = tt

pub are_old_but_old : (n q : ℕ) (xs : List Int) → AreOldBut n q xs → AreOld n xs
are_old_but_old n q [] h = tt
are_old_but_old n q (x ∷ xs) h = (old_but_old n q x h.0, are_old_but_old n q xs h.1)

-- names that were given before the q-th are none of them the q-th
old_is_but : (n q : ℕ) (x : Int) → n ≤ q → IsOld n x → IsOldBut n q x
old_is_but n q (int.Local k) le h = (h, λ e. omega (arith, le, h, e))
old_is_but n q (int.Global k) le h = tt

pub are_old_are_but : (n q : ℕ) (xs : List Int) → n ≤ q → AreOld n xs → AreOldBut n q xs
are_old_are_but n q [] le h = tt
are_old_are_but n q (x ∷ xs) le h = (old_is_but n q x le h.0, are_old_are_but n q xs le h.1)

-- what was given to a builder stays given
pub given_more : (g : Scope) (a b : Blocks) → a.ints ≤ b.ints → a.bufs ≤ b.bufs → AreGiven g a → AreGiven g b
given_more g a b le leb h = let i = h.ints in let j = h.bufs in record { ints = omega (arith, le, i); bufs = omega (arith, leb, j) }

pub given_left : (g h : Scope) (b : Blocks) → AreGiven (joint g h) b → AreGiven g b
given_left g h b k =
    let i = k.ints in let j = k.bufs in
    let p : g.ints ≤ max g.ints h.ints = omega arith in
    let q : g.bufs ≤ max g.bufs h.bufs = omega arith in
    record { ints = omega (arith, i, p); bufs = omega (arith, j, q) }

pub given_right : (g h : Scope) (b : Blocks) → AreGiven (joint g h) b → AreGiven h b
given_right g h b k =
    let i = k.ints in let j = k.bufs in
    let p : h.ints ≤ max g.ints h.ints = omega arith in
    let q : h.bufs ≤ max g.bufs h.bufs = omega arith in
    record { ints = omega (arith, i, p); bufs = omega (arith, j, q) }

-- ---- All stays

pub stays_none : (n m : ℕ) (s : State) → Stays n m s s
stays_none n m s = record { ints = λ x lt. refl; bufs = λ p lt. refl; around = refl; heap = refl }

pub stays_then : (n m : ℕ) (s t u : State) → Stays n m s t → Stays n m t u → Stays n m s u
stays_then n m s t u a b = record {
  ints = λ x lt. b.ints x lt ∙ a.ints x lt;
  bufs = λ p lt. b.bufs p lt ∙ a.bufs p lt;
  around = b.around ∙ a.around;
  heap = b.heap ∙ a.heap;
}

pub stays_less : (n n' m m' : ℕ) (s t : State) → n ≤ n' → m ≤ m' → Stays n' m' s t → Stays n m s t
stays_less n n' m m' s t le le' a = record {
  ints = λ x lt. a.ints x (omega (arith, le, lt));
  bufs = λ p lt. a.bufs p (omega (arith, le', lt));
  around = a.around;
  heap = a.heap;
}

-- a step was counted, and something else is due
pub stays_settled : (n m : ℕ) (s t : State) (todo : Todo) → Stays n m s t → Stays n m s (settled (record t { todo = todo }))
stays_settled n m s t todo f = record { ints = f.ints; bufs = f.bufs; around = f.around; heap = f.heap }

-- a later variable was set
pub stays_set : (n m k : ℕ) (v : ℤ) (s t : State) (rest : Todo) → n ≤ k → Stays n m s t → Stays n m s (after_set k v rest t)
stays_set n m k v s t rest le f = record {
  ints = λ x lt. put_other t.ints k (Some v) x (λ e. omega (arith, le, lt, e)) ∙ f.ints x lt;
  bufs = f.bufs;
  around = f.around;
  heap = f.heap;
}

pub read_stays : (n m : ℕ) (s t : State) (x : Int) → Stays n m s t → IsOld n x → read_int x t ≡ read_int x s
read_stays n m s t (int.Local k) a old = ap or_unset (a.ints k old)
read_stays n m s t (int.Global k) a old = ap (λ (r : Around). Is (r.global_ints k)) a.around

pub read_settled : (x : Int) (s : State) → read_int x (settled s) ≡ read_int x s
read_settled (int.Local k) s = refl
read_settled (int.Global k) s = refl

pub hold_stays : (n m : ℕ) (s t : State) (xs : List Int) (is : List ℕ) → Stays n m s t → AreOld n xs → Hold s xs is → Hold t xs is
hold_stays n m s t [] [] a old h = h
hold_stays n m s t [] (i ∷ is) a old h = h
hold_stays n m s t (x ∷ xs) [] a old h = h
hold_stays n m s t (x ∷ xs) (i ∷ is) a old h = (read_stays n m s t x a old.0 ∙ h.0, hold_stays n m s t xs is a old.1 h.1)

pub hold_append : (s : State) (xs ys : List Int) (is js : List ℕ) → Hold s xs is → Hold s ys js → Hold s (xs ++ ys) (is ++ js)
hold_append s [] ys [] js h k = k
hold_append s [] ys (i ∷ is) js h k = absurd h
hold_append s (x ∷ xs) ys [] js h k = absurd h
hold_append s (x ∷ xs) ys (i ∷ is) js h k = (h.0, hold_append s xs ys is js h.1 k)

pub named_around : (m : ℕ) (s t : State) (p : Buf) → ((k : ℕ) → k < m → t.bufs k ≡ s.bufs k) → around_of t ≡ around_of s → IsOldBuf m p → named_buf p t ≡ named_buf p s
named_around m s t (buf.Local k) a b old = a k old
named_around m s t (buf.Global k) a b old = ap (λ (r : Around). r.global_bufs k) b

-- ---- Lists of buffers

-- a cell that is written twice holds the later value
pub set_twice : {A : Type 0} (xs : List A) (b : ℕ) (x y : A) → slice_set (slice_set xs b x) b y ≡ slice_set xs b y
set_twice [] b x y = refl
set_twice (z ∷ xs) zero x y = refl
set_twice (z ∷ xs) (suc b) x y = ap (λ l. z ∷ l) (set_twice xs b x y)

-- what was there is written over
pub got_set : {A : Type 0} (xs : List A) (b : ℕ) (x z : A) → slice_get xs b ≡ Some z → slice_get (slice_set xs b x) b ≡ Some x
got_set [] b x z h = absurd (cc)
got_set (y ∷ xs) zero x z h = refl
got_set (y ∷ xs) (suc b) x z h = got_set xs b x z h

-- the others are as they were
pub got_other : {A : Type 0} (xs : List A) (b j : ℕ) (x : A) → (j ≡ b → ⊥) → slice_get (slice_set xs b x) j ≡ slice_get xs j
got_other [] b j x ne = refl
got_other (y ∷ xs) zero zero x ne = absurd (ne refl)
got_other (y ∷ xs) zero (suc j) x ne = refl
got_other (y ∷ xs) (suc b) zero x ne = refl
got_other (y ∷ xs) (suc b) (suc j) x ne = got_other xs b j x (λ e. ne (ap suc e))

-- what is there, written again, changes nothing
pub set_same : {A : Type 0} (xs : List A) (b : ℕ) (x : A) → slice_get xs b ≡ Some x → xs ≡ slice_set xs b x
set_same [] b x h = refl
set_same (y ∷ xs) zero x h = let e : y ≡ x = cc in ap (λ z. z ∷ xs) e
set_same (y ∷ xs) (suc b) x h = ap (λ l. y ∷ l) (set_same xs b x h)

-- ---- All stays but a variable and the cells of a buffer

abbrev pub filling_none : (n m q b : ℕ) (cells : List ℤ) (s : State) → slice_get s.heap b ≡ Some (Some cells) → Filling n m q b (length cells) s s
filling_none n m q b cells s h = record {
  ints = λ x lt ne. refl;
  bufs = λ p lt. refl;
  around = refl;
  cells = cells;
  as_many = refl;
  heap = set_same s.heap b (Some cells) h;
}

abbrev pub filling_then : (n m q b size : ℕ) (s t u : State) → Filling n m q b size s t → Filling n m q b size t u → Filling n m q b size s u
filling_then n m q b size s t u f k = record {
  ints = λ x lt ne. k.ints x lt ne ∙ f.ints x lt ne;
  bufs = λ p lt. k.bufs p lt ∙ f.bufs p lt;
  around = k.around ∙ f.around;
  cells = k.cells;
  as_many = k.as_many;
  heap = k.heap ∙ ap (λ h. slice_set h b (Some k.cells)) f.heap ∙ set_twice s.heap b (Some f.cells) (Some k.cells);
}

abbrev pub filling_less : (n n' m m' q b size : ℕ) (s t : State) → n ≤ n' → m ≤ m' → Filling n' m' q b size s t → Filling n m q b size s t
filling_less n n' m m' q b size s t le le' f = record {
  ints = λ x lt ne. f.ints x (omega (arith, le, lt)) ne;
  bufs = λ p lt. f.bufs p (omega (arith, le', lt));
  around = f.around;
  cells = f.cells;
  as_many = f.as_many;
  heap = f.heap;
}

-- code that leaves all as it is, after some filling
abbrev pub stays_filling : (n n' m m' q b size : ℕ) (s t u : State) → n ≤ n' → m ≤ m' → Filling n m q b size s t → Stays n' m' t u → Filling n m q b size s u
stays_filling n n' m m' q b size s t u le le' f k = record {
  ints = λ x lt ne. k.ints x (omega (arith, le, lt)) ∙ f.ints x lt ne;
  bufs = λ p lt. k.bufs p (omega (arith, le', lt)) ∙ f.bufs p lt;
  around = k.around ∙ f.around;
  cells = f.cells;
  as_many = f.as_many;
  heap = k.heap ∙ f.heap;
}

abbrev pub filling_settled : (n m q b size : ℕ) (s t : State) (todo : Todo) → Filling n m q b size s t → Filling n m q b size s (settled (record t { todo = todo }))
filling_settled n m q b size s t todo f = record { ints = f.ints; bufs = f.bufs; around = f.around; cells = f.cells; as_many = f.as_many; heap = f.heap }

pub read_filling : (n m q b size : ℕ) (s t : State) (x : Int) → Filling n m q b size s t → IsOldBut n q x → read_int x t ≡ read_int x s
read_filling n m q b size s t (int.Local k) f h = ap or_unset (f.ints k h.0 h.1)
read_filling n m q b size s t (int.Global k) f h = ap (λ (r : Around). Is (r.global_ints k)) f.around

pub hold_filling : (n m q b size : ℕ) (s t : State) (xs : List Int) (is : List ℕ) → Filling n m q b size s t → AreOldBut n q xs → Hold s xs is → Hold t xs is
hold_filling n m q b size s t [] [] f h k = k
hold_filling n m q b size s t [] (i ∷ is) f h k = k
hold_filling n m q b size s t (x ∷ xs) [] f h k = k
hold_filling n m q b size s t (x ∷ xs) (i ∷ is) f h k = (read_filling n m q b size s t x f h.0 ∙ k.0, hold_filling n m q b size s t xs is f h.1 k.1)

-- the cells of the buffer that is filled
pub filled_cells : (n m q b size : ℕ) (cells : List ℤ) (s t : State) (f : Filling n m q b size s t) → slice_get s.heap b ≡ Some (Some cells) → slice_get t.heap b ≡ Some (Some f.cells)
filled_cells n m q b size cells s t f h = ap (λ (l : List (Option (List ℤ))). slice_get l b) f.heap ∙ got_set s.heap b (Some f.cells) (Some cells) h

-- ---- What is seen

-- the same variables, and the same heap
pub seen_same : (g : Scope) (n m q : ℕ) (s t : State) → g.ints ≤ n → g.ints ≤ q → g.bufs ≤ m → ((x : ℕ) → x < n → (x ≡ q → ⊥) → t.ints x ≡ s.ints x) → ((p : ℕ) → p < m → t.bufs p ≡ s.bufs p) → around_of t ≡ around_of s → t.heap ≡ s.heap → SameSeen g s t
seen_same g n m q s t le leq leb ints_same bufs_same around heap = record {
  ints = λ x lt. ints_same x (omega (arith, le, lt)) (λ e. omega (arith, leq, lt, e));
  bufs = λ p lt. ap (λ (l : List (Option (List ℤ))). live (option_and_then (slice_get l) (t.bufs p))) heap ∙ ap (λ o. live (option_and_then (slice_get s.heap) o)) (bufs_same p (omega (arith, leb, lt)));
  global_ints = λ x lt. ap (λ (r : Around). r.global_ints x) around;
  global_bufs = λ p lt. ap (λ (l : List (Option (List ℤ))). live (option_and_then (slice_get l) (t.global_bufs p))) heap ∙ ap (λ (r : Around). live (option_and_then (slice_get s.heap) (r.global_bufs p))) around;
}

pub seen_stays : (g : Scope) (n m : ℕ) (s t : State) → g.ints ≤ n → g.bufs ≤ m → Stays n m s t → SameSeen g s t
seen_stays g n m s t le leb f = seen_same g n m n s t le le leb (λ x lt ne. f.ints x lt) f.bufs f.around f.heap

-- the state during a filling looks like the first one with other cells
pub seen_filling : (g : Scope) (n m q b size : ℕ) (s t : State) → g.ints ≤ n → g.ints ≤ q → g.bufs ≤ m → (f : Filling n m q b size s t) → SameSeen g (with_buffer b f.cells s) t
seen_filling g n m q b size s t le leq leb f = seen_same g n m q (with_buffer b f.cells s) t le leq leb f.ints f.bufs f.around f.heap

-- whatever the buffer holds
pub seen_whatever : (g : Scope) (n m q b size : ℕ) (s t : State) (other : List ℤ) → g.ints ≤ n → g.ints ≤ q → g.bufs ≤ m → Filling n m q b size s t → SameSeen g (with_buffer b other s) (with_buffer b other t)
seen_whatever g n m q b size s t other le leq leb f =
    seen_same g n m q (with_buffer b other s) (with_buffer b other t) le leq leb f.ints f.bufs f.around
    (ap (λ h. slice_set h b (Some other)) f.heap ∙ set_twice s.heap b (Some f.cells) (Some other))

same_buffer : (heap : List (Option (List ℤ))) (b : ℕ) (cells : List ℤ) (o : Option ℕ) → (o ≡ Some b → ⊥) → live (option_and_then (slice_get (slice_set heap b (Some cells))) o) ≡ live (option_and_then (slice_get heap) o)
same_buffer heap b cells None ne = refl
same_buffer heap b cells (Some j) ne = ap live (got_other heap b j (Some cells) (λ e. ne (ap Some e)))

-- another buffer's cells
pub seen_apart : (g : Scope) (b : ℕ) (other : List ℤ) (s : State) → Unnamed g b s → SameSeen g s (with_buffer b other s)
seen_apart g b other s apart = record {
  ints = λ x lt. refl;
  bufs = λ p lt. same_buffer s.heap b other (s.bufs p) (apart.bufs p lt);
  global_ints = λ x lt. refl;
  global_bufs = λ p lt. same_buffer s.heap b other (s.global_bufs p) (apart.global_bufs p lt);
}

-- fewer names
pub seen_less : (g h : Scope) (s t : State) → g.ints ≤ h.ints → g.bufs ≤ h.bufs → g.global_ints ≤ h.global_ints → g.global_bufs ≤ h.global_bufs → SameSeen h s t → SameSeen g s t
seen_less g h s t a b d e f = record {
  ints = λ x lt. f.ints x (omega (arith, a, lt));
  bufs = λ p lt. f.bufs p (omega (arith, b, lt));
  global_ints = λ x lt. f.global_ints x (omega (arith, d, lt));
  global_bufs = λ p lt. f.global_bufs p (omega (arith, e, lt));
}

pub seen_left : (g h : Scope) (s t : State) → SameSeen (joint g h) s t → SameSeen g s t
seen_left g h s t seen = seen_less g (joint g h) s t (omega arith) (omega arith) (omega arith) (omega arith) seen

pub seen_right : (g h : Scope) (s t : State) → SameSeen (joint g h) s t → SameSeen h s t
seen_right g h s t seen = seen_less h (joint g h) s t (omega arith) (omega arith) (omega arith) (omega arith) seen

-- one change after another
pub seen_then : (g : Scope) (s t u : State) → SameSeen g s t → SameSeen g t u → SameSeen g s u
seen_then g s t u p q = record {
  ints = λ x lt. q.ints x lt ∙ p.ints x lt;
  bufs = λ x lt. q.bufs x lt ∙ p.bufs x lt;
  global_ints = λ x lt. q.global_ints x lt ∙ p.global_ints x lt;
  global_bufs = λ x lt. q.global_bufs x lt ∙ p.global_bufs x lt;
}
