-- States in which two variables hold a range, and all else stays.
-- It must not know what the range is of.
use Rattle.std.proofs.Common.{◌≡◌, ℕ, ◌<◌, ◌≤◌, List, [], ◌∷◌, refl, sym, ap, ◌∙◌, arith, ℤ, Bool, true, false}
use Rattle.std.specs.Prelude.{Option, Some, None, pos, nat_eq, if◌then◌else◌}
use Rattle.std.proofs.lemmas.Bool.Decides.{nat_tests}
use Rattle.aplc_scalar.specs.Scalar.{truth}
use Rattle.aplc_cprof.specs.declared.syntax.Int.{Int}
use Rattle.aplc_cprof.specs.declared.syntax.Int.TheVariants as int
use Rattle.aplc_cprof.specs.declared.syntax.CExpr.TheVariants as expr
use Rattle.aplc_cprof.specs.declared.syntax.CStmt.TheVariants as stmt
use Rattle.aplc_cprof.specs.WellFormed.{Scope}
use Rattle.aplc_cprof.specs.Machine.{State, Code, Is, read_int, or_unset, put, value, settled}
use Rattle.aplc_cprof.specs.Frames.{Around, around_of, Stays, SameSeen, Hold, number}
use Rattle.aplc_cprof.specs.Emitted.{less}
use Rattle.aplc_cprof.proofs.Values.{value_Var}
use Rattle.aplc_cprof.proofs.Paths.{Does, does_none, does_weaken, does_if, does_else}
use Rattle.aplc_cprof.proofs.Frames.{after_set, put_at, put_other, read_settled, seen_stays}
use Rattle.aplc_cprof.proofs.Counting.{does_set}
use Rattle.aplc_quad.specs.Printed.{NoFault}
use Rattle.aplc_quad.specs.Ranges.{set_if_less, IsApart, AreApart, with_range}

-- ---- Variables

same_when : (b : Bool) (x y : Option ℤ) → (b ≡ true → x ≡ y) → x ≡ (if b then y else x)
same_when true x y h = h refl
same_when false x y h = refl

is_number : (k x : ℕ) → nat_eq k x ≡ true → k ≡ x
is_number k x e = grind (arith, nat_tests)

-- what a variable holds, put into it, changes nothing
put_same : (f : ℕ → Option ℤ) (x : ℕ) (v : Option ℤ) (k : ℕ) → f x ≡ v → f k ≡ put f x v k
put_same f x v k h = same_when (nat_eq k x) (f k) v (λ e. ap f (is_number k x e) ∙ h)

-- what is put later counts
over_range : (p q : Bool) (a b a' b' y : Option ℤ) → (if p then b' else (if q then a' else (if p then b else (if q then a else y)))) ≡ (if p then b' else (if q then a' else y))
over_range true q a b a' b' y = refl
over_range false true a b a' b' y = refl
over_range false false a b a' b' y = refl

-- ---- States

-- the range is what it was
pub range_same : (n m low high : ℕ) (a b : ℤ) (s t : State) → s.ints low ≡ Some a → s.ints high ≡ Some b → Stays n m s t → Stays n m (with_range low high a b s) t
range_same n m low high a b s t ea eb h = record {
  ints = λ x lt. h.ints x lt ∙ put_same s.ints low (Some a) x ea ∙ put_same (put s.ints low (Some a)) high (Some b) x (sym (put_same s.ints low (Some a) high ea) ∙ eb);
  bufs = h.bufs;
  around = h.around;
  heap = h.heap;
}

-- one range after another
pub range_then : (n m low high : ℕ) (a b a' b' : ℤ) (s t u : State) → Stays n m (with_range low high a b s) t → Stays n m (with_range low high a' b' t) u → Stays n m (with_range low high a' b' s) u
range_then n m low high a b a' b' s t u h k = record {
  ints = λ x lt.
      k.ints x lt
      ∙ ap (λ y. if nat_eq x high then Some b' else (if nat_eq x low then Some a' else y)) (h.ints x lt)
      ∙ over_range (nat_eq x high) (nat_eq x low) (Some a) (Some b) (Some a') (Some b') (s.ints x);
  bufs = λ p lt. k.bufs p lt ∙ h.bufs p lt;
  around = k.around ∙ h.around;
  heap = k.heap ∙ h.heap;
}

pub low_is : (n m low high : ℕ) (a b : ℤ) (s t : State) → low < n → (low ≡ high → ⊥) → Stays n m (with_range low high a b s) t → t.ints low ≡ Some a
low_is n m low high a b s t lt apart h = h.ints low lt ∙ put_other (put s.ints low (Some a)) high (Some b) low (λ e. apart (sym e)) ∙ put_at s.ints low (Some a)

pub high_is : (n m low high : ℕ) (a b : ℤ) (s t : State) → high < n → Stays n m (with_range low high a b s) t → t.ints high ≡ Some b
high_is n m low high a b s t lt h = h.ints high lt ∙ put_at (put s.ints low (Some a)) high (Some b)

pub apart_is : (n m low high : ℕ) (a b : ℤ) (s t : State) (k : ℕ) → k < n → (k ≡ low → ⊥) → (k ≡ high → ⊥) → Stays n m (with_range low high a b s) t → t.ints k ≡ s.ints k
apart_is n m low high a b s t k lt nl nh h = h.ints k lt ∙ put_other (put s.ints low (Some a)) high (Some b) k (λ e. nh (sym e)) ∙ put_other s.ints low (Some a) k (λ e. nl (sym e))

pub read_range : (n m : ℕ) (least greatest : Int) (a b : ℤ) (s t : State) (x : Int) → IsApart n least greatest x → Stays n m (with_range (number least) (number greatest) a b s) t → read_int x t ≡ read_int x s
read_range n m least greatest a b s t (int.Local k) h st = ap or_unset (apart_is n m (number least) (number greatest) a b s t k h.0 h.1 h.2 st)
read_range n m least greatest a b s t (int.Global k) h st = ap (λ (r : Around). Is (r.global_ints k)) st.around

pub hold_range : (n m : ℕ) (least greatest : Int) (a b : ℤ) (s t : State) (xs : List Int) (is : List ℕ) → AreApart n least greatest xs → Stays n m (with_range (number least) (number greatest) a b s) t → Hold s xs is → Hold t xs is
hold_range n m least greatest a b s t [] [] h st held = held
hold_range n m least greatest a b s t [] (i ∷ is) h st held = held
hold_range n m least greatest a b s t (x ∷ xs) [] h st held = held
hold_range n m least greatest a b s t (x ∷ xs) (i ∷ is) h st held = (read_range n m least greatest a b s t x h.0 st ∙ held.0, hold_range n m least greatest a b s t xs is h.1 st held.1)

-- names that were given before the range see the same
pub seen_range : (g : Scope) (n m low high : ℕ) (a b : ℤ) (s t : State) → g.ints ≤ n → g.bufs ≤ m → g.ints ≤ low → g.ints ≤ high → Stays n m (with_range low high a b s) t → SameSeen g s t
seen_range g n m low high a b s t le leb from_low from_high st =
    let seen = seen_stays g n m (with_range low high a b s) t le leb st in
    record {
      ints = λ x lt. apart_is n m low high a b s t x (omega (arith, le, lt)) (λ e. omega (arith, from_low, lt, e)) (λ e. omega (arith, from_high, lt, e)) st;
      bufs = seen.bufs;
      global_ints = seen.global_ints;
      global_bufs = seen.global_bufs;
    }

-- ---- A variable is set where a test holds

-- the variable x holds y, and all else is as it was
pub record SetTo (x : ℕ) (y : ℤ) (s t : State) : Type 0 where
  pub ints : (k : ℕ) → t.ints k ≡ put s.ints x (Some y) k
  pub bufs : (p : ℕ) → t.bufs p ≡ s.bufs p
  pub around : around_of t ≡ around_of s
  pub heap : t.heap ≡ s.heap

-- the least number is another
pub set_low : (n m low high : ℕ) (a b y : ℤ) (s t u : State) → (low ≡ high → ⊥) → high < n → Stays n m (with_range low high a b s) t → SetTo low y t u → Stays n m (with_range low high y b s) u
set_low n m low high a b y s t u apart lt h k =
    let held : put t.ints low (Some y) high ≡ Some b = put_other t.ints low (Some y) high apart ∙ high_is n m low high a b s t lt h in
    range_then n m low high a b y b s t u h record {
      ints = λ x l. k.ints x ∙ put_same (put t.ints low (Some y)) high (Some b) x held;
      bufs = λ p l. k.bufs p;
      around = k.around;
      heap = k.heap;
    }

-- the greatest is
pub set_high : (n m low high : ℕ) (a b y : ℤ) (s t u : State) → (low ≡ high → ⊥) → low < n → Stays n m (with_range low high a b s) t → SetTo high y t u → Stays n m (with_range low high a y s) u
set_high n m low high a b y s t u apart lt h k =
    range_then n m low high a b a y s t u h record {
      ints = λ x l. k.ints x ∙ ap (λ f. if nat_eq x high then Some y else f) (put_same t.ints low (Some a) x (low_is n m low high a b s t lt apart h));
      bufs = λ p l. k.bufs p;
      around = k.around;
      heap = k.heap;
    }

module _ (c : Code) where
  pub set_when : (Q : State → Type 0) (x y : Int) (target : ℕ) (v : Int) (s : State) (a z : ℤ) (b : Bool) → value (less x y) c.tables s ≡ Is (truth b) → read_int v s ≡ Is z → s.ints target ≡ Some a → ((w : ℤ) (u : State) → SetTo target w s u → Q u) → Does c Q 2 (set_if_less x y (int.Local target) v ∷ []) s (SetTo target (if b then z else a) s) NoFault
  set_when Q x y target v s a z true is is_z held q =
      does_if c Q 1 (less x y) (stmt.Set (int.Local target) (expr.Var v) ∷ []) None s (SetTo target z s) NoFault (pos 1) is refl
      (λ todo. q a (settled (record s { todo = todo })) (unchanged (settled (record s { todo = todo })) (λ k. refl) (λ p. refl) refl refl))
      (does_set c Q target (expr.Var v) (settled s) (SetTo target z s) NoFault z (value_Var v c.tables (settled s) ∙ read_settled v s ∙ is_z)
      (λ rest. q z (after_set target z rest (settled s)) record { ints = λ k. refl; bufs = λ p. refl; around = refl; heap = refl })
      (λ rest. record { ints = λ k. refl; bufs = λ p. refl; around = refl; heap = refl }))
    where
      unchanged : (u : State) → ((k : ℕ) → u.ints k ≡ s.ints k) → ((p : ℕ) → u.bufs p ≡ s.bufs p) → around_of u ≡ around_of s → u.heap ≡ s.heap → SetTo target a s u
      unchanged u ei eb ea eh = record { ints = λ k. ei k ∙ put_same s.ints target (Some a) k held; bufs = eb; around = ea; heap = eh }
  set_when Q x y target v s a z false is is_z held q =
      does_else c Q 1 (less x y) (stmt.Set (int.Local target) (expr.Var v) ∷ []) None s (SetTo target a s) NoFault (pos 0) is refl
      (λ todo. q a (settled (record s { todo = todo })) (unchanged (settled (record s { todo = todo })) (λ k. refl) (λ p. refl) refl refl))
      (does_weaken c Q Q 0 1 [] (settled s) (SetTo target a s) (SetTo target a s) NoFault NoFault (λ u p. p) (λ u p. p) (λ kind u p. p) (omega arith)
      (does_none c Q (settled s) (SetTo target a s) NoFault (λ todo. unchanged (record (settled s) { todo = todo }) (λ k. refl) (λ p. refl) refl refl)))
    where
      unchanged : (u : State) → ((k : ℕ) → u.ints k ≡ s.ints k) → ((p : ℕ) → u.bufs p ≡ s.bufs p) → around_of u ≡ around_of s → u.heap ≡ s.heap → SetTo target a s u
      unchanged u ei eb ea eh = record { ints = λ k. ei k ∙ put_same s.ints target (Some a) k held; bufs = eb; around = ea; heap = eh }
