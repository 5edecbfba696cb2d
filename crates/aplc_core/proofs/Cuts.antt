-- What a tree is cut into: no step is a branch, slots are given out in order, and the tree that is left reads those alone.
use Rattle.std.proofs.Common.{◌≡◌, ◌∙◌, refl, ℕ, ◌+◌, ◌≤◌, ◌<◌, List, [], ◌∷◌, ◌++◌, Option, Some, None, arith}
use Rattle.aplc_syntax.specs.declared.tree.Primitive.{Primitive}
use Rattle.aplc_syntax.specs.PlainTrees.{Tree, Trees, Argument, absent, given}
use Rattle.aplc_syntax.specs.PlainTrees as t
use Rattle.aplc_core.specs.PlainSteps.{Term, Literal, Read, Slot, Mono, Dyad, Index, Terms, no_more, left_out, and_term, Effect, Keep, Store, StoreAt, Call, ReadText, ReadNums, Show, Branch, id_of}
use Rattle.aplc_core.specs.Lowering.{Cut, CutList, Kept, CutArgument, kept_term, kept, from_slot, and_kept, kept_terms, kept_all, before, all_before, dyad_of, index_of, list_of, cut_dyad, cut_index, cut_more, cut_mono, cut_assign, cut_show, assign_at_of, argument_kept, call_steps, call_of, cut, cut_list, cut_argument}

-- ---- Steps without a branch

abbrev pub HasNoBranch : List Effect → Type 0
HasNoBranch [] = Unit {0}
HasNoBranch (Branch t ∷ xs) = ⊥
HasNoBranch (x ∷ xs) = HasNoBranch xs

pub none_more : (xs ys : List Effect) → HasNoBranch xs → HasNoBranch ys → HasNoBranch (xs ++ ys)
none_more [] ys p q = q
none_more (Branch t ∷ xs) ys p q = absurd p
none_more (Keep k t ∷ xs) ys p q = none_more xs ys p q
none_more (Store i n t ∷ xs) ys p q = none_more xs ys p q
none_more (StoreAt i n ts t ∷ xs) ys p q = none_more xs ys p q
none_more (Call i n a b r ∷ xs) ys p q = none_more xs ys p q
none_more (ReadText i k ∷ xs) ys p q = none_more xs ys p q
none_more (ReadNums i k ∷ xs) ys p q = none_more xs ys p q
none_more (Show i t ∷ xs) ys p q = none_more xs ys p q

-- ---- Which slots a tree reads

abbrev mutual
  -- slots below n alone
  pub IsBelow : ℕ → Term → Type 0
  IsBelow n (Literal i k zs) = Unit {0}
  IsBelow n (Read i m) = Unit {0}
  IsBelow n (Slot i k) = k < n
  IsBelow n (Mono i f b) = IsBelow n b
  IsBelow n (Dyad i f a b) = IsBelow n a × IsBelow n b
  IsBelow n (Index i a xs) = IsBelow n a × AreBelow n xs

  pub AreBelow : ℕ → Terms → Type 0
  AreBelow n no_more = Unit {0}
  AreBelow n (left_out xs) = AreBelow n xs
  AreBelow n (and_term t xs) = IsBelow n t × AreBelow n xs

mutual
  pub below_more : (n m : ℕ) (t : Term) → n ≤ m → IsBelow n t → IsBelow m t
  below_more n m (Literal i k zs) le h = tt
  below_more n m (Read i j) le h = tt
  below_more n m (Slot i k) le h = omega arith
  below_more n m (Mono i f b) le h = below_more n m b le h
  below_more n m (Dyad i f a b) le h = (below_more n m a le h.0, below_more n m b le h.1)
  below_more n m (Index i a xs) le h = (below_more n m a le h.0, all_below_more n m xs le h.1)

  pub all_below_more : (n m : ℕ) (xs : Terms) → n ≤ m → AreBelow n xs → AreBelow m xs
  all_below_more n m no_more le h = tt
  all_below_more n m (left_out xs) le h = all_below_more n m xs le h
  all_below_more n m (and_term t xs) le h = (below_more n m t le h.0, all_below_more n m xs le h.1)

-- a slot is not one of the first k
abbrev pub IsSlotFrom : ℕ → Term → Type 0
IsSlotFrom k (Slot i j) = k ≤ j
IsSlotFrom k t = Unit {0}

slot_from_none : (t : Term) → IsSlotFrom 0 t
slot_from_none (Slot i k) = omega arith
slot_from_none (Literal i k zs) = tt
slot_from_none (Read i n) = tt
slot_from_none (Mono i f b) = tt
slot_from_none (Dyad i f a b) = tt
slot_from_none (Index i a xs) = tt

-- each place that is not left out is a slot below n
abbrev pub AreSlots : ℕ → Terms → Type 0
AreSlots n no_more = Unit {0}
AreSlots n (left_out xs) = AreSlots n xs
AreSlots n (and_term (Slot i k) xs) = (k < n) × AreSlots n xs
AreSlots n (and_term t xs) = ⊥

slots_more : (n m : ℕ) (xs : Terms) → n ≤ m → AreSlots n xs → AreSlots m xs
slots_more n m no_more le h = tt
slots_more n m (left_out xs) le h = slots_more n m xs le h
slots_more n m (and_term (Slot i k) xs) le h = let e = h.0 in (omega (arith, e, le), slots_more n m xs le h.1)
slots_more n m (and_term (Literal i k zs) xs) le h = absurd h
slots_more n m (and_term (Read i k) xs) le h = absurd h
slots_more n m (and_term (Mono i f b) xs) le h = absurd h
slots_more n m (and_term (Dyad i f a b) xs) le h = absurd h
slots_more n m (and_term (Index i a js) xs) le h = absurd h

slots_below : (n : ℕ) (xs : Terms) → AreSlots n xs → AreBelow n xs
slots_below n no_more h = tt
slots_below n (left_out xs) h = slots_below n xs h
slots_below n (and_term (Slot i k) xs) h = (h.0, slots_below n xs h.1)
slots_below n (and_term (Literal i k zs) xs) h = absurd h
slots_below n (and_term (Read i k) xs) h = absurd h
slots_below n (and_term (Mono i f b) xs) h = absurd h
slots_below n (and_term (Dyad i f a b) xs) h = absurd h
slots_below n (and_term (Index i a js) xs) h = absurd h

-- ---- What holds of each cut whose first free slot was k

pub record Fits (k : ℕ) (x : Cut) : Type 0 where
  pub next : k ≤ x.next
  pub slot : IsSlotFrom k x.term
  pub below : IsBelow x.next x.term
  pub plain : HasNoBranch x.steps

pub record FitsList (k : ℕ) (x : CutList) : Type 0 where
  pub next : k ≤ x.next
  pub below : AreBelow x.next x.terms
  pub plain : HasNoBranch x.steps

-- of slot k and later ones; n were given out before
pub record FitsKept (k n : ℕ) (x : Kept) : Type 0 where
  pub over : k ≤ x.slot
  pub under : x.slot < x.next
  pub next : n ≤ x.next
  pub plain : HasNoBranch x.steps

-- where each place was kept
pub record FitsSlots (n : ℕ) (x : CutList) : Type 0 where
  pub next : n ≤ x.next
  pub slots : AreSlots x.next x.terms
  pub plain : HasNoBranch x.steps

abbrev pub IsSlotBelow : ℕ → Option ℕ → Type 0
IsSlotBelow n None = Unit {0}
IsSlotBelow n (Some k) = k < n

pub record FitsArgument (k : ℕ) (x : CutArgument) : Type 0 where
  pub next : k ≤ x.next
  pub slot : IsSlotBelow x.next x.slot
  pub plain : HasNoBranch x.steps

-- ---- Keeping

one_kept : (k n : ℕ) (xs : List Effect) (t : Term) → k ≤ n → HasNoBranch xs → FitsKept k n (record { steps = xs ++ Keep n t ∷ []; node = id_of t; slot = n; next = n + 1 })
one_kept k n xs t le p = record { over = le; under = omega arith; next = omega arith; plain = none_more xs (Keep n t ∷ []) p tt }

term_kept : (k n : ℕ) (xs : List Effect) (t : Term) → k ≤ n → IsSlotFrom k t → IsBelow n t → HasNoBranch xs → FitsKept k n (kept_term xs t n)
term_kept k n xs (Slot i j) le h b p = record { over = h; under = b; next = omega arith; plain = p }
term_kept k n xs (Literal i m zs) le h b p = one_kept k n xs (Literal i m zs) le p
term_kept k n xs (Read i m) le h b p = one_kept k n xs (Read i m) le p
term_kept k n xs (Mono i f a) le h b p = one_kept k n xs (Mono i f a) le p
term_kept k n xs (Dyad i f a d) le h b p = one_kept k n xs (Dyad i f a d) le p
term_kept k n xs (Index i a js) le h b p = one_kept k n xs (Index i a js) le p

pub kept_fits : (k : ℕ) (x : Cut) → Fits k x → FitsKept k x.next (kept x)
kept_fits k x h = term_kept k x.next x.steps x.term h.next h.slot h.below h.plain

from_slot_fits : (k n : ℕ) (x : Kept) → FitsKept k n x → Fits k (from_slot x)
from_slot_fits k n x h = let a = h.over in let b = h.under in record { next = omega (arith, a, b); slot = a; below = b; plain = h.plain }

pub before_fits : (k : ℕ) (x : Cut) (ys : List Effect) → Fits k x → Fits k (before x ys)
before_fits k x [] h = h
before_fits k x (y ∷ ys) h = from_slot_fits k x.next (kept x) (kept_fits k x h)

place_kept : (n : ℕ) (t : Term) (ys : CutList) → IsBelow n t → FitsSlots n ys → FitsSlots n (and_kept (kept_term ys.steps t ys.next) ys.terms)
place_kept n t ys b h =
    let z = term_kept 0 ys.next ys.steps t (omega arith) (slot_from_none t) (below_more n ys.next t h.next b) h.plain in
    let p = h.next in
    let q = z.next in
    record { next = omega (arith, p, q); slots = (z.under, slots_more ys.next _ ys.terms z.next h.slots); plain = z.plain }

pub places_kept : (n : ℕ) (xs : List Effect) (ts : Terms) → AreBelow n ts → HasNoBranch xs → FitsSlots n (kept_terms xs ts n)
places_kept n xs no_more b p = record { next = omega arith; slots = tt; plain = p }
places_kept n xs (left_out ts) b p = let h = places_kept n xs ts b p in record { next = h.next; slots = h.slots; plain = h.plain }
places_kept n xs (and_term t ts) b p = place_kept n t (kept_terms xs ts n) b.0 (places_kept n xs ts b.1 p)

pub all_kept : (k : ℕ) (x : CutList) → FitsList k x → FitsSlots x.next (kept_all x)
all_kept k x h = places_kept x.next x.steps x.terms h.below h.plain

pub all_before_fits : (k : ℕ) (x : CutList) (ys : List Effect) → FitsList k x → FitsList k (all_before x ys)
all_before_fits k x [] h = h
all_before_fits k x (y ∷ ys) h =
    let z = all_kept k x h in
    let p = h.next in
    let q = z.next in
    record { next = omega (arith, p, q); below = slots_below (kept_all x).next (kept_all x).terms z.slots; plain = z.plain }

-- ---- Each form

mono_fits : (k i : ℕ) (f : Primitive) (y : Cut) → Fits k y → Fits k (cut_mono i f y)
mono_fits k i f y h = record { next = h.next; slot = tt; below = h.below; plain = h.plain }

two_fit : (k i : ℕ) (f : Primitive) (y x : Cut) → Fits k y → Fits y.next x → Fits k (dyad_of i f y x)
two_fit k i f y x h g =
    let p = h.next in
    let q = g.next in
    record { next = omega (arith, p, q); slot = tt; below = (g.below, below_more y.next x.next y.term q h.below); plain = none_more y.steps x.steps h.plain g.plain }

dyad_fits : (k i : ℕ) (f : Primitive) (y : Cut) (more : ℕ → Cut) → Fits k y → ((n : ℕ) → Fits n (more n)) → Fits k (cut_dyad i f y more)
dyad_fits k i f y more h g =
    let z = before y (more y.next).steps in two_fit k i f z (more z.next) (before_fits k y (more y.next).steps h) (g z.next)

indexed_fits : (k i : ℕ) (js : CutList) (x : Cut) → FitsList k js → Fits js.next x → Fits k (index_of i js x)
indexed_fits k i js x h g =
    let p = h.next in
    let q = g.next in
    record { next = omega (arith, p, q); slot = tt; below = (g.below, all_below_more js.next x.next js.terms q h.below); plain = none_more js.steps x.steps h.plain g.plain }

index_fits : (k i : ℕ) (js : CutList) (more : ℕ → Cut) → FitsList k js → ((n : ℕ) → Fits n (more n)) → Fits k (cut_index i js more)
index_fits k i js more h g =
    let z = all_before js (more js.next).steps in indexed_fits k i z (more z.next) (all_before_fits k js (more js.next).steps h) (g z.next)

place_fits : (k : ℕ) (js : CutList) (x : Cut) → FitsList k js → Fits js.next x → FitsList k (list_of js x)
place_fits k js x h g =
    let p = h.next in
    let q = g.next in
    record { next = omega (arith, p, q); below = (g.below, all_below_more js.next x.next js.terms q h.below); plain = none_more js.steps x.steps h.plain g.plain }

more_fits : (k : ℕ) (js : CutList) (more : ℕ → Cut) → FitsList k js → ((n : ℕ) → Fits n (more n)) → FitsList k (cut_more js more)
more_fits k js more h g =
    let z = all_before js (more js.next).steps in place_fits k z (more z.next) (all_before_fits k js (more js.next).steps h) (g z.next)

assign_fits : (k i n : ℕ) (x : Cut) → Fits k x → Fits k (cut_assign i n x)
assign_fits k i n x h = record { next = h.next; slot = tt; below = tt; plain = none_more x.steps (Store i n x.term ∷ []) h.plain tt }

show_fits : (k n i : ℕ) (x : Kept) → FitsKept k n x → Fits k (cut_show i x)
show_fits k n i x h =
    let p = h.over in
    let q = h.under in
    record { next = omega (arith, p, q); slot = p; below = q; plain = none_more x.steps (Show (Some i) (Slot x.node x.slot) ∷ []) h.plain tt }

change_fits : (k m i n : ℕ) (x : Kept) (js : CutList) → FitsKept k m x → FitsList x.next js → Fits k (assign_at_of i n x js)
change_fits k m i n x js h g =
    let p = h.over in
    let q = h.under in
    let r = g.next in
    let e = StoreAt i n js.terms (Slot x.node x.slot) ∷ [] in
    record { next = omega (arith, p, q, r); slot = p; below = omega (arith, q, r); plain = none_more (x.steps ++ js.steps) e (none_more x.steps js.steps h.plain g.plain) tt }

argument_fits : (k n : ℕ) (x : Kept) → FitsKept k n x → FitsArgument k (argument_kept x)
argument_fits k n x h =
    let p = h.over in
    let q = h.under in
    record { next = omega (arith, p, q); slot = q; plain = h.plain }

pub call_plain : (i n : ℕ) (y x : CutArgument) (r : Option ℕ) → HasNoBranch y.steps → HasNoBranch x.steps → HasNoBranch (call_steps i n y x r)
call_plain i n y x r p q =
    none_more (y.steps ++ x.steps) (Call i n x.slot y.slot r ∷ []) (none_more y.steps x.steps p q) tt

call_fits : (k i n : ℕ) (y x : CutArgument) → FitsArgument k y → FitsArgument y.next x → Fits k (call_of i n y x)
call_fits k i n y x h g =
    let p = h.next in
    let q = g.next in
    record { next = omega (arith, p, q); slot = omega (arith, p, q); below = omega arith; plain = call_plain i n y x (Some x.next) h.plain g.plain }

mutual
  pub cut_fits : (x : Tree) (k : ℕ) → Fits k (cut x k)
  cut_fits (t.Numbers i p zs) k = record { next = omega arith; slot = tt; below = tt; plain = tt }
  cut_fits (t.Text i p cs) k = record { next = omega arith; slot = tt; below = tt; plain = tt }
  cut_fits (t.Name i p n) k = record { next = omega arith; slot = tt; below = tt; plain = tt }
  cut_fits (t.TextInput i p) k = record { next = omega arith; slot = omega arith; below = omega arith; plain = tt }
  cut_fits (t.NumsInput i p) k = record { next = omega arith; slot = omega arith; below = omega arith; plain = tt }
  cut_fits (t.Mono i p f b) k = mono_fits k i f (cut b k) (cut_fits b k)
  cut_fits (t.Dyad i p f a b) k = dyad_fits k i f (cut b k) (cut a) (cut_fits b k) (λ n. cut_fits a n)
  cut_fits (t.Index i p a xs) k = index_fits k i (cut_list xs k) (cut a) (list_fits xs k) (λ n. cut_fits a n)
  cut_fits (t.Assign i p n a) k = assign_fits k i n (cut a k) (cut_fits a k)
  cut_fits (t.AssignAt i p n xs a) k = change_fits k (cut a k).next i n (kept (cut a k)) (cut_list xs (kept (cut a k)).next) (kept_fits k (cut a k) (cut_fits a k)) (list_fits xs (kept (cut a k)).next)
  cut_fits (t.Show i p a) k = show_fits k (cut a k).next i (kept (cut a k)) (kept_fits k (cut a k) (cut_fits a k))
  cut_fits (t.Call i p n a b) k = call_fits k i n (cut_argument b k) (cut_argument a (cut_argument b k).next) (given_fits b k) (given_fits a (cut_argument b k).next)

  pub list_fits : (xs : Trees) (k : ℕ) → FitsList k (cut_list xs k)
  list_fits t.no_more k = record { next = omega arith; below = tt; plain = tt }
  list_fits (t.left_out xs) k = let h = list_fits xs k in record { next = h.next; below = h.below; plain = h.plain }
  list_fits (t.and_tree x xs) k = more_fits k (cut_list xs k) (cut x) (list_fits xs k) (λ n. cut_fits x n)

  pub given_fits : (a : Argument) (k : ℕ) → FitsArgument k (cut_argument a k)
  given_fits absent k = record { next = omega arith; slot = tt; plain = tt }
  given_fits (given x) k = argument_fits k (cut x k).next (kept (cut x k)) (kept_fits k (cut x k) (cut_fits x k))

-- ---- Numbers

kept_node : (xs : List Effect) (t : Term) (n : ℕ) → (kept_term xs t n).node ≡ id_of t
kept_node xs (Slot i k) n = refl
kept_node xs (Literal i k zs) n = refl
kept_node xs (Read i m) n = refl
kept_node xs (Mono i f b) n = refl
kept_node xs (Dyad i f a b) n = refl
kept_node xs (Index i a js) n = refl

pub cut_node : (x : Tree) (k : ℕ) → id_of (cut x k).term ≡ t.id_of x
cut_node (t.Numbers i p zs) k = refl
cut_node (t.Text i p cs) k = refl
cut_node (t.Name i p n) k = refl
cut_node (t.TextInput i p) k = refl
cut_node (t.NumsInput i p) k = refl
cut_node (t.Mono i p f b) k = refl
cut_node (t.Dyad i p f a b) k = refl
cut_node (t.Index i p a xs) k = refl
cut_node (t.Assign i p n a) k = refl
cut_node (t.AssignAt i p n xs a) k = refl
cut_node (t.Show i p a) k = refl
cut_node (t.Call i p n a b) k = refl

pub kept_id : (x : Tree) (k : ℕ) → (kept (cut x k)).node ≡ t.id_of x
kept_id x k = kept_node (cut x k).steps (cut x k).term (cut x k).next ∙ cut_node x k
