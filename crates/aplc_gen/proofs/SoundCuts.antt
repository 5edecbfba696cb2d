-- The steps of a cut are sound: what a tree of a step reads is there by then.
use Rattle.std.proofs.Common.{◌≡◌, ◌∙◌, refl, sym, ap, subst, ℕ, ◌+◌, ◌<◌, ◌≤◌, List, [], ◌∷◌, ◌++◌, Option, Some, None, Bool, true, false, ◌&&◌, ◌||◌, nat_eq, if◌then◌else◌, arith}
use Rattle.std.specs.Prelude.{slice_get, is_some}
use Rattle.std.proofs.lemmas.Bool.Decides.{nat_tests}
use Rattle.aplc_scalar.specs.declared.kind.Kind.TheVariants.{Num}
use Rattle.aplc_syntax.specs.declared.tree.Primitive.{Primitive}
use Rattle.aplc_syntax.specs.PlainTrees.{Tree, Trees, Argument, absent, given}
use Rattle.aplc_syntax.specs.PlainTrees as t
use Rattle.aplc_names.specs.declared.scope.Scope.{Scope}
use Rattle.aplc_names.specs.States.{is_among}
use Rattle.aplc_names.specs.Eager.{function_of}
use Rattle.aplc_core.specs.PlainSteps.{Term, Literal, Read, Slot, Mono, Dyad, Index, Effect, Keep, Store, Call, Show, Branch, id_of}
use Rattle.aplc_core.specs.CoreRuns.{Told, CoreRoutine, PlainCore}
use Rattle.aplc_core.specs.Lowering.{Cut, Kept, CutArgument, kept_term, kept, from_slot, before, cut_assign, call_steps, argument_kept, cut, cut_argument}
use Rattle.aplc_gen.specs.Built.{is_number, is_sign, is_checked}
use Rattle.aplc_gen.specs.Sound.{Ready, keeping, ready_after, nothing_ready, is_variable, is_readable, is_read, is_node, is_term, is_kept, both_or_none, suits, is_effect, are_effects}

-- ---- Bools

pub both_true : (a b : Bool) → a ≡ true → b ≡ true → a && b ≡ true
both_true true true e h = refl
both_true true false e h = cc
both_true false b e h = cc

pub first_true : (a b : Bool) → a && b ≡ true → a ≡ true
first_true true b e = refl
first_true false b e = cc

pub second_true : (a b : Bool) → a && b ≡ true → b ≡ true
second_true true b e = e
second_true false b e = cc

either_true : (a b : Bool) → b ≡ true → a || b ≡ true
either_true true b e = refl
either_true false b e = e

same_number : (n : ℕ) → nat_eq n n ≡ true
same_number n = grind (nat_tests, arith)

-- ---- What stays

-- the slots below k are the same, and what was assigned is
pub record Stays (k : ℕ) (r s : Ready) : Type 0 where
  pub slots : (j : ℕ) → j < k → s.kept j ≡ r.kept j
  pub assigned : (n : ℕ) → is_among n r.stored ≡ true → is_among n s.stored ≡ true

stays_same : (k : ℕ) (r : Ready) → Stays k r r
stays_same k r = record { slots = λ j h. refl; assigned = λ n h. h }

stays_then : (k n : ℕ) (r s u : Ready) → k ≤ n → Stays k r s → Stays n s u → Stays k r u
stays_then k n r s u le a b = record { slots = λ j h. b.slots j (omega (arith, le, h)) ∙ a.slots j h; assigned = λ m h. b.assigned m (a.assigned m h) }

other_slot : (j n : ℕ) → j < n → nat_eq j n ≡ false
other_slot j n h = grind (nat_tests, arith)

stays_kept : (k n i : ℕ) (r : Ready) → k ≤ n → Stays k r (keeping n i r)
stays_kept k n i r le = record {
  slots = λ j h. ap (λ (b : Bool). if b then Some i else r.kept j) (other_slot j n (omega (arith, le, h)));
  assigned = λ m h. h;
}

kept_there : (n i : ℕ) (r : Ready) → (keeping n i r).kept n ≡ Some i
kept_there n i r = ap (λ (b : Bool). if b then Some i else r.kept n) (same_number n)

stays_stored : (k i n : ℕ) (x : Term) (r : Ready) → Stays k r (ready_after r (Store i n x))
stays_stored k i n x r = record { slots = λ j h. refl; assigned = λ m h. either_true (nat_eq m n) (is_among m r.stored) h }

-- ---- Steps in a row

abbrev pub after : Ready → List Effect → Ready
after r [] = r
after r (x ∷ xs) = after (ready_after r x) xs

after_append : (r : Ready) (xs ys : List Effect) → after r (xs ++ ys) ≡ after (after r xs) ys
after_append r [] ys = refl
after_append r (x ∷ xs) ys = after_append (ready_after r x) xs ys

-- the steps are fine, and with the slots from n on free, M is so behind them and behind whatever follows
pub record Piece (ok : Ready → List Effect → Bool) (k : ℕ) (r : Ready) (xs : List Effect) (n : ℕ) (M : Ready → Type 0) : Type 0 where
  pub fine : ok r xs ≡ true
  pub stays : Stays k r (after r xs)
  pub grows : k ≤ n
  pub means : (s : Ready) → Stays n (after r xs) s → M s

piece_as : {ok : Ready → List Effect → Bool} {k n : ℕ} {r : Ready} {xs : List Effect} {M N : Ready → Type 0} → ((s : Ready) → M s → N s) → Piece ok k r xs n M → Piece ok k r xs n N
piece_as f p = record { fine = p.fine; stays = p.stays; grows = p.grows; means = λ s h. f s (p.means s h) }

-- ---- Trees of statements

-- something in the slot of an argument that is there
abbrev pub side : Argument → Option ℕ
side absent = None
side (given x) = Some 0

abbrev mutual
  -- all in a tree is built and suits the program's functions and what names are
  pub Suited : PlainCore → (ℕ → Scope) → Tree → Type 0
  Suited p sc (t.Numbers i o zs) = is_number Num zs ≡ true
  Suited p sc (t.Text i o cs) = ⊥
  Suited p sc (t.Name i o n) = is_readable (sc n) ≡ true
  Suited p sc (t.TextInput i o) = ⊥
  Suited p sc (t.NumsInput i o) = ⊥
  Suited p sc (t.Mono i o f a) = (is_sign f ≡ true) × Suited p sc a
  Suited p sc (t.Dyad i o f a b) = (is_checked f ≡ true) × Suited p sc a × Suited p sc b
  Suited p sc (t.Index i o a xs) = ⊥
  Suited p sc (t.Assign i o n a) = (is_variable (sc n) ≡ true) × Suited p sc a
  Suited p sc (t.AssignAt i o n xs a) = ⊥
  Suited p sc (t.Show i o a) = ⊥
  Suited p sc (t.Call i o n a b) = (suits (side a) (side b) (Some 0) (slice_get p.routines (function_of (sc n))) ≡ true) × SuitedGiven p sc a × SuitedGiven p sc b

  pub SuitedGiven : PlainCore → (ℕ → Scope) → Argument → Type 0
  SuitedGiven p sc absent = Unit {0}
  SuitedGiven p sc (given x) = Suited p sc x

abbrev mutual
  -- its assignments, and none of its names, are among these numbers
  pub Numbered : List ℕ → Tree → Type 0
  Numbered ms (t.Name i o n) = is_among i ms ≡ false
  Numbered ms (t.Mono i o f a) = Numbered ms a
  Numbered ms (t.Dyad i o f a b) = Numbered ms a × Numbered ms b
  Numbered ms (t.Assign i o n a) = (is_among i ms ≡ true) × Numbered ms a
  Numbered ms (t.Call i o n a b) = NumberedGiven ms a × NumberedGiven ms b
  Numbered ms _ = Unit {0}

  pub NumberedGiven : List ℕ → Argument → Type 0
  NumberedGiven ms absent = Unit {0}
  NumberedGiven ms (given x) = Numbered ms x

-- one slot or another: a header is suited by both or by none
same_side : (a b : ℕ) (h : Option ℕ) → both_or_none (Some a) h ≡ both_or_none (Some b) h
same_side a b None = refl
same_side a b (Some n) = refl

-- what a tree that is a slot reads lies below the free ones
abbrev pub Below : ℕ → Term → Type 0
Below n (Slot i j) = j < n
Below n _ = Unit {0}

-- a tree that is cut, from these slots on
pub record Comes (p : PlainCore) (sc : ℕ → Scope) (l : Told) (k : ℕ) (r : Ready) (c : Cut) : Type 0 where
  pub piece : Piece (are_effects p sc l) k r c.steps c.next (λ s. is_term sc l s c.term ≡ true)
  pub below : Below c.next c.term

-- one whose value is kept
pub record ComesKept (p : PlainCore) (sc : ℕ → Scope) (l : Told) (k : ℕ) (r : Ready) (c : Kept) : Type 0 where
  pub piece : Piece (are_effects p sc l) k r c.steps c.next (λ s. s.kept c.slot ≡ Some c.node)
  pub below : c.slot < c.next

-- an argument of a call
pub record ComesGiven (p : PlainCore) (sc : ℕ → Scope) (l : Told) (k : ℕ) (r : Ready) (a : Argument) (c : CutArgument) : Type 0 where
  pub piece : Piece (are_effects p sc l) k r c.steps c.next (λ s. is_kept s c.slot ≡ true)
  pub same : (h : Option ℕ) → both_or_none (side a) h ≡ both_or_none c.slot h

kept_some : (s : Ready) (j i : ℕ) → s.kept j ≡ Some i → is_some (s.kept j) ≡ true
kept_some s j i e = ap (λ o. is_some o) e

module _ (p : PlainCore) (sc : ℕ → Scope) (l : Told) where
  fine_append : (r : Ready) (xs ys : List Effect) → are_effects p sc l r xs ≡ true → are_effects p sc l (after r xs) ys ≡ true → are_effects p sc l r (xs ++ ys) ≡ true
  fine_append r [] ys h g = g
  fine_append r (x ∷ xs) ys h g =
      let a = first_true (is_effect p sc l r x) (are_effects p sc l (ready_after r x) xs) h in
      let b = second_true (is_effect p sc l r x) (are_effects p sc l (ready_after r x) xs) h in
      both_true (is_effect p sc l r x) (are_effects p sc l (ready_after r x) (xs ++ ys)) a (fine_append (ready_after r x) xs ys b g)

  both : (k n m : ℕ) (r : Ready) (xs ys : List Effect) (M N : Ready → Type 0)
      → Piece (are_effects p sc l) k r xs n M → Piece (are_effects p sc l) n (after r xs) ys m N → Piece (are_effects p sc l) k r (xs ++ ys) m (λ s. M s × N s)
  both k n m r xs ys M N a b = record {
    fine = fine_append r xs ys a.fine b.fine;
    stays = subst (λ s. Stays k r s) (sym (after_append r xs ys)) (stays_then k n r (after r xs) (after (after r xs) ys) a.grows a.stays b.stays);
    grows = omega (arith, a.grows, b.grows);
    means = λ s h. let g : Stays m (after (after r xs) ys) s = subst (λ z. Stays m z s) (after_append r xs ys) h in
        (a.means s (stays_then n m (after r xs) (after (after r xs) ys) s b.grows b.stays g), b.means s g);
  }

  one : (k m : ℕ) (r : Ready) (y : Effect) (N : Ready → Type 0) → is_effect p sc l r y ≡ true → Stays k r (ready_after r y) → k ≤ m → ((s : Ready) → Stays m (ready_after r y) s → N s) → Piece (are_effects p sc l) k r (y ∷ []) m N
  one k m r y N e h le f = record { fine = both_true (is_effect p sc l r y) true e refl; stays = h; grows = le; means = f }

  -- steps, and one more that needs what they give
  then_one : (k n m : ℕ) (r : Ready) (xs : List Effect) (y : Effect) (M N : Ready → Type 0)
      → Piece (are_effects p sc l) k r xs n M → (M (after r xs) → is_effect p sc l (after r xs) y ≡ true) → Stays n (after r xs) (ready_after (after r xs) y) → n ≤ m → ((s : Ready) → Stays m (ready_after (after r xs) y) s → N s)
      → Piece (are_effects p sc l) k r (xs ++ y ∷ []) m N
  then_one k n m r xs y M N a e h le f =
      piece_as (λ s g. g.1) (both k n m r xs (y ∷ []) M N a (one n m (after r xs) y N (e (a.means (after r xs) (stays_same n (after r xs)))) h le f))

  none : (k : ℕ) (r : Ready) (M : Ready → Type 0) → ((s : Ready) → M s) → Piece (are_effects p sc l) k r [] k M
  none k r M f = record { fine = refl; stays = stays_same k r; grows = omega arith; means = λ s h. f s }

  -- ---- Keeping

  keep_it : (k : ℕ) (r : Ready) (xs : List Effect) (x : Term) (n : ℕ) → Piece (are_effects p sc l) k r xs n (λ s. is_term sc l s x ≡ true)
      → ComesKept p sc l k r (record { steps = xs ++ Keep n x ∷ []; node = id_of x; slot = n; next = n + 1 })
  keep_it k r xs x n a = record {
    piece = then_one k n (n + 1) r xs (Keep n x) (λ s. is_term sc l s x ≡ true) (λ s. s.kept n ≡ Some (id_of x)) a (λ h. h)
        (stays_kept n n (id_of x) (after r xs) (omega arith)) (omega arith) (λ s h. h.slots n (omega arith) ∙ kept_there n (id_of x) (after r xs));
    below = omega arith;
  }

  node_is : (o : Option ℕ) (i : ℕ) → is_node o i ≡ true → o ≡ Some i
  node_is None i e = cc
  node_is (Some j) i e = let h : j ≡ i = grind (nat_tests, arith) in ap (λ (m : ℕ). let o : Option ℕ = Some m in o) h

  kept_at : (k : ℕ) (r : Ready) (xs : List Effect) (x : Term) (n : ℕ) → Piece (are_effects p sc l) k r xs n (λ s. is_term sc l s x ≡ true) → Below n x → ComesKept p sc l k r (kept_term xs x n)
  kept_at k r xs (Slot i j) n a b = record { piece = piece_as (λ s h. node_is (s.kept j) i h) a; below = b }
  kept_at k r xs (Literal i c zs) n a b = keep_it k r xs (Literal i c zs) n a
  kept_at k r xs (Read i m) n a b = keep_it k r xs (Read i m) n a
  kept_at k r xs (Mono i f x) n a b = keep_it k r xs (Mono i f x) n a
  kept_at k r xs (Dyad i f x y) n a b = keep_it k r xs (Dyad i f x y) n a
  kept_at k r xs (Index i x ts) n a b = keep_it k r xs (Index i x ts) n a

  pub kept_comes : (k : ℕ) (r : Ready) (c : Cut) → Comes p sc l k r c → ComesKept p sc l k r (kept c)
  kept_comes k r c h = kept_at k r c.steps c.term c.next h.piece h.below

  from_kept : (k : ℕ) (r : Ready) (c : Kept) → ComesKept p sc l k r c → Comes p sc l k r (from_slot c)
  from_kept k r c h = record { piece = piece_as (λ s g. ap (λ o. is_node o c.node) g ∙ same_number c.node) h.piece; below = h.below }

  before_comes : (k : ℕ) (r : Ready) (c : Cut) (ys : List Effect) → Comes p sc l k r c → Comes p sc l k r (before c ys)
  before_comes k r c [] h = h
  before_comes k r c (y ∷ ys) h = from_kept k r (kept c) (kept_comes k r c h)

  -- ---- Forms

  dyad_comes : (k i : ℕ) (f : Primitive) (r : Ready) (y x : Cut) → is_checked f ≡ true → Comes p sc l k r y → Comes p sc l y.next (after r y.steps) x
      → Comes p sc l k r (record { steps = y.steps ++ x.steps; term = Dyad i f x.term y.term; next = x.next })
  dyad_comes k i f r y x e a b = record {
    piece = piece_as (λ s g. both_true (is_checked f) (is_term sc l s x.term && is_term sc l s y.term) e (both_true (is_term sc l s x.term) (is_term sc l s y.term) g.1 g.0))
        (both k y.next x.next r y.steps x.steps (λ s. is_term sc l s y.term ≡ true) (λ s. is_term sc l s x.term ≡ true) a.piece b.piece);
    below = tt;
  }

  read_assigned : (i n : ℕ) (s : Ready) → is_among i l.assigned ≡ true → is_variable (sc n) ≡ true → is_among n s.stored ≡ true → is_term sc l s (Read i n) ≡ true
  read_assigned i n s e v h = ap (λ b. is_read b s.stored n (sc n)) e ∙ both_true (is_variable (sc n)) (is_among n s.stored) v h

  stored_there : (i n : ℕ) (x : Term) (r : Ready) → is_among n (ready_after r (Store i n x)).stored ≡ true
  stored_there i n x r = ap (λ b. b || is_among n r.stored) (same_number n)

  assign_comes : (k i n : ℕ) (r : Ready) (x : Cut) → is_variable (sc n) ≡ true → is_among i l.assigned ≡ true → Comes p sc l k r x → Comes p sc l k r (cut_assign i n x)
  assign_comes k i n r x v e a = record {
    piece = then_one k x.next x.next r x.steps (Store i n x.term) (λ s. is_term sc l s x.term ≡ true) (λ s. is_term sc l s (Read i n) ≡ true) a.piece
        (λ h. both_true (is_variable (sc n)) (is_term sc l (after r x.steps) x.term) v h) (stays_stored x.next i n x.term (after r x.steps)) (omega arith)
        (λ s h. read_assigned i n s e v (h.assigned n (stored_there i n x.term (after r x.steps))));
    below = tt;
  }

  given_comes : (k : ℕ) (r : Ready) (x : Tree) (c : Kept) → ComesKept p sc l k r c → ComesGiven p sc l k r (given x) (argument_kept c)
  given_comes k r x c h = record { piece = piece_as (λ s g. kept_some s c.slot c.node g) h.piece; same = λ o. same_side 0 c.slot o }

  -- the function that is called has the slots that its header wants
  suited_call : (a b x y r1 r2 : Option ℕ) (o : Option CoreRoutine) → ((h : Option ℕ) → both_or_none a h ≡ both_or_none x h) → ((h : Option ℕ) → both_or_none b h ≡ both_or_none y h) → ((h : Option ℕ) → both_or_none r1 h ≡ both_or_none r2 h) → suits a b r1 o ≡ true → suits x y r2 o ≡ true
  suited_call a b x y r1 r2 None f g h e = cc
  suited_call a b x y r1 r2 (Some c) f g h e =
      sym (ap (λ u. u && (both_or_none y c.header.right && both_or_none r2 c.header.result)) (f c.header.left))
      ∙ sym (ap (λ u. both_or_none a c.header.left && (u && both_or_none r2 c.header.result)) (g c.header.right))
      ∙ sym (ap (λ u. both_or_none a c.header.left && (both_or_none b c.header.right && u)) (h c.header.result)) ∙ e

  -- both arguments, with what the call's step asks for
  arguments_come : (k : ℕ) (r : Ready) (a b : Argument) (y x : CutArgument) → ComesGiven p sc l k r b y → ComesGiven p sc l y.next (after r y.steps) a x
      → Piece (are_effects p sc l) k r (y.steps ++ x.steps) x.next (λ s. (is_kept s y.slot ≡ true) × (is_kept s x.slot ≡ true))
  arguments_come k r a b y x g h = both k y.next x.next r y.steps x.steps (λ s. is_kept s y.slot ≡ true) (λ s. is_kept s x.slot ≡ true) g.piece h.piece

  call_fine : (i n : ℕ) (s : Ready) (a b : Argument) (x y : CutArgument) (q q2 : Option ℕ) → suits (side a) (side b) q (slice_get p.routines (function_of (sc n))) ≡ true
      → ((h : Option ℕ) → both_or_none (side a) h ≡ both_or_none x.slot h) → ((h : Option ℕ) → both_or_none (side b) h ≡ both_or_none y.slot h) → ((h : Option ℕ) → both_or_none q h ≡ both_or_none q2 h)
      → (is_kept s y.slot ≡ true) × (is_kept s x.slot ≡ true) → is_effect p sc l s (Call i n x.slot y.slot q2) ≡ true
  call_fine i n s a b x y q q2 e f g h w =
      both_true (suits x.slot y.slot q2 (slice_get p.routines (function_of (sc n)))) (is_kept s x.slot && is_kept s y.slot)
      (suited_call (side a) (side b) x.slot y.slot q q2 (slice_get p.routines (function_of (sc n))) f g h e) (both_true (is_kept s x.slot) (is_kept s y.slot) w.1 w.0)

  call_comes : (k i n : ℕ) (r : Ready) (a b : Argument) (y x : CutArgument) → suits (side a) (side b) (Some 0) (slice_get p.routines (function_of (sc n))) ≡ true → ComesGiven p sc l k r b y → ComesGiven p sc l y.next (after r y.steps) a x
      → Comes p sc l k r (record { steps = call_steps i n y x (Some x.next); term = Slot i x.next; next = x.next + 1 })
  call_comes k i n r a b y x e g h =
      let q : List Effect = y.steps ++ x.steps in record {
        piece = then_one k x.next (x.next + 1) r q (Call i n x.slot y.slot (Some x.next)) (λ s. (is_kept s y.slot ≡ true) × (is_kept s x.slot ≡ true)) (λ s. is_node (s.kept x.next) i ≡ true)
            (arguments_come k r a b y x g h) (λ w. call_fine i n (after r q) a b x y (Some 0) (Some x.next) e h.same g.same (λ o. same_side 0 x.next o) w)
            (stays_kept x.next x.next i (after r q) (omega arith)) (omega arith)
            (λ s w. ap (λ o. is_node o i) (w.slots x.next (omega arith) ∙ kept_there x.next i (after r q)) ∙ same_number i);
        below = omega arith;
      }

  -- ---- Trees

  mutual
    pub cut_comes : (x : Tree) → Suited p sc x → Numbered l.assigned x → (k : ℕ) (r : Ready) → Comes p sc l k r (cut x k)
    cut_comes (t.Numbers i o zs) h g k r = record { piece = none k r (λ s. is_number Num zs ≡ true) (λ s. h); below = tt }
    cut_comes (t.Text i o cs) h g k r = absurd h
    cut_comes (t.Name i o n) h g k r = record { piece = none k r (λ s. is_term sc l s (Read i n) ≡ true) (λ s. ap (λ b. is_read b s.stored n (sc n)) g ∙ h); below = tt }
    cut_comes (t.TextInput i o) h g k r = absurd h
    cut_comes (t.NumsInput i o) h g k r = absurd h
    cut_comes (t.Mono i o f a) h g k r =
        let c : Cut = cut a k in
        let d = cut_comes a h.1 g k r in
        record { piece = piece_as (λ s w. both_true (is_sign f) (is_term sc l s c.term) h.0 w) d.piece; below = tt }
    cut_comes (t.Dyad i o f a b) h g k r =
        let y : Cut = before (cut b k) (cut a (cut b k).next).steps in
        dyad_comes k i f r y (cut a y.next) h.0 (before_comes k r (cut b k) (cut a (cut b k).next).steps (cut_comes b h.2 g.1 k r)) (cut_comes a h.1 g.0 y.next (after r y.steps))
    cut_comes (t.Index i o a xs) h g k r = absurd h
    cut_comes (t.Assign i o n a) h g k r = assign_comes k i n r (cut a k) h.0 g.0 (cut_comes a h.1 g.1 k r)
    cut_comes (t.AssignAt i o n xs a) h g k r = absurd h
    cut_comes (t.Show i o a) h g k r = absurd h
    cut_comes (t.Call i o n a b) h g k r =
        let y : CutArgument = cut_argument b k in
        call_comes k i n r a b y (cut_argument a y.next) h.0 (argument_comes b h.2 g.1 k r) (argument_comes a h.1 g.0 y.next (after r y.steps))

    pub argument_comes : (a : Argument) → SuitedGiven p sc a → NumberedGiven l.assigned a → (k : ℕ) (r : Ready) → ComesGiven p sc l k r a (cut_argument a k)
    argument_comes absent h g k r = record { piece = none k r (λ s. true ≡ true) (λ s. refl); same = λ o. refl }
    argument_comes (given x) h g k r = given_comes k r x (kept (cut x k)) (kept_comes k r (cut x k) (cut_comes x h g k r))

  -- ---- Statements

  -- one more step that changes nothing
  ended : (k n : ℕ) (r : Ready) (xs : List Effect) (y : Effect) (M : Ready → Type 0) → Piece (are_effects p sc l) k r xs n M → (M (after r xs) → is_effect p sc l (after r xs) y ≡ true) → are_effects p sc l r (xs ++ y ∷ []) ≡ true
  ended k n r xs y M a e = fine_append r xs (y ∷ []) a.fine (both_true (is_effect p sc l (after r xs) y) true (e (a.means (after r xs) (stays_same n (after r xs)))) refl)

  pub shown_fine : (x : Tree) → Suited p sc x → Numbered l.assigned x → are_effects p sc l nothing_ready ((cut x 0).steps ++ Show None (cut x 0).term ∷ []) ≡ true
  shown_fine x h g = let c = cut_comes x h g 0 nothing_ready in ended 0 (cut x 0).next nothing_ready (cut x 0).steps (Show None (cut x 0).term) (λ s. is_term sc l s (cut x 0).term ≡ true) c.piece (λ e. e)

  pub branch_fine : (x : Tree) → Suited p sc x → Numbered l.assigned x → are_effects p sc l nothing_ready ((cut x 0).steps ++ Branch (cut x 0).term ∷ []) ≡ true
  branch_fine x h g = let c = cut_comes x h g 0 nothing_ready in ended 0 (cut x 0).next nothing_ready (cut x 0).steps (Branch (cut x 0).term) (λ s. is_term sc l s (cut x 0).term ≡ true) c.piece (λ e. e)

  pub cut_fine : (x : Tree) → Suited p sc x → Numbered l.assigned x → are_effects p sc l nothing_ready (cut x 0).steps ≡ true
  cut_fine x h g = let c = cut_comes x h g 0 nothing_ready in c.piece.fine

  pub call_is_fine : (i n : ℕ) (a b : Argument) → suits (side a) (side b) None (slice_get p.routines (function_of (sc n))) ≡ true → SuitedGiven p sc a → SuitedGiven p sc b → NumberedGiven l.assigned a → NumberedGiven l.assigned b
      → are_effects p sc l nothing_ready (call_steps i n (cut_argument b 0) (cut_argument a (cut_argument b 0).next) None) ≡ true
  call_is_fine i n a b e h1 h2 g1 g2 =
      let y : CutArgument = cut_argument b 0 in
      let x : CutArgument = cut_argument a y.next in
      let c = argument_comes b h2 g2 0 nothing_ready in
      let d = argument_comes a h1 g1 y.next (after nothing_ready y.steps) in
      ended 0 x.next nothing_ready (y.steps ++ x.steps) (Call i n x.slot y.slot None) (λ s. (is_kept s y.slot ≡ true) × (is_kept s x.slot ≡ true))
      (arguments_come 0 nothing_ready a b y x c d) (λ w. call_fine i n (after nothing_ready (y.steps ++ x.steps)) a b x y None None e d.same c.same (λ o. refl) w)
