-- What a pass does at a tree whose cut is known, form by form.
use Rattle.std.proofs.Common.{◌≡◌, ◌∙◌, ap, sym, refl, subst, ℕ, List, [], ◌∷◌, ◌++◌, append_assoc, append-nil}
use Rattle.std.specs.Prelude.{Some}
use Rattle.aplc_syntax.specs.declared.tree.Primitive.{Primitive}
use Rattle.aplc_core.specs.PlainSteps.{Term, Read, Slot, Dyad, Terms, Effect, Store, Show}
use Rattle.aplc_core.specs.Lowering.{Cut, CutList, Kept, kept, from_slot, before, dyad_of, cut_dyad, cut_assign, cut_show}
use Rattle.aplc_core.specs.Passes.{Pass, next_number, waits, kept_last, all_kept, with_step, with_last, on_slot, dyad, assign, show}
use Rattle.aplc_core.proofs.Slots.{AreSlots, slots_stay, all_slots, kept_again, joined, kept_joined, entries, list_joined}

-- ---- Steps that are there

abbrev pub IsMore : List Effect → Type 0
IsMore [] = ⊥
IsMore (x ∷ xs) = Unit {0}

pub more_behind : (xs ys : List Effect) → IsMore ys → IsMore (xs ++ ys)
more_behind [] ys h = h
more_behind (x ∷ xs) ys h = record {}

pub one_behind : (xs : List Effect) (x : Effect) → IsMore (xs ++ x ∷ [])
one_behind xs x = more_behind xs (x ∷ []) (record {})

more_before : (xs ys : List Effect) → IsMore xs → IsMore (xs ++ ys)
more_before [] ys h = elim h [ ]
more_before (x ∷ xs) ys h = record {}

-- ---- What a pass does

-- where the cut has no step the tree waits, and nothing else; else what waited is kept, and the cut's steps stand behind
pub data Does (T : ℕ → Cut) (g : Pass → Pass) : Type 0 where
  calm : (u : Term) → ((k : ℕ) → T k ≡ record { steps = []; term = u; next = k }) → ((p : Pass) → g p ≡ waits u p) → Does T g
  busy : ((k : ℕ) → IsMore (T k).steps) → ((p : Pass) → g p ≡ joined (T (all_kept next_number p).free) (all_kept next_number p)) → Does T g

pub data DoesList (T : ℕ → CutList) (g : Pass → Pass) : Type 0 where
  calm_list : (us : Terms) → ((k : ℕ) → T k ≡ record { steps = []; terms = us; next = k }) → ((p : Pass) → g p ≡ record { steps = p.steps; free = p.free; waiting = entries us p.waiting }) → DoesList T g
  busy_list : ((k : ℕ) → IsMore (T k).steps) → ((p : Pass) → g p ≡ list_joined (T (all_kept next_number p).free) (all_kept next_number p)) → DoesList T g

-- what it leaves, once all of it is kept
pub then_kept : (T : ℕ → Cut) (g : Pass → Pass) → Does T g → (p : Pass) → all_kept next_number (g p) ≡ joined (from_slot (kept (T (all_kept next_number p).free))) (all_kept next_number p)
then_kept T g (calm u e h) p =
    let q = all_kept next_number p in
    ap (all_kept next_number) (h p ∙ sym (calm_again p u))
    ∙ kept_over p u
    ∙ ap (λ (c : Cut). joined (from_slot (kept c)) q) (sym (e q.free))
  where
    calm_again : (p : Pass) (u : Term) → waits u p ≡ waits u p
    calm_again p u = refl

    -- the tree that waits over the others is kept after them
    kept_over : (p : Pass) (u : Term) → all_kept next_number (waits u p) ≡ joined (from_slot (kept record { steps = []; term = u; next = (all_kept next_number p).free })) (all_kept next_number p)
    kept_over p u =
        let q = all_kept next_number p in
        ap (kept_last next_number u) (sym (joined_none q))
        ∙ sym (ap (λ (x : Pass). kept_last next_number u x) (slots_stay next_number q.waiting (q.steps ++ []) q.free (all_slots next_number p)))
        ∙ kept_joined record { steps = []; term = u; next = q.free } q (all_slots next_number p)
      where
        joined_none : (q : Pass) → record { steps = q.steps ++ []; free = q.free; waiting = q.waiting } ≡ q
        joined_none q = ap (λ (xs : List Effect). record { steps = xs; free = q.free; waiting = q.waiting }) (append-nil q.steps)
then_kept T g (busy m h) p =
    ap (all_kept next_number) (h p) ∙ kept_joined (T (all_kept next_number p).free) (all_kept next_number p) (all_slots next_number p)

-- where all that waits is kept
pub on_slots : (T : ℕ → Cut) (g : Pass → Pass) → Does T g → (q : Pass) → AreSlots q.waiting → g q ≡ joined (T q.free) q
on_slots T g (calm u e h) q s =
    h q
    ∙ ap (λ (xs : List Effect). record { steps = xs; free = q.free; waiting = u ∷ q.waiting }) (sym (append-nil q.steps))
    ∙ ap (λ (c : Cut). joined c q) (sym (e q.free))
on_slots T g (busy m h) q s = h q ∙ ap (λ (r : Pass). joined (T r.free) r) (kept_again next_number q s)

pub list_on_slots : (T : ℕ → CutList) (g : Pass → Pass) → DoesList T g → (q : Pass) → AreSlots q.waiting → g q ≡ list_joined (T q.free) q
list_on_slots T g (calm_list us e h) q s =
    h q
    ∙ ap (λ (xs : List Effect). record { steps = xs; free = q.free; waiting = entries us q.waiting }) (sym (append-nil q.steps))
    ∙ ap (λ (c : CutList). list_joined c q) (sym (e q.free))
list_on_slots T g (busy_list m h) q s = h q ∙ ap (λ (r : Pass). list_joined (T r.free) r) (kept_again next_number q s)

-- the same cut and the same pass
pub same : (T U : ℕ → Cut) (g h : Pass → Pass) → ((k : ℕ) → U k ≡ T k) → ((p : Pass) → h p ≡ g p) → Does T g → Does U h
same T U g h e f (calm u a b) = calm u (λ k. e k ∙ a k) (λ p. f p ∙ b p)
same T U g h e f (busy a b) =
    busy (λ k. subst (λ (c : Cut). IsMore c.steps) (sym (e k)) (a k)) (λ p. f p ∙ b p ∙ ap (λ (c : Cut). joined c (all_kept next_number p)) (sym (e (all_kept next_number p).free)))

-- ---- One argument

abbrev pub with_top : (Term → Term) → Cut → Cut
with_top w c = record { steps = c.steps; term = w c.term; next = c.next }

abbrev pub top_made : (Term → Term) → Pass → Pass
top_made w p = with_last (λ x. waits (w x)) p

pub does_top : (w : Term → Term) (T : ℕ → Cut) (g : Pass → Pass) → Does T g → Does (λ k. with_top w (T k)) (λ p. top_made w (g p))
does_top w T g (calm u e h) = calm (w u) (λ k. ap (with_top w) (e k)) (λ p. ap (top_made w) (h p))
does_top w T g (busy m h) = busy m (λ p. ap (top_made w) (h p))

-- ---- Two arguments

before_more : (x : Cut) (ys : List Effect) → IsMore ys → before x ys ≡ from_slot (kept x)
before_more x [] h = elim h [ ]
before_more x (y ∷ ys) h = refl

before_none : (x : Cut) (ys : List Effect) → ys ≡ [] → before x ys ≡ x
before_none x ys e = ap (before x) e

pub dyad_calm : (i : ℕ) (f : Primitive) (y : Cut) (A : ℕ → Cut) (v : Term) → ((k : ℕ) → A k ≡ record { steps = []; term = v; next = k }) → cut_dyad i f y A ≡ with_top (λ b. Dyad i f v b) y
dyad_calm i f y A v e =
    ap (λ (c : Cut). dyad_of i f c (A c.next)) (before_none y (A y.next).steps (ap (λ (c : Cut). c.steps) (e y.next)))
    ∙ ap (dyad_of i f y) (e y.next)
    ∙ ap (λ (xs : List Effect). record { steps = xs; term = Dyad i f v y.term; next = y.next }) (append-nil y.steps)

dyad_busy : (i : ℕ) (f : Primitive) (y : Cut) (A : ℕ → Cut) → IsMore (A y.next).steps → cut_dyad i f y A ≡ dyad_of i f (from_slot (kept y)) (A (kept y).next)
dyad_busy i f y A m = ap (λ (c : Cut). dyad_of i f c (A c.next)) (before_more y (A y.next).steps m)

pub does_dyad : (i : ℕ) (f : Primitive) (B A : ℕ → Cut) (g h : Pass → Pass) → Does B g → Does A h → Does (λ k. cut_dyad i f (B k) A) (λ p. dyad i f (h (g p)))
does_dyad i f B A g h b (calm v e d) =
    same (λ k. with_top (λ y. Dyad i f v y) (B k)) (λ k. cut_dyad i f (B k) A) (λ p. top_made (λ y. Dyad i f v y) (g p)) (λ p. dyad i f (h (g p)))
    (λ k. dyad_calm i f (B k) A v e)
    (λ p. ap (dyad i f) (d (g p)))
    (does_top (λ y. Dyad i f v y) B g b)
does_dyad i f B A g h b (busy m d) =
    busy (λ k. subst (λ (c : Cut). IsMore c.steps) (sym (dyad_busy i f (B k) A (m (B k).next))) (more_behind (kept (B k)).steps (A (kept (B k)).next).steps (m (kept (B k)).next)))
    (λ p. whole (all_kept next_number p) p (then_kept B g b p))
  where
    whole : (q p : Pass) → all_kept next_number (g p) ≡ joined (from_slot (kept (B q.free))) q → dyad i f (h (g p)) ≡ joined (cut_dyad i f (B q.free) A) q
    whole q p s =
        let k = kept (B q.free) in
        let x = A k.next in
        ap (dyad i f) (d (g p) ∙ ap (λ (r : Pass). joined (A r.free) r) s)
        ∙ ap (λ (xs : List Effect). record { steps = xs; free = x.next; waiting = Dyad i f x.term (Slot k.node k.slot) ∷ q.waiting }) (append_assoc q.steps k.steps x.steps)
        ∙ ap (λ (c : Cut). joined c q) (sym (dyad_busy i f (B q.free) A (m (B q.free).next)))

-- ---- Effects

stored : (xs : List Effect) (ys : List Effect) (x : Effect) → (xs ++ ys) ++ x ∷ [] ≡ xs ++ (ys ++ x ∷ [])
stored xs ys x = append_assoc xs ys (x ∷ [])

pub does_assign : (i n : ℕ) (T : ℕ → Cut) (g : Pass → Pass) → Does T g → Does (λ k. cut_assign i n (T k)) (λ p. assign next_number i n (g p))
does_assign i n T g (calm u e h) =
    busy (λ k. one_behind (T k).steps (Store i n (T k).term)) (λ p. ap (assign next_number i n) (h p) ∙ ap (λ (c : Cut). joined (cut_assign i n c) (all_kept next_number p)) (sym (e (all_kept next_number p).free)))
does_assign i n T g (busy m h) =
    busy (λ k. one_behind (T k).steps (Store i n (T k).term))
    (λ p. ap (assign next_number i n) (h p) ∙ whole (all_kept next_number p) (T (all_kept next_number p).free) (all_slots next_number p))
  where
    whole : (q : Pass) (c : Cut) → AreSlots q.waiting → assign next_number i n (joined c q) ≡ joined (cut_assign i n c) q
    whole q c s =
        ap (λ (r : Pass). waits (Read i n) (with_step (Store i n c.term) r)) (slots_stay next_number q.waiting (q.steps ++ c.steps) c.next s)
        ∙ ap (λ (xs : List Effect). record { steps = xs; free = c.next; waiting = Read i n ∷ q.waiting }) (stored q.steps c.steps (Store i n c.term))

pub does_show : (i : ℕ) (T : ℕ → Cut) (g : Pass → Pass) → Does T g → Does (λ k. cut_show i (kept (T k))) (λ p. show next_number i (g p))
does_show i T g d =
    busy (λ k. one_behind (kept (T k)).steps (Show (Some i) (Slot (kept (T k)).node (kept (T k)).slot)))
    (λ p. ap (with_last (on_slot (λ j k r. waits (Slot i k) (with_step (Show (Some i) (Slot j k)) r)))) (then_kept T g d p) ∙ whole (all_kept next_number p) (kept (T (all_kept next_number p).free)))
  where
    whole : (q : Pass) (k : Kept) → with_last (on_slot (λ j m r. waits (Slot i m) (with_step (Show (Some i) (Slot j m)) r))) (joined (from_slot k) q) ≡ joined (cut_show i k) q
    whole q k = ap (λ (xs : List Effect). record { steps = xs; free = k.next; waiting = Slot i k.slot ∷ q.waiting }) (stored q.steps k.steps (Show (Some i) (Slot k.node k.slot)))
