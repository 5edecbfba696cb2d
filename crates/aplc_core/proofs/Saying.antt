-- The steps of a statement say it: pieces of a line, put together from right to left.
use Rattle.std.proofs.Common.{◌≡◌, ℕ, ◌+◌, ◌≤◌, ◌<◌, List, [], ◌∷◌, ◌++◌, Some, None, refl, sym, ap, ap₂, ◌∙◌, subst, arith, Bool, true, false, inl, inr, ◌⊎◌, append_assoc}
use Rattle.std.specs.Prelude.{nat_eq, if◌then◌else◌}
use Rattle.std.proofs.lemmas.List.{append-nil}
use Rattle.std.proofs.lemmas.Bool.Decides.{nat_tests}
use Rattle.aplc_syntax.specs.PlainTrees.{Tree, Trees, Argument, absent, given, id_of}
use Rattle.aplc_syntax.specs.PlainTrees as t
use Rattle.aplc_core.specs.PlainSteps.{Term, Literal, Read, Slot, Mono, Dyad, Index, Terms, Effect, Keep}
use Rattle.aplc_core.specs.PlainSteps as s
use Rattle.aplc_core.specs.Structure.{Done, IsAmong, behind, Means, means_slot, means_numbers, means_text, means_name, means_assigned, means_mono, means_dyad, means_index, MeansList, means_no_more, means_left_out, means_and, did, Does, keeps, DoesAll, no_steps, and_steps, in_order, list_in_order}
use Rattle.aplc_core.specs.Lowering.{Cut, CutList, Kept, kept_term, kept, from_slot, and_kept, kept_terms, kept_all}

-- ---- Steps in a row

pub does_then : {d e h : Done} {xs ys : List Effect} {js ks : List ℕ} → DoesAll d xs js e → DoesAll e ys ks h → DoesAll d (xs ++ ys) (js ++ ks) h
does_then no_steps q = q
does_then {h = h} {ys = ys} {ks = ks} (and_steps {x = x} {xs = xs} {js = j1} {ks = j2} {d = d} a r) q =
    subst (λ o. DoesAll d (x ∷ (xs ++ ys)) o h) (sym (append_assoc j1 j2 ks)) (and_steps a (does_then r q))

pub does_one : {d e : Done} {x : Effect} {js : List ℕ} → Does d x js e → DoesAll d (x ∷ []) js e
does_one {d = d} {e = e} {x = x} {js = js} a = subst (λ o. DoesAll d (x ∷ []) o e) (append-nil js) (and_steps a no_steps)

none_emitted : {d e : Done} {xs : List Effect} {js : List ℕ} → DoesAll d xs js e → xs ≡ [] → js ≡ []
none_emitted no_steps h = refl
none_emitted (and_steps a r) h = absurd cc

-- ---- What stays

-- the slots below k and the nodes of d are there in e
pub record Stays (k : ℕ) (d e : Done) : Type 0 where
  pub slots : (j : ℕ) → j < k → e.slots j ≡ d.slots j
  pub nodes : (x : Tree) → IsAmong x d.nodes → IsAmong x e.nodes

pub stays_same : {k : ℕ} {d : Done} → Stays k d d
stays_same = record { slots = λ j l. refl; nodes = λ x h. h }

pub stays_then : {k n : ℕ} {d e h : Done} → k ≤ n → Stays k d e → Stays n e h → Stays k d h
stays_then l p q = record { slots = λ j b. q.slots j (omega (arith, l, b)) ∙ p.slots j b; nodes = λ x i. q.nodes x (p.nodes x i) }

pub stays_below : {k n : ℕ} {d e : Done} → k ≤ n → Stays n d e → Stays k d e
stays_below l p = record { slots = λ j b. p.slots j (omega (arith, l, b)); nodes = p.nodes }

-- ---- Slots

same_slot : (k : ℕ) → nat_eq k k ≡ true
same_slot k = grind (nat_tests, arith)

other_slot : (k j : ℕ) → j < k → nat_eq k j ≡ false
other_slot k j l = grind (nat_tests, arith)

pub slot_set : (k : ℕ) (x : Tree) (d : Done) → (did (Some k) x d).slots k ≡ Some x
slot_set k x d = ap (λ (b : Bool). if b then Some x else d.slots k) (same_slot k)

-- a slot from k on is set
pub stays_set : {k n : ℕ} (x : Tree) (d : Done) → k ≤ n → Stays k d (did (Some n) x d)
stays_set {k} {n} x d l = record {
  slots = λ j b. ap (λ (c : Bool). if c then Some x else d.slots j) (other_slot n j (omega (arith, l, b)));
  nodes = λ y h. behind h;
}

pub stays_none : {k : ℕ} (x : Tree) (d : Done) → Stays k d (did None x d)
stays_none x d = record { slots = λ j b. refl; nodes = λ y h. behind h }

-- ---- Pieces

-- The steps of a piece do this, and what is left of it still has its meaning, in whatever may come: together all its nodes.
pub record Made (k : ℕ) (d : Done) (xs : List Effect) (n : ℕ) (M : Done → List ℕ → Type 0) (whole : List ℕ) : Type 0 where
  pub after : Done
  pub emitted : List ℕ
  pub order : List ℕ
  pub does : DoesAll d xs emitted after
  pub stays : Stays k d after
  pub means : (e : Done) → Stays n after e → M e order
  pub all : emitted ++ order ≡ whole
  pub grows : k ≤ n

-- two pieces, where the second has no steps or nothing of the first is left
abbrev pub Both : (Done → List ℕ → Type 0) → (Done → List ℕ → Type 0) → Done → List ℕ → Type 0
Both M N e js = (is : List ℕ) × (ks : List ℕ) × M e is × N e ks × (js ≡ is ++ ks)

pub joined_all : (p o q r v w : List ℕ) → p ++ o ≡ v → q ++ r ≡ w → (q ≡ []) ⊎ (o ≡ []) → (p ++ q) ++ (o ++ r) ≡ v ++ w
joined_all p o q r v w a b (inl e) =
    ap (λ z. (p ++ z) ++ (o ++ r)) e ∙ ap (λ z. z ++ (o ++ r)) (append-nil p) ∙ sym (append_assoc p o r)
    ∙ ap₂ (λ x y. x ++ y) a (sym (ap (λ z. z ++ r) e) ∙ b)
joined_all p o q r v w a b (inr e) =
    ap (λ z. (p ++ q) ++ (z ++ r)) e ∙ append_assoc p q r
    ∙ ap₂ (λ x y. x ++ y) (sym (append-nil p) ∙ sym (ap (λ z. p ++ z) e) ∙ a) b

pub settled : {e h : Done} {us : List Effect} {js o : List ℕ} → DoesAll e us js h → (us ≡ []) ⊎ (o ≡ []) → (js ≡ []) ⊎ (o ≡ [])
settled r (inl b) = inl (none_emitted r b)
settled r (inr b) = inr b

abbrev pub both : {k n m : ℕ} {d : Done} {xs ys : List Effect} {M N : Done → List ℕ → Type 0} {v w : List ℕ} (p : Made k d xs n M v) (q : Made n p.after ys m N w)
    → (ys ≡ []) ⊎ (p.order ≡ []) → Made k d (xs ++ ys) m (Both M N) (v ++ w)
both {v = v} {w = w} p q c = record {
  after = q.after;
  emitted = p.emitted ++ q.emitted;
  order = p.order ++ q.order;
  does = does_then p.does q.does;
  stays = stays_then p.grows p.stays q.stays;
  means = λ e h. (p.order, q.order, p.means e (stays_then q.grows q.stays h), q.means e h, refl);
  all = joined_all p.emitted p.order q.emitted q.order v w p.all q.all (settled q.does c);
  grows = omega (arith, p.grows, q.grows);
}

-- a node of the piece, evaluated with what is left of it
abbrev pub made_on : {k n : ℕ} {d : Done} {xs : List Effect} {M N : Done → List ℕ → Type 0} {v : List ℕ} (more : List ℕ)
    → ((e : Done) (js : List ℕ) → M e js → N e (js ++ more)) → Made k d xs n M v → Made k d xs n N (v ++ more)
made_on more f p = record {
  after = p.after;
  emitted = p.emitted;
  order = p.order ++ more;
  does = p.does;
  stays = p.stays;
  means = λ e h. f e p.order (p.means e h);
  all = sym (append_assoc p.emitted p.order more) ∙ ap (λ z. z ++ more) p.all;
  grows = p.grows;
}

-- the same said of other meanings
abbrev pub made_as : {k n : ℕ} {d : Done} {xs : List Effect} {M N : Done → List ℕ → Type 0} {v : List ℕ}
    → ((e : Done) (js : List ℕ) → M e js → N e js) → Made k d xs n M v → Made k d xs n N v
made_as f p = record { after = p.after; emitted = p.emitted; order = p.order; does = p.does; stays = p.stays; means = λ e h. f e p.order (p.means e h); all = p.all; grows = p.grows }

-- ---- Trees

-- where the tree is a slot, it has the node's value
pub record IsSlotOf (k n : ℕ) (d : Done) (x : Tree) (i j : ℕ) (js : List ℕ) : Type 0 where
  pub number : i ≡ id_of x
  pub none : js ≡ []
  pub there : d.slots j ≡ Some x
  pub above : k ≤ j
  pub below : j < n

abbrev pub InSlot : ℕ → ℕ → Done → Tree → Term → List ℕ → Type 0
InSlot k n d x (Slot i j) js = IsSlotOf k n d x i j js
InSlot k n d x _ js = Unit {0}

abbrev pub Meaning : Tree → Term → Done → List ℕ → Type 0
Meaning x b e js = Means e b x js

abbrev pub MeaningList : Trees → Terms → Done → List ℕ → Type 0
MeaningList ys bs e js = MeansList e bs ys js

pub record Comes (k : ℕ) (d : Done) (x : Tree) (c : Cut) : Type 0 where
  pub made : Made k d c.steps c.next (Meaning x c.term) (in_order x)
  pub slot : InSlot k c.next made.after x c.term made.order

-- the places of an index list, each with its meaning
pub data Parts (k n : ℕ) (a : Done) : Terms → Trees → List ℕ → Type 0 where
  part_none : Parts k n a s.no_more t.no_more []
  part_left : {bs : Terms} {ys : Trees} {js : List ℕ} → Parts k n a bs ys js → Parts k n a (s.left_out bs) (t.left_out ys) js
  part_and : {b : Term} {bs : Terms} {y : Tree} {ys : Trees} {js ks : List ℕ}
      → Parts k n a bs ys js → ((e : Done) → Stays n a e → Means e b y ks) → InSlot k n a y b ks → Parts k n a (s.and_term b bs) (t.and_tree y ys) (js ++ ks)

pub record ComesList (k : ℕ) (d : Done) (ys : Trees) (c : CutList) : Type 0 where
  pub made : Made k d c.steps c.next (MeaningList ys c.terms) (list_in_order ys)
  pub parts : Parts k c.next made.after c.terms ys made.order

-- the slot has the node's value
pub record ComesKept (k n : ℕ) (d a : Done) (x : Tree) (c : Kept) (whole : List ℕ) : Type 0 where
  pub after : Done
  pub does : DoesAll d c.steps whole after
  pub stays : Stays k d after
  pub later : Stays n a after
  pub there : after.slots c.slot ≡ Some x
  pub number : c.node ≡ id_of x
  pub above : k ≤ c.slot
  pub below : c.slot < c.next
  pub grows : n ≤ c.next

relabel : {d e : Done} {xs : List Effect} {js ks : List ℕ} → js ≡ ks → DoesAll d xs js e → DoesAll d xs ks e
relabel {d = d} {e = e} {xs = xs} h r = subst (λ o. DoesAll d xs o e) h r

-- a tree that is no slot is kept
keep_it : (k : ℕ) (d : Done) (x : Tree) (xs : List Effect) (b : Term) (n : ℕ) (v : List ℕ) (p : Made k d xs n (Meaning x b) v)
    → ComesKept k n d p.after x (record { steps = xs ++ Keep n b ∷ []; node = s.id_of b; slot = n; next = n + 1 }) v
keep_it k d x xs b n v p = record {
  after = did (Some n) x p.after;
  does = relabel p.all (does_then p.does (does_one (keeps (p.means p.after stays_same))));
  stays = stays_then p.grows p.stays (stays_set x p.after (omega arith));
  later = stays_set x p.after (omega arith);
  there = slot_set n x p.after;
  number = node_of (p.means p.after stays_same);
  above = p.grows;
  below = omega arith;
  grows = omega arith;
}
  where
    node_of : {e : Done} {u : Term} {y : Tree} {js : List ℕ} → Means e u y js → s.id_of u ≡ id_of y
    node_of means_numbers = refl
    node_of means_text = refl
    node_of means_name = refl
    node_of (means_assigned h) = refl
    node_of (means_slot h) = refl
    node_of (means_mono h) = refl
    node_of (means_dyad h g) = refl
    node_of (means_index h g) = refl

kept_at : (k : ℕ) (d : Done) (x : Tree) (xs : List Effect) (b : Term) (n : ℕ) (v : List ℕ) (p : Made k d xs n (Meaning x b) v)
    → InSlot k n p.after x b p.order → ComesKept k n d p.after x (kept_term xs b n) v
kept_at k d x xs (Slot i j) n v p h = record {
  after = p.after;
  does = relabel (sym (append-nil p.emitted) ∙ sym (ap (λ z. p.emitted ++ z) h.none) ∙ p.all) p.does;
  stays = p.stays;
  later = stays_same;
  there = h.there;
  number = h.number;
  above = h.above;
  below = h.below;
  grows = omega arith;
}
kept_at k d x xs (Read i m) n v p h = keep_it k d x xs (Read i m) n v p
kept_at k d x xs b n v p h = keep_it k d x xs b n v p

pub kept_comes : {k : ℕ} {d : Done} {x : Tree} {c : Cut} (p : Comes k d x c) → ComesKept k c.next d p.made.after x (kept c) (in_order x)
kept_comes {k = k} {d = d} {x = x} {c = c} p = kept_at k d x c.steps c.term c.next (in_order x) p.made p.slot

-- what is in its slot has its meaning there
pub slot_means : {x : Tree} {i j : ℕ} {e : Done} → i ≡ id_of x → e.slots j ≡ Some x → Means e (Slot i j) x []
slot_means {x = x} {j = j} {e = e} h q = subst (λ i. Means e (Slot i j) x []) (sym h) (means_slot q)

abbrev pub made_kept : {k n : ℕ} {d a : Done} {x : Tree} {c : Kept} → ComesKept k n d a x c (in_order x) → Made k d c.steps c.next (Meaning x (Slot c.node c.slot)) (in_order x)
made_kept {x = x} {c = c} p = record {
  after = p.after;
  emitted = in_order x;
  order = [];
  does = p.does;
  stays = p.stays;
  means = λ e h. slot_means p.number (h.slots c.slot p.below ∙ p.there);
  all = append-nil (in_order x);
  grows = omega (arith, p.above, p.below);
}

abbrev pub from_kept : {k n : ℕ} {d a : Done} {x : Tree} {c : Kept} → ComesKept k n d a x c (in_order x) → Comes k d x (from_slot c)
from_kept p = record { made = made_kept p; slot = record { number = p.number; none = refl; there = p.there; above = p.above; below = p.below } }

-- ---- Index lists

pub in_slot_later : {k l n m : ℕ} {a e : Done} (x : Tree) (js : List ℕ) (b : Term) → l ≤ k → n ≤ m → Stays n a e → InSlot k n a x b js → InSlot l m e x b js
in_slot_later x js (Slot i j) g h q p = record { number = p.number; none = p.none; there = q.slots j p.below ∙ p.there; above = omega (arith, g, p.above); below = omega (arith, h, p.below) }
in_slot_later x js (Read i m) g h q p = tt
in_slot_later x js b g h q p = tt

pub parts_later : {k n m : ℕ} {a e : Done} {bs : Terms} {ys : Trees} {js : List ℕ} → n ≤ m → Stays n a e → Parts k n a bs ys js → Parts k m e bs ys js
parts_later h q part_none = part_none
parts_later h q (part_left p) = part_left (parts_later h q p)
parts_later h q (part_and {b = b} {y = y} {ks = ks} p m i) = part_and (parts_later h q p) (λ e r. m e (stays_then h q r)) (in_slot_later y ks b (omega arith) h q i)

pub parts_mean : {k n : ℕ} {a : Done} {bs : Terms} {ys : Trees} {js : List ℕ} → Parts k n a bs ys js → (e : Done) → Stays n a e → MeansList e bs ys js
parts_mean part_none e r = means_no_more
parts_mean (part_left p) e r = means_left_out (parts_mean p e r)
parts_mean (part_and p m i) e r = means_and (parts_mean p e r) (m e r)

-- each place is in a slot
pub record ComesAll (k n : ℕ) (d a : Done) (ys : Trees) (c : CutList) (whole : List ℕ) : Type 0 where
  pub after : Done
  pub does : DoesAll d c.steps whole after
  pub stays : Stays k d after
  pub later : Stays n a after
  pub grows : n ≤ c.next
  pub parts : Parts k c.next after c.terms ys []

placed : {k n : ℕ} {d a : Done} {ys : Trees} {y : Tree} (em js ks : List ℕ) (c : CutList) (q : Kept) (r : ComesAll k n d a ys c (em ++ js))
    → ComesKept k c.next d r.after y q ((em ++ js) ++ ks) → ComesAll k n d a (t.and_tree y ys) (and_kept q c.terms) (em ++ (js ++ ks))
placed em js ks c q r g = record {
  after = g.after;
  does = relabel (append_assoc em js ks) g.does;
  stays = g.stays;
  later = stays_then r.grows r.later g.later;
  grows = omega (arith, r.grows, g.grows);
  parts = part_and (parts_later g.grows g.later r.parts) (λ e h. slot_means g.number (h.slots q.slot g.below ∙ g.there))
      (record { number = g.number; none = refl; there = g.there; above = g.above; below = g.below });
}

keep_place : {k n : ℕ} {d a : Done} {ys : Trees} {y : Tree} {b : Term} (em js ks : List ℕ) (c : CutList) → k ≤ n → (r : ComesAll k n d a ys c (em ++ js))
    → ((e : Done) → Stays n a e → Means e b y ks) → InSlot k n a y b ks → ComesAll k n d a (t.and_tree y ys) (and_kept (kept_term c.steps b c.next) c.terms) (em ++ (js ++ ks))
keep_place {k = k} {d = d} {y = y} {b = b} em js ks c l r m i =
    placed em js ks c (kept_term c.steps b c.next) r (kept_at k d y c.steps b c.next ((em ++ js) ++ ks) (record {
      after = r.after;
      emitted = em ++ js;
      order = ks;
      does = r.does;
      stays = r.stays;
      means = λ e h. m e (stays_then r.grows r.later h);
      all = refl;
      grows = omega (arith, l, r.grows);
    })
    (in_slot_later y ks b (omega arith) r.grows r.later i))

pub keep_parts : {k n : ℕ} {d a : Done} {xs : List Effect} (em : List ℕ) {bs : Terms} {ys : Trees} {js : List ℕ} → DoesAll d xs em a → Stays k d a → k ≤ n
    → Parts k n a bs ys js → ComesAll k n d a ys (kept_terms xs bs n) (em ++ js)
keep_parts {a = a} em r h l part_none = record { after = a; does = relabel (sym (append-nil em)) r; stays = h; later = stays_same; grows = omega arith; parts = part_none }
keep_parts em r h l (part_left {js = js} p) = let q = keep_parts em r h l p in
    record { after = q.after; does = q.does; stays = q.stays; later = q.later; grows = q.grows; parts = part_left q.parts }
keep_parts {n = n} {xs = xs} em r h l (part_and {bs = bs} {js = js} {ks = ks} p m i) = keep_place em js ks (kept_terms xs bs n) l (keep_parts em r h l p) m i

-- an index list whose places are in slots
abbrev pub made_all : {k n : ℕ} {d a : Done} {ys : Trees} {c : CutList} (v : List ℕ) → k ≤ n → ComesAll k n d a ys c v → Made k d c.steps c.next (MeaningList ys c.terms) v
made_all v l p = record {
  after = p.after;
  emitted = v;
  order = [];
  does = p.does;
  stays = p.stays;
  means = λ e h. parts_mean p.parts e h;
  all = append-nil v;
  grows = omega (arith, l, p.grows);
}

pub comes_all : {k : ℕ} {d : Done} {ys : Trees} {c : CutList} → ComesList k d ys c → (q : ComesList k d ys (kept_all c)) × (q.made.order ≡ [])
comes_all {k = k} {d = d} {ys = ys} {c = c} p = all_of (keep_parts p.made.emitted p.made.does p.made.stays p.made.grows p.parts)
  where
    all_of : ComesAll k c.next d p.made.after ys (kept_all c) (p.made.emitted ++ p.made.order) → (q : ComesList k d ys (kept_all c)) × (q.made.order ≡ [])
    all_of q = let r = subst (λ v. ComesAll k c.next d p.made.after ys (kept_all c) v) p.made.all q in (record { made = made_all (list_in_order ys) p.made.grows r; parts = r.parts }, refl)
