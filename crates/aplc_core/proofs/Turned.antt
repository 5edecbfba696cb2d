-- Items that are seen from their end, and trees that wait over slots.
use Rattle.std.proofs.Common.{◌≡◌, ◌∙◌, ap, sym, refl, subst, ℕ, ◌+◌, ◌<◌, length, length-append, List, [], ◌∷◌, ◌++◌, reverse, map, append_assoc, arith}
use Rattle.std.proofs.lemmas.List.{reverse-append, length-map}
use Rattle.std.specs.Prelude.{Option, Some, None, MatchOption}
use Rattle.aplc_core.specs.declared.step.Step.{Step}
use Rattle.aplc_core.specs.declared.step.Tree.{Tree}
use Rattle.aplc_core.specs.declared.written.Kept.{Kept}
use Rattle.aplc_core.specs.PlainSteps.{Term, Literal, Read, Slot, Mono, Dyad, Index, Effect, effect_of, term_of}
use Rattle.aplc_core.specs.Passes.{Pass, Count, next_slot, kept_last, keep_each, all_kept, waits}
use Rattle.aplc_core.specs.Stands.{Stand, pass_of, slot_tree, slot_term, kept_in_turn}
use Rattle.aplc_core.proofs.TermForms.{term_Slot}
use Rattle.aplc_core.proofs.Slots.{AreSlots, slots_stay}

pub reverse_push : {A : Type 0} (xs : List A) (x : A) → reverse (xs ++ x ∷ []) ≡ x ∷ reverse xs
reverse_push xs x = reverse-append xs (x ∷ [])

pub ruleset turned = (reverse_push)

are_slots : (ks : List Kept) → AreSlots (map term_of (map slot_tree ks))
are_slots [] = record {}
are_slots (k ∷ ks) = subst (λ (t : Term). AreSlots (t ∷ map term_of (map slot_tree ks))) (sym (term_Slot k.node k.slot)) (are_slots ks)

pub slot_trees_stay : (up : Count) (s : Stand) (ks : List Kept) → s.waiting ≡ map slot_tree ks → all_kept up (pass_of s) ≡ pass_of s
slot_trees_stay up s ks e = slots_stay up (map term_of s.waiting) (pass_of s).steps s.free (subst (λ (ts : List Tree). AreSlots (map term_of ts)) (sym e) (are_slots ks))

turned_one : (t : Tree) (ts w : List Tree) → reverse (t ∷ ts) ++ w ≡ reverse ts ++ t ∷ w
turned_one t ts w = ap (λ (l : List Tree). l ++ w) (reverse-append (t ∷ []) ts) ∙ append_assoc (reverse ts) (t ∷ []) w

-- the trees over others, kept from the first that waits on
pub kept_turned : (up : Count) (ts w : List Tree) (xs : List Effect) (n : ℕ) → keep_each up (map term_of (reverse ts ++ w)) xs n ≡ kept_in_turn up (map term_of ts) (keep_each up (map term_of w) xs n)
kept_turned up [] w xs n = refl
kept_turned up (t ∷ ts) w xs n = ap (λ (l : List Tree). keep_each up (map term_of l) xs n) (turned_one t ts w) ∙ kept_turned up ts (t ∷ w) xs n

-- ---- Slots that wait

abbrev pub stand_at : List Step → ℕ → List Kept → Stand
stand_at xs n ks = record { steps = xs; free = n; waiting = map slot_tree (reverse ks) }

pub one_waits : (xs : List Step) (n : ℕ) (ks js : List Kept) (k : Kept) (s : Stand) → stand_at xs n ks ≡ s → js ≡ ks ++ k ∷ [] → pass_of (stand_at xs n js) ≡ waits (slot_term k) (pass_of s)
one_waits xs n ks js k s e h =
    ap (λ (l : List Kept). pass_of (stand_at xs n l)) h
    ∙ ap (λ (l : List Kept). pass_of record { steps = xs; free = n; waiting = map slot_tree l }) (reverse_push ks k)
    ∙ ap (λ (t : Term). waits t (pass_of (stand_at xs n ks))) (term_Slot k.node k.slot)
    ∙ ap (λ (z : Stand). waits (slot_term k) (pass_of z)) e

abbrev pub Popped : List Kept → List Kept → Option Kept → Type 0
Popped ks js o = MatchOption o ((ks ≡ []) × (js ≡ [])) (λ k. ks ≡ js ++ k ∷ [])

abbrev pub SlotPopped : Stand → Stand → Option Kept → Type 0
SlotPopped s r o = MatchOption o ((s.waiting ≡ []) × (r ≡ s)) (λ k. pass_of s ≡ waits (slot_term k) (pass_of r))

pub slot_popped : (xs : List Step) (n : ℕ) (ks js : List Kept) (o : Option Kept) (s : Stand) → stand_at xs n ks ≡ s → Popped ks js o → SlotPopped s (stand_at xs n js) o
slot_popped xs n ks js None s e h =
    (ap (λ (z : Stand). z.waiting) (sym e) ∙ ap (λ (l : List Kept). map slot_tree (reverse l)) h.0, ap (stand_at xs n) (h.1 ∙ sym h.0) ∙ e)
slot_popped xs n ks js (Some k) s e h = ap pass_of (sym e) ∙ one_waits xs n js ks k (stand_at xs n js) refl h

-- trees that wait over slots
abbrev pub stand_over : List Tree → Stand → Stand
stand_over ts w = record { steps = w.steps; free = w.free; waiting = reverse ts ++ w.waiting }

pub all_kept_over : (ts us vs : List Tree) (w v s : Stand) → stand_over ts w ≡ s → us ≡ ts → vs ≡ [] → all_kept next_slot (pass_of w) ≡ pass_of w → pass_of v ≡ kept_in_turn next_slot (map term_of us) (pass_of w) → pass_of (stand_over vs v) ≡ all_kept next_slot (pass_of s)
all_kept_over ts us vs w v s e a b k h =
    ap (λ (l : List Tree). pass_of (stand_over l v)) b
    ∙ h
    ∙ ap (λ (l : List Tree). kept_in_turn next_slot (map term_of l) (pass_of w)) a
    ∙ ap (kept_in_turn next_slot (map term_of ts)) (sym k)
    ∙ sym (kept_turned next_slot ts w.waiting (map effect_of w.steps) w.free)
    ∙ ap (λ (z : Stand). all_kept next_slot (pass_of z)) e

-- ---- How many trees wait

one_more_waits : (up : Count) (t : Term) (p : Pass) → length (kept_last up t p).waiting ≡ length (t ∷ p.waiting)
one_more_waits up (Slot i k) p = refl
one_more_waits up (Literal i k zs) p = refl
one_more_waits up (Read i n) p = refl
one_more_waits up (Mono i f b) p = refl
one_more_waits up (Dyad i f a b) p = refl
one_more_waits up (Index i a js) p = refl

pub as_many_kept : (up : Count) (ts : List Term) (xs : List Effect) (n : ℕ) → length (keep_each up ts xs n).waiting ≡ length ts
as_many_kept up [] xs n = refl
as_many_kept up (t ∷ ts) xs n =
    let q = keep_each up ts xs n in
    one_more_waits up t q ∙ length-append (t ∷ []) q.waiting ∙ ap (λ (m : ℕ). length (t ∷ []) + m) (as_many_kept up ts xs n) ∙ sym (length-append (t ∷ []) ts)

count_of_kept : (s : Stand) (p : Pass) → all_kept next_slot (pass_of s) ≡ p → length s.waiting ≡ length p.waiting
count_of_kept s p e =
    sym (length-map s.waiting term_of) ∙ sym (as_many_kept next_slot (map term_of s.waiting) (pass_of s).steps s.free) ∙ ap (λ (q : Pass). length q.waiting) e

-- as many wait when all is kept
pub all_counted : (s z : Stand) → pass_of z ≡ all_kept next_slot (pass_of s) → length z.waiting ≡ length s.waiting
all_counted s z e = sym (length-map z.waiting term_of) ∙ sym (count_of_kept s (pass_of z) (sym e))

-- one tree less waits where the last is taken
pub count_taken : (s z : Stand) (t : Term) → all_kept next_slot (pass_of s) ≡ waits t (pass_of z) → length s.waiting ≡ length z.waiting + 1
count_taken s z t e =
    let a : length s.waiting ≡ length (t ∷ map term_of z.waiting) = count_of_kept s (waits t (pass_of z)) e in
    let b : length (t ∷ map term_of z.waiting) ≡ 1 + length (map term_of z.waiting) = length-append (t ∷ []) (map term_of z.waiting) in
    let d : length (map term_of z.waiting) ≡ length z.waiting = length-map z.waiting term_of in
    omega (arith, a, b, d)

pub none_waits : (s v : Stand) (vs : List Tree) → vs ≡ [] → v.waiting ≡ [] → pass_of (stand_over vs v) ≡ all_kept next_slot (pass_of s) → 0 < length s.waiting → ⊥
none_waits s v vs b g h k =
    let a : length s.waiting ≡ 0 = count_of_kept s (pass_of (stand_over vs v)) (sym h) ∙ ap (λ (l : List Tree). length (map term_of (reverse l ++ v.waiting))) b ∙ ap (λ (l : List Tree). length (map term_of l)) g in
    omega (arith, a, k)

pub slot_over : (vs : List Tree) (v r s : Stand) (k : Kept) → vs ≡ [] → pass_of (stand_over vs v) ≡ all_kept next_slot (pass_of s) → pass_of v ≡ waits (slot_term k) (pass_of r) → all_kept next_slot (pass_of s) ≡ waits (slot_term k) (pass_of (stand_over vs r))
slot_over vs v r s k b h g =
    sym h ∙ ap (λ (l : List Tree). pass_of (stand_over l v)) b ∙ g ∙ ap (λ (l : List Tree). waits (slot_term k) (pass_of (stand_over l r))) (sym b)
