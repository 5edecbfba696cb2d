-- Trees that wait in slots, and the steps that keep them there.
use Rattle.std.proofs.Common.{◌≡◌, ◌∙◌, ap, sym, refl, ℕ, List, [], ◌∷◌, ◌++◌, append_assoc, append-nil}
use Rattle.aplc_core.specs.PlainSteps.{Term, Literal, Read, Slot, Mono, Dyad, Index, Terms, no_more, left_out, and_term, Effect, Keep, id_of}
use Rattle.aplc_core.specs.Lowering.{Cut, CutList, Kept, kept_term, kept, from_slot, kept_terms, and_left_out, and_kept}
use Rattle.aplc_core.specs.Passes.{Pass, Count, next_number, waits, kept_last, keep_each, all_kept}

-- ---- Keeping a tree, whatever its form

abbrev pub keep_step : Term → ℕ → List Effect
keep_step (Slot i k) n = []
keep_step t n = Keep n t ∷ []

abbrev pub slot_of : Term → ℕ → ℕ
slot_of (Slot i k) n = k
slot_of t n = n

abbrev pub free_after : Count → Term → ℕ → ℕ
free_after up (Slot i k) n = n
free_after up t n = up n

abbrev pub in_slot : Term → ℕ → Term
in_slot t n = Slot (id_of t) (slot_of t n)

abbrev pub with_kept : Count → Term → Pass → Pass
with_kept up t p = record { steps = p.steps ++ keep_step t p.free; free = free_after up t p.free; waiting = in_slot t p.free ∷ p.waiting }

pub last_kept : (up : Count) (t : Term) (p : Pass) → kept_last up t p ≡ with_kept up t p
last_kept up (Slot i k) p = ap (λ (xs : List Effect). record { steps = xs; free = p.free; waiting = Slot i k ∷ p.waiting }) (sym (append-nil p.steps))
last_kept up (Literal i k zs) p = refl
last_kept up (Read i n) p = refl
last_kept up (Mono i f b) p = refl
last_kept up (Dyad i f a b) p = refl
last_kept up (Index i a js) p = refl

abbrev pub kept_as : List Effect → Term → ℕ → Kept
kept_as xs t n = record { steps = xs ++ keep_step t n; node = id_of t; slot = slot_of t n; next = free_after next_number t n }

pub term_kept : (xs : List Effect) (t : Term) (n : ℕ) → kept_term xs t n ≡ kept_as xs t n
term_kept xs (Slot i k) n = ap (λ (ys : List Effect). record { steps = ys; node = i; slot = k; next = n }) (sym (append-nil xs))
term_kept xs (Literal i k zs) n = refl
term_kept xs (Read i m) n = refl
term_kept xs (Mono i f b) n = refl
term_kept xs (Dyad i f a b) n = refl
term_kept xs (Index i a js) n = refl

-- ---- Trees that wait in slots already

abbrev pub AreSlots : List Term → Type 0
AreSlots [] = Unit {0}
AreSlots (Slot i k ∷ ts) = AreSlots ts
AreSlots (t ∷ ts) = ⊥

pub slots_stay : (up : Count) (ts : List Term) (xs : List Effect) (n : ℕ) → AreSlots ts → keep_each up ts xs n ≡ record { steps = xs; free = n; waiting = ts }
slots_stay up [] xs n h = refl
slots_stay up (Slot i k ∷ ts) xs n h = ap (waits (Slot i k)) (slots_stay up ts xs n h)
slots_stay up (Literal i k zs ∷ ts) xs n h = elim h [ ]
slots_stay up (Read i m ∷ ts) xs n h = elim h [ ]
slots_stay up (Mono i f b ∷ ts) xs n h = elim h [ ]
slots_stay up (Dyad i f a b ∷ ts) xs n h = elim h [ ]
slots_stay up (Index i a js ∷ ts) xs n h = elim h [ ]

pub slots_kept : (up : Count) (ts : List Term) (xs : List Effect) (n : ℕ) → AreSlots (keep_each up ts xs n).waiting
slots_kept up [] xs n = record {}
slots_kept up (Slot i k ∷ ts) xs n = slots_kept up ts xs n
slots_kept up (Literal i k zs ∷ ts) xs n = slots_kept up ts xs n
slots_kept up (Read i m ∷ ts) xs n = slots_kept up ts xs n
slots_kept up (Mono i f b ∷ ts) xs n = slots_kept up ts xs n
slots_kept up (Dyad i f a b ∷ ts) xs n = slots_kept up ts xs n
slots_kept up (Index i a js ∷ ts) xs n = slots_kept up ts xs n

pub all_slots : (up : Count) (p : Pass) → AreSlots (all_kept up p).waiting
all_slots up p = slots_kept up p.waiting p.steps p.free

pub kept_again : (up : Count) (p : Pass) → AreSlots p.waiting → all_kept up p ≡ p
kept_again up p h = slots_stay up p.waiting p.steps p.free h

-- ---- What a cut comes to behind other steps

abbrev pub joined : Cut → Pass → Pass
joined c q = record { steps = q.steps ++ c.steps; free = c.next; waiting = c.term ∷ q.waiting }

-- the trees of an index list, in front of others
abbrev pub entries : Terms → List Term → List Term
entries no_more w = w
entries (left_out ts) w = entries ts w
entries (and_term t ts) w = t ∷ entries ts w

abbrev pub list_joined : CutList → Pass → Pass
list_joined c q = record { steps = q.steps ++ c.steps; free = c.next; waiting = entries c.terms q.waiting }

pub kept_joined : (c : Cut) (q : Pass) → AreSlots q.waiting → all_kept next_number (joined c q) ≡ joined (from_slot (kept c)) q
kept_joined c q h =
    ap (kept_last next_number c.term) (slots_stay next_number q.waiting (q.steps ++ c.steps) c.next h)
    ∙ last_kept next_number c.term record { steps = q.steps ++ c.steps; free = c.next; waiting = q.waiting }
    ∙ ap (λ (xs : List Effect). record { steps = xs; free = free_after next_number c.term c.next; waiting = in_slot c.term c.next ∷ q.waiting }) (append_assoc q.steps c.steps (keep_step c.term c.next))
    ∙ ap (λ (x : Kept). joined (from_slot x) q) (sym (term_kept c.steps c.term c.next))

-- ---- Lists

abbrev pub behind : List Effect → CutList → CutList
behind xs c = record { steps = xs ++ c.steps; terms = c.terms; next = c.next }

term_behind : (xs ys : List Effect) (t : Term) (n : ℕ) → kept_term (xs ++ ys) t n ≡ record (kept_term ys t n) { steps = xs ++ (kept_term ys t n).steps }
term_behind xs ys t n =
    term_kept (xs ++ ys) t n
    ∙ ap (λ (zs : List Effect). record { steps = zs; node = id_of t; slot = slot_of t n; next = free_after next_number t n }) (append_assoc xs ys (keep_step t n))
    ∙ ap (λ (k : Kept). record { steps = xs ++ k.steps; node = k.node; slot = k.slot; next = k.next }) (sym (term_kept ys t n))

pub terms_behind : (xs ys : List Effect) (ts : Terms) (n : ℕ) → kept_terms (xs ++ ys) ts n ≡ behind xs (kept_terms ys ts n)
terms_behind xs ys no_more n = refl
terms_behind xs ys (left_out ts) n = ap and_left_out (terms_behind xs ys ts n)
terms_behind xs ys (and_term t ts) n =
    ap (λ (c : CutList). and_kept (kept_term c.steps t c.next) c.terms) (terms_behind xs ys ts n)
    ∙ ap (λ (k : Kept). and_kept k (kept_terms ys ts n).terms) (term_behind xs (kept_terms ys ts n).steps t (kept_terms ys ts n).next)

-- a list that waits in front of others
abbrev pub list_kept : CutList → List Term → Pass
list_kept c w = record { steps = c.steps; free = c.next; waiting = entries c.terms w }

one_kept : (c : CutList) (t : Term) (w : List Term) → kept_last next_number t (list_kept c w) ≡ list_kept (and_kept (kept_term c.steps t c.next) c.terms) w
one_kept c t w = last_kept next_number t (list_kept c w) ∙ ap (λ (k : Kept). list_kept (and_kept k c.terms) w) (sym (term_kept c.steps t c.next))

-- lists over others that are kept with them
pub each_kept_over : (ts : Terms) (w : List Term) (xs : List Effect) (n : ℕ) → keep_each next_number (entries ts w) xs n ≡ list_kept (kept_terms (keep_each next_number w xs n).steps ts (keep_each next_number w xs n).free) (keep_each next_number w xs n).waiting
each_kept_over no_more w xs n = refl
each_kept_over (left_out ts) w xs n = each_kept_over ts w xs n
each_kept_over (and_term t ts) w xs n =
    let q = keep_each next_number w xs n in
    ap (kept_last next_number t) (each_kept_over ts w xs n) ∙ one_kept (kept_terms q.steps ts q.free) t q.waiting
