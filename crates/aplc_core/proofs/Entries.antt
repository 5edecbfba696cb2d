-- What a pass does at index lists and at the arguments of a call.
use Rattle.std.proofs.Common.{◌≡◌, ◌∙◌, ap, sym, refl, subst, ℕ, List, [], ◌∷◌, ◌++◌, append_assoc, append-nil}
use Rattle.aplc_syntax.specs.PlainTrees.{Trees, Argument, absent, given}
use Rattle.aplc_syntax.specs.PlainTrees as t
use Rattle.aplc_core.specs.PlainSteps.{Term, Index, Terms, no_more, left_out, and_term, Effect}
use Rattle.aplc_core.specs.Lowering.{Cut, CutList, kept_terms, kept_all, all_before, and_left_out, index_of, list_of, cut_index, cut_more, cut_list}
use Rattle.aplc_core.specs.Passes.{Pass, next_number, waits, all_kept, with_list, on_taken, taken, skipped, taken_first, index}
use Rattle.aplc_core.proofs.Slots.{slots_stay, all_slots, joined, entries, list_joined, list_kept, each_kept_over, terms_behind}
use Rattle.aplc_core.proofs.PassForms.{IsMore, more_behind, Does, calm, busy, DoesList, calm_list, busy_list}

-- ---- Lists that have the places of a tree's list

abbrev pub Fits : Trees → Terms → Type 0
Fits t.no_more no_more = Unit {0}
Fits (t.left_out xs) (left_out ts) = Fits xs ts
Fits (t.and_tree x xs) (and_term u ts) = Fits xs ts
Fits xs ts = ⊥

fits_kept : (xs : Trees) (ys : List Effect) (ts : Terms) (n : ℕ) → Fits xs ts → Fits xs (kept_terms ys ts n).terms
fits_kept t.no_more ys no_more n h = h
fits_kept (t.left_out xs) ys (left_out ts) n h = fits_kept xs ys ts n h
fits_kept (t.and_tree x xs) ys (and_term u ts) n h = fits_kept xs ys ts n h
fits_kept t.no_more ys (left_out ts) n h = elim h [ ]
fits_kept t.no_more ys (and_term u ts) n h = elim h [ ]
fits_kept (t.left_out xs) ys no_more n h = elim h [ ]
fits_kept (t.left_out xs) ys (and_term u ts) n h = elim h [ ]
fits_kept (t.and_tree x xs) ys no_more n h = elim h [ ]
fits_kept (t.and_tree x xs) ys (left_out ts) n h = elim h [ ]

fits_before : (xs : Trees) (js : CutList) (ys : List Effect) → Fits xs js.terms → Fits xs (all_before js ys).terms
fits_before xs js [] h = h
fits_before xs js (y ∷ ys) h = fits_kept xs js.steps js.terms js.next h

pub cut_fits : (xs : Trees) (k : ℕ) → Fits xs (cut_list xs k).terms
cut_fits t.no_more k = record {}
cut_fits (t.left_out xs) k = cut_fits xs k
cut_fits (t.and_tree x xs) k = fits_before xs (cut_list xs k) _ (cut_fits xs k)

pub taken_back : (xs : Trees) (ts : Terms) (w : List Term) → Fits xs ts → taken xs (entries ts w) ≡ record { terms = ts; rest = w }
taken_back t.no_more no_more w h = refl
taken_back (t.left_out xs) (left_out ts) w h = ap skipped (taken_back xs ts w h)
taken_back (t.and_tree x xs) (and_term u ts) w h = ap (taken_first u) (taken_back xs ts w h)
taken_back t.no_more (left_out ts) w h = elim h [ ]
taken_back t.no_more (and_term u ts) w h = elim h [ ]
taken_back (t.left_out xs) no_more w h = elim h [ ]
taken_back (t.left_out xs) (and_term u ts) w h = elim h [ ]
taken_back (t.and_tree x xs) no_more w h = elim h [ ]
taken_back (t.and_tree x xs) (left_out ts) w h = elim h [ ]

-- ---- Keeping a list

pub list_then_kept : (T : ℕ → CutList) (g : Pass → Pass) → DoesList T g → (p : Pass) → all_kept next_number (g p) ≡ list_joined (kept_all (T (all_kept next_number p).free)) (all_kept next_number p)
list_then_kept T g (calm_list us e h) p =
    let q = all_kept next_number p in
    ap (all_kept next_number) (h p)
    ∙ each_kept_over us p.waiting p.steps p.free
    ∙ ap (λ (xs : List Effect). list_kept (kept_terms xs us q.free) q.waiting) (sym (append-nil q.steps))
    ∙ ap (λ (c : CutList). list_kept c q.waiting) (terms_behind q.steps [] us q.free)
    ∙ ap (λ (c : CutList). list_joined (kept_all c) q) (sym (e q.free))
list_then_kept T g (busy_list m h) p =
    let q = all_kept next_number p in
    let c = T q.free in
    ap (all_kept next_number) (h p)
    ∙ each_kept_over c.terms q.waiting (q.steps ++ c.steps) c.next
    ∙ ap (λ (r : Pass). list_kept (kept_terms r.steps c.terms r.free) r.waiting) (slots_stay next_number q.waiting (q.steps ++ c.steps) c.next (all_slots next_number p))
    ∙ ap (λ (d : CutList). list_kept d q.waiting) (terms_behind q.steps c.steps c.terms c.next)

-- ---- A tree behind a list

all_before_more : (x : CutList) (ys : List Effect) → IsMore ys → all_before x ys ≡ kept_all x
all_before_more x [] h = elim h [ ]
all_before_more x (y ∷ ys) h = refl

abbrev list_end : (CutList → Cut → Cut) → CutList → (ℕ → Cut) → Cut
list_end whole js A = whole (all_before js (A js.next).steps) (A (all_before js (A js.next).steps).next)

index_calm : (i : ℕ) (js : CutList) (A : ℕ → Cut) (v : Term) → ((k : ℕ) → A k ≡ record { steps = []; term = v; next = k }) → cut_index i js A ≡ record { steps = js.steps; term = Index i v js.terms; next = js.next }
index_calm i js A v e =
    ap (λ (c : CutList). index_of i c (A c.next)) (ap (λ (c : Cut). all_before js c.steps) (e js.next))
    ∙ ap (index_of i js) (e js.next)
    ∙ ap (λ (xs : List Effect). record { steps = xs; term = Index i v js.terms; next = js.next }) (append-nil js.steps)

index_busy : (i : ℕ) (js : CutList) (A : ℕ → Cut) → IsMore (A js.next).steps → cut_index i js A ≡ index_of i (kept_all js) (A (kept_all js).next)
index_busy i js A m = ap (λ (c : CutList). index_of i c (A c.next)) (all_before_more js (A js.next).steps m)

more_calm : (js : CutList) (A : ℕ → Cut) (v : Term) → ((k : ℕ) → A k ≡ record { steps = []; term = v; next = k }) → cut_more js A ≡ record { steps = js.steps; terms = and_term v js.terms; next = js.next }
more_calm js A v e =
    ap (λ (c : CutList). list_of c (A c.next)) (ap (λ (c : Cut). all_before js c.steps) (e js.next))
    ∙ ap (list_of js) (e js.next)
    ∙ ap (λ (xs : List Effect). record { steps = xs; terms = and_term v js.terms; next = js.next }) (append-nil js.steps)

more_busy : (js : CutList) (A : ℕ → Cut) → IsMore (A js.next).steps → cut_more js A ≡ list_of (kept_all js) (A (kept_all js).next)
more_busy js A m = ap (λ (c : CutList). list_of c (A c.next)) (all_before_more js (A js.next).steps m)

-- a list is taken back from where it waits
pub list_back : (xs : Trees) (more : Terms → Pass → Pass) (ys : List Effect) (n : ℕ) (ts : Terms) (w : List Term) → Fits xs ts → with_list xs more record { steps = ys; free = n; waiting = entries ts w } ≡ more ts record { steps = ys; free = n; waiting = w }
list_back xs more ys n ts w h = ap (on_taken more ys n) (taken_back xs ts w h)

module _ (i : ℕ) (xs : Trees) (A : ℕ → Cut) (g h : Pass → Pass) (b : DoesList (cut_list xs) g) where
  -- the list and then the tree behind it, both kept or not
  pub does_index : Does A h → Does (λ k. cut_index i (cut_list xs k) A) (λ p. index i xs (h (g p)))
  does_index (calm v e d) = quiet b
    where
      left : (p : Pass) → index i xs (h (g p)) ≡ with_list xs (λ ts. waits (Index i v ts)) (g p)
      left p = ap (index i xs) (d (g p))

      quiet : DoesList (cut_list xs) g → Does (λ k. cut_index i (cut_list xs k) A) (λ p. index i xs (h (g p)))
      quiet (calm_list us c a) =
          calm (Index i v us)
          (λ k. index_calm i (cut_list xs k) A v e ∙ ap (λ (l : CutList). record { steps = l.steps; term = Index i v l.terms; next = l.next }) (c k))
          (λ p. left p ∙ ap (with_list xs (λ ts. waits (Index i v ts))) (a p) ∙ list_back xs (λ ts. waits (Index i v ts)) p.steps p.free us p.waiting (subst (λ (l : CutList). Fits xs l.terms) (c 0) (cut_fits xs 0)))
      quiet (busy_list m a) =
          busy (λ k. subst (λ (l : Cut). IsMore l.steps) (sym (index_calm i (cut_list xs k) A v e)) (m k))
          (λ p. left p ∙ ap (with_list xs (λ ts. waits (Index i v ts))) (a p) ∙ whole (all_kept next_number p))
        where
          whole : (q : Pass) → with_list xs (λ ts. waits (Index i v ts)) (list_joined (cut_list xs q.free) q) ≡ joined (cut_index i (cut_list xs q.free) A) q
          whole q =
              let c = cut_list xs q.free in
              list_back xs (λ ts. waits (Index i v ts)) (q.steps ++ c.steps) c.next c.terms q.waiting (cut_fits xs q.free)
              ∙ ap (λ (x : Cut). joined x q) (sym (index_calm i c A v e))
  does_index (busy m d) =
      busy (λ k. subst (λ (c : Cut). IsMore c.steps) (sym (index_busy i (cut_list xs k) A (m (cut_list xs k).next))) (more_behind (kept_all (cut_list xs k)).steps (A (kept_all (cut_list xs k)).next).steps (m (kept_all (cut_list xs k)).next)))
      (λ p. whole (all_kept next_number p) p (list_then_kept (cut_list xs) g b p))
    where
      whole : (q p : Pass) → all_kept next_number (g p) ≡ list_joined (kept_all (cut_list xs q.free)) q → index i xs (h (g p)) ≡ joined (cut_index i (cut_list xs q.free) A) q
      whole q p s =
          let js = cut_list xs q.free in
          let k = kept_all js in
          let x = A k.next in
          ap (index i xs) (d (g p) ∙ ap (λ (r : Pass). joined (A r.free) r) s)
          ∙ list_back xs (λ ts. waits (Index i x.term ts)) ((q.steps ++ k.steps) ++ x.steps) x.next k.terms q.waiting (fits_kept xs js.steps js.terms js.next (cut_fits xs q.free))
          ∙ ap (λ (ys : List Effect). record { steps = ys; free = x.next; waiting = Index i x.term k.terms ∷ q.waiting }) (append_assoc q.steps k.steps x.steps)
          ∙ ap (λ (c : Cut). joined c q) (sym (index_busy i js A (m js.next)))

  pub does_more : Does A h → DoesList (λ k. cut_more (cut_list xs k) A) (λ p. h (g p))
  does_more (calm v e d) = quiet b
    where
      quiet : DoesList (cut_list xs) g → DoesList (λ k. cut_more (cut_list xs k) A) (λ p. h (g p))
      quiet (calm_list us c a) =
          calm_list (and_term v us)
          (λ k. more_calm (cut_list xs k) A v e ∙ ap (λ (l : CutList). record { steps = l.steps; terms = and_term v l.terms; next = l.next }) (c k))
          (λ p. d (g p) ∙ ap (waits v) (a p))
      quiet (busy_list m a) =
          busy_list (λ k. subst (λ (l : CutList). IsMore l.steps) (sym (more_calm (cut_list xs k) A v e)) (m k))
          (λ p. d (g p) ∙ ap (waits v) (a p) ∙ ap (λ (l : CutList). list_joined l (all_kept next_number p)) (sym (more_calm (cut_list xs (all_kept next_number p).free) A v e)))
  does_more (busy m d) =
      busy_list (λ k. subst (λ (c : CutList). IsMore c.steps) (sym (more_busy (cut_list xs k) A (m (cut_list xs k).next))) (more_behind (kept_all (cut_list xs k)).steps (A (kept_all (cut_list xs k)).next).steps (m (kept_all (cut_list xs k)).next)))
      (λ p. whole (all_kept next_number p) p (list_then_kept (cut_list xs) g b p))
    where
      whole : (q p : Pass) → all_kept next_number (g p) ≡ list_joined (kept_all (cut_list xs q.free)) q → h (g p) ≡ list_joined (cut_more (cut_list xs q.free) A) q
      whole q p s =
          let js = cut_list xs q.free in
          let k = kept_all js in
          let x = A k.next in
          d (g p) ∙ ap (λ (r : Pass). joined (A r.free) r) s
          ∙ ap (λ (ys : List Effect). record { steps = ys; free = x.next; waiting = x.term ∷ entries k.terms q.waiting }) (append_assoc q.steps k.steps x.steps)
          ∙ ap (λ (c : CutList). list_joined c q) (sym (more_busy js A (m js.next)))

pub does_left_out : (T : ℕ → CutList) (g : Pass → Pass) → DoesList T g → DoesList (λ k. and_left_out (T k)) g
does_left_out T g (calm_list us e h) = calm_list (left_out us) (λ k. ap and_left_out (e k)) h
does_left_out T g (busy_list m h) = busy_list m h
