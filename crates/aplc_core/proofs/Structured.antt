-- The steps of a statement say it: each form of a tree, and each statement.
use Rattle.std.proofs.Common.{◌≡◌, ℕ, ◌+◌, ◌≤◌, ◌<◌, List, [], ◌∷◌, ◌++◌, Option, Some, None, refl, sym, ap, ◌∙◌, subst, arith, inl, inr, ◌⊎◌, append_assoc}
use Rattle.std.proofs.lemmas.List.{append-nil}
use Rattle.aplc_syntax.specs.declared.tree.Primitive.{Primitive}
use Rattle.aplc_syntax.specs.PlainTrees.{Tree, Trees, Argument, absent, given}
use Rattle.aplc_syntax.specs.PlainTrees as t
use Rattle.aplc_names.specs.PlainPrograms.{Action, nothing, quiet, perform, display, branch}
use Rattle.aplc_core.specs.PlainSteps.{Term, Terms, Effect, Keep, Store, StoreAt, Call, Show, Branch}
use Rattle.aplc_core.specs.PlainSteps as s
use Rattle.aplc_core.specs.Structure.{Done, nothing_done, first, Means, means_numbers, means_text, means_name, means_assigned, means_mono, means_dyad, means_index, MeansList, means_no_more, means_left_out, means_and, IsIn, is_absent, is_given, did, slot_of, Does, keeps, stores, stores_at, shows, calls, reads_text, reads_nums, DoesAll, no_steps, in_order, list_in_order, argument_in_order, order_of, Says, says_nothing, says_quiet, says_perform, says_display, says_branch}
use Rattle.aplc_core.specs.Lowering.{Cut, CutList, CutArgument, kept, before, all_before, and_left_out, cut_mono, cut_dyad, cut_index, cut_more, cut_assign, cut_show, cut_assign_at, cut_call, call_steps, argument_kept, changed_quietly, cut, cut_list, cut_argument, lowered}
use Rattle.aplc_core.proofs.Saying.{does_then, does_one, Stays, stays_same, stays_then, stays_set, stays_none, slot_set, Both, both, made_on, made_as, Meaning, MeaningList, Comes, ComesList, InSlot, in_slot_later, part_none, part_left, part_and, parts_later, kept_comes, slot_means, made_kept, from_kept, comes_all}

-- ---- One after another

-- the first tree, as it stands before steps that follow
first_tree : {k : ℕ} {d : Done} {x : Tree} {y : Cut} (p : Comes k d x y) (steps : ℕ → List Effect) (zs : List Effect) → steps y.next ≡ zs
    → (q : Comes k d x (before y zs)) × ((steps (before y zs).next ≡ []) ⊎ (q.made.order ≡ []))
first_tree p steps [] e = (p, inl e)
first_tree p steps (z ∷ zs) e = (from_kept (kept_comes p), inr refl)

first_list : {k : ℕ} {d : Done} {xs : Trees} {js : CutList} (p : ComesList k d xs js) (steps : ℕ → List Effect) (zs : List Effect) → steps js.next ≡ zs
    → (q : ComesList k d xs (all_before js zs)) × ((steps (all_before js zs).next ≡ []) ⊎ (q.made.order ≡ []))
first_list p steps [] e = (p, inl e)
first_list p steps (z ∷ zs) e = let r = comes_all p in (r.0, inr r.1)

-- a last step, which evaluates what is left
does_last : {d a e : Done} {xs : List Effect} {z : Effect} {js : List ℕ} (ks more v : List ℕ) → DoesAll d xs js a → Does a z (ks ++ more) e → js ++ ks ≡ v → DoesAll d (xs ++ z ∷ []) (v ++ more) e
does_last {d = d} {e = e} {xs = xs} {z = z} {js = js} ks more v r a h =
    subst (λ o. DoesAll d (xs ++ z ∷ []) o e) (sym (append_assoc js ks more) ∙ ap (λ o. o ++ more) h) (does_then r (does_one a))

-- ---- Forms

comes_leaf : {k : ℕ} {d : Done} (x : Tree) (b : Term) → ((e : Done) → Means e b x (in_order x)) → InSlot k k d x b (in_order x) → Comes k d x (record { steps = []; term = b; next = k })
comes_leaf {d = d} x b m i = record {
  made = record { after = d; emitted = []; order = in_order x; does = no_steps; stays = stays_same; means = λ e h. m e; all = refl; grows = omega arith };
  slot = i;
}

-- a step carried out the node, and its value is in a slot
comes_slot : {k : ℕ} {d : Done} {xs : List Effect} (a : Done) (x : Tree) (j n : ℕ) → DoesAll d xs (in_order x) (did (Some j) x a) → Stays k d (did (Some j) x a) → k ≤ j → j < n
    → Comes k d x (record { steps = xs; term = s.Slot (t.id_of x) j; next = n })
comes_slot a x j n r h l b = record {
  made = record {
    after = did (Some j) x a;
    emitted = in_order x;
    order = [];
    does = r;
    stays = h;
    means = λ e g. slot_means refl (g.slots j b ∙ slot_set j x a);
    all = append-nil (in_order x);
    grows = omega (arith, l, b);
  };
  slot = record { number = refl; none = refl; there = slot_set j x a; above = l; below = b };
}

comes_mono : {k : ℕ} {d : Done} {x : Tree} {c : Cut} (i p : ℕ) (f : Primitive) → Comes k d x c → Comes k d (t.Mono i p f x) (cut_mono i f c)
comes_mono i p f h = record { made = made_on (i ∷ []) (λ e js m. means_mono m) h.made; slot = tt }

dyad_means : {e : Done} {a b : Term} {x y : Tree} {js : List ℕ} (i p : ℕ) (f : Primitive) → Both (Meaning y b) (Meaning x a) e js → Means e (s.Dyad i f a b) (t.Dyad i p f x y) (js ++ i ∷ [])
dyad_means {e = e} {a = a} {b = b} {x = x} {y = y} i p f (is, ks, m, n, h) = subst (λ o. Means e (s.Dyad i f a b) (t.Dyad i p f x y) (o ++ i ∷ [])) (sym h) (means_dyad m n)

comes_dyad : {k : ℕ} {d : Done} {x y : Tree} {c : Cut} (i p : ℕ) (f : Primitive) (more : ℕ → Cut) → Comes k d y c → ((n : ℕ) (e : Done) → Comes n e x (more n))
    → Comes k d (t.Dyad i p f x y) (cut_dyad i f c more)
comes_dyad {c = c} i p f more h q = let g = first_tree h (λ n. (more n).steps) (more c.next).steps refl in
    record { made = made_on (i ∷ []) (λ e js m. dyad_means i p f m) (both g.0.made (q (before c (more c.next).steps).next g.0.made.after).made g.1); slot = tt }

index_means : {e : Done} {a : Term} {bs : Terms} {x : Tree} {ys : Trees} {js : List ℕ} (i p : ℕ) → Both (MeaningList ys bs) (Meaning x a) e js → Means e (s.Index i a bs) (t.Index i p x ys) (js ++ i ∷ [])
index_means {e = e} {a = a} {bs = bs} {x = x} {ys = ys} i p (is, ks, m, n, h) = subst (λ o. Means e (s.Index i a bs) (t.Index i p x ys) (o ++ i ∷ [])) (sym h) (means_index m n)

comes_index : {k : ℕ} {d : Done} {x : Tree} {ys : Trees} {c : CutList} (i p : ℕ) (more : ℕ → Cut) → ComesList k d ys c → ((n : ℕ) (e : Done) → Comes n e x (more n))
    → Comes k d (t.Index i p x ys) (cut_index i c more)
comes_index {c = c} i p more h q = let g = first_list h (λ n. (more n).steps) (more c.next).steps refl in
    record { made = made_on (i ∷ []) (λ e js m. index_means i p m) (both g.0.made (q (all_before c (more c.next).steps).next g.0.made.after).made g.1); slot = tt }

comes_assign : {k : ℕ} {d : Done} {x : Tree} {c : Cut} (i p n : ℕ) → Comes k d x c → Comes k d (t.Assign i p n x) (cut_assign i n c)
comes_assign {k = k} {x = x} i p n h = record {
  made = record {
    after = did None (t.Assign i p n x) h.made.after;
    emitted = in_order x ++ i ∷ [];
    order = [];
    does = does_last h.made.order (i ∷ []) (in_order x) h.made.does (stores (h.made.means h.made.after stays_same)) h.made.all;
    stays = stays_then (omega arith) h.made.stays (stays_none {k = k} (t.Assign i p n x) h.made.after);
    means = λ e g. means_assigned (g.nodes (t.Assign i p n x) first);
    all = append-nil (in_order x ++ i ∷ []);
    grows = h.made.grows;
  };
  slot = tt;
}

comes_show : {k : ℕ} {d : Done} {x : Tree} {c : Cut} (i p : ℕ) → Comes k d x c → Comes k d (t.Show i p x) (cut_show i (kept c))
comes_show {k = k} {x = x} {c = c} i p h = let r = kept_comes h in
    comes_slot r.after (t.Show i p x) (kept c).slot (kept c).next (does_then r.does (does_one (shows (slot_means r.number r.there))))
    (stays_then (omega arith) r.stays (stays_set {k = k} (t.Show i p x) r.after r.above)) r.above r.below

change_does : {a : Done} {b : Term} {bs : Terms} {x : Tree} {ys : Trees} {js : List ℕ} (i p n : ℕ) → Both (Meaning x b) (MeaningList ys bs) a js
    → Does a (StoreAt i n bs b) (js ++ i ∷ []) (did (slot_of b) (t.AssignAt i p n ys x) a)
change_does {a = a} {b = b} {bs = bs} {x = x} {ys = ys} i p n (is, ks, m, q, h) =
    subst (λ o. Does a (StoreAt i n bs b) (o ++ i ∷ []) (did (slot_of b) (t.AssignAt i p n ys x) a)) (sym h) (stores_at m q)

comes_assign_at : {k : ℕ} {d : Done} {x : Tree} {ys : Trees} {c : Cut} (i p n : ℕ) (more : ℕ → CutList) → Comes k d x c → ((m : ℕ) (e : Done) → ComesList m e ys (more m))
    → Comes k d (t.AssignAt i p n ys x) (cut_assign_at i n (kept c) more)
comes_assign_at {k = k} {x = x} {ys = ys} {c = c} i p n more h q =
    let r = kept_comes h in let l = q (kept c).next r.after in let m = both (made_kept r) l.made (inr refl) in
    comes_slot m.after (t.AssignAt i p n ys x) (kept c).slot (more (kept c).next).next
    (does_last m.order (i ∷ []) (in_order x ++ list_in_order ys) m.does (change_does i p n (m.means m.after stays_same)) m.all)
    (stays_then (omega arith) m.stays (stays_set {k = k} (t.AssignAt i p n ys x) m.after r.above)) r.above (omega (arith, r.below, l.made.grows))

-- ---- Lists and arguments

more_means : {e : Done} {b : Term} {bs : Terms} {y : Tree} {ys : Trees} {js : List ℕ} → Both (MeaningList ys bs) (Meaning y b) e js → MeansList e (s.and_term b bs) (t.and_tree y ys) js
more_means {e = e} {b = b} {bs = bs} {y = y} {ys = ys} (is, ks, m, n, h) = subst (λ o. MeansList e (s.and_term b bs) (t.and_tree y ys) o) (sym h) (means_and m n)

comes_more : {k : ℕ} {d : Done} {y : Tree} {ys : Trees} {c : CutList} (more : ℕ → Cut) → ComesList k d ys c → ((n : ℕ) (e : Done) → Comes n e y (more n))
    → ComesList k d (t.and_tree y ys) (cut_more c more)
comes_more {y = y} {c = c} more h q =
    let g = first_list h (λ n. (more n).steps) (more c.next).steps refl in let r = q (all_before c (more c.next).steps).next g.0.made.after in
    record {
      made = made_as (λ e js m. more_means m) (both g.0.made r.made g.1);
      parts = part_and (parts_later r.made.grows r.made.stays g.0.parts) r.made.means
          (in_slot_later y r.made.order (more (all_before c (more c.next).steps).next).term g.0.made.grows (omega arith) stays_same r.slot);
    }

comes_left_out : {k : ℕ} {d : Done} {ys : Trees} {c : CutList} → ComesList k d ys c → ComesList k d (t.left_out ys) (and_left_out c)
comes_left_out h = record { made = made_as (λ e js m. means_left_out m) h.made; parts = part_left h.parts }

record ComesArgument (k : ℕ) (d : Done) (x : Argument) (c : CutArgument) : Type 0 where
  after : Done
  does : DoesAll d c.steps (argument_in_order x) after
  stays : Stays k d after
  is_in : (e : Done) → Stays c.next after e → IsIn e c.slot x
  grows : k ≤ c.next

comes_given : {k : ℕ} {d : Done} {x : Tree} {c : Cut} → Comes k d x c → ComesArgument k d (given x) (argument_kept (kept c))
comes_given {c = c} h = let r = kept_comes h in
    record { after = r.after; does = r.does; stays = r.stays; is_in = λ e g. is_given (g.slots (kept c).slot r.below ∙ r.there); grows = omega (arith, r.above, r.below) }

-- both arguments, then the call
call_does : {k : ℕ} {d : Done} {x y : Argument} {c : CutArgument} (i p n : ℕ) (b : CutArgument) (r : Option ℕ) (g : ComesArgument k d y c) (h : ComesArgument c.next g.after x b)
    → DoesAll d (call_steps i n c b r) (argument_in_order y ++ argument_in_order x ++ i ∷ []) (did r (t.Call i p n x y) h.after)
call_does i p n b r g h = does_then (does_then g.does h.does) (does_one (calls (g.is_in h.after h.stays) (h.is_in h.after stays_same)))

comes_call : {k : ℕ} {d : Done} {x y : Argument} {c : CutArgument} (i p n : ℕ) (more : ℕ → CutArgument) → ComesArgument k d y c → ((m : ℕ) (e : Done) → ComesArgument m e x (more m))
    → Comes k d (t.Call i p n x y) (cut_call i n c more)
comes_call {k = k} {x = x} {y = y} {c = c} i p n more g q = let h = q c.next g.after in let b = more c.next in
    comes_slot h.after (t.Call i p n x y) b.next (b.next + 1) (call_does i p n b (Some b.next) g h)
    (stays_then (omega arith) (stays_then g.grows g.stays h.stays) (stays_set {k = k} (t.Call i p n x y) h.after (omega (arith, g.grows, h.grows))))
    (omega (arith, g.grows, h.grows)) (omega arith)

-- ---- Trees

mutual
  comes : (x : Tree) (k : ℕ) (d : Done) → Comes k d x (cut x k)
  comes (t.Numbers i p zs) k d = comes_leaf (t.Numbers i p zs) _ (λ e. means_numbers) tt
  comes (t.Text i p cs) k d = comes_leaf (t.Text i p cs) _ (λ e. means_text) tt
  comes (t.Name i p n) k d = comes_leaf (t.Name i p n) _ (λ e. means_name) tt
  comes (t.TextInput i p) k d = comes_slot d (t.TextInput i p) k (k + 1) (does_one reads_text) (stays_set (t.TextInput i p) d (omega arith)) (omega arith) (omega arith)
  comes (t.NumsInput i p) k d = comes_slot d (t.NumsInput i p) k (k + 1) (does_one reads_nums) (stays_set (t.NumsInput i p) d (omega arith)) (omega arith) (omega arith)
  comes (t.Mono i p f b) k d = comes_mono i p f (comes b k d)
  comes (t.Dyad i p f a b) k d = comes_dyad i p f (λ n. cut a n) (comes b k d) (λ n e. comes a n e)
  comes (t.Index i p a xs) k d = comes_index i p (λ n. cut a n) (comes_list xs k d) (λ n e. comes a n e)
  comes (t.Assign i p n a) k d = comes_assign i p n (comes a k d)
  comes (t.AssignAt i p n xs a) k d = comes_assign_at i p n (λ m. cut_list xs m) (comes a k d) (λ m e. comes_list xs m e)
  comes (t.Show i p a) k d = comes_show i p (comes a k d)
  comes (t.Call i p n a b) k d = comes_call i p n (λ m. cut_argument a m) (comes_argument b k d) (λ m e. comes_argument a m e)

  comes_list : (xs : Trees) (k : ℕ) (d : Done) → ComesList k d xs (cut_list xs k)
  comes_list t.no_more k d = record {
    made = record { after = d; emitted = []; order = []; does = no_steps; stays = stays_same; means = λ e h. means_no_more; all = refl; grows = omega arith };
    parts = part_none;
  }
  comes_list (t.left_out xs) k d = comes_left_out (comes_list xs k d)
  comes_list (t.and_tree x xs) k d = comes_more (λ n. cut x n) (comes_list xs k d) (λ n e. comes x n e)

  comes_argument : (x : Argument) (k : ℕ) (d : Done) → ComesArgument k d x (cut_argument x k)
  comes_argument absent k d = record { after = d; does = no_steps; stays = stays_same; is_in = λ e h. is_absent; grows = omega arith }
  comes_argument (given x) k d = comes_given (comes x k d)

-- ---- Statements

says_as : {xs : List Effect} {x : Action} {js ks : List ℕ} → js ≡ ks → Says xs x js → Says xs x ks
says_as {xs = xs} {x = x} h q = subst (λ o. Says xs x o) h q

-- what is left at the end is kept
says_kept : {x : Tree} {c : Cut} → Comes 0 nothing_done x c → Says (c.steps ++ Keep c.next c.term ∷ []) (quiet x) (in_order x)
says_kept {x = x} {c = c} h = says_as h.made.all (says_quiet (does_then h.made.does (does_one (keeps {k = c.next} (h.made.means h.made.after stays_same)))) refl)

says_changed : {x : Tree} {ys : Trees} {c : Cut} (i p n : ℕ) (more : ℕ → CutList) → Comes 0 nothing_done x c → ((m : ℕ) (e : Done) → ComesList m e ys (more m))
    → Says (changed_quietly i n c more) (quiet (t.AssignAt i p n ys x)) (in_order x ++ list_in_order ys ++ i ∷ [])
says_changed {x = x} {ys = ys} {c = c} i p n more h q =
    let g = first_tree h (λ m. (more m).steps) (more c.next).steps refl in let l = q (before c (more c.next).steps).next g.0.made.after in let m = both g.0.made l.made g.1 in
    says_quiet (does_last m.order (i ∷ []) (in_order x ++ list_in_order ys) m.does (change_does i p n (m.means m.after stays_same)) m.all) refl

says_quietly : (x : Tree) → Says (lowered (quiet x)) (quiet x) (in_order x)
says_quietly (t.Assign i p n a) = let h = comes a 0 nothing_done in
    says_quiet (does_last h.made.order (i ∷ []) (in_order a) h.made.does (stores (h.made.means h.made.after stays_same)) h.made.all) refl
says_quietly (t.AssignAt i p n xs a) = says_changed i p n (λ m. cut_list xs m) (comes a 0 nothing_done) (λ m e. comes_list xs m e)
says_quietly (t.Show i p a) = let h = comes a 0 nothing_done in
    says_quiet (does_last h.made.order (i ∷ []) (in_order a) h.made.does (shows (h.made.means h.made.after stays_same)) h.made.all) refl
says_quietly (t.TextInput i p) = says_quiet (does_one reads_text) refl
says_quietly (t.NumsInput i p) = says_quiet (does_one reads_nums) refl
says_quietly (t.Call i p n a b) = let g = comes_argument b 0 nothing_done in let y = cut_argument b 0 in let x = cut_argument a y.next in
    says_quiet (call_does i p n x (Some x.next) g (comes_argument a y.next g.after)) refl
says_quietly (t.Numbers i p zs) = says_kept (comes (t.Numbers i p zs) 0 nothing_done)
says_quietly (t.Text i p cs) = says_kept (comes (t.Text i p cs) 0 nothing_done)
says_quietly (t.Name i p n) = says_kept (comes (t.Name i p n) 0 nothing_done)
says_quietly (t.Mono i p f b) = says_kept (comes (t.Mono i p f b) 0 nothing_done)
says_quietly (t.Dyad i p f a b) = says_kept (comes (t.Dyad i p f a b) 0 nothing_done)
says_quietly (t.Index i p a xs) = says_kept (comes (t.Index i p a xs) 0 nothing_done)

pub says : (x : Action) → Says (lowered x) x (order_of x)
says nothing = says_nothing
says (quiet x) = says_quietly x
says (perform i p n a b) = let g = comes_argument b 0 nothing_done in let y = cut_argument b 0 in let h = comes_argument a y.next g.after in
    says_perform (does_then g.does h.does) (g.is_in h.after h.stays) (h.is_in h.after stays_same)
says (display x) = let h = comes x 0 nothing_done in says_as h.made.all (says_display h.made.does (h.made.means h.made.after stays_same))
says (branch p x) = let h = comes x 0 nothing_done in says_as h.made.all (says_branch h.made.does (h.made.means h.made.after stays_same))
