-- A statement of few nodes needs few slots, and its steps have the names that stand in it.
use Rattle.std.proofs.Common.{◌≡◌, refl, ℕ, suc, ◌+◌, ◌<◌, ◌≤◌, List, [], ◌∷◌, ◌++◌, length, Option, Some, None, Bool, true, false, ◌&&◌, nat_lt, arith}
use Rattle.std.proofs.lemmas.List.{length-append}
use Rattle.std.proofs.lemmas.Bool.Decides.{nat_tests}
use Rattle.aplc_syntax.specs.declared.tree.Primitive.{Primitive}
use Rattle.aplc_syntax.specs.PlainTrees.{Tree, Trees, Argument, absent, given, ids, trees_ids, argument_ids}
use Rattle.aplc_syntax.specs.PlainTrees as t
use Rattle.aplc_syntax.specs.Trees.{name_id}
use Rattle.aplc_names.specs.declared.outline.Mention.{Mention}
use Rattle.aplc_names.specs.declared.scope.Scope.{Scope}
use Rattle.aplc_names.specs.Outlines.{mention, tree_mentions, trees_mentions, argument_mentions}
use Rattle.aplc_names.specs.PlainPrograms.{quiet, perform, display, branch, quiet_of}
use Rattle.aplc_names.proofs.Lists.{Has, has_left, has_right}
use Rattle.aplc_core.specs.PlainSteps.{Term, Literal, Read, Slot, Mono, Dyad, Index, Terms, no_more, left_out, and_term, Effect, Keep, Store, StoreAt, Call, ReadText, ReadNums, Show, Branch, id_of}
use Rattle.aplc_core.specs.Lowering.{Cut, CutList, Kept, CutArgument, kept_term, kept, kept_terms, kept_all, before, all_before, dyad_of, index_of, list_of, assign_at_of, call_steps, call_of, cut_assign, cut_show, argument_kept, cut, cut_list, cut_argument, lowered}
use Rattle.aplc_gen.specs.Made.{is_low_name, is_low_slot, is_low_term, is_low_step, are_low_steps}
use Rattle.aplc_gen.proofs.SoundCuts.{both_true, first_true, second_true}

-- ---- What waits outside slots

abbrev pub outside_slot : Term → ℕ
outside_slot (Slot i k) = 0
outside_slot x = 1

abbrev pub outside_slots : Terms → ℕ
outside_slots no_more = 0
outside_slots (left_out xs) = outside_slots xs
outside_slots (and_term x xs) = outside_slot x + outside_slots xs

abbrev pub are_low_terms : (ℕ → Scope) → List ℕ → Terms → Bool
are_low_terms sc hs no_more = true
are_low_terms sc hs (left_out xs) = are_low_terms sc hs xs
are_low_terms sc hs (and_term x xs) = is_low_term sc hs x && are_low_terms sc hs xs

-- ---- What a tree comes to is low: m is the first slot that is free once all that waits is kept

pub record Low (sc : ℕ → Scope) (hs : List ℕ) (m : ℕ) (c : Cut) : Type 0 where
  pub steps : are_low_steps sc hs c.steps ≡ true
  pub term : is_low_term sc hs c.term ≡ true
  pub few : c.next + outside_slot c.term ≤ m

pub record LowList (sc : ℕ → Scope) (hs : List ℕ) (m : ℕ) (c : CutList) : Type 0 where
  pub steps : are_low_steps sc hs c.steps ≡ true
  pub terms : are_low_terms sc hs c.terms ≡ true
  pub few : c.next + outside_slots c.terms ≤ m

pub record LowKept (sc : ℕ → Scope) (hs : List ℕ) (m : ℕ) (c : Kept) : Type 0 where
  pub steps : are_low_steps sc hs c.steps ≡ true
  pub slot : nat_lt c.slot 2000 ≡ true
  pub few : c.next ≤ m

pub record LowArgument (sc : ℕ → Scope) (hs : List ℕ) (m : ℕ) (c : CutArgument) : Type 0 where
  pub steps : are_low_steps sc hs c.steps ≡ true
  pub slot : is_low_slot c.slot ≡ true
  pub few : c.next ≤ m

low_slot : (k : ℕ) → k + 1 ≤ 2000 → nat_lt k 2000 ≡ true
low_slot k h = grind (arith, nat_tests)

-- ---- Names

-- names that stand in a program have small numbers
abbrev pub AreSmall : List Mention → Type 0
AreSmall ms = (m : Mention) → Has ms m → m.name.0 < 262144

pub small_left : (xs ys : List Mention) → AreSmall (xs ++ ys) → AreSmall xs
small_left xs ys h m has = h m (has_left xs ys m has)

pub small_right : (xs ys : List Mention) → AreSmall (xs ++ ys) → AreSmall ys
small_right xs ys h m has = h m (has_right xs ys m has)

small_behind : (x : Mention) (xs : List Mention) → AreSmall (x ∷ xs) → AreSmall xs
small_behind x xs h m has = h m (suc has.0, has.1)

small_first : (n p : ℕ) (b : Bool) (xs : List Mention) → AreSmall (mention (name_id n) p b ∷ xs) → n < 262144
small_first n p b xs h = h (mention (name_id n) p b) (0, refl)

module _ (sc : ℕ → Scope) (hs : List ℕ) where
  steps_append : (xs ys : List Effect) → are_low_steps sc hs xs ≡ true → are_low_steps sc hs ys ≡ true → are_low_steps sc hs (xs ++ ys) ≡ true
  steps_append [] ys h g = g
  steps_append (x ∷ xs) ys h g =
      let a = first_true (is_low_step sc hs x) (are_low_steps sc hs xs) h in
      let b = second_true (is_low_step sc hs x) (are_low_steps sc hs xs) h in
      both_true (is_low_step sc hs x) (are_low_steps sc hs (xs ++ ys)) a (steps_append xs ys b g)

  and_step : (xs : List Effect) (y : Effect) → are_low_steps sc hs xs ≡ true → is_low_step sc hs y ≡ true → are_low_steps sc hs (xs ++ y ∷ []) ≡ true
  and_step xs y h g = steps_append xs (y ∷ []) h (both_true (is_low_step sc hs y) true g refl)

  -- ---- Keeping

  keep_it : (m : ℕ) (xs : List Effect) (x : Term) (n : ℕ) → m ≤ 2000 → are_low_steps sc hs xs ≡ true → is_low_term sc hs x ≡ true → n + 1 ≤ m
      → LowKept sc hs m (record { steps = xs ++ Keep n x ∷ []; node = id_of x; slot = n; next = n + 1 })
  keep_it m xs x n le h g f =
      let e = low_slot n (omega (arith, le, f)) in
      record { steps = and_step xs (Keep n x) h (both_true (nat_lt n 2000) (is_low_term sc hs x) e g); slot = e; few = f }

  kept_at : (m : ℕ) (xs : List Effect) (x : Term) (n : ℕ) → m ≤ 2000 → are_low_steps sc hs xs ≡ true → is_low_term sc hs x ≡ true → n + outside_slot x ≤ m → LowKept sc hs m (kept_term xs x n)
  kept_at m xs (Slot i j) n le h g f = record { steps = h; slot = g; few = omega (arith, f) }
  kept_at m xs (Literal i c zs) n le h g f = keep_it m xs (Literal i c zs) n le h g f
  kept_at m xs (Read i k) n le h g f = keep_it m xs (Read i k) n le h g f
  kept_at m xs (Mono i p b) n le h g f = keep_it m xs (Mono i p b) n le h g f
  kept_at m xs (Dyad i p a b) n le h g f = keep_it m xs (Dyad i p a b) n le h g f
  kept_at m xs (Index i a js) n le h g f = keep_it m xs (Index i a js) n le h g f

  kept_low : (m : ℕ) (c : Cut) → m ≤ 2000 → Low sc hs m c → LowKept sc hs m (kept c)
  kept_low m c le h = kept_at m c.steps c.term c.next le h.steps h.term h.few

  before_low : (m : ℕ) (c : Cut) (ys : List Effect) → m ≤ 2000 → Low sc hs m c → Low sc hs m (before c ys)
  before_low m c [] le h = h
  before_low m c (y ∷ ys) le h =
      let k = kept_low m c le h in
      let f : (kept c).next ≤ m = k.few in
      record { steps = k.steps; term = k.slot; few = omega (arith, f) }

  -- each in a slot, from the last to the first
  terms_kept : (m : ℕ) (xs : List Effect) (ts : Terms) (n : ℕ) → m ≤ 2000 → are_low_steps sc hs xs ≡ true → are_low_terms sc hs ts ≡ true → n + outside_slots ts ≤ m → LowList sc hs (n + outside_slots ts) (kept_terms xs ts n)
  terms_kept m xs no_more n le h g f = record { steps = h; terms = refl; few = omega arith }
  terms_kept m xs (left_out ts) n le h g f = let k = terms_kept m xs ts n le h g f in record { steps = k.steps; terms = k.terms; few = k.few }
  terms_kept m xs (and_term x ts) n le h g f =
      let a = first_true (is_low_term sc hs x) (are_low_terms sc hs ts) g in
      let b = second_true (is_low_term sc hs x) (are_low_terms sc hs ts) g in
      let ys : CutList = kept_terms xs ts n in
      let k = terms_kept m xs ts n le h b (omega (arith, f)) in
      let e : ys.next + outside_slots ys.terms ≤ n + outside_slots ts = k.few in
      let j = kept_at (ys.next + outside_slot x) ys.steps x ys.next (omega (arith, le, f, e)) k.steps a (omega arith) in
      let d : (kept_term ys.steps x ys.next).next ≤ ys.next + outside_slot x = j.few in
      record {
        steps = j.steps;
        terms = both_true (nat_lt (kept_term ys.steps x ys.next).slot 2000) (are_low_terms sc hs ys.terms) j.slot k.terms;
        few = omega (arith, d, e);
      }

  all_before_low : (m : ℕ) (c : CutList) (ys : List Effect) → m ≤ 2000 → LowList sc hs m c → LowList sc hs m (all_before c ys)
  all_before_low m c [] le h = h
  all_before_low m c (y ∷ ys) le h =
      let f : c.next + outside_slots c.terms ≤ m = h.few in
      let k = terms_kept m c.steps c.terms c.next le h.steps h.terms f in
      let e : (kept_all c).next + outside_slots (kept_all c).terms ≤ c.next + outside_slots c.terms = k.few in
      record { steps = k.steps; terms = k.terms; few = omega (arith, e, f) }

  -- ---- Forms

  dyad_low : (a b m i : ℕ) (f : Primitive) (y x : Cut) → b + 1 ≤ m → Low sc hs a y → Low sc hs b x → Low sc hs m (dyad_of i f y x)
  dyad_low a b m i f y x le h g =
      let e : x.next + outside_slot x.term ≤ b = g.few in
      record { steps = steps_append y.steps x.steps h.steps g.steps; term = both_true (is_low_term sc hs x.term) (is_low_term sc hs y.term) g.term h.term; few = omega (arith, e, le) }

  index_low : (a b m i : ℕ) (js : CutList) (x : Cut) → b + 1 ≤ m → LowList sc hs a js → Low sc hs b x → Low sc hs m (index_of i js x)
  index_low a b m i js x le h g =
      let e : x.next + outside_slot x.term ≤ b = g.few in
      record { steps = steps_append js.steps x.steps h.steps g.steps; term = refl; few = omega (arith, e, le) }

  list_low : (a b m : ℕ) (js : CutList) (x : Cut) → b + outside_slots js.terms ≤ m → LowList sc hs a js → Low sc hs b x → LowList sc hs m (list_of js x)
  list_low a b m js x le h g =
      let e : x.next + outside_slot x.term ≤ b = g.few in
      record { steps = steps_append js.steps x.steps h.steps g.steps; terms = both_true (is_low_term sc hs x.term) (are_low_terms sc hs js.terms) g.term h.terms; few = omega (arith, e, le) }

  assign_low : (a m i n : ℕ) (x : Cut) → a + 1 ≤ m → is_low_name hs (sc n) n ≡ true → Low sc hs a x → Low sc hs m (cut_assign i n x)
  assign_low a m i n x le name h =
      let e : x.next + outside_slot x.term ≤ a = h.few in
      record { steps = and_step x.steps (Store i n x.term) h.steps (both_true (is_low_name hs (sc n) n) (is_low_term sc hs x.term) name h.term); term = name; few = omega (arith, e, le) }

  assign_at_low : (a b m i n : ℕ) (x : Kept) (js : CutList) → b ≤ m → LowKept sc hs a x → LowList sc hs b js → Low sc hs m (assign_at_of i n x js)
  assign_at_low a b m i n x js le h g =
      let e : js.next + outside_slots js.terms ≤ b = g.few in
      record { steps = and_step (x.steps ++ js.steps) (StoreAt i n js.terms (Slot x.node x.slot)) (steps_append x.steps js.steps h.steps g.steps) refl; term = h.slot; few = omega (arith, e, le) }

  show_low : (a m i : ℕ) (x : Kept) → a ≤ m → LowKept sc hs a x → Low sc hs m (cut_show i x)
  show_low a m i x le h =
      let e : x.next ≤ a = h.few in
      record { steps = and_step x.steps (Show (Some i) (Slot x.node x.slot)) h.steps h.slot; term = h.slot; few = omega (arith, e, le) }

  argument_low : (m : ℕ) (c : Kept) → LowKept sc hs m c → LowArgument sc hs m (argument_kept c)
  argument_low m c h = record { steps = h.steps; slot = h.slot; few = h.few }

  call_steps_low : (a b i n : ℕ) (y x : CutArgument) (r : Option ℕ) → is_low_slot r ≡ true → LowArgument sc hs a y → LowArgument sc hs b x → are_low_steps sc hs (call_steps i n y x r) ≡ true
  call_steps_low a b i n y x r e h g =
      and_step (y.steps ++ x.steps) (Call i n x.slot y.slot r) (steps_append y.steps x.steps h.steps g.steps)
      (both_true (is_low_slot x.slot) (is_low_slot y.slot && is_low_slot r) g.slot (both_true (is_low_slot y.slot) (is_low_slot r) h.slot e))

  call_low : (a b m i n : ℕ) (y x : CutArgument) → b + 1 ≤ m → m ≤ 2000 → LowArgument sc hs a y → LowArgument sc hs b x → Low sc hs m (call_of i n y x)
  call_low a b m i n y x le room h g =
      let e : x.next ≤ b = g.few in
      let f = low_slot x.next (omega (arith, e, le, room)) in
      record { steps = call_steps_low a b i n y x (Some x.next) f h g; term = f; few = omega (arith, e, le) }

  -- a value that is read into a slot
  input_low : (m i k : ℕ) (y : Effect) → k + 1 ≤ m → m ≤ 2000 → is_low_step sc hs y ≡ true → Low sc hs m (record { steps = y ∷ []; term = Slot i k; next = k + 1 })
  input_low m i k y le room h = record { steps = both_true (is_low_step sc hs y) true h refl; term = low_slot k (omega (arith, le, room)); few = omega (arith, le) }

  leaf_low : (m k : ℕ) (x : Term) → k + outside_slot x ≤ m → is_low_term sc hs x ≡ true → Low sc hs m (record { steps = []; term = x; next = k })
  leaf_low m k x le h = record { steps = refl; term = h; few = le }

  -- ---- Trees

  module _ (named : (n : ℕ) → n < 262144 → is_low_name hs (sc n) n ≡ true) where
    mutual
      cut_low : (x : Tree) → AreSmall (tree_mentions x) → (k : ℕ) → k + length (ids x) ≤ 2000 → Low sc hs (k + length (ids x)) (cut x k)
      cut_low (t.Numbers i o zs) h k le = leaf_low (k + 1) k (cut (t.Numbers i o zs) k).term (omega arith) refl
      cut_low (t.Text i o cs) h k le = leaf_low (k + 1) k (cut (t.Text i o cs) k).term (omega arith) refl
      cut_low (t.Name i o n) h k le = leaf_low (k + 1) k (Read i n) (omega arith) (named n (small_first n o false [] h))
      cut_low (t.TextInput i o) h k le = input_low (k + 1) i k (ReadText i k) (omega arith) le refl
      cut_low (t.NumsInput i o) h k le = input_low (k + 1) i k (ReadNums i k) (omega arith) le refl
      cut_low (t.Mono i o f b) h k le =
          let c = cut_low b h k (omega (arith, le)) in
          let e : (cut b k).next + outside_slot (cut b k).term ≤ k + length (ids b) = c.few in
          record { steps = c.steps; term = c.term; few = omega (arith, e) }
      cut_low (t.Dyad i o f a b) h k le =
          let l = length-append (ids a) (ids b) in
          let y : Cut = before (cut b k) (cut a (cut b k).next).steps in
          let c = before_low (k + length (ids b)) (cut b k) (cut a (cut b k).next).steps (omega (arith, le, l)) (cut_low b (small_right (tree_mentions a) (tree_mentions b) h) k (omega (arith, le, l))) in
          let e : y.next + outside_slot y.term ≤ k + length (ids b) = c.few in
          let d = cut_low a (small_left (tree_mentions a) (tree_mentions b) h) y.next (omega (arith, le, l, e)) in
          dyad_low (k + length (ids b)) (y.next + length (ids a)) (k + length (ids (t.Dyad i o f a b))) i f y (cut a y.next) (omega (arith, l, e)) c d
      cut_low (t.Index i o a xs) h k le =
          let l = length-append (ids a) (trees_ids xs) in
          let js : CutList = all_before (cut_list xs k) (cut a (cut_list xs k).next).steps in
          let c = all_before_low (k + length (trees_ids xs)) (cut_list xs k) (cut a (cut_list xs k).next).steps (omega (arith, le, l)) (list_cut_low xs (small_right (tree_mentions a) (trees_mentions xs) h) k (omega (arith, le, l))) in
          let e : js.next + outside_slots js.terms ≤ k + length (trees_ids xs) = c.few in
          let d = cut_low a (small_left (tree_mentions a) (trees_mentions xs) h) js.next (omega (arith, le, l, e)) in
          index_low (k + length (trees_ids xs)) (js.next + length (ids a)) (k + length (ids (t.Index i o a xs))) i js (cut a js.next) (omega (arith, l, e)) c d
      cut_low (t.Assign i o n a) h k le =
          let m = mention (name_id n) o true in
          assign_low (k + length (ids a)) (k + length (ids (t.Assign i o n a))) i n (cut a k) (omega arith) (named n (small_first n o true (tree_mentions a) h)) (cut_low a (small_behind m (tree_mentions a) h) k (omega (arith, le)))
      cut_low (t.AssignAt i o n xs a) h k le =
          let l = length-append (trees_ids xs) (ids a) in
          let g = small_behind (mention (name_id n) o true) (trees_mentions xs ++ tree_mentions a) h in
          let x : Kept = kept (cut a k) in
          let c = kept_low (k + length (ids a)) (cut a k) (omega (arith, le, l)) (cut_low a (small_right (trees_mentions xs) (tree_mentions a) g) k (omega (arith, le, l))) in
          let e : x.next ≤ k + length (ids a) = c.few in
          let d = list_cut_low xs (small_left (trees_mentions xs) (tree_mentions a) g) x.next (omega (arith, le, l, e)) in
          assign_at_low (k + length (ids a)) (x.next + length (trees_ids xs)) (k + length (ids (t.AssignAt i o n xs a))) i n x (cut_list xs x.next) (omega (arith, l, e)) c d
      cut_low (t.Show i o a) h k le =
          show_low (k + length (ids a)) (k + length (ids (t.Show i o a))) i (kept (cut a k)) (omega arith) (kept_low (k + length (ids a)) (cut a k) (omega (arith, le)) (cut_low a h k (omega (arith, le))))
      cut_low (t.Call i o n a b) h k le =
          let l = length-append (argument_ids a) (argument_ids b) in
          let g = small_behind (mention (name_id n) o false) (argument_mentions a ++ argument_mentions b) h in
          let y : CutArgument = cut_argument b k in
          let c = argument_cut_low b (small_right (argument_mentions a) (argument_mentions b) g) k (omega (arith, le, l)) in
          let e : y.next ≤ k + length (argument_ids b) = c.few in
          let d = argument_cut_low a (small_left (argument_mentions a) (argument_mentions b) g) y.next (omega (arith, le, l, e)) in
          call_low (k + length (argument_ids b)) (y.next + length (argument_ids a)) (k + length (ids (t.Call i o n a b))) i n y (cut_argument a y.next) (omega (arith, l, e)) le c d

      list_cut_low : (xs : Trees) → AreSmall (trees_mentions xs) → (k : ℕ) → k + length (trees_ids xs) ≤ 2000 → LowList sc hs (k + length (trees_ids xs)) (cut_list xs k)
      list_cut_low t.no_more h k le = record { steps = refl; terms = refl; few = omega arith }
      list_cut_low (t.left_out xs) h k le = let c = list_cut_low xs h k le in record { steps = c.steps; terms = c.terms; few = c.few }
      list_cut_low (t.and_tree x xs) h k le =
          let l = length-append (ids x) (trees_ids xs) in
          let js : CutList = all_before (cut_list xs k) (cut x (cut_list xs k).next).steps in
          let c = all_before_low (k + length (trees_ids xs)) (cut_list xs k) (cut x (cut_list xs k).next).steps (omega (arith, le, l)) (list_cut_low xs (small_right (tree_mentions x) (trees_mentions xs) h) k (omega (arith, le, l))) in
          let e : js.next + outside_slots js.terms ≤ k + length (trees_ids xs) = c.few in
          let d = cut_low x (small_left (tree_mentions x) (trees_mentions xs) h) js.next (omega (arith, le, l, e)) in
          list_low (k + length (trees_ids xs)) (js.next + length (ids x)) (k + length (trees_ids (t.and_tree x xs))) js (cut x js.next) (omega (arith, l, e)) c d

      argument_cut_low : (a : Argument) → AreSmall (argument_mentions a) → (k : ℕ) → k + length (argument_ids a) ≤ 2000 → LowArgument sc hs (k + length (argument_ids a)) (cut_argument a k)
      argument_cut_low absent h k le = record { steps = refl; slot = refl; few = omega arith }
      argument_cut_low (given x) h k le = argument_low (k + length (ids x)) (kept (cut x k)) (kept_low (k + length (ids x)) (cut x k) le (cut_low x h k le))

    -- ---- Statements

    kept_steps_low : (x : Tree) → AreSmall (tree_mentions x) → length (ids x) ≤ 256 → are_low_steps sc hs (kept (cut x 0)).steps ≡ true
    kept_steps_low x h le = let k = kept_low (0 + length (ids x)) (cut x 0) (omega (arith, le)) (cut_low x h 0 (omega (arith, le))) in k.steps

    ended_low : (x : Tree) (y : Effect) → AreSmall (tree_mentions x) → length (ids x) ≤ 256 → (is_low_term sc hs (cut x 0).term ≡ true → is_low_step sc hs y ≡ true) → are_low_steps sc hs ((cut x 0).steps ++ y ∷ []) ≡ true
    ended_low x y h le f = let c = cut_low x h 0 (omega (arith, le)) in and_step (cut x 0).steps y c.steps (f c.term)

    pub display_low : (x : Tree) → AreSmall (tree_mentions x) → length (ids x) ≤ 256 → are_low_steps sc hs (lowered (display x)) ≡ true
    display_low x h le = ended_low x (Show None (cut x 0).term) h le (λ e. e)

    pub branch_low : (o : ℕ) (x : Tree) → AreSmall (tree_mentions x) → length (ids x) ≤ 256 → are_low_steps sc hs (lowered (branch o x)) ≡ true
    branch_low o x h le = ended_low x (Branch (cut x 0).term) h le (λ e. e)

    changed_low : (i o n : ℕ) (xs : Trees) (a : Tree) → AreSmall (tree_mentions (t.AssignAt i o n xs a)) → length (ids (t.AssignAt i o n xs a)) ≤ 256 → are_low_steps sc hs (lowered (quiet (t.AssignAt i o n xs a))) ≡ true
    changed_low i o n xs a h le =
        let l = length-append (trees_ids xs) (ids a) in
        let g = small_behind (mention (name_id n) o true) (trees_mentions xs ++ tree_mentions a) h in
        let y : Cut = before (cut a 0) (cut_list xs (cut a 0).next).steps in
        let c = before_low (0 + length (ids a)) (cut a 0) (cut_list xs (cut a 0).next).steps (omega (arith, le, l)) (cut_low a (small_right (trees_mentions xs) (tree_mentions a) g) 0 (omega (arith, le, l))) in
        let e : y.next + outside_slot y.term ≤ 0 + length (ids a) = c.few in
        let d = list_cut_low xs (small_left (trees_mentions xs) (tree_mentions a) g) y.next (omega (arith, le, l, e)) in
        let js : CutList = cut_list xs y.next in
        and_step (y.steps ++ js.steps) (StoreAt i n js.terms y.term) (steps_append y.steps js.steps c.steps d.steps) refl

    performed_low : (i o n : ℕ) (a b : Argument) → AreSmall (tree_mentions (t.Call i o n a b)) → length (ids (t.Call i o n a b)) ≤ 256 → are_low_steps sc hs (lowered (perform i o n a b)) ≡ true
    performed_low i o n a b h le =
        let l = length-append (argument_ids a) (argument_ids b) in
        let g = small_behind (mention (name_id n) o false) (argument_mentions a ++ argument_mentions b) h in
        let y : CutArgument = cut_argument b 0 in
        let c = argument_cut_low b (small_right (argument_mentions a) (argument_mentions b) g) 0 (omega (arith, le, l)) in
        let e : y.next ≤ 0 + length (argument_ids b) = c.few in
        let d = argument_cut_low a (small_left (argument_mentions a) (argument_mentions b) g) y.next (omega (arith, le, l, e)) in
        call_steps_low (0 + length (argument_ids b)) (y.next + length (argument_ids a)) i n y (cut_argument a y.next) None refl c d

    pub quiet_low : (x : Tree) → AreSmall (tree_mentions x) → length (ids x) ≤ 256 → are_low_steps sc hs (lowered (quiet_of x)) ≡ true
    quiet_low (t.Assign i o n a) h le = let c = cut_low (t.Assign i o n a) h 0 (omega (arith, le)) in c.steps
    quiet_low (t.AssignAt i o n xs a) h le = changed_low i o n xs a h le
    quiet_low (t.Show i o a) h le = ended_low a (Show (Some i) (cut a 0).term) h (omega (arith, le)) (λ e. e)
    quiet_low (t.Call i o n a b) h le = performed_low i o n a b h le
    quiet_low (t.Numbers i o zs) h le = kept_steps_low (t.Numbers i o zs) h le
    quiet_low (t.Text i o cs) h le = kept_steps_low (t.Text i o cs) h le
    quiet_low (t.Name i o n) h le = kept_steps_low (t.Name i o n) h le
    quiet_low (t.TextInput i o) h le = kept_steps_low (t.TextInput i o) h le
    quiet_low (t.NumsInput i o) h le = kept_steps_low (t.NumsInput i o) h le
    quiet_low (t.Mono i o f b) h le = kept_steps_low (t.Mono i o f b) h le
    quiet_low (t.Dyad i o f a b) h le = kept_steps_low (t.Dyad i o f a b) h le
    quiet_low (t.Index i o a xs) h le = kept_steps_low (t.Index i o a xs) h le
