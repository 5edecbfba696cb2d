-- How many slots a pass may come to need, and where there is room for them slots are counted as numbers are.
use Rattle.std.proofs.Common.{◌≡◌, ◌∙◌, ap, sym, refl, ℕ, ◌+◌, ◌≤◌, List, [], ◌∷◌, ◌++◌, arith}
use Rattle.std.specs.Prelude.{Option, Some, None}
use Rattle.aplc_syntax.specs.PlainTrees.{Trees, Argument, absent, given}
use Rattle.aplc_syntax.specs.PlainTrees as t
use Rattle.aplc_core.specs.PlainSteps.{Term, Literal, Read, Slot, Mono, Dyad, Index, Terms, Effect, Store, StoreAt, Show}
use Rattle.aplc_core.specs.Passes.{Pass, Count, next_number, waits, kept_last, keep_each, all_kept, with_step, written, assign, assign_at, show, on_last, with_last, on_slot, with_slot, taken, with_list, into_slot, with_argument, ends}
use Rattle.aplc_core.proofs.Slots.{keep_step, in_slot, free_after, last_kept}

-- ---- Weight

abbrev pub outside_slot : Term → ℕ
outside_slot (Slot i k) = 0
outside_slot t = 1

-- how many of these trees are in no slot
abbrev pub outside_slots : List Term → ℕ
outside_slots [] = 0
outside_slots (t ∷ ts) = outside_slots ts + outside_slot t

-- the first slot that is free once all that waits is kept
abbrev pub weight : Pass → ℕ
weight p = p.free + outside_slots p.waiting

-- both are one pass, of a weight of at most m
pub record IsOne (m : ℕ) (p q : Pass) : Type 0 where
  pub same : p ≡ q
  pub light : weight q ≤ m

-- up to a weight of `most`, both do the same, and the weight grows by at most k
abbrev pub Agree : ℕ → ℕ → (Pass → Pass) → (Pass → Pass) → Type 0
Agree most k f g = (p : Pass) → weight p + k ≤ most → IsOne (weight p + k) (f p) (g p)

at_most_one : (t : Term) → outside_slot t ≤ 1
at_most_one (Slot i k) = omega arith
at_most_one (Literal i k zs) = omega arith
at_most_one (Read i n) = omega arith
at_most_one (Mono i f b) = omega arith
at_most_one (Dyad i f a b) = omega arith
at_most_one (Index i a js) = omega arith

number_after : (t : Term) (n : ℕ) → free_after next_number t n ≡ n + outside_slot t
number_after (Slot i k) n = omega arith
number_after (Literal i k zs) n = refl
number_after (Read i m) n = refl
number_after (Mono i f b) n = refl
number_after (Dyad i f a b) n = refl
number_after (Index i a js) n = refl

taken_lighter : (js : Trees) (ts : List Term) → outside_slots (taken js ts).rest ≤ outside_slots ts
taken_lighter t.no_more ts = omega arith
taken_lighter (t.left_out js) ts = taken_lighter js ts
taken_lighter (t.and_tree x js) [] = taken_lighter js []
taken_lighter (t.and_tree x js) (t ∷ ts) = let h = taken_lighter js ts in omega (arith, h)

-- ---- One after another, and with what waited

module _ (most : ℕ) where
  pub more_room : (j k : ℕ) (f g : Pass → Pass) → j ≤ k → Agree most j f g → Agree most k f g
  more_room j k f g h r p b =
      let x = r p (omega (arith, h, b)) in
      let l : weight (g p) ≤ weight p + j = x.light in
      record { same = x.same; light = omega (arith, h, l) }

  pub in_turn : (j k m : ℕ) (f g h e : Pass → Pass) → j + k ≤ m → Agree most j f g → Agree most k h e → Agree most m (λ p. h (f p)) (λ p. e (g p))
  in_turn j k m f g h e c r s p b =
      let x = r p (omega (arith, b, c)) in
      let l : weight (g p) ≤ weight p + j = x.light in
      let y = s (g p) (omega (arith, b, c, l)) in
      let n : weight (e (g p)) ≤ weight (g p) + k = y.light in
      record { same = ap h x.same ∙ y.same; light = omega (arith, c, l, n) }

  pub stays : (p : Pass) → IsOne (weight p + 0) p p
  stays p = record { same = refl; light = omega arith }

  pub waits_alike : (t : Term) → Agree most 1 (waits t) (waits t)
  waits_alike t p b = let h = at_most_one t in record { same = refl; light = omega (arith, h) }

  pub slot_waits_alike : (i k : ℕ) → Agree most 0 (waits (Slot i k)) (waits (Slot i k))
  slot_waits_alike i k p b = record { same = refl; light = omega arith }

  pub step_alike : (x : Pass → Effect) → Agree most 0 (λ p. with_step (x p) p) (λ p. with_step (x p) p)
  step_alike x p b = record { same = refl; light = omega arith }

  module _ (k : ℕ) (f g : Term → Pass → Pass) (h : (t : Term) → Agree most k (f t) (g t)) where
    on_last_alike : (xs : List Effect) (n : ℕ) (ts : List Term) → (n + outside_slots ts) + k ≤ most → IsOne ((n + outside_slots ts) + k) (on_last f xs n ts) (on_last g xs n ts)
    on_last_alike xs n [] b = record { same = refl; light = omega arith }
    on_last_alike xs n (t ∷ ts) b =
        let q : Pass = record { steps = xs; free = n; waiting = ts } in
        let x = h t q (omega (arith, b)) in
        let l : weight (g t q) ≤ (n + outside_slots ts) + k = x.light in
        record { same = x.same; light = omega (arith, l) }

    pub last_alike : Agree most k (λ p. with_last f p) (λ p. with_last g p)
    last_alike p b = on_last_alike p.steps p.free p.waiting b

  module _ (k : ℕ) (js : Trees) (f g : Terms → Pass → Pass) (h : (ts : Terms) → Agree most k (f ts) (g ts)) where
    pub list_alike : Agree most k (λ p. with_list js f p) (λ p. with_list js g p)
    list_alike p b =
        let c = taken js p.waiting in
        let q : Pass = record { steps = p.steps; free = p.free; waiting = c.rest } in
        let d : outside_slots c.rest ≤ outside_slots p.waiting = taken_lighter js p.waiting in
        let x = h c.terms q (omega (arith, b, d)) in
        let l : weight (g c.terms q) ≤ weight q + k = x.light in
        record { same = x.same; light = omega (arith, l, d) }

-- ---- Keeping, with a count that is exact up to `most`

module _ (up : Count) (most : ℕ) (exact : (n : ℕ) → n + 1 ≤ most → up n ≡ n + 1) where
  count_alike : (t : Term) (n : ℕ) → n + outside_slot t ≤ most → free_after up t n ≡ free_after next_number t n
  count_alike (Slot i k) n b = refl
  count_alike (Literal i k zs) n b = exact n b
  count_alike (Read i m) n b = exact n b
  count_alike (Mono i f a) n b = exact n b
  count_alike (Dyad i f a c) n b = exact n b
  count_alike (Index i a js) n b = exact n b

  one_alike : (t : Term) (p : Pass) → weight p + outside_slot t ≤ most → IsOne (weight p + outside_slot t) (kept_last up t p) (kept_last next_number t p)
  one_alike t p b =
      let e : free_after next_number t p.free ≡ p.free + outside_slot t = number_after t p.free in
      let w : weight (kept_last next_number t p) ≡ free_after next_number t p.free + (outside_slots p.waiting + 0) = ap weight (last_kept next_number t p) in
      record {
        same =
            last_kept up t p
            ∙ ap (λ (n : ℕ). record { steps = p.steps ++ keep_step t p.free; free = n; waiting = in_slot t p.free ∷ p.waiting }) (count_alike t p.free (omega (arith, b)))
            ∙ sym (last_kept next_number t p);
        light = omega (arith, e, w);
      }

  each_alike : (ts : List Term) (xs : List Effect) (n : ℕ) → n + outside_slots ts ≤ most → IsOne (n + outside_slots ts) (keep_each up ts xs n) (keep_each next_number ts xs n)
  each_alike [] xs n b = record { same = refl; light = omega arith }
  each_alike (t ∷ ts) xs n b =
      let q = keep_each next_number ts xs n in
      let x = each_alike ts xs n (omega (arith, b)) in
      let l : weight q ≤ n + outside_slots ts = x.light in
      let y = one_alike t q (omega (arith, b, l)) in
      let m : weight (kept_last next_number t q) ≤ weight q + outside_slot t = y.light in
      record { same = ap (kept_last up t) x.same ∙ y.same; light = omega (arith, l, m) }

  kept_alike : Agree most 0 (all_kept up) (all_kept next_number)
  kept_alike p b =
      let x = each_alike p.waiting p.steps p.free (omega (arith, b)) in
      let l : weight (all_kept next_number p) ≤ weight p = x.light in
      record { same = x.same; light = omega (arith, l) }

  pub all_kept_alike : (k : ℕ) (f g : Pass → Pass) → Agree most k f g → Agree most k (λ p. all_kept up (f p)) (λ p. all_kept next_number (g p))
  all_kept_alike k f g h = in_turn most k 0 k f g (all_kept up) (all_kept next_number) (omega arith) h kept_alike

  pub written_alike : (x : Effect) → Agree most 0 (λ p. written up x p) (λ p. written next_number x p)
  written_alike x = in_turn most 0 0 0 (all_kept up) (all_kept next_number) (with_step x) (with_step x) (omega arith) kept_alike (step_alike most (λ p. x))

  -- ---- What waited is used

  module _ (k : ℕ) (f g : ℕ → ℕ → Pass → Pass) (h : (i n : ℕ) → Agree most k (f i n) (g i n)) where
    on_slot_alike : (t : Term) → Agree most k (on_slot f t) (on_slot g t)
    on_slot_alike (Slot i n) = h i n
    on_slot_alike (Literal i n zs) = λ p b. record { same = refl; light = omega arith }
    on_slot_alike (Read i n) = λ p b. record { same = refl; light = omega arith }
    on_slot_alike (Mono i x a) = λ p b. record { same = refl; light = omega arith }
    on_slot_alike (Dyad i x a c) = λ p b. record { same = refl; light = omega arith }
    on_slot_alike (Index i a js) = λ p b. record { same = refl; light = omega arith }

    pub slot_alike : Agree most k (λ p. with_slot up f p) (λ p. with_slot next_number g p)
    slot_alike = in_turn most 0 k k (all_kept up) (all_kept next_number) (λ p. with_last (on_slot f) p) (λ p. with_last (on_slot g) p) (omega arith) kept_alike (last_alike most k (on_slot f) (on_slot g) on_slot_alike)

  module _ (k : ℕ) (f g : Option ℕ → Pass → Pass) (h : (x : Option ℕ) → Agree most k (f x) (g x)) where
    argument_alike : (a : Argument) → Agree most k (λ p. with_argument up a f p) (λ p. with_argument next_number a g p)
    argument_alike absent = h None
    argument_alike (given x) = slot_alike k (λ i n. f (Some n)) (λ i n. g (Some n)) (λ i n. h (Some n))

  -- what is done with the slots of both arguments
  pub arguments_alike : (k : ℕ) (a b : Argument) (f g : Option ℕ → Option ℕ → Pass → Pass) → ((x y : Option ℕ) → Agree most k (f x y) (g x y)) → Agree most k (λ p. with_argument up a (λ x. with_argument up b (f x)) p) (λ p. with_argument next_number a (λ x. with_argument next_number b (g x)) p)
  arguments_alike k a b f g h =
      argument_alike k (λ x p. with_argument up b (f x) p) (λ x p. with_argument next_number b (g x) p) (λ x. argument_alike k (f x) (g x) (h x) b) a

  -- ---- Forms

  into_slot_alike : (i : ℕ) → Agree most 1 (λ p. into_slot up i p) (λ p. into_slot next_number i p)
  into_slot_alike i p b =
      record {
        same = ap (λ (n : ℕ). record { steps = p.steps; free = n; waiting = Slot i p.free ∷ p.waiting }) (exact p.free (omega (arith, b)));
        light = omega arith;
      }

  step_into_slot_alike : (i : ℕ) (x : Pass → Effect) → Agree most 1 (λ p. into_slot up i (with_step (x p) p)) (λ p. into_slot next_number i (with_step (x p) p))
  step_into_slot_alike i x = in_turn most 0 1 1 (λ p. with_step (x p) p) (λ p. with_step (x p) p) (λ p. into_slot up i p) (λ p. into_slot next_number i p) (omega arith) (step_alike most x) (into_slot_alike i)

  -- a step that puts its value into the first free slot
  pub gives_alike : (i : ℕ) (x : Pass → Effect) → Agree most 1 (λ p. into_slot up i (with_step (x (all_kept up p)) (all_kept up p))) (λ p. into_slot next_number i (with_step (x (all_kept next_number p)) (all_kept next_number p)))
  gives_alike i x = in_turn most 0 1 1 (all_kept up) (all_kept next_number) (λ p. into_slot up i (with_step (x p) p)) (λ p. into_slot next_number i (with_step (x p) p)) (omega arith) kept_alike (step_into_slot_alike i x)

  -- a step, and its slot waits
  step_waits_alike : (x : Effect) (i k : ℕ) → Agree most 0 (λ p. waits (Slot i k) (with_step x p)) (λ p. waits (Slot i k) (with_step x p))
  step_waits_alike x i k = in_turn most 0 0 0 (with_step x) (with_step x) (waits (Slot i k)) (waits (Slot i k)) (omega arith) (step_alike most (λ p. x)) (slot_waits_alike most i k)

  pub assign_alike : (i n : ℕ) → Agree most 1 (λ p. assign up i n p) (λ p. assign next_number i n p)
  assign_alike i n =
      last_alike most 1 (λ x p. waits (Read i n) (written up (Store i n x) p)) (λ x p. waits (Read i n) (written next_number (Store i n x) p))
      (λ x. in_turn most 0 1 1 (λ p. written up (Store i n x) p) (λ p. written next_number (Store i n x) p) (waits (Read i n)) (waits (Read i n)) (omega arith) (written_alike (Store i n x)) (waits_alike most (Read i n)))

  pub show_alike : (i : ℕ) → Agree most 0 (λ p. show up i p) (λ p. show next_number i p)
  show_alike i =
      let f : ℕ → ℕ → Pass → Pass = λ j k p. waits (Slot i k) (with_step (Show (Some i) (Slot j k)) p) in
      slot_alike 0 f f (λ j k. step_waits_alike (Show (Some i) (Slot j k)) i k)

  pub assign_at_alike : (i n : ℕ) (js : Trees) → Agree most 0 (λ p. assign_at up i n js p) (λ p. assign_at next_number i n js p)
  assign_at_alike i n js =
      let f : Terms → ℕ → ℕ → Pass → Pass = λ ts j k p. waits (Slot i k) (with_step (StoreAt i n ts (Slot j k)) p) in
      list_alike most 0 js (λ ts p. with_slot up (f ts) p) (λ ts p. with_slot next_number (f ts) p)
      (λ ts. slot_alike 0 (f ts) (f ts) (λ j k. step_waits_alike (StoreAt i n ts (Slot j k)) i k))

  pub ends_alike : (x : Term → Effect) → Agree most 0 (λ p. ends up x p) (λ p. ends next_number x p)
  ends_alike x = last_alike most 0 (λ t p. written up (x t) p) (λ t p. written next_number (x t) p) (λ t. written_alike (x t))
