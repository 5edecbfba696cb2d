-- What a pass does at indexed assignments and calls.
use Rattle.std.proofs.Common.{◌≡◌, ◌∙◌, ap, sym, ℕ, ◌+◌, List, [], ◌∷◌, ◌++◌, append_assoc, append-nil}
use Rattle.std.specs.Prelude.{Option, Some, None}
use Rattle.aplc_syntax.specs.PlainTrees.{Tree, Trees, Argument, absent, given}
use Rattle.aplc_core.specs.PlainSteps.{Slot, Terms, Effect, StoreAt, Call}
use Rattle.aplc_core.specs.Lowering.{Cut, CutArgument, Kept, kept, from_slot, cut_assign_at, assign_at_of, argument_kept, cut_call, cut_list}
use Rattle.aplc_core.specs.Passes.{Pass, next_number, waits, all_kept, with_step, with_last, with_slot, on_slot, assign_at, with_argument, calls, call, into_slot}
use Rattle.aplc_core.proofs.Slots.{AreSlots, slots_stay, all_slots, kept_again, joined}
use Rattle.aplc_core.proofs.PassForms.{more_behind, Does, busy, DoesList, then_kept, list_on_slots}
use Rattle.aplc_core.proofs.Entries.{cut_fits, list_back}

-- ---- Indexed assignments

module _ (i n : ℕ) (xs : Trees) (T : ℕ → Cut) (g h : Pass → Pass) (b : DoesList (cut_list xs) h) where
  abbrev changed : Terms → ℕ → ℕ → Pass → Pass
  changed ts j k q = waits (Slot i k) (with_step (StoreAt i n ts (Slot j k)) q)

  -- the value waits in a slot below the list
  stored_at : (q : Pass) (k : Kept) → AreSlots q.waiting → assign_at next_number i n xs (h (joined (from_slot k) q)) ≡ joined (assign_at_of i n k (cut_list xs k.next)) q
  stored_at q k s =
      let r = joined (from_slot k) q in
      let l = cut_list xs k.next in
      let ys = (q.steps ++ k.steps) ++ l.steps in
      ap (assign_at next_number i n xs) (list_on_slots (cut_list xs) h b r s)
      ∙ list_back xs (λ ts. with_slot next_number (changed ts)) ys l.next l.terms r.waiting (cut_fits xs k.next)
      ∙ ap (with_last (on_slot (changed l.terms))) (slots_stay next_number r.waiting ys l.next s)
      ∙ ap (λ (zs : List Effect). record { steps = zs ++ StoreAt i n l.terms (Slot k.node k.slot) ∷ []; free = l.next; waiting = Slot i k.slot ∷ q.waiting }) (append_assoc q.steps k.steps l.steps)
      ∙ ap (λ (zs : List Effect). record { steps = zs; free = l.next; waiting = Slot i k.slot ∷ q.waiting }) (append_assoc q.steps (k.steps ++ l.steps) (StoreAt i n l.terms (Slot k.node k.slot) ∷ []))

  pub does_assign_at : Does T g → Does (λ k. cut_assign_at i n (kept (T k)) (λ m. cut_list xs m)) (λ p. assign_at next_number i n xs (h (all_kept next_number (g p))))
  does_assign_at d =
      busy (λ k. more_behind ((kept (T k)).steps ++ (cut_list xs (kept (T k)).next).steps) (StoreAt i n (cut_list xs (kept (T k)).next).terms (Slot (kept (T k)).node (kept (T k)).slot) ∷ []) (record {}))
      (λ p. ap (λ (r : Pass). assign_at next_number i n xs (h r)) (then_kept T g d p) ∙ stored_at (all_kept next_number p) (kept (T (all_kept next_number p).free)) (all_slots next_number p))

-- ---- Calls

-- what a pass does at an argument
pub data DoesArgument (b : Argument) (T : ℕ → CutArgument) (g : Pass → Pass) : Type 0 where
  none : b ≡ absent → ((k : ℕ) → T k ≡ record { steps = []; slot = None; next = k }) → ((p : Pass) → g p ≡ p) → DoesArgument b T g
  one : (x : Tree) → b ≡ given x → (K : ℕ → Kept) → ((k : ℕ) → T k ≡ argument_kept (K k)) → ((p : Pass) → g p ≡ joined (from_slot (K (all_kept next_number p).free)) (all_kept next_number p)) → DoesArgument b T g

-- arguments that wait in slots are taken by the call: the last first
module _ (i n : ℕ) (a b : Argument) (S T : ℕ → CutArgument) (g h : Pass → Pass) where
  abbrev both : (Option ℕ → Option ℕ → Pass → Pass) → Pass → Pass
  both more p = with_argument next_number a (λ x. with_argument next_number b (λ y. more x y)) p

  -- what the arguments come to where all that waits is kept
  pub arguments_end : (more : Option ℕ → Option ℕ → Pass → Pass) → DoesArgument b T g → DoesArgument a S h → (q : Pass) → AreSlots q.waiting → both more (h (g q)) ≡ more (S (T q.free).next).slot (T q.free).slot record { steps = (q.steps ++ (T q.free).steps) ++ (S (T q.free).next).steps; free = (S (T q.free).next).next; waiting = q.waiting }
  arguments_end more (none eb e d) (none ea f c) q s =
      ap (both more) (c (g q) ∙ d q)
      ∙ ap (λ (z : Argument). with_argument next_number z (λ x. with_argument next_number b (λ y. more x y)) q) ea
      ∙ ap (λ (z : Argument). with_argument next_number z (λ y. more None y) q) eb
      ∙ ap (λ (ys : List Effect). more None None record { steps = ys; free = q.free; waiting = q.waiting }) (sym (append-nil q.steps) ∙ sym (append-nil (q.steps ++ [])))
      ∙ ap (λ (z : CutArgument). more z.slot None record { steps = (q.steps ++ []) ++ z.steps; free = z.next; waiting = q.waiting }) (sym (f q.free))
      ∙ ap (λ (z : CutArgument). more (S z.next).slot z.slot record { steps = (q.steps ++ z.steps) ++ (S z.next).steps; free = (S z.next).next; waiting = q.waiting }) (sym (e q.free))
  arguments_end more (one y eb K e d) (none ea f c) q s =
      let k = K q.free in
      ap (both more) (c (g q) ∙ d q ∙ ap (λ (r : Pass). joined (from_slot (K r.free)) r) (kept_again next_number q s))
      ∙ ap (λ (z : Argument). with_argument next_number z (λ x. with_argument next_number b (λ y. more x y)) (joined (from_slot k) q)) ea
      ∙ ap (λ (z : Argument). with_argument next_number z (λ y. more None y) (joined (from_slot k) q)) eb
      ∙ ap (with_last (on_slot (λ j m. more None (Some m)))) (slots_stay next_number (Slot k.node k.slot ∷ q.waiting) (q.steps ++ k.steps) k.next s)
      ∙ ap (λ (ys : List Effect). more None (Some k.slot) record { steps = ys; free = k.next; waiting = q.waiting }) (sym (append-nil (q.steps ++ k.steps)))
      ∙ ap (λ (z : CutArgument). more z.slot (Some k.slot) record { steps = (q.steps ++ k.steps) ++ z.steps; free = z.next; waiting = q.waiting }) (sym (f k.next))
      ∙ ap (λ (z : CutArgument). more (S z.next).slot z.slot record { steps = (q.steps ++ z.steps) ++ (S z.next).steps; free = (S z.next).next; waiting = q.waiting }) (sym (e q.free))
  arguments_end more (none eb e d) (one x ea K f c) q s =
      let k = K q.free in
      ap (both more) (ap h (d q) ∙ c q ∙ ap (λ (r : Pass). joined (from_slot (K r.free)) r) (kept_again next_number q s))
      ∙ ap (λ (z : Argument). with_argument next_number z (λ x. with_argument next_number b (λ y. more x y)) (joined (from_slot k) q)) ea
      ∙ ap (with_last (on_slot (λ j m. with_argument next_number b (λ y. more (Some m) y)))) (slots_stay next_number (Slot k.node k.slot ∷ q.waiting) (q.steps ++ k.steps) k.next s)
      ∙ ap (λ (z : Argument). with_argument next_number z (λ y. more (Some k.slot) y) record { steps = q.steps ++ k.steps; free = k.next; waiting = q.waiting }) eb
      ∙ ap (λ (ys : List Effect). more (Some k.slot) None record { steps = ys ++ k.steps; free = k.next; waiting = q.waiting }) (sym (append-nil q.steps))
      ∙ ap (λ (z : CutArgument). more z.slot None record { steps = (q.steps ++ []) ++ z.steps; free = z.next; waiting = q.waiting }) (sym (f q.free))
      ∙ ap (λ (z : CutArgument). more (S z.next).slot z.slot record { steps = (q.steps ++ z.steps) ++ (S z.next).steps; free = (S z.next).next; waiting = q.waiting }) (sym (e q.free))
  arguments_end more (one y eb K e d) (one x ea L f c) q s =
      let k = K q.free in
      let l = L k.next in
      let r = joined (from_slot k) q in
      let ys = (q.steps ++ k.steps) ++ l.steps in
      ap (both more) (ap h (d q ∙ ap (λ (r : Pass). joined (from_slot (K r.free)) r) (kept_again next_number q s)) ∙ c r ∙ ap (λ (r : Pass). joined (from_slot (L r.free)) r) (kept_again next_number r s))
      ∙ ap (λ (z : Argument). with_argument next_number z (λ x. with_argument next_number b (λ y. more x y)) (joined (from_slot l) r)) ea
      ∙ ap (with_last (on_slot (λ j m. with_argument next_number b (λ y. more (Some m) y)))) (slots_stay next_number (Slot l.node l.slot ∷ r.waiting) ys l.next s)
      ∙ ap (λ (z : Argument). with_argument next_number z (λ y. more (Some l.slot) y) record { steps = ys; free = l.next; waiting = r.waiting }) eb
      ∙ ap (with_last (on_slot (λ j m. more (Some l.slot) (Some m)))) (slots_stay next_number r.waiting ys l.next s)
      ∙ ap (λ (z : CutArgument). more z.slot (Some k.slot) record { steps = (q.steps ++ k.steps) ++ z.steps; free = z.next; waiting = q.waiting }) (sym (f k.next))
      ∙ ap (λ (z : CutArgument). more (S z.next).slot z.slot record { steps = (q.steps ++ z.steps) ++ (S z.next).steps; free = (S z.next).next; waiting = q.waiting }) (sym (e q.free))

  -- what waited before an argument is kept with it, and else by the call
  pub kept_first : (more : Option ℕ → Option ℕ → Pass → Pass) → ((x y : Option ℕ) (p : Pass) → more x y p ≡ more x y (all_kept next_number p)) → DoesArgument b T g → DoesArgument a S h → (p : Pass) → both more (h (g p)) ≡ both more (h (g (all_kept next_number p)))
  kept_first more w (none eb e d) (none ea f c) p =
      let q = all_kept next_number p in
      ap (both more) (c (g p) ∙ d p)
      ∙ bare p ∙ w None None p ∙ sym (bare q)
      ∙ ap (both more) (sym (c (g q) ∙ d q))
    where
      bare : (p : Pass) → both more p ≡ more None None p
      bare p =
          ap (λ (z : Argument). with_argument next_number z (λ x. with_argument next_number b (λ y. more x y)) p) ea
          ∙ ap (λ (z : Argument). with_argument next_number z (λ y. more None y) p) eb
  kept_first more w (none eb e d) (one x ea K f c) p =
      let q = all_kept next_number p in
      ap (both more) (ap h (d p) ∙ c p ∙ ap (λ (r : Pass). joined (from_slot (K r.free)) r) (sym (kept_again next_number q (all_slots next_number p))) ∙ sym (c q) ∙ ap h (sym (d q)))
  kept_first more w (one y eb K e d) o p =
      let q = all_kept next_number p in
      ap (λ (r : Pass). both more (h r)) (d p ∙ ap (λ (r : Pass). joined (from_slot (K r.free)) r) (sym (kept_again next_number q (all_slots next_number p))) ∙ sym (d q))

  calls_kept : (x y : Option ℕ) (p : Pass) → calls next_number i n x y p ≡ calls next_number i n x y (all_kept next_number p)
  calls_kept x y p = ap (λ (r : Pass). into_slot next_number i (with_step (Call i n x y (Some r.free)) r)) (sym (kept_again next_number (all_kept next_number p) (all_slots next_number p)))

  pub call_steps_behind : (xs ys zs : List Effect) (x : Effect) → ((xs ++ ys) ++ zs) ++ x ∷ [] ≡ xs ++ ((ys ++ zs) ++ x ∷ [])
  call_steps_behind xs ys zs x = ap (λ (l : List Effect). l ++ x ∷ []) (append_assoc xs ys zs) ∙ append_assoc xs (ys ++ zs) (x ∷ [])

  pub does_call : DoesArgument b T g → DoesArgument a S h → Does (λ k. cut_call i n (T k) S) (λ p. call next_number i n a b (h (g p)))
  does_call db da =
      busy (λ k. more_behind ((T k).steps ++ (S (T k).next).steps) (Call i n (S (T k).next).slot (T k).slot (Some (S (T k).next).next) ∷ []) (record {}))
      (λ p. kept_first (calls next_number i n) calls_kept db da p ∙ arguments_end (calls next_number i n) db da (all_kept next_number p) (all_slots next_number p) ∙ end (all_kept next_number p) (all_slots next_number p))
    where
      end : (q : Pass) → AreSlots q.waiting → calls next_number i n (S (T q.free).next).slot (T q.free).slot record { steps = (q.steps ++ (T q.free).steps) ++ (S (T q.free).next).steps; free = (S (T q.free).next).next; waiting = q.waiting } ≡ joined (cut_call i n (T q.free) S) q
      end q s =
          let y = T q.free in
          let x = S y.next in
          ap (λ (r : Pass). into_slot next_number i (with_step (Call i n x.slot y.slot (Some r.free)) r)) (slots_stay next_number q.waiting ((q.steps ++ y.steps) ++ x.steps) x.next s)
          ∙ ap (λ (ys : List Effect). record { steps = ys; free = x.next + 1; waiting = Slot i x.next ∷ q.waiting }) (call_steps_behind q.steps y.steps x.steps (Call i n x.slot y.slot (Some x.next)))
