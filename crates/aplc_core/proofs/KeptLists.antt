-- The places of an index list, each kept in a slot: the list comes to what it came to.
use Rattle.std.proofs.Common.{◌≡◌, ◌∙◌, refl, sym, ap, ℕ, ◌+◌, ◌<◌, List, [], ◌∷◌, ◌++◌, Option, Some, None, arith}
use Rattle.aplc_arr.specs.Arrays.{Array}
use Rattle.aplc_names.specs.States.{State, Outcome, Gives, and_then}
use Rattle.aplc_names.specs.Eager.{Context}
use Rattle.aplc_core.specs.PlainSteps.{Term, Literal, Read, Slot, Mono, Dyad, Index, Terms, no_more, left_out, and_term, Effect, Keep, id_of}
use Rattle.aplc_core.specs.CoreRuns.{Slots, Told, value_kept, into_slot, term_value, term_values}
use Rattle.aplc_core.specs.Lowering.{CutList, kept_term, and_kept, kept_terms, kept_all}
use Rattle.aplc_core.proofs.Carried.{then_then, then_same, then_at, Next, carried, carried_same, carried_more, AgreeBelow, agree_below, ReadsBelow, next_into}
use Rattle.aplc_core.proofs.Cuts.{HasNoBranch, IsBelow, AreBelow, AreSlots, FitsList, FitsSlots, places_kept}
use Rattle.aplc_core.proofs.Comes.{ComesTo, kept_value}

-- the values in the slots of a list
abbrev pub slot_values : Slots → Terms → List (Option Array)
slot_values a no_more = []
slot_values a (left_out xs) = None ∷ slot_values a xs
slot_values a (and_term (Slot i k) xs) = Some (value_kept i (a k)) ∷ slot_values a xs
slot_values a (and_term x xs) = []

pub same_slots : (n : ℕ) (xs : Terms) (a b : Slots) → AreSlots n xs → AgreeBelow n a b → slot_values a xs ≡ slot_values b xs
same_slots n no_more a b h e = refl
same_slots n (left_out xs) a b h e = ap (λ vs. None ∷ vs) (same_slots n xs a b h e)
same_slots n (and_term (Slot i k) xs) a b h e =
    ap (λ g. Some (value_kept i g) ∷ slot_values a xs) (e k h.0) ∙ ap (λ vs. Some (value_kept i (b k)) ∷ vs) (same_slots n xs a b h.1 e)
same_slots n (and_term (Literal i k zs) xs) a b h e = absurd h
same_slots n (and_term (Read i k) xs) a b h e = absurd h
same_slots n (and_term (Mono i f x) xs) a b h e = absurd h
same_slots n (and_term (Dyad i f x y) xs) a b h e = absurd h
same_slots n (and_term (Index i x js) xs) a b h e = absurd h

module _ (c : Context) (l : Told) where
  pub slots_give : (n : ℕ) (xs : Terms) → AreSlots n xs → (a : Slots) (s : State) → term_values c l a xs s ≡ Gives (slot_values a xs) s
  slots_give n no_more h a s = refl
  slots_give n (left_out xs) h a s = ap (λ o. and_then o (λ vs t. Gives (None ∷ vs) t)) (slots_give n xs h a s)
  slots_give n (and_term (Slot i k) xs) h a s =
      ap (λ o. and_then o (λ vs t. Gives (Some (value_kept i (a k)) ∷ vs) t)) (slots_give n xs h.1 a s)
  slots_give n (and_term (Literal i k zs) xs) h a s = absurd h
  slots_give n (and_term (Read i k) xs) h a s = absurd h
  slots_give n (and_term (Mono i f x) xs) h a s = absurd h
  slots_give n (and_term (Dyad i f x y) xs) h a s = absurd h
  slots_give n (and_term (Index i x js) xs) h a s = absurd h

  -- a tree that reads slots below n alone
  mutual
    pub same_term : (n : ℕ) (x : Term) (a b : Slots) → IsBelow n x → AgreeBelow n a b → (s : State) → term_value c l a x s ≡ term_value c l b x s
    same_term n (Literal i k zs) a b h e s = refl
    same_term n (Read i k) a b h e s = refl
    same_term n (Slot i k) a b h e s = ap (λ g. Gives (value_kept i g) s) (e k h)
    same_term n (Mono i f y) a b h e s = then_at (term_value c l a y s) (term_value c l b y s) _ (same_term n y a b h e s)
    same_term n (Dyad i f x y) a b h e s =
        then_at (term_value c l a y s) (term_value c l b y s) _ (same_term n y a b h.1 e s) ∙ then_same (term_value c l b y s) _ _ (λ v t. then_at (term_value c l a x t) (term_value c l b x t) _ (same_term n x a b h.0 e t))
    same_term n (Index i x js) a b h e s =
        then_at (term_values c l a js s) (term_values c l b js s) _ (same_terms n js a b h.1 e s) ∙ then_same (term_values c l b js s) _ _ (λ v t. then_at (term_value c l a x t) (term_value c l b x t) _ (same_term n x a b h.0 e t))

    pub same_terms : (n : ℕ) (xs : Terms) (a b : Slots) → AreBelow n xs → AgreeBelow n a b → (s : State) → term_values c l a xs s ≡ term_values c l b xs s
    same_terms n no_more a b h e s = refl
    same_terms n (left_out xs) a b h e s = then_at (term_values c l a xs s) (term_values c l b xs s) _ (same_terms n xs a b h e s)
    same_terms n (and_term x xs) a b h e s =
        then_at (term_values c l a xs s) (term_values c l b xs s) _ (same_terms n xs a b h.1 e s) ∙ then_same (term_values c l b xs s) _ _ (λ v t. then_at (term_value c l a x t) (term_value c l b x t) _ (same_term n x a b h.0 e t))

  -- ys does what the steps xs and the list behind them do
  abbrev KeepsList : ℕ → List Effect → Terms → CutList → Type 0
  KeepsList n xs ts ys =
      (next : Next (List (Option Array))) → ReadsBelow n next → (slots : Slots) (s : State) → carried c l ys.steps slots s (λ a t. and_then (term_values c l a ys.terms t) (next a)) ≡ carried c l xs slots s (λ a t. and_then (term_values c l a ts t) (next a))

  left_place : (n : ℕ) (xs : List Effect) (ts : Terms) (ys : CutList) → KeepsList n xs ts ys → KeepsList n xs (left_out ts) (record { steps = ys.steps; terms = left_out ys.terms; next = ys.next })
  left_place n xs ts ys h next reads slots s =
      carried_same c l ys.steps slots s _ _ (λ a t. then_then (term_values c l a ys.terms t) _ (next a))
      ∙ h (λ a vs t. next a (None ∷ vs) t) (λ a b e vs t. reads a b e (None ∷ vs) t) slots s
      ∙ sym (carried_same c l xs slots s _ _ (λ a t. then_then (term_values c l a ts t) _ (next a)))

  slot_place : (n i j : ℕ) (xs : List Effect) (ts : Terms) (ys : CutList) → j < n → KeepsList n xs ts ys → KeepsList n xs (and_term (Slot i j) ts) (record { steps = ys.steps; terms = and_term (Slot i j) ys.terms; next = ys.next })
  slot_place n i j xs ts ys lt h next reads slots s =
      carried_same c l ys.steps slots s _ _ (λ a t. then_then (term_values c l a ys.terms t) _ (next a))
      ∙ h (λ a vs t. next a (Some (value_kept i (a j)) ∷ vs) t) (λ a b e vs t. ap (λ g. next a (Some (value_kept i g) ∷ vs) t) (e j lt) ∙ reads a b e (Some (value_kept i (b j)) ∷ vs) t) slots s
      ∙ sym (carried_same c l xs slots s _ _ (λ a t. then_then (term_values c l a ts t) _ (next a)))

  -- what is kept behind the slots of a list leaves them
  kept_behind : (m i : ℕ) (ts : Terms) → AreSlots m ts → (next : Next (List (Option Array))) → ReadsBelow m next → (o : Outcome Array) (a : Slots) → and_then (into_slot m i a o) (λ b t. and_then (term_values c l b (and_term (Slot i m) ts) t) (next b)) ≡ and_then o (λ v t. next a (Some v ∷ slot_values a ts) t)
  kept_behind m i ts slots next reads o a =
      then_same (into_slot m i a o) _ _ (λ b t. ap (λ x. and_then (and_then x (λ vs u. Gives (Some (value_kept i (b m)) ∷ vs) u)) (next b)) (slots_give m ts slots b t))
      ∙ next_into m m i (λ b g t. next b (Some (value_kept i g) ∷ slot_values b ts) t) (λ b d e g t. ap (λ vs. next b (Some (value_kept i g) ∷ vs) t) (same_slots m ts b d slots e) ∙ reads b d e (Some (value_kept i g) ∷ slot_values d ts) t) (omega arith) o a
      ∙ then_same o _ _ (λ v t. ap (λ w. next a (Some w ∷ slot_values a ts) t) (kept_value i v))

  kept_place : (n : ℕ) (x : Term) (xs : List Effect) (ts : Terms) (ys : CutList) → IsBelow n x → FitsSlots n ys → KeepsList n xs ts ys → KeepsList n xs (and_term x ts) (record { steps = ys.steps ++ Keep ys.next x ∷ []; terms = and_term (Slot (id_of x) ys.next) ys.terms; next = ys.next + 1 })
  kept_place n x xs ts ys below fits h next reads slots s =
      carried_more c l ys.steps (Keep ys.next x ∷ []) slots s _
      ∙ carried_same c l ys.steps slots s _ _ (λ a t. (
      kept_behind ys.next (id_of x) ys.terms fits.slots next (λ b d e. reads b d (agree_below n ys.next b d fits.next e)) (term_value c l a x t) a
      ∙ sym (ap (λ o. and_then o (λ vs u. and_then (term_value c l a x u) (λ v w. next a (Some v ∷ vs) w))) (slots_give ys.next ys.terms fits.slots a t))))
      ∙ h (λ a vs u. and_then (term_value c l a x u) (λ v w. next a (Some v ∷ vs) w)) (λ a b e vs u. (
      ap (λ o. and_then o (λ v w. next a (Some v ∷ vs) w)) (same_term n x a b below e u) ∙ then_same (term_value c l b x u) _ _ (λ v w. reads a b e (Some v ∷ vs) w))) slots s
      ∙ sym (carried_same c l xs slots s _ _ (λ a t. (
      then_then (term_values c l a ts t) _ (next a) ∙ then_same (term_values c l a ts t) _ _ (λ vs u. then_then (term_value c l a x u) _ (next a)))))

  place_same : (n : ℕ) (x : Term) (xs : List Effect) (ts : Terms) (ys : CutList) → IsBelow n x → FitsSlots n ys → KeepsList n xs ts ys → KeepsList n xs (and_term x ts) (and_kept (kept_term ys.steps x ys.next) ys.terms)
  place_same n (Slot i j) xs ts ys below fits h = slot_place n i j xs ts ys below h
  place_same n (Literal i m zs) xs ts ys below fits h = kept_place n (Literal i m zs) xs ts ys below fits h
  place_same n (Read i m) xs ts ys below fits h = kept_place n (Read i m) xs ts ys below fits h
  place_same n (Mono i f b) xs ts ys below fits h = kept_place n (Mono i f b) xs ts ys below fits h
  place_same n (Dyad i f a b) xs ts ys below fits h = kept_place n (Dyad i f a b) xs ts ys below fits h
  place_same n (Index i a js) xs ts ys below fits h = kept_place n (Index i a js) xs ts ys below fits h

  places_same : (n : ℕ) (xs : List Effect) (ts : Terms) → AreBelow n ts → HasNoBranch xs → KeepsList n xs ts (kept_terms xs ts n)
  places_same n xs no_more b p = λ next reads slots s. refl
  places_same n xs (left_out ts) b p = left_place n xs ts (kept_terms xs ts n) (places_same n xs ts b p)
  places_same n xs (and_term x ts) b p =
      place_same n x xs ts (kept_terms xs ts n) b.0 (places_kept n xs ts b.1 p) (places_same n xs ts b.1 p)

  -- what is kept of a list is in its slots
  pub list_kept : (k : ℕ) (js : CutList) (r : State → Outcome (List (Option Array))) → FitsList k js → ComesTo c l k js.steps (λ a t. term_values c l a js.terms t) r → ComesTo c l k (kept_all js).steps (λ a t. Gives (slot_values a (kept_all js).terms) t) r
  list_kept k js r fits h next reads slots s =
      let z = places_kept js.next js.steps js.terms fits.below fits.plain in
      carried_same c l (kept_all js).steps slots s _ _ (λ a t. sym (ap (λ o. and_then o (next a)) (slots_give (kept_all js).next (kept_all js).terms z.slots a t)))
      ∙ places_same js.next js.steps js.terms fits.below fits.plain next (λ a b e. reads a b (agree_below k js.next a b fits.next e)) slots s
      ∙ h next reads slots s
