-- What steps and the tree behind them come to, whatever follows: rules that put such facts together.
use Rattle.std.proofs.Common.{◌≡◌, ◌∙◌, sym, ap, ℕ, ◌≤◌, List, [], ◌∷◌, ◌++◌, Option, Some, if◌then◌else◌}
use Rattle.aplc_arr.specs.Arrays.{Array}
use Rattle.aplc_names.specs.States.{State, Giving, Outcome, Gives, and_then}
use Rattle.aplc_names.specs.Eager.{Context}
use Rattle.aplc_core.specs.PlainSteps.{Term, Literal, Read, Slot, Mono, Dyad, Index, Effect, Keep, id_of}
use Rattle.aplc_core.specs.CoreRuns.{Slots, Told, nothing_kept, value_kept, term_value}
use Rattle.aplc_core.specs.Lowering.{kept_term}
use Rattle.aplc_core.proofs.Carried.{then_then, then_same, Next, carried, carried_same, carried_more, giving, same_number, AgreeBelow, agree_below, ReadsBelow, next_into}

pub kept_value : (i : ℕ) (v : Array) → value_kept i (Some (giving i v)) ≡ v
kept_value i v = ap (λ b. if b then v else nothing_kept) (same_number i)

module _ (c : Context) (l : Told) where
  -- After these steps e comes to what r comes to before them, if what follows reads slots below k alone.
  abbrev pub ComesTo : {A : Type 0} → ℕ → List Effect → (Slots → State → Outcome A) → (State → Outcome A) → Type 0
  ComesTo {A} k xs e r =
      (next : Next A) → ReadsBelow k next → (slots : Slots) (s : State) → carried c l xs slots s (λ a t. and_then (e a t) (next a)) ≡ and_then (r s) (next slots)

  -- a tree with the value that r gives
  abbrev pub Comes : ℕ → List Effect → Term → (State → Outcome Array) → Type 0
  Comes k xs x r = ComesTo k xs (λ a t. term_value c l a x t) r

  -- slot j has it as the value of node i
  abbrev pub ComesKept : ℕ → List Effect → ℕ → ℕ → (State → Outcome Array) → Type 0
  ComesKept k xs i j r =
      (next : Next (Option Giving)) → ReadsBelow k next → (slots : Slots) (s : State) → carried c l xs slots s (λ a t. next a (a j) t) ≡ and_then (r s) (λ v t. next slots (Some (giving i v)) t)

  -- if the tree is a slot then that
  abbrev pub Does : ℕ → List Effect → Term → (State → Outcome Array) → Type 0
  Does k xs (Slot i j) r = ComesKept k xs i j r
  Does k xs (Literal i m zs) r = Comes k xs (Literal i m zs) r
  Does k xs (Read i n) r = Comes k xs (Read i n) r
  Does k xs (Mono i f b) r = Comes k xs (Mono i f b) r
  Does k xs (Dyad i f a b) r = Comes k xs (Dyad i f a b) r
  Does k xs (Index i a js) r = Comes k xs (Index i a js) r

  -- ---- Slots

  pub kept_comes : (k : ℕ) (xs : List Effect) (i j : ℕ) (r : State → Outcome Array) → ComesKept k xs i j r → ComesTo k xs (λ a t. Gives (value_kept i (a j)) t) r
  kept_comes k xs i j r h next reads slots s =
      h (λ a g t. next a (value_kept i g) t) (λ a b e g t. reads a b e (value_kept i g) t) slots s ∙ then_same (r s) _ _ (λ v t. ap (λ w. next slots w t) (kept_value i v))

  pub does_come : (k : ℕ) (xs : List Effect) (x : Term) (r : State → Outcome Array) → Does k xs x r → Comes k xs x r
  does_come k xs (Slot i j) r h = kept_comes k xs i j r h
  does_come k xs (Literal i m zs) r h = h
  does_come k xs (Read i n) r h = h
  does_come k xs (Mono i f b) r h = h
  does_come k xs (Dyad i f a b) r h = h
  does_come k xs (Index i a js) r h = h

  one_kept : (k n : ℕ) (xs : List Effect) (x : Term) (r : State → Outcome Array) → k ≤ n → Comes k xs x r → ComesKept k (xs ++ Keep n x ∷ []) (id_of x) n r
  one_kept k n xs x r le h next reads slots s =
      carried_more c l xs (Keep n x ∷ []) slots s _
      ∙ carried_same c l xs slots s _ _ (λ a t. next_into k n (id_of x) next reads le (term_value c l a x t) a)
      ∙ h (λ a v t. next a (Some (giving (id_of x) v)) t) (λ a b e v t. reads a b e (Some (giving (id_of x) v)) t) slots s

  -- what is kept is in its slot
  pub is_kept : (k n : ℕ) (xs : List Effect) (x : Term) (r : State → Outcome Array) → k ≤ n → Does k xs x r → ComesKept k (kept_term xs x n).steps (kept_term xs x n).node (kept_term xs x n).slot r
  is_kept k n xs (Slot i j) r le h = h
  is_kept k n xs (Literal i m zs) r le h = one_kept k n xs (Literal i m zs) r le h
  is_kept k n xs (Read i m) r le h = one_kept k n xs (Read i m) r le h
  is_kept k n xs (Mono i f b) r le h = one_kept k n xs (Mono i f b) r le h
  is_kept k n xs (Dyad i f a b) r le h = one_kept k n xs (Dyad i f a b) r le h
  is_kept k n xs (Index i a js) r le h = one_kept k n xs (Index i a js) r le h

  -- ---- Rules

  pub comes_as : {A : Type 0} (k : ℕ) (xs : List Effect) (e f : Slots → State → Outcome A) (r : State → Outcome A) → ((a : Slots) (t : State) → f a t ≡ e a t) → ComesTo k xs e r → ComesTo k xs f r
  comes_as k xs e f r q h next reads slots s =
      carried_same c l xs slots s _ _ (λ a t. ap (λ o. and_then o (next a)) (q a t)) ∙ h next reads slots s

  pub comes_into : {A : Type 0} (k : ℕ) (xs : List Effect) (e : Slots → State → Outcome A) (r p : State → Outcome A) → ((s : State) → r s ≡ p s) → ComesTo k xs e r → ComesTo k xs e p
  comes_into k xs e r p q h next reads slots s = h next reads slots s ∙ ap (λ o. and_then o (next slots)) (q s)

  -- one evaluation more, that reads no slot
  pub comes_then : {A B : Type 0} (k : ℕ) (xs : List Effect) (e : Slots → State → Outcome A) (r : State → Outcome A) (g : A → State → Outcome B) → ComesTo k xs e r → ComesTo k xs (λ a t. and_then (e a t) g) (λ s. and_then (r s) g)
  comes_then k xs e r g h next reads slots s =
      carried_same c l xs slots s _ _ (λ a t. then_then (e a t) g (next a))
      ∙ h (λ a v t. and_then (g v t) (next a)) (λ a b q v t. then_same (g v t) _ _ (λ w u. reads a b q w u)) slots s
      ∙ sym (then_then (r s) g (next slots))

  -- two evaluations with no step between them
  pub two_come : {A B C : Type 0} (k n : ℕ) (xs : List Effect) (e : Slots → State → Outcome A) (f : Slots → State → Outcome B) (r : State → Outcome A) (p : State → Outcome B) (g : A → B → State → Outcome C) → k ≤ n → ComesTo k xs e r → ComesTo n [] f p → ComesTo k (xs ++ []) (λ a t. and_then (e a t) (λ y u. and_then (f a u) (λ x w. g y x w))) (λ s. and_then (r s) (λ y u. and_then (p u) (λ x w. g y x w)))
  two_come k n xs e f r p g le h q next reads slots s =
      carried_more c l xs [] slots s _
      ∙ carried_same c l xs slots s _ _ (λ a t. (
      then_then (e a t) _ (next a)
      ∙ then_same (e a t) _ _ (λ y u. (
      then_then (f a u) _ (next a)
      ∙ q (λ b x w. and_then (g y x w) (next b)) (λ b d z x w. then_same (g y x w) _ _ (λ v v2. reads b d (agree_below k n b d le z) v v2)) a u))))
      ∙ h (λ a y u. and_then (p u) (λ x w. and_then (g y x w) (next a))) (λ a b z y u. then_same (p u) _ _ (λ x w. then_same (g y x w) _ _ (λ v v2. reads a b z v v2))) slots s
      ∙ sym (then_then (r s) _ (next slots) ∙ then_same (r s) _ _ (λ y u. then_then (p u) _ (next slots)))

  -- Two evaluations with steps between them: what the first one gives is read of slots below n.
  pub two_kept : {A B C : Type 0} (k n : ℕ) (xs ys : List Effect) (e : Slots → A) (f : Slots → State → Outcome B) (r : State → Outcome A) (p : State → Outcome B) (g : A → B → State → Outcome C) → k ≤ n → ((a b : Slots) → AgreeBelow n a b → e a ≡ e b) → ComesTo k xs (λ a t. Gives (e a) t) r → ComesTo n ys f p → ComesTo k (xs ++ ys) (λ a t. and_then (f a t) (λ x w. g (e a) x w)) (λ s. and_then (r s) (λ y u. and_then (p u) (λ x w. g y x w)))
  two_kept k n xs ys e f r p g le same h q next reads slots s =
      carried_more c l xs ys slots s _
      ∙ carried_same c l xs slots s _ _ (λ a t. (
      carried_same c l ys a t _ _ (λ b u. then_then (f b u) _ (next b))
      ∙ q (λ b x w. and_then (g (e b) x w) (next b)) (λ b d z x w. ap (λ y. and_then (g y x w) (next b)) (same b d z) ∙ then_same (g (e d) x w) _ _ (λ v v2. reads b d (agree_below k n b d le z) v v2)) a t))
      ∙ h (λ a y u. and_then (p u) (λ x w. and_then (g y x w) (next a))) (λ a b z y u. then_same (p u) _ _ (λ x w. then_same (g y x w) _ _ (λ v v2. reads a b z v v2))) slots s
      ∙ sym (then_then (r s) _ (next slots) ∙ then_same (r s) _ _ (λ y u. then_then (p u) _ (next slots)))
