-- Steps of a line, and whatever comes after them.
use Rattle.std.proofs.Common.{◌≡◌, ◌∙◌, refl, ap, ℕ, ◌≤◌, ◌<◌, List, [], ◌∷◌, ◌++◌, Option, Some, true, false, nat_eq, if◌then◌else◌, arith}
use Rattle.std.proofs.lemmas.Bool.{eq-eqb}
use Rattle.std.proofs.lemmas.Bool.Decides.{nat_tests}
use Rattle.aplc_arr.specs.Arrays.{Array}
use Rattle.aplc_names.specs.States.{State, Giving, Outcome, Gives, Faulted, Going, and_then}
use Rattle.aplc_names.specs.Eager.{Context}
use Rattle.aplc_core.specs.PlainSteps.{Effect}
use Rattle.aplc_core.specs.CoreRuns.{Slots, set_slot, Told, into_slot, step_done}

-- ---- One after another

pub then_then : {A B C : Type 0} (o : Outcome A) (f : A → State → Outcome B) (g : B → State → Outcome C) → and_then (and_then o f) g ≡ and_then o (λ v s. and_then (f v s) g)
then_then (Gives v s) f g = refl
then_then (Faulted k s) f g = refl
then_then (Going s) f g = refl

pub then_same : {A B : Type 0} (o : Outcome A) (f g : A → State → Outcome B) → ((v : A) (s : State) → f v s ≡ g v s) → and_then o f ≡ and_then o g
then_same (Gives v s) f g e = e v s
then_same (Faulted k s) f g e = refl
then_same (Going s) f g e = refl

pub then_at : {A B : Type 0} (o p : Outcome A) (f : A → State → Outcome B) → o ≡ p → and_then o f ≡ and_then p f
then_at o p f e = ap (λ x. and_then x f) e

-- what follows, by the slots as they are then
abbrev pub Next : Type 0 → Type 0
Next A = Slots → A → State → Outcome (Option ℕ)

-- the steps in order, none of them a branch, and then what follows
abbrev pub carried : Context → Told → List Effect → Slots → State → (Slots → State → Outcome (Option ℕ)) → Outcome (Option ℕ)
carried c l [] slots s next = next slots s
carried c l (x ∷ xs) slots s next = and_then (step_done c l x slots s) (λ a t. carried c l xs a t next)

pub carried_same : (c : Context) (l : Told) (xs : List Effect) (slots : Slots) (s : State) (f g : Slots → State → Outcome (Option ℕ)) → ((a : Slots) (t : State) → f a t ≡ g a t) → carried c l xs slots s f ≡ carried c l xs slots s g
carried_same c l [] slots s f g e = e slots s
carried_same c l (x ∷ xs) slots s f g e = then_same (step_done c l x slots s) _ _ (λ a t. carried_same c l xs a t f g e)

pub carried_more : (c : Context) (l : Told) (xs ys : List Effect) (slots : Slots) (s : State) (f : Slots → State → Outcome (Option ℕ)) → carried c l (xs ++ ys) slots s f ≡ carried c l xs slots s (λ a t. carried c l ys a t f)
carried_more c l [] ys slots s f = refl
carried_more c l (x ∷ xs) ys slots s f = then_same (step_done c l x slots s) _ _ (λ a t. carried_more c l xs ys a t f)

-- ---- Slots

abbrev pub giving : ℕ → Array → Giving
giving i v = record { node = i; value = v }

pub same_number : (i : ℕ) → nat_eq i i ≡ true
same_number i = eq-eqb i i refl

-- the slots below k are the same
abbrev pub AgreeBelow : ℕ → Slots → Slots → Type 0
AgreeBelow k a b = (j : ℕ) → j < k → a j ≡ b j

pub agree_below : (k n : ℕ) (a b : Slots) → k ≤ n → AgreeBelow n a b → AgreeBelow k a b
agree_below k n a b le e = λ j lt. e j (omega arith)

-- what follows reads slots below k alone
abbrev pub ReadsBelow : {A : Type 0} → ℕ → Next A → Type 0
ReadsBelow {A} k next = (a b : Slots) → AgreeBelow k a b → (v : A) (s : State) → next a v s ≡ next b v s

pub slot_set : (k i : ℕ) (v : Array) (a : Slots) → set_slot k i v a k ≡ Some (giving i v)
slot_set k i v a = ap (λ b. if b then Some (giving i v) else a k) (same_number k)

pub others_kept : (n k i : ℕ) (v : Array) (a : Slots) → n ≤ k → AgreeBelow n (set_slot k i v a) a
others_kept n k i v a le = λ j lt. (let e : nat_eq k j ≡ false = grind (arith, nat_tests) in ap (λ b. if b then Some (giving i v) else a j) e)

-- a value that goes into a slot that nothing reads
pub next_set : (n k i : ℕ) (next : Next (Option Giving)) → ReadsBelow n next → n ≤ k → (v : Array) (a : Slots) (s : State) → next (set_slot k i v a) (set_slot k i v a k) s ≡ next a (Some (giving i v)) s
next_set n k i next reads le v a s =
    ap (λ g. next (set_slot k i v a) g s) (slot_set k i v a) ∙ reads (set_slot k i v a) a (others_kept n k i v a le) (Some (giving i v)) s

pub next_into : (n k i : ℕ) (next : Next (Option Giving)) → ReadsBelow n next → n ≤ k → (o : Outcome Array) (a : Slots) → and_then (into_slot k i a o) (λ b t. next b (b k) t) ≡ and_then o (λ v t. next a (Some (giving i v)) t)
next_into n k i next reads le o a =
    then_then o _ _ ∙ then_same o _ _ (λ v t. next_set n k i next reads le v a t)
