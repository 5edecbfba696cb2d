-- Every program has a first refusal, or none stands.
use Rattle.std.proofs.Common.{◌≡◌, ◌∙◌, sym, ap, refl, subst, ℕ, zero, suc, ◌<◌, List, [], ◌∷◌, length, Option, Some, None, Bool, true, false, not, ◌&&◌, ◌||◌, arith, inl, inr, ◌⊎◌}
use Rattle.std.specs.Prelude.{◌≢◌, map, nat_eq}
use Rattle.std.specs.List.{slice_get, list_any}
use Rattle.std.proofs.lemmas.Bool.Decides.{eqb_tells}
use Rattle.std.proofs.lemmas.List.{length-map}
use Rattle.aplc_lex.specs.Firsts.{refusal, IsFirst, IsFirstOf, earlier}
use Rattle.aplc_lex.specs.declared.token.Refusal.{Refusal}
use Rattle.aplc_lex.proofs.Order.{either_first, same_first}
use Rattle.aplc_syntax.specs.declared.tree.Named.{Named}
use Rattle.aplc_syntax.specs.declared.tree.Program.{Program}
use Rattle.aplc_names.specs.declared.outline.Mention.{Mention}
use Rattle.aplc_names.specs.declared.outline.Outline.{Outline}
use Rattle.aplc_names.specs.Outlines.{outlines}
use Rattle.aplc_names.specs.Firsts.{Somewhere, refused_if, is_before}
use Rattle.aplc_names.specs.Tables.{first, stands_in}
use Rattle.aplc_names.specs.Scopes.{function_names, own_name, Names, Leads, directly, over}
use Rattle.aplc_names.specs.Clashes.{IsAgain, IsTaken, IsAssigned, IsHidden, IsShadowed, IsShadowedIn, IsMainless, StandsIn, Stands, twice, shadow, no_main, assigned, is_start, main_place, var_name}
use Rattle.aplc_names.specs.Programs.{IsClean}
use Rattle.aplc_names.proofs.Firsts.{clash}
use Rattle.aplc_names.proofs.HiddenNames.{first_below}
use Rattle.aplc_names.proofs.Lists.{some_same, none_some}
use Rattle.aplc_names.proofs.Minima.{tested_first, again_is, is_again, both, both_of, mainless, in_one}
use Rattle.aplc_names.proofs.Resolved.{first_stands}

-- it holds, or it does not
abbrev Decision : Type 0 → Type 0
Decision A = A ⊎ (A → ⊥)

-- the first refusal of a family, or none where none stands
abbrev Known : (Refusal → Type 0) → Type 0
Known P = (o : Option Refusal) × IsFirstOf P o

-- ---- Items of lists

-- an item of the list, with its place there, is such a one
abbrev SomeItem : {X : Type 0} → (ℕ → X → Type 0) → List X → Type 0
SomeItem {X} Q xs = (k : ℕ) × (x : X) × (slice_get xs k ≡ Some x) × Q k x

head_or_later : {X : Type 0} (Q : ℕ → X → Type 0) (x : X) (xs : List X) (k : ℕ) (y : X) → slice_get (x ∷ xs) k ≡ Some y → Q k y → Q 0 x ⊎ SomeItem (λ i. Q (suc i)) xs
head_or_later Q x xs zero y e h = inl (subst (λ z. Q 0 z) (sym (some_same x y e)) h)
head_or_later Q x xs (suc k) y e h = inr (k, y, e, h)

item_by : {X : Type 0} (Q : ℕ → X → Type 0) (x : X) (xs : List X) → Decision (Q 0 x) → Decision (SomeItem (λ i. Q (suc i)) xs) → Decision (SomeItem Q (x ∷ xs))
item_by Q x xs (inl h) later = inl (0, x, refl, h)
item_by Q x xs (inr n) (inl s) = inl (suc s.0, s.1, s.2, s.3)
item_by Q x xs (inr n) (inr m) = inr (λ s. elim (head_or_later Q x xs s.0 s.1 s.2 s.3) as (λ _. ⊥) [ inl h ↦ n h | inr l ↦ m l ])

item_decision : {X : Type 0} (Q : ℕ → X → Type 0) (xs : List X) → ((k : ℕ) (x : X) → Decision (Q k x)) → Decision (SomeItem Q xs)
item_decision Q [] f = inr (λ s. none_some s.1 s.2)
item_decision Q (x ∷ xs) f = item_by Q x xs (f 0 x) (item_decision (λ i. Q (suc i)) xs (λ k y. f (suc k) y))

from_head : {X : Type 0} (P : ℕ → X → Refusal → Type 0) (x : X) (xs : List X) (r : Refusal) → P 0 x r ⊎ Somewhere (λ i. P (suc i)) xs r → Somewhere P (x ∷ xs) r
from_head P x xs r (inl h) = record { index = 0; item = x; found = refl; gives = h }
from_head P x xs r (inr s) = record { index = suc s.index; item = s.item; found = s.found; gives = s.gives }

to_head : {X : Type 0} (P : ℕ → X → Refusal → Type 0) (x : X) (xs : List X) (r : Refusal) → Somewhere P (x ∷ xs) r → P 0 x r ⊎ Somewhere (λ i. P (suc i)) xs r
to_head P x xs r s = elim (head_or_later (λ k y. P k y r) x xs s.index s.item s.found s.gives) as (λ _. P 0 x r ⊎ Somewhere (λ i. P (suc i)) xs r) [
  | inl h ↦ inl h
  | inr l ↦ inr (record { index = l.0; item = l.1; found = l.2; gives = l.3 })
]

known_somewhere : {X : Type 0} (P : ℕ → X → Refusal → Type 0) (xs : List X) → ((k : ℕ) (x : X) → Known (P k x)) → Known (Somewhere P xs)
known_somewhere P [] f = (None, λ r s. none_some s.item s.found)
known_somewhere P (x ∷ xs) f =
    let one = f 0 x in
    let rest = known_somewhere (λ i. P (suc i)) xs (λ k y. f (suc k) y) in (
      earlier one.0 rest.0,
      same_first (λ r. P 0 x r ⊎ Somewhere (λ i. P (suc i)) xs r) (Somewhere P (x ∷ xs)) (earlier one.0 rest.0) (from_head P x xs) (to_head P x xs)
          (either_first (P 0 x) (Somewhere (λ i. P (suc i)) xs) one.0 rest.0 one.1 rest.1),
    )

-- a refusal that hangs on a test
known_tested : (P : Refusal → Type 0) (b : Bool) (n p : ℕ) → (b ≡ true → P (refusal n p)) → ((r : Refusal) → P r → (b ≡ true) × (r ≡ refusal n p)) → Known P
known_tested P b n p to fro = (refused_if b n p, tested_first P b n p to fro)

-- ---- Calls

is_true : (b : Bool) → Decision (b ≡ true)
is_true true = inl refl
is_true false = inr (λ e. clash false e refl)

same_number : (i j : ℕ) → ((nat_eq i j ≡ true) × (i ≡ j)) ⊎ ((nat_eq i j ≡ false) × (i ≢ j)) → Decision ((let o : Option ℕ = Some i in o) ≡ Some j)
same_number i j (inl h) = inl (ap (λ (k : ℕ). Some k) h.1)
same_number i j (inr h) = inr (λ e. h.1 (some_same i j e))

same_place : (o : Option ℕ) (j : ℕ) → Decision (o ≡ Some j)
same_place None j = inr (λ e. none_some j e)
same_place (Some i) j = same_number i j (eqb_tells i j)

all_of_two : {A B : Type 0} → Decision A → Decision B → Decision (A × B)
all_of_two (inl a) (inl b) = inl (a, b)
all_of_two (inl a) (inr n) = inr (λ z. n z.1)
all_of_two (inr n) b = inr (λ z. n z.0)

one_of_two : {A B : Type 0} → Decision A → Decision B → Decision (A ⊎ B)
one_of_two (inl a) b = inl (inl a)
one_of_two (inr n) (inl b) = inl (inr b)
one_of_two (inr n) (inr m) = inr (λ z. elim z as (λ _. ⊥) [ inl a ↦ n a | inr b ↦ m b ])

module _ (hs : List Named) (fs : List Outline) where
  said_by : (i j : ℕ) (o : Option Outline) → slice_get fs i ≡ o → Decision (Names hs fs i j)
  said_by i j None e = inr (λ n. none_some n.caller (sym e ∙ n.found))
  said_by i j (Some f) e = elim (item_decision (λ k (m : Mention). first m.name.0 hs ≡ Some j) f.mentions (λ k m. same_place (first m.name.0 hs) j)) as (λ _. Decision (Names hs fs i j)) [
    | inl s ↦ inl (record { caller = f; found = e; index = s.0; said = s.1; stands = s.2; heads = s.3 })
    | inr none ↦ inr (λ n.
        let same : n.caller ≡ f = some_same n.caller f (sym n.found ∙ e) in
        none (n.index, n.said, subst (λ (g : Outline). slice_get g.mentions n.index ≡ Some n.said) same n.stands, n.heads))
  ]

  -- calls lead from i to j, over functions of which each has a number below n
  abbrev LeadsBelow : ℕ → ℕ → ℕ → Type 0
  LeadsBelow zero i j = Names hs fs i j
  LeadsBelow (suc n) i j = LeadsBelow n i j ⊎ (LeadsBelow n i n × LeadsBelow n n j)

  below_decision : (n i j : ℕ) → Decision (LeadsBelow n i j)
  below_decision zero i j = said_by i j (slice_get fs i) refl
  below_decision (suc n) i j = one_of_two (below_decision n i j) (all_of_two (below_decision n i n) (below_decision n n j))

  leads_then : (i k j : ℕ) → Leads hs fs i k → Leads hs fs k j → Leads hs fs i j
  leads_then i k j l (directly n) = over l n
  leads_then i k j l (over {k = q} m n) = over (leads_then i k q l m) n

  below_leads : (n i j : ℕ) → LeadsBelow n i j → Leads hs fs i j
  below_leads zero i j h = directly h
  below_leads (suc n) i j (inl h) = below_leads n i j h
  below_leads (suc n) i j (inr h) = leads_then i n j (below_leads n i n h.0) (below_leads n n j h.1)

  names_below : (n i j : ℕ) → Names hs fs i j → LeadsBelow n i j
  names_below zero i j h = h
  names_below (suc n) i j h = inl (names_below n i j h)

  -- nothing is won by coming to n over n, or by leaving n over n
  comes_to : (n i : ℕ) → LeadsBelow (suc n) i n → LeadsBelow n i n
  comes_to n i (inl h) = h
  comes_to n i (inr h) = h.0

  leaves : (n j : ℕ) → LeadsBelow (suc n) n j → LeadsBelow n n j
  leaves n j (inl h) = h
  leaves n j (inr h) = h.1

  abbrev Joins : ℕ → Type 0
  Joins n = (i k j : ℕ) → k < n → LeadsBelow n i k → LeadsBelow n k j → LeadsBelow n i j

  joined_below : (n i k j : ℕ) → k < n → Joins n → LeadsBelow (suc n) i k → LeadsBelow (suc n) k j → LeadsBelow (suc n) i j
  joined_below n i k j h join (inl a) (inl b) = inl (join i k j h a b)
  joined_below n i k j h join (inl a) (inr b) = inr (join i k n h a b.0, b.1)
  joined_below n i k j h join (inr a) (inl b) = inr (a.0, join n k j h a.1 b)
  joined_below n i k j h join (inr a) (inr b) = inr (a.0, b.1)

  below_or_at : (k n : ℕ) → k < suc n → (k < n) ⊎ (k ≡ n)
  below_or_at k n h = grind arith

  joined : (n : ℕ) → Joins n
  joined zero i k j h a b = absurd (omega arith)
  joined (suc n) i k j h a b = elim (below_or_at k n h) as (λ _. LeadsBelow (suc n) i j) [
    | inl u ↦ joined_below n i k j u (joined n) a b
    | inr u ↦ inr (comes_to n i (subst (λ q. LeadsBelow (suc n) i q) u a), leaves n j (subst (λ q. LeadsBelow (suc n) q j) u b))
  ]

  module _ (heads : hs ≡ function_names fs) where
    named_within : (i j : ℕ) → Names hs fs i j → j < length fs
    named_within i j n =
        let h : j < length hs = first_below n.said.name.0 hs j n.heads in
        let k : length hs ≡ length fs = ap length heads ∙ length-map fs own_name in
        omega arith

    led_within : (i j : ℕ) → Leads hs fs i j → j < length fs
    led_within i j (directly n) = named_within i j n
    led_within i j (over {k = k} l n) = named_within k j n

    leads_below : (i j : ℕ) → Leads hs fs i j → LeadsBelow (length fs) i j
    leads_below i j (directly n) = names_below (length fs) i j n
    leads_below i j (over {k = k} l n) = joined (length fs) i k j (led_within i k l) (leads_below i k l) (names_below (length fs) k j n)

    leads_decision : (i j : ℕ) → Decision (Leads hs fs i j)
    leads_decision i j = elim (below_decision (length fs) i j) as (λ _. Decision (Leads hs fs i j)) [
      | inl h ↦ inl (below_leads (length fs) i j h)
      | inr none ↦ inr (λ l. none (leads_below i j l))
    ]

    -- ---- Hidden names

    hidden_decision : (i n : ℕ) → Decision (IsHidden hs fs i n)
    hidden_decision i n = elim (item_decision (λ k (f : Outline). (stands_in n f.locals ≡ true) × Leads hs fs k i) fs (λ k f. all_of_two (is_true (stands_in n f.locals)) (leads_decision k i))) as (λ _. Decision (IsHidden hs fs i n)) [
      | inl s ↦ inl (record { index = s.0; owner = s.1; found = s.2; local = s.3.0; leads = s.3.1 })
      | inr none ↦ inr (λ h. none (h.index, h.owner, h.found, (h.local, h.leads)))
    ]

    shadowed_by : (i : ℕ) (f : Outline) (k : ℕ) (m : Mention) (a b : Bool) → stands_in m.name.0 hs ≡ a → stands_in m.name.0 f.locals ≡ b → Decision (IsHidden hs fs i m.name.0) → Known (IsShadowed hs fs i f k m)
    shadowed_by i f k m true b d e h = (None, λ r s. clash (stands_in m.name.0 hs) d s.no_function)
    shadowed_by i f k m false true d e h = (None, λ r s. clash (stands_in m.name.0 f.locals) e s.not_local)
    shadowed_by i f k m false false d e (inr none) = (None, λ r s. none s.hidden)
    shadowed_by i f k m false false d e (inl h) = known_tested (IsShadowed hs fs i f k m) true shadow m.place (λ u. record { no_function = d; not_local = e; hidden = h; is = refl }) (λ r s. (refl, s.is))

    known_shadows : Known (Somewhere (IsShadowedIn hs fs) fs)
    known_shadows = known_somewhere (IsShadowedIn hs fs) fs (λ i f. known_somewhere (IsShadowed hs fs i f) f.mentions (λ k m. shadowed_by i f k m (stands_in m.name.0 hs) (stands_in m.name.0 f.locals) refl refl (hidden_decision i m.name.0)))

-- ---- The other refusals

known_again : (xs : List Named) → Known (Somewhere (IsAgain xs) xs)
known_again xs = known_somewhere (IsAgain xs) xs (λ k x. known_tested (IsAgain xs k x) (is_before (first x.name.0 xs) k) twice x.place (again_is xs k x) (is_again xs k x))

known_taken : (hs xs : List Named) → Known (Somewhere (IsTaken hs) xs)
known_taken hs xs = known_somewhere (IsTaken hs) xs (λ k x. known_tested (IsTaken hs k x) (stands_in x.name.0 hs) twice x.place (λ u. record { heads = u; is = refl }) (λ r a. (a.heads, a.is)))

known_assigned : (hs : List Named) (f : Outline) → Known (Somewhere (IsAssigned hs f) f.mentions)
known_assigned hs f = known_somewhere (IsAssigned hs f) f.mentions (λ k m.
    known_tested (IsAssigned hs f k m) (m.assigned && (stands_in m.name.0 f.labels || stands_in m.name.0 hs)) assigned m.place
    (λ u. let w = both m.assigned (stands_in m.name.0 f.labels || stands_in m.name.0 hs) u in record { changed = w.0; fixed = w.1; is = refl })
    (λ r a. (both_of m.assigned (stands_in m.name.0 f.labels || stands_in m.name.0 hs) a.changed a.fixed, a.is)))

known_in : (hs : List Named) (k : ℕ) (f : Outline) → Known (StandsIn hs k f)
known_in hs k f =
    let a = known_again f.locals in
    let b = known_taken hs f.locals in
    let c = known_assigned hs f in
    (earlier (earlier a.0 b.0) c.0, in_one hs k f a.0 b.0 c.0 a.1 b.1 c.1)

-- ---- Programs

known_refusal : (p : Program) → Known (Stands p)
known_refusal p =
    let vars = map var_name p.vars in
    let fs = outlines p in
    let hs = function_names fs in
    let a = known_again hs in
    let b = known_again vars in
    let c = known_taken hs vars in
    let e = known_somewhere (StandsIn hs) fs (λ k f. known_in hs k f) in
    let f = known_shadows hs fs refl in
    let d : IsFirstOf (IsMainless p.names fs) (refused_if (not (list_any (is_start p.names) fs)) no_main (main_place p.names fs)) = mainless p.names fs (list_any (is_start p.names) fs) refl in (
      earlier (earlier (earlier (earlier (earlier a.0 b.0) c.0) (refused_if (not (list_any (is_start p.names) fs)) no_main (main_place p.names fs))) e.0) f.0,
      first_stands p vars hs fs a.0 b.0 c.0 (refused_if (not (list_any (is_start p.names) fs)) no_main (main_place p.names fs)) e.0 f.0 _ refl refl refl refl a.1 b.1 c.1 d e.1 f.1,
    )

-- nothing refuses a program, or it has a first refusal
pub clean_or_first : (p : Program) → IsClean p ⊎ ((r : Refusal) × IsFirst (Stands p) r)
clean_or_first p = settle (known_refusal p).0 (known_refusal p).1
  where
    settle : (o : Option Refusal) → IsFirstOf (Stands p) o → IsClean p ⊎ ((r : Refusal) × IsFirst (Stands p) r)
    settle None h = inl h
    settle (Some r) h = inr (r, h)
