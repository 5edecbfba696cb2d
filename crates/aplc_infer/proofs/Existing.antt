-- A program is well typed, or it has a first refusal.
use Rattle.std.proofs.Common.{◌≡◌, refl, subst, sym, ℕ, zero, suc, ◌⊎◌, inl, inr, List, [], ◌∷◌, Option, Some, None, arith}
use Rattle.std.specs.Prelude.{slice_get}
use Rattle.aplc_lex.specs.declared.token.Refusal.{Refusal}
use Rattle.aplc_lex.specs.Firsts.{IsBefore, IsFirstOf, earlier}
use Rattle.aplc_lex.proofs.Order.{either_first, same_first}
use Rattle.aplc_syntax.specs.declared.tree.Program.{Program}
use Rattle.aplc_names.specs.PlainPrograms.{Action, Routine, PlainProgram, plain}
use Rattle.aplc_names.specs.Runs.{line_at}
use Rattle.aplc_infer.specs.Seeing.{Family, Declarations, declarations}
use Rattle.aplc_infer.specs.Families.{IsRefused, IsWellTyped, StandsFirst, IsLeast, seen_line}
use Rattle.aplc_infer.proofs.Climbing.{least_family}

-- ---- The first of what stands somewhere in a list

-- the first refusal that stands, or none where none stands
abbrev Known : (Refusal → Type 0) → Type 0
Known P = (o : Option Refusal) × IsFirstOf P o

-- it stands for an item of the list and its place there
abbrev InSome : {A : Type 0} → (ℕ → A → Refusal → Type 0) → List A → Refusal → Type 0
InSome {A} P xs r = (i : ℕ) × (x : A) × (slice_get xs i ≡ Some x) × P i x r

from_first : {A : Type 0} (P : ℕ → A → Refusal → Type 0) (x : A) (xs : List A) (r : Refusal) → P 0 x r ⊎ InSome (λ i. P (suc i)) xs r → InSome P (x ∷ xs) r
from_first P x xs r (inl h) = (0, x, refl, h)
from_first P x xs r (inr s) = (suc s.0, s.1, s.2, s.3)

to_first : {A : Type 0} (P : ℕ → A → Refusal → Type 0) (x : A) (xs : List A) (r : Refusal) (i : ℕ) (y : A) → slice_get (x ∷ xs) i ≡ Some y → P i y r → P 0 x r ⊎ InSome (λ k. P (suc k)) xs r
to_first P x xs r zero y e h = let same : x ≡ y = cc in inl (subst (λ z. P 0 z r) (sym same) h)
to_first P x xs r (suc i) y e h = inr (i, y, e, h)

nowhere : {A : Type 0} (i : ℕ) (x : A) → (let o : Option A = None in o) ≡ Some x → ⊥
nowhere i x e = cc

known_in : {A : Type 0} (P : ℕ → A → Refusal → Type 0) (xs : List A) → ((i : ℕ) (x : A) → Known (P i x)) → Known (InSome P xs)
known_in P [] each = (None, λ r s. nowhere s.0 s.1 s.2)
known_in P (x ∷ xs) each =
    let one = each 0 x in
    let rest = known_in (λ i. P (suc i)) xs (λ i y. each (suc i) y) in (
      earlier one.0 rest.0,
      same_first (λ r. P 0 x r ⊎ InSome (λ i. P (suc i)) xs r) (InSome P (x ∷ xs)) (earlier one.0 rest.0) (from_first P x xs) (λ r s. to_first P x xs r s.0 s.1 s.2 s.3)
          (either_first (P 0 x) (InSome (λ i. P (suc i)) xs) one.0 rest.0 one.1 rest.1),
    )

known_itself : (i : ℕ) (q : Refusal) → Known (λ r. r ≡ q)
known_itself i q = (Some q, record { stands = refl; first = λ s e. subst (λ z. IsBefore q z) (sym e) (inr (refl, omega arith)) })

-- ---- Under a family

module _ (d : Declarations) (p : PlainProgram) (g : Family) where
  abbrev OfLine : ℕ → Routine → ℕ → Action → Refusal → Type 0
  OfLine j f i x r = InSome (λ k q s. s ≡ q) (seen_line d p g j f (suc i) x).refused r

  abbrev OfRoutine : ℕ → Routine → Refusal → Type 0
  OfRoutine j f r = InSome (OfLine j f) f.lines r

  known_all : Known (InSome OfRoutine p.routines)
  known_all = known_in OfRoutine p.routines (λ j f. known_in (OfLine j f) f.lines (λ i x. known_in (λ k q s. s ≡ q) (seen_line d p g j f (suc i) x).refused known_itself))

  to_refused : (r : Refusal) → InSome OfRoutine p.routines r → IsRefused d p g r
  to_refused r s =
      let line = s.3 in
      let said = line.3 in
      record {
        function = s.0;
        line = suc line.0;
        routine = s.1;
        action = line.1;
        there = record { routine = s.2; here = line.2 };
        index = said.0;
        listed = subst (λ q. slice_get (seen_line d p g s.0 s.1 (suc line.0) line.1).refused said.0 ≡ Some q) (sym said.3) said.2;
      }

  line_of : (f : Routine) (j l : ℕ) (x : Action) (i : ℕ) (r : Refusal) → line_at f.lines l ≡ Some x → slice_get (seen_line d p g j f l x).refused i ≡ Some r → OfRoutine j f r
  line_of f j zero x i r e k = cc
  line_of f j (suc l) x i r e k = (l, x, e, (i, r, k, refl))

  from_refused : (r : Refusal) → IsRefused d p g r → InSome OfRoutine p.routines r
  from_refused r s = (s.function, s.routine, s.there.routine, line_of s.routine s.function s.line s.action s.index r s.there.here s.listed)

  known_refusal : Known (IsRefused d p g)
  known_refusal = (known_all.0, same_first (InSome OfRoutine p.routines) (IsRefused d p g) known_all.0 to_refused from_refused known_all.1)

-- ---- Programs

decided : (p : Program) (g : Family) → IsLeast (declarations p.vars) (plain p) g → (o : Option Refusal) → IsFirstOf (IsRefused (declarations p.vars) (plain p) g) o → IsWellTyped p ⊎ ((r : Refusal) × StandsFirst p r)
decided p g least None none = inl (g, record { rules = least.rules; fine = none })
decided p g least (Some r) first = inr (r, record { family = g; least = least; first = first })

pub always_one : (p : Program) → IsWellTyped p ⊎ ((r : Refusal) × StandsFirst p r)
always_one p =
    let least = least_family (declarations p.vars) (plain p) in
    let known = known_refusal (declarations p.vars) (plain p) least.0 in
    decided p least.0 least.1 known.0 known.1
