-- The lines to which branches may lead have arms, and lead to lines that have steps.
use Rattle.std.proofs.Common.{◌≡◌, ℕ, zero, suc, ◌+◌, ◌<◌, ◌≤◌, List, [], ◌∷◌, ⊎_elim, refl, sym, ap, ◌∙◌, subst, arith, ℤ, true, length}
use Rattle.std.specs.Prelude.{Option, Some, None, drop, nat_eq, slice_get}
use Rattle.std.proofs.lemmas.Bool.{cases_lt}
use Rattle.aplc_names.specs.Eager.{line_named}
use Rattle.aplc_core.specs.PlainSteps.{Effect, Term, Keep, Store, StoreAt, Call, ReadText, ReadNums, Show, Branch}
use Rattle.aplc_core.specs.CoreRuns.{CoreRoutine, steps_at}
use Rattle.aplc_gen.specs.Emitted.{Lead, out, to, computed, landing, lead_at, lead_of_line, lead_by, known_number, lead, may_lead, step_leads, steps_lead, lines_lead, first_line, is_entry, steps_loop, lines_loop}
use Rattle.aplc_gen.proofs.Landing.{Lines, From, from_all, from_next, from_here, or_left, or_right, or_cases, eq_of}

-- a line that has steps
pub record Full (f : CoreRoutine) (k : ℕ) : Type 0 where
  pub first : Effect
  pub more : List Effect
  pub is : steps_at f.steps k ≡ Some (first ∷ more)

pub landing_full : (f : CoreRoutine) (l : ℕ) (xs : Lines) (k : ℕ) → From f l xs → landing l xs ≡ suc k → Full f (suc k)
landing_full f l [] k from e = absurd (omega (arith, e))
landing_full f l ([] ∷ xs) k from e = landing_full f (l + 1) xs k (from_next f l [] xs from) e
landing_full f l ((x ∷ more) ∷ xs) k from e = record { first = x; more = more; is = subst (λ i. steps_at f.steps i ≡ Some (x ∷ more)) e (from_here f l (x ∷ more) xs from) }

drop_slice : {A : Type 0} (xs : List A) (l j : ℕ) → slice_get (drop l xs) j ≡ slice_get xs (l + j)
drop_slice xs zero j = let e : 0 + j ≡ j = omega arith in sym (ap (λ k. slice_get xs k) e)
drop_slice [] (suc l) j = let e : suc l + j ≡ suc (l + j) = omega arith in sym (ap (λ k. slice_get [] k) e)
drop_slice (x ∷ xs) (suc l) j = drop_slice xs l j ∙ (let e : suc l + j ≡ suc (l + j) = omega arith in sym (ap (λ k. slice_get (x ∷ xs) k) e))

drop_length : {A : Type 0} (xs : List A) (l : ℕ) → l ≤ length xs → l + length (drop l xs) ≡ length xs
drop_length xs zero le = omega arith
drop_length [] (suc l) le = absurd (omega (arith, le))
drop_length (x ∷ xs) (suc l) le = let e = drop_length xs l (omega (arith, le)) in omega (arith, e)

pub drop_past : {A : Type 0} (xs : List A) (l : ℕ) → length xs ≤ l → drop l xs ≡ []
drop_past [] zero le = refl
drop_past [] (suc l) le = refl
drop_past (x ∷ xs) zero le = absurd (omega (arith, le))
drop_past (x ∷ xs) (suc l) le = drop_past xs l (omega (arith, le))

pub from_drop : (f : CoreRoutine) (l : ℕ) → l ≤ length f.steps → From f (suc l) (drop l f.steps)
from_drop f l le =
    let e = drop_length f.steps l le in
    record { count = omega (arith, e); same = λ j. drop_slice f.steps l j ∙ (let a : suc l + j ≡ suc (l + j) = omega arith in sym (ap (λ k. steps_at f.steps k) a)) }

lead_at_full : (k l : ℕ) → lead_at k ≡ to l → k ≡ l
lead_at_full zero l e = absurd (cc)
lead_at_full (suc k) l e = cc

lead_at_positive : (k l : ℕ) → lead_at k ≡ to l → (j : ℕ) × (k ≡ suc j)
lead_at_positive zero l e = absurd (cc)
lead_at_positive (suc k) l e = (k, refl)

line_full : (f : CoreRoutine) (i k : ℕ) → lead_of_line f i ≡ to k → Full f k
line_full f zero k e = absurd (cc)
line_full f (suc i) k e = ⊎_elim past inside (cases_lt (length f.steps) i)
  where
    found : ℕ
    found = landing (suc i) (drop i f.steps)

    past : length f.steps < i → Full f k
    past lt =
        let none : landing (suc i) (drop i f.steps) ≡ 0 = ap (landing (suc i)) (drop_past f.steps i (omega (arith, lt))) in
        let q = lead_at_positive found k e in
        let more = q.1 in
        absurd (omega (arith, none, more))

    inside : i ≤ length f.steps → Full f k
    inside le =
        let q = lead_at_positive found k e in
        let same : suc q.0 ≡ k = sym q.1 ∙ lead_at_full found k e in
        subst (Full f) same (landing_full f (suc i) (drop i f.steps) q.0 (from_drop f i le) q.1)

-- a branch to a line leads to one that has steps
pub lead_full : (f : CoreRoutine) (t : Term) (k : ℕ) → lead f t ≡ to k → Full f k
lead_full f t k e = by (known_number f.header.scope t) e
  where
    by : (o : Option ℤ) → lead_by f o ≡ to k → Full f k
    by None e = absurd (cc)
    by (Some z) e = line_full f (line_named z) k e

-- ---- A line to which a branch may lead has an arm

step_in_line : (f : CoreRoutine) (l q : ℕ) (xs : Lines) (x : List Effect) → slice_get xs l ≡ Some x → steps_lead f x q ≡ true → lines_lead f xs q ≡ true
step_in_line f l q [] x is h = absurd (cc)
step_in_line f zero q (y ∷ ys) x is h =
    let e : x ≡ y = cc in
    or_left (steps_lead f y q) (lines_lead f ys q) (subst (λ (x : List Effect). steps_lead f x q ≡ true) e h)
step_in_line f (suc l) q (y ∷ ys) x is h = or_right (steps_lead f y q) (lines_lead f ys q) (step_in_line f l q ys x is h)

pub entry_of : (f : CoreRoutine) (l q : ℕ) (x : List Effect) → steps_at f.steps l ≡ Some x → steps_lead f x q ≡ true → is_entry f q ≡ true
entry_of f zero q x is h = absurd (cc)
entry_of f (suc l) q x is h = or_right (nat_eq q (first_line f)) (lines_lead f f.steps q) (step_in_line f l q f.steps x is h)

step_in_loop : (f : CoreRoutine) (l : ℕ) (xs : Lines) (x : List Effect) → slice_get xs l ≡ Some x → steps_loop f x ≡ true → lines_loop f xs ≡ true
step_in_loop f l [] x is h = absurd (cc)
step_in_loop f zero (y ∷ ys) x is h =
    let e : x ≡ y = cc in
    or_left (steps_loop f y) (lines_loop f ys) (subst (λ (x : List Effect). steps_loop f x ≡ true) e h)
step_in_loop f (suc l) (y ∷ ys) x is h = or_right (steps_loop f y) (lines_loop f ys) (step_in_loop f l ys x is h)

-- and the function has a loop
pub loop_of : (f : CoreRoutine) (l : ℕ) (x : List Effect) → steps_at f.steps l ≡ Some x → steps_loop f x ≡ true → lines_loop f f.steps ≡ true
loop_of f zero x is h = absurd (cc)
loop_of f (suc l) x is h = step_in_loop f l f.steps x is h

-- ---- An empty line has an arm only where a branch is computed: then all lines have one

module _ (f : CoreRoutine) (l : ℕ) (empty : steps_at f.steps l ≡ Some []) where
  not_full : Full f l → ⊥
  not_full h = let a = h.is in absurd (clash a)
    where
      clash : steps_at f.steps l ≡ Some (h.first ∷ h.more) → ⊥
      clash a = absurd (cc)

  lead_all : (t : Term) (d : Lead) → lead f t ≡ d → may_lead d l ≡ true → (q : ℕ) → may_lead d q ≡ true
  lead_all t out e h q = absurd (cc)
  lead_all t (to k) e h q = absurd (not_full (subst (Full f) (eq_of k l h) (lead_full f t k e)))
  lead_all t computed e h q = refl

  step_all : (x : Effect) → step_leads f x l ≡ true → (q : ℕ) → step_leads f x q ≡ true
  step_all (Branch t) h q = lead_all t (lead f t) refl h q
  step_all (Keep k t) h q = absurd (cc)
  step_all (Store i n t) h q = absurd (cc)
  step_all (StoreAt i n ts t) h q = absurd (cc)
  step_all (Call i n a b r) h q = absurd (cc)
  step_all (ReadText i k) h q = absurd (cc)
  step_all (ReadNums i k) h q = absurd (cc)
  step_all (Show i t) h q = absurd (cc)

  steps_all : (xs : List Effect) → steps_lead f xs l ≡ true → (q : ℕ) → steps_lead f xs q ≡ true
  steps_all [] h q = absurd (cc)
  steps_all (x ∷ xs) h q =
      ⊎_elim (λ a. or_left (step_leads f x q) (steps_lead f xs q) (step_all x a q)) (λ a. or_right (step_leads f x q) (steps_lead f xs q) (steps_all xs a q)) (or_cases (step_leads f x l) (steps_lead f xs l) h)

  lines_all : (xs : Lines) → lines_lead f xs l ≡ true → (q : ℕ) → lines_lead f xs q ≡ true
  lines_all [] h q = absurd (cc)
  lines_all (x ∷ xs) h q =
      ⊎_elim (λ a. or_left (steps_lead f x q) (lines_lead f xs q) (steps_all x a q)) (λ a. or_right (steps_lead f x q) (lines_lead f xs q) (lines_all xs a q)) (or_cases (steps_lead f x l) (lines_lead f xs l) h)

  not_first : nat_eq l (first_line f) ≡ true → ⊥
  not_first h = by l (eq_of l (first_line f) h) empty not_full
    where
      by : (k : ℕ) → k ≡ first_line f → steps_at f.steps k ≡ Some [] → (Full f k → ⊥) → ⊥
      by zero e is no_steps = absurd (cc)
      by (suc k) e is no_steps = no_steps (landing_full f 1 f.steps k (from_all f) (sym e))

  pub all_entries : is_entry f l ≡ true → (q : ℕ) → is_entry f q ≡ true
  all_entries h q = ⊎_elim (λ a. absurd (not_first a)) (λ a. or_right (nat_eq q (first_line f)) (lines_lead f f.steps q) (lines_all f.steps a q)) (or_cases (nat_eq l (first_line f)) (lines_lead f f.steps l) h)
