-- The least family that meets the rules of a program: facts rise from nothing, one at a time, and each can do so a few
-- times alone.
use Rattle.std.proofs.Common.{◌≡◌, ◌∙◌, sym, ap, refl, subst, ℕ, zero, suc, ◌+◌, ◌≤◌, ◌<◌, ◌⊎◌, inl, inr, List, [], ◌∷◌, Option, Bool, true, false, ◌&&◌, nat_eq, arith, if◌then◌else◌}
use Rattle.aplc_names.specs.PlainPrograms.{PlainProgram}
use Rattle.aplc_infer.specs.declared.fact.FactKind.{FactKind}
use Rattle.aplc_infer.specs.declared.fact.Inferred.{Inferred}
use Rattle.aplc_infer.specs.declared.fact.Inferred.TheVariants.{Unset, Of}
use Rattle.aplc_infer.specs.declared.cell.Cell.{Cell}
use Rattle.aplc_infer.specs.declared.cell.Cell.TheVariants as cell
use Rattle.aplc_infer.specs.declared.cell.Demand.{Demand}
use Rattle.aplc_infer.specs.Facts.{below, join, room}
use Rattle.aplc_infer.specs.Seeing.{Family, Declarations}
use Rattle.aplc_infer.specs.Families.{AreMet, IsBelow, MeetsRules, IsLeast}
use Rattle.aplc_infer.proofs.Trials.{equal_of, equal_test, left_true, right_true, both_true}
use Rattle.aplc_infer.proofs.Order.{join_least, known_falls, known_most}
use Rattle.aplc_infer.proofs.Alongside.{cells}
use Rattle.aplc_infer.proofs.Asks.{program_asks, asked, meets, same_cells}

-- ---- Cells are told apart

abbrev sort_of : Cell → ℕ
sort_of (cell.Node i) = 0
sort_of (cell.Global n) = 1
sort_of (cell.Left j) = 2
sort_of (cell.Right j) = 3
sort_of (cell.Answer j) = 4
sort_of (cell.Start j l k) = 5

abbrev first_of : Cell → ℕ
first_of (cell.Node i) = i
first_of (cell.Global n) = n
first_of (cell.Left j) = j
first_of (cell.Right j) = j
first_of (cell.Answer j) = j
first_of (cell.Start j l k) = j

abbrev second_of : Cell → ℕ
second_of (cell.Start j l k) = l
second_of c = 0

abbrev third_of : Cell → ℕ
third_of (cell.Start j l k) = k
third_of c = 0

abbrev built : ℕ → ℕ → ℕ → ℕ → Cell
built zero i l k = cell.Node i
built (suc zero) i l k = cell.Global i
built (suc (suc zero)) i l k = cell.Left i
built (suc (suc (suc zero))) i l k = cell.Right i
built (suc (suc (suc (suc zero)))) i l k = cell.Answer i
built (suc (suc (suc (suc (suc n))))) i l k = cell.Start i l k

rebuilt : (c : Cell) → built (sort_of c) (first_of c) (second_of c) (third_of c) ≡ c
rebuilt (cell.Node i) = refl
rebuilt (cell.Global n) = refl
rebuilt (cell.Left j) = refl
rebuilt (cell.Right j) = refl
rebuilt (cell.Answer j) = refl
rebuilt (cell.Start j l k) = refl

abbrev same_cell : Cell → Cell → Bool
same_cell a b = nat_eq (sort_of a) (sort_of b) && (nat_eq (first_of a) (first_of b) && (nat_eq (second_of a) (second_of b) && nat_eq (third_of a) (third_of b)))

one_cell : (a b : Cell) → same_cell a b ≡ true → a ≡ b
one_cell a b e =
    let rest1 = right_true (nat_eq (sort_of a) (sort_of b)) (nat_eq (first_of a) (first_of b) && (nat_eq (second_of a) (second_of b) && nat_eq (third_of a) (third_of b))) e in
    let rest2 = right_true (nat_eq (first_of a) (first_of b)) (nat_eq (second_of a) (second_of b) && nat_eq (third_of a) (third_of b)) rest1 in
    let s = equal_of (sort_of a) (sort_of b) (left_true (nat_eq (sort_of a) (sort_of b)) (nat_eq (first_of a) (first_of b) && (nat_eq (second_of a) (second_of b) && nat_eq (third_of a) (third_of b))) e) in
    let i = equal_of (first_of a) (first_of b) (left_true (nat_eq (first_of a) (first_of b)) (nat_eq (second_of a) (second_of b) && nat_eq (third_of a) (third_of b)) rest1) in
    let l = equal_of (second_of a) (second_of b) (left_true (nat_eq (second_of a) (second_of b)) (nat_eq (third_of a) (third_of b)) rest2) in
    let k = equal_of (third_of a) (third_of b) (right_true (nat_eq (second_of a) (second_of b)) (nat_eq (third_of a) (third_of b)) rest2) in
    sym (rebuilt a)
    ∙ (ap (λ x. built x (first_of a) (second_of a) (third_of a)) s
    ∙ (ap (λ x. built (sort_of b) x (second_of a) (third_of a)) i
    ∙ (ap (λ x. built (sort_of b) (first_of b) x (third_of a)) l
    ∙ (ap (λ x. built (sort_of b) (first_of b) (second_of b) x) k ∙ rebuilt b))))

itself : (c : Cell) → same_cell c c ≡ true
itself c =
    both_true (nat_eq (sort_of c) (sort_of c)) (nat_eq (first_of c) (first_of c) && (nat_eq (second_of c) (second_of c) && nat_eq (third_of c) (third_of c))) (equal_test (sort_of c) (sort_of c) refl)
    (both_true (nat_eq (first_of c) (first_of c)) (nat_eq (second_of c) (second_of c) && nat_eq (third_of c) (third_of c)) (equal_test (first_of c) (first_of c) refl)
    (both_true (nat_eq (second_of c) (second_of c)) (nat_eq (third_of c) (third_of c)) (equal_test (second_of c) (second_of c) refl) (equal_test (third_of c) (third_of c) refl)))

-- ---- One fact rises

abbrev raised : Family → Cell → Inferred → Family
raised g c x e = if same_cell e c then join (g e) x else g e

-- what is known of a cell that may have risen
raised_at : (P : Inferred → Type 0) (g : Family) (c : Cell) (x : Inferred) (e : Cell) → P (g e) → (e ≡ c → P (join (g e) x)) → P (raised g c x e)
raised_at P g c x e old new = by_test (same_cell e c) refl
  where
    by_test : (t : Bool) → same_cell e c ≡ t → P (if t then join (g e) x else g e)
    by_test true s = new (one_cell e c s)
    by_test false s = old

at_itself : (P : Inferred → Type 0) (g : Family) (c : Cell) (x : Inferred) → P (join (g c) x) → P (raised g c x c)
at_itself P g c x p = subst (λ t. P (if t then join (g c) x else g c)) (sym (itself c)) p

-- ---- How often

abbrev missing : Inferred → ℕ
missing Unset = 1
missing (Of a s) = 0

abbrev open_room : Inferred → ℕ
open_room Unset = 0
open_room (Of a s) = room (Of a s)

abbrev total : (Inferred → ℕ) → Family → List Cell → ℕ
total w g [] = 0
total w g (c ∷ cs) = w (g c) + total w g cs

abbrev Among : Cell → List Cell → Type 0
Among c [] = ⊥
Among c (e ∷ cs) = (e ≡ c) ⊎ Among c cs

total_most : (w : Inferred → ℕ) (g h : Family) (cs : List Cell) → ((e : Cell) → w (h e) ≤ w (g e)) → total w h cs ≤ total w g cs
total_most w g h [] each = omega arith
total_most w g h (c ∷ cs) each = let a = each c in let b = total_most w g h cs each in omega arith

total_less : (w : Inferred → ℕ) (g h : Family) (c : Cell) (cs : List Cell) → ((e : Cell) → w (h e) ≤ w (g e)) → w (h c) < w (g c) → Among c cs → total w h cs < total w g cs
total_less w g h c [] each less m = absurd m
total_less w g h c (e ∷ cs) each less (inl s) =
    let a : w (h e) < w (g e) = subst (λ y. w (h y) < w (g y)) (sym s) less in
    let b = total_most w g h cs each in
    omega arith
total_less w g h c (e ∷ cs) each less (inr m) = let a = each e in let b = total_less w g h c cs each less m in omega arith

missing_most : (f x : Inferred) → missing (join f x) ≤ missing f
missing_most Unset Unset = omega arith
missing_most Unset (Of b t) = omega arith
missing_most (Of a s) Unset = omega arith
missing_most (Of a s) (Of b t) = omega arith

found_less : (f x : Inferred) → f ≡ Unset → below x f ≡ false → missing (join f x) < missing f
found_less Unset Unset e h = cc
found_less Unset (Of b t) e h = omega arith
found_less (Of a s) x e h = cc

open_most : (k : FactKind) (t : Option (List (Option ℕ))) (x : Inferred) → open_room (join (Of k t) x) ≤ open_room (Of k t)
open_most k t Unset = known_most k t Unset
open_most k t (Of b u) = known_most k t (Of b u)

open_less : (k : FactKind) (t : Option (List (Option ℕ))) (x : Inferred) → below x (Of k t) ≡ false → open_room (join (Of k t) x) < open_room (Of k t)
open_less k t Unset h = cc
open_less k t (Of b u) h = known_falls k t (Of b u) h

risen_most : (f x : Inferred) (a : FactKind) (s : Option (List (Option ℕ))) → f ≡ Of a s → open_room (join f x) ≤ open_room f
risen_most Unset x a s e = cc
risen_most (Of k t) x a s e = open_most k t x

risen_less : (f x : Inferred) (a : FactKind) (s : Option (List (Option ℕ))) → f ≡ Of a s → below x f ≡ false → open_room (join f x) < open_room f
risen_less Unset x a s e h = cc
risen_less (Of k t) x a s e h = open_less k t x h

-- ---- From nothing up

-- it is met, or one of the demands is not
abbrev Unmet : Family → List Demand → Type 0
Unmet g xs = (x : Demand) × Among x.cell (cells xs) × (below x.fact (g x.cell) ≡ false) × ((h : Family) → AreMet h xs → below x.fact (h x.cell) ≡ true)

later_unmet : (g : Family) (x : Demand) (xs : List Demand) → Unmet g xs → Unmet g (x ∷ xs)
later_unmet g x xs u = (u.0, inr u.1, u.2, λ h m. u.3 h m.1)

met_or_not : (g : Family) (xs : List Demand) → AreMet g xs ⊎ Unmet g xs
met_or_not g [] = inl tt
met_or_not g (x ∷ xs) = by_both (below x.fact (g x.cell)) refl (met_or_not g xs)
  where
    by_both : (t : Bool) → below x.fact (g x.cell) ≡ t → AreMet g xs ⊎ Unmet g xs → AreMet g (x ∷ xs) ⊎ Unmet g (x ∷ xs)
    by_both true e (inl m) = inl (e, m)
    by_both true e (inr u) = inr (later_unmet g x xs u)
    by_both false e rest = inr (x, inl refl, e, λ h m. m.0)

module _ (d : Declarations) (p : PlainProgram) where
  abbrev IsUnder : Family → Type 0
  IsUnder g = (h : Family) → MeetsRules d p h → IsBelow g h

  abbrev Least : Type 0
  Least = (g : Family) × IsLeast d p g

  abbrev nothing_yet : Family
  nothing_yet c = Unset

  abbrev places : List Cell
  places = cells (program_asks d p nothing_yet)

  -- the family with one demand met is below every one that meets the rules, too
  still_under : (g : Family) → IsUnder g → (u : Unmet g (program_asks d p g)) → IsUnder (raised g u.0.cell u.0.fact)
  still_under g under u h rules e =
      let up = under h rules in
      let met = u.3 h (asked d p g h up rules) in
      raised_at (λ y. below y (h e) ≡ true) g u.0.cell u.0.fact e (up e)
      (λ same. join_least (g e) u.0.fact (h e) (up e) (subst (λ c. below u.0.fact (h c) ≡ true) (sym same) met))

  there : (g : Family) (c : Cell) → Among c (cells (program_asks d p g)) → Among c places
  there g c m = subst (λ cs. Among c cs) (same_cells d p g nothing_yet) m

  -- a cell that had no fact has one
  fewer_missing : (g : Family) (u : Unmet g (program_asks d p g)) → g u.0.cell ≡ Unset → total missing (raised g u.0.cell u.0.fact) places < total missing g places
  fewer_missing g u e =
      let c = u.0.cell in
      let x = u.0.fact in
      total_less missing g (raised g c x) c places
      (λ i. raised_at (λ y. missing y ≤ missing (g i)) g c x i (let same : missing (g i) ≤ missing (g i) = omega arith in same) (λ s. missing_most (g i) x))
      (at_itself (λ y. missing y < missing (g c)) g c x (found_less (g c) x e u.2))
      (there g c u.1)

  as_many_missing : (g : Family) (u : Unmet g (program_asks d p g)) → total missing (raised g u.0.cell u.0.fact) places ≤ total missing g places
  as_many_missing g u =
      let c = u.0.cell in
      let x = u.0.fact in
      total_most missing g (raised g c x) places
      (λ i. raised_at (λ y. missing y ≤ missing (g i)) g c x i (let same : missing (g i) ≤ missing (g i) = omega arith in same) (λ s. missing_most (g i) x))

  -- a cell that had one has less room
  less_room : (g : Family) (u : Unmet g (program_asks d p g)) (a : FactKind) (s : Option (List (Option ℕ))) → g u.0.cell ≡ Of a s → total open_room (raised g u.0.cell u.0.fact) places < total open_room g places
  less_room g u a s e =
      let c = u.0.cell in
      let x = u.0.fact in
      total_less open_room g (raised g c x) c places
      (λ i. raised_at (λ y. open_room y ≤ open_room (g i)) g c x i (let same : open_room (g i) ≤ open_room (g i) = omega arith in same)
      (λ same. risen_most (g i) x a s (ap g same ∙ e)))
      (at_itself (λ y. open_room y < open_room (g c)) g c x (risen_less (g c) x a s e u.2))
      (there g c u.1)

  -- ---- Turn by turn

  abbrev Lower : ℕ → Type 0
  Lower n = (g : Family) → IsUnder g → total missing g places < n → Least

  turn : (n : ℕ) → Lower n → (r : ℕ) → (g : Family) → IsUnder g → total missing g places ≤ n → total open_room g places ≤ r → Least
  turn n lower zero g under few room = by_step (met_or_not g (program_asks d p g))
    where
      by_fact : (u : Unmet g (program_asks d p g)) (f : Inferred) → g u.0.cell ≡ f → Least
      by_fact u Unset e = lower (raised g u.0.cell u.0.fact) (still_under g under u) (let a = fewer_missing g u e in omega arith)
      by_fact u (Of a s) e = absurd (let b = less_room g u a s e in omega arith)

      by_step : AreMet g (program_asks d p g) ⊎ Unmet g (program_asks d p g) → Least
      by_step (inl m) = (g, record { rules = meets d p g m; least = under })
      by_step (inr u) = by_fact u (g u.0.cell) refl
  turn n lower (suc r) g under few room = by_step (turn n lower r) (met_or_not g (program_asks d p g))
    where
      by_fact : ((h : Family) → IsUnder h → total missing h places ≤ n → total open_room h places ≤ r → Least) → (u : Unmet g (program_asks d p g)) (f : Inferred) → g u.0.cell ≡ f → Least
      by_fact next u Unset e = lower (raised g u.0.cell u.0.fact) (still_under g under u) (let a = fewer_missing g u e in omega arith)
      by_fact next u (Of a s) e =
          next (raised g u.0.cell u.0.fact) (still_under g under u)
          (let b = as_many_missing g u in omega arith)
          (let b = less_room g u a s e in omega arith)

      by_step : ((h : Family) → IsUnder h → total missing h places ≤ n → total open_room h places ≤ r → Least) → AreMet g (program_asks d p g) ⊎ Unmet g (program_asks d p g) → Least
      by_step next (inl m) = (g, record { rules = meets d p g m; least = under })
      by_step next (inr u) = by_fact next u (g u.0.cell) refl

  climbed : (n : ℕ) (g : Family) → IsUnder g → total missing g places ≤ n → Least
  climbed zero g under few = turn 0 (λ h u less. absurd (omega arith)) (total open_room g places) g under few (omega arith)
  climbed (suc n) g under few = turn (suc n) (λ h u less. climbed n h u (omega arith)) (total open_room g places) g under few (omega arith)

  -- every program has a least family that meets its rules
  pub least_family : (g : Family) × IsLeast d p g
  least_family = climbed (total missing nothing_yet places) nothing_yet (λ h rules c. refl) (omega arith)
