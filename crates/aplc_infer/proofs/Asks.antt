-- All that a program asks of a family of facts as one list: a family that is above it meets the rules, one that meets
-- the rules is above what is asked of each family below it, and the cells are always the same.
use Rattle.std.proofs.Common.{◌≡◌, ◌∙◌, sym, ap, refl, subst, ℕ, zero, suc, ◌+◌, ◌≤◌, ◌<◌, ◌⊎◌, inl, inr, List, [], ◌∷◌, ◌++◌, length, Option, Some, None, Bool, true, false, ◌||◌, nat_eq, nat_lt, arith}
use Rattle.std.specs.Prelude.{slice_get}
use Rattle.std.proofs.lemmas.Bool.Decides.{nat_tests}
use Rattle.std.proofs.lemmas.List.{length-set}
use Rattle.std.proofs.lemmas.Option.{slice_get_past}
use Rattle.aplc_arr.specs.Delayed.{first_n}
use Rattle.aplc_arr.proofs.Places.{length-first_n}
use Rattle.aplc_names.specs.PlainPrograms.{Action, Routine, PlainProgram}
use Rattle.aplc_names.specs.Runs.{line_at}
use Rattle.aplc_infer.specs.declared.fact.Inferred.{Inferred}
use Rattle.aplc_infer.specs.declared.fact.Inferred.TheVariants.{Unset}
use Rattle.aplc_infer.specs.declared.cell.Cell.{Cell}
use Rattle.aplc_infer.specs.declared.cell.Cell.TheVariants as cell
use Rattle.aplc_infer.specs.declared.cell.Demand.{Demand}
use Rattle.aplc_infer.specs.declared.cell.Flow.{Flow}
use Rattle.aplc_infer.specs.declared.cell.Flow.TheVariants as flow
use Rattle.aplc_infer.specs.Facts.{below}
use Rattle.aplc_infer.specs.Seeing.{Family, Declarations, local_names, number_in, at, fresh, context_of, binding_in, demand, flow_of, leads}
use Rattle.aplc_infer.specs.Families.{AreMet, IsBelow, IsAnswered, ReachesLine, Reaches, at_start, with_parameter, at_entry, seen_line, IsLine, MeetsRules}
use Rattle.aplc_infer.proofs.Order.{below_trans}
use Rattle.aplc_infer.proofs.Monotone.{NamesBelow, names_at, names_set, names_first, met_left, met_right, met_both}
use Rattle.aplc_infer.proofs.Verdicts.{line_follows}
use Rattle.aplc_infer.proofs.Alongside.{cells, Alongside, statement_along}

-- ---- Lists of lists

-- what each item gives with its place in the list, joined
abbrev pub over : {A B : Type 0} → (ℕ → A → List B) → List A → List B
over f [] = []
over f (x ∷ xs) = f 0 x ++ over (λ i. f (suc i)) xs

over_met : {A : Type 0} (h : Family) (f : ℕ → A → List Demand) (xs : List A) → ((i : ℕ) (x : A) → slice_get xs i ≡ Some x → AreMet h (f i x)) → AreMet h (over f xs)
over_met h f [] each = tt
over_met h f (x ∷ xs) each = met_both h (f 0 x) (over (λ i. f (suc i)) xs) (each 0 x refl) (over_met h (λ i. f (suc i)) xs (λ i y e. each (suc i) y e))

met_over : {A : Type 0} (h : Family) (f : ℕ → A → List Demand) (xs : List A) → AreMet h (over f xs) → (i : ℕ) (x : A) → slice_get xs i ≡ Some x → AreMet h (f i x)
met_over h f [] m i x e = cc
met_over h f (y ∷ xs) m zero x e = let same : y ≡ x = cc in subst (λ z. AreMet h (f 0 z)) same (met_left h (f 0 y) (over (λ i. f (suc i)) xs) m)
met_over h f (y ∷ xs) m (suc i) x e = met_over h (λ k. f (suc k)) xs (met_right h (f 0 y) (over (λ k. f (suc k)) xs) m) i x e

cells_both : (xs ys us vs : List Demand) → cells xs ≡ cells us → cells ys ≡ cells vs → cells (xs ++ ys) ≡ cells (us ++ vs)
cells_both [] ys [] vs e f = f
cells_both [] ys (u ∷ us) vs e f = cc
cells_both (x ∷ xs) ys [] vs e f = cc
cells_both (x ∷ xs) ys (u ∷ us) vs e f =
    let head : x.cell ≡ u.cell = cc in
    let tail : cells xs ≡ cells us = cc in
    let rest = cells_both xs ys us vs tail f in
    cc

cells_over : {A : Type 0} (f g : ℕ → A → List Demand) (xs : List A) → ((i : ℕ) (x : A) → cells (f i x) ≡ cells (g i x)) → cells (over f xs) ≡ cells (over g xs)
cells_over f g [] each = refl
cells_over f g (x ∷ xs) each = cells_both (f 0 x) (over (λ i. f (suc i)) xs) (g 0 x) (over (λ i. g (suc i)) xs) (each 0 x) (cells_over (λ i. f (suc i)) (λ i. g (suc i)) xs (λ i y. each (suc i) y))

-- ---- Where names go

abbrev asks_for : (ℕ → Cell) → List Inferred → List Demand
asks_for c [] = []
asks_for c (x ∷ xs) = demand (c 0) x ∷ asks_for (λ k. c (suc k)) xs

for_met : (h : Family) (c : ℕ → Cell) (xs : List Inferred) → ((k : ℕ) → below (at xs k) (h (c k)) ≡ true) → AreMet h (asks_for c xs)
for_met h c [] each = tt
for_met h c (x ∷ xs) each = (each 0, for_met h (λ k. c (suc k)) xs (λ k. each (suc k)))

met_for : (h : Family) (c : ℕ → Cell) (xs : List Inferred) → AreMet h (asks_for c xs) → (k : ℕ) → below (at xs k) (h (c k)) ≡ true
met_for h c [] m k = refl
met_for h c (x ∷ xs) m zero = m.0
met_for h c (x ∷ xs) m (suc k) = met_for h (λ i. c (suc i)) xs m.1 k

cells_for : (c : ℕ → Cell) (xs ys : List Inferred) → length xs ≡ length ys → cells (asks_for c xs) ≡ cells (asks_for c ys)
cells_for c [] [] e = refl
cells_for c [] (y ∷ ys) e = absurd (omega arith)
cells_for c (x ∷ xs) [] e = absurd (omega arith)
cells_for c (x ∷ xs) (y ∷ ys) e = ap (λ zs. c 0 ∷ zs) (cells_for (λ k. c (suc k)) xs ys (let same : length xs ≡ length ys = omega arith in same))

abbrev answer_asks : ℕ → Routine → Option ℕ → List Inferred → List Demand
answer_asks j f None ns = []
answer_asks j f (Some n) ns = demand (cell.Answer j) (at ns (number_in n (local_names f))) ∷ []

abbrev line_asks : ℕ → Routine → List Inferred → ℕ → Option Action → List Demand
line_asks j f ns l None = answer_asks j f f.result ns
line_asks j f ns l (Some x) = asks_for (λ k. cell.Start j l k) ns

-- of names that come to line l
abbrev lead_asks : ℕ → Routine → List Inferred → ℕ → List Demand
lead_asks j f ns l = line_asks j f ns l (line_at f.lines l)

answered : (h : Family) (j : ℕ) (f : Routine) (o : Option ℕ) (ns ms : List Inferred) → NamesBelow ns ms → IsAnswered h j f o ms → AreMet h (answer_asks j f o ns)
answered h j f None ns ms b a = tt
answered h j f (Some n) ns ms b a =
    let k = number_in n (local_names f) in
    (below_trans (at ns k) (at ms k) (h (cell.Answer j)) (names_at ns ms b k) a, tt)

lands : (h : Family) (j : ℕ) (f : Routine) (ns ms : List Inferred) (l : ℕ) (o : Option Action) → NamesBelow ns ms → ReachesLine h j f ms l o → AreMet h (line_asks j f ns l o)
lands h j f ns ms l None b r = answered h j f f.result ns ms b r
lands h j f ns ms l (Some x) b r = for_met h (λ k. cell.Start j l k) ns (λ k. below_trans (at ns k) (at ms k) (h (cell.Start j l k)) (names_at ns ms b k) (r k))

answers : (h : Family) (j : ℕ) (f : Routine) (o : Option ℕ) (ns : List Inferred) → AreMet h (answer_asks j f o ns) → IsAnswered h j f o ns
answers h j f None ns m = tt
answers h j f (Some n) ns m = m.0

landed : (h : Family) (j : ℕ) (f : Routine) (ns : List Inferred) (l : ℕ) (o : Option Action) → AreMet h (line_asks j f ns l o) → ReachesLine h j f ns l o
landed h j f ns l None m = answers h j f f.result ns m
landed h j f ns l (Some x) m = met_for h (λ k. cell.Start j l k) ns m

cells_answer : (j : ℕ) (f : Routine) (o : Option ℕ) (ns ms : List Inferred) → cells (answer_asks j f o ns) ≡ cells (answer_asks j f o ms)
cells_answer j f None ns ms = refl
cells_answer j f (Some n) ns ms = refl

cells_line : (j : ℕ) (f : Routine) (ns ms : List Inferred) (l : ℕ) (o : Option Action) → length ns ≡ length ms → cells (line_asks j f ns l o) ≡ cells (line_asks j f ms l o)
cells_line j f ns ms l None e = cells_answer j f f.result ns ms
cells_line j f ns ms l (Some x) e = cells_for (λ k. cell.Start j l k) ns ms e

-- ---- Where a line leads

-- 0, as any number that no line has, is the way out
abbrev up_to : ℕ → List ℕ
up_to zero = 0 ∷ []
up_to (suc n) = suc n ∷ up_to n

abbrev targets : Flow → ℕ → ℕ → List ℕ
targets flow.Next l n = (l + 1) ∷ []
targets (flow.To t) l n = t ∷ []
targets (flow.Either t) l n = t ∷ (l + 1) ∷ []
targets flow.Any l n = up_to n

abbrev flow_asks : ℕ → Routine → List Inferred → List ℕ → List Demand
flow_asks j f ns [] = []
flow_asks j f ns (m ∷ ms) = lead_asks j f ns m ++ flow_asks j f ns ms

cells_flow : (j : ℕ) (f : Routine) (ns us : List Inferred) (ms : List ℕ) → length ns ≡ length us → cells (flow_asks j f ns ms) ≡ cells (flow_asks j f us ms)
cells_flow j f ns us [] e = refl
cells_flow j f ns us (m ∷ ms) e = cells_both (lead_asks j f ns m) (flow_asks j f ns ms) (lead_asks j f us m) (flow_asks j f us ms) (cells_line j f ns us m (line_at f.lines m) e) (cells_flow j f ns us ms e)

equal_numbers : (m n : ℕ) → nat_eq m n ≡ true → m ≡ n
equal_numbers m n e = grind (arith, nat_tests)

same_number : (m : ℕ) → nat_eq m m ≡ true
same_number m = grind (arith, nat_tests)

either_of : (a b : Bool) → (a || b) ≡ true → (a ≡ true) ⊎ (b ≡ true)
either_of true b e = inl refl
either_of false b e = inr e

first_true : (a b : Bool) → a ≡ true → (a || b) ≡ true
first_true true b e = refl
first_true false b e = cc

second_true : (a b : Bool) → b ≡ true → (a || b) ≡ true
second_true true b e = refl
second_true false b e = e

module _ (h : Family) (j : ℕ) (f : Routine) (ns ms : List Inferred) (b : NamesBelow ns ms) (l : ℕ) where
  up_to_asked : (n : ℕ) → ((m : ℕ) → Reaches h j f ms m) → AreMet h (flow_asks j f ns (up_to n))
  up_to_asked zero r = met_both h (lead_asks j f ns 0) [] (lands h j f ns ms 0 (line_at f.lines 0) b (r 0)) tt
  up_to_asked (suc n) r = met_both h (lead_asks j f ns (suc n)) (flow_asks j f ns (up_to n)) (lands h j f ns ms (suc n) (line_at f.lines (suc n)) b (r (suc n))) (up_to_asked n r)

  one_asked : (m : ℕ) → Reaches h j f ms m → AreMet h (lead_asks j f ns m)
  one_asked m r = lands h j f ns ms m (line_at f.lines m) b r

  flows_asked : (x : Flow) (n : ℕ) → ((m : ℕ) → leads x l m ≡ true → Reaches h j f ms m) → AreMet h (flow_asks j f ns (targets x l n))
  flows_asked flow.Next n r = met_both h (lead_asks j f ns (l + 1)) [] (one_asked (l + 1) (r (l + 1) (same_number (l + 1)))) tt
  flows_asked (flow.To t) n r = met_both h (lead_asks j f ns t) [] (one_asked t (r t (same_number t))) tt
  flows_asked (flow.Either t) n r =
      met_both h (lead_asks j f ns t) (lead_asks j f ns (l + 1) ++ []) (one_asked t (r t (first_true (nat_eq t t) (nat_eq t (l + 1)) (same_number t))))
      (met_both h (lead_asks j f ns (l + 1)) [] (one_asked (l + 1) (r (l + 1) (second_true (nat_eq (l + 1) t) (nat_eq (l + 1) (l + 1)) (same_number (l + 1))))) tt)
  flows_asked flow.Any n r = up_to_asked n (λ m. r m refl)

past : (f : Routine) (m : ℕ) → length f.lines < m → line_at f.lines m ≡ None
past f zero w = absurd (omega arith)
past f (suc m) w = slice_get_past f.lines m (omega arith)

module _ (h : Family) (j : ℕ) (f : Routine) (ns : List Inferred) (l : ℕ) where
  one_met : (m : ℕ) → AreMet h (lead_asks j f ns m) → Reaches h j f ns m
  one_met m a = landed h j f ns m (line_at f.lines m) a

  at_last : (n m : ℕ) → Reaches h j f ns (suc n) → (m ≤ n → Reaches h j f ns m) → m ≤ suc n → (t : Bool) → nat_eq m (suc n) ≡ t → Reaches h j f ns m
  at_last n m last before w true e = subst (λ i. Reaches h j f ns i) (sym (equal_numbers m (suc n) e)) last
  at_last n m last before w false e = before (let v : m ≤ n = grind (arith, nat_tests) in v)

  up_to_met : (n : ℕ) → AreMet h (flow_asks j f ns (up_to n)) → (m : ℕ) → m ≤ n → Reaches h j f ns m
  up_to_met zero a m w = let none : 0 ≡ m = omega arith in subst (λ i. Reaches h j f ns i) none (one_met 0 (met_left h (lead_asks j f ns 0) [] a))
  up_to_met (suc n) a m w =
      at_last n m (one_met (suc n) (met_left h (lead_asks j f ns (suc n)) (flow_asks j f ns (up_to n)) a))
      (λ v. up_to_met n (met_right h (lead_asks j f ns (suc n)) (flow_asks j f ns (up_to n)) a) m v) w (nat_eq m (suc n)) refl

  -- a number that no line has leads out, as 0 does
  out_met : (m : ℕ) → Reaches h j f ns 0 → length f.lines < m → Reaches h j f ns m
  out_met m r w = subst (λ o. ReachesLine h j f ns m o) (sym (past f m w)) r

  any_met : AreMet h (flow_asks j f ns (up_to (length f.lines))) → (m : ℕ) → (t : Bool) → nat_lt (length f.lines) m ≡ t → Reaches h j f ns m
  any_met a m true e = out_met m (up_to_met (length f.lines) a 0 (omega arith)) (let w : length f.lines < m = grind (arith, nat_tests) in w)
  any_met a m false e = up_to_met (length f.lines) a m (let w : m ≤ length f.lines = grind (arith, nat_tests) in w)

  either_met : (t m : ℕ) → AreMet h (flow_asks j f ns (t ∷ (l + 1) ∷ [])) → (nat_eq m t ≡ true) ⊎ (nat_eq m (l + 1) ≡ true) → Reaches h j f ns m
  either_met t m a (inl e) = subst (λ i. Reaches h j f ns i) (sym (equal_numbers m t e)) (one_met t (met_left h (lead_asks j f ns t) (lead_asks j f ns (l + 1) ++ []) a))
  either_met t m a (inr e) =
      subst (λ i. Reaches h j f ns i) (sym (equal_numbers m (l + 1) e))
      (one_met (l + 1) (met_left h (lead_asks j f ns (l + 1)) [] (met_right h (lead_asks j f ns t) (lead_asks j f ns (l + 1) ++ []) a)))

  flows_met : (x : Flow) → AreMet h (flow_asks j f ns (targets x l (length f.lines))) → (m : ℕ) → leads x l m ≡ true → Reaches h j f ns m
  flows_met flow.Next a m e = subst (λ i. Reaches h j f ns i) (sym (equal_numbers m (l + 1) e)) (one_met (l + 1) (met_left h (lead_asks j f ns (l + 1)) [] a))
  flows_met (flow.To t) a m e = subst (λ i. Reaches h j f ns i) (sym (equal_numbers m t e)) (one_met t (met_left h (lead_asks j f ns t) [] a))
  flows_met (flow.Either t) a m e = either_met t m a (either_of (nat_eq m t) (nat_eq m (l + 1)) e)
  flows_met flow.Any a m e = any_met a m (nat_lt (length f.lines) m) refl

-- ---- Where a function is entered

parameter_rises : (f : Routine) (o : Option ℕ) (x y : Inferred) (ns ms : List Inferred) → below x y ≡ true → NamesBelow ns ms → NamesBelow (with_parameter f o x ns) (with_parameter f o y ms)
parameter_rises f None x y ns ms e b = b
parameter_rises f (Some n) x y ns ms e b = names_set ns ms (number_in n (local_names f)) x y b e

entry_rises : (g h : Family) → IsBelow g h → (j : ℕ) (f : Routine) → NamesBelow (at_entry g j f) (at_entry h j f)
entry_rises g h up j f =
    let blank = first_n (λ (k : ℕ). let u : Inferred = Unset in u) (length (local_names f)) in
    let right = parameter_rises f f.right (g (cell.Right j)) (h (cell.Right j)) blank blank (up (cell.Right j)) (names_first (λ k. Unset) (λ k. Unset) (length (local_names f)) (λ k. refl)) in
    parameter_rises f f.left (g (cell.Left j)) (h (cell.Left j)) (with_parameter f f.right (g (cell.Right j)) blank) (with_parameter f f.right (h (cell.Right j)) blank) (up (cell.Left j)) right

parameter_long : (f : Routine) (o : Option ℕ) (x : Inferred) (ns : List Inferred) → length (with_parameter f o x ns) ≡ length ns
parameter_long f None x ns = refl
parameter_long f (Some n) x ns = length-set ns (number_in n (local_names f)) x

entry_long : (g : Family) (j : ℕ) (f : Routine) → length (at_entry g j f) ≡ length (local_names f)
entry_long g j f =
    let blank = first_n (λ (k : ℕ). let u : Inferred = Unset in u) (length (local_names f)) in
    parameter_long f f.left (g (cell.Left j)) (with_parameter f f.right (g (cell.Right j)) blank)
    ∙ (parameter_long f f.right (g (cell.Right j)) blank ∙ length-first_n (λ (k : ℕ). let u : Inferred = Unset in u) (length (local_names f)))

-- ---- The whole program

module _ (d : Declarations) (p : PlainProgram) where
  -- of line l
  abbrev action_asks : Family → ℕ → Routine → ℕ → Action → List Demand
  action_asks g j f l x =
      let w = seen_line d p g j f l x in
      w.demands ++ flow_asks j f w.names (targets (flow_of (binding_in f) x) l (length f.lines))

  abbrev routine_asks : Family → ℕ → Routine → List Demand
  routine_asks g j f = lead_asks j f (at_entry g j f) 1 ++ over (λ i x. action_asks g j f (suc i) x) f.lines

  abbrev pub program_asks : Family → List Demand
  program_asks g = over (routine_asks g) p.routines

  -- ---- Above what is asked of those below

  module _ (g h : Family) (up : IsBelow g h) (rules : MeetsRules d p h) where
    action_asked : (j : ℕ) (f : Routine) (l : ℕ) (x : Action) → IsLine p j l f x → AreMet h (action_asks g j f l x)
    action_asked j f l x there =
        let v = seen_line d p g j f l x in
        let w = seen_line d p h j f l x in
        let rises = line_follows d p g h up j f l x in
        let meets = rules.lines j l f x there in
        let fl = flow_of (binding_in f) x in
        met_both h v.demands (flow_asks j f v.names (targets fl l (length f.lines))) (rises.demands meets.demands)
        (flows_asked h j f v.names w.names rises.names l fl (length f.lines) meets.flows)

    routine_asked : (j : ℕ) (f : Routine) → slice_get p.routines j ≡ Some f → AreMet h (routine_asks g j f)
    routine_asked j f e =
        met_both h (lead_asks j f (at_entry g j f) 1) (over (λ i x. action_asks g j f (suc i) x) f.lines)
        (lands h j f (at_entry g j f) (at_entry h j f) 1 (line_at f.lines 1) (entry_rises g h up j f) (rules.entries j f e))
        (over_met h (λ i x. action_asks g j f (suc i) x) f.lines (λ i x k. action_asked j f (suc i) x (record { routine = e; here = k })))

    pub asked : AreMet h (program_asks g)
    asked = over_met h (routine_asks g) p.routines routine_asked

  -- ---- Above what is asked of it itself

  module _ (g : Family) (all : AreMet g (program_asks g)) where
    of_routine : (j : ℕ) (f : Routine) → slice_get p.routines j ≡ Some f → AreMet g (routine_asks g j f)
    of_routine j f e = met_over g (routine_asks g) p.routines all j f e

    of_line : (j l : ℕ) (f : Routine) (x : Action) → slice_get p.routines j ≡ Some f → line_at f.lines l ≡ Some x → AreMet g (action_asks g j f l x)
    of_line j zero f x e k = cc
    of_line j (suc i) f x e k =
        met_over g (λ m y. action_asks g j f (suc m) y) f.lines (met_right g (lead_asks j f (at_entry g j f) 1) (over (λ m y. action_asks g j f (suc m) y) f.lines) (of_routine j f e)) i x k

    pub meets : MeetsRules d p g
    meets = record {
      entries = λ j f e. landed g j f (at_entry g j f) 1 (line_at f.lines 1) (met_left g (lead_asks j f (at_entry g j f) 1) (over (λ i x. action_asks g j f (suc i) x) f.lines) (of_routine j f e));
      lines = λ j l f x there.
          let w = seen_line d p g j f l x in
          let fl = flow_of (binding_in f) x in
          let m = of_line j l f x there.routine there.here in
          record {
            demands = met_left g w.demands (flow_asks j f w.names (targets fl l (length f.lines))) m;
            flows = flows_met g j f w.names l fl (met_right g w.demands (flow_asks j f w.names (targets fl l (length f.lines))) m);
          };
    }

  -- ---- The cells

  module _ (g h : Family) where
    start_long : (j : ℕ) (f : Routine) (l : ℕ) → length (at_start g j f l) ≡ length (at_start h j f l)
    start_long j f l =
        length-first_n (λ k. g (cell.Start j l k)) (length (local_names f)) ∙ sym (length-first_n (λ k. h (cell.Start j l k)) (length (local_names f)))

    seen_along : (j : ℕ) (f : Routine) (l : ℕ) (x : Action) → Alongside (seen_line d p g j f l x) (seen_line d p h j f l x)
    seen_along j f l x =
        statement_along (context_of d p f) g h x (fresh (at_start g j f l)) (fresh (at_start h j f l)) (record { cells = refl; names = start_long j f l; reasons = tt })

    cells_action : (j : ℕ) (f : Routine) (l : ℕ) (x : Action) → cells (action_asks g j f l x) ≡ cells (action_asks h j f l x)
    cells_action j f l x =
        let v = seen_line d p g j f l x in
        let w = seen_line d p h j f l x in
        let both = seen_along j f l x in
        let ms = targets (flow_of (binding_in f) x) l (length f.lines) in
        cells_both v.demands (flow_asks j f v.names ms) w.demands (flow_asks j f w.names ms) both.cells (cells_flow j f v.names w.names ms both.names)

    cells_routine : (j : ℕ) (f : Routine) → cells (routine_asks g j f) ≡ cells (routine_asks h j f)
    cells_routine j f =
        cells_both (lead_asks j f (at_entry g j f) 1) (over (λ i x. action_asks g j f (suc i) x) f.lines) (lead_asks j f (at_entry h j f) 1) (over (λ i x. action_asks h j f (suc i) x) f.lines)
        (cells_line j f (at_entry g j f) (at_entry h j f) 1 (line_at f.lines 1) (entry_long g j f ∙ sym (entry_long h j f)))
        (cells_over (λ i x. action_asks g j f (suc i) x) (λ i x. action_asks h j f (suc i) x) f.lines (λ i x. cells_action j f (suc i) x))

    pub same_cells : cells (program_asks g) ≡ cells (program_asks h)
    same_cells = cells_over (routine_asks g) (routine_asks h) p.routines cells_routine
