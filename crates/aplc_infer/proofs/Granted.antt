-- Work in whatever order: what families that meet the rules grant to it.
use Rattle.std.proofs.Common.{◌≡◌, ◌∙◌, sym, ap, refl, subst, ℕ, zero, suc, ◌+◌, ◌-◌, ◌<◌, ◌≤◌, List, [], ◌∷◌, ◌++◌, length, Some, Bool, true, false, ◌||◌, nat_eq, arith, inl, inr, ◌⊎◌, set, slice_get, get_or}
use Rattle.std.proofs.lemmas.Bool.Decides.{nat_tests}
use Rattle.aplc_arr.specs.Delayed.{first_n}
use Rattle.aplc_arr.proofs.Places.{length-first_n}
use Rattle.aplc_syntax.specs.declared.tree.Line.{Line}
use Rattle.aplc_syntax.specs.declared.tree.Function.{Function}
use Rattle.aplc_syntax.specs.declared.tree.Program.{Program}
use Rattle.aplc_syntax.specs.declared.tree.Statement.{Statement}
use Rattle.aplc_names.specs.declared.outline.Mention.{Mention}
use Rattle.aplc_names.specs.Outlines.{statement_mentions}
use Rattle.aplc_names.specs.PlainPrograms.{Action, Routine, plain, routine_of, line_action, action_of}
use Rattle.aplc_names.specs.Runs.{line_at}
use Rattle.aplc_infer.specs.declared.fact.Inferred.{Inferred}
use Rattle.aplc_infer.specs.declared.fact.Inferred.TheVariants.{Unset}
use Rattle.aplc_infer.specs.declared.cell.Binding.{Binding}
use Rattle.aplc_infer.specs.declared.cell.Cell.TheVariants as cell
use Rattle.aplc_infer.specs.declared.cell.Demand.{Demand}
use Rattle.aplc_infer.specs.declared.cell.Flow.{Flow}
use Rattle.aplc_infer.specs.declared.cell.Flow.TheVariants as flow
use Rattle.aplc_infer.specs.declared.tables.Spot.TheVariants.{Here, Hub}
use Rattle.aplc_infer.specs.declared.tables.Tables.{Tables}
use Rattle.aplc_infer.specs.Facts.{below}
use Rattle.aplc_infer.specs.Seeing.{Family, declarations, context_of, local_names, at, Progress, fresh, see_statement, binding_in, flow_of, leads, action_mentions, stands_among}
use Rattle.aplc_infer.specs.Lookups.{routine_at, binding_at, context_at}
use Rattle.aplc_infer.specs.Families.{AreMet, at_start}
use Rattle.aplc_infer.specs.Mentions.{assigned_numbers}
use Rattle.aplc_infer.specs.Tables.{look, family_of, spot_in, TablesRise}
use Rattle.aplc_infer.specs.Steps.{Meets, seen_in, IsFunction, IsLineOf, Lands, Goes, Gone, IsUnder, Settles, Landed, HasGone, Spreads, AreBelow, Keeps}
use Rattle.aplc_infer.proofs.Order.{below_refl, below_trans}
use Rattle.aplc_infer.proofs.Monotone.{NamesBelow, names_at, names_set, names_first, Follows}
use Rattle.aplc_infer.proofs.Kept.{kept}
use Rattle.aplc_infer.proofs.Names.{action_names}
use Rattle.aplc_infer.proofs.Raised.{found_at}
use Rattle.aplc_infer.proofs.Stepping.{mapped, routine_is, routine_there, steps_then, steps_as, steps_none, hub_steps}
use Rattle.aplc_infer.proofs.Moving.{reaches_lands, lands_down, reaches_go, start_rises, line_rises, steps_room}

-- ---- Rows of which only some names are known

names_of : (xs ys : List Inferred) → AreBelow xs ys → NamesBelow xs ys
names_of [] [] h = tt
names_of [] (y ∷ ys) h = absurd h
names_of (x ∷ xs) [] h = absurd h
names_of (x ∷ xs) (y ∷ ys) h = (h.0, names_of xs ys h.1)

below_of : (xs ys : List Inferred) → NamesBelow xs ys → AreBelow xs ys
below_of [] [] h = tt
below_of [] (y ∷ ys) h = absurd h
below_of (x ∷ xs) [] h = absurd h
below_of (x ∷ xs) (y ∷ ys) h = (h.0, below_of xs ys h.1)

names_trans : (xs ys zs : List Inferred) → NamesBelow xs ys → NamesBelow ys zs → NamesBelow xs zs
names_trans [] [] [] h k = tt
names_trans [] [] (z ∷ zs) h k = absurd k
names_trans [] (y ∷ ys) zs h k = absurd h
names_trans (x ∷ xs) [] zs h k = absurd h
names_trans (x ∷ xs) (y ∷ ys) [] h k = absurd k
names_trans (x ∷ xs) (y ∷ ys) (z ∷ zs) h k = (below_trans x y z h.0 k.0, names_trans xs ys zs h.1 k.1)

front_at : (xs : List Inferred) (y : Inferred) (k : ℕ) → k < length xs → at (xs ++ y ∷ []) k ≡ at xs k
front_at [] y k w = absurd (omega arith)
front_at (x ∷ xs) y zero w = refl
front_at (x ∷ xs) y (suc k) w = front_at xs y k (omega arith)

last_at : (xs : List Inferred) (y : Inferred) → at (xs ++ y ∷ []) (length xs) ≡ y
last_at [] y = refl
last_at (x ∷ xs) y = last_at xs y

closer : (k n : ℕ) → k < suc n → (k < n) ⊎ (k ≡ n)
closer k n h = grind arith

first_at : (f : ℕ → Inferred) (n k : ℕ) → k < n → at (first_n f n) k ≡ f k
first_at f zero k w = absurd (omega arith)
first_at f (suc n) k w = elim (closer k n w) as (λ _. at (first_n f (suc n)) k ≡ f k) [
  | inl u ↦ front_at (first_n f n) (f n) k (subst (λ m. k < m) (sym (length-first_n f n)) u) ∙ first_at f n k u
  | inr u ↦ subst (λ j. at (first_n f n ++ f n ∷ []) j ≡ f j) (sym u) (ap (λ m. at (first_n f n ++ f n ∷ []) m) (sym (length-first_n f n)) ∙ last_at (first_n f n) (f n))
]

same_set : (xs : List Inferred) (k : ℕ) (x : Inferred) → (k < length xs → at xs k ≡ x) → set xs k x ≡ xs
same_set [] k x h = refl
same_set (y ∷ xs) zero x h = ap (λ z. z ∷ xs) (sym (h (omega arith)))
same_set (y ∷ xs) (suc k) x h = ap (λ zs. y ∷ zs) (same_set xs k x (λ w. h (omega arith)))

module _ (p : Program) where
  pub known_none : (t : Tables) (i l n : ℕ) (ns : List Inferred) → n ≡ length (local_names (routine_at p i)) → ns ≡ first_n (λ k. Unset) n → AreBelow ns (at_start (family_of t) i (routine_at p i) l)
  known_none t i l n ns e f =
      let full = at_start (family_of t) i (routine_at p i) l in
      subst (λ xs. AreBelow xs full) (sym (f ∙ ap (λ m. first_n (λ k. Unset) m) e))
      (below_of (first_n (λ k. Unset) (length (local_names (routine_at p i)))) full (names_first (λ k. Unset) (λ k. family_of t (cell.Start i l k)) (length (local_names (routine_at p i))) (λ k. refl)))

  pub known_more : (t : Tables) (i l k : ℕ) (ns ms : List Inferred) (x : Inferred) → x ≡ family_of t (cell.Start i l k) → ms ≡ set ns k x → AreBelow ns (at_start (family_of t) i (routine_at p i) l) → AreBelow ms (at_start (family_of t) i (routine_at p i) l)
  known_more t i l k ns ms x e f h =
      let g : ℕ → Inferred = λ j. family_of t (cell.Start i l j) in
      let n = length (local_names (routine_at p i)) in
      let full = first_n g n in
      let back : set full k (g k) ≡ full = same_set full k (g k) (λ w. first_at g n k (subst (λ m. k < m) (length-first_n g n) w)) in
      subst (λ xs. AreBelow xs full) (sym (f ∙ ap (λ y. set ns k y) e))
      (subst (λ xs. AreBelow (set ns k (g k)) xs) back
      (below_of (set ns k (g k)) (set full k (g k)) (names_set ns full k (g k) (g k) (names_of ns full h) (below_refl (g k)))))

  -- ---- Names that spread

  pub spread_none : (w : Flow) (i l : ℕ) (f : Routine) (ns : List Inferred) (a : Tables) → Spreads p w i f l ns a a false
  spread_none w i l f ns a = steps_none p a (λ h. (k : ℕ) → Goes w h i f l k (at ns k)) (λ t. Unit {0}) tt

  pub spread_more : (w : Flow) (k i l : ℕ) (f : Routine) (ns : List Inferred) (a b d : Tables) (x : Inferred) (r s q : Bool) → Spreads p w i f l ns a b r → x ≡ at ns k → HasGone p w i f l k x b d s → q ≡ (r || s) → Spreads p w i f l ns a d q
  spread_more w k i l f ns a b d x r s q y is z o =
      subst (λ v. Spreads p w i f l ns a d v) (sym o)
      (steps_as p a d (r || s) (λ h. ((j : ℕ) → Goes w h i f l j (at ns j)) × Goes w h i f l k x) (λ h. (j : ℕ) → Goes w h i f l j (at ns j)) (λ t. Unit {0} × Gone w t i f l k x) (λ t. Unit {0})
      (λ h u. (u, subst (λ v. Goes w h i f l k v) (sym is) (u k))) (λ t u. tt)
      (steps_then p a b d r s (λ h. (j : ℕ) → Goes w h i f l j (at ns j)) (λ h. Goes w h i f l k x) (λ t. Unit {0}) (λ t. Gone w t i f l k x) y z))

  -- ---- A line that is evaluated

  -- in the code's own shape
  pub looked : (a b d : Tables) (r s : Bool) (i : ℕ) (fn : Function) (l : ℕ) (line : Line) (ns ms : List Inferred) (v w : Progress) (ds : List Demand) (o : Flow) → IsFunction p i fn → IsLineOf p fn l line → AreBelow ns (at_start (family_of a) i (routine_at p i) l) → v ≡ fresh ns → w ≡ see_statement (context_at p i) (family_of a) (line_action line) v → ds ≡ w.demands → Settles p ds a b r → o ≡ flow_of (binding_at p i) (line_action line) → ms ≡ w.names → Spreads p o i (routine_of p fn) l ms b d s → Keeps p a d
  looked a b d r s i fn l line ns ms v w ds o there here e1 e2 e3 e4 y e5 e6 z =
      let f = routine_of p fn in
      let x = line_action line in
      let same : routine_at p i ≡ f = routine_there p i fn there in
      let made : w ≡ see_statement (context_of (declarations p.vars) (plain p) f) (family_of a) x (fresh ns) = e3 ∙ ap (λ u. see_statement (context_at p i) (family_of a) x u) e2 ∙ ap (λ g. see_statement (context_of (declarations p.vars) (plain p) g) (family_of a) x (fresh ns)) same in
      let way : o ≡ flow_of (binding_in f) x = e5 ∙ ap (λ g. flow_of (binding_in g) x) same in
      let lower : NamesBelow ns (at_start (family_of a) i f l) = names_of ns (at_start (family_of a) i f l) (subst (λ g. AreBelow ns (at_start (family_of a) i g l)) same e1) in
      record {
        under = λ h m u.
            let up : Follows h (see_statement (context_of (declarations p.vars) (plain p) f) (family_of a) x (fresh ns)) (seen_in p h i f l x) = line_rises p (family_of a) h i f l x ns u.cells (names_trans ns (at_start (family_of a) i f l) (at_start h i f l) lower (start_rises (family_of a) h i f l u.cells)) in
            let met = m.lines i l f x (record { routine = routine_is p i fn there; here = here }) in
            let down : Follows h w (seen_in p h i f l x) = subst (λ q. Follows h q (seen_in p h i f l x)) (sym made) up in
            let goes : (k : ℕ) → Goes o h i f l k (at ms k) = λ k. subst (λ q. Goes q h i f l k (at ms k)) (sym way) (reaches_go (flow_of (binding_in f) x) h i f l k (at ms k) (seen_in p h i f l x).names (subst (λ us. below (at us k) (at (seen_in p h i f l x).names k) ≡ true) (sym e6) (names_at w.names (seen_in p h i f l x).names down.names k)) met.flows) in
            z.under h (y.under h u (subst (λ us. AreMet h us) (sym e4) (down.demands met.demands))) goes;
        room = let j = steps_room p a b r (λ h. AreMet h ds) (λ t. AreMet (family_of t) ds) y in let k = steps_room p b d s (λ h. (q : ℕ) → Goes o h i f l q (at ms q)) (λ t. Unit {0}) z in omega arith;
      }

  -- ---- A local name that a line does not assign

  -- a family that meets the rules grants that it goes on
  free_lands : (a : Tables) (h : Family) (i l m k : ℕ) (fn : Function) (line : Line) → Meets p h → IsUnder p a h → IsFunction p i fn → IsLineOf p fn l line → k < length (local_names (routine_at p i)) → stands_among k (assigned_numbers (binding_at p i) (action_mentions (line_action line))) ≡ false → leads (flow_of (binding_at p i) (line_action line)) l m ≡ true → Lands h i (routine_of p fn) m k (look a (Here (cell.Start i l k)))
  free_lands a h i l m k fn line rules u there here within free way =
      let f = routine_of p fn in
      let x = line_action line in
      let same : routine_at p i ≡ f = routine_there p i fn there in
      let free' : stands_among k (assigned_numbers (binding_in f) (action_mentions x)) ≡ false = subst (λ g. stands_among k (assigned_numbers (binding_in g) (action_mentions x)) ≡ false) same free in
      let way' : leads (flow_of (binding_in f) x) l m ≡ true = subst (λ g. leads (flow_of (binding_in g) x) l m ≡ true) same way in
      let within' : k < length (local_names f) = subst (λ g. k < length (local_names g)) same within in
      let met = rules.lines i l f x (record { routine = routine_is p i fn there; here = here }) in
      let after = (seen_in p h i f l x).names in
      let stays : at after k ≡ h (cell.Start i l k) = kept (context_of (declarations p.vars) (plain p) f) h k x (fresh (at_start h i f l)) free' ∙ first_at (λ j. h (cell.Start i l j)) (length (local_names f)) k within' in
      lands_down h i f m k (look a (Here (cell.Start i l k))) (at after k) (subst (λ y. below (look a (Here (cell.Start i l k))) y ≡ true) (sym stays) (u.cells (cell.Start i l k))) (reaches_lands h i f after m (met.flows m way') k)

  line_spot : (ls : List Action) (i l k : ℕ) (x : Action) → line_at ls l ≡ Some x → spot_in i l k ≡ Here (cell.Start i l k)
  line_spot ls i zero k x e = cc
  line_spot ls i (suc l) k x e = refl

  pub passed_to : (a b : Tables) (r : Bool) (i l m k : ℕ) (fn : Function) (line : Line) → IsFunction p i fn → IsLineOf p fn l line → k < length (local_names (routine_at p i)) → stands_among k (assigned_numbers (binding_at p i) (action_mentions (line_action line))) ≡ false → leads (flow_of (binding_at p i) (line_action line)) l m ≡ true → Landed p i (routine_of p fn) m k (look a (spot_in i l k)) a b r → Keeps p a b
  passed_to a b r i l m k fn line there here within free way s =
      let f = routine_of p fn in
      let spot : spot_in i l k ≡ Here (cell.Start i l k) = line_spot f.lines i l k (line_action line) here in
      record {
        under = λ h rules u. s.under h u (subst (λ z. Lands h i f m k (look a z)) (sym spot) (free_lands a h i l m k fn line rules u there here within free way));
        room = steps_room p a b r (λ h. Lands h i f m k (look a (spot_in i l k))) (λ t. Lands (family_of t) i f m k (look a (spot_in i l k))) s;
      }

  pub passed_hub : (a b : Tables) (r : Bool) (i l k : ℕ) (fn : Function) (line : Line) → IsFunction p i fn → IsLineOf p fn l line → k < length (local_names (routine_at p i)) → stands_among k (assigned_numbers (binding_at p i) (action_mentions (line_action line))) ≡ false → flow_of (binding_at p i) (line_action line) ≡ flow.Any → TablesRise a b (Hub i k) (look a (spot_in i l k)) r → Keeps p a b
  passed_hub a b r i l k fn line there here within free any s =
      let f = routine_of p fn in
      let spot : spot_in i l k ≡ Here (cell.Start i l k) = line_spot f.lines i l k (line_action line) here in
      let x = look a (spot_in i l k) in
      let t = hub_steps p a b i k f x r (routine_is p i fn there) s in
      record {
        under = λ h rules u. t.under h u (λ m. subst (λ z. Lands h i f m k (look a z)) (sym spot) (free_lands a h i l m k fn line rules u there here within free (ap (λ w. leads w l m) any)));
        room = steps_room p a b r (λ h. (m : ℕ) → Lands h i f m k x) (λ u. below x (look u (Hub i k)) ≡ true) t;
      }

  -- ---- Lines by their numbers

  pub got_line : (fn : Function) (l : ℕ) (line : Line) → (l ≡ 0 → ⊥) → slice_get fn.lines (l - 1) ≡ Some line → IsLineOf p fn l line
  got_line fn zero line h e = absurd (h refl)
  got_line fn (suc l) line h e = mapped line_action fn.lines l line (subst (λ m. slice_get fn.lines m ≡ Some line) (let q : suc l - 1 ≡ l = omega arith in q) e)

  pub got_indexed : (fn : Function) (l : ℕ) (line : Line) (ls : List Line) → (l ≡ 0 → ⊥) → ls ≡ fn.lines → l ≤ length ls → line ≡ get_or ls (l - 1) line → IsLineOf p fn l line
  got_indexed fn l line ls h e w i = got_line fn l line h (subst (λ xs. slice_get xs (l - 1) ≡ Some line) e (found_at ls (l - 1) line (less l (length ls) h w) i))
    where
      less : (a n : ℕ) → (a ≡ 0 → ⊥) → a ≤ n → a - 1 < n
      less zero n h w = absurd (h refl)
      less (suc a) n h w = omega arith

same_test : (m : ℕ) → nat_eq m m ≡ true
same_test m = grind (arith, nat_tests)

left_test : (a b : Bool) → a ≡ true → (a || b) ≡ true
left_test a b h = grind arith

right_test : (a b : Bool) → b ≡ true → (a || b) ≡ true
right_test a b h = grind arith

pub leads_next : (w u : Flow) (l : ℕ) → u ≡ w → u ≡ flow.Next → leads w l (l + 1) ≡ true
leads_next w u l e f = ap (λ v. leads v l (l + 1)) (sym e ∙ f) ∙ same_test (l + 1)

pub leads_to : (w u : Flow) (l m : ℕ) → u ≡ w → u ≡ flow.To m → leads w l m ≡ true
leads_to w u l m e f = ap (λ v. leads v l m) (sym e ∙ f) ∙ same_test m

pub leads_either : (w u : Flow) (l m : ℕ) → u ≡ w → u ≡ flow.Either m → leads w l m ≡ true
leads_either w u l m e f = ap (λ v. leads v l m) (sym e ∙ f) ∙ left_test (nat_eq m m) (nat_eq m (l + 1)) (same_test m)

pub leads_either_next : (w u : Flow) (l m : ℕ) → u ≡ w → u ≡ flow.Either m → leads w l (l + 1) ≡ true
leads_either_next w u l m e f = ap (λ v. leads v l (l + 1)) (sym e ∙ f) ∙ right_test (nat_eq (l + 1) m) (nat_eq (l + 1) (l + 1)) (same_test (l + 1))

pub ruleset way = (leads_next, leads_to, leads_either, leads_either_next)

pub ruleset known = (known_none, known_more)

pub ruleset spreading = (spread_none, spread_more)

-- in the code's own shape
pub assigned_names : (b : ℕ → Binding) (s : Statement) (ms : List Mention) (out : List ℕ) → ms ≡ statement_mentions s → out ≡ assigned_numbers b ms → out ≡ assigned_numbers b (action_mentions (action_of s))
assigned_names b s ms out e f = f ∙ ap (λ xs. assigned_numbers b xs) (e ∙ action_names s)
