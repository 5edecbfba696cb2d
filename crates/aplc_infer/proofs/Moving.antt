-- What the rules grant: lines, functions, passes, and the least family at the end.
use Rattle.std.proofs.Common.{◌≡◌, ◌∙◌, sym, ap, refl, subst, ℕ, zero, suc, ◌+◌, ◌<◌, ◌≤◌, List, [], ◌∷◌, length, map, Option, Some, None, Bool, true, false, ◌||◌, nat_eq, arith, inl, inr, ◌⊎◌, get_or, slice_get, option_map}
use Rattle.std.proofs.lemmas.Option.{slice_get_within}
use Rattle.std.proofs.lemmas.List.{length-map}
use Rattle.std.proofs.lemmas.Bool.Decides.{nat_tests}
use Rattle.aplc_arr.specs.Delayed.{first_n}
use Rattle.aplc_syntax.specs.declared.tree.Line.{Line}
use Rattle.aplc_syntax.specs.declared.tree.Function.{Function}
use Rattle.aplc_syntax.specs.declared.tree.Program.{Program}
use Rattle.aplc_names.specs.PlainPrograms.{Action, Routine, plain, routine_of, line_action, name_number}
use Rattle.aplc_names.specs.Runs.{line_at}
use Rattle.aplc_infer.specs.declared.fact.Inferred.{Inferred}
use Rattle.aplc_infer.specs.declared.fact.Inferred.TheVariants.{Unset, Of}
use Rattle.aplc_infer.specs.declared.cell.Cell.TheVariants as cell
use Rattle.aplc_infer.specs.declared.cell.Demand.{Demand}
use Rattle.aplc_infer.specs.declared.cell.Flow.{Flow}
use Rattle.aplc_infer.specs.declared.cell.Flow.TheVariants as flow
use Rattle.aplc_infer.specs.declared.tables.Spot.{Spot}
use Rattle.aplc_infer.specs.declared.tables.Spot.TheVariants.{Here, Hub}
use Rattle.aplc_infer.specs.declared.tables.Tables.{Tables}
use Rattle.aplc_infer.specs.Facts.{below, is_unset}
use Rattle.aplc_infer.specs.Seeing.{Family, declarations, context_of, local_names, number_in, at, Progress, fresh, see_statement, binding_in, flow_of, leads}
use Rattle.aplc_infer.specs.Lookups.{routine_at, binding_at, context_at}
use Rattle.aplc_infer.specs.Families.{AreMet, IsAnswered, ReachesLine, Reaches, at_start, with_parameter, at_entry, IsBelow, IsLeastOf}
use Rattle.aplc_infer.specs.Tables.{look, family_of, room_of, Forgets}
use Rattle.aplc_infer.specs.Steps.{Meets, seen_in, IsFunction, LeavesWith, LandsIn, Lands, Goes, Gone, IsUnder, Steps, Settles, Landed, AllGone, Moves, LineDone, LinesDone, EntryDone, HubDone, HubsDone, FunctionDone, FunctionsDone, Keeps, Rounds}
use Rattle.aplc_infer.proofs.Order.{below_trans}
use Rattle.aplc_infer.proofs.Monotone.{NamesBelow, names_at, names_set, names_first, Follows, statement_rises}
use Rattle.aplc_infer.proofs.AllRules.{rules_rise}
use Rattle.aplc_infer.proofs.Raised.{found_at}
use Rattle.aplc_infer.proofs.Stepping.{mapped, map_back, routine_is, routine_there, steps_then, steps_as, steps_by, steps_none, lands_unset}

-- ---- Names that come to lines

reaches_leave : (r : Option ℕ) (h : Family) (i : ℕ) (f : Routine) (ns : List Inferred) → IsAnswered h i f r ns → (k : ℕ) → LeavesWith r h i f k (at ns k)
reaches_leave None h i f ns w k = tt
reaches_leave (Some n) h i f ns w k = λ e. subst (λ j. below (at ns j) (h (cell.Answer i)) ≡ true) (sym e) w

leave_reaches : (r : Option ℕ) (h : Family) (i : ℕ) (f : Routine) (ns : List Inferred) → ((k : ℕ) → LeavesWith r h i f k (at ns k)) → IsAnswered h i f r ns
leave_reaches None h i f ns w = tt
leave_reaches (Some n) h i f ns w = w (number_in n (local_names f)) refl

reaches_in : (o : Option Action) (h : Family) (i : ℕ) (f : Routine) (ns : List Inferred) (m : ℕ) → ReachesLine h i f ns m o → (k : ℕ) → LandsIn o h i f m k (at ns k)
reaches_in None h i f ns m w k = reaches_leave f.result h i f ns w k
reaches_in (Some a) h i f ns m w k = w k

lands_in : (o : Option Action) (h : Family) (i : ℕ) (f : Routine) (ns : List Inferred) (m : ℕ) → ((k : ℕ) → LandsIn o h i f m k (at ns k)) → ReachesLine h i f ns m o
lands_in None h i f ns m w = leave_reaches f.result h i f ns w
lands_in (Some a) h i f ns m w = w

pub reaches_lands : (h : Family) (i : ℕ) (f : Routine) (ns : List Inferred) (m : ℕ) → Reaches h i f ns m → (k : ℕ) → Lands h i f m k (at ns k)
reaches_lands h i f ns m w k = reaches_in (line_at f.lines m) h i f ns m w k

lands_reach : (h : Family) (i : ℕ) (f : Routine) (ns : List Inferred) (m : ℕ) → ((k : ℕ) → Lands h i f m k (at ns k)) → Reaches h i f ns m
lands_reach h i f ns m w = lands_in (line_at f.lines m) h i f ns m w

leaves_down : (r : Option ℕ) (h : Family) (i : ℕ) (f : Routine) (k : ℕ) (x y : Inferred) → below x y ≡ true → LeavesWith r h i f k y → LeavesWith r h i f k x
leaves_down None h i f k x y b w = tt
leaves_down (Some n) h i f k x y b w = λ e. below_trans x y (h (cell.Answer i)) b (w e)

lands_down_in : (o : Option Action) (h : Family) (i : ℕ) (f : Routine) (m k : ℕ) (x y : Inferred) → below x y ≡ true → LandsIn o h i f m k y → LandsIn o h i f m k x
lands_down_in None h i f m k x y b w = leaves_down f.result h i f k x y b w
lands_down_in (Some a) h i f m k x y b w = below_trans x y (h (cell.Start i m k)) b w

pub lands_down : (h : Family) (i : ℕ) (f : Routine) (m k : ℕ) (x y : Inferred) → below x y ≡ true → Lands h i f m k y → Lands h i f m k x
lands_down h i f m k x y b w = lands_down_in (line_at f.lines m) h i f m k x y b w

same_number : (m : ℕ) → nat_eq m m ≡ true
same_number m = grind (arith, nat_tests)

either_left : (a b : Bool) → a ≡ true → (a || b) ≡ true
either_left a b h = grind arith

either_right : (a b : Bool) → b ≡ true → (a || b) ≡ true
either_right a b h = grind arith

-- where names reach all lines that a line leads to, each of them goes there
pub reaches_go : (w : Flow) (h : Family) (i : ℕ) (f : Routine) (l k : ℕ) (x : Inferred) (ns : List Inferred) → below x (at ns k) ≡ true → ((m : ℕ) → leads w l m ≡ true → Reaches h i f ns m) → Goes w h i f l k x
reaches_go flow.Next h i f l k x ns b e = lands_down h i f (l + 1) k x (at ns k) b (reaches_lands h i f ns (l + 1) (e (l + 1) (same_number (l + 1))) k)
reaches_go (flow.To t) h i f l k x ns b e = lands_down h i f t k x (at ns k) b (reaches_lands h i f ns t (e t (same_number t)) k)
reaches_go (flow.Either t) h i f l k x ns b e = (
  lands_down h i f t k x (at ns k) b (reaches_lands h i f ns t (e t (either_left (nat_eq t t) (nat_eq t (l + 1)) (same_number t))) k),
  lands_down h i f (l + 1) k x (at ns k) b (reaches_lands h i f ns (l + 1) (e (l + 1) (either_right (nat_eq (l + 1) t) (nat_eq (l + 1) (l + 1)) (same_number (l + 1)))) k),
)
reaches_go flow.Any h i f l k x ns b e = λ m. lands_down h i f m k x (at ns k) b (reaches_lands h i f ns m (e m refl) k)

-- ---- What is above a line

entry_parameter : (f : Routine) (o : Option ℕ) (x y : Inferred) (ns ms : List Inferred) → below x y ≡ true → NamesBelow ns ms → NamesBelow (with_parameter f o x ns) (with_parameter f o y ms)
entry_parameter f None x y ns ms b q = q
entry_parameter f (Some n) x y ns ms b q = names_set ns ms (number_in n (local_names f)) x y q b

entry_rises : (g h : Family) (i : ℕ) (f : Routine) → IsBelow g h → NamesBelow (at_entry g i f) (at_entry h i f)
entry_rises g h i f b =
    let blank = first_n (λ k. Unset) (length (local_names f)) in
    entry_parameter f f.left (g (cell.Left i)) (h (cell.Left i)) (with_parameter f f.right (g (cell.Right i)) blank) (with_parameter f f.right (h (cell.Right i)) blank) (b (cell.Left i))
    (entry_parameter f f.right (g (cell.Right i)) (h (cell.Right i)) blank blank (b (cell.Right i)) (names_first (λ k. Unset) (λ k. Unset) (length (local_names f)) (λ k. refl)))

pub start_rises : (g h : Family) (i : ℕ) (f : Routine) (l : ℕ) → IsBelow g h → NamesBelow (at_start g i f l) (at_start h i f l)
start_rises g h i f l b = names_first (λ k. g (cell.Start i l k)) (λ k. h (cell.Start i l k)) (length (local_names f)) (λ k. b (cell.Start i l k))

module _ (p : Program) where
  -- a line under a lower family and lower names
  pub line_rises : (g h : Family) (i : ℕ) (f : Routine) (l : ℕ) (x : Action) (ns : List Inferred) → IsBelow g h → NamesBelow ns (at_start h i f l) → Follows h (see_statement (context_of (declarations p.vars) (plain p) f) g x (fresh ns)) (seen_in p h i f l x)
  line_rises g h i f l x ns b q =
      statement_rises g h b (context_of (declarations p.vars) (plain p) f) (rules_rise p.origin) x (fresh ns) (fresh (at_start h i f l))
      (record { names = q; demands = λ m. m; fine = λ e. e })

  -- ---- A line

  pub line_moves : (a b d : Tables) (r s q : Bool) (i : ℕ) (f : Routine) (l : ℕ) (x : Action) → slice_get (plain p).routines i ≡ Some f → line_at f.lines l ≡ Some x → Settles p (seen_in p (family_of a) i f l x).demands a b r → AllGone p (flow_of (binding_in f) x) i f l (seen_in p (family_of a) i f l x).names b d s → q ≡ (r || s) → Moves p a d q (LineDone p i f l x)
  line_moves a b d r s q i f l x there here y z o =
      let ds = (seen_in p (family_of a) i f l x).demands in
      let ns = (seen_in p (family_of a) i f l x).names in
      let w = flow_of (binding_in f) x in
      subst (λ v. Moves p a d v (LineDone p i f l x)) (sym o)
      (steps_by p a d (r || s) (λ h. AreMet h ds × ((k : ℕ) → Goes w h i f l k (at ns k))) (Meets p) (λ t. AreMet (family_of t) ds × ((k : ℕ) → Gone w t i f l k (at ns k))) (LineDone p i f l x)
      (λ h u m.
      let up = line_rises (family_of a) h i f l x (at_start (family_of a) i f l) u.cells (start_rises (family_of a) h i f l u.cells) in
      let met = m.lines i l f x (record { routine = there; here = here }) in
      (up.demands met.demands, λ k. reaches_go w h i f l k (at ns k) (seen_in p h i f l x).names (names_at ns (seen_in p h i f l x).names up.names k) met.flows))
      (λ e v. subst (λ t. AreMet (family_of d) (seen_in p (family_of t) i f l x).demands × ((k : ℕ) → Gone w d i f l k (at (seen_in p (family_of t) i f l x).names k))) (sym e) v)
      (steps_then p a b d r s (λ h. AreMet h ds) (λ h. (k : ℕ) → Goes w h i f l k (at ns k)) (λ t. AreMet (family_of t) ds) (λ t. (k : ℕ) → Gone w t i f l k (at ns k)) y z))

  -- in the code's own shape
  pub line_moved : (a b d : Tables) (r s q : Bool) (i : ℕ) (fn : Function) (l : ℕ) (line : Line) (ns ms : List Inferred) (v w : Progress) (ds : List Demand) (o : Flow) → IsFunction p i fn → line_at (routine_of p fn).lines l ≡ Some (line_action line) → ns ≡ at_start (family_of a) i (routine_of p fn) l → v ≡ fresh ns → w ≡ see_statement (context_at p i) (family_of a) (line_action line) v → ds ≡ w.demands → Settles p ds a b r → o ≡ flow_of (binding_at p i) (line_action line) → ms ≡ w.names → AllGone p o i (routine_of p fn) l ms b d s → q ≡ (r || s) → Moves p a d q (LineDone p i (routine_of p fn) l (line_action line))
  line_moved a b d r s q i fn l line ns ms v w ds o there here e1 e2 e3 e4 y e5 e6 z e7 =
      let f = routine_of p fn in
      let x = line_action line in
      let same : routine_at p i ≡ f = routine_there p i fn there in
      let seen : w ≡ seen_in p (family_of a) i f l x = e3 ∙ ap (λ u. see_statement (context_at p i) (family_of a) x u) (e2 ∙ ap (λ us. fresh us) e1) ∙ ap (λ g. see_statement (context_of (declarations p.vars) (plain p) g) (family_of a) x (fresh (at_start (family_of a) i f l))) same in
      let way : o ≡ flow_of (binding_in f) x = e5 ∙ ap (λ g. flow_of (binding_in g) x) same in
      line_moves a b d r s q i f l x (routine_is p i fn there) here
      (subst (λ us. Settles p us a b r) (e4 ∙ ap (λ (u : Progress). u.demands) seen) y)
      (subst (λ u. AllGone p u i f l (seen_in p (family_of a) i f l x).names b d s) way (subst (λ us. AllGone p o i f l us b d s) (e6 ∙ ap (λ (u : Progress). u.names) seen) z))
      e7

  pub start_there : (a : Tables) (i : ℕ) (fn : Function) (l : ℕ) (ns : List Inferred) → IsFunction p i fn → ns ≡ at_start (family_of a) i (routine_at p i) l → ns ≡ at_start (family_of a) i (routine_of p fn) l
  start_there a i fn l ns there e = e ∙ ap (λ f. at_start (family_of a) i f l) (routine_there p i fn there)

  -- ---- The entry and the hub

  pub entry_made : (a : Tables) (i n : ℕ) (fn : Function) (ns ms os : List Inferred) (x y : Inferred) → IsFunction p i fn → n ≡ length (local_names (routine_at p i)) → ns ≡ first_n (λ k. Unset) n → x ≡ family_of a (cell.Right i) → ms ≡ with_parameter (routine_at p i) (option_map name_number fn.right) x ns → y ≡ family_of a (cell.Left i) → os ≡ with_parameter (routine_at p i) (option_map name_number fn.left) y ms → os ≡ at_entry (family_of a) i (routine_of p fn)
  entry_made a i n fn ns ms os x y there e1 e2 e3 e4 e5 e6 =
      subst (λ f. os ≡ with_parameter f (option_map name_number fn.left) (family_of a (cell.Left i)) (with_parameter f (option_map name_number fn.right) (family_of a (cell.Right i)) (first_n (λ k. Unset) (length (local_names f))))) (routine_there p i fn there)
      (e6
      ∙ ap (λ z. with_parameter (routine_at p i) (option_map name_number fn.left) z ms) e5
      ∙ ap (λ zs. with_parameter (routine_at p i) (option_map name_number fn.left) (family_of a (cell.Left i)) zs)
      (e4 ∙ ap (λ z. with_parameter (routine_at p i) (option_map name_number fn.right) z ns) e3 ∙ ap (λ zs. with_parameter (routine_at p i) (option_map name_number fn.right) (family_of a (cell.Right i)) zs) (e2 ∙ ap (λ m. first_n (λ k. Unset) m) e1)))

  pub entry_moves : (a b : Tables) (r : Bool) (i : ℕ) (fn : Function) (ns : List Inferred) → IsFunction p i fn → ns ≡ at_entry (family_of a) i (routine_of p fn) → AllGone p (flow.To 1) i (routine_of p fn) 0 ns a b r → Moves p a b r (EntryDone i (routine_of p fn))
  entry_moves a b r i fn ns there is x =
      let f = routine_of p fn in
      steps_by p a b r (λ h. (k : ℕ) → Goes (flow.To 1) h i f 0 k (at ns k)) (Meets p) (λ t. (k : ℕ) → Gone (flow.To 1) t i f 0 k (at ns k)) (EntryDone i f)
      (λ h u m k. lands_down h i f 1 k (at ns k) (at (at_entry h i f) k)
      (subst (λ z. below (at z k) (at (at_entry h i f) k) ≡ true) (sym is) (names_at (at_entry (family_of a) i f) (at_entry h i f) (entry_rises (family_of a) h i f u.cells) k))
      (reaches_lands h i f (at_entry h i f) 1 (m.entries i f (routine_is p i fn there)) k))
      (λ e z k. subst (λ t. Lands (family_of b) i f 1 k (at (at_entry (family_of t) i f) k)) (sym e) (subst (λ y. Lands (family_of b) i f 1 k (at y k)) is (z k)))
      x

  both_move : (a b d : Tables) (r s : Bool) (D E : Tables → Type 0) → Moves p a b r D → Moves p b d s E → Moves p a d (r || s) (λ t. D t × E t)
  both_move a b d r s D E x y = steps_as p a d (r || s) (λ h. Meets p h × Meets p h) (Meets p) (λ t. D t × E t) (λ t. D t × E t) (λ h m. (m, m)) (λ t z. z) (steps_then p a b d r s (Meets p) (Meets p) D E x y)

  below_more : (k n : ℕ) → k < n + 1 → (k < n) ⊎ (k ≡ n)
  below_more k n h = grind arith

  -- what the hub has for a name went to one line more
  pub hub_moves : (a b : Tables) (r : Bool) (i : ℕ) (fn : Function) (m k : ℕ) → IsFunction p i fn → Landed p i (routine_of p fn) m k (look a (Hub i k)) a b r → Moves p a b r (λ t. Lands (family_of t) i (routine_of p fn) m k (look t (Hub i k)))
  hub_moves a b r i fn m k there x =
      let f = routine_of p fn in
      steps_by p a b r (λ h. Lands h i f m k (look a (Hub i k))) (Meets p) (λ t. Lands (family_of t) i f m k (look a (Hub i k))) (λ t. Lands (family_of t) i f m k (look t (Hub i k)))
      (λ h u w. u.hubs i f (routine_is p i fn there) m k)
      (λ e z. subst (λ t. Lands (family_of b) i f m k (look t (Hub i k))) (sym e) z)
      x

  unset_of : (x : Inferred) → is_unset x ≡ true → x ≡ Unset
  unset_of Unset e = refl
  unset_of (Of k s) e = cc

  pub hub_idle : (i : ℕ) (fn : Function) (k : ℕ) (x : Inferred) (b : Bool) (a : Tables) → x ≡ look a (Hub i k) → b ≡ is_unset x → b ≡ true → Moves p a a false (λ t. (m : ℕ) → Lands (family_of t) i (routine_of p fn) m k (look t (Hub i k)))
  hub_idle i fn k x b a e t h =
      let f = routine_of p fn in
      steps_none p a (Meets p) (λ u. (m : ℕ) → Lands (family_of u) i f m k (look u (Hub i k))) (λ m. subst (λ z. Lands (family_of a) i f m k z) (sym (sym e ∙ unset_of x (sym t ∙ h))) (lands_unset (family_of a) i f m k))

  pub hub_none : (i : ℕ) (f : Routine) (k : ℕ) (a : Tables) → Moves p a a false (HubDone i f 0 k)
  hub_none i f k a = steps_none p a (Meets p) (HubDone i f 0 k) (λ m h. absurd (omega arith))

  pub hub_more : (n i : ℕ) (fn : Function) (k : ℕ) (a b d : Tables) (r s q : Bool) → IsFunction p i fn → Moves p a b r (HubDone i (routine_of p fn) n k) → Landed p i (routine_of p fn) n k (look b (Hub i k)) b d s → q ≡ (r || s) → Moves p a d q (HubDone i (routine_of p fn) (n + 1) k)
  hub_more n i fn k a b d r s q there x y o =
      let f = routine_of p fn in
      subst (λ z. Moves p a d z (HubDone i f (n + 1) k)) (sym o)
      (steps_as p a d (r || s) (Meets p) (Meets p) (λ t. HubDone i f n k t × Lands (family_of t) i f n k (look t (Hub i k))) (HubDone i f (n + 1) k) (λ h m. m)
      (λ t z m l. elim (below_more m n l) as (λ _. Lands (family_of t) i f m k (look t (Hub i k))) [ inl u ↦ z.0 m u | inr u ↦ subst (λ j. Lands (family_of t) i f j k (look t (Hub i k))) (sym u) z.1 ])
      (both_move a b d r s (HubDone i f n k) (λ t. Lands (family_of t) i f n k (look t (Hub i k))) x (hub_moves b d s i fn n k there y)))

  -- numbers of lines beyond the last
  beyond_get : {A : Type 0} (xs : List A) (m : ℕ) → length xs ≤ m → slice_get xs m ≡ None
  beyond_get [] m h = refl
  beyond_get (x ∷ xs) zero h = absurd (omega arith)
  beyond_get (x ∷ xs) (suc m) h = beyond_get xs m (omega arith)

  beyond_line : (ls : List Action) (m : ℕ) → length ls + 1 ≤ m → line_at ls m ≡ None
  beyond_line ls zero h = absurd (omega arith)
  beyond_line ls (suc m) h = beyond_get ls m (omega arith)

  within_or : (k n : ℕ) → (k < n) ⊎ (n ≤ k)
  within_or k n = grind arith

  hub_all : (t : Tables) (i : ℕ) (f : Routine) (n k : ℕ) → length f.lines + 1 ≤ n → HubDone i f n k t → (m : ℕ) → Lands (family_of t) i f m k (look t (Hub i k))
  hub_all t i f n k w d m = elim (within_or m n) as (λ _. Lands (family_of t) i f m k (look t (Hub i k))) [
    | inl u ↦ d m u
    | inr u ↦ subst (λ o. LandsIn o (family_of t) i f m k (look t (Hub i k))) (sym (beyond_line f.lines m (omega arith))) (d 0 (omega arith))
  ]

  pub hubs_none : (i : ℕ) (f : Routine) (a : Tables) → Moves p a a false (HubsDone i f 0)
  hubs_none i f a = steps_none p a (Meets p) (HubsDone i f 0) (λ k h. absurd (omega arith))

  pub hubs_more : (n i : ℕ) (f : Routine) (a b d : Tables) (r s q : Bool) → Moves p a b r (HubsDone i f n) → Moves p b d s (λ t. (m : ℕ) → Lands (family_of t) i f m n (look t (Hub i n))) → q ≡ (r || s) → Moves p a d q (HubsDone i f (n + 1))
  hubs_more n i f a b d r s q x y o =
      subst (λ z. Moves p a d z (HubsDone i f (n + 1))) (sym o)
      (steps_as p a d (r || s) (Meets p) (Meets p) (λ t. HubsDone i f n t × ((m : ℕ) → Lands (family_of t) i f m n (look t (Hub i n)))) (HubsDone i f (n + 1)) (λ h m. m)
      (λ t z k l. elim (below_more k n l) as (λ _. (m : ℕ) → Lands (family_of t) i f m k (look t (Hub i k))) [ inl u ↦ z.0 k u | inr u ↦ subst (λ j. (m : ℕ) → Lands (family_of t) i f m j (look t (Hub i j))) (sym u) z.1 ])
      (both_move a b d r s (HubsDone i f n) (λ t. (m : ℕ) → Lands (family_of t) i f m n (look t (Hub i n))) x y))

  -- in the code's own shape
  pub hub_everywhere : (n i : ℕ) (fn : Function) (k : ℕ) (a b : Tables) (r : Bool) → length fn.lines + 1 ≤ n → Moves p a b r (HubDone i (routine_of p fn) n k) → Moves p a b r (λ t. (m : ℕ) → Lands (family_of t) i (routine_of p fn) m k (look t (Hub i k)))
  hub_everywhere n i fn k a b r w x =
      let f = routine_of p fn in
      let long : length f.lines ≡ length fn.lines = length-map fn.lines line_action in
      steps_as p a b r (Meets p) (Meets p) (HubDone i f n k) (λ t. (m : ℕ) → Lands (family_of t) i f m k (look t (Hub i k))) (λ h m. m) (λ t d. hub_all t i f n k (omega arith) d) x

  -- names beyond the row of the hub have nothing there
  pub hubs_moved : (n i : ℕ) (fn : Function) (a b : Tables) (r : Bool) → ((k : ℕ) → n ≤ k → look a (Hub i k) ≡ Unset) → Moves p a b r (HubsDone i (routine_of p fn) n) → Moves p a b r (λ t. (m k : ℕ) → Lands (family_of t) i (routine_of p fn) m k (look t (Hub i k)))
  hubs_moved n i fn a b r none x =
      let f = routine_of p fn in
      steps_by p a b r (Meets p) (Meets p) (HubsDone i f n) (λ t. (m k : ℕ) → Lands (family_of t) i f m k (look t (Hub i k))) (λ h u m. m)
      (λ e z m k. elim (within_or k n) as (λ _. Lands (family_of b) i f m k (look b (Hub i k))) [
        | inl u ↦ z k u m
        | inr u ↦ subst (λ y. Lands (family_of b) i f m k y) (sym (ap (λ t. look t (Hub i k)) e ∙ none k u)) (lands_unset (family_of b) i f m k)
      ])
      x

  -- ---- Lines and functions in a row

  some_same : {A : Type 0} (x y : A) → Some x ≡ Some y → x ≡ y
  some_same x y e = cc

  no_line : (ls : List Action) (l : ℕ) (x : Action) → l ≤ 0 → line_at ls l ≡ Some x → ⊥
  no_line ls zero x h e = cc
  no_line ls (suc l) x h e = absurd (omega arith)

  pub lines_none : (i : ℕ) (f : Routine) (a : Tables) → Moves p a a false (LinesDone p i f 0)
  lines_none i f a = steps_none p a (Meets p) (LinesDone p i f 0) (λ l x h e. absurd (no_line f.lines l x h e))

  most_more : (k n : ℕ) → k ≤ n + 1 → (k ≤ n) ⊎ (k ≡ n + 1)
  most_more k n h = grind arith

  pub lines_more : (n i : ℕ) (f : Routine) (x : Action) (a b d : Tables) (r s q : Bool) → line_at f.lines (n + 1) ≡ Some x → Moves p a b r (LinesDone p i f n) → Moves p b d s (LineDone p i f (n + 1) x) → q ≡ (r || s) → Moves p a d q (LinesDone p i f (n + 1))
  lines_more n i f x a b d r s q here y z o =
      subst (λ v. Moves p a d v (LinesDone p i f (n + 1))) (sym o)
      (steps_as p a d (r || s) (Meets p) (Meets p) (λ t. LinesDone p i f n t × LineDone p i f (n + 1) x t) (LinesDone p i f (n + 1)) (λ h m. m)
      (λ t v l u h e. elim (most_more l n h) as (λ _. LineDone p i f l u t) [
        | inl k ↦ v.0 l u k e
        | inr k ↦ subst (λ j. LineDone p i f j u t) (sym k) (subst (λ y. LineDone p i f (n + 1) y t) (some_same x u (sym here ∙ subst (λ j. line_at f.lines j ≡ Some u) k e)) v.1)
      ])
      (both_move a b d r s (LinesDone p i f n) (LineDone p i f (n + 1) x) y z))

  pub line_there : (n : ℕ) (fn : Function) (line : Line) (ls : List Line) → ls ≡ fn.lines → n < length ls → line ≡ get_or ls n line → line_at (routine_of p fn).lines (n + 1) ≡ Some (line_action line)
  line_there n fn line ls is w e = at_suc (map line_action fn.lines) n (line_action line) (mapped_at (subst (λ xs. slice_get xs n ≡ Some line) is (found_at ls n line w e)))
    where
      at_suc : (xs : List Action) (m : ℕ) (x : Action) → slice_get xs m ≡ Some x → line_at xs (m + 1) ≡ Some x
      at_suc xs m x h = subst (λ j. line_at xs j ≡ Some x) (let e : suc m ≡ m + 1 = omega arith in e) h

      mapped_at : slice_get fn.lines n ≡ Some line → slice_get (map line_action fn.lines) n ≡ Some (line_action line)
      mapped_at h = mapped line_action fn.lines n line h

  -- in the code's own shape
  pub lines_moved : (n i : ℕ) (fn : Function) (line : Line) (ls : List Line) (a b d : Tables) (r s q : Bool) → ls ≡ fn.lines → n < length ls → line ≡ get_or ls n line → Moves p a b r (LinesDone p i (routine_of p fn) n) → Moves p b d s (LineDone p i (routine_of p fn) (n + 1) (line_action line)) → q ≡ (r || s) → Moves p a d q (LinesDone p i (routine_of p fn) (n + 1))
  lines_moved n i fn line ls a b d r s q is w at = lines_more n i (routine_of p fn) (line_action line) a b d r s q (line_there n fn line ls is w at)

  line_within : (ls : List Action) (l : ℕ) (x : Action) → line_at ls l ≡ Some x → l ≤ length ls
  line_within ls zero x e = omega arith
  line_within ls (suc l) x e = let w : l < length ls = slice_get_within ls l x e in omega arith

  pub lines_all : (n i : ℕ) (fn : Function) (a b : Tables) (r : Bool) → length fn.lines ≤ n → Moves p a b r (LinesDone p i (routine_of p fn) n) → Moves p a b r (λ t. (l : ℕ) (x : Action) → line_at (routine_of p fn).lines l ≡ Some x → LineDone p i (routine_of p fn) l x t)
  lines_all n i fn a b r w x =
      let f = routine_of p fn in
      let long : length f.lines ≡ length fn.lines = length-map fn.lines line_action in
      steps_as p a b r (Meets p) (Meets p) (LinesDone p i f n) (λ t. (l : ℕ) (x : Action) → line_at f.lines l ≡ Some x → LineDone p i f l x t) (λ h m. m)
      (λ t d l y e. d l y (let k : l ≤ length f.lines = line_within f.lines l y e in omega arith) e) x

  pub function_moves : (i : ℕ) (f : Routine) (a b d e : Tables) (r s t q o : Bool) → Moves p a b r (EntryDone i f) → Moves p b d s (λ u. (l : ℕ) (x : Action) → line_at f.lines l ≡ Some x → LineDone p i f l x u) → Moves p d e t (λ u. (m k : ℕ) → Lands (family_of u) i f m k (look u (Hub i k))) → q ≡ (r || s) → o ≡ (q || t) → Moves p a e o (FunctionDone p i f)
  function_moves i f a b d e r s t q o x y z g h =
      subst (λ k. Moves p a e k (FunctionDone p i f)) (sym (h ∙ ap (λ k. k || t) g))
      (steps_as p a e ((r || s) || t) (Meets p) (Meets p) (λ u. (EntryDone i f u × ((l : ℕ) (x : Action) → line_at f.lines l ≡ Some x → LineDone p i f l x u)) × ((m k : ℕ) → Lands (family_of u) i f m k (look u (Hub i k)))) (FunctionDone p i f) (λ k m. m)
      (λ u w. record { entry = w.0.0; hubs = w.1; lines = w.0.1 })
      (both_move a d e (r || s) t (λ u. EntryDone i f u × ((l : ℕ) (x : Action) → line_at f.lines l ≡ Some x → LineDone p i f l x u)) (λ u. (m k : ℕ) → Lands (family_of u) i f m k (look u (Hub i k))) (both_move a b d r s (EntryDone i f) (λ u. (l : ℕ) (x : Action) → line_at f.lines l ≡ Some x → LineDone p i f l x u) x y) z))

  pub functions_none : (a : Tables) → Moves p a a false (FunctionsDone p 0)
  functions_none a = steps_none p a (Meets p) (FunctionsDone p 0) (λ i fn h. absurd (omega arith))

  pub functions_more : (n : ℕ) (fn : Function) (a b d : Tables) (r s q : Bool) → IsFunction p n fn → Moves p a b r (FunctionsDone p n) → Moves p b d s (FunctionDone p n (routine_of p fn)) → q ≡ (r || s) → Moves p a d q (FunctionsDone p (n + 1))
  functions_more n fn a b d r s q here x y o =
      subst (λ z. Moves p a d z (FunctionsDone p (n + 1))) (sym o)
      (steps_as p a d (r || s) (Meets p) (Meets p) (λ t. FunctionsDone p n t × FunctionDone p n (routine_of p fn) t) (FunctionsDone p (n + 1)) (λ h m. m)
      (λ t z i x h e. elim (below_more i n h) as (λ _. FunctionDone p i (routine_of p x) t) [
        | inl u ↦ z.0 i x u e
        | inr u ↦ subst (λ k. FunctionDone p k (routine_of p x) t) (sym u) (subst (λ y. FunctionDone p n (routine_of p y) t) (some_same fn x (sym here ∙ subst (λ k. slice_get p.functions k ≡ Some x) u e)) z.1)
      ])
      (both_move a b d r s (FunctionsDone p n) (FunctionDone p n (routine_of p fn)) x y))

  -- in the code's own shape
  pub functions_moved : (n : ℕ) (fn : Function) (fs : List Function) (a b d : Tables) (r s q : Bool) → fs ≡ p.functions → n < length fs → fn ≡ get_or fs n fn → Moves p a b r (FunctionsDone p n) → Moves p b d s (FunctionDone p n (routine_of p fn)) → q ≡ (r || s) → Moves p a d q (FunctionsDone p (n + 1))
  functions_moved n fn fs a b d r s q is w at = functions_more n fn a b d r s q (subst (λ xs. slice_get xs n ≡ Some fn) is (found_at fs n fn w at))

  -- ---- The end

  equal_of : (a b : ℕ) → nat_eq a b ≡ true → a ≡ b
  equal_of a b h = grind (arith, nat_tests)

  either_true : (a b : Bool) → (a || b) ≡ true → (a ≡ true) ⊎ (b ≡ true)
  either_true true b h = inl refl
  either_true false b h = inr h

  gone_met : (w : Flow) (t : Tables) (i : ℕ) (f : Routine) (l k : ℕ) (x : Inferred) → Gone w t i f l k x → ((m : ℕ) → Lands (family_of t) i f m k (look t (Hub i k))) → (m : ℕ) → leads w l m ≡ true → Lands (family_of t) i f m k x
  gone_met flow.Next t i f l k x d h m e = subst (λ z. Lands (family_of t) i f z k x) (sym (equal_of m (l + 1) e)) d
  gone_met (flow.To n) t i f l k x d h m e = subst (λ z. Lands (family_of t) i f z k x) (sym (equal_of m n e)) d
  gone_met (flow.Either n) t i f l k x d h m e = elim (either_true (nat_eq m n) (nat_eq m (l + 1)) e) as (λ _. Lands (family_of t) i f m k x) [
    | inl u ↦ subst (λ z. Lands (family_of t) i f z k x) (sym (equal_of m n u)) d.0
    | inr u ↦ subst (λ z. Lands (family_of t) i f z k x) (sym (equal_of m (l + 1) u)) d.1
  ]
  gone_met flow.Any t i f l k x d h m e = lands_down (family_of t) i f m k x (look t (Hub i k)) d (h m)

  done_function : (t : Tables) → FunctionsDone p (length p.functions) t → (i : ℕ) (f : Routine) → slice_get (plain p).routines i ≡ Some f → FunctionDone p i f t
  done_function t d i f e =
      let r = map_back (routine_of p) p.functions i f e in
      subst (λ g. FunctionDone p i g t) (sym r.is) (d i r.item (slice_get_within p.functions i r.item r.found) r.found)

  pub all_met : (t : Tables) → FunctionsDone p (length p.functions) t → Meets p (family_of t)
  all_met t d = record {
    entries = λ i f there. lands_reach (family_of t) i f (at_entry (family_of t) i f) 1 (done_function t d i f there).entry;
    lines = λ i l f x there.
        let g = done_function t d i f there.routine in
        let y = g.lines l x there.here in
        record {
          demands = y.0;
          flows = λ m e. lands_reach (family_of t) i f (seen_in p (family_of t) i f l x).names m (λ k. gone_met (flow_of (binding_in f) x) t i f l k (at (seen_in p (family_of t) i f l x).names k) (y.1 k) (λ j. g.hubs j k) m e);
        };
  }

  -- all that meets the rules is above the tables
  abbrev pub IsSound : Tables → Type 0
  IsSound t = (h : Family) → Meets p h → IsUnder p t h

  pub sound_start : (t : Tables) → ((s : Spot) → look t s ≡ Unset) → IsSound t
  sound_start t e h m = record {
    cells = λ d. subst (λ z. below z (h d) ≡ true) (sym (e (Here d))) refl;
    hubs = λ i f there m k. subst (λ z. Lands h i f m k z) (sym (e (Hub i k))) (lands_unset h i f m k);
  }

  -- ---- Work in any order

  pub keeps_none : (a : Tables) → Keeps p a a
  keeps_none a = record { under = λ h m u. u; room = omega arith }

  pub keeps_then : (a b d : Tables) → Keeps p a b → Keeps p b d → Keeps p a d
  keeps_then a b d x y = let l = x.room in let k = y.room in record { under = λ h m u. y.under h m (x.under h m u); room = omega arith }

  pub steps_room : (a b : Tables) (r : Bool) (A : Family → Type 0) (D : Tables → Type 0) → Steps p a b r A D → room_of b ≤ room_of a
  steps_room a b true A D x = let l = x.falls refl in omega arith
  steps_room a b false A D x = let e = ap room_of (x.still refl).0 in omega arith

  pub keeps_moves : (a b : Tables) (r : Bool) (D : Tables → Type 0) → Moves p a b r D → Keeps p a b
  keeps_moves a b r D x = record { under = λ h m u. x.under h u m; room = steps_room a b r (Meets p) D x }

  pub keeps_forgets : (a b : Tables) → Forgets a b → Keeps p a b
  keeps_forgets a b g = let e = g.room in record {
    under = λ h m u. record {
      cells = λ d. subst (λ z. below z (h d) ≡ true) (sym (g.same (Here d))) (u.cells d);
      hubs = λ i f there m k. subst (λ z. Lands h i f m k z) (sym (g.same (Hub i k))) (u.hubs i f there m k);
    };
    room = omega arith;
  }

  pub keeps_hub : (a b : Tables) (r : Bool) (i : ℕ) (fn : Function) (m k : ℕ) → IsFunction p i fn → Landed p i (routine_of p fn) m k (look a (Hub i k)) a b r → Keeps p a b
  keeps_hub a b r i fn m k there x = keeps_moves a b r (λ t. Lands (family_of t) i (routine_of p fn) m k (look t (Hub i k))) (hub_moves a b r i fn m k there x)

  pub round_of : (a b d : Tables) (r : Bool) → Keeps p a b → Moves p b d r (FunctionsDone p (length p.functions)) → Rounds p a d r
  round_of a b d r x y = record {
    under = λ h m u. y.under h (x.under h m u) m;
    done = λ e. (y.still e).1;
    falls = λ e. let l = y.falls e in let k = x.room in omega arith;
  }

  pub sound_round : (a b : Tables) (r : Bool) → IsSound a → Rounds p a b r → IsSound b
  sound_round a b r s x h m = x.under h m (s h m)

  pub least_round : (a b : Tables) (r : Bool) → IsSound a → Rounds p a b r → r ≡ false → IsLeastOf p (family_of b)
  least_round a b r s x e = record {
    rules = all_met b (x.done e);
    least = λ h m. (x.under h m (s h m)).cells;
  }

  pub round_falls : (a b : Tables) (r : Bool) → Rounds p a b r → r ≡ true → room_of b < room_of a
  round_falls a b r x e = x.falls e
