-- Stretches of the work, one after another.
use Rattle.std.proofs.Common.{◌≡◌, ◌∙◌, sym, ap, refl, subst, ℕ, zero, suc, ◌+◌, ◌<◌, ◌≤◌, List, [], ◌∷◌, length, map, Option, Some, None, Bool, true, false, ◌||◌, ◌&&◌, nat_lt, nat_le, arith, inl, inr, ◌⊎◌, get_or, drop, take, ◌-◌, slice_get, is_some}
use Rattle.std.specs.Prelude.{option_map, unwrap_or}
use Rattle.std.proofs.lemmas.Bool.Decides.{nat_tests}
use Rattle.aplc_syntax.specs.declared.tree.Line.{Line}
use Rattle.aplc_syntax.specs.declared.tree.Named.{Named}
use Rattle.aplc_syntax.specs.declared.tree.Function.{Function}
use Rattle.aplc_syntax.specs.declared.tree.Program.{Program}
use Rattle.aplc_names.specs.PlainPrograms.{Action, Routine, plain, routine_of, line_action, name_number, no_routine}
use Rattle.aplc_names.specs.Runs.{line_at}
use Rattle.aplc_infer.specs.declared.fact.Inferred.{Inferred}
use Rattle.aplc_infer.specs.declared.fact.Inferred.TheVariants.{Unset}
use Rattle.aplc_infer.specs.declared.cell.Cell.{Cell}
use Rattle.aplc_infer.specs.declared.cell.Cell.TheVariants as cell
use Rattle.aplc_infer.specs.declared.cell.Demand.{Demand}
use Rattle.aplc_infer.specs.declared.cell.Flow.{Flow}
use Rattle.aplc_infer.specs.declared.cell.Flow.TheVariants as flow
use Rattle.aplc_infer.specs.declared.tables.Spot.{Spot}
use Rattle.aplc_infer.specs.declared.tables.Spot.TheVariants.{Here, Hub}
use Rattle.aplc_infer.specs.declared.tables.Tables.{Tables}
use Rattle.aplc_infer.specs.Facts.{below, join}
use Rattle.aplc_infer.specs.Seeing.{Family, at, local_names, number_in}
use Rattle.aplc_infer.specs.Lookups.{routine_at}
use Rattle.aplc_infer.specs.Families.{AreMet}
use Rattle.aplc_infer.specs.Tables.{look, family_of, room_of, spot_in, TablesRise}
use Rattle.aplc_infer.specs.Steps.{IsFunction, LeavesWith, LandsIn, Lands, Goes, Gone, IsUnder, Steps, Settles, HasLeft, Landed, HasGone, HaveGone, AllGone}
use Rattle.aplc_infer.proofs.Order.{join_least}

-- ---- Lists by a function

option_of : {A B : Type 0} → (A → B) → Option A → Option B
option_of f None = None
option_of f (Some z) = Some (f z)

none_some : {A : Type 0} (x : A) → None ≡ Some x → ⊥
none_some x e = cc

same_some : {A : Type 0} (x y : A) → Some x ≡ Some y → x ≡ y
same_some x y e = cc

pub mapped : {A B : Type 0} (f : A → B) (xs : List A) (k : ℕ) (x : A) → slice_get xs k ≡ Some x → slice_get (map f xs) k ≡ Some (f x)
mapped f [] k x e = absurd (none_some x e)
mapped f (y ∷ xs) zero x e = ap (λ z. Some (f z)) (same_some y x e)
mapped f (y ∷ xs) (suc k) x e = mapped f xs k x e

pub record From {A B : Type 0} (f : A → B) (xs : List A) (k : ℕ) (y : B) : Type 0 where
  pub item : A
  pub found : slice_get xs k ≡ Some item
  pub is : y ≡ f item

pub map_back : {A B : Type 0} (f : A → B) (xs : List A) (k : ℕ) (y : B) → slice_get (map f xs) k ≡ Some y → From f xs k y
map_back f [] k y e = absurd (none_some y e)
map_back f (x ∷ xs) zero y e = record { item = x; found = refl; is = sym (same_some (f x) y e) }
map_back f (x ∷ xs) (suc k) y e = let r = map_back f xs k y e in record { item = r.item; found = r.found; is = r.is }

pub routine_is : (p : Program) (i : ℕ) (fn : Function) → IsFunction p i fn → slice_get (plain p).routines i ≡ Some (routine_of p fn)
routine_is p i fn e = mapped (routine_of p) p.functions i fn e

pub routine_there : (p : Program) (i : ℕ) (fn : Function) → IsFunction p i fn → routine_at p i ≡ routine_of p fn
routine_there p i fn e = ap (λ o. unwrap_or o no_routine) (routine_is p i fn e)

-- ---- Numbers of lines

first_test : (n : ℕ) → nat_lt n 0 ≡ false
first_test n = grind (arith, nat_tests)

more_test : (m n : ℕ) → nat_lt (suc m) (suc n) ≡ nat_lt m n
more_test m n = grind (arith, nat_tests)

some_test : (n : ℕ) → nat_lt 0 (suc n) ≡ true
some_test n = grind (arith, nat_tests)

get_some : {A B : Type 0} (f : A → B) (xs : List A) (m : ℕ) → is_some (slice_get (map f xs) m) ≡ nat_lt m (length xs)
get_some f [] m = sym (first_test m)
get_some f (x ∷ xs) zero = sym (some_test (length xs))
get_some f (x ∷ xs) (suc m) = get_some f xs m ∙ sym (more_test m (length xs))

line_test : (m n : ℕ) → nat_lt m n ≡ (nat_lt 0 (suc m) && nat_le (suc m) n)
line_test m n = grind (arith, nat_tests)

pub has_line : (ls : List Line) (m : ℕ) → is_some (line_at (map line_action ls) m) ≡ (nat_lt 0 m && nat_le m (length ls))
has_line ls zero = refl
has_line ls (suc m) = get_some line_action ls m ∙ line_test m (length ls)

-- ---- Two in a row

left_false : (a b : Bool) → (a || b) ≡ false → a ≡ false
left_false a b h = grind arith

right_false : (a b : Bool) → (a || b) ≡ false → b ≡ false
right_false a b h = grind arith

falls_twice : (a b : Bool) (x y z : ℕ) → (a ≡ true → y < x) → (a ≡ false → y ≡ x) → (b ≡ true → z < y) → (b ≡ false → z ≡ y) → (a || b) ≡ true → z < x
falls_twice true true x y z f e g d h = let p = f refl in let q = g refl in omega arith
falls_twice true false x y z f e g d h = let p = f refl in let q = d refl in omega arith
falls_twice false true x y z f e g d h = let p = e refl in let q = g refl in omega arith
falls_twice false false x y z f e g d h = cc

-- ---- What one name brings

leaves_join : (r : Option ℕ) (h : Family) (i : ℕ) (f : Routine) (k : ℕ) (x y : Inferred) → LeavesWith r h i f k x → LeavesWith r h i f k y → LeavesWith r h i f k (join x y)
leaves_join None h i f k x y u w = tt
leaves_join (Some n) h i f k x y u w = λ e. join_least x y (h (cell.Answer i)) (u e) (w e)

lands_join : (o : Option Action) (h : Family) (i : ℕ) (f : Routine) (m k : ℕ) (x y : Inferred) → LandsIn o h i f m k x → LandsIn o h i f m k y → LandsIn o h i f m k (join x y)
lands_join None h i f m k x y u w = leaves_join f.result h i f k x y u w
lands_join (Some a) h i f m k x y u w = join_least x y (h (cell.Start i m k)) u w

leaves_unset : (r : Option ℕ) (h : Family) (i : ℕ) (f : Routine) (k : ℕ) → LeavesWith r h i f k Unset
leaves_unset None h i f k = tt
leaves_unset (Some n) h i f k = λ e. refl

lands_unset_in : (o : Option Action) (h : Family) (i : ℕ) (f : Routine) (m k : ℕ) → LandsIn o h i f m k Unset
lands_unset_in None h i f m k = leaves_unset f.result h i f k
lands_unset_in (Some a) h i f m k = refl

pub lands_unset : (h : Family) (i : ℕ) (f : Routine) (m k : ℕ) → Lands h i f m k Unset
lands_unset h i f m k = lands_unset_in (line_at f.lines m) h i f m k

gone_unset : (w : Flow) (t : Tables) (i : ℕ) (f : Routine) (l k : ℕ) → Gone w t i f l k Unset
gone_unset flow.Next t i f l k = lands_unset (family_of t) i f (l + 1) k
gone_unset (flow.To m) t i f l k = lands_unset (family_of t) i f m k
gone_unset (flow.Either m) t i f l k = (lands_unset (family_of t) i f m k, lands_unset (family_of t) i f (l + 1) k)
gone_unset flow.Any t i f l k = refl

in_line : (o : Option Action) (h : Family) (i : ℕ) (f : Routine) (m k : ℕ) (x : Inferred) → is_some o ≡ true → LandsIn o h i f m k x → below x (h (cell.Start i m k)) ≡ true
in_line None h i f m k x e w = cc
in_line (Some a) h i f m k x e w = w

to_line : (o : Option Action) (h : Family) (i : ℕ) (f : Routine) (m k : ℕ) (x : Inferred) → is_some o ≡ true → below x (h (cell.Start i m k)) ≡ true → LandsIn o h i f m k x
to_line None h i f m k x e w = cc
to_line (Some a) h i f m k x e w = w

in_out : (o : Option Action) (h : Family) (i : ℕ) (f : Routine) (m k : ℕ) (x : Inferred) → is_some o ≡ false → LandsIn o h i f m k x → LeavesWith f.result h i f k x
in_out None h i f m k x e w = w
in_out (Some a) h i f m k x e w = cc

to_out : (o : Option Action) (h : Family) (i : ℕ) (f : Routine) (m k : ℕ) (x : Inferred) → is_some o ≡ false → LeavesWith f.result h i f k x → LandsIn o h i f m k x
to_out None h i f m k x e w = w
to_out (Some a) h i f m k x e w = cc

module _ (p : Program) where
  pub steps_then : (a b d : Tables) (r s : Bool) (A B : Family → Type 0) (D E : Tables → Type 0) → Steps p a b r A D → Steps p b d s B E → Steps p a d (r || s) (λ h. A h × B h) (λ t. D t × E t)
  steps_then a b d r s A B D E x y = record {
    under = λ h u w. y.under h (x.under h u w.0) w.1;
    still = λ e.
        let one = x.still (left_false r s e) in
        let two = y.still (right_false r s e) in
        (two.0 ∙ one.0, (subst D (sym two.0) one.1, two.1));
    falls = λ e. falls_twice r s (room_of a) (room_of b) (room_of d) x.falls (λ q. ap room_of (x.still q).0) y.falls (λ q. ap room_of (y.still q).0) e;
  }

  pub steps_as : (a b : Tables) (r : Bool) (A B : Family → Type 0) (D E : Tables → Type 0) → ((h : Family) → B h → A h) → ((t : Tables) → D t → E t) → Steps p a b r A D → Steps p a b r B E
  steps_as a b r A B D E i j x = record {
    under = λ h u w. x.under h u (i h w);
    still = λ e. ((x.still e).0, j b (x.still e).1);
    falls = x.falls;
  }

  pub steps_by : (a b : Tables) (r : Bool) (A B : Family → Type 0) (D E : Tables → Type 0) → ((h : Family) → IsUnder p a h → B h → A h) → (b ≡ a → D b → E b) → Steps p a b r A D → Steps p a b r B E
  steps_by a b r A B D E i j x = record {
    under = λ h u w. x.under h u (i h u w);
    still = λ e. ((x.still e).0, j (x.still e).0 (x.still e).1);
    falls = x.falls;
  }

  pub steps_none : (a : Tables) (A : Family → Type 0) (D : Tables → Type 0) → D a → Steps p a a false A D
  steps_none a A D d = record { under = λ h u w. u; still = λ e. (refl, d); falls = λ e. cc }

  -- ---- One fact

  here_same : (x y : Cell) → Here x ≡ Here y → x ≡ y
  here_same x y e = ap cell_or e
    where
      cell_or : Spot → Cell
      cell_or (Here z) = z
      cell_or (Hub i k) = y

  hub_no_here : (i k : ℕ) (x : Cell) → Hub i k ≡ Here x → ⊥
  hub_no_here i k x e = cc

  here_no_hub : (i k : ℕ) (x : Cell) → Here x ≡ Hub i k → ⊥
  here_no_hub i k x e = cc

  hub_first : (i k j m : ℕ) → Hub i k ≡ Hub j m → i ≡ j
  hub_first i k j m e = ap first_or e
    where
      first_or : Spot → ℕ
      first_or (Here z) = i
      first_or (Hub a b) = a

  hub_second : (i k j m : ℕ) → Hub i k ≡ Hub j m → k ≡ m
  hub_second i k j m e = ap second_or e
    where
      second_or : Spot → ℕ
      second_or (Here z) = k
      second_or (Hub a b) = b

  pub cell_steps : (a b : Tables) (x : Cell) (y : Inferred) (r : Bool) → TablesRise a b (Here x) y r → Steps p a b r (λ h. below y (h x) ≡ true) (λ t. below y (look t (Here x)) ≡ true)
  cell_steps a b x y r s = record {
    under = λ h u w. record {
      cells = λ d. elim (s.only (Here d)) as (λ _. below (look b (Here d)) (h d) ≡ true) [
        | inl e ↦ subst (λ z. below z (h d) ≡ true) (sym e) (u.cells d)
        | inr e ↦ subst (λ z. below z (h d) ≡ true) (sym e.1) (subst (λ q. below (join (look a (Here x)) y) (h q) ≡ true) (sym (here_same d x e.0)) (join_least (look a (Here x)) y (h x) (u.cells x) w))
      ];
      hubs = λ i f g m k. elim (s.only (Hub i k)) as (λ _. Lands h i f m k (look b (Hub i k))) [
        | inl e ↦ subst (λ z. Lands h i f m k z) (sym e) (u.hubs i f g m k)
        | inr e ↦ absurd (hub_no_here i k x e.0)
      ];
    };
    still = λ e. ((s.still e).0, subst (λ t. below y (look t (Here x)) ≡ true) (sym (s.still e).0) (s.still e).1);
    falls = s.falls;
  }

  pub hub_steps : (a b : Tables) (i k : ℕ) (f : Routine) (x : Inferred) (r : Bool) → slice_get (plain p).routines i ≡ Some f → TablesRise a b (Hub i k) x r → Steps p a b r (λ h. (m : ℕ) → Lands h i f m k x) (λ t. below x (look t (Hub i k)) ≡ true)
  hub_steps a b i k f x r here s = record {
    under = λ h u w. record {
      cells = λ d. elim (s.only (Here d)) as (λ _. below (look b (Here d)) (h d) ≡ true) [
        | inl e ↦ subst (λ z. below z (h d) ≡ true) (sym e) (u.cells d)
        | inr e ↦ absurd (here_no_hub i k d e.0)
      ];
      hubs = λ j g there m q. elim (s.only (Hub j q)) as (λ _. Lands h j g m q (look b (Hub j q))) [
        | inl e ↦ subst (λ z. Lands h j g m q z) (sym e) (u.hubs j g there m q)
        | inr e ↦ (
            let ij : j ≡ i = hub_first j q i k e.0 in
            let qk : q ≡ k = hub_second j q i k e.0 in
            let same : f ≡ g = same_some f g (sym here ∙ subst (λ z. slice_get (plain p).routines z ≡ Some g) ij there) in
            let made = join (look a (Hub i k)) x in
            let at_k : Lands h i f m k made = lands_join (line_at f.lines m) h i f m k (look a (Hub i k)) x (u.hubs i f here m k) (w m) in
            subst (λ z. Lands h j g m q z) (sym e.1)
            (subst (λ z. Lands h z g m q made) (sym ij)
            (subst (λ z. Lands h i g m z made) (sym qk)
            (subst (λ z. Lands h i z m k made) same at_k))))
      ];
    };
    still = λ e. ((s.still e).0, subst (λ t. below x (look t (Hub i k)) ≡ true) (sym (s.still e).0) (s.still e).1);
    falls = s.falls;
  }

  -- ---- Demands

  pub settles_none : (a : Tables) → Settles p [] a a false
  settles_none a = steps_none a (λ h. AreMet h []) (λ t. AreMet (family_of t) []) tt

  pub settles_more : (d : Demand) (ds : List Demand) (a b e : Tables) (r s : Bool) → TablesRise a b (Here d.cell) d.fact r → Settles p ds b e s → Settles p (d ∷ ds) a e (r || s)
  settles_more d ds a b e r s x y = steps_then a b e r s (λ h. below d.fact (h d.cell) ≡ true) (λ h. AreMet h ds) (λ t. below d.fact (look t (Here d.cell)) ≡ true) (λ t. AreMet (family_of t) ds) (cell_steps a b d.cell d.fact r x) y

  -- in the code's own shape
  pub settled_more : (xs : List Demand) (d : Demand) (ds : List Demand) (a b e : Tables) (r s t : Bool) → xs ≡ d ∷ ds → TablesRise a b (Here d.cell) d.fact r → Settles p ds b e s → t ≡ (r || s) → Settles p xs a e t
  settled_more xs d ds a b e r s t is x y q = subst (λ z. Settles p xs a e z) (sym q) (subst (λ zs. Settles p zs a e (r || s)) (sym is) (settles_more d ds a b e r s x y))

  -- ---- One name at a line or at the way out

  number_there : (i : ℕ) (fn : Function) (n j : ℕ) → IsFunction p i fn → j ≡ number_in n (local_names (routine_at p i)) → j ≡ number_in n (local_names (routine_of p fn))
  number_there i fn n j here e = e ∙ ap (λ r. number_in n (local_names r)) (routine_there p i fn here)

  pub left_none : (i : ℕ) (fn : Function) (k : ℕ) (x : Inferred) (a : Tables) → fn.result ≡ None → HasLeft p i (routine_of p fn) k x a a false
  left_none i fn k x a e =
      steps_none a (λ h. LeavesWith (option_map name_number fn.result) h i (routine_of p fn) k x) (λ t. LeavesWith (option_map name_number fn.result) (family_of t) i (routine_of p fn) k x)
      (subst (λ o. LeavesWith (option_map name_number o) (family_of a) i (routine_of p fn) k x) (sym e) tt)

  pub left_other : (i : ℕ) (fn : Function) (n : Named) (j k : ℕ) (x : Inferred) (a : Tables) → IsFunction p i fn → fn.result ≡ Some n → j ≡ number_in n.name.0 (local_names (routine_at p i)) → (j ≡ k → ⊥) → HasLeft p i (routine_of p fn) k x a a false
  left_other i fn n j k x a here e is other =
      steps_none a (λ h. LeavesWith (option_map name_number fn.result) h i (routine_of p fn) k x) (λ t. LeavesWith (option_map name_number fn.result) (family_of t) i (routine_of p fn) k x)
      (subst (λ o. LeavesWith (option_map name_number o) (family_of a) i (routine_of p fn) k x) (sym e) (λ q. absurd (other (number_there i fn n.name.0 j here is ∙ sym q))))

  pub left_there : (i : ℕ) (fn : Function) (n : Named) (j k : ℕ) (x : Inferred) (a b : Tables) (r : Bool) → IsFunction p i fn → fn.result ≡ Some n → j ≡ number_in n.name.0 (local_names (routine_at p i)) → j ≡ k → TablesRise a b (Here (cell.Answer i)) x r → HasLeft p i (routine_of p fn) k x a b r
  left_there i fn n j k x a b r here e is same s =
      subst (λ o. Steps p a b r (λ h. LeavesWith (option_map name_number o) h i (routine_of p fn) k x) (λ t. LeavesWith (option_map name_number o) (family_of t) i (routine_of p fn) k x)) (sym e)
      (steps_as a b r (λ h. below x (h (cell.Answer i)) ≡ true) (λ h. LeavesWith (Some n.name.0) h i (routine_of p fn) k x) (λ t. below x (look t (Here (cell.Answer i))) ≡ true) (λ t. LeavesWith (Some n.name.0) (family_of t) i (routine_of p fn) k x)
      (λ h w. w (sym same ∙ number_there i fn n.name.0 j here is)) (λ t w q. w) (cell_steps a b (cell.Answer i) x r s))

  pub landed_line : (b : Bool) (i m k : ℕ) (fn : Function) (x : Inferred) (a d : Tables) (r : Bool) → b ≡ is_some (line_at (map line_action fn.lines) m) → b ≡ true → TablesRise a d (Here (cell.Start i m k)) x r → Landed p i (routine_of p fn) m k x a d r
  landed_line b i m k fn x a d r e t s =
      let f = routine_of p fn in
      steps_as a d r (λ h. below x (h (cell.Start i m k)) ≡ true) (λ h. Lands h i f m k x) (λ u. below x (look u (Here (cell.Start i m k))) ≡ true) (λ u. Lands (family_of u) i f m k x)
      (λ h w. in_line (line_at f.lines m) h i f m k x (sym e ∙ t) w) (λ u w. to_line (line_at f.lines m) (family_of u) i f m k x (sym e ∙ t) w) (cell_steps a d (cell.Start i m k) x r s)

  pub landed_out : (b : Bool) (i m k : ℕ) (fn : Function) (x : Inferred) (a d : Tables) (r : Bool) → b ≡ is_some (line_at (map line_action fn.lines) m) → b ≡ false → HasLeft p i (routine_of p fn) k x a d r → Landed p i (routine_of p fn) m k x a d r
  landed_out b i m k fn x a d r e t s =
      let f = routine_of p fn in
      steps_as a d r (λ h. LeavesWith f.result h i f k x) (λ h. Lands h i f m k x) (λ u. LeavesWith f.result (family_of u) i f k x) (λ u. Lands (family_of u) i f m k x)
      (λ h w. in_out (line_at f.lines m) h i f m k x (sym e ∙ t) w) (λ u w. to_out (line_at f.lines m) (family_of u) i f m k x (sym e ∙ t) w) s

  spot_line : (ls : List Action) (i m k : ℕ) → is_some (line_at ls m) ≡ true → spot_in i m k ≡ Here (cell.Start i m k)
  spot_line ls i zero k e = cc
  spot_line ls i (suc m) k e = refl

  -- from a row of the function itself
  pub landed_pass : (b : Bool) (i l m k : ℕ) (fn : Function) (a d : Tables) (r : Bool) → b ≡ is_some (line_at (map line_action fn.lines) m) → b ≡ true → TablesRise a d (spot_in i m k) (look a (spot_in i l k)) r → Landed p i (routine_of p fn) m k (look a (spot_in i l k)) a d r
  landed_pass b i l m k fn a d r e t s = landed_line b i m k fn (look a (spot_in i l k)) a d r e t (subst (λ z. TablesRise a d z (look a (spot_in i l k)) r) (spot_line (map line_action fn.lines) i m k (sym e ∙ t)) s)

  -- ---- One name where a line leads

  pub gone_next : (i l k : ℕ) (f : Routine) (x : Inferred) (a b : Tables) (r : Bool) → Landed p i f (l + 1) k x a b r → HasGone p flow.Next i f l k x a b r
  gone_next i l k f x a b r s = s

  pub gone_to : (i l m k : ℕ) (f : Routine) (x : Inferred) (a b : Tables) (r : Bool) → Landed p i f m k x a b r → HasGone p (flow.To m) i f l k x a b r
  gone_to i l m k f x a b r s = s

  gone_either : (i l m k : ℕ) (f : Routine) (x : Inferred) (a b d : Tables) (r s : Bool) → Landed p i f m k x a b r → Landed p i f (l + 1) k x b d s → HasGone p (flow.Either m) i f l k x a d (r || s)
  gone_either i l m k f x a b d r s y z = steps_then a b d r s (λ h. Lands h i f m k x) (λ h. Lands h i f (l + 1) k x) (λ t. Lands (family_of t) i f m k x) (λ t. Lands (family_of t) i f (l + 1) k x) y z

  pub gone_twice : (w : Flow) (i l m k : ℕ) (f : Routine) (x : Inferred) (a b d : Tables) (r s q : Bool) → w ≡ flow.Either m → Landed p i f m k x a b r → Landed p i f (l + 1) k x b d s → q ≡ (r || s) → HasGone p w i f l k x a d q
  gone_twice w i l m k f x a b d r s q is y z o = subst (λ v. HasGone p w i f l k x a d v) (sym o) (subst (λ v. HasGone p v i f l k x a d (r || s)) (sym is) (gone_either i l m k f x a b d r s y z))

  pub gone_any : (i l k : ℕ) (fn : Function) (x : Inferred) (a b : Tables) (r : Bool) → IsFunction p i fn → TablesRise a b (Hub i k) x r → HasGone p flow.Any i (routine_of p fn) l k x a b r
  gone_any i l k fn x a b r here s = hub_steps a b i k (routine_of p fn) x r (routine_is p i fn here) s

  -- ---- All names

  pub gone_none : (w : Flow) (i l : ℕ) (f : Routine) (ns : List Inferred) (a : Tables) → HaveGone p 0 w i f l ns a a false
  gone_none w i l f ns a = steps_none a (λ h. (k : ℕ) → k < 0 → Goes w h i f l k (at ns k)) (λ t. (k : ℕ) → k < 0 → Gone w t i f l k (at ns k)) (λ k h. absurd (omega arith))

  below_more : (k n : ℕ) → k < n + 1 → (k < n) ⊎ (k ≡ n)
  below_more k n h = grind arith

  pub gone_more : (w : Flow) (n i l : ℕ) (f : Routine) (ns : List Inferred) (a b d : Tables) (x : Inferred) (r s q : Bool) → HaveGone p n w i f l ns a b r → x ≡ at ns n → HasGone p w i f l n x b d s → q ≡ (r || s) → HaveGone p (n + 1) w i f l ns a d q
  gone_more w n i l f ns a b d x r s q y is z o =
      subst (λ v. HaveGone p (n + 1) w i f l ns a d v) (sym o)
      (steps_as a d (r || s)
      (λ h. ((k : ℕ) → k < n → Goes w h i f l k (at ns k)) × Goes w h i f l n x)
      (λ h. (k : ℕ) → k < n + 1 → Goes w h i f l k (at ns k))
      (λ t. ((k : ℕ) → k < n → Gone w t i f l k (at ns k)) × Gone w t i f l n x)
      (λ t. (k : ℕ) → k < n + 1 → Gone w t i f l k (at ns k))
      (λ h u. (λ k v. u k (omega arith), subst (λ z. Goes w h i f l n z) (sym is) (u n (omega arith))))
      (λ t u k v. elim (below_more k n v) as (λ _. Gone w t i f l k (at ns k)) [
        | inl e ↦ u.0 k e
        | inr e ↦ subst (λ j. Gone w t i f l j (at ns j)) (sym e) (subst (λ z. Gone w t i f l n z) is u.1)
      ])
      (steps_then a b d r s (λ h. (k : ℕ) → k < n → Goes w h i f l k (at ns k)) (λ h. Goes w h i f l n x) (λ t. (k : ℕ) → k < n → Gone w t i f l k (at ns k)) (λ t. Gone w t i f l n x) y z))

  beyond : (ns : List Inferred) (k : ℕ) → length ns ≤ k → at ns k ≡ Unset
  beyond [] k h = refl
  beyond (x ∷ ns) zero h = absurd (omega arith)
  beyond (x ∷ ns) (suc k) h = beyond ns k (omega arith)

  within_or : (k n : ℕ) → (k < n) ⊎ (n ≤ k)
  within_or k n = grind arith

  pub gone_all : (w : Flow) (n i l : ℕ) (f : Routine) (ns : List Inferred) (a b : Tables) (r : Bool) → length ns ≤ n → HaveGone p n w i f l ns a b r → AllGone p w i f l ns a b r
  gone_all w n i l f ns a b r e x =
      steps_as a b r (λ h. (k : ℕ) → k < n → Goes w h i f l k (at ns k)) (λ h. (k : ℕ) → Goes w h i f l k (at ns k)) (λ t. (k : ℕ) → k < n → Gone w t i f l k (at ns k)) (λ t. (k : ℕ) → Gone w t i f l k (at ns k))
      (λ h u k v. u k)
      (λ t u k. elim (within_or k n) as (λ _. Gone w t i f l k (at ns k)) [
        | inl v ↦ u k v
        | inr v ↦ subst (λ y. Gone w t i f l k y) (sym (beyond ns k (omega arith))) (gone_unset w t i f l k)
      ])
      x

take_all : {A : Type 0} (xs : List A) (n : ℕ) → n ≡ length xs → take n xs ≡ xs
take_all [] n e = rw e refl
take_all (x ∷ xs) n e = rw e (ap (λ ys. x ∷ ys) (take_all xs (length xs) refl))

pub first_rest : (xs : List Demand) (d : Demand) → 1 ≤ length xs → d ≡ get_or xs 0 d → xs ≡ d ∷ take (length xs - 1) (drop 1 xs)
first_rest [] d h e = absurd (omega arith)
first_rest (x ∷ xs) d h e = ap (λ y. y ∷ xs) (sym e) ∙ ap (λ ys. d ∷ ys) (sym (take_all xs (length (x ∷ xs) - 1) (omega arith)))
