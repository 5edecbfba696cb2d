-- The marks tell which names are hidden.
use Rattle.std.proofs.Common.{◌≡◌, ◌∙◌, sym, ap, refl, subst, ℕ, ◌+◌, ◌<◌, List, [], length, Option, Some, None, Bool, true, false, not, ◌&&◌, arith, get_or, inl, inr, ◌⊎◌}
use Rattle.std.specs.Prelude.{map, option_map}
use Rattle.std.specs.List.{slice_get}
use Rattle.std.proofs.lemmas.Option.{slice_get-get_or, slice_get_within, slice_get-map}
use Rattle.std.proofs.lemmas.List.Quantifiers.{position-Some}
use Rattle.std.proofs.lemmas.Map.Keys.{any_passes_from_place}
use Rattle.std.proofs.lemmas.List.{length-map}
use Rattle.aplc_lex.specs.declared.token.Refusal.{Refusal}
use Rattle.aplc_syntax.specs.declared.tree.Named.{Named}
use Rattle.aplc_names.specs.declared.outline.Mention.{Mention}
use Rattle.aplc_names.specs.declared.outline.Outline.{Outline}
use Rattle.aplc_names.specs.Tables.{first, stands_in, is_named}
use Rattle.aplc_names.specs.Scopes.{function_names, own_name, Names, Leads, directly, over}
use Rattle.aplc_lex.specs.Firsts.{IsFirstOf, earlier}
use Rattle.aplc_names.specs.Firsts.{Among, refused_if}
use Rattle.aplc_names.specs.Clashes.{IsHidden, IsShadowed, shadow}
use Rattle.aplc_names.specs.Graphs.{row_of, row_or, Lists, Reaches, edge, on, IsGraph, IsMarked, is_set, Spreads, Adds, AreReach, callees, graph, all_locals, locals_of, places_in, ids, IsListed, Hides, is_set_at, Tells}
use Rattle.aplc_names.proofs.Firsts.{clash, at_first, found_by, named_is, is_named_of}
use Rattle.aplc_names.proofs.Lists.{some_same, none_some, get_same, Has, has_flat, has_mapped, maps_of, any_at}
use Rattle.aplc_names.proofs.Minima.{both, both_of, negated, negate, more_tested}

-- ---- Calls

row_mapped : {X : Type 0} (f : X → List ℕ) (o : Option X) (j : ℕ) → Lists (row_or (option_map f o)) j → (x : X) × (o ≡ Some x) × Lists (f x) j
row_mapped f None j l = absurd (none_some j l.1)
row_mapped f (Some x) j l = (x, refl, l)

row_at : {X : Type 0} (f : X → List ℕ) (xs : List X) (i : ℕ) (x : X) (j : ℕ) → slice_get xs i ≡ Some x → Lists (f x) j → Lists (row_of (map f xs) i) j
row_at f xs i x j e l = subst (λ o. Lists (row_or o) j) (sym (slice_get-map f xs i ∙ ap (option_map f) e)) l

row_from : {X : Type 0} (f : X → List ℕ) (xs : List X) (i j : ℕ) → Lists (row_of (map f xs) i) j → (x : X) × (slice_get xs i ≡ Some x) × Lists (f x) j
row_from f xs i j l = row_mapped f (slice_get xs i) j (subst (λ o. Lists (row_or o) j) (slice_get-map f xs i) l)

names_edge : (hs : List Named) (fs : List Outline) (i j : ℕ) → Names hs fs i j → Lists (row_of (graph hs fs) i) j
names_edge hs fs i j n = row_at (callees hs) fs i n.caller j n.found (has_mapped (λ (m : Mention). first m.name.0 hs) n.caller.mentions n.index n.said j n.stands n.heads)

edge_names : (hs : List Named) (fs : List Outline) (i j : ℕ) → Lists (row_of (graph hs fs) i) j → Names hs fs i j
edge_names hs fs i j l =
    let r = row_from (callees hs) fs i j l in
    let m = maps_of (λ (m : Mention). first m.name.0 hs) r.0.mentions j r.2 in
    record { caller = r.0; found = r.1; index = m.0; said = m.1; stands = m.2; heads = m.3 }

leads_reach : (hs : List Named) (fs : List Outline) (i j : ℕ) → Leads hs fs i j → Reaches (graph hs fs) i j
leads_reach hs fs i j (directly n) = edge (names_edge hs fs i j n)
leads_reach hs fs i j (over {k = k} l n) = on (leads_reach hs fs i k l) (names_edge hs fs k j n)

reach_leads : (hs : List Named) (fs : List Outline) (i j : ℕ) → Reaches (graph hs fs) i j → Leads hs fs i j
reach_leads hs fs i j (edge e) = directly (edge_names hs fs i j e)
reach_leads hs fs i j (on {k = k} r e) = over (reach_leads hs fs i k r) (edge_names hs fs k j e)

pub first_below : (n : ℕ) (xs : List Named) (i : ℕ) → first n xs ≡ Some i → i < length xs
first_below n xs i e = (position-Some (is_named n) xs i (record { name = record { 0 = 0 }; place = 0 }) e).0

pub is_graph : (hs : List Named) (fs : List Outline) → hs ≡ function_names fs → IsGraph (graph hs fs)
is_graph hs fs e = λ i j l.
    let n = edge_names hs fs i j l in
    let h : j < length hs = first_below n.said.name.0 hs j n.heads in
    let k : length hs ≡ length fs = ap length e ∙ length-map fs own_name in
    let q : length (graph hs fs) ≡ length fs = length-map fs (callees hs) in
    omega arith

-- ---- Places of names

same_name : (n : ℕ) (all : List Named) (p : ℕ) (x : Named) → first n all ≡ Some p → first x.name.0 all ≡ Some p → x.name.0 ≡ n
same_name n all p x e f =
    let a = at_first (is_named n) all p x e in
    let b = at_first (is_named x.name.0) all p x f in
    let s : a.0 ≡ b.0 = get_same all p a.0 b.0 a.1 b.1 in
    sym (named_is x.name.0 b.0 b.2) ∙ sym (ap (λ (y : Named). y.name.0) s) ∙ named_is n a.0 a.2

set_some : (o : Option Bool) → is_set o ≡ true → o ≡ Some true
set_some None h = absurd (clash false h refl)
set_some (Some true) h = refl
set_some (Some false) h = absurd (clash false h refl)

set_at : (o : Option ℕ) (marks : List Bool) → is_set_at o marks ≡ true → (p : ℕ) × (o ≡ Some p) × IsMarked marks p
set_at None marks h = absurd (clash false h refl)
set_at (Some p) marks h = (p, refl, set_some (slice_get marks p) h)

tells_sound : (hs : List Named) (fs : List Outline) (i : ℕ) (all : List Named) (rows : List (List Bool)) (marks : List Bool) → AreReach (graph hs fs) rows → Hides rows (ids all fs) i (length rows) (length all) marks → (n : ℕ) → is_set_at (first n all) marks ≡ true → IsHidden hs fs i n
tells_sound hs fs i all rows marks a h n t =
    let s = set_at (first n all) marks t in
    let w = h.sound s.0 s.2 in
    let r = row_from (places_in all) fs w.index s.0 w.stands in
    let m = maps_of (λ (x : Named). first x.name.0 all) r.0.locals s.0 r.2 in
    let same : m.1.name.0 ≡ n = same_name n all s.0 m.1 s.1 m.3 in
    record {
      index = w.index;
      owner = r.0;
      found = r.1;
      local = any_passes_from_place (is_named n) r.0.locals m.0 m.1 m.2 (is_named_of n m.1 same);
      leads = reach_leads hs fs w.index i ((a.each w.index w.row w.found).sound i w.leads);
    }

tells_complete : (hs : List Named) (fs : List Outline) (i : ℕ) (all : List Named) (rows : List (List Bool)) (marks : List Bool) → all ≡ all_locals fs → AreReach (graph hs fs) rows → Hides rows (ids all fs) i (length rows) (length all) marks → (n : ℕ) → IsHidden hs fs i n → is_set_at (first n all) marks ≡ true
tells_complete hs fs i all rows marks whole a h n d =
    let x = any_at (is_named n) d.owner.locals d.local in
    let q : Has all x.1 = subst (λ ys. Has ys x.1) (sym whole) (has_flat locals_of fs d.index d.owner x.1 d.found (x.0, x.2)) in
    let f = found_by (is_named n) all q.0 x.1 q.1 x.3 in
    let same : x.1.name.0 ≡ n = named_is n x.1 x.3 in
    let here : first x.1.name.0 all ≡ Some f.0 = ap (λ k. first k all) same ∙ f.1 in
    let fits : d.index < length fs = slice_get_within fs d.index d.owner d.found in
    let long : length rows ≡ length fs = a.size ∙ length-map fs (callees hs) in
    let within : d.index < length rows = omega arith in
    let row : slice_get rows d.index ≡ Some (get_or rows d.index []) = slice_get-get_or rows d.index [] within in
    let marked : IsMarked marks f.0 = h.complete f.0 (record {
      index = d.index;
      within = within;
      row = get_or rows d.index [];
      found = row;
      leads = (a.each d.index (get_or rows d.index []) row).complete i (leads_reach hs fs d.index i d.leads);
      stands = row_at (places_in all) fs d.index d.owner f.0 d.found (has_mapped (λ (y : Named). first y.name.0 all) d.owner.locals x.0 x.1 f.0 x.2 here);
    }) (first_below n all f.0 f.1) in
    ap (λ o. is_set_at o marks) f.1 ∙ ap is_set marked

pub tells : (hs : List Named) (fs : List Outline) (i : ℕ) (all : List Named) (lists : List (List ℕ)) (g : List (List ℕ)) (rows : List (List Bool)) (marks : List Bool) → g ≡ graph hs fs → lists ≡ ids all fs → all ≡ all_locals fs → AreReach g rows → Hides rows lists i (length rows) (length all) marks → Tells hs fs i all marks
tells hs fs i all lists g rows marks e f whole a h =
    let b : AreReach (graph hs fs) rows = subst (λ x. AreReach x rows) e a in
    let d : Hides rows (ids all fs) i (length rows) (length all) marks = subst (λ x. Hides rows x i (length rows) (length all) marks) f h in
    record { sound = tells_sound hs fs i all rows marks b d; complete = tells_complete hs fs i all rows marks whole b d }

-- ---- One row more

pub hides_start : (rows : List (List Bool)) (lists : List (List ℕ)) (to size : ℕ) (marks : List Bool) → length marks ≡ size → ((j : ℕ) → IsMarked marks j → ⊥) → Hides rows lists to 0 size marks
hides_start rows lists to size marks l none = record {
  long = l;
  sound = λ p h. absurd (none p h);
  complete = λ p w b. let h : w.index < 0 = w.within in absurd (omega arith);
}

wider : (rows : List (List Bool)) (lists : List (List ℕ)) (to n p : ℕ) → IsListed rows lists to n p → IsListed rows lists to (n + 1) p
wider rows lists to n p w = record { index = w.index; within = (let h : w.index < n = w.within in omega arith); row = w.row; found = w.found; leads = w.leads; stands = w.stands }

closer : (i k : ℕ) → i < k + 1 → (i < k) ⊎ (i ≡ k)
closer i k h = grind arith

narrower : (rows : List (List Bool)) (lists : List (List ℕ)) (to n p : ℕ) → (w : IsListed rows lists to (n + 1) p) → w.index < n → IsListed rows lists to n p
narrower rows lists to n p w h = record { index = w.index; within = h; row = w.row; found = w.found; leads = w.leads; stands = w.stands }

-- the row of the last one listed
last_row : (rows : List (List Bool)) (lists : List (List ℕ)) (to n p : ℕ) (row : List Bool) → slice_get rows n ≡ Some row → (w : IsListed rows lists to (n + 1) p) → w.index ≡ n → IsMarked row to × Lists (row_of lists n) p
last_row rows lists to n p row e w h =
    let f : slice_get rows n ≡ Some w.row = subst (λ k. slice_get rows k ≡ Some w.row) h w.found in
    let s : w.row ≡ row = some_same w.row row (sym f ∙ e) in
    (subst (λ x. IsMarked x to) s w.leads, subst (λ k. Lists (row_of lists k) p) h w.stands)

hides_skip : (rows : List (List Bool)) (lists : List (List ℕ)) (to n size : ℕ) (row marks : List Bool) → slice_get rows n ≡ Some row → (IsMarked row to → ⊥) → Hides rows lists to n size marks → Hides rows lists to (n + 1) size marks
hides_skip rows lists to n size row marks e none h = record {
  long = h.long;
  sound = λ p m. wider rows lists to n p (h.sound p m);
  complete = λ p w b. elim (closer w.index n w.within) as (λ _. IsMarked marks p) [
    | inl u ↦ h.complete p (narrower rows lists to n p w u) b
    | inr u ↦ absurd (none (last_row rows lists to n p row e w u).0)
  ];
}

hides_add : (rows : List (List Bool)) (lists : List (List ℕ)) (to n size : ℕ) (row marks after : List Bool) (t t1 : List ℕ) → slice_get rows n ≡ Some row → IsMarked row to → Spreads (row_of lists n) (length (row_of lists n)) marks t after t1 → Hides rows lists to n size marks → Hides rows lists to (n + 1) size after
hides_add rows lists to n size row marks after t t1 e lead s h =
    let long : length marks ≡ size = h.long in
    record {
      long = s.size ∙ h.long;
      sound = λ p m. elim (s.only p m) as (λ _. IsListed rows lists to (n + 1) p) [
        | inl u ↦ wider rows lists to n p (h.sound p u)
        | inr u ↦ record { index = n; within = omega arith; row = row; found = e; leads = lead; stands = u }
      ];
      complete = λ p w b. elim (closer w.index n w.within) as (λ _. IsMarked after p) [
        | inl u ↦ s.kept p (h.complete p (narrower rows lists to n p w u) b)
        | inr u ↦ (let l = (last_row rows lists to n p row e w u).1 in s.reached l.0 p (slice_get_within (row_of lists n) l.0 p l.1) l.1 (omega arith))
      ];
    }

hides_by : (rows : List (List Bool)) (lists : List (List ℕ)) (to n size : ℕ) (row marks after : List Bool) (t t1 : List ℕ) → slice_get rows n ≡ Some row → (b : Bool) → is_set (slice_get row to) ≡ b → Adds b (row_of lists n) marks t after t1 → Hides rows lists to n size marks → Hides rows lists to (n + 1) size after
hides_by rows lists to n size row marks after t t1 e true q s h = hides_add rows lists to n size row marks after t t1 e (set_some (slice_get row to) q) s h
hides_by rows lists to n size row marks after t t1 e false q s h = subst (λ x. Hides rows lists to (n + 1) size x) (sym s) (hides_skip rows lists to n size row marks e (λ m. clash true refl (sym (ap is_set m) ∙ q)) h)

pub hides_more : (rows : List (List Bool)) (lists : List (List ℕ)) (to n size : ℕ) (row marks after : List Bool) (list t t1 : List ℕ) → slice_get rows n ≡ Some row → list ≡ row_of lists n → Adds (is_set (slice_get row to)) list marks t after t1 → Hides rows lists to n size marks → Hides rows lists to (n + 1) size after
hides_more rows lists to n size row marks after list t t1 e f s h =
    hides_by rows lists to n size row marks after t t1 e (is_set (slice_get row to)) refl (subst (λ x. Adds (is_set (slice_get row to)) x marks t after t1) f s) h

-- ---- Uses

pub shadowed_more : (hs : List Named) (fs : List Outline) (i : ℕ) (all : List Named) (marks : List Bool) (g : Outline) (xs : List Mention) (k : ℕ) (d : Mention) (b : Bool) (best one new : Option Refusal) → Tells hs fs i all marks → k < length xs → b ≡ (not (stands_in (get_or xs k d).name.0 hs) && not (stands_in (get_or xs k d).name.0 g.locals) && is_set_at (first (get_or xs k d).name.0 all) marks) → one ≡ refused_if b shadow (get_or xs k d).place → new ≡ earlier best one → IsFirstOf (Among (IsShadowed hs fs i g) xs k) best → IsFirstOf (Among (IsShadowed hs fs i g) xs (k + 1)) new
shadowed_more hs fs i all marks g xs k d b best one new tells h t e f before =
    let x = get_or xs k d in
    let p = not (stands_in (get_or xs k d).name.0 hs) in
    let q = not (stands_in (get_or xs k d).name.0 g.locals) in
    let r = is_set_at (first (get_or xs k d).name.0 all) marks in
    more_tested (IsShadowed hs fs i g) xs k d b shadow (get_or xs k d).place best one new h e f
    (λ u. let w = both (p && q) r (sym t ∙ u) in let v = both p q w.0 in record { no_function = negated (stands_in (get_or xs k d).name.0 hs) v.0; not_local = negated (stands_in (get_or xs k d).name.0 g.locals) v.1; hidden = tells.sound (get_or xs k d).name.0 w.1; is = refl })
    (λ s a. (t ∙ both_of (p && q) r (both_of p q (negate (stands_in (get_or xs k d).name.0 hs) a.no_function) (negate (stands_in (get_or xs k d).name.0 g.locals) a.not_local)) (tells.complete (get_or xs k d).name.0 a.hidden), a.is))
    before
