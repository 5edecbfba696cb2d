-- Raising a fact in a row, in a list of tables, and in the tables.
use Rattle.std.proofs.Common.{◌≡◌, ◌∙◌, sym, ap, refl, subst, ℕ, zero, suc, ◌+◌, ◌<◌, ◌≤◌, List, [], ◌∷◌, ◌++◌, length, Some, None, Bool, true, false, arith, inl, inr, ◌⊎◌, set, get_or, slice_get}
use Rattle.std.specs.Prelude.{unwrap_or}
use Rattle.std.proofs.lemmas.Option.{slice_get-get_or}
use Rattle.aplc_infer.specs.declared.fact.Inferred.{Inferred}
use Rattle.aplc_infer.specs.declared.fact.Inferred.TheVariants.{Unset}
use Rattle.aplc_infer.specs.declared.cell.Cell.TheVariants as cell
use Rattle.aplc_infer.specs.declared.tables.Spot.{Spot}
use Rattle.aplc_infer.specs.declared.tables.Spot.TheVariants.{Here, Hub}
use Rattle.aplc_infer.specs.declared.tables.Tables.{Tables}
use Rattle.aplc_infer.specs.Facts.{below, join, room, IsShort}
use Rattle.aplc_infer.specs.Seeing.{at}
use Rattle.aplc_infer.specs.Rising.{look_or, look_in, room_in, room_row, room_rows, at2, at3, Rises, RowRises, RowsRise, BlocksRise}
use Rattle.aplc_infer.specs.Tables.{look, spot_in, TablesRise, Forgets}
use Rattle.aplc_infer.proofs.Order.{join_falls}

-- ---- One entry of a list

none_some : {A : Type 0} (x : A) → None ≡ Some x → ⊥
none_some x e = cc

some_same : {A : Type 0} (x y : A) → Some x ≡ Some y → x ≡ y
some_same x y e = cc

set_get : {A : Type 0} (xs : List A) (k j : ℕ) (a b : A) → slice_get xs k ≡ Some a → (slice_get (set xs k b) j ≡ slice_get xs j) ⊎ ((j ≡ k) × (slice_get (set xs k b) j ≡ Some b))
set_get [] k j a b e = absurd (none_some a e)
set_get (x ∷ xs) zero zero a b e = inr (refl, refl)
set_get (x ∷ xs) zero (suc j) a b e = inl refl
set_get (x ∷ xs) (suc k) zero a b e = inl refl
set_get (x ∷ xs) (suc k) (suc j) a b e = elim (set_get xs k j a b e) as (λ _. (slice_get (set (x ∷ xs) (suc k) b) (suc j) ≡ slice_get (x ∷ xs) (suc j)) ⊎ ((suc j ≡ suc k) × (slice_get (set (x ∷ xs) (suc k) b) (suc j) ≡ Some b))) [
  | inl h ↦ inl h
  | inr h ↦ inr (ap suc h.0, h.1)
]

set_back : {A : Type 0} (xs : List A) (k : ℕ) (a : A) → slice_get xs k ≡ Some a → set xs k a ≡ xs
set_back [] k a e = absurd (none_some a e)
set_back (x ∷ xs) zero a e = ap (λ y. y ∷ xs) (sym (some_same x a e))
set_back (x ∷ xs) (suc k) a e = ap (λ ys. x ∷ ys) (set_back xs k a e)

swapped : (a b c d e : ℕ) → a + b ≡ c + d → (e + a) + b ≡ (e + c) + d
swapped a b c d e h = omega arith

set_room : {A : Type 0} (size : A → ℕ) (xs : List A) (k : ℕ) (a b : A) → slice_get xs k ≡ Some a → room_in size (set xs k b) + size a ≡ room_in size xs + size b
set_room size [] k a b e = absurd (none_some a e)
set_room size (x ∷ xs) zero a b e = let same : size x ≡ size a = ap size (some_same x a e) in omega arith
set_room size (x ∷ xs) (suc k) a b e = swapped (room_in size (set xs k b)) (size a) (room_in size xs) (size b) (size x) (set_room size xs k a b e)

less : (p q a b : ℕ) → p + a ≡ q + b → b < a → p < q
less p q a b e h = omega arith

-- ---- A row

at_found : (xs : List Inferred) (k : ℕ) (x : Inferred) → slice_get xs k ≡ Some x → at xs k ≡ x
at_found xs k x e = ap (λ o. unwrap_or o Unset) e

pub row_stays : (xs : List Inferred) (k : ℕ) (x f : Inferred) → slice_get xs k ≡ Some x → below f x ≡ true → RowRises xs xs k f false
row_stays xs k x f e h = record {
  still = λ r. (refl, ap (λ y. below f y) (at_found xs k x e) ∙ h);
  falls = λ r. cc;
  only = λ j. inl refl;
}

pub row_rises : (xs : List Inferred) (k : ℕ) (x f : Inferred) → slice_get xs k ≡ Some x → below f x ≡ false → IsShort f → RowRises xs (set xs k (join x f)) k f true
row_rises xs k x f e h s = record {
  still = λ r. cc;
  falls = λ r. less (room_row (set xs k (join x f))) (room_row xs) (room x) (room (join x f)) (set_room room xs k x (join x f) e) (join_falls x f s h);
  only = λ j. elim (set_get xs k j x (join x f) e) as (λ _. (at (set xs k (join x f)) j ≡ at xs j) ⊎ ((j ≡ k) × (at (set xs k (join x f)) j ≡ join (at xs k) f))) [
    | inl u ↦ inl (ap (λ o. unwrap_or o Unset) u)
    | inr u ↦ inr (u.0, ap (λ o. unwrap_or o Unset) u.1 ∙ ap (λ y. join y f) (sym (at_found xs k x e)))
  ];
}

pub found_at : {A : Type 0} (xs : List A) (k : ℕ) (x : A) → k < length xs → x ≡ get_or xs k x → slice_get xs k ≡ Some x
found_at xs k x h e = slice_get-get_or xs k x h ∙ ap (λ y. Some y) (sym e)

-- ---- A list of tables

module _ {A I : Type 0} (see : A → I → Inferred) (size : A → ℕ) where
  abbrev Wide : List A → List A → ℕ × I → Inferred → Bool → Type 0
  Wide old new i f rose = Rises (List A) (ℕ × I) (look_in see) (room_in size) old new i f rose

  found : (xs : List A) (l : ℕ) (a : A) (i : I) → slice_get xs l ≡ Some a → look_in see xs (l, i) ≡ see a i
  found xs l a i e = ap (λ o. look_or see o i) e

  pub lifted : (xs : List A) (l : ℕ) (a b : A) (i : I) (f : Inferred) (rose : Bool) → slice_get xs l ≡ Some a → Rises A I see size a b i f rose → Wide xs (set xs l b) (l, i) f rose
  lifted xs l a b i f rose e r = record {
    still = λ h. (ap (λ x. set xs l x) (r.still h).0 ∙ set_back xs l a e, ap (λ y. below f y) (found xs l a i e) ∙ (r.still h).1);
    falls = λ h. less (room_in size (set xs l b)) (room_in size xs) (size a) (size b) (set_room size xs l a b e) (r.falls h);
    only = λ j. elim (set_get xs l j.0 a b e) as (λ _. (look_in see (set xs l b) j ≡ look_in see xs j) ⊎ ((j ≡ (l, i)) × (look_in see (set xs l b) j ≡ join (look_in see xs (l, i)) f))) [
      | inl u ↦ inl (ap (λ o. look_or see o j.1) u)
      | inr u ↦ elim (r.only j.1) as (λ _. (look_in see (set xs l b) j ≡ look_in see xs j) ⊎ ((j ≡ (l, i)) × (look_in see (set xs l b) j ≡ join (look_in see xs (l, i)) f))) [
        | inl v ↦ inl (ap (λ o. look_or see o j.1) u.1 ∙ v ∙ sym (ap (λ m. look_in see xs (m, j.1)) u.0 ∙ found xs l a j.1 e))
        | inr v ↦ inr (ap (λ m. (m, j.1)) u.0 ∙ ap (λ n. (l, n)) v.0, ap (λ o. look_or see o j.1) u.1 ∙ v.1 ∙ sym (ap (λ y. join y f) (found xs l a i e)))
      ]
    ];
  }

pub in_rows : (ys xs : List (List Inferred)) (l : ℕ) (a b : List Inferred) (k : ℕ) (f : Inferred) (rose : Bool) → ys ≡ xs → l < length xs → a ≡ get_or xs l a → RowRises a b k f rose → RowsRise ys (set xs l b) (l, k) f rose
in_rows ys xs l a b k f rose same w e r = subst (λ zs. RowsRise zs (set xs l b) (l, k) f rose) (sym same) (lifted at room_row xs l a b k f rose (found_at xs l a w e) r)

pub in_blocks : (ys xs : List (List (List Inferred))) (i : ℕ) (a b : List (List Inferred)) (l k : ℕ) (f : Inferred) (rose : Bool) → ys ≡ xs → i < length xs → a ≡ get_or xs i a → RowsRise a b (l, k) f rose → BlocksRise ys (set xs i b) (i, (l, k)) f rose
in_blocks ys xs i a b l k f rose same w e r = subst (λ zs. BlocksRise zs (set xs i b) (i, (l, k)) f rose) (sym same) (lifted at2 room_rows xs i a b (l, k) f rose (found_at xs i a w e) r)

pub passed_blocks : (ys xs : List (List (List Inferred))) (i : ℕ) (a b : List (List Inferred)) (l m k : ℕ) (rose : Bool) → ys ≡ xs → i < length xs → a ≡ get_or xs i a → RowsRise a b (m, k) (at2 a (l, k)) rose → BlocksRise ys (set xs i b) (i, (m, k)) (at3 ys (i, (l, k))) rose
passed_blocks ys xs i a b l m k rose same w e r =
    let there : at3 ys (i, (l, k)) ≡ at2 a (l, k) = ap (λ zs. at3 zs (i, (l, k))) same ∙ ap (λ o. look_or at2 o (l, k)) (found_at xs i a w e) in
    subst (λ f. BlocksRise ys (set xs i b) (i, (m, k)) f rose) (sym there) (in_blocks ys xs i a b m k (at2 a (l, k)) rose same w e r)

-- ---- The tables, by their fields

abbrev Or : Tables → Tables → Spot → Inferred → Spot → Type 0
Or t u i f j = (look u j ≡ look t j) ⊎ ((j ≡ i) × (look u j ≡ join (look t i) f))

no_first : (n : ℕ) → 0 ≡ suc n → ⊥
no_first n e = absurd (omega arith)

pub in_nodes : (t u : Tables) (k : ℕ) (f : Inferred) (rose : Bool) → RowRises t.nodes u.nodes k f rose → u ≡ record t { nodes = u.nodes } → TablesRise t u (Here (cell.Node k)) f rose
in_nodes t u k f rose r e = subst (λ u'. TablesRise t u' (Here (cell.Node k)) f rose) (sym e) (part u.nodes r)
  where
    part : (b : List Inferred) → RowRises t.nodes b k f rose → TablesRise t (record t { nodes = b }) (Here (cell.Node k)) f rose
    part b r = record {
      still = λ h. (ap (λ x. record t { nodes = x }) (r.still h).0, (r.still h).1);
      falls = λ h. let less = r.falls h in omega arith;
      only = only;
    }
      where
        only : (j : Spot) → Or t (record t { nodes = b }) (Here (cell.Node k)) f j
        only (Here (cell.Node n)) = elim (r.only n) as (λ _. Or t (record t { nodes = b }) (Here (cell.Node k)) f (Here (cell.Node n))) [ inl v ↦ inl v | inr v ↦ inr (ap (λ x. Here (cell.Node x)) v.0, v.1) ]
        only (Here (cell.Global n)) = inl refl
        only (Here (cell.Left n)) = inl refl
        only (Here (cell.Right n)) = inl refl
        only (Here (cell.Answer n)) = inl refl
        only (Here (cell.Start i zero n)) = inl refl
        only (Here (cell.Start i (suc m) n)) = inl refl
        only (Hub i n) = inl refl

pub in_globals : (t u : Tables) (k : ℕ) (f : Inferred) (rose : Bool) → RowRises t.globals u.globals k f rose → u ≡ record t { globals = u.globals } → TablesRise t u (Here (cell.Global k)) f rose
in_globals t u k f rose r e = subst (λ u'. TablesRise t u' (Here (cell.Global k)) f rose) (sym e) (part u.globals r)
  where
    part : (b : List Inferred) → RowRises t.globals b k f rose → TablesRise t (record t { globals = b }) (Here (cell.Global k)) f rose
    part b r = record {
      still = λ h. (ap (λ x. record t { globals = x }) (r.still h).0, (r.still h).1);
      falls = λ h. let less = r.falls h in omega arith;
      only = only;
    }
      where
        only : (j : Spot) → Or t (record t { globals = b }) (Here (cell.Global k)) f j
        only (Here (cell.Node n)) = inl refl
        only (Here (cell.Global n)) = elim (r.only n) as (λ _. Or t (record t { globals = b }) (Here (cell.Global k)) f (Here (cell.Global n))) [ inl v ↦ inl v | inr v ↦ inr (ap (λ x. Here (cell.Global x)) v.0, v.1) ]
        only (Here (cell.Left n)) = inl refl
        only (Here (cell.Right n)) = inl refl
        only (Here (cell.Answer n)) = inl refl
        only (Here (cell.Start i zero n)) = inl refl
        only (Here (cell.Start i (suc m) n)) = inl refl
        only (Hub i n) = inl refl

pub in_lefts : (t u : Tables) (k : ℕ) (f : Inferred) (rose : Bool) → RowRises t.lefts u.lefts k f rose → u ≡ record t { lefts = u.lefts } → TablesRise t u (Here (cell.Left k)) f rose
in_lefts t u k f rose r e = subst (λ u'. TablesRise t u' (Here (cell.Left k)) f rose) (sym e) (part u.lefts r)
  where
    part : (b : List Inferred) → RowRises t.lefts b k f rose → TablesRise t (record t { lefts = b }) (Here (cell.Left k)) f rose
    part b r = record {
      still = λ h. (ap (λ x. record t { lefts = x }) (r.still h).0, (r.still h).1);
      falls = λ h. let less = r.falls h in omega arith;
      only = only;
    }
      where
        only : (j : Spot) → Or t (record t { lefts = b }) (Here (cell.Left k)) f j
        only (Here (cell.Node n)) = inl refl
        only (Here (cell.Global n)) = inl refl
        only (Here (cell.Left n)) = elim (r.only n) as (λ _. Or t (record t { lefts = b }) (Here (cell.Left k)) f (Here (cell.Left n))) [ inl v ↦ inl v | inr v ↦ inr (ap (λ x. Here (cell.Left x)) v.0, v.1) ]
        only (Here (cell.Right n)) = inl refl
        only (Here (cell.Answer n)) = inl refl
        only (Here (cell.Start i zero n)) = inl refl
        only (Here (cell.Start i (suc m) n)) = inl refl
        only (Hub i n) = inl refl

pub in_rights : (t u : Tables) (k : ℕ) (f : Inferred) (rose : Bool) → RowRises t.rights u.rights k f rose → u ≡ record t { rights = u.rights } → TablesRise t u (Here (cell.Right k)) f rose
in_rights t u k f rose r e = subst (λ u'. TablesRise t u' (Here (cell.Right k)) f rose) (sym e) (part u.rights r)
  where
    part : (b : List Inferred) → RowRises t.rights b k f rose → TablesRise t (record t { rights = b }) (Here (cell.Right k)) f rose
    part b r = record {
      still = λ h. (ap (λ x. record t { rights = x }) (r.still h).0, (r.still h).1);
      falls = λ h. let less = r.falls h in omega arith;
      only = only;
    }
      where
        only : (j : Spot) → Or t (record t { rights = b }) (Here (cell.Right k)) f j
        only (Here (cell.Node n)) = inl refl
        only (Here (cell.Global n)) = inl refl
        only (Here (cell.Left n)) = inl refl
        only (Here (cell.Right n)) = elim (r.only n) as (λ _. Or t (record t { rights = b }) (Here (cell.Right k)) f (Here (cell.Right n))) [ inl v ↦ inl v | inr v ↦ inr (ap (λ x. Here (cell.Right x)) v.0, v.1) ]
        only (Here (cell.Answer n)) = inl refl
        only (Here (cell.Start i zero n)) = inl refl
        only (Here (cell.Start i (suc m) n)) = inl refl
        only (Hub i n) = inl refl

pub in_answers : (t u : Tables) (k : ℕ) (f : Inferred) (rose : Bool) → RowRises t.answers u.answers k f rose → u ≡ record t { answers = u.answers } → TablesRise t u (Here (cell.Answer k)) f rose
in_answers t u k f rose r e = subst (λ u'. TablesRise t u' (Here (cell.Answer k)) f rose) (sym e) (part u.answers r)
  where
    part : (b : List Inferred) → RowRises t.answers b k f rose → TablesRise t (record t { answers = b }) (Here (cell.Answer k)) f rose
    part b r = record {
      still = λ h. (ap (λ x. record t { answers = x }) (r.still h).0, (r.still h).1);
      falls = λ h. let less = r.falls h in omega arith;
      only = only;
    }
      where
        only : (j : Spot) → Or t (record t { answers = b }) (Here (cell.Answer k)) f j
        only (Here (cell.Node n)) = inl refl
        only (Here (cell.Global n)) = inl refl
        only (Here (cell.Left n)) = inl refl
        only (Here (cell.Right n)) = inl refl
        only (Here (cell.Answer n)) = elim (r.only n) as (λ _. Or t (record t { answers = b }) (Here (cell.Answer k)) f (Here (cell.Answer n))) [ inl v ↦ inl v | inr v ↦ inr (ap (λ x. Here (cell.Answer x)) v.0, v.1) ]
        only (Here (cell.Start i zero n)) = inl refl
        only (Here (cell.Start i (suc m) n)) = inl refl
        only (Hub i n) = inl refl

-- row m of function a, which stands at this spot
module _ (t : Tables) (a k : ℕ) where
  pub in_line_part : (l : ℕ) (b : List (List (List Inferred))) (f : Inferred) (rose : Bool) → BlocksRise t.rows b (a, (suc l, k)) f rose → TablesRise t (record t { rows = b }) (Here (cell.Start a (suc l) k)) f rose
  in_line_part l b f rose r = record {
    still = λ h. (ap (λ x. record t { rows = x }) (r.still h).0, (r.still h).1);
    falls = λ h. let less = r.falls h in omega arith;
    only = only;
  }
    where
      only : (j : Spot) → Or t (record t { rows = b }) (Here (cell.Start a (suc l) k)) f j
      only (Here (cell.Node n)) = inl refl
      only (Here (cell.Global n)) = inl refl
      only (Here (cell.Left n)) = inl refl
      only (Here (cell.Right n)) = inl refl
      only (Here (cell.Answer n)) = inl refl
      only (Here (cell.Start i zero n)) = inl refl
      only (Here (cell.Start i (suc m) n)) = elim (r.only (i, (suc m, n))) as (λ _. Or t (record t { rows = b }) (Here (cell.Start a (suc l) k)) f (Here (cell.Start i (suc m) n))) [ inl v ↦ inl v | inr v ↦ inr (ap (λ (x : ℕ × (ℕ × ℕ)). Here (cell.Start x.0 x.1.0 x.1.1)) v.0, v.1) ]
      only (Hub i n) = elim (r.only (i, (0, n))) as (λ _. Or t (record t { rows = b }) (Here (cell.Start a (suc l) k)) f (Hub i n)) [ inl v ↦ inl v | inr v ↦ absurd (no_first l (ap (λ (x : ℕ × (ℕ × ℕ)). x.1.0) v.0)) ]

  pub in_hub_part : (b : List (List (List Inferred))) (f : Inferred) (rose : Bool) → BlocksRise t.rows b (a, (0, k)) f rose → TablesRise t (record t { rows = b }) (Hub a k) f rose
  in_hub_part b f rose r = record {
    still = λ h. (ap (λ x. record t { rows = x }) (r.still h).0, (r.still h).1);
    falls = λ h. let less = r.falls h in omega arith;
    only = only;
  }
    where
      only : (j : Spot) → Or t (record t { rows = b }) (Hub a k) f j
      only (Here (cell.Node n)) = inl refl
      only (Here (cell.Global n)) = inl refl
      only (Here (cell.Left n)) = inl refl
      only (Here (cell.Right n)) = inl refl
      only (Here (cell.Answer n)) = inl refl
      only (Here (cell.Start i zero n)) = inl refl
      only (Here (cell.Start i (suc m) n)) = elim (r.only (i, (suc m, n))) as (λ _. Or t (record t { rows = b }) (Hub a k) f (Here (cell.Start i (suc m) n))) [ inl v ↦ inl v | inr v ↦ absurd (no_first m (sym (ap (λ (x : ℕ × (ℕ × ℕ)). x.1.0) v.0))) ]
      only (Hub i n) = elim (r.only (i, (0, n))) as (λ _. Or t (record t { rows = b }) (Hub a k) f (Hub i n)) [ inl v ↦ inl v | inr v ↦ inr (ap (λ (x : ℕ × (ℕ × ℕ)). Hub x.0 x.1.1) v.0, v.1) ]

-- row m, whichever it is
pub in_row_part : (t : Tables) (a m k : ℕ) (b : List (List (List Inferred))) (f : Inferred) (rose : Bool) → BlocksRise t.rows b (a, (m, k)) f rose → TablesRise t (record t { rows = b }) (spot_in a m k) f rose
in_row_part t a zero k b f rose r = in_hub_part t a k b f rose r
in_row_part t a (suc m) k b f rose r = in_line_part t a k m b f rose r

pub look_row : (t : Tables) (a l k : ℕ) → look t (spot_in a l k) ≡ at3 t.rows (a, (l, k))
look_row t a zero k = refl
look_row t a (suc l) k = refl

pub in_rows_passed : (t u : Tables) (a l m k : ℕ) (rose : Bool) → BlocksRise t.rows u.rows (a, (m, k)) (at3 t.rows (a, (l, k))) rose → u ≡ record t { rows = u.rows } → TablesRise t u (spot_in a m k) (look t (spot_in a l k)) rose
in_rows_passed t u a l m k rose r e =
    subst (λ x. TablesRise t u (spot_in a m k) x rose) (sym (look_row t a l k))
    (subst (λ w. TablesRise t w (spot_in a m k) (at3 t.rows (a, (l, k))) rose) (sym e) (in_row_part t a m k u.rows (at3 t.rows (a, (l, k))) rose r))

pub in_hub : (t u : Tables) (a k : ℕ) (f : Inferred) (rose : Bool) → BlocksRise t.rows u.rows (a, (0, k)) f rose → u ≡ record t { rows = u.rows } → TablesRise t u (Hub a k) f rose
in_hub t u a k f rose r e = subst (λ w. TablesRise t w (Hub a k) f rose) (sym e) (in_hub_part t a k u.rows f rose r)

line_spot : (a l k : ℕ) → (l ≡ 0 → ⊥) → spot_in a l k ≡ Here (cell.Start a l k)
line_spot a zero k h = absurd (h refl)
line_spot a (suc l) k h = refl

pub in_line : (t u : Tables) (a l k : ℕ) (f : Inferred) (rose : Bool) → (l ≡ 0 → ⊥) → BlocksRise t.rows u.rows (a, (l, k)) f rose → u ≡ record t { rows = u.rows } → TablesRise t u (Here (cell.Start a l k)) f rose
in_line t u a l k f rose h r e = subst (λ s. TablesRise t u s f rose) (line_spot a l k h) (subst (λ w. TablesRise t w (spot_in a l k) f rose) (sym e) (in_row_part t a l k u.rows f rose r))

pub ruleset fields = (in_nodes, in_globals, in_lefts, in_rights, in_answers, in_hub, in_line)

pub no_start : (t : Tables) (a l k : ℕ) → l ≡ 0 → look t (Here (cell.Start a l k)) ≡ Unset
no_start t a l k e = subst (λ n. look t (Here (cell.Start a n k)) ≡ Unset) (sym e) refl

pub some_start : (t : Tables) (a l k : ℕ) → (l ≡ 0 → ⊥) → look t (Here (cell.Start a l k)) ≡ at3 t.rows (a, (l, k))
some_start t a zero k h = absurd (h refl)
some_start t a (suc l) k h = refl

pub ruleset starts = (no_start, some_start)

-- ---- Where nothing is set

pub blocks_push : (xs : List (List (List Inferred))) (r : List (List Inferred)) → ((i : ℕ × (ℕ × ℕ)) → at3 xs i ≡ Unset) → ((i : ℕ × ℕ) → at2 r i ≡ Unset) → (i : ℕ × (ℕ × ℕ)) → at3 (xs ++ r ∷ []) i ≡ Unset
blocks_push [] r h e (zero, k) = e k
blocks_push [] r h e (suc i, k) = refl
blocks_push (x ∷ xs) r h e (zero, k) = h (0, k)
blocks_push (x ∷ xs) r h e (suc i, k) = blocks_push xs r (λ j. h (suc j.0, j.1)) e (i, k)

pub nothing_set : (t : Tables) → ((k : ℕ) → at t.nodes k ≡ Unset) → ((k : ℕ) → at t.globals k ≡ Unset) → ((k : ℕ) → at t.lefts k ≡ Unset) → ((k : ℕ) → at t.rights k ≡ Unset) → ((k : ℕ) → at t.answers k ≡ Unset) → ((i : ℕ × (ℕ × ℕ)) → at3 t.rows i ≡ Unset) → (s : Spot) → look t s ≡ Unset
nothing_set t a b d e f g (Here (cell.Node k)) = a k
nothing_set t a b d e f g (Here (cell.Global k)) = b k
nothing_set t a b d e f g (Here (cell.Left i)) = d i
nothing_set t a b d e f g (Here (cell.Right i)) = e i
nothing_set t a b d e f g (Here (cell.Answer i)) = f i
nothing_set t a b d e f g (Here (cell.Start i zero k)) = refl
nothing_set t a b d e f g (Here (cell.Start i (suc l) k)) = g (i, (suc l, k))
nothing_set t a b d e f g (Hub i k) = g (i, (0, k))

-- ---- What is remembered

pub forgotten : (t u : Tables) → u ≡ record t { risen = u.risen } → Forgets t u
forgotten t u e = subst (λ w. Forgets t w) (sym e) (record { same = same; room = refl })
  where
    same : (j : Spot) → look (record t { risen = u.risen }) j ≡ look t j
    same (Here (cell.Node n)) = refl
    same (Here (cell.Global n)) = refl
    same (Here (cell.Left i)) = refl
    same (Here (cell.Right i)) = refl
    same (Here (cell.Answer i)) = refl
    same (Here (cell.Start i zero k)) = refl
    same (Here (cell.Start i (suc l) k)) = refl
    same (Hub i k) = refl

pub remembered : (t u w : Tables) (i : Spot) (f : Inferred) (r : Bool) → r ≡ true → TablesRise t u i f r → w ≡ record u { risen = w.risen } → TablesRise t w i f true
remembered t u w i f r h x e =
    let g : Forgets u w = forgotten u w e in
    record {
      still = λ q. cc;
      falls = λ q. let less = x.falls h in let same = g.room in omega arith;
      only = λ j. elim (x.only j) as (λ _. Or t w i f j) [
        | inl v ↦ inl (g.same j ∙ v)
        | inr v ↦ inr (v.0, g.same j ∙ v.1)
      ];
    }

pub width_none : (xs : List (List (List Inferred))) (i l : ℕ) → slice_get xs i ≡ None → (k : ℕ) → 0 ≤ k → at3 xs (i, (l, k)) ≡ Unset
width_none xs i l e k w = ap (λ o. look_or at2 o (l, k)) e

pub width_some : (xs : List (List (List Inferred))) (i l n : ℕ) (a : List (List Inferred)) → slice_get xs i ≡ Some a → ((k : ℕ) → n ≤ k → at2 a (l, k) ≡ Unset) → (k : ℕ) → n ≤ k → at3 xs (i, (l, k)) ≡ Unset
width_some xs i l n a e f k w = ap (λ o. look_or at2 o (l, k)) e ∙ f k w

pub ruleset widths = (width_none, width_some)
