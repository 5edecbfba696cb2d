-- Items of lists by their places.
use Rattle.std.proofs.Common.{◌≡◌, ◌∙◌, sym, ap, refl, subst, ℕ, zero, suc, ◌+◌, ◌<◌, List, [], ◌∷◌, ◌++◌, length, Option, Some, None, Bool, true, false, ◌||◌, get_or, drop, append_assoc, append-nil, ◌≤◌, inl, inr, ◌⊎◌}
use Rattle.std.specs.Prelude.{flat_map, filter_map}
use Rattle.std.specs.List.{slice_get, cons_option, list_any}
use Rattle.std.specs.Option.{option_to_list}
use Rattle.std.proofs.lemmas.List.{drop_more, drop_all}

pub some_same : {X : Type 0} (x y : X) → (let o : Option X = Some x in o) ≡ Some y → x ≡ y
some_same x y e = cc

pub none_some : {X : Type 0} (x : X) → (let o : Option X = None in o) ≡ Some x → ⊥
none_some x e = cc

pub get_same : {X : Type 0} (xs : List X) (k : ℕ) (x y : X) → slice_get xs k ≡ Some x → slice_get xs k ≡ Some y → x ≡ y
get_same xs k x y e f = some_same x y (sym e ∙ f)

pub get_push : {X : Type 0} (xs : List X) (y x : X) (k : ℕ) → slice_get (xs ++ y ∷ []) k ≡ Some x → (slice_get xs k ≡ Some x) ⊎ ((k ≡ length xs) × (y ≡ x))
get_push [] y x zero e = inr (refl, some_same y x e)
get_push [] y x (suc k) e = absurd (none_some x e)
get_push (z ∷ xs) y x zero e = inl e
get_push (z ∷ xs) y x (suc k) e = elim (get_push xs y x k e) as (λ _. (slice_get xs k ≡ Some x) ⊎ ((suc k ≡ suc (length xs)) × (y ≡ x))) [ inl h ↦ inl h | inr h ↦ inr (ap suc h.0, h.1) ]

pub get_left : {X : Type 0} (xs ys : List X) (x : X) (k : ℕ) → slice_get xs k ≡ Some x → slice_get (xs ++ ys) k ≡ Some x
get_left [] ys x k e = absurd (none_some x e)
get_left (z ∷ xs) ys x zero e = e
get_left (z ∷ xs) ys x (suc k) e = get_left xs ys x k e

-- some place of a list has this item
abbrev pub Has : {X : Type 0} → List X → X → Type 0
Has xs x = (k : ℕ) × (slice_get xs k ≡ Some x)

pub has_left : {X : Type 0} (xs ys : List X) (x : X) → Has xs x → Has (xs ++ ys) x
has_left xs ys x h = (h.0, get_left xs ys x h.0 h.1)

pub has_right : {X : Type 0} (xs ys : List X) (x : X) → Has ys x → Has (xs ++ ys) x
has_right [] ys x h = h
has_right (z ∷ xs) ys x h = let g = has_right xs ys x h in (suc g.0, g.1)

pub has_flat : {X Y : Type 0} (f : X → List Y) (xs : List X) (g : ℕ) (x : X) (y : Y) → slice_get xs g ≡ Some x → Has (f x) y → Has (flat_map f xs) y
has_flat f [] g x y e h = absurd (none_some x e)
has_flat f (z ∷ xs) zero x y e h = has_left (f z) (flat_map f xs) y (subst (λ w. Has (f w) y) (sym (some_same z x e)) h)
has_flat f (z ∷ xs) (suc g) x y e h = has_right (f z) (flat_map f xs) y (has_flat f xs g x y e h)

-- ---- filter_map

pub has_mapped : {X : Type 0} (f : X → Option ℕ) (xs : List X) (k : ℕ) (x : X) (j : ℕ) → slice_get xs k ≡ Some x → f x ≡ Some j → Has (filter_map f xs) j
has_mapped f [] k x j e h = absurd (none_some x e)
has_mapped f (z ∷ xs) zero x j e h = subst (λ o. Has (cons_option o (filter_map f xs)) j) (sym (ap f (some_same z x e) ∙ h)) (0, refl)
has_mapped f (z ∷ xs) (suc k) x j e h = behind (f z) (filter_map f xs) j (has_mapped f xs k x j e h) where
  behind : (o : Option ℕ) (ys : List ℕ) (i : ℕ) → Has ys i → Has (cons_option o ys) i
  behind None ys i w = w
  behind (Some y) ys i w = (suc w.0, w.1)

-- an item that is mapped to j
abbrev pub Maps : {X : Type 0} → (X → Option ℕ) → List X → ℕ → Type 0
Maps {X} f xs j = (k : ℕ) × (x : X) × (slice_get xs k ≡ Some x) × (f x ≡ Some j)

maps_more : {X : Type 0} (f : X → Option ℕ) (z : X) (xs : List X) (j : ℕ) → Maps f xs j → Maps f (z ∷ xs) j
maps_more f z xs j m = (suc m.0, m.1, m.2, m.3)

maps_from : {X : Type 0} (f : X → Option ℕ) (z : X) (xs : List X) (j : ℕ) → (Has (filter_map f xs) j → Maps f xs j) → (o : Option ℕ) → f z ≡ o → (k : ℕ) → slice_get (cons_option o (filter_map f xs)) k ≡ Some j → Maps f (z ∷ xs) j
maps_from f z xs j ih None q k e = maps_more f z xs j (ih (k, e))
maps_from f z xs j ih (Some y) q zero e = (0, z, refl, q ∙ e)
maps_from f z xs j ih (Some y) q (suc k) e = maps_more f z xs j (ih (k, e))

pub maps_of : {X : Type 0} (f : X → Option ℕ) (xs : List X) (j : ℕ) → Has (filter_map f xs) j → Maps f xs j
maps_of f [] j h = absurd (none_some j h.1)
maps_of f (z ∷ xs) j h = maps_from f z xs j (maps_of f xs j) (f z) refl h.0 h.1

-- ---- list_any

any_from : {X : Type 0} (p : X → Bool) (z : X) (xs : List X) → (list_any p xs ≡ true → (k : ℕ) × (x : X) × (slice_get xs k ≡ Some x) × (p x ≡ true)) → (b : Bool) → p z ≡ b → (b || list_any p xs) ≡ true → (k : ℕ) × (x : X) × (slice_get (z ∷ xs) k ≡ Some x) × (p x ≡ true)
any_from p z xs ih true q h = (0, z, refl, q)
any_from p z xs ih false q h = let m = ih h in (suc m.0, m.1, m.2, m.3)

pub any_at : {X : Type 0} (p : X → Bool) (xs : List X) → list_any p xs ≡ true → (k : ℕ) × (x : X) × (slice_get xs k ≡ Some x) × (p x ≡ true)
any_at p [] h = let e : false ≡ true = h in cc
any_at p (z ∷ xs) h = any_from p z xs (any_at p xs) (p z) refl h

-- ---- A loop that keeps what is found

kept_is : (o : Option ℕ) (ys : List ℕ) → cons_option o ys ≡ option_to_list o ++ ys
kept_is None ys = refl
kept_is (Some y) ys = refl

pub mapped_more : {X : Type 0} (f : X → Option ℕ) (xs : List X) (i : ℕ) (d : X) (out new whole : List ℕ) (o : Option ℕ) → i < length xs → o ≡ f (get_or xs i d) → new ≡ out ++ option_to_list o → out ++ filter_map f (drop i xs) ≡ whole → new ++ filter_map f (drop (i + 1) xs) ≡ whole
mapped_more f xs i d out new whole o h e g inv =
    let rest = filter_map f (drop (i + 1) xs) in
    let left : filter_map f (drop i xs) ≡ cons_option (f (get_or xs i d)) (filter_map f (drop (i + 1) xs)) = ap (filter_map f) (drop_more xs i d h) in
    ap (λ t. t ++ filter_map f (drop (i + 1) xs)) g ∙ append_assoc out (option_to_list o) (filter_map f (drop (i + 1) xs))
    ∙ ap (λ t. out ++ t) (sym (kept_is o (filter_map f (drop (i + 1) xs))) ∙ ap (λ q. cons_option q (filter_map f (drop (i + 1) xs))) e ∙ sym left) ∙ inv

pub mapped_start : {X : Type 0} (f : X → Option ℕ) (xs : List X) (out : List ℕ) → out ≡ [] → out ++ filter_map f (drop 0 xs) ≡ filter_map f xs
mapped_start f xs out e = ap (λ t. t ++ filter_map f xs) e

pub mapped_end : {X : Type 0} (f : X → Option ℕ) (xs : List X) (i : ℕ) (out whole : List ℕ) → length xs ≤ i → out ++ filter_map f (drop i xs) ≡ whole → out ≡ whole
mapped_end f xs i out whole h inv = sym (ap (λ t. out ++ filter_map f t) (drop_all i xs h) ∙ append-nil out) ∙ inv
