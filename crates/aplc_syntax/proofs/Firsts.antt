-- The first refusal of the elements of a list.
use Rattle.std.proofs.Common.{◌≡◌, ℕ, zero, suc, ◌+◌, ◌≤◌, ◌<◌, inl, inr, List, [], ◌∷◌, ◌++◌, Option, Some, None, refl, sym, ap, ◌∙◌, subst, length, drop, get_or, arith, map, append_assoc}
use Rattle.std.specs.Prelude.{All, Contains}
use Rattle.std.specs.List.{AllZip}
use Rattle.std.proofs.lemmas.List.{at_drop_more, at_drop_all, get_or-map, length-map}
use Rattle.std.proofs.lemmas.List.Elements.{All-get_or}
use Rattle.aplc_lex.specs.declared.token.Refusal.{Refusal}
use Rattle.aplc_lex.proofs.Order.{either_first, earlier_through, none_first, none_second}
use Rattle.aplc_lex.specs.Firsts.{IsFirst, earlier, IsFirstOf}
use Rattle.aplc_syntax.specs.Causes.{InSome, IsNoted, Covers}

-- ---- Of one refusal

same_some : (r s : Refusal) → (let x : Option Refusal = Some r in x) ≡ Some s → r ≡ s
same_some r s h = cc

-- the family of one refusal, or of none
pub best_of : (o : Option Refusal) → IsFirstOf (λ r. o ≡ Some r) o
best_of None = λ r e. (let b : ⊥ = clash r e in b)
  where
    clash : (r : Refusal) → (let x : Option Refusal = None in x) ≡ Some r → ⊥
    clash r e = cc
best_of (Some r) = record { stands = refl; first = λ s e. (let q = same_some r s e in inr (ap (λ (x : Refusal). x.place) q, omega (arith, ap (λ (x : Refusal). x.number) q))) }

-- ---- Of a list

pub covers_start : {A L : Type 0} (P : A → Refusal → Type 0) (R : A → L → Type 0) (whole : List A) → Covers P R whole whole None []
covers_start P R whole = record { first = start; items = λ e ls h. h }
  where
    start : (c : Option Refusal) → IsFirstOf (InSome P whole) c → IsFirstOf (InSome P whole) (earlier None c)
    start None h = h
    start (Some r) h = h

covers_one : {A L : Type 0} (P : A → Refusal → Type 0) (R : A → L → Type 0) (whole : List A) (x : A) (rest : List A) (a b : Option Refusal) (xs ys : List L) → IsNoted P R x a b xs ys → Covers P R whole (x ∷ rest) a xs → Covers P R whole rest b ys
covers_one {L = L} P R whole x rest a b xs ys n h = record {
  first = λ c g. subst (λ (z : Option Refusal). IsFirstOf (InSome P whole) z) (earlier_through a n.0 c ∙ ap (λ (z : Option Refusal). earlier z c) (sym n.2)) (h.first (earlier n.0 c) (either_first (P x) (InSome P rest) n.0 c n.1 g));
  items = λ e ls g. (let k = n.3 (none_second a n.0 (sym n.2 ∙ e)) in
      subst (λ (z : List L). AllZip R whole z) (sym (ap (λ (z : List L). z ++ ls) k.2 ∙ append_assoc xs (k.0 ∷ []) ls)) (h.items (none_first a n.0 (sym n.2 ∙ e)) (k.0 ∷ ls) (k.1, g)));
}

-- one element more
pub covers_more : {A L : Type 0} (P : A → Refusal → Type 0) (R : A → L → Type 0) (whole : List A) (i : ℕ) (x : A) (a b : Option Refusal) (xs ys : List L) → i < length whole → x ≡ get_or whole i x
    → IsNoted P R x a b xs ys → Covers P R whole (drop i whole) a xs → Covers P R whole (drop (i + 1) whole) b ys
covers_more {A} P R whole i x a b xs ys l e n h = covers_one P R whole x (drop (i + 1) whole) a b xs ys n (subst (λ (z : List A). Covers P R whole z a xs) (at_drop_more (λ (z : List A). z) whole i x l ∙ ap (λ (y : A). y ∷ drop (i + 1) whole) (sym e)) h)

-- all elements
pub covers_end : {A L : Type 0} (P : A → Refusal → Type 0) (R : A → L → Type 0) (whole : List A) (i : ℕ) (a : Option Refusal) (xs : List L) → length whole ≤ i → Covers P R whole (drop i whole) a xs → IsFirstOf (InSome P whole) a × (a ≡ None → AllZip R whole xs)
covers_end {A} {L} P R whole i a xs l h =
    let g : Covers P R whole [] a xs = subst (λ (z : List A). Covers P R whole z a xs) (at_drop_all (λ (z : List A). z) whole i l) h in
    (g.first None (λ r z. z), λ e. subst (λ (z : List L). AllZip R whole z) (nil xs) (g.items e [] tt))
  where
    nil : (zs : List L) → zs ++ [] ≡ zs
    nil [] = refl
    nil (z ∷ zs) = ap (λ (ws : List L). z ∷ ws) (nil zs)

-- ---- Lists that are mapped

pub some_mapped : {A B : Type 0} (f : A → B) (P : B → Refusal → Type 0) (xs : List A) (r : Refusal) → InSome (λ x. P (f x)) xs r → InSome P (map f xs) r
some_mapped f P [] r h = h
some_mapped f P (x ∷ xs) r h = elim h as (λ z. InSome P (map f (x ∷ xs)) r) [ inl p ↦ inl p | inr q ↦ inr (some_mapped f P xs r q) ]

pub mapped_some : {A B : Type 0} (f : A → B) (P : B → Refusal → Type 0) (xs : List A) (r : Refusal) → InSome P (map f xs) r → InSome (λ x. P (f x)) xs r
mapped_some f P [] r h = h
mapped_some f P (x ∷ xs) r h = elim h as (λ z. InSome (λ y. P (f y)) (x ∷ xs) r) [ inl p ↦ inl p | inr q ↦ inr (mapped_some f P xs r q) ]

pub zip_mapped : {A B L : Type 0} (f : A → B) (R : B → L → Type 0) (xs : List A) (ls : List L) → AllZip (λ x l. R (f x) l) xs ls → AllZip R (map f xs) ls
zip_mapped f R [] [] h = h
zip_mapped f R [] (l ∷ ls) h = h
zip_mapped f R (x ∷ xs) [] h = h
zip_mapped f R (x ∷ xs) (l ∷ ls) h = (h.0, zip_mapped f R xs ls h.1)

-- ---- One element

pub noted_ok : {A L : Type 0} (P : A → Refusal → Type 0) (R : A → L → Type 0) (x : A) (a b : Option Refusal) (xs ys : List L) (l : L) → ((r : Refusal) → P x r → ⊥) → R x l → b ≡ a → ys ≡ xs ++ l ∷ [] → IsNoted P R x a b xs ys
noted_ok P R x a b xs ys l n h e i = (None, n, e, λ f. (l, h, i))

pub noted_bad : {A L : Type 0} (P : A → Refusal → Type 0) (R : A → L → Type 0) (x : A) (a b : Option Refusal) (xs ys : List L) (r : Refusal) → IsFirst (P x) r → b ≡ earlier a (Some r) → IsNoted P R x a b xs ys
noted_bad {L = L} P R x a b xs ys r h e = (Some r, h, e, λ f. absurd (clash r f))
  where
    clash : (s : Refusal) → (let z : Option Refusal = Some s in z) ≡ None → ⊥
    clash s f = cc

-- ---- Elements by their places

pub contains_some : {A : Type 0} (P : A → Refusal → Type 0) (xs : List A) (x : A) (r : Refusal) → Contains xs x → P x r → InSome P xs r
contains_some {A} P xs x r h p = at xs h.0 h.1 h.2
  where
    at : (ys : List A) (k : ℕ) → k < length ys → get_or ys k x ≡ x → InSome P ys r
    at [] k l e = absurd (omega arith)
    at (y ∷ ys) zero l e = inl (subst (λ (z : A). P z r) (sym e) p)
    at (y ∷ ys) (suc k) l e = inr (at ys k (omega arith) e)

pub some_contains : {A : Type 0} (P : A → Refusal → Type 0) (xs : List A) (r : Refusal) → InSome P xs r → (x : A) × Contains xs x × P x r
some_contains P [] r h = absurd h
some_contains {A} P (y ∷ ys) r h = elim h as (λ z. (x : A) × Contains (y ∷ ys) x × P x r) [
  | inl p ↦ (y, (0, omega arith, refl), p)
  | inr q ↦ (let g = some_contains P ys r q in (g.0, (suc (g.1).0, (let l = (g.1).1 in omega arith), (g.1).2), g.2))
]

-- ---- Elements of a list that is mapped

pub all_at : {A B : Type 0} (P : B → Type 0) (f : A → B) (xs : List A) (i : ℕ) (x : A) → i < length xs → x ≡ get_or xs i x → All P (map f xs) → P (f x)
all_at P f xs i x l e a = subst P (get_or-map f xs i x (f x) l ∙ ap f (sym e)) (All-get_or P (map f xs) i (f x) (omega (arith, length-map xs f)) a)

pub first_more : {A B : Type 0} (f : A → B) (P : B → Refusal → Type 0) (rows : List A) (i : ℕ) (x : A) (a k b : Option Refusal) → i < length rows → x ≡ get_or rows i x → IsFirstOf (P (f x)) k → b ≡ earlier a k
    → ((c : Option Refusal) → IsFirstOf (InSome P (map f (drop i rows))) c → IsFirstOf (InSome P (map f rows)) (earlier a c))
    → (c : Option Refusal) → IsFirstOf (InSome P (map f (drop (i + 1) rows))) c → IsFirstOf (InSome P (map f rows)) (earlier b c)
first_more {A} f P rows i x a k b l e p q h c g =
    let here : IsFirstOf (InSome P (map f (drop i rows))) (earlier k c) = subst (λ (z : List A). IsFirstOf (InSome P (map f z)) (earlier k c)) (sym (at_drop_more (λ (z : List A). z) rows i x l ∙ ap (λ (y : A). y ∷ drop (i + 1) rows) (sym e))) (either_first (P (f x)) (InSome P (map f (drop (i + 1) rows))) k c p g) in
    subst (λ (z : Option Refusal). IsFirstOf (InSome P (map f rows)) z) (earlier_through a k c ∙ ap (λ (z : Option Refusal). earlier z c) (sym q)) (h (earlier k c) here)

pub first_end : {A B : Type 0} (f : A → B) (P : B → Refusal → Type 0) (rows : List A) (i : ℕ) (a : Option Refusal) → length rows ≤ i
    → ((c : Option Refusal) → IsFirstOf (InSome P (map f (drop i rows))) c → IsFirstOf (InSome P (map f rows)) (earlier a c)) → IsFirstOf (InSome P (map f rows)) a
first_end {A} f P rows i a l h = h None (subst (λ (z : List A). (r : Refusal) → InSome P (map f z) r → ⊥) (sym (at_drop_all (λ (z : List A). z) rows i l)) (λ r z. z))
