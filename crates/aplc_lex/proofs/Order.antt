-- The order of refusals, the earlier of two, and the first of two kinds.
use Rattle.std.proofs.Common.{◌≡◌, ◌≤◌, ◌<◌, ◌⊎◌, inl, inr, Bool, true, false, ◌&&◌, ◌||◌, Option, Some, None, refl, sym, ap, ap₂, ◌∙◌, nat_lt, nat_eq, arith}
use Rattle.std.specs.Prelude.{if◌then◌else◌}
use Rattle.std.proofs.lemmas.Bool.Decides.{nat_tests}
use Rattle.aplc_lex.specs.declared.token.Refusal.{Refusal}
use Rattle.aplc_lex.specs.Firsts.{refusal, IsBefore, IsFirst, IsFirstOf, comes_before, sooner, earlier}

-- strictly before
abbrev IsSooner : Refusal → Refusal → Type 0
IsSooner r s = (r.place < s.place) ⊎ ((r.place ≡ s.place) × (r.number < s.number))

is_true : (r s : Refusal) → comes_before r s ≡ true → IsSooner r s
is_true r s h = pick (nat_lt r.place s.place) (nat_eq r.place s.place) (nat_lt r.number s.number) refl refl refl h
  where
    pick : (a b c : Bool) → nat_lt r.place s.place ≡ a → nat_eq r.place s.place ≡ b → nat_lt r.number s.number ≡ c → (a || (b && c)) ≡ true → IsSooner r s
    pick true b c e f g h = inl (grind (arith, nat_tests))
    pick false true true e f g h = inr (grind (arith, nat_tests), grind (arith, nat_tests))
    pick false true false e f g h = cc
    pick false false c e f g h = cc

is_false : (r s : Refusal) → comes_before r s ≡ false → IsBefore s r
is_false r s h = pick (nat_lt r.place s.place) (nat_eq r.place s.place) (nat_lt r.number s.number) refl refl refl h
  where
    apart : (b : Bool) → b ≡ true → b ≡ false → ⊥
    apart b i j = cc

    pick : (a b c : Bool) → nat_lt r.place s.place ≡ a → nat_eq r.place s.place ≡ b → nat_lt r.number s.number ≡ c → (a || (b && c)) ≡ false → IsBefore s r
    pick true b c e f g h = cc
    pick false true true e f g h = cc
    pick false true false e f g h = inr (grind (arith, nat_tests), grind (arith, nat_tests))
    pick false false c e f g h = let le : s.place ≤ r.place = grind (arith, nat_tests) in let ne : r.place ≡ s.place → ⊥ = (λ q. (let t : nat_eq r.place s.place ≡ true = grind (arith, nat_tests) in apart _ t f)) in inl (omega arith)

true_is : (r s : Refusal) → IsSooner r s → comes_before r s ≡ true
true_is r s h = elim h as (λ z. comes_before r s ≡ true) [
  | inl l ↦ (let e : nat_lt r.place s.place ≡ true = grind (arith, nat_tests) in ap (λ b. b || (nat_eq r.place s.place && nat_lt r.number s.number)) e)
  | inr l ↦ (let p = l.0 in let n = l.1 in
      let a : nat_lt r.place s.place ≡ false = grind (arith, nat_tests) in let b : nat_eq r.place s.place ≡ true = grind (arith, nat_tests) in let c : nat_lt r.number s.number ≡ true = grind (arith, nat_tests) in
      ap (λ x. x || (nat_eq r.place s.place && nat_lt r.number s.number)) a ∙ ap₂ (λ x y. x && y) b c)
]

false_is : (r s : Refusal) → IsBefore s r → comes_before r s ≡ false
false_is r s h = elim h as (λ z. comes_before r s ≡ false) [
  | inl l ↦ (let a : nat_lt r.place s.place ≡ false = grind (arith, nat_tests) in let b : nat_eq r.place s.place ≡ false = grind (arith, nat_tests) in
      ap (λ x. x || (nat_eq r.place s.place && nat_lt r.number s.number)) a ∙ ap (λ x. x && nat_lt r.number s.number) b)
  | inr l ↦ (let p = l.0 in let n = l.1 in
      let a : nat_lt r.place s.place ≡ false = grind (arith, nat_tests) in let b : nat_eq r.place s.place ≡ true = grind (arith, nat_tests) in let c : nat_lt r.number s.number ≡ false = grind (arith, nat_tests) in
      ap (λ x. x || (nat_eq r.place s.place && nat_lt r.number s.number)) a ∙ ap₂ (λ x y. x && y) b c)
]

strict_through : (a b c : Refusal) → IsSooner a b → IsSooner b c → IsSooner a c
strict_through a b c h g = elim h as (λ z. IsSooner a c) [
  | inl l ↦ elim g as (λ z. IsSooner a c) [ inl k ↦ inl (omega arith) | inr k ↦ inl (omega (arith, k.0)) ]
  | inr l ↦ elim g as (λ z. IsSooner a c) [ inl k ↦ inl (omega (arith, l.0)) | inr k ↦ inr (l.0 ∙ k.0, omega (arith, l.1, k.1)) ]
]

pub through : (a b c : Refusal) → IsBefore a b → IsBefore b c → IsBefore a c
through a b c h g = elim h as (λ z. IsBefore a c) [
  | inl l ↦ elim g as (λ z. IsBefore a c) [ inl k ↦ inl (omega arith) | inr k ↦ inl (omega (arith, k.0)) ]
  | inr l ↦ elim g as (λ z. IsBefore a c) [ inl k ↦ inl (omega (arith, l.0)) | inr k ↦ inr (l.0 ∙ k.0, omega (arith, l.1, k.1)) ]
]

weaker : (a b : Refusal) → IsSooner a b → IsBefore a b
weaker a b h = elim h as (λ z. IsBefore a b) [ inl l ↦ inl l | inr l ↦ inr (l.0, omega (arith, l.1)) ]

sooner_is : (r s : Refusal) (b : Bool) → comes_before s r ≡ b → sooner r s ≡ (if b then s else r)
sooner_is r s b e = ap (λ (x : Bool). if x then s else r) e

sooner_through : (r s t : Refusal) → sooner r (sooner s t) ≡ sooner (sooner r s) t
sooner_through r s t = pick (comes_before t s) (comes_before s r) refl refl
  where
    pick : (a b : Bool) → comes_before t s ≡ a → comes_before s r ≡ b → sooner r (sooner s t) ≡ sooner (sooner r s) t
    pick true true e f = ap (sooner r) (sooner_is s t true e) ∙ sooner_is r t true (true_is t r (strict_through t s r (is_true t s e) (is_true s r f))) ∙ sym (ap (λ x. sooner x t) (sooner_is r s true f) ∙ sooner_is s t true e)
    pick true false e f = ap (sooner r) (sooner_is s t true e) ∙ sym (ap (λ x. sooner x t) (sooner_is r s false f))
    pick false true e f = ap (sooner r) (sooner_is s t false e) ∙ sooner_is r s true f ∙ sym (ap (λ x. sooner x t) (sooner_is r s true f) ∙ sooner_is s t false e)
    pick false false e f = ap (sooner r) (sooner_is s t false e) ∙ sooner_is r s false f ∙ sym (ap (λ x. sooner x t) (sooner_is r s false f) ∙ sooner_is r t false (false_is t r (through r s t (is_false s r f) (is_false t s e))))

pub earlier_through : (a b c : Option Refusal) → earlier a (earlier b c) ≡ earlier (earlier a b) c
earlier_through a b None = refl
earlier_through a None (Some t) = refl
earlier_through None (Some s) (Some t) = refl
earlier_through (Some r) (Some s) (Some t) = ap (λ (x : Refusal). Some x) (sooner_through r s t)

-- none of both only where there is none of each
pub none_first : (a b : Option Refusal) → earlier a b ≡ None → a ≡ None
none_first None b h = refl
none_first (Some r) None h = h
none_first (Some r) (Some s) h = cc

pub none_second : (a b : Option Refusal) → earlier a b ≡ None → b ≡ None
none_second a None h = refl
none_second None (Some s) h = h
none_second (Some r) (Some s) h = cc

-- ---- Of two families

pub either_first : (P Q : Refusal → Type 0) (a b : Option Refusal) → IsFirstOf P a → IsFirstOf Q b → IsFirstOf (λ r. P r ⊎ Q r) (earlier a b)
either_first P Q None None h g = λ r z. elim z as (λ y. ⊥) [ inl p ↦ h r p | inr q ↦ g r q ]
either_first P Q (Some r) None h g = record { stands = inl h.stands; first = λ s z. elim z as (λ y. IsBefore r s) [ inl p ↦ h.first s p | inr q ↦ absurd (g s q) ] }
either_first P Q None (Some s) h g = record { stands = inr g.stands; first = λ t z. elim z as (λ y. IsBefore s t) [ inl p ↦ absurd (h t p) | inr q ↦ g.first t q ] }
either_first P Q (Some r) (Some s) h g = pick (comes_before s r) refl
  where
    pick : (b : Bool) → comes_before s r ≡ b → IsFirst (λ x. P x ⊎ Q x) (if b then s else r)
    pick true e = record { stands = inr g.stands; first = λ t z. elim z as (λ y. IsBefore s t) [ inl p ↦ through s r t (weaker s r (is_true s r e)) (h.first t p) | inr q ↦ g.first t q ] }
    pick false e = record { stands = inl h.stands; first = λ t z. elim z as (λ y. IsBefore r t) [ inl p ↦ h.first t p | inr q ↦ through r s t (is_false s r e) (g.first t q) ] }

pub same_first : (P Q : Refusal → Type 0) (o : Option Refusal) → ((r : Refusal) → P r → Q r) → ((r : Refusal) → Q r → P r) → IsFirstOf P o → IsFirstOf Q o
same_first P Q None f g h = λ r q. h r (g r q)
same_first P Q (Some r) f g h = record { stands = f r h.stands; first = λ s q. h.first s (g s q) }

-- ---- One first

before_both : (r s : Refusal) → IsBefore r s → IsBefore s r → r ≡ s
before_both r s (inl h) (inl k) = absurd (omega arith)
before_both r s (inl h) (inr k) = let e = k.0 in absurd (omega arith)
before_both r s (inr h) (inl k) = let e = h.0 in absurd (omega arith)
before_both r s (inr h) (inr k) =
    let p : r.place ≡ s.place = h.0 in
    let a = h.1 in
    let b = k.1 in
    let n : r.number ≡ s.number = omega arith in
    ap (λ x. refusal x r.place) n ∙ ap (refusal s.number) p

pub one_first : (P : Refusal → Type 0) (r s : Refusal) → IsFirst P r → IsFirst P s → r ≡ s
one_first P r s h k = before_both r s (h.first s k.stands) (k.first r h.stands)
