-- Where a name first stands in a list that grows.
use Rattle.std.proofs.Common.{◌≡◌, ◌∙◌, sym, ap, refl, ℕ, suc, ◌+◌, ◌<◌, List, [], ◌∷◌, ◌++◌, length, Option, Some, None, Bool, true, false, cond, nat_lt, not, arith, get_or, take, ◌≤◌, eqb, length-append, ◌||◌, inl, inr, ◌⊎◌}
use Rattle.std.specs.Prelude.{position, is_some, IfSome}
use Rattle.std.specs.List.{position_or_len, list_any}
use Rattle.std.proofs.lemmas.List.Folds.{position_or_len_push}
use Rattle.std.proofs.lemmas.List.Sums.{prefix_len-le-length, fails_before_first}
use Rattle.std.proofs.lemmas.List.Quantifiers.{position-Some}
use Rattle.std.proofs.lemmas.Option.{slice_get-get_or, slice_get_within, get_or_from_slice_get}
use Rattle.std.specs.List.{slice_get}
use Rattle.aplc_names.specs.Firsts.{is_before}
use Rattle.std.proofs.lemmas.List.{take_more, length-take-le}
use Rattle.aplc_syntax.specs.declared.tree.Named.{Named}
use Rattle.aplc_names.specs.Tables.{found_or, first, is_named}
use Rattle.std.proofs.lemmas.Bool.Decides.{nat_tests}

counted : (a n : ℕ) (b : Bool) → a ≤ n → cond (nat_lt (cond (eqb a n) (n + cond b 0 1) a) (n + 1)) (Some (cond (eqb a n) (n + cond b 0 1) a)) None ≡ found_or (cond (nat_lt a n) (Some a) None) b n
counted a n true h = grind (arith, nat_tests)
counted a n false h = grind (arith, nat_tests)

pub position-push : {X : Type 0} (p : X → Bool) (xs : List X) (y : X) → position p (xs ++ y ∷ []) ≡ found_or (position p xs) (p y) (length xs)
position-push p xs y = simp (position_or_len_push, length-append) (counted (position_or_len p xs) (length xs) (p y) (prefix_len-le-length (λ x. not (p x)) xs))

pub clash : (b : Bool) → b ≡ true → b ≡ false → ⊥
clash true h k = let e : true ≡ false = k in cc
clash false h k = let e : false ≡ true = h in cc

below_or : (a b : ℕ) → (a < b) ⊎ (b ≤ a)
below_or a b = grind arith

less : (i k : ℕ) → i < k → nat_lt i k ≡ true
less i k h = grind (arith, nat_tests)

pub turned : (b : Bool) (a : ℕ) → cond (not b) (1 + a) 0 ≡ cond b 0 (suc a)
turned true a = refl
turned false a = omega arith

tested : (a n : ℕ) (b : Bool) → is_some (cond (nat_lt (cond b 0 (suc a)) (suc n)) (Some (cond b 0 (suc a))) None) ≡ (b || is_some (cond (nat_lt a n) (Some a) None))
tested a n true = grind (arith, nat_tests)
tested a n false = grind (arith, nat_tests)

pub is_some-position : {X : Type 0} (p : X → Bool) (xs : List X) → is_some (position p xs) ≡ list_any p xs
is_some-position p [] = refl
is_some-position {X = X} p (x ∷ xs) =
    ap (λ k. is_some (cond (nat_lt k (length (x ∷ xs))) (Some k) None)) (turned (p x) (position_or_len p xs))
    ∙ tested (position_or_len p xs) (length xs) (p x) ∙ ap (λ b. p x || b) (is_some-position p xs)

-- one name more of a list
pub first_more : (n : ℕ) (xs : List Named) (i : ℕ) (d : Named) → i < length xs → first n (take (i + 1) xs) ≡ found_or (first n (take i xs)) (is_named n (get_or xs i d)) i
first_more n xs i d h =
    ap (first n) (take_more xs i d h) ∙ position-push (is_named n) (take i xs) (get_or xs i d)
    ∙ ap (found_or (first n (take i xs)) (is_named n (get_or xs i d))) (length-take-le i xs (omega arith))

pub noted : (n : ℕ) (xs : List Named) (i : ℕ) (d : Named) → i < length xs → (old new : Option ℕ) → new ≡ found_or old (is_named n (get_or xs i d)) i → old ≡ first n (take i xs) → new ≡ first n (take (i + 1) xs)
noted n xs i d h old new e f = e ∙ ap (λ o. found_or o (is_named n (get_or xs i d)) i) f ∙ sym (first_more n xs i d h)

-- what stands where a test first passes
pub at_first : {X : Type 0} (p : X → Bool) (xs : List X) (i : ℕ) (d : X) → position p xs ≡ Some i → (x : X) × (slice_get xs i ≡ Some x) × (p x ≡ true)
at_first p xs i d e = let f = position-Some p xs i d e in (get_or xs i d, slice_get-get_or xs i d f.0, f.1)

placed : (q n : ℕ) → q < n → cond (nat_lt q n) (Some q) None ≡ Some q
placed q n h = grind (arith, nat_tests)

not_past : {X : Type 0} (p : X → Bool) (xs : List X) (i : ℕ) (x : X) → slice_get xs i ≡ Some x → p x ≡ true → position_or_len p xs ≤ i
not_past p xs i x e t =
    elim (below_or i (position_or_len p xs)) as (λ _. position_or_len p xs ≤ i) [
      | inl h ↦ (let f : p (get_or xs i x) ≡ false = fails_before_first p xs i x h in let g : get_or xs i x ≡ x = get_or_from_slice_get xs i x x e in absurd (clash (p x) t (sym (ap p g) ∙ f)))
      | inr h ↦ h
    ]

-- where an item that passes stands, the first that passes is not behind it
pub found_by : {X : Type 0} (p : X → Bool) (xs : List X) (i : ℕ) (x : X) → slice_get xs i ≡ Some x → p x ≡ true → (j : ℕ) × (position p xs ≡ Some j) × (j ≤ i)
found_by p xs i x e t =
    let le : position_or_len p xs ≤ i = not_past p xs i x e t in
    let lt : i < length xs = slice_get_within xs i x e in
    (position_or_len p xs, placed (position_or_len p xs) (length xs) (omega arith), le)

pub first_within : (n : ℕ) (xs : List Named) (o : Option ℕ) → o ≡ first n xs → IfSome o (λ i. i < length xs)
first_within n xs None e = tt
first_within n xs (Some i) e = (position-Some (is_named n) xs i (record { name = record { 0 = 0 }; place = 0 }) (sym e)).0

pub named_is : (n : ℕ) (x : Named) → is_named n x ≡ true → x.name.0 ≡ n
named_is n x h = grind (arith, nat_tests)

pub is_named_of : (n : ℕ) (x : Named) → x.name.0 ≡ n → is_named n x ≡ true
is_named_of n x h = grind (arith, nat_tests)

pub some_before : (o : Option ℕ) (k : ℕ) → is_before o k ≡ true → (i : ℕ) × (o ≡ Some i) × (i < k)
some_before None k h = absurd (clash false h refl)
some_before (Some i) k h = (i, refl, grind (arith, nat_tests))

pub before_some : (o : Option ℕ) (k i : ℕ) → o ≡ Some i → i < k → is_before o k ≡ true
before_some o k i e h = ap (λ x. is_before x k) e ∙ less i k h

pub ruleset tables = (is_some-position)
