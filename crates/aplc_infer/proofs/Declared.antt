-- The facts of declared names, found by a list of the names.
use Rattle.std.proofs.Common.{◌≡◌, ◌∙◌, sym, ap, refl, ℕ, suc, ◌+◌, List, [], ◌∷◌, length, map, get_or, Option, Some, None, Bool, true, false, cond, nat_eq, nat_lt, if◌then◌else◌, arith}
use Rattle.std.specs.List.{position_or_len}
use Rattle.std.proofs.lemmas.Bool.Decides.{nat_tests}
use Rattle.std.proofs.lemmas.List.Recursion.{is_position_or_len}
use Rattle.aplc_syntax.specs.declared.tree.Named.{Named}
use Rattle.aplc_syntax.specs.declared.tree.Var.{Var}
use Rattle.aplc_names.specs.Tables.{is_named, first}
use Rattle.aplc_names.specs.Clashes.{var_name}
use Rattle.aplc_infer.specs.declared.fact.Inferred.{Inferred}
use Rattle.aplc_infer.specs.Seeing.{declared_fact, declarations}

-- the place of the first declaration of name n, or how many there are
abbrev place : ℕ → List Var → ℕ
place n [] = 0
place n (v ∷ vs) = if nat_eq v.name.name.0 n then 0 else suc (place n vs)

counted : (b : Bool) (k : ℕ) → (if b then 0 else suc k) ≡ cond b 0 (1 + k)
counted true k = refl
counted false k = omega arith

abbrev names_of : List Var → List Named
names_of vs = map var_name vs

abbrev named : ℕ → List Named → ℕ
named n [] = 0
named n (x ∷ xs) = if is_named n x then 0 else suc (named n xs)

named_is : (n : ℕ) (xs : List Named) → named n xs ≡ position_or_len (is_named n) xs
named_is n xs = is_position_or_len (named n) (is_named n) refl (λ x ys. counted (is_named n x) (named n ys)) xs

place_named : (n : ℕ) (vs : List Var) → place n vs ≡ named n (names_of vs)
place_named n [] = refl
place_named n (v ∷ vs) = ap (λ k. if nat_eq v.name.name.0 n then 0 else suc k) (place_named n vs)

place_is : (n : ℕ) (vs : List Var) → place n vs ≡ position_or_len (is_named n) (names_of vs)
place_is n vs = place_named n vs ∙ named_is n (names_of vs)

names_count : (vs : List Var) → length (names_of vs) ≡ length vs
names_count [] = refl
names_count (v ∷ vs) = ap suc (names_count vs)

lower : (m n : ℕ) → nat_lt (suc m) (suc n) ≡ nat_lt m n
lower m n = grind (arith, nat_tests)

found_if : (b : Bool) (v : Var) (vs : List Var) (n : ℕ) (d : Var) → nat_lt (if b then 0 else suc (place n vs)) (suc (length vs)) ≡ true → (nat_lt (place n vs) (length vs) ≡ true → declarations vs n ≡ Some (declared_fact (get_or vs (place n vs) d))) → (if b then Some (declared_fact v) else declarations vs n) ≡ Some (declared_fact (get_or (v ∷ vs) (if b then 0 else suc (place n vs)) d))
found_if true v vs n d h k = refl
found_if false v vs n d h k = k (sym (lower (place n vs) (length vs)) ∙ h)

found : (vs : List Var) (n : ℕ) (d : Var) → nat_lt (place n vs) (length vs) ≡ true → declarations vs n ≡ Some (declared_fact (get_or vs (place n vs) d))
found [] n d h = absurd (none h)
  where
    none : nat_lt 0 0 ≡ true → ⊥
    none e = grind (arith, nat_tests)
found (v ∷ vs) n d h = found_if (nat_eq v.name.name.0 n) v vs n d h (λ q. found vs n d q)

lost_if : (b : Bool) (v : Var) (vs : List Var) (n : ℕ) → nat_lt (if b then 0 else suc (place n vs)) (suc (length vs)) ≡ false → (nat_lt (place n vs) (length vs) ≡ false → declarations vs n ≡ None) → (if b then Some (declared_fact v) else declarations vs n) ≡ None
lost_if true v vs n h k = absurd (above (length vs) h)
  where
    above : (m : ℕ) → nat_lt 0 (suc m) ≡ false → ⊥
    above m e = grind (arith, nat_tests)
lost_if false v vs n h k = k (sym (lower (place n vs) (length vs)) ∙ h)

lost : (vs : List Var) (n : ℕ) → nat_lt (place n vs) (length vs) ≡ false → declarations vs n ≡ None
lost [] n h = refl
lost (v ∷ vs) n h = lost_if (nat_eq v.name.name.0 n) v vs n h (λ q. lost vs n q)

some_is : (b : Bool) (k i : ℕ) → cond b (Some k) None ≡ Some i → (i ≡ k) × (b ≡ true)
some_is true k i e = (ap (λ (o : Option ℕ). read o) (sym e), refl)
  where
    read : Option ℕ → ℕ
    read None = 0
    read (Some j) = j
some_is false k i e = cc

none_is : (b : Bool) (k : ℕ) → cond b (Some k) None ≡ None → b ≡ false
none_is true k e = cc
none_is false k e = refl

test_at : (vs : List Var) (n : ℕ) → nat_lt (position_or_len (is_named n) (names_of vs)) (length (names_of vs)) ≡ nat_lt (place n vs) (length vs)
test_at vs n = ap (λ k. nat_lt k (length (names_of vs))) (sym (place_is n vs)) ∙ ap (λ k. nat_lt (place n vs) k) (names_count vs)

pub declared_none : (vs : List Var) (xs : List Named) (n : ℕ) (o : Option ℕ) → xs ≡ map var_name vs → o ≡ first n xs → o ≡ None → declarations vs n ≡ None
declared_none vs xs n o e f h =
    lost vs n (sym (test_at vs n) ∙ none_is (nat_lt (position_or_len (is_named n) (names_of vs)) (length (names_of vs))) (position_or_len (is_named n) (names_of vs)) (ap (λ ys. first n ys) (sym e) ∙ sym f ∙ h))

pub declared_some : (vs ws : List Var) (xs : List Named) (n i : ℕ) (o : Option ℕ) (d : Var) (y : Inferred) → xs ≡ map var_name vs → o ≡ first n xs → o ≡ Some i → ws ≡ vs → y ≡ declared_fact (get_or ws i d) → Some y ≡ declarations vs n
declared_some vs ws xs n i o d y e f h w g =
    let both = some_is (nat_lt (position_or_len (is_named n) (names_of vs)) (length (names_of vs))) (position_or_len (is_named n) (names_of vs)) i (ap (λ ys. first n ys) (sym e) ∙ sym f ∙ h) in
    let at = both.0 ∙ sym (place_is n vs) in
    ap (λ (x : Inferred). Some x) (g ∙ ap (λ (k : List Var). declared_fact (get_or k i d)) w ∙ ap (λ k. declared_fact (get_or vs k d)) at)
    ∙ sym (found vs n d (sym (test_at vs n) ∙ both.1))
