-- Small facts about tests and lists.
use Rattle.std.proofs.Common.{◌≡◌, ℕ, zero, suc, ◌<◌, List, [], ◌∷◌, ◌++◌, length, refl, ap, ◌∙◌, subst, arith}
use Rattle.std.specs.Prelude.{ℤ, take, slice_set, nat_eq, Bool, true, false, ◌&&◌}
use Rattle.std.proofs.lemmas.Bool.Decides.{nat_tests}
use Rattle.aplc_arr.specs.Delayed.{first_n}
use Rattle.aplc_arr.specs.Indexing.{set_all}
use Rattle.std.specs.List.{AllByRecursion}

-- ---- Tests

abbrev IsNo : Bool → Type 0
IsNo true = ⊥
IsNo false = Unit {0}

pub no : false ≡ true → ⊥
no e = subst IsNo e tt

pub and-parts : (a b : Bool) → (a && b) ≡ true → (a ≡ true) × (b ≡ true)
and-parts true b e = (refl, e)
and-parts false b e = absurd (no e)

pub same-number : (m n : ℕ) → nat_eq m n ≡ true → m ≡ n
same-number m n e = grind (arith, nat_tests)

pub is-same : (n : ℕ) → nat_eq n n ≡ true
is-same n = grind (arith, nat_tests)

-- ---- Each element of a list

pub every-push : {X : Type 0} (P : X → Type 0) (xs : List X) (x : X) → AllByRecursion P xs → P x → AllByRecursion P (xs ++ x ∷ [])
every-push P [] x h px = (px, tt)
every-push P (y ∷ xs) x h px = (h.0, every-push P xs x h.1 px)

pub every-first : {X : Type 0} (P : X → Type 0) (h : ℕ → X) → ((p : ℕ) → P (h p)) → (n : ℕ) → AllByRecursion P (first_n h n)
every-first P h q zero = tt
every-first P h q (suc n) = every-push P (first_n h n) (h n) (every-first P h q n) (q n)

pub every-below : {X : Type 0} (P : X → Type 0) (h : ℕ → X) (n : ℕ) → ((p : ℕ) → p < n → P (h p)) → AllByRecursion P (first_n h n)
every-below P h zero q = tt
every-below P h (suc n) q = every-push P (first_n h n) (h n) (every-below P h n (λ p l. q p (omega (arith, l)))) (q n (omega arith))

pub every-take : {X : Type 0} (P : X → Type 0) (n : ℕ) (xs : List X) → AllByRecursion P xs → AllByRecursion P (take n xs)
every-take P zero xs h = tt
every-take P (suc n) [] h = tt
every-take P (suc n) (x ∷ xs) h = (h.0, every-take P n xs h.1)

pub every-set : {X : Type 0} (P : X → Type 0) (xs : List X) (p : ℕ) (x : X) → AllByRecursion P xs → P x → AllByRecursion P (slice_set xs p x)
every-set P [] p x h q = tt
every-set P (y ∷ xs) zero x h q = (q, h.1)
every-set P (y ∷ xs) (suc p) x h q = (h.0, every-set P xs p x h.1 q)

pub length-set : {X : Type 0} (xs : List X) (p : ℕ) (x : X) → length (slice_set xs p x) ≡ length xs
length-set [] p x = refl
length-set (y ∷ xs) zero x = refl
length-set (y ∷ xs) (suc p) x = ap suc (length-set xs p x)

pub every-set_all : (P : ℤ → Type 0) (rs : List (ℕ × ℤ)) (zs : List ℤ) → AllByRecursion (λ (s : ℕ × ℤ). P s.1) rs → AllByRecursion P zs → AllByRecursion P (set_all rs zs)
every-set_all P [] zs h q = q
every-set_all P ((p, z) ∷ rs) zs h q = every-set_all P rs (slice_set zs p z) h.1 (every-set P zs p z q h.0)

pub length-set_all : (rs : List (ℕ × ℤ)) (zs : List ℤ) → length (set_all rs zs) ≡ length zs
length-set_all [] zs = refl
length-set_all ((p, z) ∷ rs) zs = length-set_all rs (slice_set zs p z) ∙ length-set zs p z
