-- The numbers of local names.
use Rattle.std.proofs.Common.{◌≡◌, ◌∙◌, sym, ap, refl, ℕ, zero, suc, ◌+◌, ◌≤◌, List, [], ◌∷◌, length, map, Option, Some, None, Bool, true, false, cond, nat_eq, nat_lt, if◌then◌else◌, arith, position, slice_get}
use Rattle.std.specs.Prelude.{unwrap_or}
use Rattle.std.specs.List.{position_or_len}
use Rattle.std.proofs.lemmas.Bool.Decides.{nat_tests}
use Rattle.std.proofs.lemmas.List.Recursion.{is_position_or_len}
use Rattle.aplc_syntax.specs.declared.tree.Program.{Program}
use Rattle.aplc_names.specs.PlainPrograms.{plain, no_routine}
use Rattle.aplc_infer.specs.Seeing.{local_names, number_in}
use Rattle.aplc_infer.specs.Lookups.{routine_at}

turned : (m n : ℕ) → nat_eq m n ≡ nat_eq n m
turned m n = grind (arith, nat_tests)

one_more : (b : Bool) (k : ℕ) → (if b then 0 else suc k) ≡ cond b 0 (1 + k)
one_more true k = refl
one_more false k = omega arith

number_more : (n m : ℕ) (ns : List ℕ) → number_in n (m ∷ ns) ≡ cond (nat_eq n m) 0 (1 + number_in n ns)
number_more n m ns = ap (λ b. if b then 0 else suc (number_in n ns)) (turned m n) ∙ one_more (nat_eq n m) (number_in n ns)

first_place : (n : ℕ) (ns : List ℕ) → number_in n ns ≡ position_or_len (nat_eq n) ns
first_place n ns = is_position_or_len (number_in n) (nat_eq n) refl (number_more n) ns

number_most_if : (b : Bool) (k n : ℕ) → k ≤ n → (if b then 0 else suc k) ≤ suc n
number_most_if true k n h = omega arith
number_most_if false k n h = omega arith

number_most : (n : ℕ) (ns : List ℕ) → number_in n ns ≤ length ns
number_most n [] = omega arith
number_most n (m ∷ ns) = number_most_if (nat_eq m n) (number_in n ns) (length ns) (number_most n ns)

some_is : (b : Bool) (k j : ℕ) → cond b (Some k) None ≡ Some j → j ≡ k
some_is true k j e = cc
some_is false k j e = cc

none_is : (b : Bool) (k : ℕ) → cond b (Some k) None ≡ None → b ≡ false
none_is true k e = cc
none_is false k e = refl

equal_of : (k n : ℕ) → nat_lt k n ≡ false → k ≤ n → n ≡ k
equal_of k n e h = grind (arith, nat_tests)

pub some_number : (n : ℕ) (ns : List ℕ) (o : Option ℕ) (k : ℕ) → o ≡ position (nat_eq n) ns → o ≡ Some k → k ≡ number_in n ns
some_number n ns o k e f = some_is (nat_lt (position_or_len (nat_eq n) ns) (length ns)) (position_or_len (nat_eq n) ns) k (sym e ∙ f) ∙ sym (first_place n ns)

pub none_number : (n : ℕ) (ns : List ℕ) (o : Option ℕ) → o ≡ position (nat_eq n) ns → o ≡ None → length ns ≡ number_in n ns
none_number n ns o e f =
    let beyond : nat_lt (position_or_len (nat_eq n) ns) (length ns) ≡ false = none_is (nat_lt (position_or_len (nat_eq n) ns) (length ns)) (position_or_len (nat_eq n) ns) (sym e ∙ f) in
    equal_of (number_in n ns) (length ns) (ap (λ k. nat_lt k (length ns)) (first_place n ns) ∙ beyond) (number_most n ns)

pub ruleset numbered = (some_number, none_number)

-- ---- In a program

got : {A B : Type 0} (f : A → B) (xs : List A) (j : ℕ) (d : A) → unwrap_or (slice_get (map f xs) j) (f d) ≡ f (unwrap_or (slice_get xs j) d)
got f [] j d = refl
got f (x ∷ xs) zero d = refl
got f (x ∷ xs) (suc j) d = got f xs j d

-- the local names of function j
pub names_at : (p : Program) (ls : List (List ℕ)) (j : ℕ) → ls ≡ map local_names (plain p).routines → unwrap_or (slice_get ls j) [] ≡ local_names (routine_at p j)
names_at p ls j e = ap (λ xs. unwrap_or (slice_get xs j) []) e ∙ got local_names (plain p).routines j no_routine

pub count_none : (p : Program) (ls : List (List ℕ)) (j : ℕ) → ls ≡ map local_names (plain p).routines → slice_get ls j ≡ None → 0 ≡ length (local_names (routine_at p j))
count_none p ls j e f = ap (λ xs. length xs) (ap (λ o. unwrap_or o []) (sym f) ∙ names_at p ls j e)

pub count_some : (p : Program) (ls : List (List ℕ)) (j n : ℕ) (x : List ℕ) → ls ≡ map local_names (plain p).routines → slice_get ls j ≡ Some x → n ≡ length x → n ≡ length (local_names (routine_at p j))
count_some p ls j n x e f g = g ∙ ap (λ xs. length xs) (ap (λ o. unwrap_or o []) (sym f) ∙ names_at p ls j e)

pub number_none : (p : Program) (ls : List (List ℕ)) (j m : ℕ) → ls ≡ map local_names (plain p).routines → slice_get ls j ≡ None → 0 ≡ number_in m (local_names (routine_at p j))
number_none p ls j m e f = ap (λ xs. number_in m xs) (ap (λ o. unwrap_or o []) (sym f) ∙ names_at p ls j e)

pub number_some : (p : Program) (ls : List (List ℕ)) (j m n : ℕ) (x : List ℕ) → ls ≡ map local_names (plain p).routines → slice_get ls j ≡ Some x → n ≡ number_in m x → n ≡ number_in m (local_names (routine_at p j))
number_some p ls j m n x e f g = g ∙ ap (λ xs. number_in m xs) (ap (λ o. unwrap_or o []) (sym f) ∙ names_at p ls j e)

pub ruleset counts = (count_none, count_some)

pub ruleset numbers = (number_none, number_some)
