-- Rows of which only what was changed is kept.
use Rattle.std.proofs.Common.{◌≡◌, ◌∙◌, sym, ap, refl, subst, ℕ, zero, suc, ◌<◌, ◌≤◌, List, [], ◌∷◌, ◌++◌, length, Option, Some, None, false, if◌then◌else◌, nat_eq, arith, set, slice_get, inl, inr}
use Rattle.std.specs.Prelude.{unwrap_or}
use Rattle.std.proofs.lemmas.Bool.Decides.{nat_tests}
use Rattle.aplc_arr.specs.Delayed.{first_n}
use Rattle.aplc_arr.proofs.Places.{length-first_n}
use Rattle.aplc_infer.specs.declared.fact.Inferred.{Inferred}
use Rattle.aplc_infer.specs.declared.fact.Inferred.TheVariants.{Unset}
use Rattle.aplc_infer.specs.declared.row.Change.{Change}
use Rattle.aplc_infer.specs.Seeing.{at}
use Rattle.aplc_infer.specs.Rows.{with_changes, base_or, IsEither, last_change}

beyond : (ns : List Inferred) (k : ℕ) → length ns ≤ k → at ns k ≡ Unset
beyond [] k h = refl
beyond (x ∷ ns) zero h = absurd (omega arith)
beyond (x ∷ ns) (suc k) h = beyond ns k (omega arith)

set_length : (ns : List Inferred) (k : ℕ) (x : Inferred) → length (set ns k x) ≡ length ns
set_length [] k x = refl
set_length (y ∷ ns) zero x = refl
set_length (y ∷ ns) (suc k) x = ap suc (set_length ns k x)

changed_length : (cs : List Change) (ns : List Inferred) → length (with_changes cs ns) ≡ length ns
changed_length [] ns = refl
changed_length (c ∷ cs) ns = changed_length cs (set ns c.local c.fact) ∙ set_length ns c.local c.fact

test_suc : (j k : ℕ) → nat_eq (suc j) (suc k) ≡ nat_eq j k
test_suc j k = grind (arith, nat_tests)

test_first : (k : ℕ) → nat_eq 0 (suc k) ≡ false
test_first k = grind (arith, nat_tests)

test_last : (j : ℕ) → nat_eq (suc j) 0 ≡ false
test_last j = grind (arith, nat_tests)

set_at : (ns : List Inferred) (j k : ℕ) (x : Inferred) → k < length ns → at (set ns j x) k ≡ (if nat_eq j k then x else at ns k)
set_at [] j k x w = absurd (omega arith)
set_at (y ∷ ns) zero zero x w = refl
set_at (y ∷ ns) zero (suc k) x w = sym (ap (λ b. if b then x else at ns k) (test_first k))
set_at (y ∷ ns) (suc j) zero x w = sym (ap (λ b. if b then x else y) (test_last j))
set_at (y ∷ ns) (suc j) (suc k) x w = set_at ns j k x (omega arith) ∙ sym (ap (λ b. if b then x else at ns k) (test_suc j k))

changed_at : (cs : List Change) (ns : List Inferred) (k : ℕ) → k < length ns → at (with_changes cs ns) k ≡ last_change cs k (at ns k)
changed_at [] ns k w = refl
changed_at (c ∷ cs) ns k w =
    changed_at cs (set ns c.local c.fact) k (subst (λ n. k < n) (sym (set_length ns c.local c.fact)) w)
    ∙ ap (λ f. last_change cs k f) (set_at ns c.local k c.fact w)

blank_push : (xs : List Inferred) → ((k : ℕ) → at xs k ≡ Unset) → (k : ℕ) → at (xs ++ Unset ∷ []) k ≡ Unset
blank_push [] h zero = refl
blank_push [] h (suc k) = refl
blank_push (x ∷ xs) h zero = h zero
blank_push (x ∷ xs) h (suc k) = blank_push xs (λ j. h (suc j)) k

pub blank_first : (n k : ℕ) → at (first_n (λ j. Unset) n) k ≡ Unset
blank_first zero k = refl
blank_first (suc n) k = blank_push (first_n (λ j. Unset) n) (blank_first n) k

none_some : (x : Inferred) → (let o : Option Inferred = None in o) ≡ Some x → ⊥
none_some x e = cc

some_here : (y : Inferred) (ys : List Inferred) → y ∷ ys ≡ [] → ⊥
some_here y ys e = cc

-- what stands in the base
pub row_base : (ns : List Inferred) (n : ℕ) (base : List Inferred) (cs : List Change) (k : ℕ) (x : Inferred) → with_changes cs (base_or n base) ≡ ns → IsEither base cs → slice_get base k ≡ Some x → x ≡ at ns k
row_base ns n [] cs k x same h e = absurd (none_some x e)
row_base ns n (y ∷ ys) cs k x same (inl h) e = absurd (some_here y ys h)
row_base ns n (y ∷ ys) cs k x same (inr h) e = sym (ap (λ zs. at zs k) (sym same ∙ ap (λ ds. with_changes ds (y ∷ ys)) h) ∙ ap (λ o. unwrap_or o Unset) e)

-- what was changed
pub row_changed : (ns : List Inferred) (n : ℕ) (base : List Inferred) (cs : List Change) (k : ℕ) → with_changes cs (base_or n base) ≡ ns → IsEither base cs → slice_get base k ≡ None → k < n → last_change cs k Unset ≡ at ns k
row_changed ns n [] cs k same h e w =
    sym (ap (λ zs. at zs k) (sym same) ∙ changed_at cs (first_n (λ j. Unset) n) k (subst (λ m. k < m) (sym (length-first_n (λ j. Unset) n)) w) ∙ ap (λ f. last_change cs k f) (blank_first n k))
row_changed ns n (y ∷ ys) cs k same (inl h) e w = absurd (some_here y ys h)
row_changed ns n (y ∷ ys) cs k same (inr h) e w =
    ap (λ ds. last_change ds k Unset) h ∙ sym (ap (λ zs. at zs k) (sym same ∙ ap (λ ds. with_changes ds (y ∷ ys)) h) ∙ ap (λ o. unwrap_or o Unset) e)

-- what is beyond
pub row_beyond : (ns : List Inferred) (n : ℕ) (base : List Inferred) (cs : List Change) (k : ℕ) → with_changes cs (base_or n base) ≡ ns → IsEither base cs → slice_get base k ≡ None → n ≤ k → Unset ≡ at ns k
row_beyond ns n [] cs k same h e w =
    sym (ap (λ zs. at zs k) (sym same) ∙ beyond (with_changes cs (first_n (λ j. Unset) n)) k (subst (λ m. m ≤ k) (sym (changed_length cs (first_n (λ j. Unset) n) ∙ length-first_n (λ j. Unset) n)) w))
row_beyond ns n (y ∷ ys) cs k same (inl h) e w = absurd (some_here y ys h)
row_beyond ns n (y ∷ ys) cs k same (inr h) e w = sym (ap (λ zs. at zs k) (sym same ∙ ap (λ ds. with_changes ds (y ∷ ys)) h) ∙ ap (λ o. unwrap_or o Unset) e)

pub ruleset rows = (row_base, row_changed, row_beyond)

pub row_facts : (xs : List Inferred) → base_or (length xs) xs ≡ xs
row_facts [] = refl
row_facts (x ∷ xs) = refl

changes_push : (cs : List Change) (c : Change) (ns : List Inferred) → with_changes (cs ++ c ∷ []) ns ≡ set (with_changes cs ns) c.local c.fact
changes_push [] c ns = refl
changes_push (d ∷ cs) c ns = changes_push cs c (set ns d.local d.fact)

pub set_sparse : (ns : List Inferred) (n : ℕ) (base : List Inferred) (cs : List Change) (c : Change) → with_changes cs (base_or n base) ≡ ns → with_changes (cs ++ c ∷ []) (base_or n base) ≡ set ns c.local c.fact
set_sparse ns n base cs c same = changes_push cs c (base_or n base) ∙ ap (λ zs. set zs c.local c.fact) same

dense_or : (n : ℕ) (y : Inferred) (ys : List Inferred) (k : ℕ) (x : Inferred) → base_or n (set (y ∷ ys) k x) ≡ set (y ∷ ys) k x
dense_or n y ys zero x = refl
dense_or n y ys (suc k) x = refl

pub set_dense : (ns : List Inferred) (n : ℕ) (base : List Inferred) (cs : List Change) (k : ℕ) (x : Inferred) → with_changes cs (base_or n base) ≡ ns → IsEither base cs → (base ≡ [] → ⊥) → with_changes cs (base_or n (set base k x)) ≡ set ns k x
set_dense ns n [] cs k x same h e = absurd (e refl)
set_dense ns n (y ∷ ys) cs k x same (inl h) e = absurd (some_here y ys h)
set_dense ns n (y ∷ ys) cs k x same (inr h) e =
    ap (λ ds. with_changes ds (base_or n (set (y ∷ ys) k x))) h ∙ dense_or n y ys k x ∙ ap (λ zs. set zs k x) (ap (λ ds. with_changes ds (y ∷ ys)) (sym h) ∙ same)

set_beyond : (ns : List Inferred) (k : ℕ) (x : Inferred) → length ns ≤ k → set ns k x ≡ ns
set_beyond [] k x h = refl
set_beyond (y ∷ ns) zero x h = absurd (omega arith)
set_beyond (y ∷ ns) (suc k) x h = ap (λ zs. y ∷ zs) (set_beyond ns k x (omega arith))

pub set_none : (ns : List Inferred) (n : ℕ) (base : List Inferred) (cs : List Change) (k : ℕ) (x : Inferred) → with_changes cs (base_or n base) ≡ ns → IsEither base cs → (base ≡ [] → ⊥) → length base ≤ k → with_changes cs (base_or n base) ≡ set ns k x
set_none ns n base cs k x same h e w =
    ap (λ zs. with_changes cs (base_or n zs)) (sym (set_beyond base k x w)) ∙ set_dense ns n base cs k x same h e

pub ruleset sets = (set_sparse, set_dense, set_none)

pub length_sparse : (ns : List Inferred) (n : ℕ) (base : List Inferred) (cs : List Change) → with_changes cs (base_or n base) ≡ ns → base ≡ [] → n ≡ length ns
length_sparse ns n [] cs same e = sym (ap (λ zs. length zs) (sym same) ∙ changed_length cs (first_n (λ j. Unset) n) ∙ length-first_n (λ j. Unset) n)
length_sparse ns n (y ∷ ys) cs same e = absurd (some_here y ys e)

pub length_dense : (ns : List Inferred) (n : ℕ) (base : List Inferred) (cs : List Change) → with_changes cs (base_or n base) ≡ ns → (base ≡ [] → ⊥) → length base ≡ length ns
length_dense ns n [] cs same e = absurd (e refl)
length_dense ns n (y ∷ ys) cs same e = sym (ap (λ zs. length zs) (sym same) ∙ changed_length cs (y ∷ ys))

pub ruleset lengths = (length_sparse, length_dense)
