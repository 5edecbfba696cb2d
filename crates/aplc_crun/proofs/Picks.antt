-- Where a number stands among arms whose numbers rise.
use Rattle.std.proofs.Common.{◌≡◌, ◌∙◌, ap, sym, refl, subst, ℕ, zero, suc, ◌+◌, ◌<◌, List, [], ◌∷◌, length, get_or, arith, ℤ, Less, Greater}
use Rattle.std.specs.Prelude.{◌<ℤ◌, ◌≢◌, Bool, true, false, cond, ◌&&◌, Result, Ok, Err, MatchResult, nat_lt}
use Rattle.std.specs.Int.RustNames.{int_lt}
use Rattle.std.specs.Ordering.{int_cmp, is_lt, ordering_index}
use Rattle.std.specs.Cmp.{int_ranked}
use Rattle.std.specs.List.Sorted.{IsSearchInRange, IsBinarySearchResult, IsNonDecreasingBy, IsPartitionPoint}
use Rattle.std.proofs.lemmas.Cmp.{int_cmp_total}
use Rattle.std.proofs.lemmas.List.Sorted.{searchable_from_sorted}
use Rattle.std.proofs.lemmas.Int.{ints}
use Rattle.std.proofs.lemmas.Bool.Decides.{nat_tests}
use Rattle.aplc_scalar.specs.Scalar.{int_eq}
use Rattle.aplc_crun.specs.declared.choices.Choice.{Choice}
use Rattle.aplc_crun.specs.Flat.{picked}
use Rattle.aplc_crun.specs.Choosing.{rises_above, rises}

-- ---- Numbers

is_same : (v x : ℤ) → x ≡ v → int_eq v x ≡ true
is_same v x e = grind (arith, ints)

is_other : (v x : ℤ) → x ≢ v → int_eq v x ≡ false
is_other v x e = grind (arith, ints)

is_below : (x y : ℤ) → int_lt x y ≡ true → x <ℤ y
is_below x y e = omega (arith, ints)

not_below : (x y : ℤ) → x <ℤ y → is_lt (int_cmp y x) ≡ false
not_below x y h = grind (arith, ints)

first_holds : (a b : Bool) → (a && b) ≡ true → a ≡ true
first_holds true b e = refl
first_holds false b e = e

second_holds : (a b : Bool) → (a && b) ≡ true → b ≡ true
second_holds true b e = e
second_holds false b e = cc

-- ---- Numbers that rise

-- each number is above one that the first is above
above : (low : ℤ) (cs : List Choice) (k : ℕ) (d : Choice) → rises_above low cs ≡ true → k < length cs → low <ℤ (get_or cs k d).value
above low [] k d e h = absurd (omega arith)
above low (c ∷ cs) zero d e h = is_below low c.value (first_holds (int_lt low c.value) (rises_above c.value cs) e)
above low (c ∷ cs) (suc k) d e h =
    let l = is_below low c.value (first_holds (int_lt low c.value) (rises_above c.value cs) e) in
    let m = above c.value cs k d (second_holds (int_lt low c.value) (rises_above c.value cs) e) (omega arith) in
    omega (arith, ints)

-- arms without the first
rest_rises : (low : ℤ) (cs : List Choice) → rises_above low cs ≡ true → rises cs ≡ true
rest_rises low [] e = refl
rest_rises low (c ∷ cs) e = second_holds (int_lt low c.value) (rises_above c.value cs) e

ordered : (cs : List Choice) (k : ℕ) (d : Choice) → rises cs ≡ true → suc k < length cs → (get_or cs k d).value <ℤ (get_or cs (suc k) d).value
ordered [] k d e h = absurd (omega arith)
ordered (c ∷ cs) zero d e h = above c.value cs zero d e (omega arith)
ordered (c ∷ cs) (suc k) d e h = ordered cs k d (rest_rises c.value cs e) (omega arith)

-- ---- What is picked

picked_other : (v : ℤ) (cs : List Choice) (other : ℕ) → ((k : ℕ) (d : Choice) → k < length cs → (get_or cs k d).value ≢ v) → picked v cs other ≡ other
picked_other v [] other h = refl
picked_other v (c ∷ cs) other h =
    ap (λ b. cond b c.at (picked v cs other)) (is_other v c.value (h zero c (omega arith)))
    ∙ picked_other v cs other (λ k d l. h (suc k) d (omega arith))

picked_at : (v : ℤ) (cs : List Choice) (other i : ℕ) (d : Choice) → rises cs ≡ true → i < length cs → (get_or cs i d).value ≡ v → picked v cs other ≡ (get_or cs i d).at
picked_at v [] other i d e l h = absurd (omega arith)
picked_at v (c ∷ cs) other zero d e l h = ap (λ b. cond b c.at (picked v cs other)) (is_same v c.value h)
picked_at v (c ∷ cs) other (suc i) d e l h =
    let m = above c.value cs i d e (omega arith) in
    ap (λ b. cond b c.at (picked v cs other)) (is_other v c.value (λ f. omega (arith, ints)))
    ∙ picked_at v cs other i d (rest_rises c.value cs e) (omega arith) h

-- ---- The search by halving

comparisons_rise : (cs : List Choice) (v : ℤ) → rises cs ≡ true → IsNonDecreasingBy (λ c. ordering_index (int_cmp c.value v)) cs
comparisons_rise cs v e =
    searchable_from_sorted int_cmp_total (λ (c : Choice). c.value) cs v (λ k d z l.
    let m : (get_or cs k d).value <ℤ (get_or cs (k + 1) d).value = subst (λ n. (get_or cs k d).value <ℤ (get_or cs n d).value) {x = suc k} (omega arith) (ordered cs k d e (omega arith)) in
    not_below (get_or cs k d).value (get_or cs (k + 1) d).value m)

pub searched : (cs : List Choice) (v : ℤ) (other : ℕ) (r : Result ℕ ℕ) → rises cs ≡ true → IsSearchInRange r (length cs) → IsBinarySearchResult (λ c. int_cmp c.value v) cs r → MatchResult r (λ i. (d : Choice) → picked v cs other ≡ (get_or cs i d).at) (λ i. picked v cs other ≡ other)
searched cs v other (Ok i) e l h = λ d. picked_at v cs other i d e l (int_ranked (get_or cs i d).value v _ (sym (h d)))
searched cs v other (Err i) e l h = picked_other v cs other (λ k d m f. apart k d m f (nat_lt k i) refl)
  where
    parted : IsPartitionPoint (λ (c : Choice). int_cmp c.value v ≡ Less) (λ c. int_cmp c.value v ≡ Greater) cs i
    parted = h (comparisons_rise cs v e)

    apart : (k : ℕ) (d : Choice) → k < length cs → (get_or cs k d).value ≡ v → (b : Bool) → nat_lt k i ≡ b → ⊥
    apart k d m f true t =
        let below : (get_or cs k d).value <ℤ v = int_ranked (get_or cs k d).value v Less (sym (parted.0 k d (omega arith) (grind (arith, nat_tests)))) in
        omega (arith, ints)
    apart k d m f false t =
        let beyond : v <ℤ (get_or cs k d).value = int_ranked (get_or cs k d).value v Greater (sym (parted.1 k d (grind (arith, nat_tests)) m)) in
        omega (arith, ints)
