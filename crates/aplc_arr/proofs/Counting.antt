-- Counting the elements that lengths make room for, one length after the other.
use Rattle.std.proofs.Common.{◌≡◌, ℕ, zero, suc, ◌+◌, ◌*◌, ◌<◌, ◌≤◌, List, [], ◌∷◌, length, Option, Some, None, refl, sym, ap, ◌∙◌, subst, arith, get_or, drop, ⊎_elim}
use Rattle.std.specs.Prelude.{ℤ, pos, negsuc, ◌≤ℤ◌, All, min, nat_le, slice_index, unsigned_abs, Bool, true, false, ◌&&◌, if◌then◌else◌}
use Rattle.std.proofs.lemmas.Bool.{cases_lt}
use Rattle.std.proofs.lemmas.Bool.Decides.{nat_tests}
use Rattle.std.proofs.lemmas.Int.{ints}
use Rattle.std.proofs.lemmas.List.{drop_more}
use Rattle.aplc_arr.specs.Arrays.{product, lengths_fit, count_limit}
use Rattle.aplc_arr.specs.Structure.{magnitudes}
use Rattle.aplc_arr.specs.Making.{count_from}
use Rattle.aplc_arr.proofs.Basics.{no}

abbrev within : Bool → ℕ → Option ℕ
within t m = if t && nat_le m count_limit then Some m else None

-- what is above the limit may be replaced by anything above it
both-past : (t : Bool) (m n : ℕ) → count_limit < m → count_limit < n → within t m ≡ within t n
both-past t m n p q = none t m p ∙ sym (none t n q)
  where
    past : (m : ℕ) → count_limit < m → nat_le m count_limit ≡ false
    past m p = grind (arith, nat_tests)

    none : (t : Bool) (m : ℕ) → count_limit < m → within t m ≡ None
    none true m p = rw (past m p) refl
    none false m p = refl

same-within : (t : Bool) (c n p : ℕ) → within t (min (c * n) 2147483648 * p) ≡ within t (c * (n * p))
same-within t c n p =
    ⊎_elim
    (λ lt. let e : min (c * n) 2147483648 ≡ c * n = small (c * n) lt in ap (within t) (ap (λ m. m * p) e ∙ grouped c n p))
    (λ le. let e : min (c * n) 2147483648 ≡ 2147483648 = great (c * n) le in ap (λ m. within t (m * p)) e ∙ above p (c * n) le ∙ ap (within t) (grouped c n p))
    (cases_lt (c * n) 2147483648)
  where
    grouped : (c n p : ℕ) → c * n * p ≡ c * (n * p)
    grouped c n p = omega arith

    small : (m : ℕ) → m < 2147483648 → min m 2147483648 ≡ m
    small m lt = grind (arith, lt)

    great : (m : ℕ) → 2147483648 ≤ m → min m 2147483648 ≡ 2147483648
    great m le = grind (arith, le)

    nothing : (m : ℕ) → 2147483648 * 0 ≡ m * 0
    nothing m = omega arith

    above : (p m : ℕ) → 2147483648 ≤ m → within t (2147483648 * p) ≡ within t (m * p)
    above zero m le = ap (within t) {x = 2147483648 * 0} (nothing m)
    above (suc p) m le = both-past t (2147483648 * suc p) (m * suc p) (omega arith) (omega (arith, le))

pub count-step : (c n : ℕ) (ns : List ℕ) → nat_le n count_limit ≡ true → count_from (min (c * n) 2147483648) ns ≡ count_from c (n ∷ ns)
count-step c n ns e = same-within (lengths_fit ns) c n (product ns) ∙ ap (λ t. within t (c * (n * product ns))) (fits (nat_le n count_limit) (lengths_fit ns) e)
  where
    fits : (a b : Bool) → a ≡ true → b ≡ (a && b)
    fits true b e = refl
    fits false b e = absurd (no e)

pub count-past : (c n : ℕ) (ns : List ℕ) → nat_le n count_limit ≡ false → count_from c (n ∷ ns) ≡ None
count-past c n ns e = by_test (nat_le n count_limit) e
  where
    by_test : (a : Bool) → a ≡ false → within (a && lengths_fit ns) (c * (n * product ns)) ≡ None
    by_test true e = absurd (no (sym e))
    by_test false e = refl

-- one more length of the list
one-more : (zs : List ℤ) (i : ℕ) (d : ℤ) → i < length zs → magnitudes (drop i zs) ≡ unsigned_abs (get_or zs i d) ∷ magnitudes (drop (i + 1) zs)
one-more zs i d below = ap magnitudes (drop_more zs i d below)

pub next_count : (zs : List ℤ) (i c n m : ℕ) (d : ℤ) (total : Option ℕ) → i < length zs → n ≡ unsigned_abs (get_or zs i d) → n ≤ count_limit → m ≡ min (c * n) 2147483648 → count_from c (magnitudes (drop i zs)) ≡ total → count_from m (magnitudes (drop (i + 1) zs)) ≡ total
next_count zs i c n m d total below size few new is =
    let test : nat_le n count_limit ≡ true = within-limit n few in
    let e1 : count_from c (n ∷ magnitudes (drop (i + 1) zs)) ≡ total = subst (λ k. count_from c (k ∷ magnitudes (drop (i + 1) zs)) ≡ total) (sym size) (subst (λ ns. count_from c ns ≡ total) (one-more zs i d below) is) in
    subst (λ k. count_from k (magnitudes (drop (i + 1) zs)) ≡ total) (sym new) (count-step c n (magnitudes (drop (i + 1) zs)) test ∙ e1)
  where
    within-limit : (n : ℕ) → n ≤ count_limit → nat_le n count_limit ≡ true
    within-limit n l = grind (arith, nat_tests)

pub min_bound : (k m : ℕ) → m ≡ min k 2147483648 → m ≤ 2147483648
min_bound k m e = rw e (at-most k)
  where
    at-most : (k : ℕ) → min k 2147483648 ≤ 2147483648
    at-most k = grind arith

pub past_count : (zs : List ℤ) (i c n : ℕ) (d : ℤ) (total : Option ℕ) → i < length zs → n ≡ unsigned_abs (get_or zs i d) → count_limit < n → count_from c (magnitudes (drop i zs)) ≡ total → None ≡ total
past_count zs i c n d total below size many is =
    sym (count-past c n (magnitudes (drop (i + 1) zs)) (past n many))
    ∙ subst (λ k. count_from c (k ∷ magnitudes (drop (i + 1) zs)) ≡ total) (sym size) (subst (λ ns. count_from c ns ≡ total) (one-more zs i d below) is)
  where
    past : (n : ℕ) → count_limit < n → nat_le n count_limit ≡ false
    past n l = grind (arith, nat_tests)

pub length-at : (zs : List ℤ) (i : ℕ) (d : ℤ) → All (λ n. pos 0 ≤ℤ n) zs → i < length zs → get_or zs i d ≡ pos (slice_index (magnitudes zs) i)
length-at [] i d h lt = absurd (omega (arith, lt))
length-at (z ∷ zs) zero d h lt = itself z (h 0 z (omega arith))
  where
    itself : (z : ℤ) → pos 0 ≤ℤ z → z ≡ pos (unsigned_abs z)
    itself (pos n) l = refl
    itself (negsuc n) l = absurd (omega (arith, ints, l))
length-at (z ∷ zs) (suc i) d h lt = length-at zs i d (λ j e l. h (suc j) e (omega (arith, l))) (omega (arith, lt))
