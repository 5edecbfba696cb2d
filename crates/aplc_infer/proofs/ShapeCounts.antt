-- Products of lengths, counted to one past the limit, and lists reversed from the front.
use Rattle.std.proofs.Common.{◌≡◌, ◌∙◌, sym, ap, refl, ℕ, zero, suc, ◌*◌, ◌<◌, ◌≤◌, List, [], ◌∷◌, ◌++◌, Option, arith, ⊎_elim}
use Rattle.std.specs.Prelude.{min, nat_le, Some, None, if◌then◌else◌, Bool, true, false}
use Rattle.std.specs.Option.{option_map}
use Rattle.std.proofs.lemmas.Bool.{cases_lt}
use Rattle.std.proofs.lemmas.Bool.Decides.{nat_tests}
use Rattle.std.proofs.lemmas.List.{reverse-append}
use mathlib.Core.List.{reverse}
use Rattle.aplc_arr.specs.Arrays.{count_limit}
use Rattle.aplc_infer.specs.Rules.{within_limit, times, product_of}

-- what is above the limit stays there, unless it is multiplied by 0

small : (m : ℕ) → m < 2147483648 → min m 2147483648 ≡ m
small m h = grind (arith, h)

great : (m : ℕ) → 2147483648 ≤ m → min m 2147483648 ≡ 2147483648
great m h = grind (arith, h)

both_great : (m n : ℕ) → 2147483648 ≤ n → min (m * 2147483648) 2147483648 ≡ min (m * n) 2147483648
both_great zero n h = ap (λ k. min k 2147483648) {x = 0 * 2147483648} {y = 0 * n} (omega arith)
both_great (suc m) n h = great (suc m * 2147483648) (omega arith) ∙ sym (great (suc m * n) (omega (arith, h)))

times_capped : (m n : ℕ) → min (m * min n 2147483648) 2147483648 ≡ min (m * n) 2147483648
times_capped m n =
    ⊎_elim
    (λ (h : n < 2147483648). ap (λ k. min (m * k) 2147483648) (small n h))
    (λ (h : 2147483648 ≤ n). ap (λ k. min (m * k) 2147483648) (great n h) ∙ both_great m n h)
    (cases_lt n 2147483648)

-- the product of the first length and of the rest that is capped already
pub capped_product : (x : Option ℕ) (xs : List (Option ℕ)) (count : Option ℕ) → count ≡ option_map (λ n. min n 2147483648) (product_of xs) → option_map (λ n. min n 2147483648) (times x count) ≡ option_map (λ n. min n 2147483648) (product_of (x ∷ xs))
capped_product x xs count e = ap (λ c. option_map (λ n. min n 2147483648) (times x c)) e ∙ by x (product_of xs)
  where
    by : (x p : Option ℕ) → option_map (λ n. min n 2147483648) (times x (option_map (λ n. min n 2147483648) p)) ≡ option_map (λ n. min n 2147483648) (times x p)
    by None p = refl
    by (Some m) None = refl
    by (Some m) (Some n) = ap (λ k. Some k) (times_capped m n)

pub capped_fits : (n : ℕ) → min n 2147483648 ≤ 2147483648
capped_fits n = grind arith

past_limit : (n : ℕ) → 2147483648 ≤ n → nat_le n count_limit ≡ false
past_limit n h = grind (arith, nat_tests, h)

pub capped_limit : (n : ℕ) → within_limit (min n 2147483648) ≡ within_limit n
capped_limit n =
    ⊎_elim
    (λ (h : n < 2147483648). ap within_limit (small n h))
    (λ (h : 2147483648 ≤ n). ap within_limit (great n h) ∙ sym (none (nat_le n count_limit) (past_limit n h)))
    (cases_lt n 2147483648)
  where
    none : (b : Bool) → b ≡ false → (if b then Some n else None) ≡ None
    none true e = cc
    none false e = refl

pub reverse_first : (x : Option ℕ) (xs : List (Option ℕ)) → reverse (x ∷ xs) ≡ reverse xs ++ x ∷ []
reverse_first x xs = reverse-append (x ∷ []) xs
