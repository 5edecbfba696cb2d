-- The lines of an array, as pieces behind each other.
use Rattle.std.proofs.Common.{◌≡◌, ℕ, zero, suc, ◌+◌, ◌*◌, ◌/◌, ◌%◌, ◌<◌, List, [], ◌∷◌, ◌++◌, refl, ap, ap₂, sym, ◌∙◌, arith, append_assoc, append-nil, length, false}
use Rattle.std.specs.Prelude.{slice_index_or, nat_eq, if◌then◌else◌}
use Rattle.std.proofs.lemmas.Nat.{div-mul-add, mod-mul-add, mod_below, div-add-mod', mul-add-lt}
use Rattle.std.proofs.lemmas.Bool.Decides.{nat_tests}
use Rattle.std.proofs.Math.Seq.{get_or-append_seam}
use Rattle.aplc_scalar.specs.declared.kind.Kind.{Kind}
use Rattle.aplc_arr.specs.Arrays.{product, index_at}
use Rattle.aplc_arr.specs.Delayed.{first_n}
use Rattle.aplc_arr.specs.Display.{gap, parted, justified, each_justified, empty_lines, lines_of}
use Rattle.aplc_arr.proofs.Places.{index-within, index-length, at-first_n, length-first_n}
use Rattle.aplc_quad.specs.Rows.{joined, gap_before}
use Rattle.aplc_quad.proofs.Joins.{joined_below, joined_first, joined_rows, at_first, joined_with_first}

-- ---- One row

parted_more : (g t : List ℕ) (ts : List (List ℕ)) → parted g (t ∷ ts) ≡ t ++ joined (λ j. g ++ slice_index_or ts j []) (length ts)
parted_more g t [] = sym (append-nil t)
parted_more g t (u ∷ us) =
    let rest = joined (λ j. g ++ slice_index_or us j []) (length us) in
    ap (λ l. (t ++ g) ++ l) (parted_more g u us) ∙ append_assoc t g (u ++ rest)
    ∙ ap (λ l. t ++ l) (sym (append_assoc g u rest) ∙ sym (joined_first (λ j. g ++ slice_index_or (u ∷ us) j []) (length us)))

pub parted_joined : (k : Kind) (ts : List (List ℕ)) → parted (gap k) ts ≡ joined (λ j. gap_before k j ++ slice_index_or ts j []) (length ts)
parted_joined k [] = refl
parted_joined k (t ∷ ts) = parted_more (gap k) t ts ∙ sym (joined_first (λ j. gap_before k j ++ slice_index_or (t ∷ ts) j []) (length ts))

justified_length : (ws : List ℕ) (ts : List (List ℕ)) → length ws ≡ length ts → length (each_justified ws ts) ≡ length ts
justified_length [] [] e = refl
justified_length [] (t ∷ ts) e = absurd (omega (arith, e))
justified_length (w ∷ ws) [] e = absurd (omega (arith, e))
justified_length (w ∷ ws) (t ∷ ts) e = ap suc (justified_length ws ts (omega (arith, e)))

justified_at : (ws : List ℕ) (ts : List (List ℕ)) (j : ℕ) → length ws ≡ length ts → j < length ts → slice_index_or (each_justified ws ts) j [] ≡ justified (slice_index_or ws j 0) (slice_index_or ts j [])
justified_at [] [] j e lt = absurd (omega (arith, lt))
justified_at [] (t ∷ ts) j e lt = absurd (omega (arith, e))
justified_at (w ∷ ws) [] j e lt = absurd (omega (arith, e))
justified_at (w ∷ ws) (t ∷ ts) zero e lt = refl
justified_at (w ∷ ws) (t ∷ ts) (suc j) e lt = justified_at ws ts j (omega (arith, e)) (omega (arith, lt))

pub row_parted : (k : Kind) (ws : List ℕ) (ts : List (List ℕ)) (n : ℕ) → length ws ≡ n → length ts ≡ n → parted (gap k) (each_justified ws ts) ≡ joined (λ j. gap_before k j ++ justified (slice_index_or ws j 0) (slice_index_or ts j [])) n
row_parted k ws ts n e f =
    let same = e ∙ sym f in
    parted_joined k (each_justified ws ts) ∙ ap (joined (λ j. gap_before k j ++ slice_index_or (each_justified ws ts) j [])) (justified_length ws ts same ∙ f)
    ∙ joined_below (λ j. gap_before k j ++ slice_index_or (each_justified ws ts) j []) (λ j. gap_before k j ++ justified (slice_index_or ws j 0) (slice_index_or ts j [])) n
    (λ j lt. ap (λ l. gap_before k j ++ l) (justified_at ws ts j same (omega (arith, lt, f))))

-- ---- All rows

-- what stands before row r
abbrev pub start_of : List ℕ → ℕ → ℕ → List ℕ
start_of outer m r = if nat_eq (slice_index_or (index_at (outer ++ m ∷ []) r) (length outer) 0) 0 then empty_lines outer (r / m) else []

abbrev line : List ℕ → ℕ → ℕ → List (List ℕ) → ℕ → List ℕ
line outer m r xs i = (start_of outer m (r + i) ++ slice_index_or xs i []) ++ 10 ∷ []

lines_joined : (outer : List ℕ) (m r : ℕ) (xs : List (List ℕ)) → lines_of outer m r xs ≡ joined (line outer m r xs) (length xs)
lines_joined outer m r [] = refl
lines_joined outer m r (t ∷ ts) =
    let front = start_of outer m r ++ t in
    let e : r ≡ r + 0 = omega arith in
    ap (λ l. front ++ 10 ∷ l) (lines_joined outer m (r + 1) ts)
    ∙ sym (append_assoc front (10 ∷ []) (joined (line outer m (r + 1) ts) (length ts)))
    ∙ ap₂ (λ x y. ((start_of outer m x ++ t) ++ 10 ∷ []) ++ y) e (joined_below (line outer m (r + 1) ts) (λ i. line outer m r (t ∷ ts) (suc i)) (length ts) (λ i lt. ap (λ x. (start_of outer m x ++ slice_index_or ts i []) ++ 10 ∷ []) (further r i)))
    ∙ sym (joined_first (line outer m r (t ∷ ts)) (length ts))
  where
    further : (a b : ℕ) → a + 1 + b ≡ a + suc b
    further a b = omega arith

product_push : (ns : List ℕ) (m : ℕ) → product (ns ++ m ∷ []) ≡ product ns * m
product_push [] m = omega arith
product_push (n ∷ ns) m = let e = product_push ns m in ap (λ p. n * p) e ∙ turned n (product ns) m
  where
    turned : (a b c : ℕ) → a * (b * c) ≡ a * b * c
    turned a b c = omega arith

some_below : (n q p : ℕ) → p < n * q → 0 < q
some_below n q p h = grind arith

-- the multi-index of row i of plane p
index_of_row : (outer : List ℕ) (m p i : ℕ) → p < product outer → i < m → index_at (outer ++ m ∷ []) (p * m + i) ≡ index_at outer p ++ i ∷ []
index_of_row [] m p i lp li = ap (λ x. x ∷ []) (by_one (p * m + i) i (none p lp))
  where
    none : (p : ℕ) → p < 1 → p * m + i ≡ i
    none zero l = omega arith
    none (suc p) l = absurd (omega (arith, l))

    by_one : (a b : ℕ) → a ≡ b → a / 1 ≡ b
    by_one a b e = omega (arith, e)
index_of_row (o ∷ os) m p i lp li =
    let q = product os in
    let some = some_below o q p lp in
    let split = div-add-mod' p q in
    let below = mod_below p q some in
    let inner : p % q * m + i < q * m = omega (arith, mul-add-lt (p % q) m i q below li) in
    let place : p * m + i ≡ p / q * (q * m) + (p % q * m + i) = ap (λ x. x * m + i) (sym split) ∙ spread (p / q) q (p % q) in
    let all = product_push os m in
    ap (λ x. x / product (os ++ m ∷ []) ∷ index_at (os ++ m ∷ []) (x % product (os ++ m ∷ []))) place
    ∙ ap (λ w. (p / q * (q * m) + (p % q * m + i)) / w ∷ index_at (os ++ m ∷ []) ((p / q * (q * m) + (p % q * m + i)) % w)) all
    ∙ ap₂ (λ x y. x ∷ index_at (os ++ m ∷ []) y) (div-mul-add (p / q) (q * m) (p % q * m + i) inner) (mod-mul-add (p / q) (q * m) (p % q * m + i) inner)
    ∙ ap (λ l. p / q ∷ l) (index_of_row os m (p % q) i below li)
  where
    spread : (a b c : ℕ) → (a * b + c) * m + i ≡ a * (b * m) + (c * m + i)
    spread a b c = omega arith

start_is : (outer : List ℕ) (m p i : ℕ) → p < product outer → i < m → start_of outer m (0 + (p * m + i)) ≡ at_first (empty_lines outer p) i
start_is outer m p i lp li =
    let whole = index-length outer (index_at outer p) (index-within outer p lp) in
    let zeroth : 0 + (p * m + i) ≡ p * m + i = omega arith in
    let last : slice_index_or (index_at outer p ++ i ∷ []) (length outer) 0 ≡ i = ap (λ n. slice_index_or (index_at outer p ++ i ∷ []) n 0) (sym whole) ∙ get_or-append_seam (index_at outer p) i [] 0 in
    ap (start_of outer m) zeroth
    ∙ ap₂ (λ x y. if nat_eq x 0 then empty_lines outer y else []) (ap (λ l. slice_index_or l (length outer) 0) (index_of_row outer m p i lp li) ∙ last) (div-mul-add p m i li)
    ∙ by_cases i
  where
    by_cases : (i : ℕ) → (if nat_eq i 0 then empty_lines outer p else []) ≡ at_first (empty_lines outer p) i
    by_cases zero = refl
    by_cases (suc i) = let e : nat_eq (suc i) 0 ≡ false = grind (arith, nat_tests) in ap (λ b. if b then empty_lines outer p else []) e

-- the lines of all planes
pub planes_joined : (outer : List ℕ) (m : ℕ) (h : ℕ → List ℕ) → 0 < m → lines_of outer m 0 (first_n h (product outer * m)) ≡ joined (λ p. empty_lines outer p ++ joined (λ i. h (p * m + i) ++ 10 ∷ []) m) (product outer)
planes_joined outer m h some =
    let xs = first_n h (product outer * m) in
    lines_joined outer m 0 xs ∙ ap (joined (line outer m 0 xs)) (length-first_n h (product outer * m)) ∙ joined_rows (line outer m 0 xs) m (product outer)
    ∙ joined_below (λ p. joined (λ i. line outer m 0 xs (p * m + i)) m) (λ p. empty_lines outer p ++ joined (λ i. h (p * m + i) ++ 10 ∷ []) m) (product outer) plane
  where
    one : (p i : ℕ) → p < product outer → i < m → line outer m 0 (first_n h (product outer * m)) (p * m + i) ≡ at_first (empty_lines outer p) i ++ (h (p * m + i) ++ 10 ∷ [])
    one p i lp li =
        let within : p * m + i < product outer * m = omega (arith, mul-add-lt p m i (product outer) lp li) in
        ap₂ (λ x y. (x ++ y) ++ 10 ∷ []) (start_is outer m p i lp li) (at-first_n h (product outer * m) (p * m + i) [] within)
        ∙ append_assoc (at_first (empty_lines outer p) i) (h (p * m + i)) (10 ∷ [])

    plane : (p : ℕ) → p < product outer → joined (λ i. line outer m 0 (first_n h (product outer * m)) (p * m + i)) m ≡ empty_lines outer p ++ joined (λ i. h (p * m + i) ++ 10 ∷ []) m
    plane p lp =
        joined_below (λ i. line outer m 0 (first_n h (product outer * m)) (p * m + i)) (λ i. at_first (empty_lines outer p) i ++ (h (p * m + i) ++ 10 ∷ [])) m (λ i li. one p i lp li)
        ∙ joined_with_first (empty_lines outer p) (λ i. h (p * m + i) ++ 10 ∷ []) m some
