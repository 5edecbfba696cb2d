-- Transposition by a left argument gives an array of the language: there are not more axes than entries, and the product of
-- the least lengths is at most that of all.
use Rattle.std.proofs.Common.{◌≡◌, ℕ, zero, suc, ◌+◌, ◌*◌, ◌<◌, ◌≤◌, List, [], ◌∷◌, ◌++◌, length, refl, sym, ap, ◌∙◌, subst, arith}
use Rattle.std.specs.Prelude.{ℤ, slice_index, nat_eq, nat_le, if◌then◌else◌, Bool, true, false, ◌&&◌, ◌||◌, pred, map, min, max}
use Rattle.std.proofs.lemmas.Bool.Decides.{nat_tests}
use Rattle.std.proofs.lemmas.List.{length-map}
use Rattle.aplc_arr.specs.Arrays.{Array, rank, product, at, is_numbers, count_limit, lengths_fit, IsArray}
use Rattle.aplc_arr.specs.Delayed.{moved, needs, first_n}
use Rattle.aplc_arr.specs.Structure.{from_origin, none_below, stands_in, all_below_stand, axes_in, least_length, transposed_by}
use Rattle.aplc_arr.proofs.Places.{length-first_n}
use Rattle.aplc_arr.proofs.Basics.{no, is-same, same-number, and-parts}
use Rattle.aplc_arr.proofs.Keeping.{keeps-needs, cell-of, keeps-if, Keeps, ranked, both-fit, keeps-whole, parts-fit}
use Rattle.aplc_scalar.specs.declared.kind.FaultKind.TheVariants as fault

-- ---- Products and sums of the first so many

product-push : (xs : List ℕ) (y : ℕ) → product (xs ++ y ∷ []) ≡ product xs * y
product-push [] y = omega arith
product-push (x ∷ xs) y = ap (λ p. x * p) (product-push xs y) ∙ omega arith

times-both : (a b c d : ℕ) → a ≤ b → c ≤ d → a * c ≤ b * d
times-both a b c d p q = grind (arith, p, q)

product-less : (f g : ℕ → ℕ) (m : ℕ) → ((j : ℕ) → j < m → f j ≤ g j) → product (first_n f m) ≤ product (first_n g m)
product-less f g zero h = omega arith
product-less f g (suc m) h =
    let rest = product-less f g m (λ j l. h j (omega (arith, l))) in
    let here = times-both (product (first_n f m)) (product (first_n g m)) (f m) (g m) rest (h m (omega arith)) in
    subst (λ a. a ≤ product (first_n g m ++ g m ∷ [])) (sym (product-push (first_n f m) (f m))) (subst (λ b. product (first_n f m) * f m ≤ b) (sym (product-push (first_n g m) (g m))) here)

-- where one of them grows by a factor of n at count_limit, and no other grows
product-step : (f g : ℕ → ℕ) (x n m : ℕ) → x < m → f x ≤ n * g x → ((j : ℕ) → (j ≡ x → ⊥) → f j ≤ g j) → product (first_n f m) ≤ n * product (first_n g m)
product-step f g x n zero l h q = absurd (omega (arith, l))
product-step f g x n (suc m) l h q = by_test (nat_eq x m) refl (λ below. product-step f g x n m below h q)
  where
    joined : (a b c d : ℕ) → a ≤ n * b → c ≤ d → a * c ≤ n * (b * d)
    joined a b c d p r = let e = times-both a (n * b) c d p r in omega (arith, e)

    joined-last : (a b c d : ℕ) → a ≤ b → c ≤ n * d → a * c ≤ n * (b * d)
    joined-last a b c d p r = let e = times-both a b c (n * d) p r in omega (arith, e)

    as_products : product (first_n f m) * f m ≤ n * (product (first_n g m) * g m) → product (first_n f m ++ f m ∷ []) ≤ n * product (first_n g m ++ g m ∷ [])
    as_products e = subst (λ a. a ≤ n * product (first_n g m ++ g m ∷ [])) (sym (product-push (first_n f m) (f m))) (subst (λ b. product (first_n f m) * f m ≤ n * b) (sym (product-push (first_n g m) (g m))) e)

    differs : nat_eq x m ≡ false → m ≡ x → ⊥
    differs e s = no (sym e ∙ ap (λ j. nat_eq x j) s ∙ is-same x)

    below-of : nat_eq x m ≡ false → x < m
    below-of e = grind (arith, nat_tests)

    by_test : (b : Bool) → nat_eq x m ≡ b → (x < m → product (first_n f m) ≤ n * product (first_n g m)) → product (first_n f m ++ f m ∷ []) ≤ n * product (first_n g m ++ g m ∷ [])
    by_test true e rest =
        let s = same-number x m e in
        as_products (joined-last (product (first_n f m)) (product (first_n g m)) (f m) (g m) (product-less f g m (λ j b. q j (λ i. omega (arith, b, i, s)))) (subst (λ j. f j ≤ n * g j) s h))
    by_test false e rest = as_products (joined (product (first_n f m)) (product (first_n g m)) (f m) (g m) (rest (below-of e)) (q m (differs e)))

abbrev total : List ℕ → ℕ
total [] = 0
total (x ∷ xs) = x + total xs

sum-push : (xs : List ℕ) (y : ℕ) → total (xs ++ y ∷ []) ≡ total xs + y
sum-push [] y = omega arith
sum-push (x ∷ xs) y = let e = sum-push xs y in omega (arith, e)

sum-less : (f g : ℕ → ℕ) (m : ℕ) → ((j : ℕ) → j < m → f j ≤ g j) → total (first_n f m) ≤ total (first_n g m)
sum-less f g zero h = omega arith
sum-less f g (suc m) h =
    let rest = sum-less f g m (λ j l. h j (omega (arith, l))) in
    let last = h m (omega arith) in
    let e1 = sum-push (first_n f m) (f m) in
    let e2 = sum-push (first_n g m) (g m) in
    omega (arith, rest, last, e1, e2)

sum-step : (f g : ℕ → ℕ) (x m : ℕ) → f x ≤ 1 + g x → ((j : ℕ) → (j ≡ x → ⊥) → f j ≤ g j) → total (first_n f m) ≤ 1 + total (first_n g m)
sum-step f g x zero h q = omega arith
sum-step f g x (suc m) h q = by_test (nat_eq x m) refl (sum-step f g x m h q)
  where
    differs : nat_eq x m ≡ false → m ≡ x → ⊥
    differs e s = no (sym e ∙ ap (λ j. nat_eq x j) s ∙ is-same x)

    by_test : (b : Bool) → nat_eq x m ≡ b → total (first_n f m) ≤ 1 + total (first_n g m) → total (first_n f m ++ f m ∷ []) ≤ 1 + total (first_n g m ++ g m ∷ [])
    by_test true e rest =
        let s = same-number x m e in
        let less = sum-less f g m (λ j b. q j (λ i. omega (arith, b, i, s))) in
        let last = subst (λ j. f j ≤ 1 + g j) s h in
        let e1 = sum-push (first_n f m) (f m) in
        let e2 = sum-push (first_n g m) (g m) in
        omega (arith, less, last, e1, e2)
    by_test false e rest =
        let last = q m (differs e) in
        let e1 = sum-push (first_n f m) (f m) in
        let e2 = sum-push (first_n g m) (g m) in
        omega (arith, rest, last, e1, e2)

-- ---- Not more axes than entries

abbrev flag : Bool → ℕ
flag true = 1
flag false = 0

flag-less : (b c : Bool) → flag (b || c) ≤ 1 + flag c
flag-less true true = omega arith
flag-less true false = omega arith
flag-less false c = omega arith

flag-same : (b c : Bool) → b ≡ false → flag (b || c) ≤ flag c
flag-same true c e = absurd (no (sym e))
flag-same false c e = omega arith

not-same : (j x : ℕ) → (j ≡ x → ⊥) → nat_eq j x ≡ false
not-same j x h = by_test (nat_eq j x) refl
  where
    by_test : (b : Bool) → nat_eq j x ≡ b → nat_eq j x ≡ false
    by_test true e = absurd (h (same-number j x e))
    by_test false e = e

standing : (axes : List ℕ) (m : ℕ) → total (first_n (λ j. flag (stands_in j axes)) m) ≤ length axes
standing [] m = none m
  where
    none : (m : ℕ) → total (first_n (λ j. 0) m) ≤ 0
    none zero = omega arith
    none (suc m) = let e = sum-push (first_n (λ j. 0) m) 0 in let rest = none m in omega (arith, e, rest)
standing (x ∷ xs) m =
    let e = sum-step (λ j. flag (stands_in j (x ∷ xs))) (λ j. flag (stands_in j xs)) x m (flag-less (nat_eq x x) (stands_in x xs)) (λ j d. flag-same (nat_eq j x) (stands_in j xs) (not-same j x d)) in
    let rest = standing xs m in
    omega (arith, e, rest)

all-standing : (axes : List ℕ) (m : ℕ) → all_below_stand m axes ≡ true → total (first_n (λ j. flag (stands_in j axes)) m) ≡ m
all-standing axes zero e = refl
all-standing axes (suc m) e =
    let p = and-parts (stands_in m axes) (all_below_stand m axes) e in
    let one : flag (stands_in m axes) ≡ 1 = ap flag p.0 in
    let rest = all-standing axes m p.1 in
    let s = sum-push (first_n (λ j. flag (stands_in j axes)) m) (flag (stands_in m axes)) in
    omega (arith, one, rest, s)

few-axes : (axes : List ℕ) (m : ℕ) → all_below_stand m axes ≡ true → m ≤ length axes
few-axes axes m e = let s = standing axes m in let a = all-standing axes m e in omega (arith, s, a)

-- ---- The product of the least lengths

-- the least length, or 1 where none falls there
abbrev least_or_one : ℕ → List ℕ → List ℕ → ℕ
least_or_one j (x ∷ xs) (n ∷ ns) = if nat_eq x j then (if stands_in j xs then min n (least_or_one j xs ns) else n) else least_or_one j xs ns
least_or_one j _ _ = 1

if-less : (b : Bool) (p q r s : ℕ) → p ≤ r → q ≤ s → (if b then p else q) ≤ (if b then r else s)
if-less true p q r s h l = h
if-less false p q r s h l = l

min-less : (n p q : ℕ) → p ≤ q → min n p ≤ min n q
min-less n p q h = grind (arith, h)

least-below : (j : ℕ) (axes ns : List ℕ) → least_length j axes ns ≤ least_or_one j axes ns
least-below j [] ns = omega arith
least-below j (x ∷ xs) [] = omega arith
least-below j (x ∷ xs) (n ∷ ns) =
    let rest = least-below j xs ns in
    if-less (nat_eq x j) _ _ _ _ (if-less (stands_in j xs) _ _ _ _ (min-less n (least_length j xs ns) (least_or_one j xs ns) rest) (omega arith)) rest

alone : (j : ℕ) (axes ns : List ℕ) → stands_in j axes ≡ false → least_or_one j axes ns ≡ 1
alone j [] ns e = refl
alone j (x ∷ xs) [] e = refl
alone j (x ∷ xs) (n ∷ ns) e = by_test (nat_eq x j) refl (or-parts (nat_eq j x) (stands_in j xs) e) (λ q. alone j xs ns q)
  where
    or-parts : (a b : Bool) → (a || b) ≡ false → (a ≡ false) × (b ≡ false)
    or-parts true b e = absurd (no (sym e))
    or-parts false b e = (refl, e)

    by_test : (b : Bool) → nat_eq x j ≡ b → (nat_eq j x ≡ false) × (stands_in j xs ≡ false) → (stands_in j xs ≡ false → least_or_one j xs ns ≡ 1) → (if b then (if stands_in j xs then min n (least_or_one j xs ns) else n) else least_or_one j xs ns) ≡ 1
    by_test true e p rest = absurd (no (sym p.0 ∙ ap (λ i. nat_eq i x) (sym (same-number x j e)) ∙ is-same x))
    by_test false e p rest = rest p.1

min-times : (n p : ℕ) → min n p ≤ n * p
min-times zero p = omega arith
min-times (suc n) p = let e : min (suc n) p ≤ p = grind arith in omega (arith, e)

abbrev AllBelow : ℕ → List ℕ → Type 0
AllBelow m [] = Unit {0}
AllBelow m (x ∷ xs) = (x < m) × AllBelow m xs

product-least : (axes ns : List ℕ) (m : ℕ) → AllBelow m axes → length axes ≡ length ns → product (first_n (λ j. least_or_one j axes ns) m) ≤ product ns
product-least [] [] m h e = ones m
  where
    ones : (m : ℕ) → product (first_n (λ j. 1) m) ≤ 1
    ones zero = omega arith
    ones (suc m) = let e = product-push (first_n (λ j. 1) m) 1 in let rest = ones m in omega (arith, e, rest)
product-least [] (n ∷ ns) m h e = absurd (omega (arith, e))
product-least (x ∷ xs) [] m h e = absurd (omega (arith, e))
product-least (x ∷ xs) (n ∷ ns) m h e =
    let rest = product-least xs ns m h.1 (ap Rattle.std.specs.Prelude.pred e) in
    let step = product-step (λ j. least_or_one j (x ∷ xs) (n ∷ ns)) (λ j. least_or_one j xs ns) x n m h.0 (at_axis (nat_eq x x) (is-same x) (stands_in x xs) refl) (λ j d. elsewhere j (nat_eq x j) (not-same x j (λ i. d (sym i)))) in
    larger (product (first_n (λ j. least_or_one j (x ∷ xs) (n ∷ ns)) m)) n (product (first_n (λ j. least_or_one j xs ns) m)) (product ns) step rest
  where
    larger : (a n b c : ℕ) → a ≤ n * b → b ≤ c → a ≤ n * c
    larger a n b c p q = let e = times-both n n b c (omega arith) q in omega (arith, e, p)

    at_axis : (b : Bool) → b ≡ true → (t : Bool) → stands_in x xs ≡ t → (if b then (if t then min n (least_or_one x xs ns) else n) else least_or_one x xs ns) ≤ n * least_or_one x xs ns
    at_axis true e true s = min-times n (least_or_one x xs ns)
    at_axis true e false s = let one = alone x xs ns s in rw one (omega arith)
    at_axis false e t s = absurd (no e)

    elsewhere : (j : ℕ) (b : Bool) → b ≡ false → (if b then (if stands_in j xs then min n (least_or_one j xs ns) else n) else least_or_one j xs ns) ≤ least_or_one j xs ns
    elsewhere j true e = absurd (no (sym e))
    elsewhere j false e = omega arith

below-axes : (axes : List ℕ) → AllBelow (axes_in axes) axes
below-axes [] = tt
below-axes (x ∷ xs) = (above x (axes_in xs), raise xs (axes_in xs) (max (x + 1) (axes_in xs)) (higher x (axes_in xs)) (below-axes xs))
  where
    above : (x m : ℕ) → x < max (x + 1) m
    above x m = grind arith

    higher : (x m : ℕ) → m ≤ max (x + 1) m
    higher x m = grind arith

    raise : (ys : List ℕ) (m n : ℕ) → m ≤ n → AllBelow m ys → AllBelow n ys
    raise [] m n l h = tt
    raise (y ∷ ys) m n l h = let b = h.0 in (omega (arith, b, l), raise ys m n l h.1)

-- ---- Each length

least-fits : (j : ℕ) (axes ns : List ℕ) → lengths_fit ns ≡ true → nat_le (least_length j axes ns) count_limit ≡ true
least-fits j [] ns e = refl
least-fits j (x ∷ xs) [] e = refl
least-fits j (x ∷ xs) (n ∷ ns) e =
    let p = and-parts (nat_le n count_limit) (lengths_fit ns) e in
    let rest = least-fits j xs ns p.1 in
    fits-if (nat_eq x j) _ _ (fits-if (stands_in j xs) _ _ (fits-min n (least_length j xs ns) p.0) p.0) rest
  where
    fits-if : (b : Bool) (p q : ℕ) → nat_le p count_limit ≡ true → nat_le q count_limit ≡ true → nat_le (if b then p else q) count_limit ≡ true
    fits-if true p q h l = h
    fits-if false p q h l = l

    fits-min : (p q : ℕ) → nat_le p count_limit ≡ true → nat_le (min p q) count_limit ≡ true
    fits-min p q h = grind (arith, nat_tests)

fits-push : (xs : List ℕ) (y : ℕ) → lengths_fit xs ≡ true → nat_le y count_limit ≡ true → lengths_fit (xs ++ y ∷ []) ≡ true
fits-push [] y h e = rw e refl
fits-push (x ∷ xs) y h e = let p = and-parts (nat_le x count_limit) (lengths_fit xs) h in rw (p.0, fits-push xs y p.1 e) refl

fits-first : (f : ℕ → ℕ) → ((j : ℕ) → nat_le (f j) count_limit ≡ true) → (m : ℕ) → lengths_fit (first_n f m) ≡ true
fits-first f h zero = refl
fits-first f h (suc m) = fits-push (first_n f m) (f m) (fits-first f h m) (h m)

-- ---- Transposition

pub keeps-moved : (o : ℤ) (v w : Array) → IsArray w → Keeps (transposed_by o v w)
keeps-moved o v w h =
    let axes = map (from_origin o) v.cells in
    let m = axes_in axes in
    let f : ℕ → ℕ = λ j. least_length j axes w.shape in
    let ns = first_n f m in
    let el : List ℕ → ℤ = λ is. at w (map (slice_index is) axes) in
    let suit = nat_le (rank v) 1 && nat_eq (length v.cells) (rank w) && none_below o v.cells && all_below_stand m axes in
    let p = parts-fit w.shape h.fits in
    keeps-needs (is_numbers v) fault.Domain (needs suit fault.Rank (moved w.kind ns el))
    (keeps-if suit fault.Rank (moved w.kind ns el) (λ e.
    let e1 = and-parts (nat_le (rank v) 1 && nat_eq (length v.cells) (rank w) && none_below o v.cells) (all_below_stand m axes) e in
    let e2 = and-parts (nat_le (rank v) 1 && nat_eq (length v.cells) (rank w)) (none_below o v.cells) e1.0 in
    let e3 = and-parts (nat_le (rank v) 1) (nat_eq (length v.cells) (rank w)) e2.0 in
    let many : length axes ≡ rank w = length-map v.cells (from_origin o) ∙ same-number (length v.cells) (rank w) e3.1 in
    let few = few-axes axes m e1.1 in
    let least = product-less f (λ j. least_or_one j axes w.shape) m (λ j l. least-below j axes w.shape) in
    let whole1 = product-least axes w.shape m (below-axes axes) many in
    keeps-whole w ns el (both-fit ns (fits-first f (λ j. least-fits j axes w.shape p.0) m) (below-most (product ns) (product (first_n (λ j. least_or_one j axes w.shape) m)) (product w.shape) least whole1 p.1)) (subst (λ n. nat_le n 8 ≡ true) (sym (length-first_n f m)) (few-most m (length axes) (rank w) few many (ranked h))) (λ is. cell-of w _ h)))
  where
    below-most : (a b c : ℕ) → a ≤ b → b ≤ c → nat_le c count_limit ≡ true → nat_le a count_limit ≡ true
    below-most a b c p q e = grind (arith, nat_tests)

    few-most : (m n r : ℕ) → m ≤ n → n ≡ r → nat_le r 8 ≡ true → nat_le m 8 ≡ true
    few-most m n r p q e = grind (arith, nat_tests)
