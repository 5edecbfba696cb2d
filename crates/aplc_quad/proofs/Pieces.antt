-- Pieces written one behind the other, and the places of rows.
use Rattle.std.proofs.Common.{◌≡◌, ℕ, zero, suc, ◌+◌, ◌*◌, ◌<◌, ◌≤◌, List, [], ◌∷◌, ◌++◌, ap, ◌∙◌, arith, append_assoc, refl, ap₂, ℤ, length, drop}
use Rattle.std.proofs.lemmas.List.{drop_more}
use Rattle.std.specs.Prelude.{slice_index_or, max}
use Rattle.aplc_scalar.specs.declared.kind.Kind.{Kind}
use Rattle.aplc_arr.specs.Arrays.{Array, product}
use Rattle.aplc_quad.specs.Rows.{joined, width, column_width, row_bytes, plane_bytes, gap_before, justified_bytes, cell_of, empty_line, nest_bytes}

pub joined_more : (f : ℕ → List ℕ) (j : ℕ) → joined f j ++ f j ≡ joined f (j + 1)
joined_more f j = let e : suc j ≡ j + 1 = omega arith in ap (joined f) e

pub joined_same : (f g : ℕ → List ℕ) (n : ℕ) → ((j : ℕ) → f j ≡ g j) → joined f n ≡ joined g n
joined_same f g zero h = refl
joined_same f g (suc n) h = ap₂ (λ x y. x ++ y) (joined_same f g n h) (h n)

-- one more piece behind those that are written
pub written : (start out next x : List ℕ) (f : ℕ → List ℕ) (j : ℕ) → out ≡ start ++ joined f j → next ≡ out ++ x → x ≡ f j → next ≡ start ++ joined f (j + 1)
written start out next x f j before more is =
    more ∙ ap (λ l. l ++ x) before ∙ append_assoc start (joined f j) x ∙ ap (λ l. start ++ (joined f j ++ l)) is ∙ ap (λ l. start ++ l) (joined_more f j)

-- a piece of two parts
pub written_two : (start out mid next x y : List ℕ) (f : ℕ → List ℕ) (j : ℕ) → out ≡ start ++ joined f j → mid ≡ out ++ x → next ≡ mid ++ y → x ++ y ≡ f j → next ≡ start ++ joined f (j + 1)
written_two start out mid next x y f j before one two is =
    written start out next (x ++ y) f j before (two ∙ ap (λ l. l ++ y) one ∙ append_assoc out x y) is

pub row_same : (k : Kind) (ws : ℕ → ℕ) (f g : ℕ → ℤ) (n : ℕ) → ((j : ℕ) → f j ≡ g j) → row_bytes k ws f n ≡ row_bytes k ws g n
row_same k ws f g n h = joined_same (λ j. gap_before k j ++ justified_bytes k (ws j) (f j)) (λ j. gap_before k j ++ justified_bytes k (ws j) (g j)) n (λ j. ap (λ z. gap_before k j ++ justified_bytes k (ws j) z) (h j))

-- ---- Places

-- the n elements from the j-th of m rows on
pub times_more : (j m n : ℕ) → j < m → j * n + n ≤ m * n
times_more j zero n lt = absurd (omega (arith, lt))
times_more zero (suc m) n lt = omega arith
times_more (suc j) (suc m) n lt = let h = times_more j m n (omega (arith, lt)) in omega (arith, h)

pub row_within : (first m n j place all : ℕ) → place ≡ first + j * n → j < m → first + m * n ≤ all → place + n ≤ all
row_within first m n j place all is lt h = let t = times_more j m n lt in omega (arith, t, is, h)

pub next_place : (first n j place : ℕ) → place ≡ first + j * n → place + n ≡ first + (j + 1) * n
next_place first n j place is = omega (arith, is)

-- ---- Planes

-- one more row of a plane
pub plane_written : (k : Kind) (ws : ℕ → ℕ) (a : Array) (first n j place : ℕ) (start out next : List ℕ) → out ≡ start ++ plane_bytes k ws (λ q. cell_of a (first + q)) j n → place ≡ first + j * n → next ≡ out ++ (row_bytes k ws (λ i. cell_of a (place + i)) n ++ 10 ∷ []) → next ≡ start ++ plane_bytes k ws (λ q. cell_of a (first + q)) (j + 1) n
plane_written k ws a first n j place start out next before is more =
    written start out next (row_bytes k ws (λ i. cell_of a (place + i)) n ++ 10 ∷ []) (λ r. row_bytes k ws (λ i. cell_of a (first + (r * n + i))) n ++ 10 ∷ []) j before more
    (ap (λ l. l ++ 10 ∷ []) (row_same k ws (λ i. cell_of a (place + i)) (λ i. cell_of a (first + (j * n + i))) n (λ i. ap (cell_of a) (same i))))
  where
    same : (i : ℕ) → place + i ≡ first + (j * n + i)
    same i = omega (arith, is)

-- ---- Nests

-- an axis and those behind it
pub axis_first : (ns : List ℕ) (i : ℕ) → i + 2 ≤ length ns → drop i ns ≡ slice_index_or ns i 0 ∷ drop (i + 1) ns
axis_first ns i h = drop_more ns i 0 (omega (arith, h))

pub nest_more : (k : Kind) (ws : ℕ → ℕ) (item : ℕ → ℤ) (l : ℕ) (ns : List ℕ) (p : ℕ) → 2 ≤ length ns → nest_bytes k ws item (l ∷ ns) p ≡ joined (λ i. empty_line l (p + i * product ns) ++ nest_bytes k ws item ns (p + i * product ns)) l
nest_more k ws item l [] p h = absurd (omega (arith, h))
nest_more k ws item l (n ∷ []) p h = absurd (omega (arith, h))
nest_more k ws item l (m ∷ n ∷ ns) p h = refl

-- ---- Columns

pub column_more : (k : Kind) (item : ℕ → ℤ) (j : ℕ) → max (column_width k item j) (width k (item j)) ≡ column_width k item (j + 1)
column_more k item j = let e : suc j ≡ j + 1 = omega arith in ap (column_width k item) e

pub column_place : (column n j rows place all : ℕ) → place ≡ column + j * n → column < n → j < rows → rows * n ≤ all → place < all
column_place column n j rows place all is within lt h = let t = times_more j rows n lt in omega (arith, t, is, within, h)

pub column_next : (column n j rows place all : ℕ) → place ≡ column + j * n → column < n → j < rows → rows * n ≤ all → place + n ≤ all + all
column_next column n j rows place all is within lt h =
    let t = times_more j rows n lt in
    let u = times_more 0 rows n (omega (arith, lt)) in
    omega (arith, t, u, is, within, h)
