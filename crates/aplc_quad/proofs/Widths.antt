-- The widths that are written with: those of the columns, and none for characters.
use Rattle.std.proofs.Common.{◌≡◌, ℕ, zero, suc, ◌+◌, ◌-◌, ◌*◌, ◌/◌, ◌<◌, ◌≤◌, List, [], ◌∷◌, ◌++◌, refl, ap, sym, ◌∙◌, arith, length, drop, ℤ, ⊎_elim}
use Rattle.std.specs.Prelude.{replicate, slice_index_or, nat_le}
use Rattle.std.proofs.lemmas.Bool.Decides.{nat_tests}
use Rattle.std.proofs.lemmas.List.{drop_more, length-drop}
use Rattle.std.proofs.Math.ListN.{drop_of_length-le}
use Rattle.std.proofs.lemmas.Bool.{cases_lt}
use Rattle.std.proofs.lemmas.Nat.{div-mul-add, div-add-mod'}
use Rattle.aplc_scalar.specs.declared.kind.Kind.{Kind}
use Rattle.aplc_scalar.specs.declared.kind.Kind.TheVariants.{Char}
use Rattle.aplc_arr.specs.Arrays.{Array, IsArray, product, count_limit, lengths_fit}
use Rattle.aplc_arr.specs.Delayed.{first_n}
use Rattle.aplc_arr.specs.Display.{shown}
use Rattle.aplc_arr.proofs.Basics.{and-parts}
use Rattle.aplc_quad.specs.Rows.{joined, gap_before, justified_bytes, element_bytes, row_bytes, plane_bytes, nest_bytes, empty_line, column_width, cell_of, listed}
use Rattle.aplc_quad.proofs.Pieces.{joined_same, axis_first, nest_more}
use Rattle.aplc_quad.proofs.Nests.{outer_of, rows_in, columns_in, product_split, some_factor}
use Rattle.aplc_quad.proofs.Shown.{nest_shown}

-- ---- The last two axes

pub last_two : (ns : List ℕ) (i : ℕ) → i + 2 ≡ length ns → drop i ns ≡ slice_index_or ns i 0 ∷ slice_index_or ns (i + 1) 0 ∷ []
last_two ns i e =
    drop_more ns i 0 (omega (arith, e))
    ∙ ap (λ l. slice_index_or ns i 0 ∷ l) (drop_more ns (i + 1) 0 (omega (arith, e)) ∙ ap (λ l. slice_index_or ns (i + 1) 0 ∷ l) (drop_of_length-le ns (omega (arith, e))))

pub plane_product : (ns : List ℕ) (i : ℕ) → i + 2 ≡ length ns → product (drop i ns) ≡ slice_index_or ns i 0 * slice_index_or ns (i + 1) 0
plane_product ns i e = ap product (last_two ns i e) ∙ by_one (slice_index_or ns i 0) (slice_index_or ns (i + 1) 0)
  where
    by_one : (a b : ℕ) → a * (b * 1) ≡ a * b
    by_one a b = omega arith

pub plane_nest : (k : Kind) (ws : ℕ → ℕ) (item : ℕ → ℤ) (ns : List ℕ) (i p : ℕ) → i + 2 ≡ length ns → plane_bytes k ws (λ q. item (p + q)) (slice_index_or ns i 0) (slice_index_or ns (i + 1) 0) ≡ nest_bytes k ws item (drop i ns) p
plane_nest k ws item ns i p e = ap (λ l. nest_bytes k ws item l p) (sym (last_two ns i e))

pub axis_product : (ns : List ℕ) (i : ℕ) → i + 2 ≤ length ns → product (drop i ns) ≡ slice_index_or ns i 0 * product (drop (i + 1) ns)
axis_product ns i h = ap product (axis_first ns i h)

pub axis_nest : (k : Kind) (ws : ℕ → ℕ) (item : ℕ → ℤ) (ns : List ℕ) (i p : ℕ) → i + 2 < length ns → joined (λ j. empty_line (slice_index_or ns i 0) (p + j * product (drop (i + 1) ns)) ++ nest_bytes k ws item (drop (i + 1) ns) (p + j * product (drop (i + 1) ns))) (slice_index_or ns i 0) ≡ nest_bytes k ws item (drop i ns) p
axis_nest k ws item ns i p h =
    sym (ap (λ l. nest_bytes k ws item l p) (axis_first ns i (omega (arith, h))) ∙ nest_more k ws item (slice_index_or ns i 0) (drop (i + 1) ns) p two)
  where
    two : 2 ≤ length (drop (i + 1) ns)
    two = let e = length-drop (i + 1) ns in omega (arith, e, h)

pub columns_last : (ns : List ℕ) → 2 ≤ length ns → slice_index_or ns (length ns - 1) 0 ≡ columns_in ns
columns_last [] h = absurd (omega (arith, h))
columns_last (n ∷ []) h = absurd (omega (arith, h))
columns_last (m ∷ n ∷ []) h = refl
columns_last (l ∷ m ∷ n ∷ ns) h =
    let e : length (l ∷ m ∷ n ∷ ns) - 1 ≡ suc (length (m ∷ n ∷ ns) - 1) = omega arith in
    ap (λ i. slice_index_or (l ∷ m ∷ n ∷ ns) i 0) e ∙ columns_last (m ∷ n ∷ ns) (omega arith)

-- ---- Numbers

pub short_array : (a : Array) → IsArray a → product a.shape ≤ count_limit
short_array a h = let e = (and-parts (lengths_fit a.shape) (nat_le (product a.shape) count_limit) h.fits).1 in grind (arith, nat_tests)

pub rows_fit : (all n : ℕ) → 0 < n → all / n * n ≤ all
rows_fit all n some = let e = div-add-mod' all n in omega (arith, e)

-- with the widths of its columns an array is written as it is displayed
pub numbers_shown : (a : Array) (n : ℕ) (ws : List ℕ) → IsArray a → 2 ≤ length a.shape → 0 < product a.shape → n ≡ slice_index_or a.shape (length a.shape - 1) 0 → ws ≡ first_n (λ j. column_width a.kind (λ r. cell_of a (j + r * n)) (product a.shape / n)) n → nest_bytes a.kind (listed ws) (cell_of a) a.shape 0 ≡ shown a
numbers_shown a n ws array ranked some last are =
    let ns = a.shape in
    let o = product (outer_of ns) in
    let m = rows_in ns in
    let columns = last ∙ columns_last ns ranked in
    let split = product_split ns ranked in
    let factors = some_factor o (m * columns_in ns) (omega (arith, some, split)) in
    let positive = (some_factor m (columns_in ns) factors.1).1 in
    let rows : product ns / columns_in ns ≡ o * m = ap (λ p. p / columns_in ns) (split ∙ grouped o m (columns_in ns)) ∙ div-mul-add (o * m) (columns_in ns) 0 positive in
    ap (λ l. nest_bytes a.kind (listed l) (cell_of a) ns 0) (are ∙ ap (λ c. first_n (λ j. column_width a.kind (λ r. cell_of a (j + r * c)) (product ns / c)) c) columns)
    ∙ sym (nest_shown a (product ns / columns_in ns) array.whole ranked some rows)
  where
    grouped : (a b c : ℕ) → a * (b * c) ≡ a * b * c + 0
    grouped a b c = omega arith

-- ---- Characters

character_same : (v w : ℕ) (z : ℤ) → v ≤ 1 → w ≤ 1 → justified_bytes Char v z ≡ justified_bytes Char w z
character_same v w z a b = let e : v - 1 ≡ w - 1 = omega (arith, a, b) in ap (λ n. replicate n 32 ++ element_bytes Char z) e

plane_narrow : (v w : ℕ → ℕ) (item : ℕ → ℤ) (m n : ℕ) → ((j : ℕ) → v j ≤ 1) → ((j : ℕ) → w j ≤ 1) → plane_bytes Char v item m n ≡ plane_bytes Char w item m n
plane_narrow v w item m n a b =
    joined_same (λ i. row_bytes Char v (λ j. item (i * n + j)) n ++ 10 ∷ []) (λ i. row_bytes Char w (λ j. item (i * n + j)) n ++ 10 ∷ []) m
    (λ i. ap (λ l. l ++ 10 ∷ []) (joined_same (λ j. gap_before Char j ++ justified_bytes Char (v j) (item (i * n + j))) (λ j. gap_before Char j ++ justified_bytes Char (w j) (item (i * n + j))) n (λ j. ap (λ l. gap_before Char j ++ l) (character_same (v j) (w j) (item (i * n + j)) (a j) (b j)))))

-- no column of characters is wider than 1, so widths make no difference
pub nest_narrow : (v w : ℕ → ℕ) (item : ℕ → ℤ) (ns : List ℕ) (p : ℕ) → ((j : ℕ) → v j ≤ 1) → ((j : ℕ) → w j ≤ 1) → nest_bytes Char v item ns p ≡ nest_bytes Char w item ns p
nest_narrow v w item [] p a b = refl
nest_narrow v w item (n ∷ []) p a b = refl
nest_narrow v w item (m ∷ n ∷ []) p a b = plane_narrow v w (λ q. item (p + q)) m n a b
nest_narrow v w item (l ∷ m ∷ n ∷ ns) p a b =
    let size = product (m ∷ n ∷ ns) in
    joined_same (λ i. empty_line l (p + i * size) ++ nest_bytes Char v item (m ∷ n ∷ ns) (p + i * size)) (λ i. empty_line l (p + i * size) ++ nest_bytes Char w item (m ∷ n ∷ ns) (p + i * size)) l
    (λ i. ap (λ x. empty_line l (p + i * size) ++ x) (nest_narrow v w item (m ∷ n ∷ ns) (p + i * size) a b))

column_narrow : (item : ℕ → ℤ) (r : ℕ) → column_width Char item r ≤ 1
column_narrow item zero = omega arith
column_narrow item (suc r) = let h = column_narrow item r in omega (arith, h)

listed_narrow : (f : ℕ → ℕ) (n : ℕ) → ((j : ℕ) → f j ≤ 1) → (j : ℕ) → listed (first_n f n) j ≤ 1
listed_narrow f zero h j = omega arith
listed_narrow f (suc n) h j = pushed (first_n f n) (f n) (listed_narrow f n h) (h n) j
  where
    pushed : (xs : List ℕ) (x : ℕ) → ((j : ℕ) → listed xs j ≤ 1) → x ≤ 1 → (j : ℕ) → listed (xs ++ x ∷ []) j ≤ 1
    pushed [] x h q zero = q
    pushed [] x h q (suc j) = omega arith
    pushed (y ∷ xs) x h q zero = h zero
    pushed (y ∷ xs) x h q (suc j) = pushed xs x (λ i. h (suc i)) q j

-- characters are written with no widths
pub characters_shown : (a : Array) → a.kind ≡ Char → IsArray a → 2 ≤ length a.shape → 0 < product a.shape → nest_bytes a.kind (listed []) (cell_of a) a.shape 0 ≡ shown a
characters_shown a is array ranked some =
    let n = slice_index_or a.shape (length a.shape - 1) 0 in
    let rows = product a.shape / n in
    let ws = first_n (λ j. column_width Char (λ r. cell_of a (j + r * n)) rows) n in
    ap (λ k. nest_bytes k (listed []) (cell_of a) a.shape 0) is
    ∙ nest_narrow (listed []) (listed ws) (cell_of a) a.shape 0 (λ j. omega arith) (listed_narrow (λ j. column_width Char (λ r. cell_of a (j + r * n)) rows) n (λ j. column_narrow (λ r. cell_of a (j + r * n)) rows))
    ∙ ap (λ k. nest_bytes k (listed ws) (cell_of a) a.shape 0) (sym is)
    ∙ numbers_shown a n ws array ranked some refl (ap (λ k. first_n (λ j. column_width k (λ r. cell_of a (j + r * n)) rows) n) (sym is))

pub strictly : (k r : ℕ) → k ≤ r → (r ≡ k → ⊥) → k < r
strictly k r le other = ⊎_elim (λ lt. lt) (λ ge. let e : r ≡ k = omega (arith, le, ge) in absurd (other e)) (cases_lt k r)
