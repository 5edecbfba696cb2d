-- The texts of an array in rows, and the widths of the columns.
use Rattle.std.proofs.Common.{◌≡◌, ℕ, zero, suc, ◌+◌, ◌*◌, ◌<◌, ◌≤◌, List, [], ◌∷◌, ◌++◌, refl, ap, ap₂, sym, ◌∙◌, arith, length, take, drop, ℤ}
use Rattle.std.specs.Prelude.{map, pos, fold, max, replicate, slice_index_or}
use Rattle.std.proofs.lemmas.List.{map-append, drop-drop, get_or-take, get_or-drop, length-take-le, length-drop, get_or-replicate, length-replicate, get_or-map}
use Rattle.std.proofs.lemmas.Grind.{fold-append}
use Rattle.aplc_scalar.specs.declared.kind.Kind.{Kind}
use Rattle.aplc_arr.specs.Delayed.{first_n}
use Rattle.aplc_arr.specs.Display.{element_text, rows_of, wider}
use Rattle.aplc_quad.specs.Rows.{column_width}

pub map_first_n : {A B : Type 0} (g : A → B) (h : ℕ → A) (n : ℕ) → map g (first_n h n) ≡ first_n (λ j. g (h j)) n
map_first_n g h zero = refl
map_first_n g h (suc n) = map-append g (first_n h n) (h n ∷ []) ∙ ap (λ l. l ++ g (h n) ∷ []) (map_first_n g h n)

-- ---- Rows

abbrev pub row_at : ℕ → List (List ℕ) → ℕ → List (List ℕ)
row_at n ts r = take n (drop (r * n) ts)

rows_more : (n m : ℕ) (ts : List (List ℕ)) → rows_of n (suc m) ts ≡ rows_of n m ts ++ row_at n ts m ∷ []
rows_more n zero ts = let e : 0 ≡ 0 * n = omega arith in ap (λ i. take n (drop i ts) ∷ []) e
rows_more n (suc m) ts =
    let e : n + m * n ≡ suc m * n = omega arith in
    ap (λ l. take n ts ∷ l) (rows_more n m (drop n ts) ∙ ap (λ l. rows_of n m (drop n ts) ++ take n l ∷ []) (drop-drop (m * n) n ts ∙ ap (λ i. drop i ts) e))

pub rows_are : (n m : ℕ) (ts : List (List ℕ)) → rows_of n m ts ≡ first_n (row_at n ts) m
rows_are n zero ts = refl
rows_are n (suc m) ts = rows_more n m ts ∙ ap (λ l. l ++ row_at n ts m ∷ []) (rows_are n m ts)

pub row_length : (n r : ℕ) (ts : List (List ℕ)) → r * n + n ≤ length ts → length (row_at n ts r) ≡ n
row_length n r ts h = let e = length-drop (r * n) ts in length-take-le n (drop (r * n) ts) (omega (arith, e, h))

pub row_text : (k : Kind) (zs : List ℤ) (n r j : ℕ) → j < n → r * n + n ≤ length zs → slice_index_or (row_at n (map (element_text k) zs) r) j [] ≡ element_text k (slice_index_or zs (r * n + j) (pos 0))
row_text k zs n r j lt h =
    get_or-take n (drop (r * n) (map (element_text k) zs)) j [] lt
    ∙ get_or-drop (r * n) (map (element_text k) zs) j []
    ∙ get_or-map (element_text k) zs (r * n + j) (pos 0) [] (omega (arith, lt, h))

-- ---- Widths

wider_length : (ws : List ℕ) (ts : List (List ℕ)) → length ws ≡ length ts → length (wider ws ts) ≡ length ws
wider_length [] ts e = refl
wider_length (w ∷ ws) [] e = absurd (omega (arith, e))
wider_length (w ∷ ws) (t ∷ ts) e = ap suc (wider_length ws ts (omega (arith, e)))

wider_at : (ws : List ℕ) (ts : List (List ℕ)) (j : ℕ) → length ws ≡ length ts → j < length ws → slice_index_or (wider ws ts) j 0 ≡ max (slice_index_or ws j 0) (length (slice_index_or ts j []))
wider_at [] ts j e lt = absurd (omega (arith, lt))
wider_at (w ∷ ws) [] j e lt = absurd (omega (arith, e))
wider_at (w ∷ ws) (t ∷ ts) zero e lt = refl
wider_at (w ∷ ws) (t ∷ ts) (suc j) e lt = wider_at ws ts j (omega (arith, e)) (omega (arith, lt))

abbrev pub widened : ℕ → (ℕ → List (List ℕ)) → ℕ → List ℕ
widened n h m = fold wider (replicate n 0) (first_n h m)

widened_more : (n : ℕ) (h : ℕ → List (List ℕ)) (m : ℕ) → widened n h (suc m) ≡ wider (widened n h m) (h m)
widened_more n h m = fold-append wider (replicate n 0) (first_n h m) (h m ∷ [])

pub widened_length : (n : ℕ) (h : ℕ → List (List ℕ)) (m : ℕ) → ((r : ℕ) → r < m → length (h r) ≡ n) → length (widened n h m) ≡ n
widened_length n h zero each = length-replicate n 0
widened_length n h (suc m) each =
    let before = widened_length n h m (λ r lt. each r (omega (arith, lt))) in
    let last = each m (omega arith) in
    ap length (widened_more n h m) ∙ wider_length (widened n h m) (h m) (before ∙ sym last) ∙ before

pub widened_at : (k : Kind) (item : ℕ → ℤ) (n : ℕ) (h : ℕ → List (List ℕ)) (m j : ℕ) → j < n → ((r : ℕ) → r < m → length (h r) ≡ n) → ((r : ℕ) → r < m → slice_index_or (h r) j [] ≡ element_text k (item r)) → slice_index_or (widened n h m) j 0 ≡ column_width k item m
widened_at k item n h zero j lt each texts = get_or-replicate n j 0 0 lt
widened_at k item n h (suc m) j lt each texts =
    let before = widened_length n h m (λ r le. each r (omega (arith, le))) in
    let last = each m (omega arith) in
    ap (λ l. slice_index_or l j 0) (widened_more n h m)
    ∙ wider_at (widened n h m) (h m) j (before ∙ sym last) (omega (arith, lt, before))
    ∙ ap₂ max (widened_at k item n h m j lt (λ r le. each r (omega (arith, le))) (λ r le. texts r (omega (arith, le)))) (ap length (texts m (omega arith)))
