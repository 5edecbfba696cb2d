-- Numbers of an array by columns: what the code that finds widths needs, and what it prints.
use Rattle.std.proofs.Common.{◌≡◌, ℕ, zero, suc, ◌+◌, ◌*◌, ◌<◌, ◌≤◌, List, [], ◌∷◌, ◌++◌, length, refl, sym, ap, ◌∙◌, subst, arith, append_assoc, ℤ, true, ⊎_elim}
use Rattle.std.specs.Prelude.{Some, Ok, max}
use Rattle.std.proofs.lemmas.Bool.{cases_lt}
use Rattle.aplc_scalar.specs.declared.kind.Kind.{Kind}
use Rattle.aplc_scalar.specs.declared.kind.Kind.TheVariants.{Num}
use Rattle.aplc_scalar.specs.Scalar.{in_range}
use Rattle.aplc_arr.specs.Arrays.{Array, IsArray, IsIndexOf, place, product}
use Rattle.aplc_arr.specs.Display.{shown}
use Rattle.aplc_arr.proofs.Places.{at-first_n}
use Rattle.aplc_cprof.specs.declared.syntax.Buf.{Buf}
use Rattle.aplc_cprof.specs.Machine.{State}
use Rattle.aplc_collect.specs.Elements.{Test}
use Rattle.aplc_quad.specs.declared.printing.Columns.TheVariants.{Justified}
use Rattle.aplc_quad.specs.Rows.{width, justified_bytes, gap_before, row_bytes, nest_bytes, empty_line, column_width, cell_of, listed}
use Rattle.aplc_quad.specs.Printed.{NestFits, last_length}
use Rattle.aplc_quad.specs.Ranges.{rows_in_all, ColumnItems}
use Rattle.aplc_quad.proofs.Pieces.{joined_same, times_more}
use Rattle.aplc_quad.proofs.Joins.{joined_below}
use Rattle.aplc_quad.proofs.Nests.{outer_of, rows_in, columns_in}
use Rattle.aplc_quad.proofs.Shown.{widths_of, nest_shown}
use Rattle.aplc_quad.proofs.Prints.{width_most}

-- ---- Rows and columns

pub rows_times : (ns : List ℕ) → 1 ≤ length ns → product ns ≡ rows_in_all ns * last_length ns
rows_times [] h = absurd (omega (arith, h))
rows_times (n ∷ []) h = omega arith
rows_times (l ∷ n ∷ ns) h = ap (λ k. l * k) (rows_times (n ∷ ns) (omega arith)) ∙ grouped l (rows_in_all (n ∷ ns)) (last_length (n ∷ ns))
  where
    grouped : (a b c : ℕ) → a * (b * c) ≡ a * b * c
    grouped a b c = omega arith

pub rows_are : (ns : List ℕ) → 2 ≤ length ns → rows_in_all ns ≡ product (outer_of ns) * rows_in ns
rows_are [] h = absurd (omega (arith, h))
rows_are (n ∷ []) h = absurd (omega (arith, h))
rows_are (m ∷ n ∷ []) h = omega arith
rows_are (l ∷ m ∷ n ∷ ns) h = ap (λ k. l * k) (rows_are (m ∷ n ∷ ns) (omega arith)) ∙ grouped l (product (outer_of (m ∷ n ∷ ns))) (rows_in (m ∷ n ∷ ns))
  where
    grouped : (a b c : ℕ) → a * (b * c) ≡ a * b * c
    grouped a b c = omega arith

pub last_is : (ns : List ℕ) → 2 ≤ length ns → last_length ns ≡ columns_in ns
last_is [] h = absurd (omega (arith, h))
last_is (n ∷ []) h = absurd (omega (arith, h))
last_is (m ∷ n ∷ []) h = refl
last_is (l ∷ m ∷ n ∷ ns) h = last_is (m ∷ n ∷ ns) (omega arith)

-- ---- Elements of a column

pub column_items : (test : Test) (tables : List (List ℤ)) (s : State) (before ns : List ℕ) (j p q n : ℕ) (item : ℕ → ℤ) → n ≡ last_length ns → j < n → q ≡ p * n → ((is : List ℕ) → IsIndexOf ns is → test tables s (before ++ is) ≡ Some (Ok (item (q + place ns is)))) → ColumnItems test tables s before ns j p (λ r. item (j + r * n))
column_items test tables s before [] j p q n item en lt eq h = tt
column_items test tables s before (w ∷ []) j p q n item en lt eq h =
    let e : q + (j * 1 + 0) ≡ j + p * n = omega (arith, eq) in
    h (j ∷ []) (omega (arith, lt, en), tt) ∙ ap (λ r. Some (Ok (item r))) e
column_items test tables s before (l ∷ w ∷ ns) j p q n item en lt eq h = λ i li.
    column_items test tables s (before ++ i ∷ []) (w ∷ ns) j (p + i * rows_in_all (w ∷ ns)) (q + i * product (w ∷ ns)) n item en lt (further i)
    (λ is inside. ap (λ at. test tables s at) (append_assoc before (i ∷ []) is) ∙ h (i ∷ is) (li, inside) ∙ ap (λ r. Some (Ok (item r))) (behind i (product (w ∷ ns)) (place (w ∷ ns) is)))
  where
    behind : (i size r : ℕ) → q + (i * size + r) ≡ q + i * size + r
    behind i size r = omega arith

    spread : (i rows : ℕ) → p * n + i * (rows * n) ≡ (p + i * rows) * n
    spread i rows = omega arith

    further : (i : ℕ) → q + i * product (w ∷ ns) ≡ (p + i * rows_in_all (w ∷ ns)) * n
    further i =
        ap (λ x. x + i * product (w ∷ ns)) eq
        ∙ ap (λ x. p * n + i * x) (rows_times (w ∷ ns) (omega arith) ∙ ap (λ x. rows_in_all (w ∷ ns) * x) (sym en))
        ∙ spread i (rows_in_all (w ∷ ns))

-- ---- Widths

pub width_within : (item : ℕ → ℤ) (rows r : ℕ) → r < rows → width Num (item r) ≤ column_width Num item rows
width_within item zero r lt = absurd (omega (arith, lt))
width_within item (suc rows) r lt =
    ⊎_elim
    (λ less. let h = width_within item rows r less in omega (arith, h))
    (λ more. let e : rows ≡ r = omega (arith, lt, more) in subst (λ q. width Num (item q) ≤ max (column_width Num item rows) (width Num (item rows))) e (omega arith))
    (cases_lt r rows)

pub column_most : (item : ℕ → ℤ) (rows : ℕ) → ((r : ℕ) → r < rows → in_range (item r) ≡ true) → column_width Num item rows ≤ 20
column_most item zero h = omega arith
column_most item (suc rows) h =
    let a = column_most item rows (λ r lt. h r (omega (arith, lt))) in
    let b = width_most (item rows) (h rows (omega arith)) in
    omega (arith, a, b)

pub wide_fits : (widths : Buf) (item : ℕ → ℤ) (ns : List ℕ) (p r n rows : ℕ) → n ≡ last_length ns → p ≡ r * n → r + rows_in_all ns ≤ rows → ((j q : ℕ) → j < n → q < rows → in_range (item (j + q * n)) ≡ true) → NestFits (Justified widths) (λ j. column_width Num (λ q. item (j + q * n)) rows) item ns p
wide_fits widths item [] p r n rows en ep le h = tt
wide_fits widths item (w ∷ []) p r n rows en ep le h = λ j lt.
    let here : j + r * n ≡ p + j = omega (arith, ep) in
    let less : j < n = omega (arith, lt, en) in (
      subst (λ x. width Num (item x) ≤ column_width Num (λ q. item (j + q * n)) rows) here (width_within (λ q. item (j + q * n)) rows r (omega (arith, le))),
      column_most (λ q. item (j + q * n)) rows (λ q lq. h j q less lq),
      subst (λ x. in_range (item x) ≡ true) here (h j r less (omega (arith, le))),
    )
wide_fits widths item (l ∷ w ∷ ns) p r n rows en ep le h = λ i li.
    wide_fits widths item (w ∷ ns) (p + i * product (w ∷ ns)) (r + i * rows_in_all (w ∷ ns)) n rows en (further i) (let t = times_more i l (rows_in_all (w ∷ ns)) li in omega (arith, t, le)) h
  where
    spread : (i size : ℕ) → r * n + i * (size * n) ≡ (r + i * size) * n
    spread i size = omega arith

    further : (i : ℕ) → p + i * product (w ∷ ns) ≡ (r + i * rows_in_all (w ∷ ns)) * n
    further i =
        ap (λ x. x + i * product (w ∷ ns)) ep
        ∙ ap (λ x. r * n + i * x) (rows_times (w ∷ ns) (omega arith) ∙ ap (λ x. rows_in_all (w ∷ ns) * x) (sym en))
        ∙ spread i (rows_in_all (w ∷ ns))

-- only the widths of columns that are there count
nest_wide : (k : Kind) (v w : ℕ → ℕ) (item : ℕ → ℤ) (ns : List ℕ) (p : ℕ) → ((j : ℕ) → j < last_length ns → v j ≡ w j) → nest_bytes k v item ns p ≡ nest_bytes k w item ns p
nest_wide k v w item [] p h = refl
nest_wide k v w item (n ∷ []) p h = refl
nest_wide k v w item (m ∷ n ∷ []) p h =
    joined_same (λ i. row_bytes k v (λ j. item (p + (i * n + j))) n ++ 10 ∷ []) (λ i. row_bytes k w (λ j. item (p + (i * n + j))) n ++ 10 ∷ []) m
    (λ i. ap (λ l. l ++ 10 ∷ []) (joined_below (λ j. gap_before k j ++ justified_bytes k (v j) (item (p + (i * n + j)))) (λ j. gap_before k j ++ justified_bytes k (w j) (item (p + (i * n + j)))) n (λ j lt. ap (λ x. gap_before k j ++ justified_bytes k x (item (p + (i * n + j)))) (h j lt))))
nest_wide k v w item (l ∷ m ∷ n ∷ ns) p h =
    let size = product (m ∷ n ∷ ns) in
    joined_same (λ i. empty_line l (p + i * size) ++ nest_bytes k v item (m ∷ n ∷ ns) (p + i * size)) (λ i. empty_line l (p + i * size) ++ nest_bytes k w item (m ∷ n ∷ ns) (p + i * size)) l
    (λ i. ap (λ x. empty_line l (p + i * size) ++ x) (nest_wide k v w item (m ∷ n ∷ ns) (p + i * size) h))

-- with the widths of its columns an array of numbers is written as it is displayed
pub wide_shown : (a : Array) → IsArray a → a.kind ≡ Num → 2 ≤ length a.shape → 0 < product a.shape → nest_bytes Num (λ j. column_width Num (λ q. cell_of a (j + q * last_length a.shape)) (rows_in_all a.shape)) (cell_of a) a.shape 0 ≡ shown a
wide_shown a array ek ranked some =
    let n = last_length a.shape in
    let rows = rows_in_all a.shape in
    let ws = listed (widths_of a n rows) in
    ap (λ k. nest_bytes k (λ j. column_width k (λ q. cell_of a (j + q * n)) rows) (cell_of a) a.shape 0) (sym ek)
    ∙ nest_wide a.kind (λ j. column_width a.kind (λ q. cell_of a (j + q * n)) rows) ws (cell_of a) a.shape 0 (λ j lt. sym (at-first_n (λ i. column_width a.kind (λ q. cell_of a (i + q * n)) rows) n j 0 lt))
    ∙ ap (λ c. nest_bytes a.kind (listed (widths_of a c rows)) (cell_of a) a.shape 0) (last_is a.shape ranked)
    ∙ sym (nest_shown a rows array.whole ranked some (rows_are a.shape ranked))
