-- What is written row by row is what the array is displayed as.
use Rattle.std.proofs.Common.{◌≡◌, ℕ, zero, suc, ◌+◌, ◌-◌, ◌*◌, ◌<◌, ◌≤◌, List, [], ◌∷◌, ◌++◌, refl, ap, ap₂, sym, ◌∙◌, arith, append_assoc, append-nil, length, ℤ, Bool, true, false}
use Rattle.std.specs.Prelude.{map, pos, flat_map, replicate, slice_index_or, nat_eq, encode_utf8, if◌then◌else◌}
use Rattle.std.proofs.lemmas.Bool.Decides.{nat_tests}
use Rattle.std.proofs.lemmas.List.{length-map, get_or-map}
use Rattle.std.proofs.lemmas.Grind.{flat_map-append}
use Rattle.aplc_scalar.specs.declared.kind.Kind.{Kind}
use Rattle.aplc_scalar.specs.declared.kind.Kind.TheVariants.{Num, Char}
use Rattle.aplc_arr.specs.Arrays.{Array, product}
use Rattle.aplc_arr.specs.Delayed.{first_n}
use Rattle.aplc_arr.specs.Display.{element_text, gap, parted, justified, each_justified, widths, empty_lines, lines_of, planes, layout, shown}
use Rattle.aplc_arr.proofs.Places.{at-first_n}
use Rattle.aplc_quad.specs.Rows.{joined, width, element_bytes, justified_bytes, gap_before, row_bytes, plane_bytes, nest_bytes, column_width, cell_of, listed}
use Rattle.aplc_quad.proofs.Pieces.{times_more, row_same}
use Rattle.aplc_quad.proofs.Joins.{joined_below, joined_in_utf8, same_in_utf8}
use Rattle.aplc_quad.proofs.Tables.{map_first_n, row_at, rows_are, row_length, row_text, widened, widened_length, widened_at}
use Rattle.aplc_quad.proofs.Lines.{parted_joined, row_parted, planes_joined}
use Rattle.aplc_quad.proofs.Nests.{moved, lines_before, empty_is, outer_of, rows_in, columns_in, product_split, nest_is, some_factor}

-- ---- In UTF-8

line_feed : flat_map encode_utf8 (10 ∷ []) ≡ 10 ∷ []
line_feed = same_in_utf8 10 1 (omega arith)

gap_bytes : (k : Kind) (j : ℕ) → flat_map encode_utf8 (gap_before k j) ≡ gap_before k j
gap_bytes k zero = refl
gap_bytes Num (suc j) = same_in_utf8 32 1 (omega arith)
gap_bytes Char (suc j) = refl

item_bytes : (k : Kind) (j w : ℕ) (z : ℤ) → flat_map encode_utf8 (gap_before k j ++ justified w (element_text k z)) ≡ gap_before k j ++ justified_bytes k w z
item_bytes k j w z =
    flat_map-append encode_utf8 (gap_before k j) (justified w (element_text k z))
    ∙ ap₂ (λ x y. x ++ y) (gap_bytes k j)
    (flat_map-append encode_utf8 (replicate (w - width k z) 32) (element_text k z) ∙ ap (λ l. l ++ element_bytes k z) (same_in_utf8 32 (w - width k z) (omega arith)))

before_bytes : (ns : List ℕ) (p q : ℕ) → flat_map encode_utf8 (lines_before ns p q) ≡ lines_before ns p q
before_bytes ns p q = by_cases (nat_eq (p + q) 0)
  where
    by_cases : (b : Bool) → flat_map encode_utf8 (if b then [] else replicate (moved ns q) 10) ≡ (if b then [] else replicate (moved ns q) 10)
    by_cases true = refl
    by_cases false = same_in_utf8 10 (moved ns q) (omega arith)

-- ---- Rank 0 and 1

pub line_shown : (a : Array) (n : ℕ) → length a.cells ≡ n → flat_map encode_utf8 (parted (gap a.kind) (map (element_text a.kind) a.cells) ++ 10 ∷ []) ≡ row_bytes a.kind (listed []) (λ j. cell_of a (0 + j)) n ++ 10 ∷ []
line_shown a n e =
    let k = a.kind in
    let ts = map (element_text k) a.cells in
    flat_map-append encode_utf8 (parted (gap k) ts) (10 ∷ [])
    ∙ ap₂ (λ x y. x ++ y)
    (ap (flat_map encode_utf8) (parted_joined k ts ∙ ap (joined (λ j. gap_before k j ++ slice_index_or ts j [])) (length-map a.cells (element_text k) ∙ e))
    ∙ joined_in_utf8 (λ j. gap_before k j ++ slice_index_or ts j []) n
    ∙ joined_below (λ j. flat_map encode_utf8 (gap_before k j ++ slice_index_or ts j [])) (λ j. gap_before k j ++ justified_bytes k (listed [] j) (cell_of a (0 + j))) n item)
    line_feed
  where
    plain : (w : ℕ) (t : List ℕ) → t ≡ replicate (0 - w) 32 ++ t
    plain w t = let z : 0 ≡ 0 - w = omega arith in ap (λ m. replicate m 32 ++ t) z

    item : (j : ℕ) → j < n → flat_map encode_utf8 (gap_before a.kind j ++ slice_index_or (map (element_text a.kind) a.cells) j []) ≡ gap_before a.kind j ++ justified_bytes a.kind 0 (cell_of a (0 + j))
    item j lt =
        let s : j ≡ 0 + j = omega arith in
        ap (λ t. flat_map encode_utf8 (gap_before a.kind j ++ t)) (get_or-map (element_text a.kind) a.cells j (pos 0) [] (omega (arith, lt, e)) ∙ ap (λ i. element_text a.kind (cell_of a i)) s ∙ plain (width a.kind (cell_of a (0 + j))) (element_text a.kind (cell_of a (0 + j))))
        ∙ item_bytes a.kind j 0 (cell_of a (0 + j))

-- ---- Rank 2 and more

pub layout_is : (k : Kind) (outer ns : List ℕ) (ts : List (List ℕ)) → 2 ≤ length ns → layout k outer ns ts ≡ (if nat_eq (length ts) 0 then [] else planes k (outer ++ outer_of ns) (rows_in ns) (columns_in ns) ts)
layout_is k outer [] ts h = absurd (omega (arith, h))
layout_is k outer (n ∷ []) ts h = absurd (omega (arith, h))
layout_is k outer (m ∷ n ∷ []) ts h = ap (λ o. if nat_eq (length ts) 0 then [] else planes k o m n ts) (sym (append-nil outer))
layout_is k outer (l ∷ m ∷ n ∷ ns) ts h =
    layout_is k (outer ++ l ∷ []) (m ∷ n ∷ ns) ts (omega arith)
    ∙ ap (λ o. if nat_eq (length ts) 0 then [] else planes k o (rows_in (m ∷ n ∷ ns)) (columns_in (m ∷ n ∷ ns)) ts) (append_assoc outer (l ∷ []) (outer_of (m ∷ n ∷ ns)))

-- the widths of the columns
abbrev pub widths_of : Array → ℕ → ℕ → List ℕ
widths_of a n rows = first_n (λ j. column_width a.kind (λ r. cell_of a (j + r * n)) rows) n

module _ (a : Array) (outer : List ℕ) (m n : ℕ) (whole : length a.cells ≡ product outer * m * n) where
  abbrev texts : List (List ℕ)
  texts = map (element_text a.kind) a.cells

  abbrev rows : ℕ
  rows = product outer * m

  abbrev ws : ℕ → ℕ
  ws = listed (widths_of a n rows)

  enough : (r : ℕ) → r < rows → r * n + n ≤ length a.cells
  enough r lt = let t = times_more r rows n lt in omega (arith, t, whole)

  long : (r : ℕ) → r < rows → length (row_at n texts r) ≡ n
  long r lt = row_length n r texts (let e = length-map a.cells (element_text a.kind) in omega (arith, e, enough r lt))

  text_is : (r j : ℕ) → r < rows → j < n → slice_index_or (row_at n texts r) j [] ≡ element_text a.kind (cell_of a (r * n + j))
  text_is r j lr lj = row_text a.kind a.cells n r j lj (enough r lr)

  width_is : (j : ℕ) → j < n → slice_index_or (widened n (row_at n texts) rows) j 0 ≡ ws j
  width_is j lj =
      widened_at a.kind (λ r. cell_of a (j + r * n)) n (row_at n texts) rows j lj long (λ r lr. text_is r j lr lj ∙ ap (λ p. element_text a.kind (cell_of a p)) (turned r j))
      ∙ sym (at-first_n (λ i. column_width a.kind (λ r. cell_of a (i + r * n)) rows) n j 0 lj)
    where
      turned : (r j : ℕ) → r * n + j ≡ j + r * n
      turned r j = omega arith

  -- a row, its columns justified
  abbrev row_characters : ℕ → List ℕ
  row_characters r = parted (gap a.kind) (each_justified (widened n (row_at n texts) rows) (row_at n texts r))

  row_shown : (r : ℕ) → r < rows → flat_map encode_utf8 (row_characters r) ≡ row_bytes a.kind ws (λ j. cell_of a (r * n + j)) n
  row_shown r lr =
      ap (flat_map encode_utf8) (row_parted a.kind (widened n (row_at n texts) rows) (row_at n texts r) n (widened_length n (row_at n texts) rows long) (long r lr))
      ∙ joined_in_utf8 (λ j. gap_before a.kind j ++ justified (slice_index_or (widened n (row_at n texts) rows) j 0) (slice_index_or (row_at n texts r) j [])) n
      ∙ joined_below (λ j. flat_map encode_utf8 (gap_before a.kind j ++ justified (slice_index_or (widened n (row_at n texts) rows) j 0) (slice_index_or (row_at n texts r) j []))) (λ j. gap_before a.kind j ++ justified_bytes a.kind (ws j) (cell_of a (r * n + j))) n
      (λ j lj. ap₂ (λ w t. flat_map encode_utf8 (gap_before a.kind j ++ justified w t)) (width_is j lj) (text_is r j lr lj) ∙ item_bytes a.kind j (ws j) (cell_of a (r * n + j)))

  planes_are : 0 < m → planes a.kind outer m n texts ≡ joined (λ p. empty_lines outer p ++ joined (λ i. row_characters (p * m + i) ++ 10 ∷ []) m) (product outer)
  planes_are some =
      ap (λ l. lines_of outer m 0 (map (λ row. parted (gap a.kind) (each_justified (widths n l) row)) l)) (rows_are n rows texts)
      ∙ ap (lines_of outer m 0) (map_first_n (λ row. parted (gap a.kind) (each_justified (widened n (row_at n texts) rows) row)) (row_at n texts) rows)
      ∙ planes_joined outer m row_characters some

  abbrev plane : ℕ → List ℕ
  plane p = plane_bytes a.kind ws (λ x. cell_of a (0 + p * (m * n) + x)) m n

  plane_shown : (p : ℕ) → p < product outer → flat_map encode_utf8 (joined (λ i. row_characters (p * m + i) ++ 10 ∷ []) m) ≡ plane p
  plane_shown p lp =
      joined_in_utf8 (λ i. row_characters (p * m + i) ++ 10 ∷ []) m
      ∙ joined_below (λ i. flat_map encode_utf8 (row_characters (p * m + i) ++ 10 ∷ [])) (λ i. row_bytes a.kind ws (λ j. cell_of a (0 + p * (m * n) + (i * n + j))) n ++ 10 ∷ []) m
      (λ i li.
      let lr : p * m + i < rows = let t = times_more p (product outer) m lp in omega (arith, t, li) in
      flat_map-append encode_utf8 (row_characters (p * m + i)) (10 ∷ [])
      ∙ ap₂ (λ x y. x ++ y) (row_shown (p * m + i) lr ∙ row_same a.kind ws (λ j. cell_of a ((p * m + i) * n + j)) (λ j. cell_of a (0 + p * (m * n) + (i * n + j))) n (λ j. ap (cell_of a) (place p i j))) line_feed)
    where
      place : (p i j : ℕ) → (p * m + i) * n + j ≡ 0 + p * (m * n) + (i * n + j)
      place p i j = omega arith

  pub planes_shown : 0 < m → flat_map encode_utf8 (planes a.kind outer m n texts) ≡ joined (λ p. lines_before outer 0 p ++ plane p) (product outer)
  planes_shown some =
      ap (flat_map encode_utf8) (planes_are some)
      ∙ joined_in_utf8 (λ p. empty_lines outer p ++ joined (λ i. row_characters (p * m + i) ++ 10 ∷ []) m) (product outer)
      ∙ joined_below (λ p. flat_map encode_utf8 (empty_lines outer p ++ joined (λ i. row_characters (p * m + i) ++ 10 ∷ []) m)) (λ p. lines_before outer 0 p ++ plane p) (product outer)
      (λ p lp.
      flat_map-append encode_utf8 (empty_lines outer p) (joined (λ i. row_characters (p * m + i) ++ 10 ∷ []) m)
      ∙ ap₂ (λ x y. x ++ y) (ap (flat_map encode_utf8) (empty_is outer p lp) ∙ before_bytes outer 0 p) (plane_shown p lp))

-- an array of rank 2 or more with elements
pub nest_shown : (a : Array) (rows : ℕ) → length a.cells ≡ product a.shape → 2 ≤ length a.shape → 0 < product a.shape → rows ≡ product (outer_of a.shape) * rows_in a.shape → shown a ≡ nest_bytes a.kind (listed (widths_of a (columns_in a.shape) rows)) (cell_of a) a.shape 0
nest_shown a rows whole ranked some rows_are =
    let ns = a.shape in
    let split = product_split ns ranked in
    let factors = some_factor (product (outer_of ns)) (rows_in ns * columns_in ns) (omega (arith, some, split)) in
    let all : length a.cells ≡ product (outer_of ns) * rows_in ns * columns_in ns = whole ∙ split ∙ grouped (product (outer_of ns)) (rows_in ns) (columns_in ns) in
    let texts = map (element_text a.kind) a.cells in
    let count : nat_eq (length texts) 0 ≡ false = let e = length-map a.cells (element_text a.kind) ∙ whole in grind (arith, nat_tests) in
    ap (flat_map encode_utf8) (layout_is a.kind [] ns texts ranked ∙ ap (λ b. if b then [] else planes a.kind (outer_of ns) (rows_in ns) (columns_in ns) texts) count)
    ∙ planes_shown a (outer_of ns) (rows_in ns) (columns_in ns) all (some_factor (rows_in ns) (columns_in ns) factors.1).0
    ∙ sym (nest_is a.kind (listed (widths_of a (columns_in ns) (product (outer_of ns) * rows_in ns))) (cell_of a) ns 0 ranked some)
    ∙ ap (λ r. nest_bytes a.kind (listed (widths_of a (columns_in ns) r)) (cell_of a) ns 0) (sym rows_are)
  where
    grouped : (a b c : ℕ) → a * (b * c) ≡ a * b * c
    grouped a b c = omega arith
