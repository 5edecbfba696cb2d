-- A displayed array by its rows: each element's bytes at its place.
use Rattle.std.specs.Prelude.{ℕ, zero, suc, ◌+◌, ◌-◌, ◌*◌, List, [], ◌∷◌, ◌++◌, ℤ, pos, length, flat_map, replicate, max, slice_index_or, nat_lt, ◌&&◌, if◌then◌else◌, encode_utf8}
use Rattle.aplc_scalar.specs.declared.kind.Kind.{Kind}
use Rattle.aplc_arr.specs.Arrays.{Array, product}
use Rattle.aplc_arr.specs.Display.{element_text, gap}

-- what f gives for 0 to n - 1, one behind the other
abbrev pub joined : (ℕ → List ℕ) → ℕ → List ℕ
joined f zero = []
joined f (suc n) = joined f n ++ f n

-- ---- One element

-- how many characters an element's text has
abbrev pub width : Kind → ℤ → ℕ
width k z = length (element_text k z)

-- the bytes of an element's text
abbrev pub element_bytes : Kind → ℤ → List ℕ
element_bytes k z = flat_map encode_utf8 (element_text k z)

-- behind blanks up to a width
abbrev pub justified_bytes : Kind → ℕ → ℤ → List ℕ
justified_bytes k w z = replicate (w - width k z) 32 ++ element_bytes k z

-- ---- One row

-- what parts an element from those before it
abbrev pub gap_before : Kind → ℕ → List ℕ
gap_before k zero = []
gap_before k (suc j) = gap k

-- the first n elements of a row, each justified to the width of its column
abbrev pub row_bytes : Kind → (ℕ → ℕ) → (ℕ → ℤ) → ℕ → List ℕ
row_bytes k ws item n = joined (λ j. gap_before k j ++ justified_bytes k (ws j) (item j)) n

-- ---- All rows

-- the greatest width among the first r elements of a column
abbrev pub column_width : Kind → (ℕ → ℤ) → ℕ → ℕ
column_width k item zero = 0
column_width k item (suc r) = max (column_width k item r) (width k (item r))

-- m rows of n elements, a line each
abbrev pub plane_bytes : Kind → (ℕ → ℕ) → (ℕ → ℤ) → ℕ → ℕ → List ℕ
plane_bytes k ws item m n = joined (λ i. row_bytes k ws (λ j. item (i * n + j)) n ++ 10 ∷ []) m

-- an empty line where an axis of more than one index begins its next one: there is a row before
abbrev pub empty_line : ℕ → ℕ → List ℕ
empty_line l p = if nat_lt 0 p && nat_lt 1 l then 10 ∷ [] else []

-- the elements of an array of rank 2 or more from place p on, along the axes that are left
abbrev pub nest_bytes : Kind → (ℕ → ℕ) → (ℕ → ℤ) → List ℕ → ℕ → List ℕ
nest_bytes k ws item [] p = []
nest_bytes k ws item (n ∷ []) p = []
nest_bytes k ws item (m ∷ n ∷ []) p = plane_bytes k ws (λ q. item (p + q)) m n
nest_bytes k ws item (l ∷ m ∷ n ∷ ns) p = joined (λ i. empty_line l (p + i * product (m ∷ n ∷ ns)) ++ nest_bytes k ws item (m ∷ n ∷ ns) (p + i * product (m ∷ n ∷ ns))) l

-- ---- Of an array

-- the element at a place
abbrev pub cell_of : Array → ℕ → ℤ
cell_of a p = slice_index_or a.cells p (pos 0)

-- a column's width by a list; beyond it there is none
abbrev pub listed : List ℕ → ℕ → ℕ
listed ws j = slice_index_or ws j 0
