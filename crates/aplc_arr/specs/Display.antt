-- What an array is displayed as.
use Rattle.std.specs.Prelude.{ℕ, zero, suc, ◌+◌, ◌-◌, ◌*◌, ◌/◌, List, [], ◌∷◌, ◌++◌, ℤ, pos, negsuc, decimal, length, map, flat_map, replicate, take, drop, max, fold, unsigned_abs, slice_index_or, nat_eq, if◌then◌else◌, encode_utf8}
use Rattle.aplc_scalar.specs.declared.kind.Kind.{Kind}
use Rattle.aplc_scalar.specs.declared.kind.Kind.TheVariants.{Num, Char}
use Rattle.aplc_arr.specs.Arrays.{Array, product, index_at}

-- ---- One element

-- decimal digits, behind a high minus where the number is negative
abbrev pub number_characters : ℤ → List ℕ
number_characters (pos n) = decimal n
number_characters (negsuc n) = 175 ∷ decimal (n + 1)

-- the text of an element: its number, or the character itself
abbrev pub element_text : Kind → ℤ → List ℕ
element_text Num z = number_characters z
element_text Char z = unsigned_abs z ∷ []

-- ---- One row

-- what parts the elements of a row: a blank between numbers, nothing between characters
abbrev pub gap : Kind → List ℕ
gap Num = 32 ∷ []
gap Char = []

abbrev pub parted : List ℕ → List (List ℕ) → List ℕ
parted g [] = []
parted g (t ∷ []) = t
parted g (t ∷ u ∷ us) = t ++ g ++ parted g (u ∷ us)

-- blanks before it, up to a width
abbrev pub justified : ℕ → List ℕ → List ℕ
justified w t = replicate (w - length t) 32 ++ t

abbrev pub each_justified : List ℕ → List (List ℕ) → List (List ℕ)
each_justified (w ∷ ws) (t ∷ ts) = justified w t ∷ each_justified ws ts
each_justified _ _ = []

-- ---- Rank 2 and more

-- m rows of n texts each
abbrev pub rows_of : ℕ → ℕ → List (List ℕ) → List (List (List ℕ))
rows_of n zero ts = []
rows_of n (suc m) ts = take n ts ∷ rows_of n m (drop n ts)

abbrev pub wider : List ℕ → List (List ℕ) → List ℕ
wider (w ∷ ws) (t ∷ ts) = max w (length t) ∷ wider ws ts
wider _ _ = []

-- the width of each column: its widest text in the rows of all planes
abbrev pub widths : ℕ → List (List (List ℕ)) → List ℕ
widths n rows = fold wider (replicate n 0) rows

-- at how many axes two multi-indices differ
abbrev pub differing : List ℕ → List ℕ → ℕ
differing (i ∷ is) (j ∷ js) = (if nat_eq i j then 0 else 1) + differing is js
differing _ _ = 0

-- before plane p, which is not the first, an empty line for each axis whose index has moved; outer are the lengths of
-- all axes but the last two
abbrev pub empty_lines : List ℕ → ℕ → List ℕ
empty_lines outer zero = []
empty_lines outer (suc p) = replicate (differing (index_at outer p) (index_at outer (suc p))) 10

-- the lines from row r on, where each plane has m rows; empty lines stand before the first row of a plane
abbrev pub lines_of : List ℕ → ℕ → ℕ → List (List ℕ) → List ℕ
lines_of outer m r [] = []
lines_of outer m r (t ∷ ts) = plane_start (index_at (outer ++ m ∷ []) r) ++ t ++ 10 ∷ lines_of outer m (r + 1) ts
  where
    plane_start : List ℕ → List ℕ
    plane_start is = if nat_eq (slice_index_or is (length outer) 0) 0 then empty_lines outer (r / m) else []

-- the planes of m rows of n texts each; each text is justified to the width of its column
abbrev pub planes : Kind → List ℕ → ℕ → ℕ → List (List ℕ) → List ℕ
planes k outer m n ts =
    let rows = rows_of n (product outer * m) ts in
    lines_of outer m 0 (map (λ row. parted (gap k) (each_justified (widths n rows) row)) rows)

-- ---- Every rank

-- the texts of the elements laid out by the lengths outer and then the others: a scalar or a vector is one line, even
-- where it has no element; from rank 2 on each row is a line, and an array without elements has none
abbrev pub layout : Kind → List ℕ → List ℕ → List (List ℕ) → List ℕ
layout k outer [] ts = parted (gap k) ts ++ 10 ∷ []
layout k outer (n ∷ []) ts = parted (gap k) ts ++ 10 ∷ []
layout k outer (m ∷ n ∷ []) ts = if nat_eq (length ts) 0 then [] else planes k outer m n ts
layout k outer (l ∷ m ∷ n ∷ ns) ts = layout k (outer ++ l ∷ []) (m ∷ n ∷ ns) ts

-- the characters that display an array, line feeds among them
abbrev pub characters : Array → List ℕ
characters a = layout a.kind [] a.shape (map (element_text a.kind) a.cells)

-- the bytes that display an array: its characters in UTF-8
abbrev pub shown : Array → List ℕ
shown a = flat_map encode_utf8 (characters a)
