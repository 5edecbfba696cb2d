-- Lists of numbers as a graph: row i lists where an edge leads from i.
use Rattle.std.specs.Prelude.{◌≡◌, ◌<◌, ◌+◌, ◌⊎◌, ℕ, Bool, true, false, not, List, [], ◌∷◌, length, map, flat_map, filter_map, Option, Some, None, Contains}
use Rattle.std.specs.List.{slice_get}
use Rattle.aplc_syntax.specs.declared.tree.Named.{Named}
use Rattle.aplc_names.specs.declared.outline.Mention.{Mention}
use Rattle.aplc_names.specs.declared.outline.Outline.{Outline}
use Rattle.aplc_names.specs.Tables.{first}
use Rattle.aplc_names.specs.Clashes.{IsHidden}

-- ---- Edges

abbrev pub row_or : Option (List ℕ) → List ℕ
row_or None = []
row_or (Some row) = row

abbrev pub row_of : List (List ℕ) → ℕ → List ℕ
row_of g i = row_or (slice_get g i)

-- a number stands in a row
abbrev pub Lists : List ℕ → ℕ → Type 0
Lists row j = (k : ℕ) × (slice_get row k ≡ Some j)

-- one edge or more lead from i to j
pub data Reaches (g : List (List ℕ)) : ℕ → ℕ → Type 0 where
  edge : {i j : ℕ} → Lists (row_of g i) j → Reaches g i j
  on : {i k j : ℕ} → Reaches g i k → Lists (row_of g k) j → Reaches g i j

-- each edge leads to a row
abbrev pub IsGraph : List (List ℕ) → Type 0
IsGraph g = (i j : ℕ) → Lists (row_of g i) j → j < length g

-- ---- Marks

abbrev pub IsMarked : List Bool → ℕ → Type 0
IsMarked marks j = slice_get marks j ≡ Some true

abbrev pub free_one : Bool → ℕ
free_one true = 0
free_one false = 1

-- how many places have no mark
abbrev pub unmarked : List Bool → ℕ
unmarked [] = 0
unmarked (b ∷ bs) = unmarked bs + free_one b

abbrev pub is_free : Option Bool → Bool
is_free None = false
is_free (Some b) = not b

abbrev pub is_set : Option Bool → Bool
is_set None = false
is_set (Some b) = b

-- the numbers of the first n entries of a row were marked and listed, unless they were marked before
pub record Spreads (row : List ℕ) (n : ℕ) (marks : List Bool) (todo : List ℕ) (after : List Bool) (waiting : List ℕ) : Type 0 where
  pub size : length after ≡ length marks
  pub kept : (j : ℕ) → IsMarked marks j → IsMarked after j
  pub reached : (i j : ℕ) → i < n → slice_get row i ≡ Some j → j < length marks → IsMarked after j
  pub only : (j : ℕ) → IsMarked after j → IsMarked marks j ⊎ Lists row j
  pub stays : (j : ℕ) → Contains todo j → Contains waiting j
  pub fresh : (j : ℕ) → IsMarked after j → IsMarked marks j ⊎ Contains waiting j
  pub listed : (j : ℕ) → Contains waiting j → Contains todo j ⊎ IsMarked after j
  pub count : unmarked after + length waiting ≡ unmarked marks + length todo

-- so the whole row, where b is true; else the marks stay
abbrev pub Adds : Bool → List ℕ → List Bool → List ℕ → List Bool → List ℕ → Type 0
Adds true row marks todo after waiting = Spreads row (length row) marks todo after waiting
Adds false row marks todo after waiting = after ≡ marks

-- the marks are what is reached from a row
pub record IsReach (g : List (List ℕ)) (from : ℕ) (marks : List Bool) : Type 0 where
  pub size : length marks ≡ length g
  pub sound : (j : ℕ) → IsMarked marks j → Reaches g from j
  pub complete : (j : ℕ) → Reaches g from j → IsMarked marks j

-- the marks of each row
pub record AreReach (g : List (List ℕ)) (rows : List (List Bool)) : Type 0 where
  pub size : length rows ≡ length g
  pub each : (i : ℕ) (row : List Bool) → slice_get rows i ≡ Some row → IsReach g i row

-- ---- Functions

-- the functions that a function names in its lines
abbrev pub callees : List Named → Outline → List ℕ
callees hs f = filter_map (λ (m : Mention). first m.name.0 hs) f.mentions

abbrev pub graph : List Named → List Outline → List (List ℕ)
graph hs fs = map (callees hs) fs

abbrev pub locals_of : Outline → List Named
locals_of f = f.locals

abbrev pub all_locals : List Outline → List Named
all_locals fs = flat_map locals_of fs

-- the places where the local names of a function first stand in a list
abbrev pub places_in : List Named → Outline → List ℕ
places_in all f = filter_map (λ (x : Named). first x.name.0 all) f.locals

abbrev pub ids : List Named → List Outline → List (List ℕ)
ids all fs = map (places_in all) fs

-- ---- Hidden names

-- place p is listed for a row that leads to `to`
pub record IsListed (rows : List (List Bool)) (lists : List (List ℕ)) (to n p : ℕ) : Type 0 where
  pub index : ℕ
  pub within : index < n
  pub row : List Bool
  pub found : slice_get rows index ≡ Some row
  pub leads : IsMarked row to
  pub stands : Lists (row_of lists index) p

-- the marks are the places that are listed for the first n rows that lead to `to`
pub record Hides (rows : List (List Bool)) (lists : List (List ℕ)) (to n size : ℕ) (marks : List Bool) : Type 0 where
  pub long : length marks ≡ size
  pub sound : (p : ℕ) → IsMarked marks p → IsListed rows lists to n p
  pub complete : (p : ℕ) → IsListed rows lists to n p → p < size → IsMarked marks p

abbrev pub is_set_at : Option ℕ → List Bool → Bool
is_set_at None marks = false
is_set_at (Some p) marks = is_set (slice_get marks p)

-- the marks tell which names are hidden in function i
pub record Tells (hs : List Named) (fs : List Outline) (i : ℕ) (all : List Named) (marks : List Bool) : Type 0 where
  pub sound : (n : ℕ) → is_set_at (first n all) marks ≡ true → IsHidden hs fs i n
  pub complete : (n : ℕ) → IsHidden hs fs i n → is_set_at (first n all) marks ≡ true
