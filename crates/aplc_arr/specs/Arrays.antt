-- Arrays, the row-major order of their elements, and which arrays the language has.
use Rattle.std.specs.Prelude.{◌≡◌, ℕ, ◌+◌, ◌*◌, ◌/◌, ◌%◌, ◌<◌, ◌≤◌, List, [], ◌∷◌, ℤ, pos, negsuc, length, slice_index_or, All, Bool, true, false, nat_le, nat_eq, ◌&&◌, if◌then◌else◌, Result, Ok, Err}
use lib.Utf8.{scalar}
use Rattle.aplc_scalar.specs.declared.kind.Kind.{Kind}
use Rattle.aplc_scalar.specs.declared.kind.Kind.TheVariants.{Num, Char}
use Rattle.aplc_scalar.specs.declared.kind.FaultKind.{FaultKind}
use Rattle.aplc_scalar.specs.declared.kind.FaultKind.TheVariants.{Length, Limit}
use Rattle.aplc_scalar.specs.Scalar.{in_range}

-- what the elements are, a length for each axis, and the elements in row-major order; characters stand by their codes
pub record Array : Type 0 where
  pub kind : Kind
  pub shape : List ℕ
  pub cells : List ℤ

-- the number of axes; a scalar has none
abbrev pub rank : Array → ℕ
rank a = length a.shape

-- the number of elements that a shape has room for
abbrev pub product : List ℕ → ℕ
product [] = 1
product (n ∷ ns) = n * product ns

-- ---- Row-major order

-- an index for each axis, each below its length
abbrev pub IsIndexOf : List ℕ → List ℕ → Type 0
IsIndexOf [] [] = Unit {0}
IsIndexOf [] (i ∷ is) = ⊥
IsIndexOf (n ∷ ns) [] = ⊥
IsIndexOf (n ∷ ns) (i ∷ is) = (i < n) × IsIndexOf ns is

-- the place of a multi-index: the last axis runs fastest
abbrev pub place : List ℕ → List ℕ → ℕ
place [] is = 0
place (n ∷ ns) [] = 0
place (n ∷ ns) (i ∷ is) = i * product ns + place ns is

-- the multi-index at a place
abbrev pub index_at : List ℕ → ℕ → List ℕ
index_at [] p = []
index_at (n ∷ ns) p = p / product ns ∷ index_at ns (p % product ns)

-- what stands where nothing else does: 0, or a blank
abbrev pub fill : Kind → ℤ
fill Num = pos 0
fill Char = pos 32

-- the element at a multi-index
abbrev pub at : Array → List ℕ → ℤ
at a is = slice_index_or a.cells (place a.shape is) (fill a.kind)

-- the element of a scalar, and the first one of another array
abbrev pub first_of : Array → ℤ
first_of a = slice_index_or a.cells 0 (fill a.kind)

-- ---- Scalars among vectors

abbrev pub vector_shape : List ℕ → List ℕ
vector_shape [] = 1 ∷ []
vector_shape (n ∷ ns) = n ∷ ns

-- a scalar as a vector of one element
abbrev pub as_vector : Array → Array
as_vector b = record b { shape = vector_shape b.shape }

-- the element of a scalar wherever it is asked for, that of another array at the multi-index
abbrev pub at_or_scalar : Array → List ℕ → ℤ
at_or_scalar a is = if nat_eq (rank a) 0 then first_of a else at a is

-- ---- Tests

abbrev pub shape_eq : List ℕ → List ℕ → Bool
shape_eq [] [] = true
shape_eq [] (n ∷ ns) = false
shape_eq (m ∷ ms) [] = false
shape_eq (m ∷ ms) (n ∷ ns) = nat_eq m n && shape_eq ms ns

abbrev pub kind_eq : Kind → Kind → Bool
kind_eq Num Num = true
kind_eq Num Char = false
kind_eq Char Num = false
kind_eq Char Char = true

abbrev pub is_numbers : Array → Bool
is_numbers a = kind_eq a.kind Num

-- ---- Limits

-- the greatest length, and the greatest number of elements
abbrev pub count_limit : ℕ
count_limit = 2147483647

-- the greatest rank
abbrev pub rank_limit : ℕ
rank_limit = 8

abbrev pub lengths_fit : List ℕ → Bool
lengths_fit [] = true
lengths_fit (n ∷ ns) = nat_le n count_limit && lengths_fit ns

-- neither a length nor the number of elements is too great
abbrev pub shape_fits : List ℕ → Bool
shape_fits ns = lengths_fit ns && nat_le (product ns) count_limit

-- a number of the range, or the code of a Unicode scalar value
abbrev pub is_cell : Kind → ℤ → Bool
is_cell Num z = in_range z
is_cell Char (pos n) = scalar n
is_cell Char (negsuc n) = false

-- an array of the language
pub record IsArray (a : Array) : Type 0 where
  pub whole : length a.cells ≡ product a.shape
  pub fits : shape_fits a.shape ≡ true
  pub ranked : rank a ≤ rank_limit
  pub cells : All (λ z. is_cell a.kind z ≡ true) a.cells

-- ---- Making one

-- LIMIT where the shape is too great, else LENGTH where it has not room for just these elements
abbrev pub array_or_fault : Kind → List ℕ → List ℤ → Result Array FaultKind
array_or_fault k ns zs = if shape_fits ns then (if nat_eq (length zs) (product ns) then Ok record { kind = k; shape = ns; cells = zs } else Err Length) else Err Limit
