-- Facts of values, their order, their joins, and how often a fact can rise.
use Rattle.std.specs.Prelude.{◌≤◌, ℕ, ◌+◌, Bool, true, false, ◌&&◌, ◌||◌, List, [], ◌∷◌, Option, Some, None, is_none, length, nat_eq, if◌then◌else◌}
use Rattle.aplc_infer.specs.declared.fact.FactKind.{FactKind}
use Rattle.aplc_infer.specs.declared.fact.FactKind.TheVariants.{Bit, Num, Char, Mixed}
use Rattle.aplc_infer.specs.declared.fact.Inferred.{Inferred}
use Rattle.aplc_infer.specs.declared.fact.Inferred.TheVariants.{Unset, Of}

-- ---- The order

-- bits are numbers, and every kind lies below the mixed one
abbrev pub kind_below : FactKind → FactKind → Bool
kind_below Bit Bit = true
kind_below Bit Num = true
kind_below Num Num = true
kind_below Char Char = true
kind_below a Mixed = true
kind_below a b = false

-- a known length lies below an unknown one
abbrev pub length_below : Option ℕ → Option ℕ → Bool
length_below x None = true
length_below None (Some n) = false
length_below (Some m) (Some n) = nat_eq m n

abbrev pub lengths_below : List (Option ℕ) → List (Option ℕ) → Bool
lengths_below [] [] = true
lengths_below [] (y ∷ ys) = false
lengths_below (x ∷ xs) [] = false
lengths_below (x ∷ xs) (y ∷ ys) = length_below x y && lengths_below xs ys

-- a length for each axis, or a mixed rank, which is above all
abbrev pub shape_below : Option (List (Option ℕ)) → Option (List (Option ℕ)) → Bool
shape_below s None = true
shape_below None (Some ys) = false
shape_below (Some xs) (Some ys) = lengths_below xs ys

abbrev pub below : Inferred → Inferred → Bool
below Unset f = true
below (Of a s) Unset = false
below (Of a s) (Of b t) = kind_below a b && shape_below s t

-- ---- Joins

abbrev pub kind_join : FactKind → FactKind → FactKind
kind_join Bit Bit = Bit
kind_join Bit Num = Num
kind_join Num Bit = Num
kind_join Num Num = Num
kind_join Char Char = Char
kind_join a b = Mixed

-- the length that both are, where they are known and equal
abbrev pub length_join : Option ℕ → Option ℕ → Option ℕ
length_join None y = None
length_join (Some m) None = None
length_join (Some m) (Some n) = if nat_eq m n then Some m else None

abbrev pub lengths_join : List (Option ℕ) → List (Option ℕ) → List (Option ℕ)
lengths_join [] ys = []
lengths_join (x ∷ xs) [] = []
lengths_join (x ∷ xs) (y ∷ ys) = length_join x y ∷ lengths_join xs ys

abbrev pub shape_join : Option (List (Option ℕ)) → Option (List (Option ℕ)) → Option (List (Option ℕ))
shape_join None t = None
shape_join (Some xs) None = None
shape_join (Some xs) (Some ys) = if nat_eq (length xs) (length ys) then Some (lengths_join xs ys) else None

-- the least fact above both
abbrev pub join : Inferred → Inferred → Inferred
join Unset f = f
join (Of a s) Unset = Of a s
join (Of a s) (Of b t) = Of (kind_join a b) (shape_join s t)

-- ---- What is unset, what is mixed

abbrev pub is_mixed_kind : FactKind → Bool
is_mixed_kind Bit = false
is_mixed_kind Num = false
is_mixed_kind Char = false
is_mixed_kind Mixed = true

abbrev pub is_unset : Inferred → Bool
is_unset Unset = true
is_unset (Of a s) = false

-- the kind or the rank is mixed
abbrev pub is_mixed : Inferred → Bool
is_mixed Unset = false
is_mixed (Of a s) = is_mixed_kind a || is_none s

-- mixed in kind and in rank, which is above all
abbrev pub mixed : Inferred
mixed = Of Mixed None

abbrev pub mixed_if : Bool → Inferred → Inferred
mixed_if true f = mixed
mixed_if false f = f

-- what is mixed in kind or in rank is so in both
abbrev pub settled : Inferred → Inferred
settled f = mixed_if (is_mixed f) f

-- ---- How often a fact can rise

abbrev pub length_room : Option ℕ → ℕ
length_room None = 0
length_room (Some n) = 1

abbrev pub lengths_room : List (Option ℕ) → ℕ
lengths_room [] = 0
lengths_room (x ∷ xs) = length_room x + lengths_room xs

abbrev pub shape_room : Option (List (Option ℕ)) → ℕ
shape_room None = 0
shape_room (Some xs) = 1 + lengths_room xs

abbrev pub kind_room : FactKind → ℕ
kind_room Bit = 2
kind_room Num = 1
kind_room Char = 1
kind_room Mixed = 0

abbrev pub room : Inferred → ℕ
room Unset = 12
room (Of a s) = kind_room a + shape_room s

-- at most eight lengths
abbrev pub IsShort : Inferred → Type 0
IsShort Unset = Unit {0}
IsShort (Of a None) = Unit {0}
IsShort (Of a (Some xs)) = length xs ≤ 8
