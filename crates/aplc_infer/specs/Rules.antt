-- The typing rules of the functions: a wrapper for what is unset or mixed, and rules on what is known.
use Rattle.std.specs.Prelude.{ℕ, zero, suc, ◌+◌, ◌*◌, min, Bool, true, false, ◌&&◌, ◌||◌, List, [], ◌∷◌, ◌++◌, Option, Some, None, ℤ, pos, negsuc, unsigned_abs, length, map, drop, remove, slice_set, nat_eq, nat_le, nat_lt, if◌then◌else◌, Result, Ok, Err}
use Rattle.std.specs.List.{list_all}
use mathlib.Core.List.{reverse}
use Rattle.aplc_scalar.specs.declared.function.ScalarFn.{ScalarFn}
use Rattle.aplc_scalar.specs.declared.function.ScalarFn.TheVariants as f
use Rattle.aplc_scalar.specs.Scalar.{is_monadic, is_dyadic}
use Rattle.aplc_syntax.specs.declared.tree.Primitive.{Primitive}
use Rattle.aplc_syntax.specs.declared.tree.Primitive.TheVariants as pr
use Rattle.aplc_syntax.specs.declared.tree.Axis.{Axis}
use Rattle.aplc_syntax.specs.PlainTrees.{Tree, Numbers}
use Rattle.aplc_arr.specs.Arrays.{count_limit, rank_limit}
use Rattle.aplc_arr.specs.Delayed.{first_n}
use Rattle.aplc_arr.specs.Each.{is_equality, ranks_suit}
use Rattle.aplc_arr.specs.Structure.{from_origin, none_below, axes_in, all_below_stand, stands_in}
use Rattle.aplc_arr.specs.Selection.{ranks_suit_take}
use Rattle.aplc_names.specs.Primitives.{axis_in}
use Rattle.aplc_infer.specs.declared.fact.FactKind.{FactKind}
use Rattle.aplc_infer.specs.declared.fact.FactKind.TheVariants.{Bit, Num, Char, Mixed}
use Rattle.aplc_infer.specs.declared.fact.Inferred.{Inferred}
use Rattle.aplc_infer.specs.declared.fact.Inferred.TheVariants.{Unset, Of}
use Rattle.aplc_infer.specs.declared.rule_break.RuleBreak.{RuleBreak}
use Rattle.aplc_infer.specs.declared.rule_break.RuleBreak.TheVariants as breaks
use Rattle.aplc_infer.specs.Facts.{mixed, is_unset, is_mixed, is_mixed_kind, length_join}

-- ---- Why a node is refused

-- the number of the refusal
abbrev pub number_of : RuleBreak → ℕ
number_of breaks.Kind = 17
number_of breaks.Rank = 18
number_of breaks.Reshape = 19
number_of breaks.Transpose = 20
number_of breaks.Declared = 21
number_of breaks.Axis = 22

-- a fact, or why there is none
abbrev pub Ruled : Type 0
Ruled = Result Inferred RuleBreak

-- a node that is refused is mixed
abbrev pub fact_of : Ruled → Inferred
fact_of (Ok x) = x
fact_of (Err e) = mixed

-- ---- What a fact is to a rule

-- unset; mixed in kind or rank; or a plain kind and a length for each axis
pub data Sort : Type 0 where
  Missing : Sort
  Muddled : Sort
  Clear : FactKind → List (Option ℕ) → Sort

abbrev pub sorted : Bool → FactKind → Option (List (Option ℕ)) → Sort
sorted true a s = Muddled
sorted false a None = Muddled
sorted false a (Some xs) = Clear a xs

abbrev pub sort : Inferred → Sort
sort Unset = Missing
sort (Of a s) = sorted (is_mixed_kind a) a s

-- a rule of one argument
abbrev pub strict1 : (FactKind → List (Option ℕ) → Ruled) → Sort → Ruled
strict1 rule Missing = Ok Unset
strict1 rule Muddled = Ok mixed
strict1 rule (Clear a xs) = rule a xs

-- a rule of two
abbrev pub strict2 : (FactKind → List (Option ℕ) → FactKind → List (Option ℕ) → Ruled) → Sort → Sort → Ruled
strict2 rule Missing t = Ok Unset
strict2 rule Muddled Missing = Ok Unset
strict2 rule Muddled Muddled = Ok mixed
strict2 rule Muddled (Clear b ys) = Ok mixed
strict2 rule (Clear a xs) Missing = Ok Unset
strict2 rule (Clear a xs) Muddled = Ok mixed
strict2 rule (Clear a xs) (Clear b ys) = rule a xs b ys

-- some entry of an index list that is not left out has this
abbrev pub any_fact : (Inferred → Bool) → List (Option Inferred) → Bool
any_fact q [] = false
any_fact q (None ∷ fs) = any_fact q fs
any_fact q (Some x ∷ fs) = q x || any_fact q fs

-- whether an entry is unset, whether one is mixed, and the array's own fact
abbrev pub strict_by : Bool → Bool → (FactKind → List (Option ℕ) → Ruled) → Sort → Ruled
strict_by true m rule s = Ok Unset
strict_by false m rule Missing = Ok Unset
strict_by false m rule Muddled = Ok mixed
strict_by false true rule (Clear a xs) = Ok mixed
strict_by false false rule (Clear a xs) = rule a xs

-- a rule of an array and the entries of an index list
abbrev pub strict_list : (FactKind → List (Option ℕ) → Ruled) → Sort → List (Option Inferred) → Ruled
strict_list rule s fs = strict_by (any_fact is_unset fs) (any_fact is_mixed fs) rule s

-- ---- What rules are written with

abbrev pub known : FactKind → List (Option ℕ) → Ruled
known a xs = Ok (Of a (Some xs))

-- what must hold, or else it is broken
abbrev pub wants : Bool → RuleBreak → Ruled → Ruled
wants true e rest = rest
wants false e rest = Err e

-- the axis that is meant, if the argument has it
abbrev pub wants_axis : Option ℕ → (ℕ → Ruled) → Ruled
wants_axis None next = Err breaks.Axis
wants_axis (Some i) next = next i

abbrev pub is_numeric : FactKind → Bool
is_numeric Bit = true
is_numeric Num = true
is_numeric Char = false
is_numeric Mixed = false

-- a length is known where arrays can have it
abbrev pub within_limit : ℕ → Option ℕ
within_limit n = if nat_le n count_limit then Some n else None

abbrev pub unknown : ℕ → List (Option ℕ)
unknown zero = []
unknown (suc n) = None ∷ unknown n

-- a scalar as a vector of one element
abbrev pub vector_lengths : List (Option ℕ) → List (Option ℕ)
vector_lengths [] = Some 1 ∷ []
vector_lengths (x ∷ xs) = x ∷ xs

abbrev pub both_bit : FactKind → FactKind → FactKind
both_bit Bit Bit = Bit
both_bit a b = Num

-- ---- Literals

-- the numbers of an argument, where it is a literal
abbrev pub Literal : Type 0
Literal = Option (List ℤ)

abbrev pub literal_of : Tree → Literal
literal_of (Numbers i p zs) = Some zs
literal_of t = None

abbrev pub is_bit : ℤ → Bool
is_bit (pos n) = nat_lt n 2
is_bit (negsuc n) = false

abbrev pub literal_kind : Bool → FactKind
literal_kind true = Bit
literal_kind false = Num

-- one element alone is a scalar, and others are a vector
abbrev pub literal_lengths : {A : Type 0} → List A → List (Option ℕ)
literal_lengths (x ∷ []) = []
literal_lengths xs = within_limit (length xs) ∷ []

abbrev pub numbers_fact : List ℤ → Inferred
numbers_fact zs = Of (literal_kind (list_all is_bit zs)) (Some (literal_lengths zs))

abbrev pub text_fact : List ℕ → Inferred
text_fact cs = Of Char (Some (literal_lengths cs))

-- a line of the input: characters, or numbers
abbrev pub input_text_fact : Inferred
input_text_fact = Of Char (Some (None ∷ []))

abbrev pub input_numbers_fact : Inferred
input_numbers_fact = Of Num (Some (None ∷ []))

-- the number of a line
abbrev pub label_fact : Inferred
label_fact = Of Num (Some [])

-- ---- Scalar functions

-- `-` may leave the bits, and `~` gives them
abbrev pub scalar_monadic_rule : ScalarFn → FactKind → List (Option ℕ) → Ruled
scalar_monadic_rule f.Sub a xs = wants (is_numeric a) breaks.Kind (known Num xs)
scalar_monadic_rule f.Not a xs = wants (is_numeric a) breaks.Kind (known Bit xs)
scalar_monadic_rule g a xs = wants (is_numeric a && is_monadic g) breaks.Kind (known a xs)

abbrev pub is_known : Option ℕ → Bool
is_known None = false
is_known (Some n) = true

abbrev pub all_known : List (Option ℕ) → Bool
all_known [] = true
all_known (x ∷ xs) = is_known x && all_known xs

abbrev pub is_one : Option ℕ → Bool
is_one None = false
is_one (Some n) = nat_eq n 1

-- one element, whatever the rank
abbrev pub all_one : List (Option ℕ) → Bool
all_one [] = true
all_one (x ∷ xs) = is_one x && all_one xs

abbrev pub same_known : Option ℕ → Option ℕ → Bool
same_known None y = false
same_known (Some m) None = false
same_known (Some m) (Some n) = nat_eq m n

abbrev pub all_same : List (Option ℕ) → List (Option ℕ) → Bool
all_same [] [] = true
all_same [] (y ∷ ys) = false
all_same (x ∷ xs) [] = false
all_same (x ∷ xs) (y ∷ ys) = same_known x y && all_same xs ys

-- whether all lengths are known, whether they are the same, whether the left array has one element, whether the right one
abbrev pub met_of : Bool → Bool → Bool → Bool → List (Option ℕ) → List (Option ℕ) → List (Option ℕ)
met_of false same l r xs ys = unknown (length xs)
met_of true true l r xs ys = xs
met_of true false true r xs ys = ys
met_of true false false true xs ys = xs
met_of true false false false xs ys = unknown (length xs)

-- of two arrays of one rank: an array of one element takes the other's lengths
abbrev pub met_lengths : List (Option ℕ) → List (Option ℕ) → List (Option ℕ)
met_lengths xs ys = met_of (all_known xs && all_known ys) (all_same xs ys) (all_one xs) (all_one ys) xs ys

-- a scalar takes the other's lengths
abbrev pub scalar_lengths : List (Option ℕ) → List (Option ℕ) → List (Option ℕ)
scalar_lengths [] ys = ys
scalar_lengths (x ∷ xs) [] = x ∷ xs
scalar_lengths (x ∷ xs) (y ∷ ys) = met_lengths (x ∷ xs) (y ∷ ys)

-- comparisons and functions of truth values give bits, and some keep them where both arguments are bits
abbrev pub scalar_kind : ScalarFn → FactKind → FactKind → FactKind
scalar_kind f.Add a b = Num
scalar_kind f.Sub a b = Num
scalar_kind f.Mul a b = both_bit a b
scalar_kind f.Max a b = both_bit a b
scalar_kind f.Min a b = both_bit a b
scalar_kind f.Residue a b = both_bit a b
scalar_kind g a b = Bit

-- `=` and `≠` take everything, and the other functions numbers
abbrev pub takes_kinds : ScalarFn → FactKind → FactKind → Bool
takes_kinds g a b = is_equality g || (is_numeric a && is_numeric b && is_dyadic g)

abbrev pub scalar_dyadic_rule : ScalarFn → FactKind → List (Option ℕ) → FactKind → List (Option ℕ) → Ruled
scalar_dyadic_rule g a xs b ys =
    wants (takes_kinds g a b) breaks.Kind
    (wants (ranks_suit (length xs) (length ys)) breaks.Rank
    (known (scalar_kind g a b) (scalar_lengths xs ys)))

-- ---- Shape, ravel, the index generator

abbrev pub shape_rule : FactKind → List (Option ℕ) → Ruled
shape_rule a xs = known Num (within_limit (length xs) ∷ [])

abbrev pub times : Option ℕ → Option ℕ → Option ℕ
times None y = None
times (Some m) None = None
times (Some m) (Some n) = Some (m * n)

-- the number of elements, where all lengths are known
abbrev pub product_of : List (Option ℕ) → Option ℕ
product_of [] = Some 1
product_of (x ∷ xs) = times x (product_of xs)

abbrev pub limited : Option ℕ → Option ℕ
limited None = None
limited (Some n) = within_limit n

abbrev pub ravel_rule : FactKind → List (Option ℕ) → Ruled
ravel_rule a xs = known a (limited (product_of xs) ∷ [])

-- as many as the one number of a literal says
abbrev pub iota_length : Literal → Option ℕ
iota_length (Some (pos n ∷ [])) = within_limit n
iota_length _ = None

abbrev pub iota_rule : Literal → FactKind → List (Option ℕ) → Ruled
iota_rule lit a xs = wants (is_numeric a) breaks.Kind (wants (nat_le (length xs) 1) breaks.Rank (known Num (iota_length lit ∷ [])))

-- ---- Reversal and rotation, transposition

-- along an axis, which a name may say; without a name a scalar is allowed
abbrev pub reverse_rule : ℤ → Axis → FactKind → List (Option ℕ) → Ruled
reverse_rule o x a xs = wants_axis (axis_in o x (length xs)) (λ i. known a xs)

abbrev pub rotate_rule : ℤ → Axis → FactKind → List (Option ℕ) → FactKind → List (Option ℕ) → Ruled
rotate_rule o x a xs b ys =
    wants (is_numeric a) breaks.Kind
    (wants (nat_eq (length xs) 0) breaks.Rank
    (wants_axis (axis_in o x (length ys)) (λ i. known b ys)))

abbrev pub transpose_rule : FactKind → List (Option ℕ) → Ruled
transpose_rule a xs = known a (reverse xs)

abbrev pub least_of : Option ℕ → Option ℕ → Option ℕ
least_of None y = None
least_of (Some m) None = None
least_of (Some m) (Some n) = Some (min m n)

-- the least of the lengths that fall on axis j, where all of them are known
abbrev pub least_known : ℕ → List ℕ → List (Option ℕ) → Option ℕ
least_known j (i ∷ is) (y ∷ ys) = if nat_eq i j then (if stands_in j is then least_of y (least_known j is ys) else y) else least_known j is ys
least_known j _ _ = None

-- by these axes, counted from 0
abbrev pub moved_lengths : List ℕ → List (Option ℕ) → List (Option ℕ)
moved_lengths axes ys = first_n (λ j. least_known j axes ys) (axes_in axes)

abbrev pub transpose_by : ℤ → List ℤ → FactKind → List (Option ℕ) → Ruled
transpose_by o zs b ys =
    let axes = map (from_origin o) zs in
    wants (nat_eq (length zs) (length ys)) breaks.Rank
    (wants (none_below o zs && all_below_stand (axes_in axes) axes) breaks.Axis
    (known b (moved_lengths axes ys)))

-- the axes stand in the source, one for each axis of the right argument, and are all from the first to some last one
abbrev pub transpose_to_rule : ℤ → Literal → FactKind → List (Option ℕ) → FactKind → List (Option ℕ) → Ruled
transpose_to_rule o None a xs b ys = Err breaks.Transpose
transpose_to_rule o (Some zs) a xs b ys = transpose_by o zs b ys

-- ---- Reshape, take and drop

abbrev pub literal_length : ℤ → Option ℕ
literal_length (pos n) = within_limit n
literal_length (negsuc n) = None

-- the lengths that the numbers of a literal give, or so many unknown ones
abbrev pub lengths_given : (ℤ → Option ℕ) → Literal → ℕ → List (Option ℕ)
lengths_given q None n = unknown n
lengths_given q (Some zs) n = if nat_eq (length zs) n then map q zs else unknown n

-- how many numbers an argument of rank 0 or 1 has
abbrev pub count_in : List (Option ℕ) → Option ℕ
count_in [] = Some 1
count_in (x ∷ xs) = x

abbrev pub reshape_to : Literal → FactKind → Option ℕ → Ruled
reshape_to lit b None = Err breaks.Reshape
reshape_to lit b (Some n) = wants (nat_le n rank_limit) breaks.Rank (known b (lengths_given literal_length lit n))

abbrev pub reshape_rule : Literal → FactKind → List (Option ℕ) → FactKind → List (Option ℕ) → Ruled
reshape_rule lit a xs b ys = wants (is_numeric a) breaks.Kind (wants (nat_le (length xs) 1) breaks.Rank (reshape_to lit b (count_in xs)))

-- a negative number takes from the end
abbrev pub magnitude_length : ℤ → Option ℕ
magnitude_length z = within_limit (unsigned_abs z)

abbrev pub take_rule : Literal → FactKind → List (Option ℕ) → FactKind → List (Option ℕ) → Ruled
take_rule lit a xs b ys =
    wants (is_numeric a) breaks.Kind
    (wants (ranks_suit_take (length xs) (length ys)) breaks.Rank
    (known b (lengths_given magnitude_length lit (length (vector_lengths ys)))))

abbrev pub drop_rule : FactKind → List (Option ℕ) → FactKind → List (Option ℕ) → Ruled
drop_rule a xs b ys =
    wants (is_numeric a) breaks.Kind
    (wants (ranks_suit_take (length xs) (length ys)) breaks.Rank
    (known b (unknown (length (vector_lengths ys)))))

-- ---- Replicate and expand

-- along an axis of the right argument, of which a scalar has one, with this length from then on
abbrev pub along_rule : ℤ → Axis → Option ℕ → FactKind → List (Option ℕ) → FactKind → List (Option ℕ) → Ruled
along_rule o x n a xs b ys =
    wants (is_numeric a) breaks.Kind
    (wants (nat_le (length xs) 1) breaks.Rank
    (wants_axis (axis_in o x (length (vector_lengths ys))) (λ i. known b (slice_set (vector_lengths ys) i n))))

abbrev pub replicate_rule : ℤ → Axis → FactKind → List (Option ℕ) → FactKind → List (Option ℕ) → Ruled
replicate_rule o x a xs b ys = along_rule o x None a xs b ys

-- the length of a vector on the left
abbrev pub expand_length : List (Option ℕ) → Option ℕ
expand_length [] = None
expand_length (x ∷ xs) = x

abbrev pub expand_rule : ℤ → Axis → FactKind → List (Option ℕ) → FactKind → List (Option ℕ) → Ruled
expand_rule o x a xs b ys = along_rule o x (expand_length xs) a xs b ys

-- ---- Catenation, index-of, membership

abbrev pub sum_length : Option ℕ → Option ℕ → Option ℕ
sum_length None y = None
sum_length (Some m) None = None
sum_length (Some m) (Some n) = within_limit (m + n)

-- beside a scalar, which counts 1, the last length alone is known
abbrev pub beside_scalar : List (Option ℕ) → List (Option ℕ)
beside_scalar [] = Some 2 ∷ []
beside_scalar (x ∷ []) = sum_length x (Some 1) ∷ []
beside_scalar (x ∷ y ∷ ys) = None ∷ beside_scalar (y ∷ ys)

-- of one rank: the last lengths are added, the others must be equal
abbrev pub beside : List (Option ℕ) → List (Option ℕ) → List (Option ℕ)
beside [] ys = []
beside (x ∷ xs) [] = unknown (length (x ∷ xs))
beside (x ∷ []) (y ∷ ys) = sum_length x y ∷ []
beside (x ∷ z ∷ xs) (y ∷ ys) = length_join x y ∷ beside (z ∷ xs) ys

abbrev pub catenate_lengths : List (Option ℕ) → List (Option ℕ) → List (Option ℕ)
catenate_lengths [] ys = beside_scalar ys
catenate_lengths (x ∷ xs) [] = beside_scalar (x ∷ xs)
catenate_lengths (x ∷ xs) (y ∷ ys) = beside (x ∷ xs) (y ∷ ys)

-- both are characters, or both are numbers
abbrev pub kinds_join : FactKind → FactKind → Bool
kinds_join Char Char = true
kinds_join a b = is_numeric a && is_numeric b

abbrev pub joined_kind : FactKind → FactKind → FactKind
joined_kind Char b = Char
joined_kind a b = both_bit a b

abbrev pub catenate_rule : FactKind → List (Option ℕ) → FactKind → List (Option ℕ) → Ruled
catenate_rule a xs b ys =
    wants (kinds_join a b) breaks.Kind
    (wants (ranks_suit (length xs) (length ys)) breaks.Rank
    (known (joined_kind a b) (catenate_lengths xs ys)))

abbrev pub index_of_rule : FactKind → List (Option ℕ) → FactKind → List (Option ℕ) → Ruled
index_of_rule a xs b ys = wants (nat_eq (length xs) 1) breaks.Rank (known Num ys)

abbrev pub member_rule : FactKind → List (Option ℕ) → FactKind → List (Option ℕ) → Ruled
member_rule a xs b ys = known Bit xs

-- ---- Operators

-- the functions of which a fold of bits is a bit, how many there may be
abbrev pub reduced_kind : ScalarFn → FactKind → FactKind
reduced_kind f.Add a = Num
reduced_kind f.Sub a = Num
reduced_kind f.Max a = Num
reduced_kind f.Min a = Num
reduced_kind g a = both_bit a a

-- and those where there is one at least
abbrev pub scanned_kind : ScalarFn → FactKind → FactKind
scanned_kind f.Add a = Num
scanned_kind f.Sub a = Num
scanned_kind g a = both_bit a a

abbrev pub reduce_rule : ℤ → ScalarFn → Axis → FactKind → List (Option ℕ) → Ruled
reduce_rule o g x a xs = wants (is_numeric a && is_dyadic g) breaks.Kind (wants_axis (axis_in o x (length xs)) (λ i. known (reduced_kind g a) (remove xs i)))

abbrev pub scan_rule : ℤ → ScalarFn → Axis → FactKind → List (Option ℕ) → Ruled
scan_rule o g x a xs = wants (is_numeric a && is_dyadic g) breaks.Kind (wants_axis (axis_in o x (length xs)) (λ i. known (scanned_kind g a) xs))

abbrev pub outer_rule : ScalarFn → FactKind → List (Option ℕ) → FactKind → List (Option ℕ) → Ruled
outer_rule g a xs b ys =
    wants (takes_kinds g a b) breaks.Kind
    (wants (nat_le (length xs + length ys) rank_limit) breaks.Rank
    (known (scalar_kind g a b) (xs ++ ys)))

-- all lengths but the last
abbrev pub front_lengths : List (Option ℕ) → List (Option ℕ)
front_lengths [] = []
front_lengths (x ∷ []) = []
front_lengths (x ∷ y ∷ ys) = x ∷ front_lengths (y ∷ ys)

-- the axes that do not meet
abbrev pub inner_lengths : List (Option ℕ) → List (Option ℕ) → List (Option ℕ)
inner_lengths xs ys = front_lengths xs ++ drop 1 ys

abbrev pub inner_rule : ScalarFn → ScalarFn → FactKind → List (Option ℕ) → FactKind → List (Option ℕ) → Ruled
inner_rule h g a xs b ys =
    wants (is_numeric a && is_numeric b && is_dyadic h && is_dyadic g) breaks.Kind
    (wants (nat_le (length (inner_lengths xs ys)) rank_limit) breaks.Rank
    (known (reduced_kind h (scalar_kind g a b)) (inner_lengths xs ys)))

-- ---- Each function, under the index origin o

abbrev pub monadic_rule : ℤ → Primitive → Literal → FactKind → List (Option ℕ) → Ruled
monadic_rule o (pr.Scalar g) lit a xs = scalar_monadic_rule g a xs
monadic_rule o pr.Shape lit a xs = shape_rule a xs
monadic_rule o pr.Ravel lit a xs = ravel_rule a xs
monadic_rule o pr.Iota lit a xs = iota_rule lit a xs
monadic_rule o (pr.Reverse x) lit a xs = reverse_rule o x a xs
monadic_rule o pr.Transpose lit a xs = transpose_rule a xs
monadic_rule o (pr.Reduce g x) lit a xs = reduce_rule o g x a xs
monadic_rule o (pr.Scan g x) lit a xs = scan_rule o g x a xs
monadic_rule o _ lit a xs = Err breaks.Kind

abbrev pub dyadic_rule : ℤ → Primitive → Literal → FactKind → List (Option ℕ) → FactKind → List (Option ℕ) → Ruled
dyadic_rule o (pr.Scalar g) lit a xs b ys = scalar_dyadic_rule g a xs b ys
dyadic_rule o pr.Shape lit a xs b ys = reshape_rule lit a xs b ys
dyadic_rule o pr.Ravel lit a xs b ys = catenate_rule a xs b ys
dyadic_rule o pr.Iota lit a xs b ys = index_of_rule a xs b ys
dyadic_rule o pr.Take lit a xs b ys = take_rule lit a xs b ys
dyadic_rule o pr.Drop lit a xs b ys = drop_rule a xs b ys
dyadic_rule o (pr.Reverse x) lit a xs b ys = rotate_rule o x a xs b ys
dyadic_rule o pr.Transpose lit a xs b ys = transpose_to_rule o lit a xs b ys
dyadic_rule o (pr.Replicate x) lit a xs b ys = replicate_rule o x a xs b ys
dyadic_rule o (pr.Expand x) lit a xs b ys = expand_rule o x a xs b ys
dyadic_rule o pr.Member lit a xs b ys = member_rule a xs b ys
dyadic_rule o (pr.Outer g) lit a xs b ys = outer_rule g a xs b ys
dyadic_rule o (pr.Inner h g) lit a xs b ys = inner_rule h g a xs b ys
dyadic_rule o _ lit a xs b ys = Err breaks.Kind

-- what a node has that applies a function: of the literal that the right argument is, or the left one of two
abbrev pub monadic_fact : ℤ → Primitive → Literal → Inferred → Ruled
monadic_fact o h lit x = strict1 (monadic_rule o h lit) (sort x)

abbrev pub dyadic_fact : ℤ → Primitive → Literal → Inferred → Inferred → Ruled
dyadic_fact o h lit x y = strict2 (dyadic_rule o h lit) (sort x) (sort y)

-- ---- Indexing and indexed assignment

-- the lengths of the entries joined; one that is left out keeps its axis
abbrev pub joined_lengths : List (Option ℕ) → List (Option Inferred) → List (Option ℕ)
joined_lengths (x ∷ xs) (None ∷ fs) = x ∷ joined_lengths xs fs
joined_lengths (x ∷ xs) (Some (Of a (Some ys)) ∷ fs) = ys ++ joined_lengths xs fs
joined_lengths _ _ = []

abbrev pub is_numeric_fact : Inferred → Bool
is_numeric_fact Unset = false
is_numeric_fact (Of a s) = is_numeric a

abbrev pub all_numeric : List (Option Inferred) → Bool
all_numeric [] = true
all_numeric (None ∷ fs) = all_numeric fs
all_numeric (Some x ∷ fs) = is_numeric_fact x && all_numeric fs

-- as many entries as axes, at least one, and not too many axes in all
abbrev pub entries_fit : List (Option ℕ) → List (Option Inferred) → Bool
entries_fit xs fs = nat_eq (length fs) (length xs) && nat_lt 0 (length xs) && nat_le (length (joined_lengths xs fs)) rank_limit

abbrev pub index_rule : List (Option Inferred) → FactKind → List (Option ℕ) → Ruled
index_rule fs a xs = wants (all_numeric fs) breaks.Kind (wants (entries_fit xs fs) breaks.Rank (known a (joined_lengths xs fs)))

-- `A[L]←V`: V is a scalar or has the joined rank
abbrev pub change_rule : List (Option Inferred) → FactKind → List (Option ℕ) → FactKind → List (Option ℕ) → Ruled
change_rule fs a xs b ys =
    wants (all_numeric fs && kinds_join a b) breaks.Kind
    (wants (entries_fit xs fs && (nat_eq (length ys) 0 || nat_eq (length ys) (length (joined_lengths xs fs)))) breaks.Rank
    (known b ys))

abbrev pub index_fact : Inferred → List (Option Inferred) → Ruled
index_fact x fs = strict_list (index_rule fs) (sort x) fs

-- from the name's fact, those of the entries and the value's
abbrev pub change_fact : Inferred → List (Option Inferred) → Inferred → Ruled
change_fact x fs y = strict_list (λ a xs. strict1 (change_rule fs a xs) (sort y)) (sort x) (Some y ∷ fs)

-- a name of bits becomes one of numbers where other values are set
abbrev pub kept_kind : FactKind → FactKind → FactKind
kept_kind Bit Bit = Bit
kept_kind Bit b = Num
kept_kind a b = a

-- what an indexed assignment leaves to the name, whatever the entries are
abbrev pub left_fact : Inferred → Inferred → Inferred
left_fact Unset y = Unset
left_fact (Of a s) Unset = Of a s
left_fact (Of a s) (Of b t) = Of (kept_kind a b) s

-- ---- Branches

abbrev pub branch_rule : FactKind → List (Option ℕ) → Ruled
branch_rule a xs = wants (is_numeric a) breaks.Kind (wants (nat_le (length xs) 1) breaks.Rank (known a xs))

abbrev pub branch_fact : Inferred → Ruled
branch_fact x = strict1 branch_rule (sort x)
