-- What each primitive function does with arrays, and what that costs. Axes are meant by the index origin o.
use Rattle.std.specs.Prelude.{ℕ, ◌-◌, List, ℤ, pos, negsuc, ◌-ℤ◌, length, Option, Some, None, Err, nat_lt, if◌then◌else◌}
use Rattle.aplc_scalar.specs.declared.kind.FaultKind.TheVariants.{Domain}
use Rattle.aplc_syntax.specs.declared.tree.Axis.{Axis}
use Rattle.aplc_syntax.specs.declared.tree.Axis.TheVariants as ax
use Rattle.aplc_syntax.specs.declared.tree.Primitive.{Primitive}
use Rattle.aplc_syntax.specs.declared.tree.Primitive.TheVariants as pr
use Rattle.aplc_arr.specs.Arrays.{Array, rank, as_vector}
use Rattle.aplc_arr.specs.Delayed.{Prepared}
use Rattle.aplc_arr.specs.Each.{each_monadic, each_dyadic}
use Rattle.aplc_arr.specs.Structure.{shape_of, ravelled, iota, reversed, rotated, transposed, transposed_by, reshaped, catenated}
use Rattle.aplc_arr.specs.Selection.{taken, dropped, replicated, expanded, index_of, members}
use Rattle.aplc_arr.specs.Operators.{reduced, scanned, outer_product, inner_product}
use Rattle.aplc_arr.specs.Counts.{each_applications, reduction_applications, scan_applications, inner_applications, search_applications, list_of_places}

-- ---- Axes

abbrev pub within : ℤ → ℕ → Option ℕ
within (pos i) r = if nat_lt i r then Some i else None
within (negsuc i) r = None

-- the number from 0 of the axis that is meant in an array of rank r, if it has that axis. Without a number the first or
-- the last one is meant; of a scalar that is 0.
abbrev pub axis_in : ℤ → Axis → ℕ → Option ℕ
axis_in o ax.First r = Some 0
axis_in o ax.Last r = Some (r - 1)
axis_in o (ax.At z) r = within (z -ℤ o) r

-- ---- What they do

-- with one argument; DOMAIN for what does not stand so
abbrev pub mono_of : ℤ → Primitive → Array → Prepared
mono_of o (pr.Scalar f) b = each_monadic f b
mono_of o pr.Shape b = shape_of b
mono_of o pr.Ravel b = ravelled b
mono_of o pr.Iota b = iota o b
mono_of o (pr.Reverse x) b = reversed (axis_in o x (rank b)) b
mono_of o pr.Transpose b = transposed b
mono_of o (pr.Reduce f x) b = reduced f (axis_in o x (rank b)) b
mono_of o (pr.Scan f x) b = scanned f (axis_in o x (rank b)) b
mono_of o _ b = Err Domain

-- with two; replicate and expand take a scalar on the right as a vector of one element
abbrev pub dyad_of : ℤ → Primitive → Array → Array → Prepared
dyad_of o (pr.Scalar f) a b = each_dyadic f a b
dyad_of o pr.Shape a b = reshaped a b
dyad_of o pr.Ravel a b = catenated a b
dyad_of o pr.Iota a b = index_of o a b
dyad_of o pr.Take a b = taken a b
dyad_of o pr.Drop a b = dropped a b
dyad_of o (pr.Reverse x) a b = rotated (axis_in o x (rank b)) a b
dyad_of o pr.Transpose a b = transposed_by o a b
dyad_of o (pr.Replicate x) a b = replicated (axis_in o x (rank (as_vector b))) a b
dyad_of o (pr.Expand x) a b = expanded (axis_in o x (rank (as_vector b))) a b
dyad_of o pr.Member a b = members a b
dyad_of o (pr.Outer f) a b = outer_product f a b
dyad_of o (pr.Inner f g) a b = inner_product f g a b
dyad_of o _ a b = Err Domain

-- ---- How often a scalar function is applied, from the shapes of the arguments and of the result

abbrev pub mono_applications : ℤ → Primitive → List ℕ → List ℕ → ℕ
mono_applications o (pr.Scalar f) bs rs = each_applications rs
mono_applications o (pr.Reduce f x) bs rs = reduction_applications (axis_in o x (length bs)) bs rs
mono_applications o (pr.Scan f x) bs rs = scan_applications (axis_in o x (length bs)) bs
mono_applications o _ bs rs = 0

abbrev pub dyad_applications : ℤ → Primitive → List ℕ → List ℕ → List ℕ → ℕ
dyad_applications o (pr.Scalar f) ls bs rs = each_applications rs
dyad_applications o (pr.Outer f) ls bs rs = each_applications rs
dyad_applications o (pr.Inner f g) ls bs rs = inner_applications ls bs rs
dyad_applications o pr.Iota ls bs rs = search_applications ls bs
dyad_applications o pr.Member ls bs rs = search_applications ls bs
dyad_applications o _ ls bs rs = 0

-- ---- How long the list of places is that goes with it, from the shapes of the left argument and of the result

abbrev pub places_listed : ℤ → Primitive → List ℕ → List ℕ → ℕ
places_listed o (pr.Replicate x) ls rs = list_of_places (axis_in o x (length rs)) ls rs
places_listed o (pr.Expand x) ls rs = list_of_places (axis_in o x (length rs)) ls rs
places_listed o _ ls rs = 0
