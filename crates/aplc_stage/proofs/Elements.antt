-- Elements of arrays that stand in memory, as code reads them beside a new buffer.
-- It must not know what is made of them.
use Rattle.std.proofs.Common.{◌≡◌, ℕ, zero, suc, ◌<◌, ◌≤◌, List, [], ◌∷◌, ◌++◌, length, refl, sym, ap, ◌∙◌, subst, arith, append-nil, ℤ, Bool, true, cond}
use Rattle.std.specs.Prelude.{Option, Some, None, Ok, pos, negsuc, ◌^◌, slice_get, slice_index_or}
use Rattle.std.specs.List.{AllByRecursion}
use Rattle.std.proofs.lemmas.Bool.Decides.{nat_tests}
use Rattle.std.proofs.lemmas.List.Elements.{recursion_from_All}
use Rattle.aplc_scalar.specs.declared.kind.Kind.{Kind}
use Rattle.aplc_scalar.specs.declared.kind.Kind.TheVariants.{Num, Char}
use Rattle.aplc_scalar.specs.Scalar.{Given, in_range}
use Rattle.aplc_arr.specs.Arrays.{Array, IsArray, IsIndexOf, place, product, at, fill, is_cell}
use Rattle.aplc_arr.proofs.Places.{place-below}
use Rattle.aplc_arr.proofs.Keeping.{parts-fit, most-of}
use Rattle.aplc_cprof.specs.declared.syntax.Int.{Int}
use Rattle.aplc_cprof.specs.declared.syntax.Int.TheVariants as int
use Rattle.aplc_cprof.specs.declared.syntax.Buf.TheVariants as buf
use Rattle.aplc_cprof.specs.Blocks.{Blocks}
use Rattle.aplc_cprof.specs.Machine.{State, Is, read_int}
use Rattle.aplc_cprof.specs.Frames.{AreGiven, IsOld, AreOld, Stays}
use Rattle.aplc_cprof.proofs.Frames.{given_left, given_right, old_more, are_old_more, old_buf_more, read_stays, hold_stays}
use Rattle.aplc_collect.specs.Elements.{scope_of, number_of, scalar_test}
use Rattle.aplc_step.specs.declared.stepper.Origin.{Origin}
use Rattle.aplc_step.specs.declared.stepper.Origin.TheVariants as origin
use Rattle.aplc_step.specs.Steppers.{cells_at, origin_scope, scope_of_all, stepper_test, StepsOver, AreInRange}
use Rattle.aplc_step.proofs.Addresses.{element_is, over_stays}
use Rattle.aplc_stage.specs.declared.staged.Staged.{Staged}
use Rattle.aplc_stage.specs.declared.staged.Staged.TheVariants as staged
use Rattle.aplc_stage.specs.Staged.{scope_of_staged, Holds}
use Rattle.aplc_stage.specs.Computes.{with_heap}
use Rattle.aplc_stage.proofs.Heaps.{read_heap, over_heap, IsOldOrigin, cells_beside}

-- ---- Names

-- a value whose names were given before the n-th whole variable and the m-th buffer variable
abbrev pub IsOldStaged : ℕ → ℕ → Staged → Type 0
IsOldStaged n m (staged.Scalar x) = IsOld n x
IsOldStaged n m (staged.Cells from lengths) = IsOldOrigin m from × AreOld n lengths

given_old : (x : Int) (b : Blocks) → AreGiven (scope_of x) b → IsOld b.ints x
given_old (int.Local k) b g = let i = g.ints in omega (arith, i)
given_old (int.Global k) b g = tt

given_all : (xs : List Int) (b : Blocks) → AreGiven (scope_of_all xs) b → AreOld b.ints xs
given_all [] b g = tt
given_all (x ∷ xs) b g = (given_old x b (given_left (scope_of x) (scope_of_all xs) b g), given_all xs b (given_right (scope_of x) (scope_of_all xs) b g))

given_origin : (from : Origin) (b : Blocks) → AreGiven (origin_scope from) b → IsOldOrigin b.bufs from
given_origin (origin.Buffer (buf.Local k)) b g = let i = g.bufs in omega (arith, i)
given_origin (origin.Buffer (buf.Global k)) b g = tt
given_origin (origin.Table k) b g = tt

pub given_names : (x : Staged) (b : Blocks) → AreGiven (scope_of_staged x) b → IsOldStaged b.ints b.bufs x
given_names (staged.Scalar x) b g = given_old x b g
given_names (staged.Cells from lengths) b g =
    (given_origin from b (given_left (origin_scope from) (scope_of_all lengths) b g), given_all lengths b (given_right (origin_scope from) (scope_of_all lengths) b g))

pub older : (a b : Blocks) (x : Staged) → a.ints ≤ b.ints → a.bufs ≤ b.bufs → IsOldStaged a.ints a.bufs x → IsOldStaged b.ints b.bufs x
older a b (staged.Scalar x) le leb h = old_more a.ints b.ints x le h
older a b (staged.Cells (origin.Buffer p) lengths) le leb h = (old_buf_more a.bufs b.bufs p leb h.0, are_old_more a.ints b.ints lengths le h.1)
older a b (staged.Cells (origin.Table k) lengths) le leb h = (tt, are_old_more a.ints b.ints lengths le h.1)

-- ---- Cells

small_in : (n : ℕ) → n < 2 ^ 63 → in_range (pos n) ≡ true
unfolding in_range
small_in n lt = grind (arith, nat_tests)

character_small : (n : ℕ) → is_cell Char (pos n) ≡ true → n < 2 ^ 63
character_small n e = grind (arith, nat_tests)

cell_in : (kind : Kind) (z : ℤ) → is_cell kind z ≡ true → in_range z ≡ true
cell_in Num z e = e
cell_in Char (pos n) e = small_in n (character_small n e)
cell_in Char (negsuc n) e = absurd (cc e)

got_cell : (kind : Kind) (zs : List ℤ) (k : ℕ) (x : ℤ) → AllByRecursion (λ z. is_cell kind z ≡ true) zs → slice_get zs k ≡ Some x → is_cell kind x ≡ true
got_cell kind [] k x h e = absurd (cc e)
got_cell kind (z ∷ zs) zero x h e = let same : z ≡ x = cc in subst (λ y. is_cell kind y ≡ true) same h.0
got_cell kind (z ∷ zs) (suc k) x h e = got_cell kind zs k x h.1 e

-- the cells of an array are numbers of the machine's range
pub cells_in : (a : Array) → IsArray a → AreInRange a.cells
cells_in a h k x e = cell_in a.kind x (got_cell a.kind a.cells k x (recursion_from_All (λ z. is_cell a.kind z ≡ true) a.cells h.cells) e)

pub cells_few : (a : Array) → IsArray a → length a.cells < 2 ^ 31
cells_few a h = let whole = h.whole in let most = most-of (product a.shape) (parts-fit a.shape h.fits).1 in omega (arith, whole, most)

-- an element of a list, whatever stands beyond its last one
pub same_element : (xs : List ℤ) (i : ℕ) (d e : ℤ) → i < length xs → slice_index_or xs i d ≡ slice_index_or xs i e
same_element [] i d e lt = absurd (omega (arith, lt))
same_element (x ∷ xs) zero d e lt = refl
same_element (x ∷ xs) (suc i) d e lt = same_element xs i d e (omega (arith, lt))

-- ---- What all else leaves

cells_stay : (from : Origin) (tables : List (List ℤ)) (n m : ℕ) (s t : State) (cells : List ℤ) → IsOldOrigin m from → Stays n m s t → cells_at from tables s ≡ Some cells → cells_at from tables t ≡ Some cells
cells_stay from tables n m s t cells old f e =
    cells_beside from tables n m [] s t cells old record { ints = f.ints; bufs = f.bufs; around = f.around; heap = f.heap ∙ sym (append-nil s.heap) } e

pub holds_stay : (n m : ℕ) (tables : List (List ℤ)) (s t : State) (x : Staged) (a : Array) → IsOldStaged n m x → Stays n m s t → Holds tables s x a → Holds tables t x a
holds_stay n m tables s t (staged.Scalar x) a old f h = record { array = h.array; shape = h.shape; cells = (h.cells.0, h.cells.1, read_stays n m s t x f old ∙ h.cells.2) }
holds_stay n m tables s t (staged.Cells from lengths) a old f h = record {
  array = h.array;
  shape = hold_stays n m s t lengths a.shape f old.1 h.shape;
  cells = cells_stay from tables n m s t a.cells old.0 f h.cells;
}

-- ---- Elements beside a new buffer

abbrev number_when : Bool → ℤ → Option Given
number_when b z = cond b (Some (Ok z)) None

pub in_some : (b : Bool) (z : ℤ) → b ≡ true → number_when b z ≡ Some (Ok z)
in_some b z e = ap (λ c. number_when c z) e

-- the number in a variable
pub scalar_beside : (n m : ℕ) (more : List (Option (List ℤ))) (tables : List (List ℤ)) (s t : State) (x : Int) (z : ℤ) (is : List ℕ) → IsOld n x → Stays n m (with_heap (s.heap ++ more) s) t → read_int x s ≡ Is z → in_range z ≡ true → scalar_test x tables t is ≡ Some (Ok z)
scalar_beside n m more tables s t x z is old f h inside =
    ap number_of (read_stays n m (with_heap (s.heap ++ more) s) t x f old ∙ read_heap x (s.heap ++ more) s ∙ h) ∙ in_some (in_range z) z inside

-- the cell at the place of a multi-index
pub cell_beside : (n m : ℕ) (more : List (Option (List ℤ))) (tables : List (List ℤ)) (s t : State) (from : Origin) (base : Int) (strides lengths : List Int) (a : Array) (rs is : List ℕ) (place_of : List ℕ → ℕ) → IsOldOrigin m from → IsOld n base → AreOld n strides → AreOld n lengths → IsArray a → cells_at from tables s ≡ Some a.cells → StepsOver lengths base strides s rs place_of (length a.cells) → Stays n m (with_heap (s.heap ++ more) s) t → IsIndexOf rs is → stepper_test from base strides tables t is ≡ Some (Ok (slice_index_or a.cells (place_of is) (pos 0)))
cell_beside n m more tables s t from base strides lengths a rs is place_of old_from old_base old_strides old_lengths array cells over f index =
    let few = cells_few a array in
    element_is from base strides lengths tables t rs is place_of a.cells (cells_beside from tables n m more s t a.cells old_from f cells) (omega (arith, few)) (cells_in a array)
    (over_stays n m (length a.cells) base strides lengths (with_heap (s.heap ++ more) s) t rs place_of f old_lengths old_base old_strides (over_heap (s.heap ++ more) lengths base strides s rs place_of (length a.cells) over))
    index

-- it is the array's element
pub at_is : (a : Array) (is : List ℕ) → IsArray a → IsIndexOf a.shape is → slice_index_or a.cells (place a.shape is) (pos 0) ≡ at a is
at_is a is h inside = let lt = place-below a.shape is inside in same_element a.cells (place a.shape is) (pos 0) (fill a.kind) (omega (arith, lt, h.whole))
