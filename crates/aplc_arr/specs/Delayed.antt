-- Delayed arrays: the shape is there, and each element is a formula that is still to be computed.
-- A primitive gives one in its first step, or a fault of its arguments; the second step computes the elements.
use Rattle.std.specs.Prelude.{◌≡◌, ◌<◌, ℕ, zero, suc, List, [], ◌∷◌, ◌++◌, ℤ, Option, Some, None, Result, Ok, Err, IfOk, Bool, true, false}
use Rattle.aplc_scalar.specs.declared.kind.Kind.{Kind}
use Rattle.aplc_scalar.specs.declared.kind.FaultKind.{FaultKind}
use Rattle.aplc_scalar.specs.declared.kind.FaultKind.TheVariants.{Rank}
use Rattle.aplc_scalar.specs.Scalar.{Given}
use Rattle.aplc_arr.specs.Arrays.{Array, product, index_at}

-- the element at each multi-index of the shape, or the fault of computing it
pub record Delayed : Type 0 where
  pub kind : Kind
  pub shape : List ℕ
  pub element : List ℕ → Given

-- ---- The first step: the arguments are checked, and the shape is known

-- a fault, or the array to come
abbrev pub Prepared : Type 0
Prepared = Result Delayed FaultKind

abbrev pub delayed : Kind → List ℕ → (List ℕ → Given) → Prepared
delayed k ns f = Ok record { kind = k; shape = ns; element = f }

-- the same where no element has a fault
abbrev pub moved : Kind → List ℕ → (List ℕ → ℤ) → Prepared
moved k ns f = delayed k ns (λ is. Ok (f is))

-- the condition holds, or this is the fault; conditions are checked in the order in which they stand
abbrev pub needs : {A : Type 0} → Bool → FaultKind → Result A FaultKind → Result A FaultKind
needs true e rest = rest
needs false e rest = Err e

-- the axis, counted from 0; RANK where the argument has no such axis
abbrev pub along_axis : Option ℕ → (ℕ → Prepared) → Prepared
along_axis None next = Err Rank
along_axis (Some i) next = next i

-- it is a fault, or an array of this kind and shape
abbrev pub Gives : Kind → List ℕ → Prepared → Type 0
Gives k ns p = IfOk p (λ d. (d.kind ≡ k) × (d.shape ≡ ns))

-- ---- The second step: the elements

-- f 0, .., f (n - 1)
abbrev pub first_n : {A : Type 0} → (ℕ → A) → ℕ → List A
first_n f zero = []
first_n f (suc n) = first_n f n ++ f n ∷ []

abbrev pub onto_cells : ℤ → Result (List ℤ) FaultKind → Result (List ℤ) FaultKind
onto_cells x (Ok xs) = Ok (x ∷ xs)
onto_cells x (Err e) = Err e

-- all the numbers, or the first fault
abbrev pub all_given : List Given → Result (List ℤ) FaultKind
all_given [] = Ok []
all_given (Ok x ∷ rest) = onto_cells x (all_given rest)
all_given (Err e ∷ rest) = Err e

-- the elements in row-major order, or the first fault among them
abbrev pub cells_of : Delayed → Result (List ℤ) FaultKind
cells_of d = all_given (first_n (λ p. d.element (index_at d.shape p)) (product d.shape))

-- this is the fault of the first element, in row-major order, that has one
abbrev pub HasFirstFault : Delayed → FaultKind → Type 0
HasFirstFault d e = (p : ℕ) × (p < product d.shape) × (d.element (index_at d.shape p) ≡ Err e) × ((q : ℕ) → q < p → (z : ℤ) × (d.element (index_at d.shape q) ≡ Ok z))

-- the array of which no element has a fault
abbrev pub array_by : Kind → List ℕ → (List ℕ → ℤ) → Array
array_by k ns f = record { kind = k; shape = ns; cells = first_n (λ p. f (index_at ns p)) (product ns) }

-- ---- Both steps

abbrev pub with_cells : Delayed → Result (List ℤ) FaultKind → Result Array FaultKind
with_cells d (Ok zs) = Ok record { kind = d.kind; shape = d.shape; cells = zs }
with_cells d (Err e) = Err e

-- the array, or the fault of its arguments, or the first fault of its elements
abbrev pub computed : Prepared → Result Array FaultKind
computed (Ok d) = with_cells d (cells_of d)
computed (Err e) = Err e
