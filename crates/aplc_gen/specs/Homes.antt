-- Where values of every rank stand, and when a state of the machine stands for one of the source in which names have such
-- values: a value of rank 0 is in a variable, one of rank 1 or more in a buffer, with variables for its lengths.
-- It must not know what kinds and ranks are inferred: a value tells its own.
use Rattle.std.specs.Prelude.{◌≡◌, ◌⊎◌, ℕ, ◌+◌, ◌<◌, List, [], ◌∷◌, ◌++◌, length, ℤ, pos, Option, Some, None, Bool, true, false}
use Rattle.aplc_scalar.specs.Scalar.{in_range}
use Rattle.aplc_arr.specs.Arrays.{Array}
use Rattle.aplc_cprof.specs.declared.syntax.Int.{Int}
use Rattle.aplc_cprof.specs.declared.syntax.Buf.{Buf}
use Rattle.aplc_cprof.specs.declared.syntax.CExpr.{CExpr}
use Rattle.aplc_cprof.specs.declared.syntax.CExpr.TheVariants as expr
use Rattle.aplc_cprof.specs.declared.syntax.CStmt.{CStmt}
use Rattle.aplc_cprof.specs.declared.syntax.CStmt.TheVariants as stmt
use Rattle.aplc_cprof.specs.Machine.{State, Is, read_int, named_buf, held}
use Rattle.aplc_names.specs.States.{Values, weight_of, is_among}
use Rattle.aplc_core.specs.CoreRuns.{Slots}
use Rattle.aplc_gen.specs.Owners.{Way, Owner, slot_of, statement, Owners, Owns, Untouched, IsBelow, IsNone}

-- ---- Homes

-- a length: it is known when the text is written, or it is in a variable
pub data Dim : Type 0 where
  fixed : ℕ → Dim
  kept : Int → Dim

-- the variables of a name, of a slot, or of what is on its way
pub record Home : Type 0 where
  -- of a value of rank 0
  pub number : Int
  -- of one of rank 1 or more; there is none where there is never such a value
  pub cells : Option Buf
  -- as many as the greatest rank
  pub lengths : List Dim

-- the variables hold these lengths; where the rank is less than the greatest one, the last variables are not read
abbrev pub AreLengths : List Dim → List ℕ → State → Type 0
AreLengths ds [] s = Unit {0}
AreLengths [] (n ∷ ns) s = ⊥
AreLengths (fixed k ∷ ds) (n ∷ ns) s = (k ≡ n) × AreLengths ds ns s
AreLengths (kept x ∷ ds) (n ∷ ns) s = (read_int x s ≡ Is (pos n)) × AreLengths ds ns s

-- no buffer is there, so that to free it does nothing
abbrev pub IsNull : Option Buf → State → Type 0
IsNull None s = Unit {0}
IsNull (Some p) s = named_buf p s ≡ None

-- ---- A value in its home

-- the element of a value of rank 0, of whatever kind
pub record IsElement (x : Int) (cells : List ℤ) (s : State) : Type 0 where
  pub element : ℤ
  pub is : cells ≡ element ∷ []
  pub fits : in_range element ≡ true
  pub value : read_int x s ≡ Is element

-- the cells of a value of rank 1 or more, and its lengths
pub record IsBuffer (own : Owners) (who : Owner) (h : Home) (shape : List ℕ) (cells : List ℤ) (s : State) : Type 0 where
  pub variable : Buf
  pub is : h.cells ≡ Some variable
  pub buffer : ℕ
  pub named : named_buf variable s ≡ Some buffer
  pub owned : Owns own who cells buffer s.heap
  pub lengths : AreLengths h.lengths shape s

-- by the shape
abbrev pub StandsBy : List ℕ → Owners → Owner → Home → List ℤ → State → Type 0
StandsBy [] own who h cells s = IsElement h.number cells s × IsNull h.cells s
StandsBy (n ∷ ns) own who h cells s = IsBuffer own who h (n ∷ ns) cells s

-- the value stands there, and its buffer, if it has one, is who's
abbrev pub Stands : Owners → Owner → Home → Array → State → Type 0
Stands own who h v s = StandsBy v.shape own who h v.cells s

-- A name's value, and its flag if it has one. What is unset has no buffer.
abbrev pub IsKept : Bool → Owners → Owner → Home → Int → Option Array → State → Type 0
IsKept true own who h f None s = IsNull h.cells s × (read_int f s ≡ Is (pos 0))
IsKept true own who h f (Some v) s = Stands own who h v s × (read_int f s ≡ Is (pos 1))
IsKept false own who h f None s = IsNull h.cells s
IsKept false own who h f (Some v) s = Stands own who h v s

-- ---- The homes of a function, and of its program

pub record Homes : Type 0 where
  -- of local names, of slots, of global names, by their numbers
  pub local : ℕ → Home
  pub slot : ℕ → Home
  pub global : ℕ → Home
  -- the same for all functions
  pub way : Way → Home

-- the variables of a home
abbrev pub dim_ints : List Dim → List Int
dim_ints [] = []
dim_ints (fixed k ∷ ds) = dim_ints ds
dim_ints (kept x ∷ ds) = x ∷ dim_ints ds

abbrev pub home_ints : Home → List Int
home_ints h = h.number ∷ dim_ints h.lengths

abbrev pub StandsIn : {A : Type 0} → A → List A → Type 0
StandsIn x [] = ⊥
StandsIn x (y ∷ ys) = (x ≡ y) ⊎ StandsIn x ys

-- two homes have no variable in common
pub record AreApart (a b : Home) : Type 0 where
  pub ints : (x : Int) → StandsIn x (home_ints a) → StandsIn x (home_ints b) → ⊥
  pub bufs : (p : Buf) → a.cells ≡ Some p → b.cells ≡ Some p → ⊥

-- ---- What a frame holds

-- the names of a list that have a home, with those that have a flag
pub record Named : Type 0 where
  pub names : List ℕ
  pub unsure : List ℕ

-- each name stands in its home, and owns its buffer
abbrev pub AreKept : Owners → (ℕ → Owner) → Named → (ℕ → Home) → (ℕ → Int) → Values → State → Type 0
AreKept own who ns home flag values s = (n : ℕ) → is_among n ns.names ≡ true → IsKept (is_among n ns.unsure) own (who n) (home n) (flag n) (values n) s

-- how many cells the values of these names have; each name stands once
abbrev pub names_cells : List ℕ → Values → ℕ
names_cells [] values = 0
names_cells (n ∷ ns) values = weight_of (values n) + names_cells ns values

-- ---- What a statement holds

-- a buffer that the statement has filled, by its variable; a value of rank 0 is in a variable that needs no freeing
pub record Holding : Type 0 where
  pub variable : ℕ
  pub cells : List ℤ

pub record IsHolding (own : Owners) (t : Holding) (s : State) : Type 0 where
  pub buffer : ℕ
  pub named : s.bufs t.variable ≡ Some buffer
  pub owned : Owns own (statement t.variable) t.cells buffer s.heap

abbrev pub AreHeld : Owners → List Holding → State → Type 0
AreHeld own [] s = Unit {0}
AreHeld own (t ∷ ts) s = IsHolding own t s × AreHeld own ts s

abbrev pub holdings_cells : List Holding → ℕ
holdings_cells [] = 0
holdings_cells (t ∷ ts) = length t.cells + holdings_cells ts

-- A value that waits in a slot: the slot owns its buffer, until the value is passed on to a function or a name.
pub record Waiting : Type 0 where
  pub slot : ℕ
  pub node : ℕ
  pub value : Array

pub record IsWaiting (own : Owners) (depth : ℕ) (home : ℕ → Home) (slots : Slots) (w : Waiting) (s : State) : Type 0 where
  pub is : slots w.slot ≡ Some (record { node = w.node; value = w.value })
  pub stands : Stands own (slot_of depth w.slot) (home w.slot) w.value s

abbrev pub AreWaiting : Owners → ℕ → (ℕ → Home) → Slots → List Waiting → State → Type 0
AreWaiting own depth home slots [] s = Unit {0}
AreWaiting own depth home slots (w ∷ ws) s = IsWaiting own depth home slots w s × AreWaiting own depth home slots ws s

abbrev pub waiting_cells : List Waiting → ℕ
waiting_cells [] = 0
waiting_cells (w ∷ ws) = weight_of (Some w.value) + waiting_cells ws

-- the slots in which nothing waits have no buffer
abbrev pub AreEmpty : (ℕ → Home) → ℕ → List Waiting → State → Type 0
AreEmpty home slots ws s = (k : ℕ) → k < slots → ((w : Waiting) → StandsIn w ws → w.slot ≡ k → ⊥) → IsNull (home k).cells s

-- ---- The heap of a whole state

-- Between statements: the cells held are those of global names, of the names of the innermost frame, and of what the frames
-- below it hold. So no buffer is left that nobody answers for.
pub record HeldBetween (globals locals : Named) (below : ℕ) (global_values local_values : Values) (s : State) : Type 0 where
  pub cells : held s ≡ names_cells globals.names global_values + names_cells locals.names local_values + below

-- within a statement: those that wait in slots and those of its buffers beside
pub record HeldWithin (globals locals : Named) (below : ℕ) (global_values local_values : Values) (ws : List Waiting) (ts : List Holding) (s : State) : Type 0 where
  pub cells : held s ≡ names_cells globals.names global_values + names_cells locals.names local_values + below + (waiting_cells ws + holdings_cells ts)

-- ---- What code does with buffers

abbrev pub free_code : Option Buf → List CStmt
free_code None = []
free_code (Some p) = stmt.Free p ∷ []

abbrev pub dim_value : Dim → CExpr
dim_value (fixed k) = expr.Lit (pos k)
dim_value (kept x) = expr.Var x

-- the lengths of one home to those of another, which has at least as many
abbrev pub lengths_code : List Dim → List Dim → List CStmt
lengths_code (kept x ∷ xs) (d ∷ ds) = stmt.Set x (dim_value d) ∷ lengths_code xs ds
lengths_code (fixed k ∷ xs) (d ∷ ds) = lengths_code xs ds
lengths_code xs ds = []

-- the buffer goes from one variable to another
abbrev pub move_code : Option Buf → Option Buf → List CStmt
move_code (Some p) (Some q) = stmt.SetBuf p (Some q) ∷ stmt.SetBuf q None ∷ []
move_code p q = []

-- A value of rank 1 or more moves from a home to one that owns no buffer: an argument from its slot on its way and into the
-- parameter, a result from its name on its way and into a slot.
abbrev pub pass_home : Home → Home → List CStmt
pass_home into from = move_code into.cells from.cells ++ lengths_code into.lengths from.lengths

-- An assignment of such a value that the statement holds: the old buffer is freed when the new one is full.
abbrev pub assign_home : Home → Home → List CStmt
assign_home into from = free_code into.cells ++ pass_home into from

-- a value of rank 0 takes the place of one that may have had a buffer
abbrev pub assign_number : Home → CExpr → List CStmt
assign_number into e = free_code into.cells ++ (clear_code into.cells ++ stmt.Set into.number e ∷ [])
  where
    clear_code : Option Buf → List CStmt
    clear_code None = []
    clear_code (Some p) = stmt.SetBuf p None ∷ []

-- at the end of a statement its buffers are freed, and what still waits in slots
abbrev pub free_all : List (Option Buf) → List CStmt
free_all [] = []
free_all (p ∷ ps) = free_code p ++ free_all ps

-- ---- And what that means

-- A value has moved from one owner to another: nobody else's buffer is touched, and as many cells are held but those of the
-- value that stood there before.
pub record Moved (own : Owners) (from into : Owner) (home source : Home) (old : Option Array) (v : Array) (s t : State) : Type 0 where
  pub own' : Owners
  pub there : Stands own' into home v t
  pub gone : IsNull source.cells t
  pub others : Untouched (IsNone (from ∷ into ∷ [])) own own' s.heap t.heap
  pub cells : held t + weight_of old ≡ held s

-- What the frames below see of a call: what is theirs is untouched, and beside it the cells held are those of global names
-- and of what comes back. Within the callee `below` of the caller is all that the caller holds but the arguments.
pub record CallHeap (own own' : Owners) (depth below : ℕ) (globals : Named) (global_values : Values) (result : Option Array) (s t : State) : Type 0 where
  pub theirs : Untouched (IsBelow depth) own own' s.heap t.heap
  pub cells : held t ≡ names_cells globals.names global_values + below + weight_of result
