-- When a state of the machine stands for a state of the source.
-- Where a value stands is told by `Holds` and `IsHeld` alone; nothing else here knows what values are.
use Rattle.std.proofs.Common.{◌≡◌, ℕ, ◌+◌, ◌*◌, ◌<◌, ◌≤◌, List, [], ◌∷◌, ℤ, pos, true, false, Bool}
use Rattle.std.specs.Prelude.{Option, Some, None, map, slice_get, if◌then◌else◌}
use Rattle.aplc_scalar.specs.Scalar.{in_range}
use Rattle.aplc_scalar.specs.declared.kind.FaultKind.{FaultKind}
use Rattle.aplc_arr.specs.Arrays.{Array}
use Rattle.aplc_cprof.specs.declared.syntax.Int.{Int}
use Rattle.aplc_cprof.specs.declared.syntax.Int.TheVariants as int
use Rattle.aplc_cprof.specs.declared.syntax.CExpr.{CExpr}
use Rattle.aplc_cprof.specs.declared.syntax.CStmt.{CStmt}
use Rattle.aplc_cprof.specs.declared.syntax.CStmt.TheVariants as stmt
use Rattle.aplc_cprof.specs.Machine.{Code, Caller, Is, read_int}
use Rattle.aplc_cprof.specs.Machine as machine
use Rattle.aplc_cprof.proofs.Rules.{Any}
use Rattle.aplc_cprof.proofs.Matching.{Course, gives, faults, goes_on, Matches}
use Rattle.aplc_names.specs.States.{Places, Place, World, State, Marking, Outcome, Gives, Faulted, Going, depth, is_among}
use Rattle.aplc_names.specs.Eager.{Context, scalar, value_of_name}
use Rattle.aplc_core.specs.PlainSteps.{Term, Read, Slot, Effect, Keep, Branch}
use Rattle.aplc_core.specs.CoreRuns.{Told, Slots, CoreRoutine, PlainCore, term_value, step_done, core_called, core_context, core_run}
use Rattle.aplc_gen.specs.Shown.{place_shown}
use Rattle.aplc_gen.specs.Sound.{Ready, ready_after, is_term, is_effect, term_cost, effect_cost}
use Rattle.aplc_gen.specs.Layouts.{Layout, Site, frame_of, function_place, the_routine, the_frame, base, slot_place, local_value, local_flag, global_value, global_flag}
use Rattle.aplc_gen.specs.Layouts as layouts
use Rattle.aplc_gen.specs.Emitted.{operand, known_after, tree_code, known_behind, is_giving, is_branch, step_code}
use Rattle.aplc_gen.specs.Laid.{is_laid_term, is_laid_step, step_falls}

-- ---- Computations of the source

-- what an evaluation comes to
abbrev pub course : {A : Type 0} → Outcome A → Course State A
course (Gives a S) = gives a S
course (Faulted k S) = faults k S
course (Going S) = goes_on S

-- ---- Values

-- the number that an array is
pub record IsNumber (v : Array) (z : ℤ) : Type 0 where
  pub is : v ≡ scalar z
  pub fits : in_range z ≡ true

-- the value of an expression is the array's
pub record Holds (c : Code) (e : CExpr) (v : Array) (s : machine.State) : Type 0 where
  pub number : ℤ
  pub is : IsNumber v number
  pub value : machine.value e c.tables s ≡ Is number

-- a variable has the array's value
pub record IsHeld (x : Int) (v : Array) (s : machine.State) : Type 0 where
  pub number : ℤ
  pub is : IsNumber v number
  pub value : read_int x s ≡ Is number

-- ---- Names

-- A name's variable, and its flag if it has one. A name without a flag that is unset is not read.
abbrev pub IsNamed : Bool → Int → Int → Option Array → machine.State → Type 0
IsNamed true x f None s = read_int f s ≡ Is (pos 0)
IsNamed true x f (Some v) s = IsHeld x v s × (read_int f s ≡ Is (pos 1))
IsNamed false x f None s = Unit {0}
IsNamed false x f (Some v) s = IsHeld x v s

-- the global names that have variables
abbrev pub Globals : Layout → World → machine.State → Type 0
Globals y S s = (n : ℕ) → is_among n y.globals ≡ true → IsNamed (is_among n y.unsure) (global_value y n) (global_flag y n) (S.globals n) s

-- the local ones
abbrev pub Locals : Site → World → machine.State → Type 0
Locals g S s = (n : ℕ) → is_among n (the_frame g).names ≡ true → IsNamed (is_among n (the_frame g).unsure) (local_value g n) (local_flag g n) (S.locals n) s

-- names that have a value
abbrev pub Knows : Site → List ℕ → World → Type 0
Knows g known S = (n : ℕ) → is_among n known ≡ true → (v : Array) × (value_of_name ((the_routine g).header.scope n) n S ≡ Some v)

-- the values in slots
pub record InSlot (g : Site) (k i : ℕ) (slots : Slots) (s : machine.State) : Type 0 where
  pub value : Array
  pub below : k < (the_frame g).slots
  pub is : slots k ≡ Some (record { node = i; value = value })
  pub held : IsHeld (int.Local (slot_place g k)) value s

abbrev pub AreReady : Site → Ready → Slots → machine.State → Type 0
AreReady g r slots s = (k i : ℕ) → r.kept k ≡ Some i → InSlot g k i slots s

-- ---- What shows

pub record Shows (S : World) (s : machine.State) : Type 0 where
  pub output : s.output ≡ S.output
  pub marks : s.marks ≡ map place_shown S.marks
  pub here : s.places.here ≡ place_shown S.places.here
  pub behind : s.places.behind ≡ map place_shown S.places.behind

-- where both sides fault
abbrev pub Fails : FaultKind → State → machine.State → Type 0
Fails k S s = Shows S.world s

-- where the source would start a line and may not; so many lines were started, a thousand for each step and one more at most
pub record Waits (n : ℕ) (S : State) (s : machine.State) : Type 0 where
  pub output : s.output ≡ S.world.output
  pub marks : s.marks ≡ map place_shown S.world.marks
  pub count : n ≤ 1000 * s.steps + 1000

-- ---- Whole states

-- What moves with the proof: so many lines were left at some time before, and fewer than `fuel` are left now; of the steps
-- so many are paid, at 4096 for a unit of work, and so many are owed beyond.
pub record Bounds : Type 0 where
  pub lines : ℕ
  pub fuel : ℕ
  pub paid : ℕ
  pub owed : ℕ
  -- global names that were set at some time before
  pub set : ℕ → Bool

-- calls are counted, where they are
abbrev pub IsCounted : Bool → World → machine.State → Type 0
IsCounted true S s = read_int layouts.depth s ≡ Is (pos (depth S.places))
IsCounted false S s = Unit {0}

-- what holds in every frame
pub record Common (y : Layout) (b : Bounds) (S : World) (s : machine.State) : Type 0 where
  pub globals : Globals y S s
  pub counted : IsCounted y.counted S s
  pub output : s.output ≡ S.output
  pub marks : s.marks ≡ map place_shown S.marks
  pub behind : s.places.behind ≡ map place_shown S.places.behind
  pub input : s.input ≡ S.input
  pub below : S.left < b.fuel
  pub count : b.lines ≤ S.left + 1000 * s.steps + 1000
  pub taken : s.steps + b.paid ≤ 4096 * S.work + b.owed
  pub set : (n : ℕ) → b.set n ≡ true → (v : Array) × (S.globals n ≡ Some v)

-- within a line, with what is known and what is in slots
pub record Here (g : Site) (b : Bounds) (known : List ℕ) (r : Ready) (slots : Slots) (ps : Places) (cs : List Caller) (S : World) (s : machine.State) : Type 0 where
  pub common : Common g.layout b S s
  pub locals : Locals g S s
  pub knows : Knows g known S
  pub stored : (n : ℕ) → is_among n r.stored ≡ true → is_among n known ≡ true
  pub ready : AreReady g r slots s
  pub here : s.places.here ≡ place_shown S.places.here
  pub places : S.places ≡ ps
  pub callers : s.callers ≡ cs

-- between lines: the machine may stand at a place that is not set yet
pub record Between (g : Site) (b : Bounds) (known : List ℕ) (here : Place) (behind : List Place) (cs : List Caller) (S : World) (s : machine.State) : Type 0 where
  pub common : Common g.layout b S s
  pub locals : Locals g S s
  pub knows : Knows g known S
  pub function : S.places.here.function ≡ here.function
  pub around : S.places.behind ≡ behind
  pub callers : s.callers ≡ cs

-- ---- Trees change nothing that shows

-- all but work and what nodes were given
pub record Same (S T : World) : Type 0 where
  pub globals : T.globals ≡ S.globals
  pub locals : T.locals ≡ S.locals
  pub places : T.places ≡ S.places
  pub left : T.left ≡ S.left
  pub input : T.input ≡ S.input
  pub output : T.output ≡ S.output
  pub marks : T.marks ≡ S.marks

-- all but local variables from number k on, and steps
pub record Kept (k : ℕ) (s t : machine.State) : Type 0 where
  pub lower : (j : ℕ) → j < k → t.ints j ≡ s.ints j
  pub global_ints : t.global_ints ≡ s.global_ints
  pub bufs : t.bufs ≡ s.bufs
  pub global_bufs : t.global_bufs ≡ s.global_bufs
  pub heap : t.heap ≡ s.heap
  pub callers : t.callers ≡ s.callers
  pub places : t.places ≡ s.places
  pub marks : t.marks ≡ s.marks
  pub input : t.input ≡ s.input
  pub output : t.output ≡ s.output
  pub steps : s.steps ≤ t.steps

-- ---- Calls

-- an argument on its way, where the function has one
abbrev pub Passed : Option ℕ → Int → Option Array → machine.State → Type 0
Passed None x o s = Unit {0}
Passed (Some n) x None s = ⊥
Passed (Some n) x (Some v) s = IsHeld x v s

-- a result on its way, where the function has one; it is surely set, or has a flag
abbrev pub IsResult : Bool → Option ℕ → Option Array → machine.State → Type 0
IsResult sure None o s = Unit {0}
IsResult true (Some r) None s = ⊥
IsResult true (Some r) (Some v) s = IsHeld layouts.result v s
IsResult false (Some r) o s = IsNamed true layouts.result layouts.result_flag o s

-- Where calls are not counted, each leads to a function of a lower number.
pub record HasRoom (y : Layout) (rank : ℕ → ℕ) (j : ℕ) (ps : Places) : Type 0 where
  pub few : depth ps ≤ 4096
  pub shallow : y.counted ≡ false → depth ps + rank j ≤ 4096

-- what a line has paid for when its first step is done
abbrev pub for_line : ℕ
for_line = 2100

abbrev pub pay : ℕ → Bounds → Bounds
pay k b = record b { paid = b.paid + k }

abbrev pub owe : ℕ → Bounds → Bounds
owe k b = record b { owed = b.owed + k }

-- the caller's frame again, with the result on its way
pub record Returned (y : Layout) (j : ℕ) (f : CoreRoutine) (b : Bounds) (S : State) (s : machine.State) (o : Option Array) (T : State) (t : machine.State) : Type 0 where
  pub common : Common y (pay for_line b) T.world t
  pub locals : T.world.locals ≡ S.world.locals
  pub places : T.world.places ≡ S.world.places
  pub here : t.places.here ≡ s.places.here
  pub ints : t.ints ≡ s.ints
  pub callers : t.callers ≡ s.callers
  pub result : IsResult (is_giving (frame_of y j).sure f.header.result) f.header.result o t

-- ---- Work

-- the tree's node is given its value here
abbrev pub works : Told → Term → Bool
works l (Slot i k) = false
works l (Read i n) = if is_among i l.assigned then false else true
works l t = true

abbrev pub effect_works : Told → Effect → Bool
effect_works l (Keep k t) = works l t
effect_works l (Branch t) = works l t
effect_works l x = true

abbrev pub gain : Bool → ℕ
gain true = 1
gain false = 0

-- the first step of a line pays for the line
abbrev pub pay_if : Bool → Bounds → Bounds
pay_if true b = pay for_line b
pay_if false b = b

abbrev pub bounds_behind : Told → Bounds → Effect → Bounds
bounds_behind l b x = pay_if (effect_works l x) (owe (effect_cost x) b)

module _ (c : Code) (n : ℕ) where
  -- code beside a computation
  abbrev pub Sim : {A : Type 0} → List CStmt → machine.State → Outcome A → (A → State → machine.State → Type 0) → Type 0
  Sim code s out Rel = Matches c Any State Fails (Waits n) code s (course out) Rel

  -- the value of a tree is there, and nothing else has changed
  pub record Computed (g : Site) (known : List ℕ) (k : ℕ) (l : Told) (t : Term) (S : State) (s : machine.State) (v : Array) (T : State) (u : machine.State) : Type 0 where
    pub same : Same S.world T.world
    pub kept : Kept k s u
    pub holds : Holds c (operand g k t) v u
    pub knows : Knows g (known_after known t) T.world
    pub cost : u.steps ≤ s.steps + term_cost t
    pub work : S.world.work + gain (works l t) ≤ T.world.work

  -- what is proved of the trees of a line
  abbrev pub TreesDo : Type 0
  TreesDo = (g : Site) (x : Context) (l : Told) (b : Bounds) (known : List ℕ) (r : Ready) (slots : Slots) (ps : Places) (cs : List Caller) (k : ℕ) (t : Term) (S : State) (s : machine.State) →
      x.scope ≡ (the_routine g).header.scope → base g ≤ k → is_term (the_routine g).header.scope l r t ≡ true → is_laid_term g known t ≡ true →
      Here g b known r slots ps cs S.world s → Sim (tree_code g known k t) s (term_value x l slots t S) (Computed g known k l t S s)

  module _ (p : PlainCore) (y : Layout) (m : Marking) (rank : ℕ → ℕ) where
    -- what is proved of calls, where calls and lines in them nest at most k deep
    abbrev pub CallsDo : ℕ → Type 0
    CallsDo k = (j : ℕ) (f : CoreRoutine) (a x : Option Array) (b : Bounds) (S : State) (s : machine.State) →
        n ≤ b.lines → b.fuel ≡ k → slice_get p.routines j ≡ Some f → is_among j y.called ≡ true →
        depth S.world.places ≤ 4096 → (y.counted ≡ false → depth S.world.places + 1 + rank j ≤ 4096) →
        Common y b S.world s → s.places.here ≡ place_shown S.world.places.here →
        Passed f.header.left layouts.left_passed a s → Passed f.header.right layouts.right_passed x s →
        Sim (stmt.Call (function_place y j) ∷ []) s (core_called (core_run p m k) (Some f) a x S) (Returned y j f b S s)

    -- what is proved of the steps that are no branches
    abbrev pub StepsDo : ℕ → Type 0
    StepsDo k = (g : Site) (l : Told) (b : Bounds) (known : List ℕ) (r : Ready) (slots : Slots) (ps : Places) (cs : List Caller) (x : Effect) (S : State) (s : machine.State) →
        g.program ≡ p → g.layout ≡ y → n ≤ b.lines → b.fuel ≡ k → HasRoom y rank g.number ps →
        is_branch x ≡ false → is_effect p (the_routine g).header.scope l r x ≡ true → is_laid_step g known x ≡ true →
        (y.counted ≡ false → step_falls rank g.number (the_routine g) x ≡ true) →
        Here g b known r slots ps cs S.world s →
        Sim (step_code g known x) s (step_done (core_context p m (core_run p m k) (the_routine g)) l x slots S)
        (λ later T t. Here g (bounds_behind l b x) (known_behind known x) (ready_after r x) later ps cs T.world t)
