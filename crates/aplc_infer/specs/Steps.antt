-- What a stretch of the work on the tables of a program leaves.
use Rattle.std.specs.Prelude.{◌≡◌, ◌<◌, ◌≤◌, ℕ, ◌+◌, Bool, true, false, List, [], ◌∷◌, Option, Some, None, length, slice_get}
use Rattle.aplc_lex.specs.declared.token.Refusal.{Refusal}
use Rattle.aplc_syntax.specs.declared.tree.Line.{Line}
use Rattle.aplc_syntax.specs.declared.tree.Function.{Function}
use Rattle.aplc_syntax.specs.declared.tree.Program.{Program}
use Rattle.aplc_names.specs.PlainPrograms.{Action, Routine, plain, routine_of, line_action}
use Rattle.aplc_names.specs.Runs.{line_at}
use Rattle.aplc_infer.specs.declared.fact.Inferred.{Inferred}
use Rattle.aplc_infer.specs.declared.cell.Cell.TheVariants as cell
use Rattle.aplc_infer.specs.declared.cell.Demand.{Demand}
use Rattle.aplc_infer.specs.declared.cell.Flow.{Flow}
use Rattle.aplc_infer.specs.declared.cell.Flow.TheVariants as flow
use Rattle.aplc_infer.specs.declared.tables.Spot.TheVariants.{Hub}
use Rattle.aplc_infer.specs.declared.tables.Tables.{Tables}
use Rattle.aplc_infer.specs.Facts.{below}
use Rattle.aplc_infer.specs.Seeing.{Family, declarations, local_names, number_in, at, Progress, binding_in, flow_of}
use Rattle.aplc_infer.specs.Families.{AreMet, IsBelow, at_entry, seen_line, MeetsRules, IsRefused}
use Rattle.aplc_infer.specs.Tables.{look, family_of, room_of}

-- ---- Of a program

abbrev pub Meets : Program → Family → Type 0
Meets p h = MeetsRules (declarations p.vars) (plain p) h

abbrev pub StandsUnder : Program → Family → Refusal → Type 0
StandsUnder p g r = IsRefused (declarations p.vars) (plain p) g r

abbrev pub seen_in : Program → Family → ℕ → Routine → ℕ → Action → Progress
seen_in p g i f l x = seen_line (declarations p.vars) (plain p) g i f l x

-- function i of a program
abbrev pub IsFunction : Program → ℕ → Function → Type 0
IsFunction p i fn = slice_get p.functions i ≡ Some fn

-- line l of it
abbrev pub IsLineOf : Program → Function → ℕ → Line → Type 0
IsLineOf p fn l line = line_at (routine_of p fn).lines l ≡ Some (line_action line)

-- ---- Where one name goes

-- a function is left, where local name k has this fact
abbrev pub LeavesWith : Option ℕ → Family → ℕ → Routine → ℕ → Inferred → Type 0
LeavesWith None h i f k x = Unit {0}
LeavesWith (Some n) h i f k x = k ≡ number_in n (local_names f) → below x (h (cell.Answer i)) ≡ true

abbrev pub LandsIn : Option Action → Family → ℕ → Routine → ℕ → ℕ → Inferred → Type 0
LandsIn None h i f m k x = LeavesWith f.result h i f k x
LandsIn (Some a) h i f m k x = below x (h (cell.Start i m k)) ≡ true

-- local name k comes to line m with this fact; where there is no line of that number the function is left
abbrev pub Lands : Family → ℕ → Routine → ℕ → ℕ → Inferred → Type 0
Lands h i f m k x = LandsIn (line_at f.lines m) h i f m k x

-- it goes where line l leads
abbrev pub Goes : Flow → Family → ℕ → Routine → ℕ → ℕ → Inferred → Type 0
Goes flow.Next h i f l k x = Lands h i f (l + 1) k x
Goes (flow.To t) h i f l k x = Lands h i f t k x
Goes (flow.Either t) h i f l k x = Lands h i f t k x × Lands h i f (l + 1) k x
Goes flow.Any h i f l k x = (m : ℕ) → Lands h i f m k x

-- it went there, or to the hub
abbrev pub Gone : Flow → Tables → ℕ → Routine → ℕ → ℕ → Inferred → Type 0
Gone flow.Next t i f l k x = Lands (family_of t) i f (l + 1) k x
Gone (flow.To m) t i f l k x = Lands (family_of t) i f m k x
Gone (flow.Either m) t i f l k x = Lands (family_of t) i f m k x × Lands (family_of t) i f (l + 1) k x
Gone flow.Any t i f l k x = below x (look t (Hub i k)) ≡ true

-- ---- Tables and families

-- tables below a family; what hubs have, it has at every line and at the way out
pub record IsUnder (p : Program) (t : Tables) (h : Family) : Type 0 where
  pub cells : IsBelow (family_of t) h
  pub hubs : (i : ℕ) (f : Routine) → slice_get (plain p).routines i ≡ Some f → (m k : ℕ) → Lands h i f m k (look t (Hub i k))

-- tables below a family that grants what was asked are still below it; where nothing rose they are the same, and what
-- was to be done is done; where something rose there is less room
pub record Steps (p : Program) (old new : Tables) (rose : Bool) (Asks : Family → Type 0) (Done : Tables → Type 0) : Type 0 where
  pub under : (h : Family) → IsUnder p old h → Asks h → IsUnder p new h
  pub still : rose ≡ false → (new ≡ old) × Done new
  pub falls : rose ≡ true → room_of new < room_of old

-- demands were met
abbrev pub Settles : Program → List Demand → Tables → Tables → Bool → Type 0
Settles p ds old new rose = Steps p old new rose (λ h. AreMet h ds) (λ t. AreMet (family_of t) ds)

-- a local name left the function, or came to a line, or went where a line leads
abbrev pub HasLeft : Program → ℕ → Routine → ℕ → Inferred → Tables → Tables → Bool → Type 0
HasLeft p i f k x old new rose = Steps p old new rose (λ h. LeavesWith f.result h i f k x) (λ t. LeavesWith f.result (family_of t) i f k x)

abbrev pub Landed : Program → ℕ → Routine → ℕ → ℕ → Inferred → Tables → Tables → Bool → Type 0
Landed p i f m k x old new rose = Steps p old new rose (λ h. Lands h i f m k x) (λ t. Lands (family_of t) i f m k x)

abbrev pub HasGone : Program → Flow → ℕ → Routine → ℕ → ℕ → Inferred → Tables → Tables → Bool → Type 0
HasGone p w i f l k x old new rose = Steps p old new rose (λ h. Goes w h i f l k x) (λ t. Gone w t i f l k x)

-- the first n local names went where line l leads
abbrev pub HaveGone : Program → ℕ → Flow → ℕ → Routine → ℕ → List Inferred → Tables → Tables → Bool → Type 0
HaveGone p n w i f l ns old new rose = Steps p old new rose (λ h. (k : ℕ) → k < n → Goes w h i f l k (at ns k)) (λ t. (k : ℕ) → k < n → Gone w t i f l k (at ns k))

-- whatever names go where a line leads, with facts of these
abbrev pub Spreads : Program → Flow → ℕ → Routine → ℕ → List Inferred → Tables → Tables → Bool → Type 0
Spreads p w i f l ns old new rose = Steps p old new rose (λ h. (k : ℕ) → Goes w h i f l k (at ns k)) (λ t. Unit {0})

-- all of them
abbrev pub AllGone : Program → Flow → ℕ → Routine → ℕ → List Inferred → Tables → Tables → Bool → Type 0
AllGone p w i f l ns old new rose = Steps p old new rose (λ h. (k : ℕ) → Goes w h i f l k (at ns k)) (λ t. (k : ℕ) → Gone w t i f l k (at ns k))

-- ---- What the rules grant

abbrev pub Moves : Program → Tables → Tables → Bool → (Tables → Type 0) → Type 0
Moves p old new rose Done = Steps p old new rose (Meets p) Done

abbrev pub LineDone : Program → ℕ → Routine → ℕ → Action → Tables → Type 0
LineDone p i f l x t = AreMet (family_of t) (seen_in p (family_of t) i f l x).demands × ((k : ℕ) → Gone (flow_of (binding_in f) x) t i f l k (at (seen_in p (family_of t) i f l x).names k))

-- the first n lines
abbrev pub LinesDone : Program → ℕ → Routine → ℕ → Tables → Type 0
LinesDone p i f n t = (l : ℕ) (x : Action) → l ≤ n → line_at f.lines l ≡ Some x → LineDone p i f l x t

abbrev pub EntryDone : ℕ → Routine → Tables → Type 0
EntryDone i f t = (k : ℕ) → Gone (flow.To 1) t i f 0 k (at (at_entry (family_of t) i f) k)

-- what the hub has for local name k went to the lines of numbers below n, 0 being the way out
abbrev pub HubDone : ℕ → Routine → ℕ → ℕ → Tables → Type 0
HubDone i f n k t = (m : ℕ) → m < n → Lands (family_of t) i f m k (look t (Hub i k))

-- what it has for the first n local names went to all lines
abbrev pub HubsDone : ℕ → Routine → ℕ → Tables → Type 0
HubsDone i f n t = (k : ℕ) → k < n → (m : ℕ) → Lands (family_of t) i f m k (look t (Hub i k))

pub record FunctionDone (p : Program) (i : ℕ) (f : Routine) (t : Tables) : Type 0 where
  pub entry : EntryDone i f t
  pub hubs : (m k : ℕ) → Lands (family_of t) i f m k (look t (Hub i k))
  pub lines : (l : ℕ) (x : Action) → line_at f.lines l ≡ Some x → LineDone p i f l x t

-- the first n functions
abbrev pub FunctionsDone : Program → ℕ → Tables → Type 0
FunctionsDone p n t = (i : ℕ) (fn : Function) → i < n → IsFunction p i fn → FunctionDone p i (routine_of p fn) t

-- each fact of a row lies below the other's
abbrev pub AreBelow : List Inferred → List Inferred → Type 0
AreBelow [] [] = Unit {0}
AreBelow [] (y ∷ ys) = ⊥
AreBelow (x ∷ xs) [] = ⊥
AreBelow (x ∷ xs) (y ∷ ys) = (below x y ≡ true) × AreBelow xs ys

-- a family that meets the rules is still above, and there is no more room
pub record Keeps (p : Program) (old new : Tables) : Type 0 where
  pub under : (h : Family) → Meets p h → IsUnder p old h → IsUnder p new h
  pub room : room_of new ≤ room_of old

-- some work in whatever order, and then a pass over everything
pub record Rounds (p : Program) (old new : Tables) (rose : Bool) : Type 0 where
  pub under : (h : Family) → Meets p h → IsUnder p old h → IsUnder p new h
  pub done : rose ≡ false → FunctionsDone p (length p.functions) new
  pub falls : rose ≡ true → room_of new < room_of old
