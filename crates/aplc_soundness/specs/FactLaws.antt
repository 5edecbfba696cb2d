-- The laws of facts: what holds of all that a run of a well-typed program gives to nodes.
use Rattle.std.specs.Prelude.{◌≡◌, ℕ, List, All, unwrap_or, nat_eq}
use Rattle.std.specs.List.{IsDistinct}
use Rattle.aplc_scalar.specs.declared.kind.FaultKind.{FaultKind}
use Rattle.aplc_scalar.specs.declared.kind.FaultKind.TheVariants as fault
use Rattle.aplc_syntax.specs.declared.tree.Program.{Program}
use Rattle.aplc_syntax.specs.Programs.{program_ids}
use Rattle.aplc_names.specs.PlainPrograms.{Action, Routine, plain}
use Rattle.aplc_names.specs.States.{Giving, Marking, final}
use Rattle.aplc_names.specs.Runs.{Run, eager, evaluated}
use Rattle.aplc_names.specs.Runs as run
use Rattle.aplc_infer.specs.declared.cell.Cell.TheVariants as cell
use Rattle.aplc_infer.specs.Seeing.{Family, declarations, context_of, fresh}
use Rattle.aplc_infer.specs.Families.{at_start, IsLine, Fits, IsWellTyped, IsLeastOf}
use Rattle.aplc_soundness.specs.Holding.{Holds, HoldsOf}
use Rattle.aplc_soundness.specs.Exact.{LinesExact}
use Rattle.aplc_soundness.specs.Taking.{ActionGiven}
use Rattle.aplc_soundness.specs.Passing.{ActionPasses}
use Rattle.aplc_soundness.specs.Changing.{ActionChanges}

-- each value that was given to a node is one of which the node's fact holds
abbrev pub AreHeld : Family → List Giving → Type 0
AreHeld g xs = All (λ (x : Giving). Holds (g (cell.Node x.node)) x.value) xs

-- Under every family of facts that fits, the least one among them, and whatever the marking, the input and the number of
-- lines: all that the run gives to nodes is held. That is each value at the moment at which it is given: also one that a
-- later one takes the place of, one in a function that is called, and one before a fault.
abbrev pub FactsHold : Program → Type 0
FactsHold p =
    (g : Family) → Fits (declarations p.vars) (plain p) g → (m : Marking) (input : List ℕ) (n : ℕ) → AreHeld g (final (evaluated (plain p) m input n)).world.given

-- and the values of global names are held in the end, so at each moment at which a run is stopped: each that has a value
-- has one of which the name's fact holds, the declared one if it is declared
abbrev pub GlobalsHold : Program → Type 0
GlobalsHold p =
    (g : Family) → Fits (declarations p.vars) (plain p) g → (m : Marking) (input : List ℕ) (n i : ℕ) → HoldsOf (unwrap_or (declarations p.vars i) (g (cell.Global i))) ((final (evaluated (plain p) m input n)).world.globals i)

abbrev pub IsFaultOf : FaultKind → Run → Type 0
IsFaultOf e (run.Ended o ms) = ⊥
IsFaultOf e (run.Faulted o ms k qs) = k ≡ e
IsFaultOf e (run.Going o ms) = ⊥

-- no run of a well-typed program ends with RANK
abbrev pub HasNoRankFault : Program → Type 0
HasNoRankFault p = IsWellTyped p → (m : Marking) (input : List ℕ) (n : ℕ) → IsFaultOf fault.Rank (eager (plain p) m input n) → ⊥

-- ---- Of a program in which no two nodes have one number

abbrev pub HasOwnNodes : Program → Type 0
HasOwnNodes p = IsDistinct nat_eq (program_ids p)

-- under the least facts each node has just the fact that the rules give where it is evaluated: of the facts of its
-- arguments, or of the name that it reads
abbrev pub NodesExact : Program → Type 0
NodesExact p = HasOwnNodes p → (g : Family) → IsLeastOf p g → LinesExact (declarations p.vars) (plain p) g

-- no function of a well-typed program is given a wrong kind: it takes the kinds of whatever the nodes of its arguments were
-- given
abbrev pub TakesKinds : Program → Type 0
TakesKinds p =
    HasOwnNodes p → IsWellTyped p → (m : Marking) (input : List ℕ) (n : ℕ) (j l : ℕ) (f : Routine) (x : Action) → IsLine (plain p) j l f x → ActionGiven (final (evaluated (plain p) m input n)).world.given x

-- under the least facts of a well-typed program what names that are read, arguments of calls and their results were given
-- is what their own facts hold of
abbrev pub PassesFacts : Program → Type 0
PassesFacts p =
    HasOwnNodes p → IsWellTyped p → (g : Family) → IsLeastOf p g → (m : Marking) (input : List ℕ) (n : ℕ) (j l : ℕ) (f : Routine) (x : Action) → IsLine (plain p) j l f x → ActionPasses (context_of (declarations p.vars) (plain p) f) g (final (evaluated (plain p) m input n)).world.given x

-- and an indexed assignment is given a value of the kind of what its name's fact holds of there, so of its own value's
abbrev pub ChangesKeepKinds : Program → Type 0
ChangesKeepKinds p =
    HasOwnNodes p → IsWellTyped p → (g : Family) → IsLeastOf p g → (m : Marking) (input : List ℕ) (n : ℕ) (j l : ℕ) (f : Routine) (x : Action) → IsLine (plain p) j l f x → ActionChanges (context_of (declarations p.vars) (plain p) f) g (final (evaluated (plain p) m input n)).world.given x (fresh (at_start g j f l))
