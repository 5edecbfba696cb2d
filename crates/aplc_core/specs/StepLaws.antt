-- What the steps of a resolved program say of its statements, line by line.
use Rattle.std.specs.Prelude.{◌≡◌, ℕ, Some, slice_get, nat_eq}
use Rattle.std.specs.List.{IsDistinct}
use Rattle.std.specs.List.Sorted.{IsPermutation}
use Rattle.aplc_syntax.specs.declared.tree.Program.{Program}
use Rattle.aplc_names.specs.PlainPrograms.{Action, Routine, plain}
use Rattle.aplc_names.specs.Runs.{line_at}
use Rattle.aplc_core.specs.CoreLaws.{action_ids}
use Rattle.aplc_core.specs.CorePrograms.{line_steps}
use Rattle.aplc_core.specs.Structure.{order_of, Says}

-- x is the statement of line l, counted from 1, of function i, counted from 0
abbrev pub IsStatementOf : Program → ℕ → ℕ → Action → Type 0
IsStatementOf p i l x = (f : Routine) × (slice_get (plain p).routines i ≡ Some f) × (line_at f.lines l ≡ Some x)

pub record SaysStatements (p : Program) : Type 0 where
  -- The steps of a line are the nodes of its statement in eager order, each with its own arguments: in a tree under its own
  -- number, or as the result of a call or of an input.
  pub says : (i l : ℕ) (x : Action) → IsStatementOf p i l x → Says (line_steps p i l) x (order_of x)
  -- that order has each node of the statement
  pub each_node : (i l : ℕ) (x : Action) → IsStatementOf p i l x → IsPermutation (action_ids x) (order_of x)
  -- and none twice
  pub no_node_twice : (i l : ℕ) (x : Action) → IsStatementOf p i l x → IsDistinct nat_eq (order_of x)
