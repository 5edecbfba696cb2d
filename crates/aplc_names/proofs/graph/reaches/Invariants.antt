use Rattle.std.proofs.Common.{◌≡◌, ℕ, List, Bool, Some, length}
use Rattle.std.specs.List.{slice_get}
use Rattle.aplc_names.specs.Graphs.{IsReach}
use Rattle.aplc_names.proofs.graph.reaches.Given as goal

abbrev pub invariant-loop-i : goal.invariant-loop-i
invariant-loop-i l = (length l.rows.items ≡ l.i) × ((i : ℕ) (row : List Bool) → slice_get l.rows.items i ≡ Some row → IsReach l.graph i row)
