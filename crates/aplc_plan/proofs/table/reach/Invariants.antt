use Rattle.std.proofs.Common.{◌≡◌, ℕ, ◌-◌, ◌+◌, length}
use Rattle.aplc_plan.specs.Held.{held_in}
use Rattle.aplc_plan.proofs.table.reach.Given as goal

abbrev pub invariant-loop-table : goal.invariant-loop-table
invariant-loop-table l = (n : ℕ) → held_in l.table.items n ≡ held_in l.fn.table.items n

abbrev pub decreases-loop-table : goal.decreases-loop-table
decreases-loop-table l = l.node + 1 - length l.table.items
