use Rattle.std.proofs.Common.{◌≡◌, ℕ, drop}
use Rattle.std.specs.Prelude.{◌||◌, ◌&&◌}
use Rattle.aplc_names.specs.States.{is_among}
use Rattle.aplc_infer.specs.Shown.{fact_at}
use Rattle.aplc_plan.specs.Held.{held_in, has_axes}
use Rattle.aplc_plan.proofs.planning.held_of.Given as goal

-- the nodes held so far, and those left that will be
abbrev pub invariant-loop-node : goal.invariant-loop-node
invariant-loop-node l = (n : ℕ) → (held_in l.table.items n || (is_among n (drop l.node-index l.nodes) && has_axes (fact_at l.core.facts n))) ≡ (is_among n l.nodes && has_axes (fact_at l.core.facts n))
