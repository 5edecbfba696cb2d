use Rattle.std.proofs.Common.{◌≡◌, ◌≤◌, ◌-◌}
use Rattle.aplc_crun.specs.Flat.{flat_of, layout_of, flat_run, Going}
use Rattle.aplc_crun.specs.Sprinting.{stepped}
use Rattle.aplc_crun.proofs.sprint.sprint.Given as goal

abbrev pub invariant-loop-taken : goal.invariant-loop-taken
invariant-loop-taken l = record {
  most : l.taken ≤ l.limit;
  steps : l.live.steps ≡ l.fn.live.steps;
  ran : flat_run (layout_of l.laid) l.taken (flat_of l.fn.live) ≡ Going (stepped l.taken l.at (flat_of l.live));
}

abbrev pub decreases-loop-taken : goal.decreases-loop-taken
decreases-loop-taken l = l.limit - l.taken
