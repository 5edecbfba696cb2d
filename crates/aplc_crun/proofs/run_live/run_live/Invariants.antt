use Rattle.std.proofs.Common.{◌≡◌, ◌+◌, ◌-◌, ◌≤◌}
use Rattle.aplc_crun.specs.Flat.{flat_of, layout_of, flat_run, Going}
use Rattle.aplc_crun.proofs.run_live.run_live.Given as goal

abbrev pub invariant-loop-taken : goal.invariant-loop-taken
invariant-loop-taken l = record {
  most : l.taken ≤ l.budget;
  steps : l.live.steps ≡ l.fn.live.steps + l.taken;
  ran : flat_run (layout_of l.laid) l.taken (flat_of l.fn.live) ≡ Going (flat_of l.live);
}

abbrev pub decreases-loop-taken : goal.decreases-loop-taken
decreases-loop-taken l = l.budget - l.taken
