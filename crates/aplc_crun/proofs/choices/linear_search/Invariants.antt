use Rattle.std.proofs.Common.{◌≡◌, drop}
use Rattle.aplc_crun.specs.Flat.{picked}
use Rattle.aplc_crun.proofs.choices.linear_search.Given as goal

abbrev pub invariant-loop-arm : goal.invariant-loop-arm
invariant-loop-arm l = picked l.v (drop l.arm-index l.arms) l.other ≡ picked l.v l.arms l.other
