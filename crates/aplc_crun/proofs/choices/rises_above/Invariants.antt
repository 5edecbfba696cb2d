use Rattle.std.proofs.Common.{◌≡◌, drop}
use Rattle.aplc_crun.specs.Choosing.{rises_above}
use Rattle.aplc_crun.proofs.choices.rises_above.Given as goal

abbrev pub invariant-loop-arm : goal.invariant-loop-arm
invariant-loop-arm l = rises_above l.low (drop l.arm-index l.arms) ≡ rises_above l.fn.low l.arms
