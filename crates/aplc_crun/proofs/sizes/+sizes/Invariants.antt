use Rattle.std.proofs.Common.{◌≡◌, ◌<◌, ◌^◌, drop, map}
use Rattle.aplc_cprof.specs.Machine.{size, total}
use Rattle.aplc_crun.specs.Building.{place_after, arm_size}
use Rattle.aplc_crun.proofs.sizes.+sizes.Given as goal

abbrev pub invariant-after_all-loop-x : goal.invariant-after_all-loop-x
invariant-after_all-loop-x l = (l.place < 2 ^ 64) × (place_after l.place (total (map size (drop l.x-index l.xs))) ≡ place_after l.at (total (map size l.xs)))

abbrev pub invariant-after_arms-loop-arm : goal.invariant-after_arms-loop-arm
invariant-after_arms-loop-arm l = (l.place < 2 ^ 64) × (place_after l.place (total (map arm_size (drop l.arm-index l.arms))) ≡ place_after l.at (total (map arm_size l.arms)))
