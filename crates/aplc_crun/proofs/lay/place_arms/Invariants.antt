use Rattle.std.proofs.Common.{◌≡◌, ◌++◌, drop}
use Rattle.aplc_crun.specs.Building.{choices_up}
use Rattle.aplc_crun.proofs.lay.place_arms.Given as goal

abbrev pub invariant-loop-arm : goal.invariant-loop-arm
invariant-loop-arm l = l.choices.items ++ choices_up l.place (drop l.arm-index l.arms) l.next ≡ choices_up l.at l.arms l.next
