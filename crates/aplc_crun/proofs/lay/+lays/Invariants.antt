use Rattle.std.proofs.Common.{take, length}
use Rattle.aplc_crun.specs.Building.{LaidBlock, LaidArms}
use Rattle.aplc_crun.proofs.lay.+lays.Given as goal

abbrev pub invariant-lay_block-loop-i : goal.invariant-lay_block-loop-i
invariant-lay_block-loop-i l = LaidBlock l.fn.code.items l.code.items (take l.i l.xs) (length l.code.items)

abbrev pub invariant-lay_arms-loop-arm : goal.invariant-lay_arms-loop-arm
invariant-lay_arms-loop-arm l = LaidArms l.fn.code.items l.code.items (take l.arm-index l.arms) l.next
