use Rattle.std.proofs.Common.{◌≡◌, drop}
use Rattle.aplc_stage.specs.Pieces.{differ}
use Rattle.aplc_stage.proofs.conforming.differ.Given as goal

-- the test of the lengths that are done
abbrev pub invariant-loop-index : goal.invariant-loop-index
invariant-loop-index l = l.any ≡ differ (drop l.index l.left) (drop l.index l.right)
