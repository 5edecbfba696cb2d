use Rattle.std.proofs.Common.{◌≡◌, drop}
use Rattle.aplc_stage.specs.Pieces.{all_one}
use Rattle.aplc_stage.proofs.conforming.all_one.Given as goal

-- the test of the lengths that are done
abbrev pub invariant-loop-index : goal.invariant-loop-index
invariant-loop-index l = l.all ≡ all_one (drop l.index l.lengths)
