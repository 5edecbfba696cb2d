use Rattle.std.proofs.Common.{◌≡◌, ◌++◌, drop}
use Rattle.aplc_stage.specs.Pieces.{clears}
use Rattle.aplc_stage.proofs.moving.clears.Given as goal

abbrev pub invariant-loop-index : goal.invariant-loop-index
invariant-loop-index l = l.code ++ clears (drop l.index l.to) ≡ clears l.to
