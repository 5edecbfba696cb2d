use Rattle.std.proofs.Common.{length, ◌≡◌, ◌++◌, ◌<◌, decimal}
use Rattle.aplc_cread.specs.Ranges.{Reach}
use Rattle.aplc_cread.proofs.range.more_in.Given as goal

abbrev pub invariant-loop-c : goal.invariant-loop-c
invariant-loop-c l = record { below : l.number < l.bound; reach : Reach l.low l.bound l.number; read : l.input ≡ decimal l.number ++ l.rest }

abbrev pub decreases-loop-c : goal.decreases-loop-c
decreases-loop-c l = length l.rest
