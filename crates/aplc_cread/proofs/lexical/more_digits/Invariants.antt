use Rattle.std.proofs.Common.{length, ◌≡◌, ◌++◌, ◌<◌, decimal}
use Rattle.aplc_cread.proofs.lexical.more_digits.Given as goal

abbrev pub invariant-loop-c : goal.invariant-loop-c
invariant-loop-c l = record { below : l.number < l.bound; read : l.input ≡ decimal l.number ++ l.rest }

abbrev pub decreases-loop-c : goal.decreases-loop-c
decreases-loop-c l = length l.rest
