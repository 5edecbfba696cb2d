use Rattle.std.proofs.Common.{◌≡◌, length}
use Rattle.aplc_syntax.specs.Refusals.{stray}
use Rattle.aplc_syntax.proofs.checking.stray.Given as goal

abbrev pub invariant-loop-rest : goal.invariant-loop-rest
invariant-loop-rest l = stray l.rest ≡ stray l.words

abbrev pub decreases-loop-rest : goal.decreases-loop-rest
decreases-loop-rest l = length l.rest
