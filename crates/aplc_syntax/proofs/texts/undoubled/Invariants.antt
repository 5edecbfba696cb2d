use Rattle.std.proofs.Common.{◌≡◌, ◌++◌, length}
use Rattle.aplc_syntax.specs.Words.{undoubled}
use Rattle.aplc_syntax.proofs.texts.undoubled.Given as goal

abbrev pub invariant-loop-rest : goal.invariant-loop-rest
invariant-loop-rest l = l.out.items ++ undoubled l.rest ≡ undoubled l.chars

abbrev pub decreases-loop-rest : goal.decreases-loop-rest
decreases-loop-rest l = length l.rest
