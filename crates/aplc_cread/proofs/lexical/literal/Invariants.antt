use Rattle.std.proofs.Common.{length}
use Rattle.aplc_cread.specs.Reading.{Common}
use Rattle.aplc_cread.proofs.lexical.literal.Given as goal

abbrev pub invariant-loop-c : goal.invariant-loop-c
invariant-loop-c l = Common l.fn.text l.input l.wanted l.rest

abbrev pub decreases-loop-c : goal.decreases-loop-c
decreases-loop-c l = length l.wanted
