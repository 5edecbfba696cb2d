use Rattle.aplc_cread.specs.Reading.{Best, nows}
use Rattle.aplc_cread.proofs.lexical.one_of.Given as goal

abbrev pub invariant-loop-i : goal.invariant-loop-i
invariant-loop-i l = Best (nows l.texts) l.allowed l.input l.i l.best
