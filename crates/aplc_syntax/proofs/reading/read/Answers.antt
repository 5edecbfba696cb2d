use Rattle.aplc_syntax.proofs.Answered.{found, none_read}
use Rattle.aplc_syntax.proofs.reading.read.Goals as goal

pub returns-clause-found : goal.returns-clause-found
returns-clause-found c = found _ _ c.read_all.ensures

pub returns-clause-none : goal.returns-clause-none
returns-clause-none c = none_read _ _ c.read_all.ensures
