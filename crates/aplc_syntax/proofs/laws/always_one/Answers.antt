use Rattle.aplc_syntax.proofs.Always.{program_or_first}
use Rattle.aplc_syntax.proofs.laws.always_one.Goals as goal

pub returns : goal.returns
returns c = program_or_first
