use Rattle.aplc_syntax.proofs.Clean.{clean}
use Rattle.aplc_syntax.proofs.laws.program_or_refusal.Goals as goal

pub returns : goal.returns
returns c = λ text ts p r h s. clean text ts p h r s
