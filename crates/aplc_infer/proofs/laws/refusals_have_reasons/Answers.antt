use Rattle.aplc_infer.proofs.Reasons.{first_reason}
use Rattle.aplc_infer.proofs.laws.refusals_have_reasons.Goals as goal

pub returns : goal.returns
returns c = first_reason
