use Rattle.aplc_infer.proofs.Verdicts.{not_both}
use Rattle.aplc_infer.proofs.laws.typed_or_refused.Goals as goal

pub returns : goal.returns
returns c = not_both
