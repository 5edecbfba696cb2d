use Rattle.aplc_infer.proofs.Existing as existing
use Rattle.aplc_infer.proofs.laws.always_one.Goals as goal

pub returns : goal.returns
returns c = existing.always_one
