use Rattle.aplc_infer.proofs.Verdicts as verdicts
use Rattle.aplc_infer.proofs.laws.one_refusal.Goals as goal

pub returns : goal.returns
returns c = verdicts.one_refusal
