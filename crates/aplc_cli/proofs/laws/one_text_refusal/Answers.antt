use Rattle.aplc_cli.proofs.Texts.{one_refusal}
use Rattle.aplc_cli.proofs.laws.one_text_refusal.Goals as goal

pub returns : goal.returns
returns c = one_refusal
