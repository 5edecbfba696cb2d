use Rattle.aplc_cli.proofs.Texts.{not_both}
use Rattle.aplc_cli.proofs.laws.text_or_refusal.Goals as goal

pub returns : goal.returns
returns c = not_both
