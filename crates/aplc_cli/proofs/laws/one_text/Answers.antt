use Rattle.aplc_cli.proofs.Texts.{one_text}
use Rattle.aplc_cli.proofs.laws.one_text.Goals as goal

pub returns : goal.returns
returns c = one_text
