use Rattle.aplc_cli.proofs.Texts.{neither}
use Rattle.aplc_cli.proofs.laws.every_text.Goals as goal

pub returns : goal.returns
returns c = neither
