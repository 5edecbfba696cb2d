use Rattle.aplc_cli.proofs.Verdicts.{not_both}
use Rattle.aplc_cli.proofs.laws.source_or_refusal.Goals as goal

pub returns : goal.returns
returns c = not_both
