use Rattle.aplc_cli.proofs.Verdicts.{one_source}
use Rattle.aplc_cli.proofs.laws.one_source.Goals as goal

pub returns : goal.returns
returns c = one_source
