use Rattle.aplc_cli.proofs.Always.{source_or_refused}
use Rattle.aplc_cli.proofs.laws.every_file.Goals as goal

pub returns : goal.returns
returns c = source_or_refused
