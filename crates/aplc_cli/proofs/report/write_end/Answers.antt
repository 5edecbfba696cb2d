use Rattle.std.proofs.Common.{rules}
use Rattle.aplc_cli.proofs.report.write_end.Goals as goal

pub returns-in-Spent : goal.returns-in-Spent
returns-in-Spent g c = rw c.in-Spent.is (search rules)
