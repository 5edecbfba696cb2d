use Rattle.aplc_names.proofs.Scoped.{scope_stands}
use Rattle.aplc_names.proofs.laws.every_scope.Goals as goal

pub returns : goal.returns
returns c = scope_stands
