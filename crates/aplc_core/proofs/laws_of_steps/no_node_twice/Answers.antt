use Rattle.aplc_core.proofs.Ordered.{each_once}
use Rattle.aplc_core.proofs.laws_of_steps.no_node_twice.Goals as goal

pub returns : goal.returns
returns c = each_once
