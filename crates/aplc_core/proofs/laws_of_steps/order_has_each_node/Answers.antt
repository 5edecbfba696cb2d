use Rattle.aplc_core.proofs.Ordered.{each_in_order}
use Rattle.aplc_core.proofs.laws_of_steps.order_has_each_node.Goals as goal

pub returns : goal.returns
returns c = each_in_order
