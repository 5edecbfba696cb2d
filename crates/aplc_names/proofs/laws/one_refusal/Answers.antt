use Rattle.aplc_lex.proofs.Order.{one_first}
use Rattle.aplc_names.specs.Clashes.{Stands}
use Rattle.aplc_names.proofs.laws.one_refusal.Goals as goal

pub returns : goal.returns
returns c = λ p r s h k. one_first (Stands p) r s h k
