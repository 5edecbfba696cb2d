use Rattle.aplc_arr.proofs.Shapes.{gives-indexed, gives-changed}
use Rattle.aplc_arr.proofs.laws.shapes_indexed.Goals as goal

pub returns-clause-index : goal.returns-clause-index
returns-clause-index c = gives-indexed

pub returns-clause-change : goal.returns-clause-change
returns-clause-change c = gives-changed
