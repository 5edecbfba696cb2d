use Rattle.aplc_arr.proofs.KeepsIndexing.{keeps-index, keeps-change}
use Rattle.aplc_arr.proofs.laws.arrays_stay_indexed.Goals as goal

pub returns-clause-index : goal.returns-clause-index
returns-clause-index c = keeps-index

pub returns-clause-change : goal.returns-clause-change
returns-clause-change c = keeps-change
