use Rattle.aplc_arr.proofs.KeepsEach.{keeps-each_monadic}
use Rattle.aplc_arr.proofs.KeepsStructure.{keeps-shape, keeps-ravel, keeps-iota, keeps-reverse, keeps-transpose}
use Rattle.aplc_arr.proofs.KeepsOperators.{keeps-reduce, keeps-scan}
use Rattle.aplc_arr.proofs.laws.arrays_stay_monadic.Goals as goal

pub returns-clause-each : goal.returns-clause-each
returns-clause-each c = keeps-each_monadic

pub returns-clause-shape : goal.returns-clause-shape
returns-clause-shape c = keeps-shape

pub returns-clause-ravel : goal.returns-clause-ravel
returns-clause-ravel c = keeps-ravel

pub returns-clause-iota : goal.returns-clause-iota
returns-clause-iota c = λ o b i. keeps-iota o b i

pub returns-clause-reverse : goal.returns-clause-reverse
returns-clause-reverse c = keeps-reverse

pub returns-clause-transpose : goal.returns-clause-transpose
returns-clause-transpose c = keeps-transpose

pub returns-clause-reduce : goal.returns-clause-reduce
returns-clause-reduce c = keeps-reduce

pub returns-clause-scan : goal.returns-clause-scan
returns-clause-scan c = keeps-scan
