use Rattle.aplc_arr.proofs.KeepsEach.{keeps-each_dyadic}
use Rattle.aplc_arr.proofs.KeepsStructure.{keeps-reshape, keeps-catenate, keeps-rotate}
use Rattle.aplc_arr.proofs.KeepsAxes.{keeps-moved}
use Rattle.aplc_arr.proofs.KeepsSelection.{keeps-take, keeps-drop, keeps-replicate, keeps-expand, keeps-index_of, keeps-member}
use Rattle.aplc_arr.proofs.KeepsOperators.{keeps-outer, keeps-inner}
use Rattle.aplc_arr.proofs.laws.arrays_stay_dyadic.Goals as goal

pub returns-clause-each : goal.returns-clause-each
returns-clause-each c = keeps-each_dyadic

pub returns-clause-reshape : goal.returns-clause-reshape
returns-clause-reshape c = keeps-reshape

pub returns-clause-catenate : goal.returns-clause-catenate
returns-clause-catenate c = keeps-catenate

pub returns-clause-rotate : goal.returns-clause-rotate
returns-clause-rotate c = keeps-rotate

pub returns-clause-transpose : goal.returns-clause-transpose
returns-clause-transpose c = keeps-moved

pub returns-clause-take : goal.returns-clause-take
returns-clause-take c = keeps-take

pub returns-clause-drop : goal.returns-clause-drop
returns-clause-drop c = keeps-drop

pub returns-clause-replicate : goal.returns-clause-replicate
returns-clause-replicate c = keeps-replicate

pub returns-clause-expand : goal.returns-clause-expand
returns-clause-expand c = keeps-expand

pub returns-clause-index_of : goal.returns-clause-index_of
returns-clause-index_of c = keeps-index_of

pub returns-clause-member : goal.returns-clause-member
returns-clause-member c = keeps-member

pub returns-clause-outer : goal.returns-clause-outer
returns-clause-outer c = keeps-outer

pub returns-clause-inner : goal.returns-clause-inner
returns-clause-inner c = keeps-inner
