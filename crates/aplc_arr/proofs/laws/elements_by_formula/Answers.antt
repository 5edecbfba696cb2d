use Rattle.aplc_arr.proofs.Elements.{count-cells, element-at, first-fault, computed-moved, at-array_by}
use Rattle.aplc_arr.proofs.laws.elements_by_formula.Goals as goal

pub returns-clause-count : goal.returns-clause-count
returns-clause-count c = count-cells

pub returns-clause-element : goal.returns-clause-element
returns-clause-element c = element-at

pub returns-clause-fault : goal.returns-clause-fault
returns-clause-fault c = first-fault

pub returns-clause-moved : goal.returns-clause-moved
returns-clause-moved c = computed-moved

pub returns-clause-at : goal.returns-clause-at
returns-clause-at c = at-array_by
