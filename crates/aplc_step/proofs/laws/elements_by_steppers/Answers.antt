use Rattle.aplc_step.proofs.Addresses.{element_is, over_stays}
use Rattle.aplc_step.proofs.laws.elements_by_steppers.Goals as goal

pub returns-clause-element : goal.returns-clause-element
returns-clause-element c = element_is

pub returns-clause-stays : goal.returns-clause-stays
returns-clause-stays c = over_stays
