use Rattle.aplc_cread.proofs.Refusals.{begun, not_begun}
use Rattle.aplc_cread.proofs.whole.begins.Goals as goal

pub returns-in-None : goal.returns-in-None
returns-in-None c = begun (c.in-Err-At.ensures.ends c.in-Err-At.rest c.in-Err-At.field-0-is) c.in-None.ensures

pub returns-in-Some : goal.returns-in-Some
returns-in-Some c = not_begun _ _ (c.in-Err-At.ensures.ends c.in-Err-At.rest c.in-Err-At.field-0-is) c.in-Some.ensures
