use Rattle.aplc_infer.proofs.Refused.{untyped_by}
use Rattle.aplc_infer.proofs.inferring.conclude.Goals as goal

pub returns-in-Some-clause-untyped : goal.returns-in-Some-clause-untyped
returns-in-Some-clause-untyped c = λ typed. untyped_by c.args.bound.now c.args.found.tables c.args.found.first c.in-Some.r c.requires.least c.requires.first c.in-Some.is typed
