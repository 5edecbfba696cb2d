use Rattle.aplc_stage.proofs.Copies.{copy_number}
use Rattle.aplc_stage.proofs.monadic.copy_scalar.Goals as goal

pub returns-clause-computes : goal.returns-clause-computes
returns-clause-computes c = copy_number c.args.b.now c.emit.new.b c.args.x c.in_ok-v.v c.in_ok-v.ensures.emits
