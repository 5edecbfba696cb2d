use Rattle.aplc_stage.proofs.Monadics.{mono_number}
use Rattle.aplc_stage.proofs.monadic.mono_scalar.Goals as goal

pub returns-clause-computes : goal.returns-clause-computes
returns-clause-computes c = mono_number c.args.f c.args.b.now c.mono_code.new.b c.args.x c.in_ok-v.v c.requires.form c.requires.given c.in_ok-v.ensures.emits
