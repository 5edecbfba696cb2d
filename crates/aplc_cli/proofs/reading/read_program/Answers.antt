use Rattle.aplc_cli.proofs.Stages.{typed}
use Rattle.aplc_cli.proofs.reading.read_program.Goals as goal

pub returns-in-Err-clause-refused : goal.returns-in-Err-clause-refused
returns-in-Err-clause-refused c = typed c.args.file.now c.in_ok-bound.bound c.in-Err.stop c.in_ok-bound.ensures.spells c.in_ok-bound.ensures.clean c.in-Err.ensures.refused
