use Rattle.aplc_stage.proofs.Chains.{old_given}
use Rattle.aplc_builder_tests.proofs.staged.read_scalar.Goals as goal

pub returns-clause-given : goal.returns-clause-given
returns-clause-given c = λ d. old_given c.args.scalar d (c.requires.name d.ints)
