use Rattle.std.specs.Prelude.{length}
use Rattle.aplc_names.specs.Balance.{numbers_below}
use Rattle.aplc_names.specs.PlainPrograms.{plain}
use Rattle.aplc_names.proofs.AssignedNames.{assigns_its_names}
use Rattle.aplc_names.proofs.Balancing.{stays_balanced}
use Rattle.aplc_names.proofs.run_laws.always_balanced.Goals as goal

pub returns : goal.returns
returns c = λ p grammatical clean. stays_balanced (numbers_below (length p.names)) (plain p) (assigns_its_names p grammatical clean)
