use Rattle.aplc_names.proofs.Scoped.{clean_start}
use Rattle.aplc_names.proofs.bound.Bound.start.Goals as goal

pub start_number-requires : goal.start_number-requires
start_number-requires c = clean_start c.self.inside.program c.self.invariant.clean
