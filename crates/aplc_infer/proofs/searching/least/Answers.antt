use Rattle.aplc_infer.proofs.Moving.{sound_start}
use Rattle.aplc_infer.proofs.searching.least.Goals as goal

pub rising-init : goal.rising-init
rising-init c = sound_start c.args.lookup.now c.in_ok-tables.tables c.in_ok-tables.ensures
