use Rattle.aplc_core.proofs.Turned.{slot_popped}
use Rattle.aplc_core.proofs.written.Written.pop.Goals as goal

pub returns : goal.returns
returns c = slot_popped c.self.inside.steps.items c.self.inside.free c.self.inside.kept c.pop.new.self c.pop.result c.args.self.now c.self.view_is c.pop.ensures
