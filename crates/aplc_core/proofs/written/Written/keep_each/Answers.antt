use Rattle.std.proofs.Common.{ap, sym, reverse}
use Rattle.aplc_core.specs.Passes.{next_slot}
use Rattle.aplc_core.specs.Stands.{Stand}
use Rattle.aplc_core.proofs.Turned.{slot_trees_stay}
use Rattle.aplc_core.proofs.written.Written.keep_each.Goals as goal

pub returns-in_err-keep-clause-slots : goal.returns-in_err-keep-clause-slots
returns-in_err-keep-clause-slots c = slot_trees_stay next_slot c.args.self.now (reverse c.self.inside.kept) (ap (λ (s : Stand). s.waiting) (sym c.self.view_is))

pub returns-clause-slots : goal.returns-clause-slots
returns-clause-slots c = slot_trees_stay next_slot c.args.self.now (reverse c.self.inside.kept) (ap (λ (s : Stand). s.waiting) (sym c.self.view_is))
