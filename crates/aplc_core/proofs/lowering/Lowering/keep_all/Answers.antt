use Rattle.std.proofs.Common.{ap, ◌∙◌}
use Rattle.aplc_core.proofs.Turned.{all_kept_over, all_counted, stand_over}
use Rattle.aplc_core.proofs.lowering.Lowering.keep_all.Goals as goal

pub returns-clause-pass : goal.returns-clause-pass
returns-clause-pass c =
    all_kept_over c.self.inside.waiting.items c.replace-trees.result.items c.replace-trees.new.dest.items c.self.inside.written c.keep_each.new.self c.args.self.now c.self.view_is (ap (λ v. v.items) c.replace-trees.ensures.value) (ap (λ v. v.items) c.replace-trees.ensures.after ∙ c.new.ensures.items) c.keep_each.ensures.slots c.in_ok-keep_each.ensures.kept

pub returns-clause-count : goal.returns-clause-count
returns-clause-count c = all_counted c.args.self.now (stand_over c.replace-trees.new.dest.items c.keep_each.new.self) (returns-clause-pass c)
