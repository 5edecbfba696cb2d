use Rattle.std.proofs.Common.{ap, ◌∙◌}
use Rattle.aplc_core.specs.Stands.{slot_term}
use Rattle.aplc_core.proofs.Turned.{all_kept_over, slot_over, none_waits, count_taken, stand_over}
use Rattle.aplc_core.proofs.lowering.Lowering.last_slot.Goals as goal

pub unreachable-requires : goal.unreachable-requires
unreachable-requires c =
    none_waits c.args.self.now c.keep_each.new.self c.replace-trees.new.dest.items (ap (λ v. v.items) c.replace-trees.ensures.after ∙ c.new.ensures.items) c.in-None.ensures.0
    (all_kept_over c.self.inside.waiting.items c.replace-trees.result.items c.replace-trees.new.dest.items c.self.inside.written c.keep_each.new.self c.args.self.now c.self.view_is (ap (λ v. v.items) c.replace-trees.ensures.value) (ap (λ v. v.items) c.replace-trees.ensures.after ∙ c.new.ensures.items) c.in_ok-keep_each.ensures.slots c.in_ok-keep_each.ensures.kept)
    c.requires

pub returns-clause-kept : goal.returns-clause-kept
returns-clause-kept c =
    slot_over c.replace-trees.new.dest.items c.keep_each.new.self c.pop.new.self c.args.self.now c.in-Some.kept (ap (λ v. v.items) c.replace-trees.ensures.after ∙ c.new.ensures.items)
    (all_kept_over c.self.inside.waiting.items c.replace-trees.result.items c.replace-trees.new.dest.items c.self.inside.written c.keep_each.new.self c.args.self.now c.self.view_is (ap (λ v. v.items) c.replace-trees.ensures.value) (ap (λ v. v.items) c.replace-trees.ensures.after ∙ c.new.ensures.items) c.in_ok-keep_each.ensures.slots c.in_ok-keep_each.ensures.kept)
    c.in-Some.ensures

pub returns-clause-count : goal.returns-clause-count
returns-clause-count c =
    count_taken c.args.self.now (stand_over c.replace-trees.new.dest.items c.pop.new.self) (slot_term c.in-Some.kept) (slot_over c.replace-trees.new.dest.items c.keep_each.new.self c.pop.new.self c.args.self.now c.in-Some.kept (ap (λ v. v.items) c.replace-trees.ensures.after ∙ c.new.ensures.items) (all_kept_over c.self.inside.waiting.items c.replace-trees.result.items c.replace-trees.new.dest.items c.self.inside.written c.keep_each.new.self c.args.self.now c.self.view_is (ap (λ v. v.items) c.replace-trees.ensures.value) (ap (λ v. v.items) c.replace-trees.ensures.after ∙ c.new.ensures.items) c.in_ok-keep_each.ensures.slots c.in_ok-keep_each.ensures.kept) c.in-Some.ensures)
