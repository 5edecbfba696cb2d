use Rattle.std.proofs.Common.{ap, sym, ◌∙◌}
use Rattle.aplc_syntax.specs.PlainTrees.{argument_in}
use Rattle.aplc_gen.specs.Unbuilt.{smaller, least, argument_unbuilt}
use Rattle.aplc_gen.proofs.Places.{smaller_none, entry_next}
use Rattle.aplc_gen.proofs.unbuilt.+nodes.Goals as goal
use Rattle.aplc_gen.proofs.unbuilt.+nodes.Goals.{in_entries-in-None, in_entries-in-Some}

pub in_entries-loop-entry-preserved : goal.in_entries-loop-entry-preserved
in_entries-loop-entry-preserved t c =
    elim c.match-entry.branch [
      | in_entries-in-None w ↦ entry_next c.args.facts.now c.loop-entry.found c.match-entry.found _ c.args.entries.now c.loop-entry.entry-index c.entry-item.result c.loop-entry-test.true c.entry-item.is
          (w.found-is ∙ sym (smaller_none c.loop-entry.found) ∙ ap (λ x. smaller c.loop-entry.found (least (argument_unbuilt c.args.facts.now (argument_in x)))) (sym w.in-None.is)) c.loop-entry.invariant
      | in_entries-in-Some w ↦ entry_next c.args.facts.now c.loop-entry.found c.match-entry.found _ c.args.entries.now c.loop-entry.entry-index c.entry-item.result c.loop-entry-test.true c.entry-item.is
          (w.found-is ∙ w.smaller-found.ensures ∙ ap (smaller c.loop-entry.found) w.in_node.ensures ∙ ap (λ x. smaller c.loop-entry.found (least (argument_unbuilt c.args.facts.now (argument_in x)))) (sym w.in-Some.is)) c.loop-entry.invariant
    ]
