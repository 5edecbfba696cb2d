use Rattle.std.proofs.Common.{rules, ◌<◌, ◌+◌, sym, subst, length, arith}
use Rattle.std.proofs.lemmas.Bool.Decides.{nat_tests}
use Rattle.std.proofs.lemmas.List.{drop_all}
use Rattle.aplc_core.specs.Stands.{Stand}
use Rattle.aplc_core.proofs.Listing.{Listing, left_out_listed, tree_listed, all_listed}
use Rattle.aplc_core.proofs.lowering.Lowering.last_list.Goals as goal
use Rattle.aplc_core.proofs.lowering.Lowering.last_list.Goals.{in-None+in_ok-push-in-None, in-Some+in_ok-push-in-Some}

pub loop-entry-preserved : goal.loop-entry-preserved
loop-entry-preserved c =
    let p : c.loop-entry.entry-index < length c.args.entries.now = grind (arith, nat_tests) in
    elim c.match-entry.branch [
      | in-None+in_ok-push-in-None w ↦
          subst (λ (s : Stand). Listing c.args.entries.now c.args.self.now (c.loop-entry.entry-index + 1) c.match-entry.list.items s) (sym w.self-is)
          (left_out_listed c.args.entries.now c.args.self.now c.loop-entry.self c.loop-entry.entry-index c.loop-entry.list.items c.match-entry.list.items c.entry-item.result p (search rules) c.loop-entry.invariant (search rules) (search rules))
      | in-Some+in_ok-push-in-Some w ↦
          subst (λ (s : Stand). Listing c.args.entries.now c.args.self.now (c.loop-entry.entry-index + 1) c.match-entry.list.items s) (sym w.self-is)
          (tree_listed c.args.entries.now c.args.self.now c.loop-entry.self c.loop-entry.entry-index c.loop-entry.list.items c.match-entry.list.items c.entry-item.result p (search rules) c.loop-entry.invariant w.in-Some.field-0 w.last-tree.result w.last-tree.new.self (search rules) w.last-tree.ensures.tree w.last-tree.ensures.count (search rules))
    ]

pub returns-clause-list : goal.returns-clause-list
returns-clause-list c = all_listed c.args.entries.now c.args.self.now c.loop-entry.self c.loop-entry.entry-index c.loop-entry.list.items (drop_all c.loop-entry.entry-index c.args.entries.now (grind (arith, nat_tests))) c.loop-entry.invariant
