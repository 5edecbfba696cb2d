use Rattle.std.proofs.Common.{◌∙◌}
use Rattle.aplc_syntax.specs.PlainTrees.{trees_in}
use Rattle.aplc_core.specs.Stands.{pass_of}
use Rattle.aplc_core.proofs.Listing.{index_made}
use Rattle.aplc_core.proofs.lowering.Lowering.index.Goals as goal

pub returns-clause-pass : goal.returns-clause-pass
returns-clause-pass c =
    index_made c.args.node (trees_in c.args.entries.now) (pass_of c.args.self.now) c.last.new.self c.last_list.new.self c.wait.new.self c.last.result c.in_ok-base.base c.in_ok-list.list.items c.in_ok-boxed.boxed c.last.ensures.tree c.in_ok-list.ensures.list c.in_ok-base.ensures (c.in_ok-boxed.ensures ∙ c.from_vec.ensures) c.in_ok-wait.ensures.pass
