use Rattle.aplc_core.specs.PlainSteps.{term_of}
use Rattle.aplc_gen.specs.Sound.{term_cost}
use Rattle.aplc_gen.proofs.terms.+trees.Given as goal

abbrev pub decreases-emit_tree : goal.decreases-emit_tree
decreases-emit_tree l = term_cost (term_of l.tree.now)
