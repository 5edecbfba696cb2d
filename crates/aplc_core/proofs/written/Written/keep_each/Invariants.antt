-- What is kept, with what is left, is what is to be kept.
use Rattle.std.proofs.Common.{◌≡◌, map}
use Rattle.aplc_core.specs.PlainSteps.{term_of}
use Rattle.aplc_core.specs.Passes.{next_slot}
use Rattle.aplc_core.specs.Stands.{pass_of, kept_in_turn}
use Rattle.aplc_core.proofs.written.Written.keep_each.Given as goal

abbrev pub invariant-loop-tree : goal.invariant-loop-tree
invariant-loop-tree l = kept_in_turn next_slot (map term_of l.tree-iterator.rest.items) (pass_of l.self) ≡ kept_in_turn next_slot (map term_of l.fn.trees.items) (pass_of l.fn.self)
