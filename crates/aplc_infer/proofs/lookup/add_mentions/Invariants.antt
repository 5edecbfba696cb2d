-- The names left, added to those that are there, give the whole.
use Rattle.std.proofs.Common.{◌≡◌, drop, map}
use Rattle.aplc_names.specs.Scopes.{scope_of}
use Rattle.aplc_infer.specs.Seeing.{with_each, local_ones, mentioned}
use Rattle.aplc_infer.proofs.lookup.add_mentions.Given as goal

abbrev pub invariant-loop-mention : goal.invariant-loop-mention
invariant-loop-mention l = with_each l.locals (local_ones (scope_of l.bound l.function) (map mentioned (drop l.mention-index l.mentions))) ≡ with_each l.fn.locals (local_ones (scope_of l.bound l.function) (map mentioned l.mentions))
