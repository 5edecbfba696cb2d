-- The facts so far.
use Rattle.std.proofs.Common.{◌≡◌, take}
use Rattle.aplc_infer.proofs.facts.all_copied.Given as goal

abbrev pub invariant-loop-fact : goal.invariant-loop-fact
invariant-loop-fact l = l.out.items ≡ take l.fact-index l.facts
