-- The facts so far.
use Rattle.std.proofs.Common.{◌≡◌, take}
use Rattle.std.specs.Prelude.{map}
use Rattle.aplc_infer.specs.Shown.{shown}
use Rattle.aplc_infer.proofs.facts.all_shown.Given as goal

abbrev pub invariant-loop-fact : goal.invariant-loop-fact
invariant-loop-fact l = l.out.items ≡ map shown (take l.fact-index l.facts)
