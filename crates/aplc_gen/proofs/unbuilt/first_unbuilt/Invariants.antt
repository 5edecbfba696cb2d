use Rattle.std.proofs.Common.{◌≡◌, drop}
use Rattle.aplc_gen.specs.Unbuilt.{smaller, least, functions_unbuilt}
use Rattle.aplc_gen.proofs.unbuilt.first_unbuilt.Given as goal

abbrev pub invariant-loop-function : goal.invariant-loop-function
invariant-loop-function l = smaller l.found (least (functions_unbuilt l.facts (drop l.function-index l.functions))) ≡ least (functions_unbuilt l.facts l.functions)
