use Rattle.std.proofs.Common.{◌≡◌, ◌++◌, List, map, option_map, length}
use Rattle.aplc_syntax.specs.declared.tree.Named.{Named}
use Rattle.aplc_syntax.specs.Layout.{placed, locals}
use Rattle.aplc_syntax.proofs.header.locals.Given as goal

abbrev pub invariant-loop-rest : goal.invariant-loop-rest
invariant-loop-rest l = option_map (λ (ns : List Named). l.out.items ++ ns) (locals (map placed l.rest)) ≡ locals (map placed l.words)

abbrev pub decreases-loop-rest : goal.decreases-loop-rest
decreases-loop-rest l = length l.rest
