use Rattle.std.proofs.Common.{◌≡◌, ◌++◌, ◌-◌}
use Rattle.aplc_cprof.specs.Text.{prototypes_text}
use Rattle.aplc_cprof.proofs.printing.put_prototypes.Given as goal

-- what is written so far, with the text of the prototypes left, is what the whole will be
abbrev pub invariant-loop-k : goal.invariant-loop-k
invariant-loop-k l = l.out.items ++ prototypes_text l.k (l.count - l.k) ≡ l.fn.out.items ++ prototypes_text 0 l.count
