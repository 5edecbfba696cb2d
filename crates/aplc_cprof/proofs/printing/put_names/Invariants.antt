use Rattle.std.proofs.Common.{◌≡◌, ◌++◌, ◌-◌, decimal}
use Rattle.aplc_cprof.specs.Text.{listed, listed_from}
use Rattle.aplc_cprof.proofs.printing.put_names.Given as goal

-- what is written so far, with the text of the names left, is what the whole will be
abbrev pub invariant-loop-k : goal.invariant-loop-k
invariant-loop-k l = l.out.items ++ listed_from (λ k. l.before ++ decimal k ++ l.after) l.k (l.count - l.k) ≡ l.fn.out.items ++ listed (λ k. l.before ++ decimal k ++ l.after) l.count
