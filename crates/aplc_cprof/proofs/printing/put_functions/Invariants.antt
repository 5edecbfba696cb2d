use Rattle.std.proofs.Common.{◌≡◌, ◌++◌, drop}
use Rattle.aplc_cprof.specs.Text.{functions_text}
use Rattle.aplc_cprof.proofs.printing.put_functions.Given as goal

-- what is written so far, with the text of the functions left, is what the whole will be
abbrev pub invariant-loop-k : goal.invariant-loop-k
invariant-loop-k l = l.out.items ++ functions_text l.k (drop l.k l.functions) ≡ l.fn.out.items ++ functions_text 0 l.functions
