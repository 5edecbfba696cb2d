use Rattle.std.proofs.Common.{◌≡◌, ◌++◌, drop}
use Rattle.aplc_cprof.specs.Text.{more_numbers}
use Rattle.aplc_cprof.proofs.printing.put_more_numbers.Given as goal

-- what is written so far, with the text of the numbers left, is what the whole will be
abbrev pub invariant-loop-n : goal.invariant-loop-n
invariant-loop-n l = l.out.items ++ more_numbers (drop l.n-index l.numbers) ≡ l.fn.out.items ++ more_numbers l.numbers
