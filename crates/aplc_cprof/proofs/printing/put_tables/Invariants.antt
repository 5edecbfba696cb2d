use Rattle.std.proofs.Common.{◌≡◌, ◌++◌, drop}
use Rattle.aplc_cprof.specs.Text.{tables_text}
use Rattle.aplc_cprof.proofs.printing.put_tables.Given as goal

-- what is written so far, with the text of the tables left, is what the whole will be
abbrev pub invariant-loop-k : goal.invariant-loop-k
invariant-loop-k l = l.out.items ++ tables_text l.k (drop l.k l.tables) ≡ l.fn.out.items ++ tables_text 0 l.tables
