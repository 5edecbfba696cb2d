use Rattle.std.proofs.Common.{◌≡◌, ◌++◌, drop}
use Rattle.aplc_cprof.specs.Text.{stmts_text, arms_text}
use Rattle.aplc_cprof.proofs.statements.+stmts.Given as goal

-- what is written so far, with the text of the items left, is what the whole will be
abbrev pub invariant-put_stmts-loop-s : goal.invariant-put_stmts-loop-s
invariant-put_stmts-loop-s l = l.out.items ++ stmts_text (drop l.s-index l.body) ≡ l.fn.out.items ++ stmts_text l.body

abbrev pub invariant-put_arms-loop-arm : goal.invariant-put_arms-loop-arm
invariant-put_arms-loop-arm l = l.out.items ++ arms_text (drop l.arm-index l.arms) ≡ l.fn.out.items ++ arms_text l.arms
