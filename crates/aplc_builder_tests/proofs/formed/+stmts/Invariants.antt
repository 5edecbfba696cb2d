-- The statements passed fit.
use Rattle.std.proofs.Common.{take}
use Rattle.std.specs.Prelude.{All, Some, IsTrue}
use Rattle.aplc_cprof.specs.WellFormed.{declared, is_stmt}
use Rattle.aplc_builder_tests.proofs.formed.+stmts.Given as goal

abbrev pub invariant-are_stmts-loop-s : goal.invariant-are_stmts-loop-s
invariant-are_stmts-loop-s l = All (λ s. IsTrue (is_stmt (declared l.p l.f) s (Some l.room))) (take l.s-index l.ss)
