use Rattle.std.proofs.Common.{◌<◌, ◌^◌, subst}
use Rattle.std.specs.Prelude.{All, Some, IsTrue}
use Rattle.aplc_cprof.specs.declared.syntax.CStmt.{CStmt}
use Rattle.aplc_cprof.specs.WellFormed.{declared, is_stmt}
use Rattle.aplc_builder_tests.proofs.Blocks.{function_fits}
use Rattle.aplc_builder_tests.proofs.formed.is_function.Goals as goal

pub returns : goal.returns
returns c h =
    let P : CStmt → Type 0 = λ s. IsTrue (is_stmt (declared c.args.p.now c.args.f.now) s (Some 256)) in
    let i : c.args.f.now.ints < 2 ^ 32 = search in
    let j : c.args.f.now.bufs < 2 ^ 32 = search in
    function_fits _ 256 c.args.f.now i j (subst (All P) c.as_slice.ensures (c.are_stmts.ensures h))
