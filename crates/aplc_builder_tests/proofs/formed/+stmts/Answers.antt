use Rattle.std.proofs.Common.{◌-◌, arith, subst, refl}
use Rattle.std.specs.Prelude.{All, Some, IsTrue}
use Rattle.aplc_cprof.specs.declared.syntax.CStmt.{CStmt}
use Rattle.aplc_cprof.specs.WellFormed.{declared, is_stmt}
use Rattle.aplc_builder_tests.proofs.Blocks.{while_fits, if_fits, else_fits, all_passed, all_after}
use Rattle.aplc_builder_tests.proofs.formed.+stmts.Goals as goal

pub are_stmts-loop-s-preserved : goal.are_stmts-loop-s-preserved
are_stmts-loop-s-preserved t c =
    let P : CStmt → Type 0 = λ s. IsTrue (is_stmt (declared c.args.p.now c.args.f.now) s (Some c.args.room)) in
    all_after P c.args.ss.now c.loop-s.s-index c.s-item.result c.loop-s-test.true c.loop-s.invariant (subst P c.s-item.is (c.if-not-is_stmt.ensures refl))

pub are_stmts-returns : goal.are_stmts-returns
are_stmts-returns t c h =
    let P : CStmt → Type 0 = λ s. IsTrue (is_stmt (declared c.args.p.now c.args.f.now) s (Some c.args.room)) in
    all_passed P c.args.ss.now c.loop-s.s-index c.loop-s-test.false c.loop-s.invariant

pub is_stmt-returns-in-None : goal.is_stmt-returns-in-None
is_stmt-returns-in-None t c h =
    let P : CStmt → Type 0 = λ s. IsTrue (is_stmt (declared c.args.p.now c.args.f.now) s (Some (c.args.room - 1))) in
    rw c.in-If.is (if_fits _ _ _ _ _ c.in-None.is (omega (arith, c.if-room-eq0.false)) (c.if-not-is_expr.ensures refl) (subst (All P) c.as_slice.ensures (c.if-not-are_stmts.ensures refl)))

pub is_stmt-returns-in-Some : goal.is_stmt-returns-in-Some
is_stmt-returns-in-Some t c h =
    let P : CStmt → Type 0 = λ s. IsTrue (is_stmt (declared c.args.p.now c.args.f.now) s (Some (c.args.room - 1))) in
    rw c.in-If.is
    (else_fits _ _ _ _ c.in-Some.o _ c.in-Some.is (omega (arith, c.if-room-eq0.false)) (c.if-not-is_expr.ensures refl)
    (subst (All P) c.as_slice.ensures (c.if-not-are_stmts.ensures refl)) (subst (All P) c.as_slice-in-Some.ensures (c.are_stmts-in-Some.ensures h)))

pub is_stmt-returns-else-not-is_expr-2 : goal.is_stmt-returns-else-not-is_expr-2
is_stmt-returns-else-not-is_expr-2 t c h =
    let P : CStmt → Type 0 = λ s. IsTrue (is_stmt (declared c.args.p.now c.args.f.now) s (Some (c.args.room - 1))) in
    rw c.in-While.is (while_fits _ _ _ _ (omega (arith, c.if-room-eq0-2.false)) (c.if-not-is_expr-2.ensures refl) (subst (All P) c.as_slice-in-While.ensures (c.are_stmts-in-While.ensures h)))
