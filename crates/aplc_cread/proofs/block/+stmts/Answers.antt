use Rattle.std.proofs.lemmas.List.{length-append}
use Rattle.std.proofs.lemmas.Result.{err_from_is_err_and}
use Rattle.std.proofs.Common.{rules, ◌≡◌, ap, sym, subst, arith, length, ◌∷◌, [], ◌++◌, ◌+◌}
use Rattle.std.specs.Prelude.{Some}
use Rattle.aplc_cprof.specs.declared.syntax.CStmt.TheVariants as st
use Rattle.aplc_cread.specs.Reading.{Found, Any, Reads}
use Rattle.aplc_cread.specs.Exprs.{scope}
use Rattle.aplc_cread.specs.Stmts.{IfBehind, WhileBehind, SwitchBehind, StmtBehind}
use Rattle.aplc_cread.proofs.Rules.{reads_within, halts_within, within_found, halts_first, halts_later, halts_map, found_map, bind_found, pure_found}
use Rattle.aplc_cread.proofs.Blocks.{joint_switch, joint_if, joint_first, joint_else, first_else, second_else, joint_while, within_block_then, joint_block_then, inner_reads, keyword_shorter, Before, Lines, lines_start, lines_keyword, lines_end, lines_stmt, lines_next, within_before}
use Rattle.aplc_cread.proofs.Arms.{arms_keyword, arms_default, arms_end, arms_number, arms_body, arms_next, start_shorter}
use Rattle.aplc_cread.specs.Stmts.{Arms, GrownArms}
use Rattle.aplc_cread.proofs.Exprs.{pos_of}
use Rattle.std.proofs.Common.{pos}
use Rattle.aplc_cread.proofs.block.+stmts.Goals as goal

pub condition-returns-in_err-e : goal.condition-returns-in_err-e
condition-returns-in_err-e t c = let p = err_from_is_err_and c.from_residual.result c.from_residual.ensures.1 in rw (p.1, p.2) (halts_first (joint_if (scope c.args.names) c.args.room c.args.inside) c.in_err-e.ensures)

pub condition-returns-in_err-body : goal.condition-returns-in_err-body
condition-returns-in_err-body t c = let p = err_from_is_err_and c.from_residual-in_err-body.result c.from_residual-in_err-body.ensures.1 in rw (p.1, p.2) (halts_later (joint_if (scope c.args.names) c.args.room c.args.inside) c.in_ok-e.ensures (halts_first (joint_first (scope c.args.names) c.args.inside _) c.in_err-body.ensures))

pub condition-returns-in_err-i : goal.condition-returns-in_err-i
condition-returns-in_err-i t c = let p = err_from_is_err_and c.from_residual-in_err-i.result c.from_residual-in_err-i.ensures.1 in rw (p.1, p.2) (halts_later (joint_if (scope c.args.names) c.args.room c.args.inside) c.in_ok-e.ensures (halts_later (joint_first (scope c.args.names) c.args.inside _) c.in_ok-body.ensures (halts_first (joint_else (scope c.args.names) c.args.inside _ _) c.in_err-i.ensures)))

pub condition-returns-then-i-eq0 : goal.condition-returns-then-i-eq0
condition-returns-then-i-eq0 t c = bind_found (joint_if (scope c.args.names) c.args.room c.args.inside) c.in_ok-e.ensures (bind_found (joint_first (scope c.args.names) c.args.inside _) c.in_ok-body.ensures (bind_found (joint_else (scope c.args.names) c.args.inside _ _) (first_else _ c.if-i-eq0.true c.in_ok-i.ensures) (pure_found _ _)))

pub condition-returns-in_err-other : goal.condition-returns-in_err-other
condition-returns-in_err-other t c = let p = err_from_is_err_and c.from_residual-in_err-other.result c.from_residual-in_err-other.ensures.1 in rw (p.1, p.2)
    (halts_later (joint_if (scope c.args.names) c.args.room c.args.inside) c.in_ok-e.ensures (halts_later (joint_first (scope c.args.names) c.args.inside _) c.in_ok-body.ensures (halts_later (joint_else (scope c.args.names) c.args.inside _ _) (second_else _ c.if-i-eq0.false c.in_ok-i.ensures) (halts_map (λ b. st.If c.in_ok-e.e c.in_ok-body.body (Some b)) c.in_err-other.ensures))))

pub condition-returns : goal.condition-returns
condition-returns t c = bind_found (joint_if (scope c.args.names) c.args.room c.args.inside) c.in_ok-e.ensures (bind_found (joint_first (scope c.args.names) c.args.inside _) c.in_ok-body.ensures (bind_found (joint_else (scope c.args.names) c.args.inside _ _) (second_else _ c.if-i-eq0.false c.in_ok-i.ensures) (found_map (λ b. st.If c.in_ok-e.e c.in_ok-body.body (Some b)) c.in_ok-other.ensures)))

pub repetition-returns-in_err-e : goal.repetition-returns-in_err-e
repetition-returns-in_err-e t c = let p = err_from_is_err_and c.from_residual.result c.from_residual.ensures.1 in rw (p.1, p.2) (halts_first (joint_while (scope c.args.names) c.args.room c.args.inside) c.in_err-e.ensures)

pub repetition-returns-in_err-body : goal.repetition-returns-in_err-body
repetition-returns-in_err-body t c = let p = err_from_is_err_and c.from_residual-in_err-body.result c.from_residual-in_err-body.ensures.1 in rw (p.1, p.2) (halts_later (joint_while (scope c.args.names) c.args.room c.args.inside) c.in_ok-e.ensures (halts_map (λ a. st.While c.in_ok-e.e a) c.in_err-body.ensures))

pub repetition-returns : goal.repetition-returns
repetition-returns t c = bind_found (joint_while (scope c.args.names) c.args.room c.args.inside) c.in_ok-e.ensures (found_map (λ a. st.While c.in_ok-e.e a) c.in_ok-body.ensures)

pub block_then-returns-in_err-body : goal.block_then-returns-in_err-body
block_then-returns-in_err-body t c = let p = err_from_is_err_and c.from_residual.result c.from_residual.ensures.1 in rw (p.1, p.2)
    (halts_within (within_block_then (scope c.args.names) c.args.room _) (halts_first (joint_block_then (scope c.args.names) c.args.room _) c.in_err-body.ensures))

pub block_then-returns-in_err-rest : goal.block_then-returns-in_err-rest
block_then-returns-in_err-rest t c = let p = err_from_is_err_and c.from_residual-in_err-rest.result c.from_residual-in_err-rest.ensures.1 in rw (p.1, p.2)
    (halts_within (within_block_then (scope c.args.names) c.args.room _) (halts_later (joint_block_then (scope c.args.names) c.args.room _) c.in_ok-body.ensures (halts_map (λ u. c.in_ok-body.body) c.in_err-rest.ensures)))

pub block_then-returns : goal.block_then-returns
block_then-returns t c = within_found (within_block_then (scope c.args.names) c.args.room _) (bind_found (joint_block_then (scope c.args.names) c.args.room _) c.in_ok-body.ensures (found_map (λ u. c.in_ok-body.body) c.in_ok-rest.ensures))

pub statement-returns-then-keyword-eq12 : goal.statement-returns-then-keyword-eq12
statement-returns-then-keyword-eq12 t c = subst (λ i. Reads Any (StmtBehind (scope c.args.names) c.args.room i) c.args.input.now c.condition.result) (sym c.if-keyword-eq12.true) (inner_reads (IfBehind (scope c.args.names) c.args.room) _ _ _ _ c.in-Some.ensures c.condition.ensures)

pub statement-returns-then-keyword-eq13 : goal.statement-returns-then-keyword-eq13
statement-returns-then-keyword-eq13 t c = subst (λ i. Reads Any (StmtBehind (scope c.args.names) c.args.room i) c.args.input.now c.repetition.result) (sym c.if-keyword-eq13.true) (inner_reads (WhileBehind (scope c.args.names) c.args.room) _ _ _ _ c.in-Some.ensures c.repetition.ensures)

pub statement-returns : goal.statement-returns
statement-returns t c = subst (λ i. Reads Any (StmtBehind (scope c.args.names) c.args.room i) c.args.input.now c.selection.result) (let e : 14 ≡ c.args.keyword = omega (arith, c.requires.within, c.if-keyword-lt12.false, c.if-keyword-eq12.false, c.if-keyword-eq13.false) in e) (inner_reads (SwitchBehind (scope c.args.names)) _ _ _ _ c.in-Some.ensures c.selection.ensures)

pub statements-returns-in_err-keyword : goal.statements-returns-in_err-keyword
statements-returns-in_err-keyword t c = let p = err_from_is_err_and c.from_residual.result c.from_residual.ensures.1 in rw (p.1, p.2) (lines_keyword c.args.before.items c.lines.body.items c.requires.small.some c.lines.invariant c.in_err-keyword.ensures)

pub statements-returns-then-keyword-eq0 : goal.statements-returns-then-keyword-eq0
statements-returns-then-keyword-eq0 t c = subst (λ ss. Found Any (Before (scope c.args.names) c.args.room c.args.before.items) c.args.input.now ss c.in_ok-keyword.behind.now) (sym c.from_vec.ensures)
    (lines_end c.args.before.items c.lines.body.items _ c.if-keyword-eq0.true c.requires.small.some c.lines.invariant c.in_ok-keyword.ensures)

pub statements-returns-in_err-statement : goal.statements-returns-in_err-statement
statements-returns-in_err-statement t c = let p = err_from_is_err_and c.from_residual-in_err-statement.result c.from_residual-in_err-statement.ensures.1 in rw (p.1, p.2) (lines_stmt c.args.before.items c.lines.body.items _ (omega (arith, c.if-keyword-eq0.false)) c.requires.small.some c.lines.invariant c.in_ok-keyword.ensures c.in_err-statement.ensures)

pub statements-lines-init : goal.statements-lines-init
statements-lines-init t c = lines_start (scope c.args.names) c.args.room c.args.before.items c.args.input.now

pub statements-lines-preserved : goal.statements-lines-preserved
statements-lines-preserved t c =
    let e : c.push.new.self.items ≡ c.lines.body.items ++ c.in_ok-statement.statement ∷ [] = search rules in
    subst (λ ss. Lines (scope c.args.names) c.args.room c.args.before.items c.args.input.now ss c.in_ok-statement.next.now) (sym e)
    (lines_next c.args.before.items c.lines.body.items _ (omega (arith, c.if-keyword-eq0.false)) c.requires.small.some c.lines.invariant c.in_ok-keyword.ensures c.in_ok-statement.ensures)

pub statements-lines-smaller : goal.statements-lines-smaller
statements-lines-smaller t c = omega (arith, keyword_shorter (scope c.args.names) c.args.room c.in_ok-keyword.ensures, ap length c.in_ok-statement.ensures.here, length-append c.in_ok-statement.ensures.text c.in_ok-statement.next.now)

pub block-returns : goal.block-returns
block-returns t c = reads_within Any c.statements.result (within_before (scope c.args.names) c.args.room _ c.args.input.now c.new-body.ensures.items) c.statements.ensures

pub selection-returns-in_err-x : goal.selection-returns-in_err-x
selection-returns-in_err-x t c = let p = err_from_is_err_and c.from_residual.result c.from_residual.ensures.1 in rw (p.1, p.2) (halts_first (joint_switch (scope c.args.names) c.args.inside c.requires.room) c.in_err-x.ensures)

pub selection-returns-in_err-arms : goal.selection-returns-in_err-arms
selection-returns-in_err-arms t c = let p = err_from_is_err_and c.from_residual-in_err-arms.result c.from_residual-in_err-arms.ensures.1 in rw (p.1, p.2) (halts_later (joint_switch (scope c.args.names) c.args.inside c.requires.room) c.in_ok-x.ensures (halts_map (λ y. st.Switch c.in_ok-x.x y.0 y.1) c.in_err-arms.ensures))

pub selection-returns : goal.selection-returns
selection-returns t c = bind_found (joint_switch (scope c.args.names) c.args.inside c.requires.room) c.in_ok-x.ensures (found_map (λ y. st.Switch c.in_ok-x.x y.0 y.1) c.in_ok-arms.ensures)

pub arms-returns-in_err-i : goal.arms-returns-in_err-i
arms-returns-in_err-i t c = let p = err_from_is_err_and c.from_residual.result c.from_residual.ensures.1 in rw (p.1, p.2) (arms_keyword _ c.requires.inner c.arms.invariant c.in_err-i.ensures)

pub arms-returns-in_err-default : goal.arms-returns-in_err-default
arms-returns-in_err-default t c = let p = err_from_is_err_and c.from_residual-in_err-default.result c.from_residual-in_err-default.ensures.1 in rw (p.1, p.2) (arms_default _ c.requires.inner c.arms.invariant c.if-i-ne0.true c.in_ok-i.ensures c.in_err-default.ensures)

pub arms-returns-then-i-ne0 : goal.arms-returns-then-i-ne0
arms-returns-then-i-ne0 t c = subst (λ q. Found Any (Arms (scope c.args.names) c.args.room 0) c.args.input.now (q, c.in_ok-default.default) c.in_ok-default.end.now) (sym c.from_vec.ensures)
    (arms_end _ c.requires.inner c.arms.invariant c.if-i-ne0.true c.in_ok-i.ensures c.in_ok-default.ensures)

pub arms-returns-in_err-n : goal.arms-returns-in_err-n
arms-returns-in_err-n t c = let p = err_from_is_err_and c.from_residual-in_err-n.result c.from_residual-in_err-n.ensures.1 in rw (p.1, p.2) (arms_number _ c.requires.inner c.arms.invariant c.if-i-ne0.false c.in_ok-i.ensures c.in_err-n.ensures)

pub arms-returns-in_err-body : goal.arms-returns-in_err-body
arms-returns-in_err-body t c = let p = err_from_is_err_and c.from_residual-in_err-body.result c.from_residual-in_err-body.ensures.1 in rw (p.1, p.2) (arms_body _ c.requires.inner c.arms.invariant c.if-i-ne0.false c.in_ok-i.ensures c.in_ok-n.ensures c.in_err-body.ensures)

pub arms-arms-preserved : goal.arms-arms-preserved
arms-arms-preserved t c =
    let v = pos_of c.in_ok-n.n c.in_ok-n.ensures.is.below in
    let e : c.push.new.self.items ≡ c.arms.arms.items ++ (record { value = pos c.in_ok-n.n; body = c.in_ok-body.body }) ∷ [] = rw (sym v) (search rules) in
    subst (λ q. GrownArms (scope c.args.names) c.args.room c.args.input.now q (c.in_ok-n.n + 1) c.in_ok-body.next.now) (sym e)
    (arms_next _ (c.in_ok-n.n + 1) (omega arith) c.requires.inner c.arms.invariant c.if-i-ne0.false c.in_ok-i.ensures c.in_ok-n.ensures c.in_ok-body.ensures)

pub arms-arms-smaller : goal.arms-arms-smaller
arms-arms-smaller t c = omega (arith, start_shorter _ c.in_ok-i.ensures, ap length c.in_ok-n.ensures.here, length-append c.in_ok-n.ensures.text c.in_ok-n.behind.now, ap length c.in_ok-body.ensures.here, length-append c.in_ok-body.ensures.text c.in_ok-body.next.now)
