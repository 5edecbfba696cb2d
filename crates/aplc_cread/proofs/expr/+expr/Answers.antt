use Rattle.std.proofs.lemmas.Result.{err_from_is_err_and}
use Rattle.std.proofs.Common.{ap, sym, subst, subst₂, arith, ◌∷◌, []}
use Rattle.aplc_cprof.specs.declared.syntax.CExpr.{CExpr}
use Rattle.aplc_cprof.specs.declared.syntax.CExpr.TheVariants as ex
use Rattle.aplc_cprof.specs.declared.syntax.Int.TheVariants as int
use Rattle.aplc_cprof.specs.declared.syntax.Buf.TheVariants as buf
use Rattle.aplc_cread.specs.Reading.{first, Found, Any, NoDigit, After, Map}
use Rattle.aplc_cread.specs.Exprs.{scope, Operation, Expr, Indexed}
use Rattle.aplc_cread.proofs.Rules.{lax_found, lax_halts, lax_reads, halts_within, within_found, reads_within, reads_later, followed_first, followed_later, followed_found, two_first, two_later, two_found, halts_first, halts_later, halts_map, halts_at, bind_found, found_map, some_map, after_halts, after_found, joint_lit}
use Rattle.aplc_cread.proofs.Literals.{lit_found}
use Rattle.aplc_cread.proofs.Exprs.{within_expr_then, within_indexed, some_expr_then, some_indexed, some_number, some_operation, joint_left, joint_op, within_form, within_end, within_digit, within_inner, stops_form, no_name, no_indexed, no_inner, allowed_inner, at_byte}
use Rattle.aplc_cread.proofs.expr.+expr.Goals as goal

pub expr_then-returns-in_err-e : goal.expr_then-returns-in_err-e
expr_then-returns-in_err-e t c = let p = err_from_is_err_and c.from_residual.result c.from_residual.ensures.1 in rw (p.1, p.2)
    (halts_within (within_expr_then _ _ _) (followed_first _ c.requires.opens c.in_err-e.ensures))

pub expr_then-returns-in_err-rest : goal.expr_then-returns-in_err-rest
expr_then-returns-in_err-rest t c = let p = err_from_is_err_and c.from_residual-in_err-rest.result c.from_residual-in_err-rest.ensures.1 in rw (p.1, p.2)
    (halts_within (within_expr_then _ _ _) (followed_later _ c.requires.opens c.in_ok-e.ensures c.in_err-rest.ensures))

pub expr_then-returns : goal.expr_then-returns
expr_then-returns t c = within_found (within_expr_then _ _ _) (followed_found _ c.requires.opens c.in_ok-e.ensures c.in_ok-rest.ensures)

pub indexed-returns-in_err-k : goal.indexed-returns-in_err-k
indexed-returns-in_err-k t c = let p = err_from_is_err_and c.from_residual.result c.from_residual.ensures.1 in rw (p.1, p.2)
    (halts_within (within_indexed _ _ _) (two_first (some_expr_then _ _ _) c.in_err-k.ensures))

pub indexed-returns-in_err-e : goal.indexed-returns-in_err-e
indexed-returns-in_err-e t c = let p = err_from_is_err_and c.from_residual-in_err-e.result c.from_residual-in_err-e.ensures.1 in rw (p.1, p.2)
    (halts_within (within_indexed _ _ _) (two_later (some_expr_then _ _ _) c.in_ok-k.ensures c.in_err-e.ensures))

pub indexed-returns : goal.indexed-returns
indexed-returns t c = within_found (within_indexed _ _ _) (two_found c.in_ok-k.ensures c.in_ok-e.ensures)

pub operation-returns-in_err-x : goal.operation-returns-in_err-x
operation-returns-in_err-x t c = let p = err_from_is_err_and c.from_residual.result c.from_residual.ensures.1 in rw (p.1, p.2)
    (halts_first (joint_left _ _) c.in_err-x.ensures)

pub operation-returns-in_err-op : goal.operation-returns-in_err-op
operation-returns-in_err-op t c = let p = err_from_is_err_and c.from_residual-in_err-op.result c.from_residual-in_err-op.ensures.1 in rw (p.1, p.2)
    (halts_later (joint_left _ _) c.in_ok-x.ensures (halts_first (joint_op _ _ _) c.in_err-op.ensures))

pub operation-returns-in_err-y : goal.operation-returns-in_err-y
operation-returns-in_err-y t c = let p = err_from_is_err_and c.from_residual-in_err-y.result c.from_residual-in_err-y.ensures.1 in rw (p.1, p.2)
    (halts_later (joint_left _ _) c.in_ok-x.ensures (halts_later (joint_op _ _ _) c.in_ok-op.ensures (halts_map (λ y. ex.Bin c.in_ok-op.op c.in_ok-x.x y) c.in_err-y.ensures)))

pub operation-returns : goal.operation-returns
operation-returns t c =
    let P : CExpr → CExpr → Type 0 = λ x y. Found Any (Operation (scope c.args.names) c.args.room) c.args.input.now (ex.Bin c.in_ok-op.op x y) c.in_ok-y.rest.now in
    subst₂ P (sym c.in_ok-x-2.ensures) (sym c.in_ok-y-2.ensures)
    (bind_found (joint_left _ _) c.in_ok-x.ensures (bind_found (joint_op _ _ _) c.in_ok-op.ensures (found_map (λ y. ex.Bin c.in_ok-op.op c.in_ok-x.x y) c.in_ok-y.ensures)))

pub expr-returns-in-None : goal.expr-returns-in-None
expr-returns-in-None t c = let e = ap first c.in-None.ensures in reads_within _ c.constant.result (within_end _ _ _ e) c.constant.ensures

pub expr-returns-then-names-eq0 : goal.expr-returns-then-names-eq0
expr-returns-then-names-eq0 t c = halts_at (stops_form _ _ _ _ 118 (at_byte 118 c.in-Some.ensures c.if-c-eq118.true) (λ e w m. no_name _ e w c.if-names-eq0.true m))

pub expr-returns-in_err-n : goal.expr-returns-in_err-n
expr-returns-in_err-n t c = let p = err_from_is_err_and c.from_residual.result c.from_residual.ensures.1 in rw (p.1, p.2)
    (let e = at_byte 118 c.in-Some.ensures c.if-c-eq118.true in
    halts_within (within_form _ _ _ 118 (ap first e)) (after_halts (some_map (λ n. ex.Var (int.Local n)) (some_number _ (omega (arith, c.if-names-eq0.false)))) (lit_found 118 e) (halts_map (λ n. ex.Var (int.Local n)) c.in_err-n.ensures)))

pub expr-returns-then-c-eq118 : goal.expr-returns-then-c-eq118
expr-returns-then-c-eq118 t c =
    let e = at_byte 118 c.in-Some.ensures c.if-c-eq118.true in
    within_found (within_form _ _ _ 118 (ap first e)) (after_found (lit_found 118 e) (found_map (λ n. ex.Var (int.Local n)) c.in_ok-n.ensures))

pub expr-returns-then-names-eq0-2 : goal.expr-returns-then-names-eq0-2
expr-returns-then-names-eq0-2 t c = halts_at (stops_form _ _ _ _ 103 (at_byte 103 c.in-Some.ensures c.if-c-eq103.true) (λ e w m. no_name _ e w c.if-names-eq0-2.true m))

pub expr-returns-in_err-n-2 : goal.expr-returns-in_err-n-2
expr-returns-in_err-n-2 t c = let p = err_from_is_err_and c.from_residual-in_err-n-2.result c.from_residual-in_err-n-2.ensures.1 in rw (p.1, p.2)
    (let e = at_byte 103 c.in-Some.ensures c.if-c-eq103.true in
    halts_within (within_form _ _ _ 103 (ap first e)) (after_halts (some_map (λ n. ex.Var (int.Global n)) (some_number _ (omega (arith, c.if-names-eq0-2.false)))) (lit_found 103 e) (halts_map (λ n. ex.Var (int.Global n)) c.in_err-n-2.ensures)))

pub expr-returns-then-c-eq103 : goal.expr-returns-then-c-eq103
expr-returns-then-c-eq103 t c =
    let e = at_byte 103 c.in-Some.ensures c.if-c-eq103.true in
    within_found (within_form _ _ _ 103 (ap first e)) (after_found (lit_found 103 e) (found_map (λ n. ex.Var (int.Global n)) c.in_ok-n-2.ensures))

pub expr-returns-in-None-allowed : goal.expr-returns-in-None-allowed
expr-returns-in-None-allowed t c = halts_at (stops_form _ _ _ _ 98 (at_byte 98 c.in-Some.ensures c.if-c-eq98.true) (λ e w m. no_indexed (λ x. ex.Cell (buf.Local x.0) x.1) (98 ∷ []) (scope c.args.names) _ _ e w c.in-None-allowed.ensures m))

pub expr-returns-in_err-p : goal.expr-returns-in_err-p
expr-returns-in_err-p t c = let p = err_from_is_err_and c.from_residual-in_err-p.result c.from_residual-in_err-p.ensures.1 in rw (p.1, p.2)
    (let e = at_byte 98 c.in-Some.ensures c.if-c-eq98.true in
    let a = allowed_inner _ _ _ c.in-Some-allowed.ensures in
    halts_within (within_form _ _ _ 98 (ap first e)) (halts_within (within_inner (λ r. After (98 ∷ []) (Map (λ x. ex.Cell (buf.Local x.0) x.1) (Indexed c.args.names.bufs (scope c.args.names) r))) _ _ a.0) (after_halts (some_map (λ x. ex.Cell (buf.Local x.0) x.1) (some_indexed _ _ _ a.1)) (lit_found 98 e) (lax_halts (halts_map (λ x. ex.Cell (buf.Local x.0) x.1) c.in_err-p.ensures)))))

pub expr-returns-then-c-eq98 : goal.expr-returns-then-c-eq98
expr-returns-then-c-eq98 t c =
    let e = at_byte 98 c.in-Some.ensures c.if-c-eq98.true in
    let a = allowed_inner _ _ _ c.in-Some-allowed.ensures in
    subst (λ x. Found NoDigit (Expr (scope c.args.names) c.args.room) c.args.input.now (ex.Cell (buf.Local c.in_ok-p.p) x) c.in_ok-p.rest.now) (sym c.in_ok-e.ensures)
    (within_found (within_form _ _ _ 98 (ap first e)) (within_found (within_inner (λ r. After (98 ∷ []) (Map (λ x. ex.Cell (buf.Local x.0) x.1) (Indexed c.args.names.bufs (scope c.args.names) r))) _ _ a.0) (after_found (lit_found 98 e) (lax_found (found_map (λ x. ex.Cell (buf.Local x.0) x.1) c.in_ok-p.ensures)))))

pub expr-returns-in-None-allowed-2 : goal.expr-returns-in-None-allowed-2
expr-returns-in-None-allowed-2 t c = halts_at (stops_form _ _ _ _ 104 (at_byte 104 c.in-Some.ensures c.if-c-eq104.true) (λ e w m. no_indexed (λ x. ex.Cell (buf.Global x.0) x.1) (104 ∷ []) (scope c.args.names) _ _ e w c.in-None-allowed-2.ensures m))

pub expr-returns-in_err-p-2 : goal.expr-returns-in_err-p-2
expr-returns-in_err-p-2 t c = let p = err_from_is_err_and c.from_residual-in_err-p-2.result c.from_residual-in_err-p-2.ensures.1 in rw (p.1, p.2)
    (let e = at_byte 104 c.in-Some.ensures c.if-c-eq104.true in
    let a = allowed_inner _ _ _ c.in-Some-allowed-2.ensures in
    halts_within (within_form _ _ _ 104 (ap first e)) (halts_within (within_inner (λ r. After (104 ∷ []) (Map (λ x. ex.Cell (buf.Global x.0) x.1) (Indexed c.args.names.global_bufs (scope c.args.names) r))) _ _ a.0) (after_halts (some_map (λ x. ex.Cell (buf.Global x.0) x.1) (some_indexed _ _ _ a.1)) (lit_found 104 e) (lax_halts (halts_map (λ x. ex.Cell (buf.Global x.0) x.1) c.in_err-p-2.ensures)))))

pub expr-returns-then-c-eq104 : goal.expr-returns-then-c-eq104
expr-returns-then-c-eq104 t c =
    let e = at_byte 104 c.in-Some.ensures c.if-c-eq104.true in
    let a = allowed_inner _ _ _ c.in-Some-allowed-2.ensures in
    subst (λ x. Found NoDigit (Expr (scope c.args.names) c.args.room) c.args.input.now (ex.Cell (buf.Global c.in_ok-p-2.p) x) c.in_ok-p-2.rest.now) (sym c.in_ok-e-2.ensures)
    (within_found (within_form _ _ _ 104 (ap first e)) (within_found (within_inner (λ r. After (104 ∷ []) (Map (λ x. ex.Cell (buf.Global x.0) x.1) (Indexed c.args.names.global_bufs (scope c.args.names) r))) _ _ a.0) (after_found (lit_found 104 e) (lax_found (found_map (λ x. ex.Cell (buf.Global x.0) x.1) c.in_ok-p-2.ensures)))))

pub expr-returns-in-None-allowed-3 : goal.expr-returns-in-None-allowed-3
expr-returns-in-None-allowed-3 t c = halts_at (stops_form _ _ _ _ 107 (at_byte 107 c.in-Some.ensures c.if-c-eq107.true) (λ e w m. no_indexed (λ x. ex.Table x.0 x.1) (107 ∷ []) (scope c.args.names) _ _ e w c.in-None-allowed-3.ensures m))

pub expr-returns-in_err-p-3 : goal.expr-returns-in_err-p-3
expr-returns-in_err-p-3 t c = let p = err_from_is_err_and c.from_residual-in_err-p-3.result c.from_residual-in_err-p-3.ensures.1 in rw (p.1, p.2)
    (let e = at_byte 107 c.in-Some.ensures c.if-c-eq107.true in
    let a = allowed_inner _ _ _ c.in-Some-allowed-3.ensures in
    halts_within (within_form _ _ _ 107 (ap first e)) (halts_within (within_inner (λ r. After (107 ∷ []) (Map (λ x. ex.Table x.0 x.1) (Indexed c.args.names.tables (scope c.args.names) r))) _ _ a.0) (after_halts (some_map (λ x. ex.Table x.0 x.1) (some_indexed _ _ _ a.1)) (lit_found 107 e) (lax_halts (halts_map (λ x. ex.Table x.0 x.1) c.in_err-p-3.ensures)))))

pub expr-returns-then-c-eq107 : goal.expr-returns-then-c-eq107
expr-returns-then-c-eq107 t c =
    let e = at_byte 107 c.in-Some.ensures c.if-c-eq107.true in
    let a = allowed_inner _ _ _ c.in-Some-allowed-3.ensures in
    subst (λ x. Found NoDigit (Expr (scope c.args.names) c.args.room) c.args.input.now (ex.Table c.in_ok-p-3.p x) c.in_ok-p-3.rest.now) (sym c.in_ok-e-3.ensures)
    (within_found (within_form _ _ _ 107 (ap first e)) (within_found (within_inner (λ r. After (107 ∷ []) (Map (λ x. ex.Table x.0 x.1) (Indexed c.args.names.tables (scope c.args.names) r))) _ _ a.0) (after_found (lit_found 107 e) (lax_found (found_map (λ x. ex.Table x.0 x.1) c.in_ok-p-3.ensures)))))

pub expr-returns-in-None-inner : goal.expr-returns-in-None-inner
expr-returns-in-None-inner t c = halts_at (stops_form _ _ _ _ 40 (at_byte 40 c.in-Some.ensures c.if-c-eq40.true) (λ e w m. no_inner (λ r. After (40 ∷ []) (Operation (scope c.args.names) r)) _ e w c.in-None-inner.ensures m))

pub expr-returns-in-Some-inner : goal.expr-returns-in-Some-inner
expr-returns-in-Some-inner t c =
    let e = at_byte 40 c.in-Some.ensures c.if-c-eq40.true in
    reads_within _ c.operation.result (within_form _ _ _ 40 (ap first e)) (reads_within _ c.operation.result (within_inner (λ r. After (40 ∷ []) (Operation (scope c.args.names) r)) _ _ c.in-Some-inner.ensures)
    (reads_later c.operation.result (joint_lit (some_operation _ _)) (lit_found 40 e) (lax_reads _ _ _ c.operation.result c.operation.ensures)))

pub expr-returns : goal.expr-returns
expr-returns t c = reads_within _ c.constant-2.result (within_digit _ _ _ _ _ c.in-Some.ensures c.if-c-eq118.false c.if-c-eq103.false c.if-c-eq98.false c.if-c-eq104.false c.if-c-eq107.false c.if-c-eq40.false) c.constant-2.ensures
