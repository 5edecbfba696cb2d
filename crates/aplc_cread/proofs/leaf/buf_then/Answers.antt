use Rattle.std.proofs.lemmas.Result.{err_from_is_err_and}
use Rattle.aplc_cprof.specs.declared.syntax.Buf.TheVariants as buf
use Rattle.aplc_cread.specs.Exprs.{scope}
use Rattle.aplc_cread.proofs.Rules.{halts_within, within_found, halts_first, halts_later, halts_map, found_map, bind_found}
use Rattle.aplc_cread.proofs.Leaves.{joint_buf, within_buf_then, buf_first, buf_second, some_either}
use Rattle.aplc_cread.proofs.leaf.buf_then.Goals as goal

pub one_of-requires-clause-some : goal.one_of-requires-clause-some
one_of-requires-clause-some c = some_either _ _ c.requires.some

pub returns-in_err-i : goal.returns-in_err-i
returns-in_err-i c = let p = err_from_is_err_and c.from_residual.result c.from_residual.ensures.1 in rw (p.1, p.2) (halts_within (within_buf_then (scope c.args.names) c.args.text.now) (halts_first (joint_buf (scope c.args.names) c.args.text.now) c.in_err-i.ensures))

pub returns-in_err-n : goal.returns-in_err-n
returns-in_err-n c = let p = err_from_is_err_and c.from_residual-in_err-n.result c.from_residual-in_err-n.ensures.1 in rw (p.1, p.2)
    (halts_within (within_buf_then (scope c.args.names) c.args.text.now) (halts_later (joint_buf (scope c.args.names) c.args.text.now) (buf_first (scope c.args.names) _ c.if-i-eq0.true c.in_ok-i.ensures) (halts_map (λ n. buf.Local n) c.in_err-n.ensures)))

pub returns-then-i-eq0 : goal.returns-then-i-eq0
returns-then-i-eq0 c = within_found (within_buf_then (scope c.args.names) c.args.text.now) (bind_found (joint_buf (scope c.args.names) c.args.text.now) (buf_first (scope c.args.names) _ c.if-i-eq0.true c.in_ok-i.ensures) (found_map (λ n. buf.Local n) c.in_ok-n.ensures))

pub returns-in_err-n-2 : goal.returns-in_err-n-2
returns-in_err-n-2 c = let p = err_from_is_err_and c.from_residual-in_err-n-2.result c.from_residual-in_err-n-2.ensures.1 in rw (p.1, p.2)
    (halts_within (within_buf_then (scope c.args.names) c.args.text.now) (halts_later (joint_buf (scope c.args.names) c.args.text.now) (buf_second (scope c.args.names) _ c.if-i-eq0.false c.in_ok-i.ensures) (halts_map (λ n. buf.Global n) c.in_err-n-2.ensures)))

pub returns : goal.returns
returns c = within_found (within_buf_then (scope c.args.names) c.args.text.now) (bind_found (joint_buf (scope c.args.names) c.args.text.now) (buf_second (scope c.args.names) _ c.if-i-eq0.false c.in_ok-i.ensures) (found_map (λ n. buf.Global n) c.in_ok-n-2.ensures))
