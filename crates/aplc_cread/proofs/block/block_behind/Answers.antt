use Rattle.std.proofs.lemmas.Result.{err_from_is_err_and}
use Rattle.std.proofs.Common.{◌∙◌, rules}
use Rattle.aplc_cread.specs.Exprs.{scope}
use Rattle.aplc_cread.proofs.Blocks.{behind_none, behind_halts, behind_reads}
use Rattle.aplc_cread.proofs.block.block_behind.Goals as goal

pub returns-then-keyword-eq0 : goal.returns-then-keyword-eq0
returns-then-keyword-eq0 c = behind_none (scope c.args.names) c.args.room _ _ _ c.if-keyword-eq0.true (c.from_vec.ensures ∙ c.new-body.ensures.items)

pub returns-in_err-statement : goal.returns-in_err-statement
returns-in_err-statement c = let p = err_from_is_err_and c.from_residual.result c.from_residual.ensures.1 in rw (p.1, p.2) (behind_halts (scope c.args.names) c.args.room _ c.if-keyword-eq0.false c.in_err-statement.ensures)

pub returns : goal.returns
returns c = behind_reads (scope c.args.names) c.args.room _ _ c.statements.result c.if-keyword-eq0.false (search rules) c.in_ok-statement.ensures c.statements.ensures
