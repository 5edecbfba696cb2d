use Rattle.std.proofs.lemmas.Result.{err_from_is_err_and}
use Rattle.std.proofs.Common.{rules}
use Rattle.aplc_cread.specs.Reading.{Any}
use Rattle.aplc_cread.proofs.Rules.{reads_within, halts_within, halts_first, reads_later}
use Rattle.aplc_cread.proofs.Tables.{within_cells, joint_integer, next_reads}
use Rattle.aplc_cread.proofs.table.cells.Goals as goal

pub returns-in_err-x : goal.returns-in_err-x
returns-in_err-x c = let p = err_from_is_err_and c.from_residual.result c.from_residual.ensures.1 in rw (p.1, p.2)
    (halts_within (within_cells c.args.count _ c.requires.some) (halts_first (joint_integer c.args.count) c.in_err-x.ensures))

pub returns : goal.returns
returns c = reads_within Any c.more_cells.result (within_cells c.args.count _ c.requires.some)
    (reads_later c.more_cells.result (joint_integer c.args.count) c.in_ok-x.ensures (next_reads c.args.count _ _ c.more_cells.result (search rules) c.more_cells.ensures))
