use Rattle.std.proofs.lemmas.Result.{err_from_is_err_and}
use Rattle.aplc_cread.specs.Reading.{Any}
use Rattle.aplc_cread.proofs.Rules.{reads_within, halts_within, halts_first, halts_later, reads_later}
use Rattle.aplc_cread.proofs.Tables.{within_table, joint_named, joint_count, joint_filled}
use Rattle.aplc_cread.proofs.table.table.Goals as goal

pub returns-in_err-rest : goal.returns-in_err-rest
returns-in_err-rest c = let p = err_from_is_err_and c.from_residual.result c.from_residual.ensures.1 in rw (p.1, p.2)
    (halts_within (within_table c.args.number _) (halts_first (joint_named c.args.number) c.in_err-rest.ensures))

pub returns-in_err-count : goal.returns-in_err-count
returns-in_err-count c = let p = err_from_is_err_and c.from_residual-in_err-count.result c.from_residual-in_err-count.ensures.1 in rw (p.1, p.2)
    (halts_within (within_table c.args.number _) (halts_later (joint_named c.args.number) c.in_ok-rest.ensures (halts_first joint_count c.in_err-count.ensures)))

pub returns-in_err-rest-2 : goal.returns-in_err-rest-2
returns-in_err-rest-2 c = let p = err_from_is_err_and c.from_residual-in_err-rest-2.result c.from_residual-in_err-rest-2.ensures.1 in rw (p.1, p.2)
    (halts_within (within_table c.args.number _) (halts_later (joint_named c.args.number) c.in_ok-rest.ensures (halts_later joint_count c.in_ok-count.ensures (halts_first (joint_filled c.in_ok-count.count c.in_ok-count.ensures.is.above) c.in_err-rest-2.ensures))))

pub returns : goal.returns
returns c = reads_within Any c.cells.result (within_table c.args.number _) (reads_later c.cells.result (joint_named c.args.number) c.in_ok-rest.ensures (reads_later c.cells.result joint_count c.in_ok-count.ensures
    (reads_later c.cells.result (joint_filled c.in_ok-count.count c.in_ok-count.ensures.is.above) c.in_ok-rest-2.ensures c.cells.ensures)))
