use Rattle.std.proofs.lemmas.Result.{err_from_is_err_and}
use Rattle.std.proofs.Common.{arith}
use Rattle.aplc_cread.specs.Reading.{Any}
use Rattle.aplc_cread.proofs.Rules.{halts_within, reads_within, halts_first, reads_later}
use Rattle.aplc_cread.proofs.Globals.{within_buffers, joint_buffers}
use Rattle.aplc_cread.proofs.below.buffers.Goals as goal

pub returns-in_err-i : goal.returns-in_err-i
returns-in_err-i c = let p = err_from_is_err_and c.from_residual.result c.from_residual.ensures.1 in rw (p.1, p.2)
    (halts_within (within_buffers c.args.mode c.args.tables c.args.ints _ (omega arith)) (halts_first (joint_buffers c.args.mode c.args.tables c.args.ints) c.in_err-i.ensures))

pub returns : goal.returns
returns c = reads_within Any c.buffers_behind.result (within_buffers c.args.mode c.args.tables c.args.ints _ (omega arith)) (reads_later c.buffers_behind.result (joint_buffers c.args.mode c.args.tables c.args.ints) c.in_ok-i.ensures c.buffers_behind.ensures)
