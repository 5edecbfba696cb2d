use Rattle.std.proofs.lemmas.Result.{err_from_is_err_and}
use Rattle.aplc_cread.proofs.Rules.{halts_first, reads_later}
use Rattle.aplc_cread.proofs.Globals.{joint_ints, globals_reads, globals_ints, globals_halts}
use Rattle.aplc_cread.proofs.below.globals_behind.Goals as goal

pub returns-then-number-lt2 : goal.returns-then-number-lt2
returns-then-number-lt2 c = globals_reads c.args.mode c.args.tables c.args.number _ c.buffers_behind.result c.if-number-lt2.true c.buffers_behind.ensures

pub returns-in_err-ints : goal.returns-in_err-ints
returns-in_err-ints c = let p = err_from_is_err_and c.from_residual.result c.from_residual.ensures.1 in rw (p.1, p.2)
    (globals_halts c.args.mode c.args.tables c.args.number c.if-number-lt2.false (halts_first (joint_ints c.args.mode c.args.tables) c.in_err-ints.ensures))

pub returns : goal.returns
returns c = globals_ints c.args.mode c.args.tables c.args.number _ c.buffers.result c.if-number-lt2.false (reads_later c.buffers.result (joint_ints c.args.mode c.args.tables) c.in_ok-ints.ensures c.buffers.ensures)
