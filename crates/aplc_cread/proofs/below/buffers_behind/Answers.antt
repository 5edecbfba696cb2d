use Rattle.std.proofs.lemmas.Result.{err_from_is_err_and}
use Rattle.aplc_cread.specs.Programs.{coded}
use Rattle.aplc_cread.proofs.Rules.{halts_first, halts_later, halts_map, found_map, bind_found}
use Rattle.aplc_cread.proofs.Globals.{joint_bufs, joint_first, behind_first, behind_first_halts, behind_bufs, behind_bufs_halts}
use Rattle.aplc_cread.proofs.below.buffers_behind.Goals as goal

pub returns-in_err-functions : goal.returns-in_err-functions
returns-in_err-functions c = let p = err_from_is_err_and c.from_residual.result c.from_residual.ensures.1 in rw (p.1, p.2)
    (behind_first_halts c.args.mode c.args.tables c.args.ints c.args.number c.if-number-eq0.true (halts_map (coded c.args.ints 0) c.in_err-functions.ensures))

pub returns-then-number-eq0 : goal.returns-then-number-eq0
returns-then-number-eq0 c = behind_first c.args.mode c.args.tables c.args.ints c.args.number c.if-number-eq0.true (found_map (coded c.args.ints 0) c.in_ok-functions.ensures)

pub returns-in_err-bufs : goal.returns-in_err-bufs
returns-in_err-bufs c = let p = err_from_is_err_and c.from_residual-in_err-bufs.result c.from_residual-in_err-bufs.ensures.1 in rw (p.1, p.2)
    (behind_bufs_halts c.args.mode c.args.tables c.args.ints c.args.number c.if-number-eq0.false (halts_first (joint_bufs c.args.mode c.args.tables c.args.ints) c.in_err-bufs.ensures))

pub returns-in_err-rest : goal.returns-in_err-rest
returns-in_err-rest c = let p = err_from_is_err_and c.from_residual-in_err-rest.result c.from_residual-in_err-rest.ensures.1 in rw (p.1, p.2)
    (behind_bufs_halts c.args.mode c.args.tables c.args.ints c.args.number c.if-number-eq0.false (halts_later (joint_bufs c.args.mode c.args.tables c.args.ints) c.in_ok-bufs.ensures
    (halts_first (joint_first c.args.mode c.args.tables c.args.ints c.in_ok-bufs.bufs) c.in_err-rest.ensures)))

pub returns-in_err-functions-2 : goal.returns-in_err-functions-2
returns-in_err-functions-2 c = let p = err_from_is_err_and c.from_residual-in_err-functions-2.result c.from_residual-in_err-functions-2.ensures.1 in rw (p.1, p.2)
    (behind_bufs_halts c.args.mode c.args.tables c.args.ints c.args.number c.if-number-eq0.false (halts_later (joint_bufs c.args.mode c.args.tables c.args.ints) c.in_ok-bufs.ensures
    (halts_later (joint_first c.args.mode c.args.tables c.args.ints c.in_ok-bufs.bufs) c.in_ok-rest.ensures (halts_map (coded c.args.ints c.in_ok-bufs.bufs) c.in_err-functions-2.ensures))))

pub returns : goal.returns
returns c = behind_bufs c.args.mode c.args.tables c.args.ints c.args.number c.if-number-eq0.false (bind_found (joint_bufs c.args.mode c.args.tables c.args.ints) c.in_ok-bufs.ensures
    (bind_found (joint_first c.args.mode c.args.tables c.args.ints c.in_ok-bufs.bufs) c.in_ok-rest.ensures (found_map (coded c.args.ints c.in_ok-bufs.bufs) c.in_ok-functions-2.ensures)))
