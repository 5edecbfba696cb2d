use Rattle.std.proofs.lemmas.Result.{err_from_is_err_and}
use Rattle.aplc_cread.specs.Reading.{Any}
use Rattle.aplc_cread.proofs.Rules.{halts_within, reads_within, halts_first, reads_later}
use Rattle.aplc_cread.proofs.Wholes.{within_program, joint_preamble}
use Rattle.aplc_cread.proofs.program.program.Goals as goal

pub returns-in_err-rest : goal.returns-in_err-rest
returns-in_err-rest c = let p = err_from_is_err_and c.from_residual.result c.from_residual.ensures.1 in rw (p.1, p.2)
    (halts_within (within_program c.args.mode _ _ c.preamble_bytes.ensures) (halts_first (joint_preamble c.args.mode _) c.in_err-rest.ensures))

pub returns : goal.returns
returns c = reads_within Any c.preambled.result (within_program c.args.mode _ _ c.preamble_bytes.ensures) (reads_later c.preambled.result (joint_preamble c.args.mode _) c.in_ok-rest.ensures c.preambled.ensures)
