use Rattle.std.proofs.Common.{rules, FitsSigned, to_z, of_z, w64, ◌∙◌}
use Rattle.std.proofs.lemmas.Int.{to_z-of_z}
use Rattle.aplc_crun.proofs.Standing.{line_stands}
use Rattle.aplc_crun.proofs.machine.Machine.caller_line.Goals as goal

pub returns-clause-stands : goal.returns-clause-stands
returns-clause-stands c = λ p given more st s.
    let fits : FitsSigned w64 c.line_at.result = search rules in
    line_stands p c.args.self.now given more st c.args.back c.mark_at.result c.as_slice.result.now (to_z w64 (of_z w64 c.line_at.result)) c.mark_at.ensures c.as_slice.ensures.value
    (to_z-of_z w64 c.line_at.result fits ∙ c.line_at.ensures) s
