use Rattle.std.proofs.Common.{subst}
use Rattle.aplc_syntax.specs.declared.tree.Program.{Program}
use Rattle.aplc_names.specs.PlainPrograms.{plain}
use Rattle.aplc_core.specs.CoreLaws.{KeepsRuns}
use Rattle.aplc_core.proofs.Programs.{line_of_routine}
use Rattle.aplc_core.proofs.ResolvedRuns.{resolved_keeps_runs}
use Rattle.aplc_core.proofs.laws.lowered_keeps_runs.Goals as goal

-- a lowered program was resolved
pub returns-clause-keeps : goal.returns-clause-keeps
returns-clause-keeps c = subst (λ (p : Program). KeepsRuns (plain p)) c.bound.ensures.program (resolved_keeps_runs c.bound.result.now c.program-program.ensures.parsed)

pub returns-clause-steps : goal.returns-clause-steps
returns-clause-steps c = line_of_routine c.args.core.now.program
