use Rattle.std.proofs.Common.{ap, sym, ◌∙◌}
use Rattle.aplc_gen.specs.Unbuilt.{first_place}
use Rattle.aplc_cli.proofs.Stages.{unbuilt}
use Rattle.aplc_cli.proofs.compiling.read_built.Goals as goal

pub returns-in-Some-clause-refused : goal.returns-in-Some-clause-refused
returns-in-Some-clause-refused c =
    unbuilt c.args.file.now c.in-Ok.typed.bound c.in-Ok.typed.facts c.in-Ok.ensures.spells c.in-Ok.ensures.clean c.in-Ok.ensures.typed c.in-Ok.ensures.inferred c.in-Some.place
    (sym c.in-Some.is ∙ c.first_unbuilt.ensures ∙ ap (λ p. first_place p c.in-Ok.typed.facts) c.program.ensures.program)
