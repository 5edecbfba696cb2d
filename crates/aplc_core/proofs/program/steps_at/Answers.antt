use Rattle.std.proofs.Common.{◌∙◌, sym, ap, arith, map}
use Rattle.std.proofs.lemmas.Bool.Decides.{nat_tests}
use Rattle.std.specs.Option.{option_copied}
use Rattle.aplc_core.specs.PlainSteps.{effect_of}
use Rattle.aplc_core.proofs.Programs.{line_there}
use Rattle.aplc_core.proofs.program.steps_at.Goals as goal

pub returns-in-Some : goal.returns-in-Some
returns-in-Some c =
    ap (map effect_of) c.as_slice.ensures ∙ sym (line_there c.args.lines.now c.args.line c.in-Some.steps.now (λ e. grind (arith, nat_tests, e)) (sym c.at.ensures ∙ ap option_copied c.in-Some.is))
