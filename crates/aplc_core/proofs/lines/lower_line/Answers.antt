-- Slots have room.
use Rattle.std.proofs.Common.{◌∙◌, ap}
use Rattle.aplc_names.specs.PlainPrograms.{line_action}
use Rattle.aplc_core.specs.PlainSteps.{effect_of}
use Rattle.aplc_core.specs.Passes.{Pass, next_slot, pass_action}
use Rattle.std.specs.Prelude.{map}
use Rattle.aplc_core.proofs.Room.{line_lowered}
use Rattle.aplc_core.proofs.lines.lower_line.Goals as goal

pub returns : goal.returns
returns c =
    ap (map effect_of) c.into_steps.ensures
    ∙ ap (λ (p : Pass). p.steps) (c.in_ok-walk_statement.ensures ∙ ap (pass_action next_slot (line_action c.args.line.now)) c.new-lowering.ensures)
    ∙ line_lowered c.args.line.now c.requires
