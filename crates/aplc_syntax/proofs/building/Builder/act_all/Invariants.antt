use Rattle.std.proofs.Common.{◌≡◌, drop}
use Rattle.aplc_syntax.specs.Building.{acts, StepsIn}
use Rattle.aplc_syntax.specs.Items.{built_of}
use Rattle.aplc_syntax.proofs.building.Builder.act_all.Given as goal

abbrev pub invariant-loop-step : goal.invariant-loop-step
invariant-loop-step l = record {
  built : acts l.text (drop l.step-index l.steps) (built_of l.self.made l.self.lists) ≡ acts l.text l.steps (built_of l.fn.self.made l.fn.self.lists);
  stand : StepsIn l.text (drop l.step-index l.steps);
}
