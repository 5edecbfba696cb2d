use Rattle.std.proofs.Common.{◌≡◌, ◌≤◌, drop}
use Rattle.aplc_syntax.specs.Building.{count_from}
use Rattle.aplc_syntax.proofs.checking.count.Given as goal

abbrev pub invariant-loop-step : goal.invariant-loop-step
invariant-loop-step l = record {
  counted : count_from l.nodes (drop l.step-index l.steps) ≡ count_from 0 l.steps;
  few : l.nodes ≤ l.step-index;
}
