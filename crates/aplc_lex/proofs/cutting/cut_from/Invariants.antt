use Rattle.std.proofs.Common.{◌-◌, ◌≤◌, length}
use Rattle.aplc_lex.proofs.Steps.{SoFar}
use Rattle.aplc_lex.proofs.cutting.cut_from.Given as goal

abbrev pub invariant-loop-at : goal.invariant-loop-at
invariant-loop-at l = record {
  so_far : SoFar l.text l.start l.at l.out.items;
  within : l.at ≤ length l.text;
}

abbrev pub decreases-loop-at : goal.decreases-loop-at
decreases-loop-at l = length l.text - l.at
