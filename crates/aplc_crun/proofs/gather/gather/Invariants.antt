use Rattle.std.proofs.Common.{◌≡◌, ◌+◌, ◌-◌, ◌*◌, ◌≤◌, length, take, false, cond}
use Rattle.aplc_scalar.proofs.InputEnds.{has_line_feed}
use Rattle.aplc_crun.specs.Gathering.{Gathered}
use Rattle.aplc_crun.proofs.gather.gather.Given as goal

abbrev pub invariant-pieces : goal.invariant-pieces
invariant-pieces g l = record {
  within : l.clear ≤ length l.ahead.items;
  clear : has_line_feed (take l.clear l.ahead.items) ≡ false;
  once : g.S.Source.met l.fn.input ≡ l.fn.ended → (g.S.Source.met l.input ≡ l.ended) × (g.S.Source.late l.input ≡ g.S.Source.late l.fn.input);
  gathered : Gathered l.fn.ahead.items l.fn.ended (g.S.Source.state l.fn.input) l.ahead.items l.ended (g.S.Source.state l.input);
}

abbrev pub decreases-pieces : goal.decreases-pieces
decreases-pieces g l = 2 * (2147483648 - length l.ahead.items) + cond l.ended 0 1
