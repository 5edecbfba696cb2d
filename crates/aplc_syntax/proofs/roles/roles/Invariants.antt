use Rattle.std.proofs.Common.{◌≤◌, ◌<◌, length, map, drop}
use Rattle.std.specs.Prelude.{All}
use Rattle.aplc_syntax.specs.declared.header.Header.{Header as HeldHeader}
use Rattle.aplc_syntax.specs.Held.{header_of_held, AreRoles}
use Rattle.aplc_syntax.proofs.roles.roles.Given as goal

abbrev pub invariant-loop-i : goal.invariant-loop-i
invariant-loop-i l = record {
  room : l.i ≤ length l.headers;
  within : All (λ (h : HeldHeader). h.name.name.0 < length l.roles.items) l.headers;
  roles : AreRoles l.roles.items (map header_of_held (drop l.i l.headers));
}

abbrev pub decreases-loop-i : goal.decreases-loop-i
decreases-loop-i l = l.i
