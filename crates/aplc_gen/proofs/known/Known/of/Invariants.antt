use Rattle.std.proofs.Common.{◌≡◌, ◌-◌, drop, length}
use Rattle.aplc_gen.proofs.known.Known.of.Given as goal

abbrev pub invariant-loop-behind : goal.invariant-loop-behind
invariant-loop-behind l = l.known ≡ drop (length l.names - l.behind) l.names
