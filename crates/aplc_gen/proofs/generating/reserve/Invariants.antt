use Rattle.std.proofs.Common.{◌≡◌, ◌+◌}
use Rattle.aplc_gen.proofs.generating.reserve.Given as goal

abbrev pub invariant-loop-given : goal.invariant-loop-given
invariant-loop-given l = l.b ≡ record l.fn.b { ints = l.fn.b.ints + l._given }
