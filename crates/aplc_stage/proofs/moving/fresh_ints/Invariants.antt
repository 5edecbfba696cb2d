use Rattle.std.proofs.Common.{◌≡◌, ◌+◌, ◌++◌, drop}
use Rattle.aplc_cprof.specs.Blocks.{IsKept}
use Rattle.aplc_stage.specs.Pieces.{locals}
use Rattle.aplc_stage.proofs.moving.fresh_ints.Given as goal

abbrev pub invariant-loop : goal.invariant-loop
invariant-loop l = (l.names.items ++ locals l.b.ints (drop l.counter l.others) ≡ locals l.fn.b.ints l.others) × (l.b ≡ record l.fn.b { ints = l.fn.b.ints + l.counter }) × IsKept l.fn.b l.b
