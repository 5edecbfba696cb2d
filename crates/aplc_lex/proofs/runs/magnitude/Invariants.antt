use Rattle.std.proofs.Common.{◌≡◌, ◌≤◌, drop}
use Rattle.aplc_lex.specs.Heads.{value_from}
use Rattle.aplc_lex.proofs.runs.magnitude.Given as goal

abbrev pub invariant-loop-b : goal.invariant-loop-b
invariant-loop-b l = record {
  value : value_from l.value (drop l.b-index l.bytes) ≡ value_from 0 l.bytes;
  small : l.value ≤ 9223372036854775807;
}
