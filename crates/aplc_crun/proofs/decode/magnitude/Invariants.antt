use Rattle.std.proofs.Common.{◌≡◌, ◌≤◌, drop}
use Rattle.aplc_scalar.specs.Input.{magnitude}
use Rattle.aplc_crun.proofs.Decoding.{limited}
use Rattle.aplc_crun.proofs.decode.magnitude.Given as goal

abbrev pub invariant-loop-c : goal.invariant-loop-c
invariant-loop-c l = record {
  value : limited l.value (drop l.c-index l.digits) ≡ magnitude l.digits;
  small : l.value ≤ 9223372036854775807;
}
