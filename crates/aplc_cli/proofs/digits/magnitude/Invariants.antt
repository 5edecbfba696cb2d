use Rattle.std.proofs.Common.{◌≡◌, ◌≤◌, drop}
use Rattle.aplc_cli.specs.Digits.{magnitude}
use Rattle.aplc_cli.proofs.DigitSteps.{limited}
use Rattle.aplc_cli.proofs.digits.magnitude.Given as goal

abbrev pub invariant-loop-b : goal.invariant-loop-b
invariant-loop-b l = record {
  value : limited l.value (drop l.b-index l.digits) ≡ magnitude l.digits;
  small : l.value ≤ 9223372036854775807;
}
