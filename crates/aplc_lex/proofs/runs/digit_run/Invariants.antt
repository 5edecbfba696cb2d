use Rattle.std.proofs.Common.{◌≡◌, ◌+◌, drop}
use Rattle.aplc_lex.specs.Heads.{digits}
use Rattle.aplc_lex.proofs.runs.digit_run.Given as goal

abbrev pub invariant-loop-b : goal.invariant-loop-b
invariant-loop-b l = record {
  bytes : l.n + digits (drop l.b-index l.bytes) ≡ digits l.bytes;
  same : l.n ≡ l.b-index;
}
