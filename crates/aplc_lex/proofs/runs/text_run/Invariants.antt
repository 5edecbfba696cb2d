use Rattle.std.proofs.Common.{◌≡◌, ◌+◌, ◌-◌, ◌≤◌, length, drop}
use Rattle.aplc_lex.specs.Heads.{text_bytes}
use Rattle.aplc_lex.proofs.runs.text_run.Given as goal

abbrev pub invariant-loop-i : goal.invariant-loop-i
invariant-loop-i l = record {
  bytes : text_bytes (l.i + 1) (drop l.i l.bytes) ≡ text_bytes 1 l.bytes;
  room : l.i ≤ length l.bytes;
}

abbrev pub decreases-loop-i : goal.decreases-loop-i
decreases-loop-i l = length l.bytes - l.i
