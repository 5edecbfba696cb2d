use Rattle.std.proofs.Common.{◌≡◌, ◌+◌, ◌≤◌, length}
use Rattle.aplc_lex.specs.Heads.{name_bytes, name_chars}
use Rattle.aplc_lex.proofs.runs.name_run.Given as goal

abbrev pub invariant-loop-rest : goal.invariant-loop-rest
invariant-loop-rest l = record {
  bytes : l.n + name_bytes l.rest ≡ name_bytes l.bytes;
  chars : l.count + name_chars l.rest ≡ name_chars l.bytes;
  room : l.n + length l.rest ≡ length l.bytes;
  fewer : l.count ≤ l.n;
}

abbrev pub decreases-loop-rest : goal.decreases-loop-rest
decreases-loop-rest l = length l.rest
