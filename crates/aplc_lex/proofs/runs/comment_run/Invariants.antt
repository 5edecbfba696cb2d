use Rattle.std.proofs.Common.{◌≡◌, ◌+◌, length}
use Rattle.aplc_lex.specs.Heads.{comment_bytes}
use Rattle.aplc_lex.proofs.runs.comment_run.Given as goal

abbrev pub invariant-loop-rest : goal.invariant-loop-rest
invariant-loop-rest l = record {
  bytes : l.n + comment_bytes l.rest ≡ comment_bytes l.bytes;
  room : l.n + length l.rest ≡ length l.bytes;
}

abbrev pub decreases-loop-rest : goal.decreases-loop-rest
decreases-loop-rest l = length l.rest
