use Rattle.std.proofs.Common.{◌≡◌, ◌+◌, length}
use Rattle.std.specs.Io.KnownBytes.{Consumes}
use Rattle.aplc_io.proofs.file_host.read_within.Given as goal

abbrev pub invariant-loop-count : goal.invariant-loop-count
invariant-loop-count g l = record { room : length l.bytes.items + l.room ≡ l.limit; taken : l.taken ≡ length l.bytes.items; known : Consumes (g.R.Read.remaining l.initial.reader) (g.R.Read.remaining l.reader) l.bytes.items }

abbrev pub decreases-loop-count : goal.decreases-loop-count
decreases-loop-count g l = l.room
