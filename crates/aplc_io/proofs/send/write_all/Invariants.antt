use Rattle.std.proofs.Common.{◌≡◌, ◌-◌, ◌≤◌, length, take}
use Rattle.aplc_io.specs.Outside.{sink_with}
use Rattle.aplc_io.proofs.send.write_all.Given as goal

abbrev pub invariant-loop-at : goal.invariant-loop-at
invariant-loop-at g l = record { within : l.at ≤ length l.bytes; sent : g.K.Sink.state l.sink ≡ sink_with (g.K.Sink.state l.fn.sink) (take l.at l.bytes) }

abbrev pub decreases-loop-at : goal.decreases-loop-at
decreases-loop-at g l = length l.bytes - l.at
