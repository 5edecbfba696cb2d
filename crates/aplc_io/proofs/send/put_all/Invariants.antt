use Rattle.std.proofs.Common.{◌≡◌, ◌-◌, ◌≤◌, length, take}
use Rattle.aplc_io.specs.Outside.{text_with}
use Rattle.aplc_io.proofs.send.put_all.Given as goal

abbrev pub invariant-loop-at : goal.invariant-loop-at
invariant-loop-at g l = record { within : l.at ≤ length l.bytes; sent : g.H.Host.state l.host ≡ text_with (g.H.Host.state l.fn.host) (take l.at l.bytes); no_fetch : g.H.Host.taken l.host ≡ g.H.Host.taken l.fn.host; unasked : g.H.Host.fetches l.host ≡ g.H.Host.fetches l.fn.host }

abbrev pub decreases-loop-at : goal.decreases-loop-at
decreases-loop-at g l = length l.bytes - l.at
