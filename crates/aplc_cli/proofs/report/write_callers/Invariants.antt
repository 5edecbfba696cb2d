use Rattle.std.proofs.Common.{◌≡◌, take}
use Rattle.std.specs.List.{flat_map}
use Rattle.aplc_io.specs.Outside.{sink_with}
use Rattle.aplc_crun.specs.Running.{places_of}
use Rattle.aplc_cli.specs.Came.{caller_line}
use Rattle.aplc_cli.proofs.report.write_callers.Given as goal

-- the lines of so many callers were written
abbrev pub invariant-loop-number : goal.invariant-loop-number
invariant-loop-number g l = g.E.Sink.state l.err ≡ sink_with (g.E.Sink.state l.fn.err) (flat_map caller_line (take l.number (places_of l.machine).behind))
