use Rattle.std.proofs.Common.{◌≡◌, ◌+◌, ◌*◌, length, min}
use Rattle.aplc_crun.specs.declared.live.Verdict.TheVariants as verdict
use Rattle.aplc_crun.specs.Advancing.{Advanced}
use Rattle.aplc_crun.proofs.advance.advance.Given as goal

abbrev pub invariant-rounds : goal.invariant-rounds
invariant-rounds g l = record {
  steps : l.machine.live.steps + l.left ≡ l.fn.machine.live.steps + l.budget;
  kept : l.machine ≡ record l.fn.machine { live = l.machine.live };
  advanced : Advanced l.fn.machine (g.O.Sink.state l.fn.out) verdict.Held l.machine (g.O.Sink.state l.out);
}

abbrev pub decreases-rounds : goal.decreases-rounds
decreases-rounds g l = 2 * l.left + min 1 (length l.machine.live.out.bytes.items)
