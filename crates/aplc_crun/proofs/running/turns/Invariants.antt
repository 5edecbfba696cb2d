use Rattle.std.proofs.Common.{◌≡◌, ◌+◌, List, ℕ}
use Rattle.aplc_crun.specs.declared.live.Verdict.TheVariants as verdict
use Rattle.aplc_crun.specs.Running.{CanRun}
use Rattle.aplc_crun.specs.Ran.{Went}
use Rattle.aplc_crun.proofs.running.turns.Given as goal

abbrev pub invariant-turns : goal.invariant-turns
invariant-turns g l = record {
  steps : l.machine.live.steps + l.left ≡ l.fn.machine.live.steps + l.budget;
  can : CanRun l.machine;
  once : g.S.Source.met l.fn.input ≡ l.fn.machine.ended → (g.S.Source.met l.input ≡ l.machine.ended) × (g.S.Source.late l.input ≡ g.S.Source.late l.fn.input);
  went : (pending : List ℕ) × Went l.fn.machine (g.S.Source.state l.fn.input) (g.S.Source.state l.input) (g.O.Sink.state l.fn.out) (g.O.Sink.state l.out) pending verdict.Held l.machine;
}

abbrev pub decreases-turns : goal.decreases-turns
decreases-turns g l = l.left
