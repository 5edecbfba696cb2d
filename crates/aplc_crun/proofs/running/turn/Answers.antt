use Rattle.std.proofs.Common.{◌-◌, ◌+◌, ◌≡◌, ap, Err, [], arith}
use Rattle.aplc_crun.specs.declared.live.Verdict.TheVariants as verdict
use Rattle.aplc_crun.proofs.ReadSteps.{went_on}
use Rattle.aplc_crun.proofs.RunsOn.{advanced_went, cut_went, refused_went, ran_on}
use Rattle.aplc_crun.proofs.running.turn.Goals as goal

pub returns-in-Err-Write-clause-ran : goal.returns-in-Err-Write-clause-ran
returns-in-Err-Write-clause-ran g c =
    cut_went c.args.machine.now c.advance.new.machine (g.S.Source.state c.args.input.now) (g.O.Sink.state c.args.out.now) (g.O.Sink.state c.advance.new.out)
    c.in-Err-Write.ensures.kept (c.in-Err-Write.ensures.cut (ap Err c.in-Err-Write.field-0-is))

pub returns-in-Err-Memory-clause-ran : goal.returns-in-Err-Memory-clause-ran
returns-in-Err-Memory-clause-ran g c =
    let is = ap Err c.in-Err-Memory.field-0-is in
    refused_went c.args.machine.now c.advance.new.machine (g.S.Source.state c.args.input.now) (g.O.Sink.state c.args.out.now) (g.O.Sink.state c.advance.new.out)
    c.in-Err-Memory.ensures.kept (c.in-Err-Memory.ensures.memory is) (c.in-Err-Memory.ensures.drained is) (c.in-Err-Memory.ensures.hungry is)

pub returns-in-Ok-clause-went : goal.returns-in-Ok-clause-went
returns-in-Ok-clause-went g c =
    went_on c.args.machine.now c.advance.new.machine c.read_due.new.machine verdict.Held (g.S.Source.state c.args.input.now) (g.S.Source.state c.args.input.now) (g.S.Source.state c.read_due.new.input) (g.O.Sink.state c.args.out.now) (g.O.Sink.state c.advance.new.out) (g.O.Sink.state c.advance.new.out) [] []
    (advanced_went c.args.machine.now c.advance.new.machine verdict.Held (g.S.Source.state c.args.input.now) (g.O.Sink.state c.args.out.now) (g.O.Sink.state c.advance.new.out) c.in-Ok-Held.ensures.kept (rw c.in-Ok-Held.field-0-is at c.in-Ok-Held.ensures.advanced) c.in-Ok-Held.ensures.empty)
    (c.in-Ok.ensures.went (g.O.Sink.state c.advance.new.out))

pub returns-in-Err-clause-ran : goal.returns-in-Err-clause-ran
returns-in-Err-clause-ran g c =
    let a = rw c.in-Ok-Held.field-0-is at c.in-Ok-Held.ensures.advanced in
    let later = a.later in
    let left = c.in-Ok-Held.ensures.left c.in-Ok-Held.field-0-is in
    let steps : c.advance.new.machine.live.steps + (c.args.budget - (c.advance.new.machine.live.steps - c.args.machine.now.live.steps)) ≡ c.args.machine.now.live.steps + c.args.budget = omega arith in
    ran_on c.args.machine.now c.advance.new.machine c.read_due.new.machine (g.S.Source.state c.args.input.now) (g.S.Source.state c.args.input.now) (g.S.Source.state c.read_due.new.input) (g.O.Sink.state c.args.out.now) (g.O.Sink.state c.advance.new.out) (g.O.Sink.state c.advance.new.out) []
    c.args.budget (c.args.budget - (c.advance.new.machine.live.steps - c.args.machine.now.live.steps)) (Err c.in-Err.stop) steps
    (advanced_went c.args.machine.now c.advance.new.machine verdict.Held (g.S.Source.state c.args.input.now) (g.O.Sink.state c.args.out.now) (g.O.Sink.state c.advance.new.out) c.in-Ok-Held.ensures.kept a c.in-Ok-Held.ensures.empty)
    (c.in-Err.ensures.stops (g.O.Sink.state c.advance.new.out) (c.args.budget - (c.advance.new.machine.live.steps - c.args.machine.now.live.steps)))
