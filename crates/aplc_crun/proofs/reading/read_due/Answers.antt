use Rattle.std.proofs.Common.{ap, Err}
use Rattle.aplc_crun.specs.declared.live.Verdict.TheVariants as verdict
use Rattle.aplc_crun.proofs.ReadSteps.{read_missed, read_refused, read_no_line, read_then, read_untaken, went_held}
use Rattle.aplc_crun.proofs.reading.read_due.Goals as goal

pub returns-in-Err-Read-clause-stops : goal.returns-in-Err-Read-clause-stops
returns-in-Err-Read-clause-stops g c = λ sink budget.
    read_missed c.args.machine.now c.gather.new.ahead c.gather.new.ended (g.S.Source.state c.args.input.now) (g.S.Source.state c.gather.new.input) sink c.requires.empty
    c.requires.due (c.in-Err-Read.ensures.missed (ap Err c.in-Err-Read.field-0-is))

pub returns-in-Err-Memory-clause-stops : goal.returns-in-Err-Memory-clause-stops
returns-in-Err-Memory-clause-stops g c = λ sink budget.
    read_refused c.args.machine.now c.gather.new.ahead c.gather.new.ended (g.S.Source.state c.args.input.now) (g.S.Source.state c.gather.new.input) sink c.requires.empty
    c.requires.due (c.in-Err-Memory.ensures.memory (ap Err c.in-Err-Memory.field-0-is))

pub returns-in-Ok-NoLine-clause-stops : goal.returns-in-Ok-NoLine-clause-stops
returns-in-Ok-NoLine-clause-stops g c = λ sink budget.
    read_no_line c.args.machine.now c.gather.new.ahead c.gather.new.ended (g.S.Source.state c.args.input.now) (g.S.Source.state c.gather.new.input) sink c.requires.empty
    c.count.new.live c.in-Ok-NoLine.kind c.requires.due
    c.in-Ok-NoLine.ensures.gathered (rw c.in-Ok-NoLine.field-0-is at c.in-Ok-NoLine.ensures.found) c.count.ensures.counted

pub returns-in-Ok-clause-went : goal.returns-in-Ok-clause-went
returns-in-Ok-clause-went g c = λ sink.
    went_held c.args.machine.now c.take_line.new.machine _ _ sink sink _
    (read_then c.args.machine.now c.gather.new.ahead c.gather.new.ended (g.S.Source.state c.args.input.now) (g.S.Source.state c.gather.new.input) sink c.requires.empty
    verdict.Going 1 c.take_line.new.machine c.in-Ok-Line.ensures.gathered c.in-Ok.ensures.took)

pub returns-in-Err-clause-stops : goal.returns-in-Err-clause-stops
returns-in-Err-clause-stops g c = λ sink budget.
    read_untaken c.args.machine.now c.gather.new.ahead c.gather.new.ended c.take_line.new.machine (g.S.Source.state c.args.input.now) (g.S.Source.state c.gather.new.input) sink budget c.in-Err.stop c.requires.empty
    c.in-Ok-Line.ensures.gathered c.in-Err.ensures.untaken
