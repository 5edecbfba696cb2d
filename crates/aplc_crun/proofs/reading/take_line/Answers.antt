use Rattle.std.proofs.Common.{◌∙◌, ap, sym, take}
use Rattle.std.specs.Prelude.{slice_get}
use Rattle.aplc_crun.proofs.ReadSteps.{line_taken}
use Rattle.aplc_crun.proofs.reading.take_line.Goals as goal

pub returns-in-Ok-clause-took : goal.returns-in-Ok-clause-took
returns-in-Ok-clause-took c =
    line_taken c.args.machine.now c.put_line.new.live c.cut_front.new.bytes c.reader_at-reader.result.form c.reader_at-reader.result.buf c.reader_at-reader.result.next c.args.extent c.split_at.result.0.now c.in-Ok-Some.cells.items
    (sym (ap (λ l. slice_get l c.args.machine.now.live.at) c.as_slice.ensures.value) ∙ c.reader_at-reader.ensures)
    c.requires.line
    (c.split_at.ensures.front ∙ ap (take c.args.extent.text) c.as_slice-2.ensures.value)
    (rw c.in-Ok-Some.field-0-is at c.in-Ok-Some.ensures)
    c.in-Ok.ensures.put
    c.cut_front.ensures
