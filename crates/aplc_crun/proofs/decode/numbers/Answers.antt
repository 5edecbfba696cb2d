use Rattle.std.proofs.Common.{arith}
use Rattle.aplc_crun.proofs.Decoding.{part_bad, part_last, part_more, before_new, there_is, there_is_none}
use Rattle.aplc_crun.proofs.decode.numbers.Goals as goal

pub parts-init : goal.parts-init
parts-init c = before_new c.new-cells.result.items c.args.line.now c.new-cells.ensures.items

pub returns-in-Ok-false : goal.returns-in-Ok-false
returns-in-Ok-false c = part_bad c.parts.cells.items c.parts.rest.now c.args.line.now c.split_at.result.0.now c.split_at.result.1.now c.part_length.result c.parts.invariant c.part_length.ensures.place c.split_at.ensures.front c.split_at.ensures.back (there_is_none _ _ _ c.in-Ok-false.field-0-test c.in-Ok-false.ensures)

pub returns-in-empty : goal.returns-in-empty
returns-in-empty c = part_last c.parts.cells.items c.parts.rest.now c.args.line.now c.split_at.result.0.now c.split_at.result.1.now c.part_length.result c.parts.invariant c.part_length.ensures.place c.split_at.ensures.front c.split_at.ensures.back c.put_part.new.cells.items (there_is _ _ _ c.in-Ok-true.field-0-test c.in-Ok-true.ensures) (omega arith)

pub parts-preserved : goal.parts-preserved
parts-preserved c = part_more c.parts.cells.items c.parts.rest.now c.args.line.now c.split_at.result.0.now c.split_at.result.1.now c.part_length.result c.parts.invariant c.part_length.ensures.place c.split_at.ensures.front c.split_at.ensures.back c.put_part.new.cells.items (there_is _ _ _ c.in-Ok-true.field-0-test c.in-Ok-true.ensures) (omega arith)
