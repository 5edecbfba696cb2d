use Rattle.std.proofs.Common.{rules}
use Rattle.aplc_crun.specs.Flat.{flat_of, layout_of}
use Rattle.aplc_crun.proofs.Moves.{moves_cell}
use Rattle.aplc_crun.proofs.sprint.set_cell.Goals as goal

pub returns-in-Ok-clause-moved : goal.returns-in-Ok-clause-moved
returns-in-Ok-clause-moved c = λ at.
    moves_cell (layout_of c.args.laid.now) c.args.p c.args.e.now c.args.g.now at c.args.next c.known-place.result c.known-v.result c.in-Some.b c.write.new.self.buffers.items (flat_of c.args.live.now) (flat_of record c.args.live.now { heap = c.write.new.self })
    (c.known-place.ensures (search rules)) (c.known-v.ensures (search rules)) (search rules) (search rules) (search rules)
