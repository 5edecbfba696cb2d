use Rattle.std.proofs.Common.{rules}
use Rattle.aplc_crun.specs.Flat.{flat_of, layout_of}
use Rattle.aplc_crun.proofs.Moves.{moves_check}
use Rattle.aplc_crun.proofs.sprint.check.Goals as goal

pub returns-clause-moved : goal.returns-clause-moved
returns-clause-moved c = λ at.
    moves_check (layout_of c.args.laid.now) c.args.x c.args.op c.args.e.now c.args.g.now at c.args.next c.known-a.result c.known-b.result c.quick_checked-v.result (flat_of c.args.live.now) (flat_of c.assign.new.live)
    (c.known-a.ensures (search rules)) (c.known-b.ensures (search rules)) (search rules) (search rules)
