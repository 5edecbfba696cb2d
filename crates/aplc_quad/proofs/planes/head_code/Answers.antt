use Rattle.aplc_quad.proofs.Turns.{kept_four}
use Rattle.aplc_quad.proofs.planes.head_code.Goals as goal

pub returns-clause-kept : goal.returns-clause-kept
returns-clause-kept c = kept_four c.args.b.now c.fresh_int.new.self c.emit.new.self c.emit-2.new.self c.in_ok-moved.ensures.kept c.in_ok-emit.ensures.kept c.in_ok-emit-2.ensures.kept
