use Rattle.aplc_stage.proofs.Calls.{scalars_give}
use Rattle.aplc_stage.proofs.dyadic.held_alike.Goals as goal

pub returns-in_ok-dyad_code-in-Scalar-right-clause-computes : goal.returns-in_ok-dyad_code-in-Scalar-right-clause-computes
returns-in_ok-dyad_code-in-Scalar-right-clause-computes c =
    scalars_give c.args.f c.args.kind c.args.left.now c.args.right.now c.in-Scalar.x c.in-Scalar-right.y c.in_ok-dyad_code-in-Scalar-right.field-0 c.args.b.now c.dyad_code.new.b c.in-Scalar.is c.in-Scalar-right.is c.requires.kinds c.requires.given
    c.in_ok-dyad_code-in-Scalar-right.ensures.emits
