use Rattle.std.proofs.Common.{arith, subst}
use Rattle.std.proofs.lemmas.Result.{IfOk-weaker}
use Rattle.aplc_gen.specs.Emitted.{site_at}
use Rattle.aplc_gen.specs.Codes.{IsFunction}
use Rattle.aplc_gen.specs.Writing.{Spot, site_of, lowered_core}
use Rattle.aplc_gen.proofs.generating.numbered.Goals as goal

pub frame_of-frame-requires : goal.frame_of-frame-requires
frame_of-frame-requires c =
    let many = c.requires.fits.frames in
    let inside = c.requires.function in
    omega (arith, many, inside)

pub returns : goal.returns
returns c =
    IfOk-weaker c.function.result (λ x. IsFunction (site_of c.in_ok-flow.flow) x) (λ x. IsFunction (site_at c.args.layout.now (lowered_core c.args.core.now) c.args.first c.args.number) x)
    (λ x h. subst (λ (s : Spot). IsFunction (site_of s) x) c.in_ok-flow.ensures h) c.function.ensures
