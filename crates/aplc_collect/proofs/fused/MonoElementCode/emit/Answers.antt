use Rattle.aplc_scalar.specs.Scalar.{monadic}
use Rattle.aplc_cprof.proofs.Kept.{kept_trans}
use Rattle.aplc_collect.specs.Scalars.{mono_steps, mono_depth}
use Rattle.aplc_collect.proofs.Fusing.{mono_emits, if_ok}
use Rattle.aplc_collect.proofs.fused.MonoElementCode.emit.Goals as goal

pub returns-clause-emits : goal.returns-clause-emits
returns-clause-emits g c =
    let x = c.args.self.now in
    if_ok c.mono_code.result
    (λ v em. mono_emits (monadic x.f) mono_steps mono_depth (g.A.ElementCode.test x.argument) (g.A.ElementCode.steps x.argument) (g.A.ElementCode.given x.argument) (g.A.ElementCode.depth x.argument)
    c.args.b.now c.emit.new.b c.mono_code.new.b c.args.at.now c.in_ok-a.a v
    (g.met.A.ElementCode.numbers x.argument) c.in_ok-a.ensures.emits em)
    c.mono_code.ensures.emits

pub returns-clause-kept : goal.returns-clause-kept
returns-clause-kept g c = kept_trans c.args.b.now c.emit.new.b c.mono_code.new.b c.in_ok-a.ensures.kept c.mono_code.ensures.kept
