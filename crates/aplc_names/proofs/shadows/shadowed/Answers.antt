use Rattle.std.proofs.Common.{arith, subst}
use Rattle.aplc_lex.specs.Firsts.{IsFirstOf}
use Rattle.aplc_names.specs.Firsts.{Somewhere}
use Rattle.aplc_names.specs.Clashes.{IsShadowed}
use Rattle.aplc_names.proofs.Minima.{none_yet, all_of}
use Rattle.aplc_names.proofs.HiddenNames.{shadowed_more}
use Rattle.aplc_names.proofs.shadows.shadowed.Goals as goal

pub loop-m-init : goal.loop-m-init
loop-m-init c = none_yet (IsShadowed c.args.heads.now c.args.outlines.now c.args.place c.args.outline.now) c.as_slice-m-items.result.now

pub loop-m-preserved : goal.loop-m-preserved
loop-m-preserved c = shadowed_more c.args.heads.now c.args.outlines.now c.args.place c.args.all.now c.args.marks.now c.args.outline.now c.as_slice-m-items.result.now c.loop-m.m-index _ c.is_shadowed-test.result c.loop-m.best c.refused_if-one.result c.earlier-best.result c.requires (omega arith) c.is_shadowed-test.ensures c.refused_if-one.ensures c.earlier-best.ensures c.loop-m.invariant

pub returns : goal.returns
returns c = subst (λ xs. IsFirstOf (Somewhere (IsShadowed c.args.heads.now c.args.outlines.now c.args.place c.args.outline.now) xs) c.loop-m.best) c.as_slice-m-items.ensures (all_of (IsShadowed c.args.heads.now c.args.outlines.now c.args.place c.args.outline.now) c.as_slice-m-items.result.now c.loop-m.m-index c.loop-m.best (omega arith) c.loop-m.invariant)
