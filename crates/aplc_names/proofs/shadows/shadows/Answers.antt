use Rattle.std.proofs.Common.{◌∙◌, sym, ap, refl, subst, length, arith}
use Rattle.std.proofs.lemmas.Option.{slice_get_read}
use Rattle.aplc_names.specs.Clashes.{IsShadowedIn}
use Rattle.aplc_names.specs.Graphs.{IsGraph, AreReach, Hides}
use Rattle.aplc_names.proofs.Minima.{none_yet, more, all_of}
use Rattle.aplc_names.proofs.HiddenNames.{is_graph, tells}
use Rattle.aplc_names.proofs.shadows.shadows.Goals as goal

pub reaches-requires : goal.reaches-requires
reaches-requires c = subst (λ g. IsGraph g) (sym (c.as_slice-graph.ensures.value ∙ c.in_ok-calls.ensures)) (is_graph c.args.heads.now c.args.outlines.now c.requires)

pub shadowed-one-requires : goal.shadowed-one-requires
shadowed-one-requires c =
    let rows = c.as_slice-rows.result.now in
    let lists = c.as_slice-lists.result.now in
    let reach = subst (λ r. AreReach c.as_slice-graph.result.now r) (sym c.as_slice-rows.ensures.value) c.in_ok-reached.ensures in
    let long = ap length c.names-names.ensures in
    let hides = subst (λ n. Hides rows lists c.loop-i.i (length rows) n c.as_slice-marks.result.now) long (subst (λ m. Hides rows lists c.loop-i.i (length rows) (length c.names-names.result.now) m) (sym c.as_slice-marks.ensures.value) c.in_ok-found.ensures) in
    tells c.args.heads.now c.args.outlines.now c.loop-i.i c.in_ok-all.all lists c.as_slice-graph.result.now rows c.as_slice-marks.result.now (c.as_slice-graph.ensures.value ∙ c.in_ok-calls.ensures) (c.as_slice-lists.ensures.value ∙ c.in_ok-places.ensures) c.in_ok-all.ensures reach hides

pub loop-i-init : goal.loop-i-init
loop-i-init c = none_yet (IsShadowedIn c.args.heads.now c.args.outlines.now) c.args.outlines.now

pub loop-i-preserved : goal.loop-i-preserved
loop-i-preserved c = more (IsShadowedIn c.args.heads.now c.args.outlines.now) c.args.outlines.now c.loop-i.i c.index-outlines-i.result c.loop-i.best c.shadowed-one.result c.earlier-best.result (slice_get_read c.args.outlines.now _ c.loop-i.i _ refl (omega arith) c.index-outlines-i.is) c.earlier-best.ensures c.loop-i.invariant c.shadowed-one.ensures

pub returns : goal.returns
returns c = all_of (IsShadowedIn c.args.heads.now c.args.outlines.now) c.args.outlines.now c.loop-i.i c.loop-i.best (omega arith) c.loop-i.invariant
