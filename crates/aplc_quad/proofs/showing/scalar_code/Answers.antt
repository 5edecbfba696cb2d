use Rattle.std.proofs.Common.{◌∙◌, subst, sym}
use Rattle.aplc_cprof.specs.Frames.{AreOld}
use Rattle.aplc_cprof.proofs.Kept.{kept_trans}
use Rattle.aplc_quad.proofs.Builds.{on_ok}
use Rattle.aplc_quad.proofs.LineShows.{scalar_built}
use Rattle.aplc_quad.proofs.showing.scalar_code.Goals as goal

pub emit-requires-clause-places : goal.emit-requires-clause-places
emit-requires-clause-places g c = subst (λ l. AreOld c.args.b.now.ints l) (sym (c.as_slice.ensures ∙ c.new-at.ensures)) tt

pub returns-clause-ok : goal.returns-clause-ok
returns-clause-ok g c =
    on_ok c.line_feed.result
    (scalar_built (g.E.ElementCode.test c.args.code.now) (g.E.ElementCode.steps c.args.code.now) (g.E.ElementCode.given c.args.code.now) (g.E.ElementCode.depth c.args.code.now) c.args.b.now c.emit.new.b c.element_code.new.b c.line_feed.new.b
    c.as_slice.result.now c.args.kind c.plain_columns-columns.result c.in_ok-v.v c.plain_columns-columns.ensures (c.as_slice.ensures ∙ c.new-at.ensures) c.in_ok-v.ensures.emits c.in_ok-element_code.ensures.code)
    c.line_feed.ensures.code

pub returns-in_err-element_code-clause-kept : goal.returns-in_err-element_code-clause-kept
returns-in_err-element_code-clause-kept g c = kept_trans c.args.b.now c.emit.new.b c.element_code.new.b c.in_ok-v.ensures.kept c.in_err-element_code.ensures.kept

pub returns-clause-kept : goal.returns-clause-kept
returns-clause-kept g c = kept_trans c.args.b.now c.element_code.new.b c.line_feed.new.b (kept_trans c.args.b.now c.emit.new.b c.element_code.new.b c.in_ok-v.ensures.kept c.in_ok-element_code.ensures.kept) c.line_feed.ensures.kept
