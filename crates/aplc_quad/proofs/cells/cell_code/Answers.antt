use Rattle.std.proofs.Common.{◌∙◌}
use Rattle.aplc_cprof.proofs.Kept.{kept_trans}
use Rattle.aplc_quad.proofs.Builds.{on_ok, given_code}
use Rattle.aplc_quad.proofs.CodeRows.{cell_built, places_old}
use Rattle.aplc_quad.proofs.cells.cell_code.Goals as goal

pub emit-requires-clause-places : goal.emit-requires-clause-places
emit-requires-clause-places g c = places_old _ c.args.b.now c.gap_code.new.b c.args.at.now c.as_slice.result.now c.args.column c.in_ok-gap_code.ensures.code (c.as_slice.ensures ∙ c.in_ok-push.ensures.ok) c.requires.at c.requires.column

pub emit-requires-clause-given : goal.emit-requires-clause-given
emit-requires-clause-given g c = given_code _ (g.E.ElementCode.given c.args.code.now) c.args.b.now c.gap_code.new.b c.in_ok-gap_code.ensures.code c.requires.given

pub returns-clause-ok : goal.returns-clause-ok
returns-clause-ok g c =
    on_ok c.element_code.result
    (cell_built (g.E.ElementCode.test c.args.code.now) (g.E.ElementCode.steps c.args.code.now) (g.E.ElementCode.given c.args.code.now) (g.E.ElementCode.depth c.args.code.now) c.args.b.now c.gap_code.new.b c.emit.new.b c.element_code.new.b
    c.args.at.now c.as_slice.result.now c.args.column c.in_ok-v.v c.args.columns (g.met.E.ElementCode.reads c.args.code.now) c.requires.given c.requires.at c.requires.column c.requires.columns
    c.in_ok-gap_code.ensures.code (c.as_slice.ensures ∙ c.in_ok-push.ensures.ok) c.in_ok-v.ensures.emits)
    c.element_code.ensures.code

pub returns-in_err-v-clause-kept : goal.returns-in_err-v-clause-kept
returns-in_err-v-clause-kept g c = kept_trans c.args.b.now c.gap_code.new.b c.emit.new.b c.in_ok-gap_code.ensures.kept c.in_err-v.ensures.kept

pub returns-clause-kept : goal.returns-clause-kept
returns-clause-kept g c = kept_trans c.args.b.now c.emit.new.b c.element_code.new.b (kept_trans c.args.b.now c.gap_code.new.b c.emit.new.b c.in_ok-gap_code.ensures.kept c.in_ok-v.ensures.kept) c.element_code.ensures.kept
