use Rattle.std.proofs.Common.{◌∙◌, arith}
use Rattle.aplc_cprof.proofs.Kept.{kept_same, kept_trans}
use Rattle.aplc_quad.proofs.Builds.{on_ok}
use Rattle.aplc_quad.proofs.RangeNests.{one_built, places_old}
use Rattle.aplc_quad.proofs.ranging.range_one.Goals as goal

pub emit-requires-clause-places : goal.emit-requires-clause-places
emit-requires-clause-places g c = places_old c.args.b.now.ints c.args.b.now.ints c.args.range.least c.args.range.greatest c.args.at.now c.as_slice.result.now c.args.column (omega arith) (c.as_slice.ensures ∙ c.in_ok-push.ensures.ok) c.requires.at c.requires.column

pub returns-clause-ok : goal.returns-clause-ok
returns-clause-ok g c =
    on_ok c.widen_code.result
    (λ added length. one_built (g.E.ElementCode.test c.args.code.now) (g.E.ElementCode.steps c.args.code.now) (g.E.ElementCode.given c.args.code.now) (g.E.ElementCode.depth c.args.code.now) c.args.b.now c.emit.new.b c.widen_code.new.b
    c.args.at.now c.as_slice.result.now length c.args.column c.args.range.least c.args.range.greatest c.in_ok-v.v (g.met.E.ElementCode.reads c.args.code.now) c.requires.given c.requires.range
    (c.as_slice.ensures ∙ c.in_ok-push.ensures.ok) c.in_ok-v.ensures.emits added)
    c.widen_code.ensures.code

pub returns-clause-kept : goal.returns-clause-kept
returns-clause-kept g c = kept_trans c.args.b.now c.emit.new.b c.widen_code.new.b c.in_ok-v.ensures.kept c.widen_code.ensures.kept

pub returns-in_err-push-clause-kept : goal.returns-in_err-push-clause-kept
returns-in_err-push-clause-kept g c = kept_same c.args.b.now
