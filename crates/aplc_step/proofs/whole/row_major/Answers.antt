use Rattle.std.proofs.Common.{◌∙◌, ◌++◌, ◌∷◌, [], ap, subst, List}
use Rattle.aplc_cprof.specs.declared.syntax.Int.{Int}
use Rattle.aplc_cprof.specs.declared.syntax.CExpr.{CExpr}
use Rattle.aplc_cprof.proofs.Kept.{kept_trans}
use Rattle.aplc_cprof.proofs.Frames.{are_old_more}
use Rattle.aplc_step.proofs.Builds.{Three, three_set, rest_old, scalar_makes, axes_makes}
use Rattle.aplc_step.proofs.whole.row_major.Goals as goal

pub returns-in_err-one-clause-kept : goal.returns-in_err-one-clause-kept
returns-in_err-one-clause-kept c = kept_trans c.args.b.now c.set_fresh.new.b c.set_fresh-2.new.b c.in_ok-base.ensures.kept c.in_err-one.ensures.kept

pub returns-in_err-test-clause-kept : goal.returns-in_err-test-clause-kept
returns-in_err-test-clause-kept c = kept_trans c.args.b.now c.set_fresh.new.b c.set_fresh-2.new.b c.in_ok-base.ensures.kept c.in_ok-one.ensures.kept

pub returns-in_err-some-clause-kept : goal.returns-in_err-some-clause-kept
returns-in_err-some-clause-kept c = kept_trans c.args.b.now c.set_fresh-2.new.b c.set_fresh-3.new.b (kept_trans c.args.b.now c.set_fresh.new.b c.set_fresh-2.new.b c.in_ok-base.ensures.kept c.in_ok-one.ensures.kept) c.in_err-some.ensures.kept

pub returns-in-empty-clause-ok : goal.returns-in-empty-clause-ok
returns-in-empty-clause-ok c =
    let s3 = c.set_fresh-3.new.b in
    scalar_makes c.args.b.now s3 c.in_ok-base.base c.in_ok-one.one c.in_ok-some.some c.args.lengths.now c.new-strides.result.items c.in-empty.len_below c.new-strides.ensures.items
    (subst (λ (e : CExpr). Three c.args.b.now s3 c.in_ok-base.base c.in_ok-one.one c.in_ok-some.some e) c.in_ok-test.ensures
    (three_set c.args.b.now c.set_fresh.new.b c.set_fresh-2.new.b s3 c.in_ok-base.base c.in_ok-one.one c.in_ok-some.some c.in_ok-test.test
    c.in_ok-base.ensures.name c.in_ok-base.ensures.set c.in_ok-one.ensures.name c.in_ok-one.ensures.set c.in_ok-some.ensures.name c.in_ok-some.ensures.set))

pub returns-in-empty-clause-kept : goal.returns-in-empty-clause-kept
returns-in-empty-clause-kept c = kept_trans c.args.b.now c.set_fresh-2.new.b c.set_fresh-3.new.b (kept_trans c.args.b.now c.set_fresh.new.b c.set_fresh-2.new.b c.in_ok-base.ensures.kept c.in_ok-one.ensures.kept) c.in_ok-some.ensures.kept

pub returns-in_err-push-in-len1-up-clause-kept : goal.returns-in_err-push-in-len1-up-clause-kept
returns-in_err-push-in-len1-up-clause-kept c = kept_trans c.args.b.now c.set_fresh-2.new.b c.set_fresh-3.new.b (kept_trans c.args.b.now c.set_fresh.new.b c.set_fresh-2.new.b c.in_ok-base.ensures.kept c.in_ok-one.ensures.kept) c.in_ok-some.ensures.kept

pub products-requires-clause-lengths : goal.products-requires-clause-lengths
products-requires-clause-lengths c =
    let kept = kept_trans c.args.b.now c.set_fresh-2.new.b c.set_fresh-3.new.b (kept_trans c.args.b.now c.set_fresh.new.b c.set_fresh-2.new.b c.in_ok-base.ensures.kept c.in_ok-one.ensures.kept) c.in_ok-some.ensures.kept in
    rest_old c.set_fresh-3.new.b.ints c.args.lengths.now (are_old_more c.args.b.now.ints c.set_fresh-3.new.b.ints c.args.lengths.now kept.ints c.requires.lengths)

pub returns-in_err-products-in-len1-up-clause-kept : goal.returns-in_err-products-in-len1-up-clause-kept
returns-in_err-products-in-len1-up-clause-kept c =
    kept_trans c.args.b.now c.set_fresh-3.new.b c.products.new.b
    (kept_trans c.args.b.now c.set_fresh-2.new.b c.set_fresh-3.new.b (kept_trans c.args.b.now c.set_fresh.new.b c.set_fresh-2.new.b c.in_ok-base.ensures.kept c.in_ok-one.ensures.kept) c.in_ok-some.ensures.kept)
    c.in_err-products-in-len1-up.ensures.kept

pub returns-in_ok-products-in-len1-up-clause-ok : goal.returns-in_ok-products-in-len1-up-clause-ok
returns-in_ok-products-in-len1-up-clause-ok c =
    let s3 = c.set_fresh-3.new.b in
    axes_makes c.args.b.now s3 c.products.new.b c.in_ok-base.base c.in_ok-one.one c.in_ok-some.some c.in_ok-products-in-len1-up.field-0 c.args.lengths.now c.push.new.self.items c.products.new.strides.items
    c.in-len1-up.len_at_least c.requires.lengths (c.in_ok-push-in-len1-up.ensures.items ∙ ap (λ (l : List Int). l ++ c.in_ok-one.one ∷ []) c.new-strides.ensures.items)
    (subst (λ (e : CExpr). Three c.args.b.now s3 c.in_ok-base.base c.in_ok-one.one c.in_ok-some.some e) c.in_ok-test.ensures
    (three_set c.args.b.now c.set_fresh.new.b c.set_fresh-2.new.b s3 c.in_ok-base.base c.in_ok-one.one c.in_ok-some.some c.in_ok-test.test
    c.in_ok-base.ensures.name c.in_ok-base.ensures.set c.in_ok-one.ensures.name c.in_ok-one.ensures.set c.in_ok-some.ensures.name c.in_ok-some.ensures.set))
    c.in_ok-products-in-len1-up.ensures.ok

pub returns-in_ok-products-in-len1-up-clause-kept : goal.returns-in_ok-products-in-len1-up-clause-kept
returns-in_ok-products-in-len1-up-clause-kept c =
    kept_trans c.args.b.now c.set_fresh-3.new.b c.products.new.b
    (kept_trans c.args.b.now c.set_fresh-2.new.b c.set_fresh-3.new.b (kept_trans c.args.b.now c.set_fresh.new.b c.set_fresh-2.new.b c.in_ok-base.ensures.kept c.in_ok-one.ensures.kept) c.in_ok-some.ensures.kept)
    c.in_ok-products-in-len1-up.ensures.kept
