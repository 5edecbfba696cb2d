use Rattle.aplc_cprof.proofs.Kept.{kept_same, kept_trans}
use Rattle.aplc_step.proofs.Builds.{products_empty, products_more}
use Rattle.aplc_step.proofs.whole.+products.Goals as goal

pub returns-in_err-v-in-len1-up-clause-kept : goal.returns-in_err-v-in-len1-up-clause-kept
returns-in_err-v-in-len1-up-clause-kept t c = kept_trans c.args.b.now c.products.new.b c.set_fresh.new.b c.in_ok-behind-in-len1-up.ensures.kept c.in_err-v-in-len1-up.ensures.kept

pub returns-in_err-insert-in-len1-up-clause-kept : goal.returns-in_err-insert-in-len1-up-clause-kept
returns-in_err-insert-in-len1-up-clause-kept t c = kept_trans c.args.b.now c.products.new.b c.set_fresh.new.b c.in_ok-behind-in-len1-up.ensures.kept c.in_ok-v-in-len1-up.ensures.kept

pub returns-in-empty-clause-ok : goal.returns-in-empty-clause-ok
returns-in-empty-clause-ok t c = products_empty c.args.b.now c.args.some c.args.lengths.now c.args.strides.now.items c.in-empty.len_below c.requires.some

pub returns-in-empty-clause-kept : goal.returns-in-empty-clause-kept
returns-in-empty-clause-kept t c = kept_same c.args.b.now

pub returns-in_ok-insert-in-len1-up-clause-ok : goal.returns-in_ok-insert-in-len1-up-clause-ok
returns-in_ok-insert-in-len1-up-clause-ok t c =
    products_more c.args.b.now c.products.new.b c.set_fresh.new.b c.args.some c.in_ok-behind-in-len1-up.behind c.in_ok-v-in-len1-up.v c.args.lengths.now
    c.args.strides.now.items c.products.new.strides.items c.insert.new.self.items c.in_ok-value-in-len1-up.value
    c.in-len1-up.len_at_least c.requires.lengths c.in_ok-behind-in-len1-up.ensures.ok c.in_ok-value-in-len1-up.ensures c.in_ok-v-in-len1-up.ensures.name c.in_ok-v-in-len1-up.ensures.set
    c.in_ok-insert-in-len1-up.ensures.items

pub returns-in_ok-insert-in-len1-up-clause-kept : goal.returns-in_ok-insert-in-len1-up-clause-kept
returns-in_ok-insert-in-len1-up-clause-kept t c = kept_trans c.args.b.now c.products.new.b c.set_fresh.new.b c.in_ok-behind-in-len1-up.ensures.kept c.in_ok-v-in-len1-up.ensures.kept
