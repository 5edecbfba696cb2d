use Rattle.std.proofs.Common.{ℕ, ◌++◌, ◌+◌, ◌-◌, ap, ◌∙◌, codes, decimal, append_assoc}
use Rattle.aplc_cprof.specs.Text.{listed, listed_from}
use Rattle.aplc_cprof.proofs.Lists.{written, listed_goes_on}
use Rattle.aplc_cprof.proofs.printing.put_names.Goals as goal

pub loop-k-preserved : goal.loop-k-preserved
loop-k-preserved c =
    let item = λ (k : ℕ). c.args.before.now ++ decimal k ++ c.args.after.now in
    let k = c.loop-k.k in
    let n = c.args.count in
    written c.loop-k.out.items c.put_name-in-loop-k.new.out.items (codes ", " ++ item k) (listed_from item k (n - k)) (listed_from item (k + 1) (n - (k + 1)))
    (c.args.out.now.items ++ listed item n)
    (c.in_ok-put_name-2.ensures ∙ ap (λ t. t ++ item k) c.in_ok-put.ensures ∙ append_assoc c.loop-k.out.items (codes ", ") (item k))
    (listed_goes_on item k n c.loop-k-test.true) c.loop-k.invariant
