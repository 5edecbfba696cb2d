use Rattle.std.proofs.Common.{append_assoc}
use Rattle.aplc_cprof.proofs.Lists.{prototypes_go_on}
use Rattle.aplc_cprof.proofs.printing.put_prototypes.Goals as goal

pub loop-k-preserved : goal.loop-k-preserved
loop-k-preserved c =
    let next = prototypes_go_on c.loop-k.k c.args.count c.loop-k-test.true in
    simp (c.in_ok-put-2.ensures, c.in_ok-put_number.ensures, c.in_ok-put.ensures, append_assoc) (simp (next, append_assoc) at c.loop-k.invariant)
