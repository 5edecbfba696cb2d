use Rattle.aplc_syntax.proofs.Heads.{first_and_rest, local_more}
use Rattle.aplc_syntax.proofs.header.locals.Goals as goal

pub loop-rest-preserved : goal.loop-rest-preserved
loop-rest-preserved c = local_more c.loop-rest.out.items _ _ _ _ _ _ _ _ c.named.result _ c.in_ok-push-in-Name.ensures.items c.named.ensures (first_and_rest _ _ c.in-len1-up.len_at_least) (first_and_rest _ _ c.in-len1-up-after.len_at_least) c.in-Semicolon.is c.in-Name.is c.loop-rest.invariant
