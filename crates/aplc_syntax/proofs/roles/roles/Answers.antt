use Rattle.std.proofs.Common.{refl, arith, rules}
use Rattle.aplc_syntax.proofs.Roled.{roles_start, roles_more, within_start, within_more, within_at}
use Rattle.aplc_syntax.proofs.roles.roles.Goals as goal

pub loop-i-init : goal.loop-i-init
loop-i-init c = record {
  room = omega arith;
  within = within_start c.args.headers.now c.count.result _ (c.in_ok-roles.ensures.items_if_clones_equal (search rules)) c.count.ensures;
  roles = roles_start c.args.headers.now _ c.count.result _ (c.in_ok-roles.ensures.items_if_clones_equal (search rules)) (omega arith);
}

pub loop-i-preserved : goal.loop-i-preserved
loop-i-preserved c = record {
  room = omega (arith, c.loop-i.invariant.room);
  within = within_more c.args.headers.now _ _ c.loop-i.roles.items c.loop-i.invariant.within;
  roles = roles_more c.args.headers.now _ c.loop-i.i c.index-headers-i.result c.loop-i.roles.items _ c.role.result (omega (arith, c.loop-i.invariant.room, c.loop-i-test.true)) (omega (arith, c.loop-i-test.true)) c.index-headers-i.is c.role.ensures refl
      (within_at c.args.headers.now _ _ c.index-headers-i.result (omega (arith, c.loop-i.invariant.room, c.loop-i-test.true)) c.index-headers-i.is c.loop-i.invariant.within) c.loop-i.invariant.roles;
}
