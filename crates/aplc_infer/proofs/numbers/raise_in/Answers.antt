use Rattle.std.proofs.Common.{rules, ◌≡◌, sym, subst, true, arith}
use Rattle.aplc_infer.specs.Facts.{below, join}
use Rattle.aplc_infer.specs.Seeing.{at}
use Rattle.aplc_infer.specs.Pools.{spelled}
use Rattle.aplc_infer.specs.Rising.{RowRises}
use Rattle.aplc_infer.proofs.Pooled.{row_lifted}
use Rattle.aplc_infer.proofs.numbers.raise_in.Goals as goal

pub returns-clause-rises : goal.returns-clause-rises
returns-clause-rises c =
    let p = c.args.pool.now in
    let q = c.add.new.self in
    let hs = c.args.row.now in
    let test : c.lies_below.result ≡ below c.args.fact.now (at p c.at-number.result) = search rules in
    let made : at q c.in_ok-new.new ≡ join (at p c.at-number.result) c.args.fact.now = search rules in
    subst (λ rs. RowRises (spelled p hs) (spelled q rs) c.args.k c.args.fact.now true) (sym c.set.ensures)
    (row_lifted p q hs c.args.k c.at-number.result c.in_ok-new.new c.args.fact.now c.lies_below.result c.requires.housed c.in_ok-new.ensures.grows (omega arith) c.at-number.ensures test c.if-lies_below.false c.is_short-short.ensures made)
