use Rattle.std.proofs.Common.{rules, ◌≡◌, sym, subst, true, arith}
use Rattle.aplc_infer.specs.Facts.{below, IsShort}
use Rattle.aplc_infer.specs.Seeing.{at}
use Rattle.aplc_infer.specs.Pools.{spelled}
use Rattle.aplc_infer.specs.Rising.{RowRises}
use Rattle.aplc_infer.proofs.Pooled.{row_lifted}
use Rattle.aplc_infer.proofs.numbers.pass_in.Goals as goal

pub returns-clause-rises : goal.returns-clause-rises
returns-clause-rises c =
    let p = c.args.pool.now in
    let q = c.joined.new.self in
    let hs = c.args.row.now in
    let f = at p c.args.from in
    let test : c.is_covered.result ≡ below f (at p c.at-number.result) = search rules in
    let short : IsShort f = search rules in
    subst (λ rs. RowRises (spelled p hs) (spelled q rs) c.args.k f true) (sym c.set.ensures)
    (row_lifted p q hs c.args.k c.at-number.result c.in_ok-new.new f c.is_covered.result c.requires.housed c.in_ok-new.ensures.grows (omega arith) c.at-number.ensures test c.if-is_covered.false short c.in_ok-new.ensures.fact)
