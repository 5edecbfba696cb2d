use Rattle.std.proofs.Common.{arith, ap, sym, ◌∙◌, ◌<◌, ◌≤◌, length}
use Rattle.aplc_gen.specs.Layouts.{the_routine}
use Rattle.aplc_gen.specs.Laid.{lines_fall}
use Rattle.aplc_gen.specs.Writing.{Spot, site_of, lowered_core}
use Rattle.aplc_gen.specs.Sparing.{rank_in}
use Rattle.aplc_gen.proofs.SparedRanks.{all_on, all_not, all_over, routines_length}
use Rattle.aplc_gen.proofs.ranks.all_fall.Goals as goal

pub loop-number-preserved : goal.loop-number-preserved
loop-number-preserved c =
    let p = lowered_core c.args.core.now in
    let ranks = c.args.ranks.now in
    let long = routines_length c.args.core.now.program in
    let inside : c.loop-number.number < length p.routines = omega (arith, c.loop-number-test.true, c.count-number-end.ensures, c.requires, long) in
    let own = c.lines_fall.ensures ∙ ap (λ (s : Spot). lines_fall (rank_in ranks) s.number (the_routine (site_of s)) (the_routine (site_of s)).steps) c.new-site.ensures in
    all_on ranks p c.loop-number.number _ inside (sym own ∙ c.if-not-lines_fall.false) c.loop-number.invariant

pub returns-then-not-lines_fall : goal.returns-then-not-lines_fall
returns-then-not-lines_fall c =
    let p = lowered_core c.args.core.now in
    let ranks = c.args.ranks.now in
    let long = routines_length c.args.core.now.program in
    let inside : c.loop-number.number < length p.routines = omega (arith, c.loop-number-test.true, c.count-number-end.ensures, c.requires, long) in
    let own = c.lines_fall.ensures ∙ ap (λ (s : Spot). lines_fall (rank_in ranks) s.number (the_routine (site_of s)) (the_routine (site_of s)).steps) c.new-site.ensures in
    all_not ranks p c.loop-number.number _ inside (sym own ∙ c.if-not-lines_fall.true) c.loop-number.invariant

pub returns : goal.returns
returns c =
    let p = lowered_core c.args.core.now in
    let long = routines_length c.args.core.now.program in
    let over : length p.routines ≤ c.loop-number.number = omega (arith, c.loop-number-test.false, c.count-number-end.ensures, c.requires, long) in
    all_over c.args.ranks.now p c.loop-number.number _ over c.loop-number.invariant
