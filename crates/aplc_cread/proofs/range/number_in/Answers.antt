use Rattle.std.proofs.Common.{◌≡◌, ◌∙◌, ap, sym, subst, arith, ◌++◌, ◌-◌, decimal}
use Rattle.aplc_cread.specs.Reading.{first}
use Rattle.aplc_cread.specs.Ranges.{Reach}
use Rattle.aplc_cread.proofs.Rules.{halts_at}
use Rattle.aplc_cread.proofs.Numbers.{number_first}
use Rattle.aplc_cread.proofs.Ranges.{ranged_stops_first, reach_below, reach_true, reach_false}
use Rattle.aplc_cread.proofs.range.number_in.Goals as goal

pub returns-in-None : goal.returns-in-None
returns-in-None c = halts_at (ranged_stops_first _ _ _ c.requires.small c.requires.some (λ d e f. let g = sym e ∙ ap first c.in-None.ensures in absurd (cc g)))

pub returns-then-not-is_digit : goal.returns-then-not-is_digit
returns-then-not-is_digit c = halts_at (ranged_stops_first _ _ _ c.requires.small c.requires.some (λ d e f. let g = sym e ∙ ap first c.in-Some.ensures in absurd (cc (g, f, c.is_digit.ensures, c.if-not-is_digit.true))))

pub returns-then-not-can_reach : goal.returns-then-not-can_reach
returns-then-not-can_reach c = halts_at (ranged_stops_first _ _ _ c.requires.small c.requires.some (λ d e f r.
    let g = sym e ∙ ap first c.in-Some.ensures in let h : d ≡ c.in-Some.front.0 = cc in
    reach_false _ _ _ _ c.can_reach.ensures c.if-not-can_reach.true (subst (λ n. Reach c.args.low c.args.bound n) (ap (λ x. x - 48) h ∙ sym c.from-number.ensures) r)))

pub more_in-requires-clause-reach : goal.more_in-requires-clause-reach
more_in-requires-clause-reach c = reach_true _ _ _ _ c.can_reach.ensures c.if-not-can_reach.false

pub more_in-requires-clause-below : goal.more_in-requires-clause-below
more_in-requires-clause-below c = reach_below _ _ _ c.requires.small (omega arith) (reach_true _ _ _ _ c.can_reach.ensures c.if-not-can_reach.false)

pub more_in-requires-clause-read : goal.more_in-requires-clause-read
more_in-requires-clause-read c =
    c.in-Some.ensures
    ∙ ap (λ x. x ++ c.in-Some.front.1.now) (number_first c.in-Some.front.0 (sym c.is_digit.ensures ∙ c.if-not-is_digit.false))
    ∙ ap (λ x. decimal x ++ c.in-Some.front.1.now) (sym c.from-number.ensures)
