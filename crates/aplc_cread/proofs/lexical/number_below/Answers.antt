use Rattle.aplc_cread.proofs.Rules.{halts_at}
use Rattle.std.proofs.Common.{◌≡◌, ◌∙◌, ap, sym, arith, ◌++◌, decimal}
use Rattle.aplc_cread.specs.Reading.{first}
use Rattle.aplc_cread.proofs.Numbers.{number_stops_first, number_first}
use Rattle.aplc_cread.proofs.lexical.number_below.Goals as goal

pub returns-then-not-is_digit : goal.returns-then-not-is_digit
returns-then-not-is_digit c = halts_at (number_stops_first _ _ c.requires.small c.requires.positive (λ d e f. let g = sym e ∙ ap first c.in-Some.ensures in absurd (cc (g, f, c.is_digit.ensures, c.if-not-is_digit.true))))

pub returns-then-number-bound : goal.returns-then-number-bound
returns-then-number-bound c = halts_at (number_stops_first _ _ c.requires.small c.requires.positive (λ d e f. let g = sym e ∙ ap first c.in-Some.ensures in let h : d ≡ c.in-Some.c = cc in omega (arith, h)))

pub more_digits-requires-clause-read : goal.more_digits-requires-clause-read
more_digits-requires-clause-read c =
    c.in-Some.ensures
    ∙ ap (λ x. x ++ c.in-Some.more.now) (number_first c.in-Some.c (sym c.is_digit.ensures ∙ c.if-not-is_digit.false))
    ∙ ap (λ x. decimal x ++ c.in-Some.more.now) (sym c.from-number.ensures)

pub returns-in-None : goal.returns-in-None
returns-in-None c = halts_at (number_stops_first _ _ c.requires.small c.requires.positive (λ d e f. let g = sym e ∙ ap first c.in-None.ensures in absurd (cc g)))
