use Rattle.aplc_cread.proofs.Rules.{halts_at}
use Rattle.std.proofs.Common.{◌≡◌, ◌∙◌, ap, sym, subst, arith, ◌++◌, ◌∷◌, decimal, append_assoc, true, ◌*◌, ◌+◌, []}
use Rattle.aplc_cread.specs.Reading.{NoDigit, is_digit}
use Rattle.aplc_cread.proofs.Numbers.{number_found, number_stops_at, number_step}
use Rattle.aplc_cread.proofs.lexical.more_digits.Goals as goal

pub returns-then-not-is_digit : goal.returns-then-not-is_digit
returns-then-not-is_digit c = number_found _ _ _ _ c.requires.small c.loop-c.invariant.below c.loop-c.invariant.read (subst NoDigit (sym c.in-Some.ensures) (sym c.is_digit.ensures ∙ c.if-not-is_digit.true))

pub returns-then-number-eq0 : goal.returns-then-number-eq0
returns-then-number-eq0 c = halts_at (number_stops_at _ _ _ _ _ _ c.requires.small c.loop-c.invariant.below c.loop-c.invariant.read c.in-Some.ensures (sym c.is_digit.ensures ∙ c.if-not-is_digit.false) (λ h. omega arith))

pub returns-then-digit-bound : goal.returns-then-digit-bound
returns-then-digit-bound c = halts_at (number_stops_at _ _ _ _ _ _ c.requires.small c.loop-c.invariant.below c.loop-c.invariant.read c.in-Some.ensures (sym c.is_digit.ensures ∙ c.if-not-is_digit.false) (λ h. omega arith))

pub returns-then-number-bound : goal.returns-then-number-bound
returns-then-number-bound c = halts_at (number_stops_at _ _ _ _ _ _ c.requires.small c.loop-c.invariant.below c.loop-c.invariant.read c.in-Some.ensures (sym c.is_digit.ensures ∙ c.if-not-is_digit.false) (λ h. omega arith))

pub loop-c-preserved : goal.loop-c-preserved
loop-c-preserved c =
    let d : is_digit c.in-Some.c ≡ true = sym c.is_digit.ensures ∙ c.if-not-is_digit.false in
    record {
      below = omega arith;
      read = c.loop-c.invariant.read ∙ ap (λ x. decimal c.loop-c.number ++ x) c.in-Some.ensures
          ∙ sym (append_assoc (decimal c.loop-c.number) (c.in-Some.c ∷ []) c.in-Some.more.now)
          ∙ ap (λ x. x ++ c.in-Some.more.now) (number_step c.loop-c.number c.in-Some.c (omega arith) (omega arith) d (omega arith))
          ∙ ap (λ x. decimal (10 * c.loop-c.number + x) ++ c.in-Some.more.now) (sym c.from-digit.ensures);
    }

pub returns : goal.returns
returns c = number_found _ _ _ _ c.requires.small c.loop-c.invariant.below c.loop-c.invariant.read (subst NoDigit (sym c.in_default.ensures) tt)
