use Rattle.std.proofs.Common.{◌≡◌, ◌∙◌, ap, sym, subst, arith, ◌++◌, ◌∷◌, decimal, append_assoc, true, ◌*◌, ◌+◌, []}
use Rattle.aplc_cread.specs.Reading.{NoDigit, is_digit}
use Rattle.aplc_cread.specs.Ranges.{Reach}
use Rattle.aplc_cread.proofs.Rules.{halts_at}
use Rattle.aplc_cread.proofs.Numbers.{number_step, digit_range}
use Rattle.aplc_cread.proofs.Ranges.{ranged_stops, reach_below, reach_true, reach_false}
use Rattle.aplc_cread.proofs.range.more_in.Goals as goal

pub ended-requires-clause-end : goal.ended-requires-clause-end
ended-requires-clause-end c = subst NoDigit (sym c.in-Some.ensures) (sym c.is_digit.ensures ∙ c.if-not-is_digit.true)

pub ended-requires-2-clause-end : goal.ended-requires-2-clause-end
ended-requires-2-clause-end c = subst NoDigit (sym c.in_default.ensures) tt

pub returns-then-number-eq0 : goal.returns-then-number-eq0
returns-then-number-eq0 c = halts_at (ranged_stops _ _ _ _ _ _ _ c.requires.small (omega arith) c.loop-c.invariant.reach c.loop-c.invariant.read c.in-Some.ensures (sym c.is_digit.ensures ∙ c.if-not-is_digit.false) (λ h l r. omega (arith, h)))

pub returns-then-number-bound : goal.returns-then-number-bound
returns-then-number-bound c = halts_at (ranged_stops _ _ _ _ _ _ _ c.requires.small (omega arith) c.loop-c.invariant.reach c.loop-c.invariant.read c.in-Some.ensures (sym c.is_digit.ensures ∙ c.if-not-is_digit.false) (λ h l r. omega (arith, l)))

pub returns-then-not-can_reach : goal.returns-then-not-can_reach
returns-then-not-can_reach c = halts_at (ranged_stops _ _ _ _ _ _ _ c.requires.small (omega arith) c.loop-c.invariant.reach c.loop-c.invariant.read c.in-Some.ensures (sym c.is_digit.ensures ∙ c.if-not-is_digit.false)
    (λ h l r. reach_false _ _ _ _ c.can_reach.ensures c.if-not-can_reach.true (subst (λ d. Reach c.args.low c.args.bound (10 * c.loop-c.number + d)) (sym c.from-digit.ensures) r)))

pub loop-c-preserved : goal.loop-c-preserved
loop-c-preserved c =
    let d : is_digit c.in-Some.c ≡ true = sym c.is_digit.ensures ∙ c.if-not-is_digit.false in
    let g = digit_range c.in-Some.c d in
    let q = reach_true _ _ _ _ c.can_reach.ensures c.if-not-can_reach.false in
    record {
      below = reach_below _ _ _ c.requires.small (omega (arith, g, c.from-digit.ensures)) q;
      reach = q;
      read = c.loop-c.invariant.read ∙ ap (λ x. decimal c.loop-c.number ++ x) c.in-Some.ensures
          ∙ sym (append_assoc (decimal c.loop-c.number) (c.in-Some.c ∷ []) c.in-Some.more.now)
          ∙ ap (λ x. x ++ c.in-Some.more.now) (number_step c.loop-c.number c.in-Some.c (omega arith) (omega arith) d (omega (arith, g)))
          ∙ ap (λ x. decimal (10 * c.loop-c.number + x) ++ c.in-Some.more.now) (sym c.from-digit.ensures);
    }
