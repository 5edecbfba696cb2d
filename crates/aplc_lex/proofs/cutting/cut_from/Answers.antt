use Rattle.std.proofs.Common.{◌≡◌, ◌+◌, ◌++◌, ◌∷◌, [], arith, subst, sym, List}
use Rattle.std.proofs.lemmas.Grind.{common_steps}
use Rattle.aplc_lex.specs.Tokens.{token}
use Rattle.aplc_lex.specs.declared.token.Token.{Token}
use Rattle.aplc_lex.proofs.Steps.{SoFar, so_far_skips, so_far_finds, so_far_bad, so_far_ends}
use Rattle.aplc_lex.proofs.cutting.cut_from.Goals as goal

pub loop-at-preserved-in-Skip : goal.loop-at-preserved-in-Skip
loop-at-preserved-in-Skip c = record {
  so_far = so_far_skips _ _ _ _ _ c.in-Skip.ensures.value c.loop-at.invariant.so_far;
  within = omega (arith, c.in-Skip.ensures.within.1);
}

pub loop-at-preserved : goal.loop-at-preserved
loop-at-preserved c =
    let pushed : c.push.new.self.items ≡ c.loop-at.out.items ++ token c.in-Found.kind c.loop-at.at c.in-Found.n ∷ [] = grind (arith, common_steps) in
    record {
      so_far = subst (λ (ts : List Token). SoFar c.args.text.now c.args.start (c.loop-at.at + c.in-Found.n) ts) (sym pushed)
          (so_far_finds _ _ _ _ _ _ c.in-Found.ensures.value c.in-Found.ensures.within.0 c.loop-at.invariant.so_far);
      within = omega (arith, c.in-Found.ensures.within.1);
    }

pub returns-in-Bad-clause-value : goal.returns-in-Bad-clause-value
returns-in-Bad-clause-value c = so_far_bad _ _ _ _ _ c.loop-at-test.true c.in-Bad.ensures.value c.loop-at.invariant.so_far

pub returns-clause-value : goal.returns-clause-value
returns-clause-value c = so_far_ends _ _ _ _ c.loop-at-test.false c.loop-at.invariant.so_far
