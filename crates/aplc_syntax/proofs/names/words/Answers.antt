use Rattle.std.proofs.Common.{arith}
use Rattle.aplc_syntax.proofs.Numbered.{rises, fewer}
use Rattle.aplc_syntax.proofs.names.words.Goals as goal

pub token-requires-clause-few : goal.token-requires-clause-few
token-requires-clause-few c = let h = fewer c.args.tokens.now _ _ c.loop-token.token-index c.requires.rise c.loop-token-test.true in omega (arith, h, c.loop-token.invariant.few)

pub token-requires-clause-rises : goal.token-requires-clause-rises
token-requires-clause-rises c = (rises c.args.tokens.now _ _ c.loop-token.token-index _ c.requires.rise c.loop-token-test.true).0

pub token-requires-clause-within : goal.token-requires-clause-within
token-requires-clause-within c = (rises c.args.tokens.now _ _ c.loop-token.token-index _ c.requires.rise c.loop-token-test.true).1
