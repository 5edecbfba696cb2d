use Rattle.std.proofs.Common.{refl, arith}
use Rattle.aplc_syntax.proofs.Numbered.{few_more, read_more}
use Rattle.aplc_syntax.proofs.names.Reader.token.Goals as goal

pub returns : goal.returns
returns c = record {
  linked = c.in_ok-kind.ensures.linked;
  few = few_more c.args.text.now c.args.self.now.names.names.items _ c.args.token _ c.in_ok-kind.ensures.names (omega arith);
  rest = λ ts. read_more c.args.text.now c.args.self.now.names.names.items _ c.args.self.now.words.items _ c.args.token _ _ ts c.in_ok-kind.ensures.names c.in_ok-kind.ensures.kind refl c.in_ok-push.ensures.items;
}
