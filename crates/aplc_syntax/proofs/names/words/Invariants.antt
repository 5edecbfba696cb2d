use Rattle.std.proofs.Common.{◌≡◌, ◌≤◌, length, drop}
use Rattle.aplc_syntax.specs.Words.{names_in, words}
use Rattle.aplc_syntax.specs.Numbers.{AreLinked, read_out}
use Rattle.aplc_syntax.proofs.names.words.Given as goal

abbrev pub invariant-loop-token : goal.invariant-loop-token
invariant-loop-token l = record {
  linked : AreLinked l.reader.names.numbers.keys l.reader.names.names.items;
  few : length l.reader.names.names.items ≤ l.token-index;
  rest : read_out l.text l.reader.names.names.items l.reader.words.items (drop l.token-index l.tokens) ≡ (names_in l.text l.tokens, words l.text l.tokens);
}
