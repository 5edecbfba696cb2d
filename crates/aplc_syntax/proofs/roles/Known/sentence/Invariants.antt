use Rattle.std.proofs.Common.{◌≡◌, ◌++◌, map, drop}
use Rattle.aplc_syntax.specs.Layout.{word_in, sentence}
use Rattle.aplc_syntax.specs.Held.{row_of, header_of_held}
use Rattle.aplc_syntax.proofs.roles.Known.sentence.Given as goal

abbrev pub invariant-loop-word : goal.invariant-loop-word
invariant-loop-word l = l.out.items ++ map (word_in (map header_of_held l.self.headers.items)) (drop l.word-index l.word-items) ≡ sentence (map header_of_held l.self.headers.items) (row_of l.row)
