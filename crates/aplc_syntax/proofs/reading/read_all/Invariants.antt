use Rattle.std.proofs.Common.{◌≡◌, drop}
use Rattle.aplc_syntax.specs.Reading.{run, reads, state}
use Rattle.aplc_syntax.proofs.reading.read_all.Given as goal

abbrev pub invariant-loop-word : goal.invariant-loop-word
invariant-loop-word l = run (drop l.word-index l.words) (state l.mode l.reader.ops l.reader.out.items) ≡ reads l.words
