use Rattle.std.proofs.Common.{◌≡◌, None, drop}
use Rattle.aplc_syntax.specs.Layout.{lines, parts}
use Rattle.aplc_syntax.specs.Held.{cut_out, sorted}
use Rattle.aplc_syntax.proofs.layout.parts_of.Given as goal

abbrev pub invariant-loop-word : goal.invariant-loop-word
invariant-loop-word l = cut_out l.cutter (drop l.word-index l.words) ≡ sorted (parts (lines l.words) None)
