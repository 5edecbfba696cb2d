use Rattle.std.proofs.Common.{◌≡◌, ◌≤◌, drop}
use Rattle.aplc_syntax.specs.Programs.{too_deep}
use Rattle.aplc_syntax.proofs.checking.too_deep.Given as goal

abbrev pub invariant-loop-word : goal.invariant-loop-word
invariant-loop-word l = record {
  deep : too_deep (drop l.word-index l.words) l.depth ≡ too_deep l.words 0;
  few : l.depth ≤ 32;
}
