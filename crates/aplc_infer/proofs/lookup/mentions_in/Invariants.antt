-- What is out, with the names in the lines left, is the whole.
use Rattle.std.proofs.Common.{◌≡◌, ◌++◌, drop, map}
use Rattle.std.specs.Prelude.{flat_map}
use Rattle.aplc_names.specs.PlainPrograms.{line_action}
use Rattle.aplc_infer.specs.Seeing.{action_mentions}
use Rattle.aplc_infer.proofs.lookup.mentions_in.Given as goal

abbrev pub invariant-loop-line : goal.invariant-loop-line
invariant-loop-line l = l.out.items ++ flat_map action_mentions (map line_action (drop l.line-index l.lines)) ≡ flat_map action_mentions (map line_action l.lines)
