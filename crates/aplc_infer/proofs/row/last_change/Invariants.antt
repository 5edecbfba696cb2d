-- What comes of the rest is what comes of all.
use Rattle.std.proofs.Common.{◌≡◌, drop}
use Rattle.aplc_infer.specs.declared.fact.Inferred.TheVariants.{Unset}
use Rattle.aplc_infer.specs.Rows.{last_change}
use Rattle.aplc_infer.proofs.row.last_change.Given as goal

abbrev pub invariant-loop-change : goal.invariant-loop-change
invariant-loop-change l = last_change (drop l.change-index l.changes) l.k l.fact ≡ last_change l.changes l.k Unset
