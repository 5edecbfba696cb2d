-- Nothing is set so far.
use Rattle.std.proofs.Common.{◌≡◌, ℕ}
use Rattle.aplc_infer.specs.declared.fact.Inferred.TheVariants.{Unset}
use Rattle.aplc_infer.specs.Rising.{at3}
use Rattle.aplc_infer.proofs.searching.blank_rows.Given as goal

abbrev pub invariant-loop-i : goal.invariant-loop-i
invariant-loop-i l = (i : ℕ × (ℕ × ℕ)) → at3 l.rows i ≡ Unset
