-- The names so far.
use Rattle.std.proofs.Common.{◌≡◌}
use Rattle.aplc_arr.specs.Delayed.{first_n}
use Rattle.aplc_infer.specs.declared.cell.Cell.TheVariants as cell
use Rattle.aplc_infer.specs.Tables.{family_of}
use Rattle.aplc_infer.proofs.inference.start_of.Given as goal

abbrev pub invariant-loop-k : goal.invariant-loop-k
invariant-loop-k l = l.facts.items ≡ first_n (λ k. family_of l.tables (cell.Start l.i l.l k)) l.k
