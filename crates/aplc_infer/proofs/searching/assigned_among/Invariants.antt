-- The numbers so far, with those of the rest.
use Rattle.std.proofs.Common.{◌≡◌, ◌++◌, drop}
use Rattle.aplc_infer.specs.Lookups.{binding_at}
use Rattle.aplc_infer.specs.Mentions.{assigned_numbers}
use Rattle.aplc_infer.proofs.searching.assigned_among.Given as goal

abbrev pub invariant-loop-mention : goal.invariant-loop-mention
invariant-loop-mention l = l.out.items ++ assigned_numbers (binding_at l.lookup l.i) (drop l.mention-index l.mentions) ≡ assigned_numbers (binding_at l.lookup l.i) l.mentions
