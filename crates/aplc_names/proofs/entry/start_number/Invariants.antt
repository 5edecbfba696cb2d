use Rattle.std.proofs.Common.{◌≡◌, drop}
use Rattle.aplc_names.specs.Scopes.{start_from, start_of}
use Rattle.aplc_names.proofs.entry.start_number.Given as goal

abbrev pub invariant-loop-i : goal.invariant-loop-i
invariant-loop-i l = start_from l.program.names l.i (drop l.i l.function-items) ≡ start_of l.program
