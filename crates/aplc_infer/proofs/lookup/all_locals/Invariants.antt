-- The local names of the functions so far.
use Rattle.std.proofs.Common.{◌≡◌, take, map}
use Rattle.aplc_names.specs.PlainPrograms.{routine_of}
use Rattle.aplc_infer.specs.Seeing.{local_names}
use Rattle.aplc_infer.proofs.lookup.all_locals.Given as goal

abbrev pub invariant-loop-number : goal.invariant-loop-number
invariant-loop-number l = l.out.items ≡ map local_names (map (routine_of l.bound) (take l.number l.bound.functions))
