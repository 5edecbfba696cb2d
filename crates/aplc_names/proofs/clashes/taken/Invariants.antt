use Rattle.aplc_lex.specs.Firsts.{IsFirstOf}
use Rattle.aplc_names.specs.Firsts.{Among}
use Rattle.aplc_names.specs.Clashes.{IsTaken}
use Rattle.aplc_names.proofs.clashes.taken.Given as goal

abbrev pub invariant-loop-x : goal.invariant-loop-x
invariant-loop-x l = IsFirstOf (Among (IsTaken l.heads) l.names l.x-index) l.best
