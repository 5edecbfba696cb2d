use Rattle.aplc_lex.specs.Firsts.{IsFirstOf}
use Rattle.aplc_names.specs.Firsts.{Among}
use Rattle.aplc_names.specs.Clashes.{IsAssigned}
use Rattle.aplc_names.proofs.clashes.assigned.Given as goal

abbrev pub invariant-loop-m : goal.invariant-loop-m
invariant-loop-m l = IsFirstOf (Among (IsAssigned l.heads l.outline) l.m-items l.m-index) l.best
