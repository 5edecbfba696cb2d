use Rattle.aplc_lex.specs.Firsts.{IsFirstOf}
use Rattle.aplc_names.specs.Firsts.{Among}
use Rattle.aplc_names.specs.Clashes.{IsAgain}
use Rattle.aplc_names.proofs.clashes.again.Given as goal

abbrev pub invariant-loop-i : goal.invariant-loop-i
invariant-loop-i l = IsFirstOf (Among (IsAgain l.x-items) l.x-items l.i) l.best
