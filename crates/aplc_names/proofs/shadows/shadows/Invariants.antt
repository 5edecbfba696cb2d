use Rattle.aplc_lex.specs.Firsts.{IsFirstOf}
use Rattle.aplc_names.specs.Firsts.{Among}
use Rattle.aplc_names.specs.Clashes.{IsShadowedIn}
use Rattle.aplc_names.proofs.shadows.shadows.Given as goal

abbrev pub invariant-loop-i : goal.invariant-loop-i
invariant-loop-i l = IsFirstOf (Among (IsShadowedIn l.heads l.outlines) l.outlines l.i) l.best
