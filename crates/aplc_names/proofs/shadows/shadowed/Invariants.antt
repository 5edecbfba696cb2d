use Rattle.aplc_lex.specs.Firsts.{IsFirstOf}
use Rattle.aplc_names.specs.Firsts.{Among}
use Rattle.aplc_names.specs.Clashes.{IsShadowed}
use Rattle.aplc_names.proofs.shadows.shadowed.Given as goal

abbrev pub invariant-loop-m : goal.invariant-loop-m
invariant-loop-m l = IsFirstOf (Among (IsShadowed l.heads l.outlines l.place l.outline) l.m-items l.m-index) l.best
