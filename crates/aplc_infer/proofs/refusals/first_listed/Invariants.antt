-- The first of those so far.
use Rattle.aplc_lex.specs.Firsts.{IsFirstOf}
use Rattle.aplc_names.specs.Firsts.{Among}
use Rattle.aplc_infer.specs.Refusals.{IsThis}
use Rattle.aplc_infer.proofs.refusals.first_listed.Given as goal

abbrev pub invariant-loop-k : goal.invariant-loop-k
invariant-loop-k l = IsFirstOf (Among IsThis l.list l.k) l.best
