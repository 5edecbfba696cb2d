-- The first of those so far.
use Rattle.aplc_lex.specs.Firsts.{IsFirstOf}
use Rattle.aplc_names.specs.Firsts.{Among}
use Rattle.aplc_infer.specs.Tables.{family_of}
use Rattle.aplc_infer.specs.Refusals.{InFunction}
use Rattle.aplc_infer.proofs.refusals.program_refusal.Given as goal

abbrev pub invariant-loop-i : goal.invariant-loop-i
invariant-loop-i l = IsFirstOf (Among (InFunction l.lookup (family_of l.tables)) l.lookup.functions l.i) l.best
