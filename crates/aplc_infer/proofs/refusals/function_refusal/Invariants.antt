-- The first of those so far.
use Rattle.aplc_lex.specs.Firsts.{IsFirstOf}
use Rattle.aplc_names.specs.Firsts.{Among}
use Rattle.aplc_names.specs.PlainPrograms.{routine_of}
use Rattle.aplc_infer.specs.Tables.{family_of}
use Rattle.aplc_infer.specs.Refusals.{InLine}
use Rattle.aplc_infer.proofs.refusals.function_refusal.Given as goal

abbrev pub invariant-loop-n : goal.invariant-loop-n
invariant-loop-n l = IsFirstOf (Among (InLine l.lookup (family_of l.tables) l.i (routine_of l.lookup l.function)) l.function.lines l.n) l.best
