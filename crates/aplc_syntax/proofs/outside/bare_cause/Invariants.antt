use Rattle.std.proofs.Common.{map, drop, Option}
use Rattle.aplc_lex.specs.declared.token.Refusal.{Refusal}
use Rattle.aplc_syntax.specs.Held.{row_of}
use Rattle.aplc_lex.specs.Firsts.{IsFirstOf, earlier}
use Rattle.aplc_syntax.specs.Causes.{InSome, OfBare}
use Rattle.aplc_syntax.proofs.outside.bare_cause.Given as goal

abbrev pub invariant-loop-row : goal.invariant-loop-row
invariant-loop-row l = (c : Option Refusal) → IsFirstOf (InSome OfBare (map row_of (drop l.row-index l.rows))) c → IsFirstOf (InSome OfBare (map row_of l.rows)) (earlier l.first c)
