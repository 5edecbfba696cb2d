use Rattle.std.proofs.Common.{subst}
use Rattle.aplc_lex.specs.Firsts.{IsFirstOf}
use Rattle.aplc_names.specs.Clashes.{Stands}
use Rattle.aplc_names.proofs.Grammatical.{is_grammatical}
use Rattle.aplc_names.proofs.bound.bind.Goals as goal

pub invariant_of-result : goal.invariant_of-result
invariant_of-result c = record {
  parsed = ∣ c.requires.parsed ∣₁;
  clean = subst (λ o. IsFirstOf (Stands c.args.program) o) c.in-None.is c.requires.first;
  grammatical = is_grammatical c.args.program c.requires.parsed;
  heads = c.requires.heads;
  all = c.requires.all;
  labelled = c.requires.lines;
}
