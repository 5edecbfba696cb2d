-- What every program of the grammar has.
use Rattle.aplc_syntax.specs.declared.tree.Program.{Program}
use Rattle.aplc_names.specs.Programs.{IsParsed, IsGrammatical}
use Rattle.aplc_names.proofs.Below.{names_below}
use Rattle.aplc_names.proofs.Declared.{declarations_fit}
use Rattle.aplc_names.proofs.Elements.{elements_few}
use Rattle.aplc_names.proofs.FittingPrograms.{program_is_fit}
use Rattle.aplc_names.proofs.InRange.{numbers_in_range}
use Rattle.aplc_names.proofs.Limits.{names_few}
use Rattle.aplc_names.proofs.Nodes.{small_statements}
use Rattle.aplc_names.proofs.NumberedNodes.{nodes_numbered}
use Rattle.aplc_names.proofs.Resolved.{few_functions, short_lines}
use Rattle.aplc_names.proofs.SpelledNames.{program_names}

pub is_grammatical : (p : Program) → IsParsed p → IsGrammatical p
is_grammatical p i = let declared = declarations_fit i.text i.tokens p i.program in record {
  few = few_functions p i;
  short = short_lines p i;
  small = small_statements p i;
  fitting = program_is_fit i.text i.tokens p i.cut i.program;
  numbers = numbers_in_range p i;
  numbered = nodes_numbered i.text i.tokens p i.short i.cut i.program;
  names = names_few p i;
  named = program_names i.text i.tokens p i.cut i.program;
  below = names_below p i;
  elements = elements_few p i;
  origin = declared.0;
  ranks = declared.1;
}
