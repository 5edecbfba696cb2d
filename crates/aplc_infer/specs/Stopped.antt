-- What it says of a program that no facts are found for it.
use Rattle.aplc_lex.specs.declared.token.Stop.{Stop}
use Rattle.aplc_lex.specs.declared.token.Stop.TheVariants as stop
use Rattle.aplc_syntax.specs.declared.tree.Program.{Program}
use Rattle.aplc_infer.specs.Families.{IsWellTyped, StandsFirst}

-- why a program has no facts: its first refusal, or nothing but that memory was wanting
abbrev pub SaysTyping : Program → Stop → Type 0
SaysTyping p (stop.Refused r) = StandsFirst p r
SaysTyping p stop.Memory = Unit {0}

-- where a program is refused, no facts fit it
abbrev pub DeniesTyping : Program → Stop → Type 0
DeniesTyping p (stop.Refused r) = IsWellTyped p → ⊥
DeniesTyping p stop.Memory = Unit {0}
