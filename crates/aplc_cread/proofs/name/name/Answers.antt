use Rattle.std.proofs.Common.{◌∙◌, sym, subst}
use Rattle.aplc_cread.specs.Reading.{Any, Reads}
use Rattle.aplc_cread.specs.AplNames.{Longer, starts_letter}
use Rattle.aplc_cread.proofs.AplNames.{name_letter, starts_of}
use Rattle.aplc_cread.proofs.name.name.Goals as goal

pub returns : goal.returns
returns c = name_letter _ _ _ _ c.more.result c.empty-out.ensures (sym (starts_of starts_letter c.in-Some.ensures) ∙ sym c.starts_letter.ensures ∙ c.if-not-starts_letter.false) c.in-Some.ensures
    (subst (λ o. Reads Any (Longer o 62) c.in-Some.front.1.now c.more.result) c.in_ok-out.ensures c.more.ensures)
