-- What the reader's answer says of the grammar.
use Rattle.std.proofs.Common.{◌≡◌, List, Option, Some, None, sym, Vec, Result, Ok, Err, IfOk, IfSome, IfNone}
use Rattle.aplc_syntax.specs.declared.word.Word.{Word}
use Rattle.aplc_syntax.specs.declared.step.Step.{Step}
use Rattle.aplc_syntax.specs.Grammar.{Sentence, spell}
use Rattle.aplc_syntax.specs.Reading.{reads}
use Rattle.aplc_syntax.specs.Seen.{IsReading, items_of}
use Rattle.aplc_syntax.proofs.Unique.{unread}
use Rattle.aplc_syntax.proofs.Sound.{sound}

pub found : {A E : Type 0} (ws : List Word) (r : Result (Option (Vec Step A)) E) → IfOk r (λ x. items_of x ≡ reads ws) → IfOk r (λ x. IfSome x (λ v. IsReading ws v.items))
found ws (Ok None) h = tt
found ws (Ok (Some v)) h = sound ws v.items (sym h)
found ws (Err e) h = tt

pub none_read : {A E : Type 0} (ws : List Word) (r : Result (Option (Vec Step A)) E) → IfOk r (λ x. items_of x ≡ reads ws) → IfOk r (λ x. IfNone x ((y : Sentence) → ws ≡ spell y → ⊥))
none_read ws (Ok None) h = unread ws (sym h)
none_read ws (Ok (Some v)) h = tt
none_read ws (Err e) h = tt
