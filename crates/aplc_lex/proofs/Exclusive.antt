-- Tokens of a text, and its refusals, exclude each other.
use Rattle.std.proofs.Common.{◌≡◌, ℕ, List, inl, inr}
use Rattle.aplc_lex.specs.declared.token.Token.{Token}
use Rattle.aplc_lex.specs.declared.token.Refusal.{Refusal}
use Rattle.aplc_lex.specs.Tokens.{AreTokens, IsCause, IsFirst}
use Rattle.aplc_lex.proofs.Order.{one_first}
use Rattle.aplc_lex.proofs.Steps.{cut_once, cut_or_met}
use Rattle.aplc_lex.proofs.First.{not_both}

pub tokens_once : (text : List ℕ) (ts us : List Token) → AreTokens text ts → AreTokens text us → ts ≡ us
tokens_once text ts us a b = cut_once b.cut a.cut

pub tokens_or_cause : (text : List ℕ) (ts : List Token) (r : Refusal) → AreTokens text ts → IsCause text r → ⊥
tokens_or_cause text ts r a (inl c) = not_both text r.place a.utf8 c.1
tokens_or_cause text ts r a (inr c) = cut_or_met a.cut c.0

pub first_once : (text : List ℕ) (r s : Refusal) → IsFirst text r → IsFirst text s → r ≡ s
first_once text r s h k = one_first (IsCause text) r s h k
