-- What the reader's fields and answers say.
use Rattle.std.specs.Prelude.{◌≡◌, ◌≤◌, ℕ, List, [], ◌∷◌, Option, Some, None, Vec, Bool, true, false, nat_lt, if◌then◌else◌}
use Rattle.aplc_lex.specs.Tokens.{refusal}
use Rattle.aplc_lex.specs.declared.token.Stop.{Stop}
use Rattle.aplc_lex.specs.declared.token.Stop.TheVariants as stop
use Rattle.aplc_syntax.specs.declared.step.Mode.{Mode}
use Rattle.aplc_syntax.specs.declared.step.Waiting.{Waiting}
use Rattle.aplc_syntax.specs.declared.step.Step.{Step}
use Rattle.aplc_syntax.specs.declared.word.Word.{Word}
use Rattle.aplc_syntax.specs.Grammar.{Sentence, spell}
use Rattle.aplc_syntax.specs.Steps.{steps}
use Rattle.aplc_syntax.specs.Reading.{State, state}
use Rattle.aplc_syntax.specs.Building.{count_from}
use Rattle.aplc_syntax.specs.Programs.{too_deep}
use Rattle.aplc_syntax.specs.Refusals.{stray, deep_nesting, no_function, bad_form}

-- the items turned round, in front of rest
abbrev pub top_first : {A : Type 0} → List A → List A → List A
top_first [] rest = rest
top_first (x ∷ xs) rest = top_first xs (x ∷ rest)

-- a step that was taken, or none
abbrev pub taken : Option Mode → List Waiting → List Step → Option State
taken None ops out = None
taken (Some mode) ops out = Some (state mode ops out)

abbrev pub pending : Bool → List Step → Option (List Step)
pending true out = Some out
pending false out = None

abbrev pub items_of : {A : Type 0} → Option (Vec Step A) → Option (List Step)
items_of None = None
items_of (Some v) = Some v.items

-- these words are a statement of the grammar, and these its steps
pub record IsReading (ws : List Word) (xs : List Step) : Type 0 where
  pub form : Sentence
  pub spelled : ws ≡ spell form
  pub steps_are : xs ≡ steps form

-- these words are a statement within the limits and without a stray name, and these its steps
pub record IsChecked (ws : List Word) (xs : List Step) : Type 0 where
  pub reading : IsReading ws xs
  pub shallow : too_deep ws 0 ≡ None
  pub known : stray ws ≡ None
  pub small : count_from 0 xs ≤ 256

-- words begin at this place
abbrev pub Begins : List Word → ℕ → Type 0
Begins [] p = ⊥
Begins (x ∷ ws) p = p ≡ x.place

-- the nearer of a bracket too many at p and a stray name
abbrev pub nearer : ℕ → Option ℕ → Stop
nearer p None = stop.Refused (refusal deep_nesting p)
nearer p (Some q) = if nat_lt q p then stop.Refused (refusal no_function q) else stop.Refused (refusal deep_nesting p)

-- the refusal of words from p on that have no form
abbrev pub formless_stop : ℕ → Option ℕ → Stop
formless_stop p None = stop.Refused (refusal bad_form p)
formless_stop p (Some q) = stop.Refused (refusal no_function q)
