-- Sources that the compiler takes, and the first refusal of all others.
use Rattle.std.specs.Prelude.{◌≡◌, ℕ, ◌<◌, ◌≤◌, List, length, Option, Some, None}
use Rattle.aplc_lex.specs.declared.token.Token.{Token}
use Rattle.aplc_lex.specs.declared.token.Refusal.{Refusal}
use Rattle.aplc_lex.specs.Tokens.{refusal, AreTokens}
use Rattle.aplc_lex.specs.Tokens as lex
use Rattle.aplc_syntax.specs.declared.tree.Program.{Program}
use Rattle.aplc_syntax.specs.Programs.{IsProgramOf}
use Rattle.aplc_syntax.specs.Refusals.{IsFirst}
use Rattle.aplc_syntax.specs.Refusals as syntax
use Rattle.aplc_names.specs.Programs.{IsClean}
use Rattle.aplc_names.specs.Clashes as names
use Rattle.aplc_infer.specs.Families.{IsWellTyped, StandsFirst}
use Rattle.aplc_infer.specs.Shown.{IsInferred}
use Rattle.aplc_gen.specs.Unbuilt.{FactList, first_place}

-- the most bytes that a source may have
abbrev pub source_limit : ℕ
source_limit = 262144

-- the program that a file spells
pub record Spells (file : List ℕ) (p : Program) : Type 0 where
  pub short : length file ≤ source_limit
  pub tokens : List Token
  pub are_tokens : AreTokens file tokens
  pub is_program : IsProgramOf file tokens p

-- the least place of what is not built in a program, by the facts of its nodes
pub record IsUnbuiltAt (p : Program) (place : Option ℕ) : Type 0 where
  pub facts : FactList
  pub inferred : IsInferred p facts
  pub first : first_place p facts ≡ place

-- a file spells this program, no refusal of names stands, it is well typed, and all of it is built
pub record IsSource (file : List ℕ) (p : Program) : Type 0 where
  pub spells : Spells file p
  pub clean : IsClean p
  pub typed : IsWellTyped p
  pub built : IsUnbuiltAt p None

-- The refusal of a file. A stage refuses only where those before it do not.
pub data IsRefusedSource (file : List ℕ) : Refusal → Type 0 where
  too_long : source_limit < length file → IsRefusedSource file (refusal 23 source_limit)
  in_tokens : {r : Refusal} → length file ≤ source_limit → lex.IsFirst file r → IsRefusedSource file r
  in_program : {ts : List Token} {r : Refusal} → length file ≤ source_limit → AreTokens file ts → IsFirst (syntax.Stands file ts) r → IsRefusedSource file r
  in_names : {p : Program} {r : Refusal} → Spells file p → IsFirst (names.Stands p) r → IsRefusedSource file r
  in_facts : {p : Program} {r : Refusal} → Spells file p → IsClean p → StandsFirst p r → IsRefusedSource file r
  not_built : {p : Program} {place : ℕ} → Spells file p → IsClean p → IsWellTyped p → IsUnbuiltAt p (Some place) → IsRefusedSource file (refusal 90 place)
