-- What follows for an answer that is the program of a text.
use Rattle.std.proofs.Common.{◌≡◌, ℕ, List, Result, Ok, Err, IfOk, nat_eq}
use Rattle.std.specs.List.{IsDistinct}
use Rattle.aplc_lex.specs.Tokens.{AreTokens}
use Rattle.aplc_lex.specs.declared.token.Refusal.{Refusal}
use Rattle.aplc_lex.specs.declared.token.Stop.{Stop}
use Rattle.aplc_lex.specs.declared.token.Token.{Token}
use Rattle.aplc_syntax.specs.declared.tree.Program.{Program}
use Rattle.aplc_syntax.specs.Programs.{IsProgramOf, program_ids}
use Rattle.aplc_syntax.specs.Refusals.{Stands}
use Rattle.aplc_syntax.proofs.OneProgram.{one_program}
use Rattle.aplc_syntax.proofs.Clean.{clean}
use Rattle.aplc_syntax.proofs.Distinct.{distinct_program}

-- it is the only program
pub parsed_only : (text : List ℕ) (ts : List Token) (y : Result Program Stop) → IfOk y (λ p. IsProgramOf text ts p) → IfOk y (λ p. (q : Program) → IsProgramOf text ts q → q ≡ p)
parsed_only text ts (Ok p) h = λ q i. one_program text ts q p i h
parsed_only text ts (Err e) h = tt

-- no refusal stands
pub parsed_clean : (text : List ℕ) (ts : List Token) (y : Result Program Stop) → IfOk y (λ p. IsProgramOf text ts p) → IfOk y (λ p. (r : Refusal) → Stands text ts r → ⊥)
parsed_clean text ts (Ok p) h = clean text ts p h
parsed_clean text ts (Err e) h = tt

-- its nodes have numbers of their own
pub parsed_distinct : (text : List ℕ) (ts : List Token) (y : Result Program Stop) → AreTokens text ts → IfOk y (λ p. IsProgramOf text ts p) → IfOk y (λ p. IsDistinct nat_eq (program_ids p))
parsed_distinct text ts (Ok p) a h = distinct_program text ts p a h
parsed_distinct text ts (Err e) a h = tt
