-- Programs that the grammar gives, and those among them that nothing refuses.
use Rattle.std.specs.Prelude.{◌≡◌, ◌<◌, ◌≤◌, ℕ, ℤ, List, length, All, nat_eq, true}
use Rattle.std.specs.List.{IsDistinct}
use Rattle.aplc_lex.specs.Tokens.{AreTokens}
use Rattle.aplc_lex.specs.declared.token.Token.{Token}
use Rattle.aplc_lex.specs.declared.token.Refusal.{Refusal}
use Rattle.aplc_syntax.specs.Programs.{IsProgramOf, program_ids, statement_ids}
use Rattle.aplc_syntax.specs.declared.tree.Line.{Line}
use Rattle.aplc_syntax.specs.declared.tree.Function.{Function}
use Rattle.aplc_syntax.specs.declared.tree.Named.{Named}
use Rattle.aplc_syntax.specs.declared.tree.Program.{Program}
use Rattle.aplc_syntax.specs.declared.tree.Var.{Var}
use Rattle.aplc_names.specs.declared.outline.Mention.{Mention}
use Rattle.aplc_names.specs.declared.outline.Outline.{Outline}
use Rattle.aplc_names.specs.Outlines.{outline, outlines}
use Rattle.aplc_names.specs.Scopes.{function_names}
use Rattle.aplc_names.specs.Clashes.{Stands}
use Rattle.aplc_names.specs.Literals.{HasNumbersInRange, elements}
use Rattle.aplc_names.specs.Lookups.{all_label_lines}
use Rattle.aplc_names.specs.Fits.{HasFittingStatements, HasNames, HasNumberedNodes, is_origin, HasSmallRanks}

-- what a text that is short enough for a source spells; no two nodes have one number
pub record IsParsed (p : Program) : Type 0 where
  pub text : List ℕ
  pub tokens : List Token
  pub short : length text ≤ 262144
  pub cut : AreTokens text tokens
  pub program : IsProgramOf text tokens p
  pub distinct : IsDistinct nat_eq (program_ids p)

-- nothing refuses it
abbrev pub IsClean : Program → Type 0
IsClean p = (r : Refusal) → Stands p r → ⊥

-- each function has at most 999 lines
abbrev pub HasShortFunctions : Program → Type 0
HasShortFunctions p = All (λ (f : Function). length f.lines ≤ 999) p.functions

-- each statement has at most 256 nodes
abbrev pub HasSmallStatements : Program → Type 0
HasSmallStatements p = All (λ (f : Function). All (λ (l : Line). length (statement_ids l.statement) ≤ 256) f.lines) p.functions

-- a name has a number below n
abbrev pub IsBelow : ℕ → Named → Type 0
IsBelow n x = x.name.0 < n

-- so have the own name of a function, its local names, labels among them, and the names in its lines
abbrev pub IsOutlineBelow : ℕ → Outline → Type 0
IsOutlineBelow n f = IsBelow n f.name × All (IsBelow n) f.locals × All (λ (m : Mention). m.name.0 < n) f.mentions

-- each name that is declared or stands in a function has a number below the number of names
abbrev pub HasNamesBelow : Program → Type 0
HasNamesBelow p = All (λ (x : Var). IsBelow (length p.names) x.name) p.vars × All (λ (f : Function). IsOutlineBelow (length p.names) (outline f)) p.functions

-- what every program of the grammar has
pub record IsGrammatical (p : Program) : Type 0 where
  pub few : length p.functions ≤ 999
  pub short : HasShortFunctions p
  pub small : HasSmallStatements p
  pub fitting : HasFittingStatements p
  pub numbers : HasNumbersInRange p
  pub numbered : HasNumberedNodes p
  pub names : length p.names ≤ 262144
  pub named : HasNames p
  pub below : HasNamesBelow p
  pub elements : elements p ≤ 262144
  pub origin : is_origin p.origin ≡ true
  pub ranks : HasSmallRanks p

-- what a resolved program holds: that it is one, and the tables of its names
pub record IsResolved (p : Program) (hs : List Named) (fs : List Outline) (lines : List (List ℤ)) : Type 0 where
  pub parsed : ∥ IsParsed p ∥₁
  pub clean : IsClean p
  pub grammatical : IsGrammatical p
  pub heads : hs ≡ function_names (outlines p)
  pub all : fs ≡ outlines p
  pub labelled : lines ≡ all_label_lines p
