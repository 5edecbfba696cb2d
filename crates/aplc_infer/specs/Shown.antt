-- Facts as other crates read them.
use Rattle.std.specs.Prelude.{◌≡◌, ℕ, ℤ, pos, List, [], Option, Some, None, map, length, slice_get}
use Rattle.aplc_lex.specs.declared.token.Refusal.{Refusal}
use Rattle.aplc_syntax.specs.declared.tree.Program.{Program}
use Rattle.aplc_infer.specs.declared.fact.Inferred.{Inferred}
use Rattle.aplc_infer.specs.declared.fact.Inferred.TheVariants.{Unset, Of}
use Rattle.aplc_infer.specs.declared.cell.Cell.TheVariants as cell
use Rattle.aplc_infer.specs.declared.facts.Fact.{Fact}
use Rattle.aplc_infer.specs.Seeing.{Family}
use Rattle.aplc_infer.specs.Families.{IsLeastOf}
use Rattle.aplc_infer.specs.Steps.{StandsUnder}

abbrev pub shown_length : Option ℕ → Option ℤ
shown_length None = None
shown_length (Some n) = Some (pos n)

-- what is unset is not shown
abbrev pub shown : Inferred → Option Fact
shown Unset = None
shown (Of k None) = Some record { kind = k; rank = None; lengths = [] }
shown (Of k (Some xs)) = Some record { kind = k; rank = Some (length xs); lengths = map shown_length xs }

abbrev pub there_or_none : Option (Option Fact) → Option Fact
there_or_none None = None
there_or_none (Some x) = x

-- the fact of node n
abbrev pub fact_at : List (Option Fact) → ℕ → Option Fact
fact_at xs n = there_or_none (slice_get xs n)

-- the facts that numbers into a pool are
abbrev pub pooled_facts : List (Option Fact) → List ℕ → List (Option Fact)
pooled_facts pool hs = map (fact_at pool) hs

-- the facts of the nodes under the least family, under which no refusal stands
pub record IsInferred (p : Program) (facts : List (Option Fact)) : Type 0 where
  pub family : Family
  pub least : IsLeastOf p family
  pub fine : (r : Refusal) → StandsUnder p family r → ⊥
  pub each : (n : ℕ) → fact_at facts n ≡ shown (family (cell.Node n))
