use Rattle.std.proofs.Common.{subst, length, ◌≤◌, ◌≡◌, true}
use Rattle.aplc_syntax.specs.declared.tree.Program.{Program}
use Rattle.aplc_names.specs.Fits.{HasFittingStatements, HasNames, HasNumberedNodes, is_origin, HasSmallRanks}
use Rattle.aplc_names.specs.Literals.{HasNumbersInRange, elements}
use Rattle.aplc_names.specs.Programs.{IsParsed, IsClean, HasShortFunctions, HasSmallStatements, HasNamesBelow}
use Rattle.aplc_names.proofs.bound.Bound.program.Goals as goal

pub returns-clause-parsed : goal.returns-clause-parsed
returns-clause-parsed c = subst (λ (p : Program). ∥ IsParsed p ∥₁) c.self.view_is c.self.invariant.parsed

pub returns-clause-clean : goal.returns-clause-clean
returns-clause-clean c = subst (λ (p : Program). IsClean p) c.self.view_is c.self.invariant.clean

pub returns-clause-few : goal.returns-clause-few
returns-clause-few c = subst (λ (p : Program). length p.functions ≤ 999) c.self.view_is c.self.invariant.grammatical.few

pub returns-clause-short : goal.returns-clause-short
returns-clause-short c = subst (λ (p : Program). HasShortFunctions p) c.self.view_is c.self.invariant.grammatical.short

pub returns-clause-small : goal.returns-clause-small
returns-clause-small c = subst (λ (p : Program). HasSmallStatements p) c.self.view_is c.self.invariant.grammatical.small

pub returns-clause-fitting : goal.returns-clause-fitting
returns-clause-fitting c = subst (λ (p : Program). HasFittingStatements p) c.self.view_is c.self.invariant.grammatical.fitting

pub returns-clause-numbers : goal.returns-clause-numbers
returns-clause-numbers c = subst (λ (p : Program). HasNumbersInRange p) c.self.view_is c.self.invariant.grammatical.numbers

pub returns-clause-numbered : goal.returns-clause-numbered
returns-clause-numbered c = subst (λ (p : Program). HasNumberedNodes p) c.self.view_is c.self.invariant.grammatical.numbered

pub returns-clause-names : goal.returns-clause-names
returns-clause-names c = subst (λ (p : Program). length p.names ≤ 262144) c.self.view_is c.self.invariant.grammatical.names

pub returns-clause-named : goal.returns-clause-named
returns-clause-named c = subst (λ (p : Program). HasNames p) c.self.view_is c.self.invariant.grammatical.named

pub returns-clause-below : goal.returns-clause-below
returns-clause-below c = subst (λ (p : Program). HasNamesBelow p) c.self.view_is c.self.invariant.grammatical.below

pub returns-clause-elements : goal.returns-clause-elements
returns-clause-elements c = subst (λ (p : Program). elements p ≤ 262144) c.self.view_is c.self.invariant.grammatical.elements

pub returns-clause-origin : goal.returns-clause-origin
returns-clause-origin c = subst (λ (p : Program). is_origin p.origin ≡ true) c.self.view_is c.self.invariant.grammatical.origin

pub returns-clause-ranks : goal.returns-clause-ranks
returns-clause-ranks c = subst (λ (p : Program). HasSmallRanks p) c.self.view_is c.self.invariant.grammatical.ranks
