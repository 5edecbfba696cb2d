-- Families of facts that meet the rules of a program, the least of them, and the first refusal under it.
use Rattle.std.specs.Prelude.{◌≡◌, ℕ, true, List, [], ◌∷◌, Option, Some, None, length, slice_get, slice_set}
use Rattle.aplc_lex.specs.declared.token.Refusal.{Refusal}
use Rattle.aplc_lex.specs.Firsts.{IsFirst}
use Rattle.aplc_syntax.specs.declared.tree.Program.{Program}
use Rattle.aplc_arr.specs.Delayed.{first_n}
use Rattle.aplc_names.specs.PlainPrograms.{Action, Routine, PlainProgram, plain}
use Rattle.aplc_names.specs.Runs.{line_at}
use Rattle.aplc_infer.specs.declared.fact.Inferred.{Inferred}
use Rattle.aplc_infer.specs.declared.fact.Inferred.TheVariants.{Unset}
use Rattle.aplc_infer.specs.declared.cell.Cell.{Cell}
use Rattle.aplc_infer.specs.declared.cell.Cell.TheVariants as cell
use Rattle.aplc_infer.specs.declared.cell.Demand.{Demand}
use Rattle.aplc_infer.specs.Facts.{below}
use Rattle.aplc_infer.specs.Seeing.{Family, Declarations, declarations, context_of, local_names, number_in, at, Progress, fresh, see_statement, binding_in, flow_of, leads}

-- ---- What is asked is met

abbrev pub IsMet : Family → Demand → Type 0
IsMet g x = below x.fact (g x.cell) ≡ true

abbrev pub AreMet : Family → List Demand → Type 0
AreMet g [] = Unit {0}
AreMet g (x ∷ xs) = IsMet g x × AreMet g xs

-- ---- Where local names go

-- where a function is left with these names, its result is above the one of its name
abbrev pub IsAnswered : Family → ℕ → Routine → Option ℕ → List Inferred → Type 0
IsAnswered g j f None ns = Unit {0}
IsAnswered g j f (Some n) ns = below (at ns (number_in n (local_names f))) (g (cell.Answer j)) ≡ true

-- the names lie below those at the start of a line; where there is no line of that number the function is left
abbrev pub ReachesLine : Family → ℕ → Routine → List Inferred → ℕ → Option Action → Type 0
ReachesLine g j f ns l None = IsAnswered g j f f.result ns
ReachesLine g j f ns l (Some x) = (k : ℕ) → below (at ns k) (g (cell.Start j l k)) ≡ true

abbrev pub Reaches : Family → ℕ → Routine → List Inferred → ℕ → Type 0
Reaches g j f ns l = ReachesLine g j f ns l (line_at f.lines l)

-- the local names at the start of line l of function j
abbrev pub at_start : Family → ℕ → Routine → ℕ → List Inferred
at_start g j f l = first_n (λ k. g (cell.Start j l k)) (length (local_names f))

abbrev pub with_parameter : Routine → Option ℕ → Inferred → List Inferred → List Inferred
with_parameter f None x ns = ns
with_parameter f (Some n) x ns = slice_set ns (number_in n (local_names f)) x

-- those where function j is entered: its arguments alone are set
abbrev pub at_entry : Family → ℕ → Routine → List Inferred
at_entry g j f =
    with_parameter f f.left (g (cell.Left j)) (with_parameter f f.right (g (cell.Right j)) (first_n (λ k. Unset) (length (local_names f))))

-- ---- Families that meet the rules

-- what line l of function j asks and refuses, and the local names after it
abbrev pub seen_line : Declarations → PlainProgram → Family → ℕ → Routine → ℕ → Action → Progress
seen_line d p g j f l x = see_statement (context_of d p f) g x (fresh (at_start g j f l))

pub record MeetsLine (d : Declarations) (p : PlainProgram) (g : Family) (j : ℕ) (f : Routine) (l : ℕ) (x : Action) : Type 0 where
  pub demands : AreMet g (seen_line d p g j f l x).demands
  pub flows : (m : ℕ) → leads (flow_of (binding_in f) x) l m ≡ true → Reaches g j f (seen_line d p g j f l x).names m

-- line l of function j
pub record IsLine (p : PlainProgram) (j l : ℕ) (f : Routine) (x : Action) : Type 0 where
  pub routine : slice_get p.routines j ≡ Some f
  pub here : line_at f.lines l ≡ Some x

-- each fact is above all that the program asks of it
pub record MeetsRules (d : Declarations) (p : PlainProgram) (g : Family) : Type 0 where
  pub entries : (j : ℕ) (f : Routine) → slice_get p.routines j ≡ Some f → Reaches g j f (at_entry g j f) 1
  pub lines : (j l : ℕ) (f : Routine) (x : Action) → IsLine p j l f x → MeetsLine d p g j f l x

-- a refusal stands at a node, or at the arrow of a branch
pub record IsRefused (d : Declarations) (p : PlainProgram) (g : Family) (r : Refusal) : Type 0 where
  pub function : ℕ
  pub line : ℕ
  pub routine : Routine
  pub action : Action
  pub there : IsLine p function line routine action
  pub index : ℕ
  pub listed : slice_get (seen_line d p g function routine line action).refused index ≡ Some r

-- it meets the rules, and no refusal stands
pub record Fits (d : Declarations) (p : PlainProgram) (g : Family) : Type 0 where
  pub rules : MeetsRules d p g
  pub fine : (r : Refusal) → IsRefused d p g r → ⊥

abbrev pub IsBelow : Family → Family → Type 0
IsBelow g h = (c : Cell) → below (g c) (h c) ≡ true

pub record IsLeast (d : Declarations) (p : PlainProgram) (g : Family) : Type 0 where
  pub rules : MeetsRules d p g
  pub least : (h : Family) → MeetsRules d p h → IsBelow g h

-- ---- Programs

-- some facts meet the rules of a program, and no refusal stands
abbrev pub IsWellTyped : Program → Type 0
IsWellTyped p = (g : Family) × Fits (declarations p.vars) (plain p) g

-- the least facts of a program
abbrev pub IsLeastOf : Program → Family → Type 0
IsLeastOf p g = IsLeast (declarations p.vars) (plain p) g

-- a refusal under the least facts of a program
pub record StandsFirst (p : Program) (r : Refusal) : Type 0 where
  pub family : Family
  pub least : IsLeastOf p family
  pub first : IsFirst (IsRefused (declarations p.vars) (plain p) family) r
