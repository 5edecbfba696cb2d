-- What lowering promises: the core run of a program is its eager run.
use Rattle.std.specs.Prelude.{◌≡◌, ℕ, List, [], ◌∷◌, ◌++◌, nat_eq, All}
use Rattle.std.specs.List.{IsDistinct}
use Rattle.aplc_syntax.specs.PlainTrees.{ids, argument_ids}
use Rattle.aplc_names.specs.PlainPrograms.{Action, nothing, quiet, perform, display, branch, Routine, PlainProgram}
use Rattle.aplc_names.specs.States.{State, Marking, final}
use Rattle.aplc_names.specs.Eager.{Context, statement}
use Rattle.aplc_names.specs.Runs.{evaluated, eager, peak, work}
use Rattle.aplc_core.specs.CoreRuns.{line_done, core_evaluated, core, core_peak, core_work}
use Rattle.aplc_core.specs.Lowering.{lowered, lowered_program}

-- the numbers of a statement's nodes
abbrev pub action_ids : Action → List ℕ
action_ids nothing = []
action_ids (quiet t) = ids t
action_ids (perform i p n a b) = i ∷ (argument_ids a ++ argument_ids b)
action_ids (display t) = ids t
action_ids (branch p t) = ids t

-- in each statement each node has its own number
abbrev pub IsNumbered : Action → Type 0
IsNumbered x = IsDistinct nat_eq (action_ids x)

abbrev pub HasNumberedLines : Routine → Type 0
HasNumberedLines f = All IsNumbered f.lines

abbrev pub HasDistinctNodes : PlainProgram → Type 0
HasDistinctNodes p = All HasNumberedLines p.routines

-- The steps of a statement come to what the statement comes to, in the same state: places, marks, output, work, what nodes
-- were given and the account are parts of it.
abbrev pub LineIsStatement : Action → Type 0
LineIsStatement x = (c : Context) (s : State) → line_done c (lowered x) s ≡ statement c x s

-- for every marking, every input and every number of lines
abbrev pub CoreIsEager : PlainProgram → Type 0
CoreIsEager p =
    (m : Marking) (input : List ℕ) (n : ℕ) → core_evaluated (lowered_program p) m input n ≡ evaluated p m input n

abbrev pub LoweringKeepsRuns : Type 0
LoweringKeepsRuns = (p : PlainProgram) → HasDistinctNodes p → CoreIsEager p

-- ---- Of a resolved program

-- For every marking, every input and every number of lines the core run comes to what the eager run comes to. Its parts,
-- one by one:
pub record KeepsRuns (p : PlainProgram) : Type 0 where
  -- the same outcome: value, fault or going on, in the same state
  pub outcomes : CoreIsEager p
  -- the same output, the same marks, and for a fault the same kind and the same places
  pub runs : (m : Marking) (input : List ℕ) (n : ℕ) → core (lowered_program p) m input n ≡ eager p m input n
  pub works : (m : Marking) (input : List ℕ) (n : ℕ) → core_work (lowered_program p) m input n ≡ work p m input n
  -- nodes are given the same values in the same order
  pub traces : (m : Marking) (input : List ℕ) (n : ℕ) → (final (core_evaluated (lowered_program p) m input n)).world.given ≡ (final (evaluated p m input n)).world.given
  -- the greatest account, whichever nodes it counts
  pub peaks : (m : Marking) (input : List ℕ) (n : ℕ) → core_peak (lowered_program p) m input n ≡ peak p m input n
  -- a fault is late in the one where it is in the other
  pub late_faults : (m : Marking) (input : List ℕ) (n : ℕ) → (final (core_evaluated (lowered_program p) m input n)).account.late ≡ (final (evaluated p m input n)).account.late
