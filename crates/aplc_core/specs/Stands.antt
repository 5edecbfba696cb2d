-- What stands while a line is lowered, and what it is as plain data.
use Rattle.std.specs.Prelude.{◌≡◌, ℕ, ◌+◌, List, [], ◌∷◌, map, refl, Option, Some, None}
use Rattle.std.specs.Coded.{Coded, code_by, coded×, coded_list, coded_ℕ}
use Rattle.aplc_core.specs.declared.step.Step.{Step}
use Rattle.aplc_core.specs.declared.step.Tree.{Tree}
use Rattle.aplc_core.specs.declared.step.Tree.TheVariants as v
use Rattle.aplc_core.specs.declared.written.Kept.{Kept}
use Rattle.aplc_core.specs.contracts.step.Step as step
use Rattle.aplc_core.specs.contracts.step.Tree as tree
use Rattle.aplc_syntax.specs.PlainTrees.{Trees, Argument, absent, given}
use Rattle.aplc_syntax.specs.PlainTrees as t
use Rattle.aplc_core.specs.PlainSteps.{Term, Terms, left_out, and_term, Slot, effect_of, term_of}
use Rattle.aplc_core.specs.Passes.{Pass, Count, next_slot, kept_last, all_kept, waits, taken}

pub record Stand : Type 0 where
  -- those that are written, in order
  pub steps : List Step
  -- the number of the first slot that is free
  pub free : ℕ
  -- the trees that wait, the latest first
  pub waiting : List Tree

abbrev pub stand_code : Coded Stand
stand_code =
    code_by (List Step × (ℕ × List Tree)) (coded× (coded_list step.the_row.coded) (coded× coded_ℕ (coded_list tree.the_row.coded))) (λ s. (s.steps, (s.free, s.waiting))) (λ p. record { steps = p.0; free = p.1.0; waiting = p.1.1 }) (λ _. refl)

abbrev pub pass_of : Stand → Pass
pass_of s = record { steps = map effect_of s.steps; free = s.free; waiting = map term_of s.waiting }

-- the tree of what is in a slot
abbrev pub slot_tree : Kept → Tree
slot_tree k = v.Slot k.node k.slot

abbrev pub slot_term : Kept → Term
slot_term k = Slot k.node.0 k.slot.0

-- the slot that a tree stands for, if it does
abbrev pub kept_by : Term → Option (ℕ × ℕ)
kept_by (Slot i k) = Some (i, k)
kept_by t = None

abbrev pub numbers_of : Kept → ℕ × ℕ
numbers_of k = (k.node.0, k.slot.0)

-- trees go into slots one after another
abbrev pub kept_in_turn : Count → List Term → Pass → Pass
kept_in_turn up [] p = p
kept_in_turn up (t ∷ ts) p = kept_in_turn up ts (kept_last up t p)

-- ---- Arguments of a call, which wait last

-- how many trees an argument has
abbrev pub argument_count : Argument → ℕ
argument_count absent = 0
argument_count (given x) = 1

-- the slot of an argument that is there is taken from what waits
abbrev pub TakesArgument : Argument → Option ℕ → Pass → Pass → Type 0
TakesArgument absent k p q = (k ≡ None) × (q ≡ p)
TakesArgument (given x) None p q = ⊥
TakesArgument (given x) (Some k) p q = (i : ℕ) × (all_kept next_slot p ≡ waits (Slot i k) q)

-- ---- Index lists, which wait last

-- how many trees an index list has
abbrev pub given_count : Trees → ℕ
given_count t.no_more = 0
given_count (t.left_out xs) = given_count xs
given_count (t.and_tree x xs) = given_count xs + 1

-- a list that is taken, and what is left
pub record Listed : Type 0 where
  pub terms : Terms
  pub left : Pass

abbrev pub listed : Trees → Pass → Listed
listed xs p = record { terms = (taken xs p.waiting).terms; left = record { steps = p.steps; free = p.free; waiting = (taken xs p.waiting).rest } }

-- the places in front of a list
abbrev pub in_front : List (Option Tree) → Terms → Terms
in_front [] ts = ts
in_front (None ∷ xs) ts = left_out (in_front xs ts)
in_front (Some x ∷ xs) ts = and_term (term_of x) (in_front xs ts)

abbrev pub listed_behind : List (Option Tree) → Listed → Listed
listed_behind xs r = record { terms = in_front xs r.terms; left = r.left }
