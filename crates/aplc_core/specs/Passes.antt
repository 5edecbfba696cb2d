-- Lowering in one pass from right to left: trees wait for what uses them, and go into slots before a step is written.
use Rattle.std.specs.Prelude.{ℕ, ◌+◌, min, List, [], ◌∷◌, ◌++◌, map, pos, Option, Some, None}
use Rattle.aplc_scalar.specs.declared.kind.Kind.TheVariants.{Num, Char}
use Rattle.aplc_syntax.specs.declared.tree.Primitive.{Primitive}
use Rattle.aplc_syntax.specs.PlainTrees.{Tree, Trees, Argument, absent, given}
use Rattle.aplc_syntax.specs.PlainTrees as t
use Rattle.aplc_names.specs.PlainPrograms.{Action, nothing, quiet, perform, display, branch}
use Rattle.aplc_core.specs.PlainSteps.{Term, Literal, Read, Slot, Mono, Dyad, Index, Terms, no_more, left_out, and_term, Effect, Keep, Store, StoreAt, Call, ReadText, ReadNums, Show, Branch, id_of}

-- ---- What stands while a line is cut

pub record Pass : Type 0 where
  -- those that are written, in order
  pub steps : List Effect
  -- the first slot that is free
  pub free : ℕ
  -- the trees that wait, the latest first
  pub waiting : List Term

abbrev pub no_pass : Pass
no_pass = record { steps = []; free = 0; waiting = [] }

-- how slots are counted
abbrev pub Count : Type 0
Count = ℕ → ℕ

-- up to the last of 32 bits
abbrev pub next_slot : Count
next_slot n = min (n + 1) 4294967295

abbrev pub next_number : Count
next_number n = n + 1

-- ---- Waiting

abbrev pub waits : Term → Pass → Pass
waits t p = record { steps = p.steps; free = p.free; waiting = t ∷ p.waiting }

-- a tree waits in a slot
abbrev pub kept_last : Count → Term → Pass → Pass
kept_last up (Slot i k) p = waits (Slot i k) p
kept_last up t p = record { steps = p.steps ++ Keep p.free t ∷ []; free = up p.free; waiting = Slot (id_of t) p.free ∷ p.waiting }

abbrev pub keep_each : Count → List Term → List Effect → ℕ → Pass
keep_each up [] xs n = record { steps = xs; free = n; waiting = [] }
keep_each up (t ∷ ts) xs n = kept_last up t (keep_each up ts xs n)

-- each tree that waits does so in a slot
abbrev pub all_kept : Count → Pass → Pass
all_kept up p = keep_each up p.waiting p.steps p.free

abbrev pub with_step : Effect → Pass → Pass
with_step x p = record { steps = p.steps ++ x ∷ []; free = p.free; waiting = p.waiting }

-- a step is written
abbrev pub written : Count → Effect → Pass → Pass
written up x p = with_step x (all_kept up p)

-- ---- What waited is used

-- the tree that waits last
abbrev pub on_last : (Term → Pass → Pass) → List Effect → ℕ → List Term → Pass
on_last more xs n [] = record { steps = xs; free = n; waiting = [] }
on_last more xs n (t ∷ ts) = more t record { steps = xs; free = n; waiting = ts }

abbrev pub with_last : (Term → Pass → Pass) → Pass → Pass
with_last more p = on_last more p.steps p.free p.waiting

-- the slot that waits last
abbrev pub on_slot : (ℕ → ℕ → Pass → Pass) → Term → Pass → Pass
on_slot more (Slot i k) p = more i k p
on_slot more t p = p

abbrev pub with_slot : Count → (ℕ → ℕ → Pass → Pass) → Pass → Pass
with_slot up more p = with_last (on_slot more) (all_kept up p)

-- an index list of those that wait last, and what else waits
pub record Taken : Type 0 where
  pub terms : Terms
  pub rest : List Term

abbrev pub skipped : Taken → Taken
skipped x = record { terms = left_out x.terms; rest = x.rest }

abbrev pub taken_first : Term → Taken → Taken
taken_first t x = record { terms = and_term t x.terms; rest = x.rest }

abbrev pub taken : Trees → List Term → Taken
taken t.no_more ts = record { terms = no_more; rest = ts }
taken (t.left_out xs) ts = skipped (taken xs ts)
taken (t.and_tree x xs) [] = skipped (taken xs [])
taken (t.and_tree x xs) (t ∷ ts) = taken_first t (taken xs ts)

abbrev pub on_taken : (Terms → Pass → Pass) → List Effect → ℕ → Taken → Pass
on_taken more xs n x = more x.terms record { steps = xs; free = n; waiting = x.rest }

abbrev pub with_list : Trees → (Terms → Pass → Pass) → Pass → Pass
with_list js more p = on_taken more p.steps p.free (taken js p.waiting)

-- ---- Forms

-- a value that a step puts into the first free slot
abbrev pub into_slot : Count → ℕ → Pass → Pass
into_slot up i p = record { steps = p.steps; free = up p.free; waiting = Slot i p.free ∷ p.waiting }

abbrev pub read_text : Count → ℕ → Pass → Pass
read_text up i p = into_slot up i (with_step (ReadText i (all_kept up p).free) (all_kept up p))

abbrev pub read_nums : Count → ℕ → Pass → Pass
read_nums up i p = into_slot up i (with_step (ReadNums i (all_kept up p).free) (all_kept up p))

abbrev pub mono : ℕ → Primitive → Pass → Pass
mono i f p = with_last (λ b. waits (Mono i f b)) p

abbrev pub dyad : ℕ → Primitive → Pass → Pass
dyad i f p = with_last (λ a. with_last (λ b. waits (Dyad i f a b))) p

abbrev pub index : ℕ → Trees → Pass → Pass
index i js p = with_last (λ a. with_list js (λ ts. waits (Index i a ts))) p

abbrev pub assign : Count → ℕ → ℕ → Pass → Pass
assign up i n p = with_last (λ x q. waits (Read i n) (written up (Store i n x) q)) p

abbrev pub assign_at : Count → ℕ → ℕ → Trees → Pass → Pass
assign_at up i n js p = with_list js (λ ts. with_slot up (λ j k q. waits (Slot i k) (with_step (StoreAt i n ts (Slot j k)) q))) p

abbrev pub show : Count → ℕ → Pass → Pass
show up i p = with_slot up (λ j k q. waits (Slot i k) (with_step (Show (Some i) (Slot j k)) q)) p

-- the slot of an argument that is there
abbrev pub with_argument : Count → Argument → (Option ℕ → Pass → Pass) → Pass → Pass
with_argument up absent more p = more None p
with_argument up (given x) more p = with_slot up (λ j k. more (Some k)) p

-- a call with the slots of its arguments
abbrev pub calls : Count → ℕ → ℕ → Option ℕ → Option ℕ → Pass → Pass
calls up i n x y p = into_slot up i (with_step (Call i n x y (Some (all_kept up p).free)) (all_kept up p))

abbrev pub performs : Count → ℕ → ℕ → Option ℕ → Option ℕ → Pass → Pass
performs up i n x y p = written up (Call i n x y None) p

abbrev pub call : Count → ℕ → ℕ → Argument → Argument → Pass → Pass
call up i n a b p = with_argument up a (λ x. with_argument up b (λ y. calls up i n x y)) p

abbrev pub perform_call : Count → ℕ → ℕ → Argument → Argument → Pass → Pass
perform_call up i n a b p = with_argument up a (λ x. with_argument up b (λ y. performs up i n x y)) p

-- ---- Trees

abbrev mutual
  pub pass : Count → Tree → Pass → Pass
  pass up (t.Numbers i p zs) s = waits (Literal i Num zs) s
  pass up (t.Text i p cs) s = waits (Literal i Char (map pos cs)) s
  pass up (t.Name i p n) s = waits (Read i n) s
  pass up (t.TextInput i p) s = read_text up i s
  pass up (t.NumsInput i p) s = read_nums up i s
  pass up (t.Mono i p f b) s = mono i f (pass up b s)
  pass up (t.Dyad i p f a b) s = dyad i f (pass up a (pass up b s))
  pass up (t.Index i p a xs) s = index i xs (pass up a (pass_list up xs s))
  pass up (t.Assign i p n a) s = assign up i n (pass up a s)
  pass up (t.AssignAt i p n xs a) s = assign_at up i n xs (pass_list up xs (all_kept up (pass up a s)))
  pass up (t.Show i p a) s = show up i (pass up a s)
  pass up (t.Call i p n a b) s = call up i n a b (pass_argument up a (pass_argument up b s))

  -- an index list, from the last place to the first
  pub pass_list : Count → Trees → Pass → Pass
  pass_list up t.no_more s = s
  pass_list up (t.left_out xs) s = pass_list up xs s
  pass_list up (t.and_tree x xs) s = pass up x (pass_list up xs s)

  pub pass_argument : Count → Argument → Pass → Pass
  pass_argument up absent s = s
  pass_argument up (given x) s = all_kept up (pass up x s)

-- ---- Statements

-- a statement's last tree goes into its last step
abbrev pub ends : Count → (Term → Effect) → Pass → Pass
ends up x p = with_last (λ t. written up (x t)) p

abbrev pub changes : Count → ℕ → ℕ → Trees → Pass → Pass
changes up i n js p = with_list js (λ ts. ends up (StoreAt i n ts)) p

abbrev pub pass_quiet : Count → Tree → Pass → Pass
pass_quiet up (t.Assign i p n a) s = pass up (t.Assign i p n a) s
pass_quiet up (t.AssignAt i p n xs a) s = changes up i n xs (pass_list up xs (pass up a s))
pass_quiet up (t.Show i p a) s = ends up (Show (Some i)) (pass up a s)
pass_quiet up x s = all_kept up (pass up x s)

abbrev pub pass_action : Count → Action → Pass → Pass
pass_action up nothing s = s
pass_action up (quiet x) s = pass_quiet up x s
pass_action up (perform i p n a b) s = perform_call up i n a b (pass_argument up a (pass_argument up b s))
pass_action up (display x) s = ends up (Show None) (pass up x s)
pass_action up (branch p x) s = ends up Branch (pass up x s)
