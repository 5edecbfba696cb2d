-- Trees from steps of building: a stack of what was made, and a stack of lists that are open.
use Rattle.std.specs.Prelude.{◌<◌, length, ℕ, ◌+◌, ◌-◌, List, [], ◌∷◌, ◌++◌, ℤ, Option, Some, None, option_and_then, Bool, true, false}
use Rattle.aplc_syntax.specs.declared.tree.Form.TheVariants as v
use Rattle.aplc_syntax.specs.declared.tree.Node.{Node}
use Rattle.aplc_syntax.specs.declared.tree.Statement.{Statement}
use Rattle.aplc_syntax.specs.declared.tree.Statement.TheVariants as st
use Rattle.aplc_syntax.specs.declared.step.Step.{Step}
use Rattle.aplc_syntax.specs.declared.step.Step.TheVariants as s
use Rattle.aplc_syntax.specs.Words.{text_between, IsQuoted}
use Rattle.aplc_syntax.specs.declared.word.WordKind.TheVariants as w
use Rattle.aplc_syntax.specs.Trees.{node, name_id}

-- what was made: a tree, a name (called or not), numbers, or a name with its index
pub data Made : Type 0 where
  tree : Node → Made
  named : Bool → (p n : ℕ) → Made
  vector : (p : ℕ) → List ℤ → Made
  element : Bool → (p n q : ℕ) → List (Option Node) → Made

abbrev pub name_node : Bool → ℕ → ℕ → Node
name_node true p n = node p (v.Call (name_id n) None None)
name_node false p n = node p (v.Name (name_id n))

abbrev pub node_of : Made → Node
node_of (tree x) = x
node_of (named c p n) = name_node c p n
node_of (vector p xs) = node p (v.Numbers xs)
node_of (element c p n q xs) = node q (v.Index (name_node c p n) xs)

abbrev pub indexed_at : ℕ → Made → List (Option Node) → Made
indexed_at q (named c p n) xs = element c p n q xs
indexed_at q x xs = tree (node q (v.Index (node_of x) xs))

-- what was made and not yet used, the last first, and the entries of the open lists, the innermost first
pub record Built : Type 0 where
  pub made : List Made
  pub lists : List (List (Option Node))

abbrev pub built : List Made → List (List (Option Node)) → Built
built made lists = record { made = made; lists = lists }

abbrev pub put : Made → List Made → List (List (Option Node)) → Option Built
put x xs ls = Some (built (x ∷ xs) ls)

-- one step, in a text
abbrev pub act : List ℕ → Step → List Made → List (List (Option Node)) → Option Built
act text (s.Number p x) xs ls = put (vector p (x ∷ [])) xs ls
act text (s.More x) (vector p ys ∷ xs) ls = put (vector p (ys ++ x ∷ [])) xs ls
act text (s.Text p to) xs ls = put (tree (node p (v.Text (text_between text p to)))) xs ls
act text (s.Name p n) xs ls = put (named false p n) xs ls
act text (s.TextInput p) xs ls = put (tree (node p v.TextInput)) xs ls
act text (s.NumsInput p) xs ls = put (tree (node p v.NumsInput)) xs ls
act text (s.Mono p f) (a ∷ xs) ls = put (tree (node p (v.Mono f (node_of a)))) xs ls
act text (s.Dyad p f) (b ∷ a ∷ xs) ls = put (tree (node p (v.Dyad f (node_of a) (node_of b)))) xs ls
act text (s.Call0 p n) xs ls = put (named true p n) xs ls
act text (s.Call1 p n) (a ∷ xs) ls = put (tree (node p (v.Call (name_id n) None (Some (node_of a))))) xs ls
act text (s.Call2 p n) (b ∷ a ∷ xs) ls = put (tree (node p (v.Call (name_id n) (Some (node_of a)) (Some (node_of b))))) xs ls
act text s.List xs ls = Some (built xs ([] ∷ ls))
act text s.Gap xs (l ∷ ls) = Some (built xs ((l ++ None ∷ []) ∷ ls))
act text s.Entry (a ∷ xs) (l ∷ ls) = Some (built xs ((l ++ Some (node_of a) ∷ []) ∷ ls))
act text (s.Index q) (a ∷ xs) (l ∷ ls) = put (indexed_at q a l) xs ls
act text s.Paren (a ∷ xs) ls = put (tree (node_of a)) xs ls
act text s.Assign (b ∷ named c p n ∷ xs) ls = put (tree (node p (v.Assign (name_id n) (node_of b)))) xs ls
act text s.AssignAt (b ∷ element c p n q l ∷ xs) ls = put (tree (node p (v.AssignAt (name_id n) l (node_of b)))) xs ls
act text (s.Show p) (b ∷ xs) ls = put (tree (node p (v.Show (node_of b)))) xs ls
act text (s.Branch p) (b ∷ xs) ls = put b xs ls
act text (s.Perform0 p n) xs ls = put (tree (node p (v.Call (name_id n) None None))) xs ls
act text (s.Perform1 p n) (a ∷ xs) ls = put (tree (node p (v.Call (name_id n) None (Some (node_of a))))) xs ls
act text (s.Perform2 p n) (b ∷ a ∷ xs) ls = put (tree (node p (v.Call (name_id n) (Some (node_of a)) (Some (node_of b))))) xs ls
act text _ xs ls = None

abbrev pub act_on : List ℕ → Step → Built → Option Built
act_on text x b = act text x b.made b.lists

abbrev pub acts : List ℕ → List Step → Built → Option Built
acts text [] b = Some b
acts text (x ∷ xs) b = option_and_then (acts text xs) (act_on text x b)

-- the statement of a tree that this step has made
abbrev pub ended_by : Step → Node → Statement
ended_by s.Assign x = st.Quiet x
ended_by s.AssignAt x = st.Quiet x
ended_by (s.Show p) x = st.Quiet x
ended_by (s.Perform0 p n) x = st.Quiet x
ended_by (s.Perform1 p n) x = st.Quiet x
ended_by (s.Perform2 p n) x = st.Quiet x
ended_by (s.Branch p) x = st.Branch p x
ended_by _ x = st.Display x

-- the last of these steps, behind this one
abbrev pub last_step : Step → List Step → Step
last_step y [] = y
last_step y (x ∷ xs) = last_step x xs

-- the statement of steps that made this tree
abbrev pub ended : List Step → Node → Statement
ended [] x = st.Display x
ended (y ∷ ys) x = ended_by (last_step y ys) x

abbrev pub made_one : List Step → List Made → Option Statement
made_one xs (x ∷ []) = Some (ended xs (node_of x))
made_one xs _ = None

-- the statement that steps make of nothing, in a text
abbrev pub build : List ℕ → List Step → Option Statement
build text xs = option_and_then (λ (b : Built). made_one xs b.made) (acts text xs (built [] []))

-- how many nodes one step more makes; an indexed assignment is one node, for which a name and an index were counted
abbrev pub counted : Step → ℕ → ℕ
counted (s.More x) n = n
counted s.List n = n
counted s.Gap n = n
counted s.Entry n = n
counted s.Paren n = n
counted s.Assign n = n
counted s.AssignAt n = n - 1
counted (s.Branch p) n = n
counted _ n = n + 1

-- how many nodes are made, where n were made before
abbrev pub count_from : ℕ → List Step → ℕ
count_from n [] = n
count_from n (x ∷ xs) = count_from (counted x n) xs

-- ---- Steps in a text

-- a step's node stands in a text, and a text at its place is quoted there
abbrev pub StepIn : List ℕ → Step → Type 0
StepIn text (s.Number p x) = p < length text
StepIn text (s.Text p to) = (p < length text) × IsQuoted text p (w.Text to)
StepIn text (s.Name p n) = p < length text
StepIn text (s.TextInput p) = p < length text
StepIn text (s.NumsInput p) = p < length text
StepIn text (s.Mono p f) = p < length text
StepIn text (s.Dyad p f) = p < length text
StepIn text (s.Call0 p n) = p < length text
StepIn text (s.Call1 p n) = p < length text
StepIn text (s.Call2 p n) = p < length text
StepIn text (s.Index p) = p < length text
StepIn text (s.Show p) = p < length text
StepIn text (s.Branch p) = p < length text
StepIn text (s.Perform0 p n) = p < length text
StepIn text (s.Perform1 p n) = p < length text
StepIn text (s.Perform2 p n) = p < length text
StepIn text _ = Unit {0}

abbrev pub StepsIn : List ℕ → List Step → Type 0
StepsIn text [] = Unit {0}
StepsIn text (x ∷ xs) = StepIn text x × StepsIn text xs
