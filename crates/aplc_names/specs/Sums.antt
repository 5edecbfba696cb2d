-- The lines of MAIN as tasks, where all that stands in them is built so far: numbers, and sums of them.
use Rattle.std.specs.Prelude.{ℤ, List, [], ◌∷◌, Option, Some, None, find, option_map}
use Rattle.aplc_scalar.specs.declared.function.ScalarFn.{ScalarFn}
use Rattle.aplc_scalar.specs.declared.function.ScalarFn.TheVariants as f
use Rattle.aplc_syntax.specs.declared.tree.Form.{Form}
use Rattle.aplc_syntax.specs.declared.tree.Node.{Node}
use Rattle.aplc_syntax.specs.declared.tree.Primitive.{Primitive}
use Rattle.aplc_syntax.specs.declared.tree.Primitive.TheVariants as pr
use Rattle.aplc_syntax.specs.declared.tree.Line.{Line}
use Rattle.aplc_syntax.specs.declared.tree.Function.{Function}
use Rattle.aplc_syntax.specs.declared.tree.Program.{Program}
use Rattle.aplc_syntax.specs.declared.tree.Statement.{Statement}
use Rattle.aplc_syntax.specs.declared.tree.Statement.TheVariants as st
use Rattle.aplc_syntax.specs.PlainTrees.{Tree, Numbers, Dyad, tree_of, tree_in}
use Rattle.aplc_names.specs.Outlines.{outline}
use Rattle.aplc_names.specs.Clashes.{is_start}

-- a number, or a function at its left and its right argument
pub data Sum : Type 0 where
  number : ℤ → Sum
  apply : ScalarFn → Sum → Sum → Sum

-- what a line does: nothing, or it evaluates a sum, or displays it besides
pub data Task : Type 0 where
  nothing : Task
  quiet : Sum → Task
  display : Sum → Task

-- ---- Nodes

abbrev pub applied : ScalarFn → Option Sum → Option Sum → Option Sum
applied g (Some a) (Some b) = Some (apply g a b)
applied g _ _ = None

-- a function of two arguments that is built, at its arguments
abbrev pub dyad : Primitive → Option Sum → Option Sum → Option Sum
dyad (pr.Scalar f.Add) a b = applied f.Add a b
dyad (pr.Scalar f.Sub) a b = applied f.Sub a b
dyad (pr.Scalar f.Mul) a b = applied f.Mul a b
dyad _ a b = None

-- a literal of one number
abbrev pub alone : List ℤ → Option Sum
alone (x ∷ []) = Some (number x)
alone _ = None

-- the sum that a tree is, if it is one
abbrev pub tree_sum : Tree → Option Sum
tree_sum (Numbers i p xs) = alone xs
tree_sum (Dyad i p g a b) = dyad g (tree_sum a) (tree_sum b)
tree_sum _ = None

-- the sum that a node is, if it is one
abbrev pub sum_of : Node → Option Sum
sum_of n = tree_sum (tree_of n)

-- the sum that a form is, if it is one, whatever the number and the place of its node
abbrev pub sum_in : Form → Option Sum
sum_in x = tree_sum (tree_in x 0 0)

-- ---- Lines

abbrev pub task_of : Statement → Option Task
task_of st.Empty = Some nothing
task_of (st.Quiet n) = option_map quiet (sum_of n)
task_of (st.Display n) = option_map display (sum_of n)
task_of (st.Branch p n) = None

abbrev pub with_task : Option Task → Option (List Task) → Option (List Task)
with_task (Some t) (Some ts) = Some (t ∷ ts)
with_task _ _ = None

-- the tasks of lines, if all of them have one
abbrev pub tasks_of : List Line → Option (List Task)
tasks_of [] = Some []
tasks_of (l ∷ ls) = with_task (task_of l.statement) (tasks_of ls)

-- ---- MAIN

-- the function of the name MAIN, the first that neither takes nor gives anything
abbrev pub main_function : Program → Option Function
main_function p = find (λ (f : Function). is_start p.names (outline f)) p.functions

abbrev pub tasks_in : Option Function → Option (List Task)
tasks_in None = None
tasks_in (Some f) = tasks_of f.lines

-- the tasks of the lines of MAIN, if all of them have one
abbrev pub main_tasks : Program → Option (List Task)
main_tasks p = tasks_in (main_function p)
