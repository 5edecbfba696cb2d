-- The literals of a program: their numbers, and how many elements they have.
use Rattle.std.specs.Prelude.{◌≡◌, ℕ, ◌+◌, true, ℤ, List, [], ◌++◌, length, map, sum, All}
use Rattle.aplc_scalar.specs.Scalar.{in_range}
use Rattle.aplc_syntax.specs.declared.tree.Node.{Node}
use Rattle.aplc_syntax.specs.declared.tree.Line.{Line}
use Rattle.aplc_syntax.specs.declared.tree.Function.{Function}
use Rattle.aplc_syntax.specs.declared.tree.Program.{Program}
use Rattle.aplc_syntax.specs.declared.tree.Statement.{Statement}
use Rattle.aplc_syntax.specs.declared.tree.Statement.TheVariants as st
use Rattle.aplc_syntax.specs.PlainTrees.{Tree, Trees, Argument, tree_of}
use Rattle.aplc_syntax.specs.PlainTrees as t

-- ---- Numbers

-- the numbers of the literals in a tree
abbrev mutual
  pub tree_numbers : Tree → List ℤ
  tree_numbers (t.Numbers i p zs) = zs
  tree_numbers (t.Mono i p f a) = tree_numbers a
  tree_numbers (t.Dyad i p f a b) = tree_numbers a ++ tree_numbers b
  tree_numbers (t.Index i p a xs) = tree_numbers a ++ trees_numbers xs
  tree_numbers (t.Assign i p n a) = tree_numbers a
  tree_numbers (t.AssignAt i p n xs a) = trees_numbers xs ++ tree_numbers a
  tree_numbers (t.Show i p a) = tree_numbers a
  tree_numbers (t.Call i p n a b) = argument_numbers a ++ argument_numbers b
  tree_numbers _ = []

  pub trees_numbers : Trees → List ℤ
  trees_numbers t.no_more = []
  trees_numbers (t.left_out xs) = trees_numbers xs
  trees_numbers (t.and_tree x xs) = tree_numbers x ++ trees_numbers xs

  pub argument_numbers : Argument → List ℤ
  argument_numbers t.absent = []
  argument_numbers (t.given x) = tree_numbers x

-- the numbers of the literals in a node
abbrev pub numbers_in : Node → List ℤ
numbers_in n = tree_numbers (tree_of n)

abbrev pub statement_numbers : Statement → List ℤ
statement_numbers st.Empty = []
statement_numbers (st.Quiet n) = numbers_in n
statement_numbers (st.Display n) = numbers_in n
statement_numbers (st.Branch p n) = numbers_in n

-- each number of a literal lies in the range of numbers
abbrev pub HasNumbersInRange : Program → Type 0
HasNumbersInRange p = All (λ (f : Function). All (λ (l : Line). All (λ z. in_range z ≡ true) (statement_numbers l.statement)) f.lines) p.functions

-- ---- Elements

-- how many elements the literals in a tree have
abbrev mutual
  pub tree_elements : Tree → ℕ
  tree_elements (t.Numbers i p zs) = length zs
  tree_elements (t.Text i p cs) = length cs
  tree_elements (t.Mono i p f a) = tree_elements a
  tree_elements (t.Dyad i p f a b) = tree_elements a + tree_elements b
  tree_elements (t.Index i p a xs) = tree_elements a + trees_elements xs
  tree_elements (t.Assign i p n a) = tree_elements a
  tree_elements (t.AssignAt i p n xs a) = trees_elements xs + tree_elements a
  tree_elements (t.Show i p a) = tree_elements a
  tree_elements (t.Call i p n a b) = argument_elements a + argument_elements b
  tree_elements _ = 0

  pub trees_elements : Trees → ℕ
  trees_elements t.no_more = 0
  trees_elements (t.left_out xs) = trees_elements xs
  trees_elements (t.and_tree x xs) = tree_elements x + trees_elements xs

  pub argument_elements : Argument → ℕ
  argument_elements t.absent = 0
  argument_elements (t.given x) = tree_elements x

abbrev pub statement_elements : Statement → ℕ
statement_elements st.Empty = 0
statement_elements (st.Quiet n) = tree_elements (tree_of n)
statement_elements (st.Display n) = tree_elements (tree_of n)
statement_elements (st.Branch p n) = tree_elements (tree_of n)

abbrev pub line_elements : Line → ℕ
line_elements l = statement_elements l.statement

abbrev pub function_elements : Function → ℕ
function_elements f = sum (map line_elements f.lines)

-- how many elements the literals of a program have
abbrev pub elements : Program → ℕ
elements p = sum (map function_elements p.functions)
