-- What a function says of names.
use Rattle.std.specs.Prelude.{ℕ, ◌+◌, ◌&&◌, Bool, true, false, List, [], ◌∷◌, ◌++◌, map, flat_map, Option, Some, None, is_none, ℤ, pos}
use Rattle.std.specs.Option.{option_to_list}
use Rattle.aplc_syntax.specs.declared.tree.NameId.{NameId}
use Rattle.aplc_syntax.specs.declared.tree.Named.{Named}
use Rattle.aplc_syntax.specs.declared.tree.Node.{Node}
use Rattle.aplc_syntax.specs.declared.tree.Line.{Line}
use Rattle.aplc_syntax.specs.declared.tree.Function.{Function}
use Rattle.aplc_syntax.specs.declared.tree.Program.{Program}
use Rattle.aplc_syntax.specs.declared.tree.Statement.{Statement}
use Rattle.aplc_syntax.specs.declared.tree.Statement.TheVariants as st
use Rattle.aplc_syntax.specs.Trees.{name_id}
use Rattle.aplc_syntax.specs.PlainTrees.{Tree, Trees, Argument, tree_of}
use Rattle.aplc_syntax.specs.PlainTrees as t
use Rattle.aplc_names.specs.declared.outline.Mention.{Mention}
use Rattle.aplc_names.specs.declared.outline.Outline.{Outline}

-- ---- Names in statements

abbrev pub mention : NameId → ℕ → Bool → Mention
mention n p assigned = record { name = n; place = p; assigned = assigned }

-- the names in a tree, in the order in which they stand there; `T←E` and `T[L]←E` both assign T
abbrev mutual
  pub tree_mentions : Tree → List Mention
  tree_mentions (t.Name i p n) = mention (name_id n) p false ∷ []
  tree_mentions (t.Mono i p f a) = tree_mentions a
  tree_mentions (t.Dyad i p f a b) = tree_mentions a ++ tree_mentions b
  tree_mentions (t.Index i p a xs) = tree_mentions a ++ trees_mentions xs
  tree_mentions (t.Assign i p n a) = mention (name_id n) p true ∷ tree_mentions a
  tree_mentions (t.AssignAt i p n xs a) = mention (name_id n) p true ∷ (trees_mentions xs ++ tree_mentions a)
  tree_mentions (t.Show i p a) = tree_mentions a
  tree_mentions (t.Call i p n a b) = mention (name_id n) p false ∷ (argument_mentions a ++ argument_mentions b)
  tree_mentions _ = []

  pub trees_mentions : Trees → List Mention
  trees_mentions t.no_more = []
  trees_mentions (t.left_out xs) = trees_mentions xs
  trees_mentions (t.and_tree x xs) = tree_mentions x ++ trees_mentions xs

  pub argument_mentions : Argument → List Mention
  argument_mentions t.absent = []
  argument_mentions (t.given x) = tree_mentions x

-- the names in a node and in all nodes in it
abbrev pub node_mentions : Node → List Mention
node_mentions n = tree_mentions (tree_of n)

abbrev pub statement_mentions : Statement → List Mention
statement_mentions st.Empty = []
statement_mentions (st.Quiet n) = node_mentions n
statement_mentions (st.Display n) = node_mentions n
statement_mentions (st.Branch p n) = node_mentions n

abbrev pub label_mention : Option Named → List Mention
label_mention None = []
label_mention (Some l) = mention l.name l.place false ∷ []

-- the names in a line: its label, and those in its statement
abbrev pub line_mentions : Line → List Mention
line_mentions l = label_mention l.label ++ statement_mentions l.statement

abbrev pub lines_mentions : List Line → List Mention
lines_mentions ls = flat_map line_mentions ls

-- ---- Functions

-- the names of the header of a function but its own
abbrev pub header_names : Function → List Named
header_names f = option_to_list f.result ++ option_to_list f.left ++ option_to_list f.right ++ f.locals

abbrev pub line_label : Line → List Named
line_label l = option_to_list l.label

-- the labels of lines
abbrev pub labels_in : List Line → List Named
labels_in ls = flat_map line_label ls

abbrev pub with_line : Option Named → ℕ → List ℤ → List ℤ
with_line None i rest = rest
with_line (Some l) i rest = pos i ∷ rest

-- the numbers of the lines that have labels, where the first line has number i
abbrev pub lines_from : ℕ → List Line → List ℤ
lines_from i [] = []
lines_from i (l ∷ ls) = with_line l.label i (lines_from (i + 1) ls)

-- the local names of a function: those of its header but its own, and its labels
abbrev pub local_names_of : Function → List Named
local_names_of f = header_names f ++ labels_in f.lines

-- a function without arguments and result
abbrev pub is_bare : Function → Bool
is_bare f = is_none f.result && is_none f.left && is_none f.right

abbrev pub outline : Function → Outline
outline f = record {
  name = f.name;
  bare = is_bare f;
  locals = local_names_of f;
  labels = labels_in f.lines;
  mentions = lines_mentions f.lines;
}

abbrev pub outlines : Program → List Outline
outlines p = map outline p.functions
