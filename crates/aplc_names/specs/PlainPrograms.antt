-- A program as plain data: what evaluation reads of it.
use Rattle.std.specs.Prelude.{ℕ, ◌+◌, max, List, [], ◌∷◌, ◌++◌, map, length, Option, None, option_map, option_and_then, slice_get, unwrap_or, ℤ}
use Rattle.std.specs.Option.{option_to_list}
use Rattle.aplc_syntax.specs.declared.tree.Named.{Named}
use Rattle.aplc_syntax.specs.declared.tree.Line.{Line}
use Rattle.aplc_syntax.specs.declared.tree.Function.{Function}
use Rattle.aplc_syntax.specs.declared.tree.Program.{Program}
use Rattle.aplc_syntax.specs.declared.tree.Statement.{Statement}
use Rattle.aplc_syntax.specs.declared.tree.Statement.TheVariants as st
use Rattle.aplc_syntax.specs.PlainTrees.{Tree, Argument, Call, tree_of, ids}
use Rattle.aplc_names.specs.declared.scope.Scope.{Scope}
use Rattle.aplc_names.specs.declared.scope.Scope.TheVariants as scope
use Rattle.aplc_names.specs.Scopes.{scope_in, start_of}

-- what a line does: nothing; or it evaluates a tree, and displays its value or goes where that says. A call of a
-- function without a result gives no value.
pub data Action : Type 0 where
  nothing : Action
  quiet : Tree → Action
  -- with the node's number and place, the number of the name, the left argument and the right one
  perform : (i p n : ℕ) → Argument → Argument → Action
  display : Tree → Action
  -- with the place of its arrow
  branch : ℕ → Tree → Action

pub record Routine : Type 0 where
  -- the bytes of its name
  pub title : List ℕ
  -- the names of its header, by their numbers
  pub result : Option ℕ
  pub left : Option ℕ
  pub right : Option ℕ
  pub locals : List ℕ
  -- what each name is in its lines
  pub scope : ℕ → Scope
  -- from line 1 on
  pub lines : List Action

pub record PlainProgram : Type 0 where
  pub origin : ℤ
  pub routines : List Routine
  -- the number of the routine where it starts
  pub start : Option ℕ

-- ---- Of a program

-- a call that is evaluated and nothing more is one of a function without a result
abbrev pub quiet_of : Tree → Action
quiet_of (Call i p n a b) = perform i p n a b
quiet_of t = quiet t

abbrev pub action_of : Statement → Action
action_of st.Empty = nothing
action_of (st.Quiet n) = quiet_of (tree_of n)
action_of (st.Display n) = display (tree_of n)
action_of (st.Branch p n) = branch p (tree_of n)

abbrev pub line_action : Line → Action
line_action l = action_of l.statement

abbrev pub name_number : Named → ℕ
name_number x = x.name.0

-- the bytes of the name of this number
abbrev pub title_in : List (List ℕ) → ℕ → List ℕ
title_in ns n = unwrap_or (slice_get ns n) []

abbrev pub routine_of : Program → Function → Routine
routine_of p f = record {
  title = title_in p.names f.name.name.0;
  result = option_map name_number f.result;
  left = option_map name_number f.left;
  right = option_map name_number f.right;
  locals = map name_number f.locals;
  scope = scope_in p.functions f;
  lines = map line_action f.lines;
}

-- a program as plain data
abbrev pub plain : Program → PlainProgram
plain p = record { origin = p.origin; routines = map (routine_of p) p.functions; start = start_of p }

-- one without a line
abbrev pub no_routine : Routine
no_routine = record { title = []; result = None; left = None; right = None; locals = []; scope = λ n. scope.Global; lines = [] }

-- the routine where a program starts; a program that starts nowhere does nothing
abbrev pub main_routine : PlainProgram → Routine
main_routine p = unwrap_or (option_and_then (slice_get p.routines) p.start) no_routine

-- ---- Headers

-- the names of a header but the function's own
abbrev pub names_of_header : Routine → List ℕ
names_of_header f = option_to_list f.result ++ option_to_list f.left ++ option_to_list f.right ++ f.locals

-- how many names a header has, the function's own among them
abbrev pub header_count : Routine → ℕ
header_count f = length (names_of_header f) + 1

-- ---- Nodes

-- how many nodes a statement has
abbrev pub nodes : Action → ℕ
nodes nothing = 0
nodes (quiet t) = length (ids t)
nodes (perform i p n a b) = length (ids (Call i p n a b))
nodes (display t) = length (ids t)
nodes (branch p t) = length (ids t)

abbrev pub most_nodes_of : List Action → ℕ
most_nodes_of [] = 1
most_nodes_of (x ∷ xs) = max (nodes x) (most_nodes_of xs)

abbrev pub most_nodes_in : List Routine → ℕ
most_nodes_in [] = 1
most_nodes_in (f ∷ fs) = max (most_nodes_of f.lines) (most_nodes_in fs)

-- the most nodes of one statement, and 1 where no statement has a node
abbrev pub most_nodes : PlainProgram → ℕ
most_nodes p = most_nodes_in p.routines
