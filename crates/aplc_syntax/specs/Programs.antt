-- The program of a text and its tokens.
use Rattle.std.specs.Prelude.{◌≡◌, ◌≤◌, ◌+◌, ◌-◌, ◌⊎◌, ℕ, List, [], ◌∷◌, length, filter_map, All, flat_map, Option, Some, None, ℤ, pos, nat_lt, if◌then◌else◌}
use Rattle.std.specs.List.{AllZip}
use Rattle.aplc_lex.specs.declared.token.Token.{Token}
use Rattle.aplc_syntax.specs.declared.tree.Node.{Node}
use Rattle.aplc_syntax.specs.declared.tree.Line.{Line}
use Rattle.aplc_syntax.specs.declared.tree.Function.{Function}
use Rattle.aplc_syntax.specs.declared.tree.Program.{Program}
use Rattle.aplc_syntax.specs.declared.tree.Var.{Var}
use Rattle.aplc_syntax.specs.declared.tree.Statement.{Statement}
use Rattle.aplc_syntax.specs.declared.tree.Statement.TheVariants as st
use Rattle.aplc_syntax.specs.declared.word.Word.{Word}
use Rattle.aplc_syntax.specs.declared.word.WordKind.{WordKind}
use Rattle.aplc_syntax.specs.declared.word.WordKind.TheVariants as w
use Rattle.aplc_syntax.specs.Words.{names_in}
use Rattle.aplc_syntax.specs.Grammar.{Sentence, spell}
use Rattle.aplc_syntax.specs.Trees.{statement_of, nodes_of}
use Rattle.aplc_syntax.specs.PlainTrees.{tree_of, ids}
use Rattle.aplc_syntax.specs.Layout.{Row, Block, Header, Declaration, parts_of, blocks, above, below, header_of, headers, label_of, sentence, declaration, origin_of, var_of}

-- ---- Statements

abbrev pub nests : ℕ → ℕ → (ℕ → Option ℕ) → Option ℕ
nests p depth later = if nat_lt depth 32 then later (depth + 1) else Some p

abbrev pub nesting : WordKind → ℕ → ℕ → (ℕ → Option ℕ) → Option ℕ
nesting w.Open p depth later = nests p depth later
nesting w.OpenBracket p depth later = nests p depth later
nesting w.Close p depth later = later (depth - 1)
nesting w.CloseBracket p depth later = later (depth - 1)
nesting _ p depth later = later depth

-- where the 33rd parenthesis or bracket is opened, if depth of them are open in front of these words; one that closes
-- makes one less, and where none is open nothing
abbrev pub too_deep : List Word → ℕ → Option ℕ
too_deep [] depth = None
too_deep (x ∷ xs) depth = nesting x.kind x.place depth (too_deep xs)

-- words are derived as this statement, within the limits of nesting and of nodes
pub record IsDerived (text : List ℕ) (ws : List Word) (s : Statement) : Type 0 where
  pub form : Sentence
  pub spelled : ws ≡ spell form
  pub tree : s ≡ statement_of text form
  pub shallow : too_deep ws 0 ≡ None
  pub small : nodes_of form ≤ 256

-- the statement of these words; no words are the empty statement
abbrev pub IsStatement : List ℕ → List Word → Statement → Type 0
IsStatement text ws s = ((ws ≡ []) × (s ≡ st.Empty)) ⊎ IsDerived text ws s

-- ---- Functions

-- a line of a function, where these headers are known
pub record IsLine (text : List ℕ) (hs : List Header) (r : Row) (l : Line) : Type 0 where
  pub label : l.label ≡ label_of r
  pub statement : IsStatement text (sentence hs r) l.statement

-- a line that closes a function has a del alone
abbrev pub IsClosing : Option Row → Type 0
IsClosing None = ⊥
IsClosing (Some r) = length r.words ≡ 1

-- a function of at most 999 lines; its header gives its names
pub record IsFunction (text : List ℕ) (hs : List Header) (b : Block) (f : Function) : Type 0 where
  pub head : Header
  pub headed : header_of b ≡ Some head
  pub name : f.name ≡ head.name
  pub result : f.result ≡ head.result
  pub left : f.left ≡ head.left
  pub right : f.right ≡ head.right
  pub locals : f.locals ≡ head.locals
  pub closed : IsClosing b.closing
  pub few : length b.body ≤ 999
  pub lines : AllZip (IsLine text hs) b.body f.lines

-- ---- Programs

-- the index origin where these are declared: at most one, and 1 without it
abbrev pub IsOrigin : List ℤ → ℤ → Type 0
IsOrigin [] v = v ≡ pos 1
IsOrigin (x ∷ []) v = v ≡ x
IsOrigin (x ∷ y ∷ xs) v = ⊥

-- these lines are declarations or empty, and declare this origin and these names
pub record Declare (ns : List (List ℕ)) (rs : List Row) (v : ℤ) (vars : List Var) : Type 0 where
  pub said : List Declaration
  pub declared : AllZip (λ r d. declaration ns r ≡ Some d) rs said
  pub origin : IsOrigin (filter_map origin_of said) v
  pub named : vars ≡ filter_map var_of said

-- p is what the tokens of a text spell, and keeps the limits
pub record IsProgramOf (text : List ℕ) (ts : List Token) (p : Program) : Type 0 where
  pub names : p.names ≡ names_in text ts
  pub declared : Declare (names_in text ts) (above (parts_of text ts)) p.origin p.vars
  pub bare : All (λ (r : Row). r.words ≡ []) (below (parts_of text ts))
  pub few : length (blocks (parts_of text ts)) ≤ 999
  pub functions : AllZip (IsFunction text (headers (parts_of text ts))) (blocks (parts_of text ts)) p.functions

-- ---- Numbers of nodes

-- the numbers of a node and of all nodes in it
abbrev pub node_ids : Node → List ℕ
node_ids n = ids (tree_of n)

abbrev pub statement_ids : Statement → List ℕ
statement_ids st.Empty = []
statement_ids (st.Quiet n) = node_ids n
statement_ids (st.Display n) = node_ids n
statement_ids (st.Branch p n) = node_ids n

-- the numbers of all nodes of a program
abbrev pub program_ids : Program → List ℕ
program_ids p = flat_map (λ (f : Function). flat_map (λ (l : Line). statement_ids l.statement) f.lines) p.functions
