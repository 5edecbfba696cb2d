-- What is not built yet, and the first place of it in a program.
use Rattle.std.specs.Prelude.{ℕ, Bool, true, false, List, [], ◌∷◌, ◌++◌, flat_map, Option, Some, None, nat_eq, nat_le, if◌then◌else◌}
use Rattle.aplc_syntax.specs.declared.tree.Line.{Line}
use Rattle.aplc_syntax.specs.declared.tree.Function.{Function}
use Rattle.aplc_syntax.specs.declared.tree.Program.{Program}
use Rattle.aplc_syntax.specs.declared.tree.Statement.{Statement}
use Rattle.aplc_syntax.specs.declared.tree.Statement.TheVariants as st
use Rattle.aplc_syntax.specs.PlainTrees.{Tree, Numbers, Text, Name, TextInput, NumsInput, Mono, Dyad, Index, Assign, AssignAt, Show, Call, Trees, no_more, left_out, and_tree, Argument, absent, given, tree_of}
use Rattle.aplc_infer.specs.declared.facts.Fact.{Fact}
use Rattle.aplc_infer.specs.Shown.{fact_at}
use Rattle.aplc_gen.specs.Built.{is_one, is_sign, is_checked}

-- the facts of nodes, by their numbers
abbrev pub FactList : Type 0
FactList = List (Option Fact)

-- ---- Nodes

-- the place of a node, unless it is built
abbrev pub unless : Bool → ℕ → List ℕ
unless true p = []
unless false p = p ∷ []

abbrev pub is_zero_rank : Option ℕ → Bool
is_zero_rank None = false
is_zero_rank (Some r) = nat_eq r 0

-- nothing is known, since it is never evaluated, or its rank is 0
abbrev pub is_scalar : Option Fact → Bool
is_scalar None = true
is_scalar (Some x) = is_zero_rank x.rank

abbrev mutual
  -- the places of all in a tree that is not built: of all but single numbers, reads of scalars, assignments to names,
  -- calls, monadic `+` and `-`, dyadic `+`, `-` and `×`
  pub unbuilt : FactList → Tree → List ℕ
  unbuilt facts (Numbers i p xs) = unless (is_one xs) p
  unbuilt facts (Text i p cs) = p ∷ []
  unbuilt facts (Name i p n) = unless (is_scalar (fact_at facts i)) p
  unbuilt facts (TextInput i p) = p ∷ []
  unbuilt facts (NumsInput i p) = p ∷ []
  unbuilt facts (Mono i p f a) = unless (is_sign f) p ++ unbuilt facts a
  unbuilt facts (Dyad i p f a b) = unless (is_checked f) p ++ (unbuilt facts a ++ unbuilt facts b)
  unbuilt facts (Index i p a xs) = p ∷ (unbuilt facts a ++ all_unbuilt facts xs)
  unbuilt facts (Assign i p n a) = unbuilt facts a
  unbuilt facts (AssignAt i p n xs a) = p ∷ (all_unbuilt facts xs ++ unbuilt facts a)
  unbuilt facts (Show i p a) = p ∷ unbuilt facts a
  unbuilt facts (Call i p n a b) = argument_unbuilt facts a ++ argument_unbuilt facts b

  pub all_unbuilt : FactList → Trees → List ℕ
  all_unbuilt facts no_more = []
  all_unbuilt facts (left_out xs) = all_unbuilt facts xs
  all_unbuilt facts (and_tree t xs) = unbuilt facts t ++ all_unbuilt facts xs

  pub argument_unbuilt : FactList → Argument → List ℕ
  argument_unbuilt facts absent = []
  argument_unbuilt facts (given t) = unbuilt facts t

-- ---- Programs

abbrev pub statement_unbuilt : FactList → Statement → List ℕ
statement_unbuilt facts st.Empty = []
statement_unbuilt facts (st.Quiet n) = unbuilt facts (tree_of n)
statement_unbuilt facts (st.Display n) = unbuilt facts (tree_of n)
statement_unbuilt facts (st.Branch p n) = unbuilt facts (tree_of n)

abbrev pub line_unbuilt : FactList → Line → List ℕ
line_unbuilt facts l = statement_unbuilt facts l.statement

abbrev pub lines_unbuilt : FactList → List Line → List ℕ
lines_unbuilt facts ls = flat_map (line_unbuilt facts) ls

abbrev pub function_unbuilt : FactList → Function → List ℕ
function_unbuilt facts g = lines_unbuilt facts g.lines

abbrev pub functions_unbuilt : FactList → List Function → List ℕ
functions_unbuilt facts fs = flat_map (function_unbuilt facts) fs

-- the places of all that is not built in a program; headers and declarations have none
abbrev pub program_unbuilt : Program → FactList → List ℕ
program_unbuilt p facts = functions_unbuilt facts p.functions

-- ---- The first

abbrev pub smaller : Option ℕ → Option ℕ → Option ℕ
smaller None b = b
smaller (Some a) None = Some a
smaller (Some a) (Some b) = if nat_le a b then Some a else Some b

-- the smallest of some places, if there is one
abbrev pub least : List ℕ → Option ℕ
least [] = None
least (p ∷ ps) = smaller (Some p) (least ps)

-- the place for which a program is refused, since it is not built
abbrev pub first_place : Program → FactList → Option ℕ
first_place p facts = least (program_unbuilt p facts)
