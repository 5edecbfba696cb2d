-- Facts of nodes that are just what the rules give: of the facts of the arguments, and of names where they are read.
use Rattle.std.specs.Prelude.{◌≡◌, ℕ}
use Rattle.aplc_syntax.specs.PlainTrees.{Tree, Numbers, Text, Name, TextInput, NumsInput, Mono, Dyad, Index, Assign, AssignAt, Show, Call, Trees, no_more, left_out, and_tree, Argument, absent, given, id_of}
use Rattle.aplc_names.specs.PlainPrograms.{Action, nothing, quiet, perform, display, branch, PlainProgram, Routine}
use Rattle.aplc_infer.specs.declared.cell.Cell.TheVariants as cell
use Rattle.aplc_infer.specs.Seeing.{Family, Declarations, Context, context_of, Progress, fresh, see, see_all, see_argument}
use Rattle.aplc_infer.specs.Families.{IsLine, at_start}

-- the node of the tree has what is known of it here
abbrev pub IsExact : Context → Family → Tree → Progress → Type 0
IsExact c g t w = g (cell.Node (id_of t)) ≡ (see c g t w).fact

-- so has each node in it, each where it is evaluated
abbrev mutual
  pub AreExact : Context → Family → Tree → Progress → Type 0
  AreExact c g (Numbers i p zs) w = IsExact c g (Numbers i p zs) w
  AreExact c g (Text i p cs) w = IsExact c g (Text i p cs) w
  AreExact c g (TextInput i p) w = IsExact c g (TextInput i p) w
  AreExact c g (NumsInput i p) w = IsExact c g (NumsInput i p) w
  AreExact c g (Name i p n) w = IsExact c g (Name i p n) w
  AreExact c g (Mono i p f b) w = IsExact c g (Mono i p f b) w × AreExact c g b w
  AreExact c g (Dyad i p f a b) w = IsExact c g (Dyad i p f a b) w × AreExact c g b w × AreExact c g a (see c g b w).progress
  AreExact c g (Index i p a xs) w = IsExact c g (Index i p a xs) w × EntriesExact c g xs w × AreExact c g a (see_all c g xs w).progress
  AreExact c g (Assign i p n a) w = IsExact c g (Assign i p n a) w × AreExact c g a w
  AreExact c g (AssignAt i p n xs a) w = IsExact c g (AssignAt i p n xs a) w × AreExact c g a w × EntriesExact c g xs (see c g a w).progress
  AreExact c g (Show i p a) w = IsExact c g (Show i p a) w × AreExact c g a w
  AreExact c g (Call i p n a b) w = IsExact c g (Call i p n a b) w × ArgumentExact c g b w × ArgumentExact c g a (see_argument c g b w).progress

  pub EntriesExact : Context → Family → Trees → Progress → Type 0
  EntriesExact c g no_more w = Unit {0}
  EntriesExact c g (left_out xs) w = EntriesExact c g xs w
  EntriesExact c g (and_tree t xs) w = EntriesExact c g xs w × AreExact c g t (see_all c g xs w).progress

  pub ArgumentExact : Context → Family → Argument → Progress → Type 0
  ArgumentExact c g absent w = Unit {0}
  ArgumentExact c g (given t) w = AreExact c g t w

-- in a statement
abbrev pub StatementExact : Context → Family → Action → Progress → Type 0
StatementExact c g nothing w = Unit {0}
StatementExact c g (quiet t) w = AreExact c g t w
StatementExact c g (display t) w = AreExact c g t w
StatementExact c g (branch p t) w = AreExact c g t w
StatementExact c g (perform i p n a b) w = ArgumentExact c g b w × ArgumentExact c g a (see_argument c g b w).progress

-- in each line
abbrev pub LinesExact : Declarations → PlainProgram → Family → Type 0
LinesExact d p g = (j l : ℕ) (f : Routine) (x : Action) → IsLine p j l f x → StatementExact (context_of d p f) g x (fresh (at_start g j f l))
