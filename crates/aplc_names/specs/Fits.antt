-- What the grammar makes sure of in a program, beyond its types.
use Rattle.std.specs.Prelude.{◌≡◌, ◌<◌, ◌≤◌, ℕ, ℤ, pos, negsuc, nat_le, nat_lt, nat_eq, not, length, ◌&&◌, ◌||◌, Bool, true, false, List, [], ◌∷◌, All, Option, Some, None, is_some, if◌then◌else◌}
use Rattle.std.specs.Str.{all_scalars}
use Rattle.aplc_scalar.specs.Scalar.{in_range}
use Rattle.aplc_scalar.specs.declared.function.ScalarFn.{ScalarFn}
use Rattle.aplc_scalar.specs.declared.function.ScalarFn.TheVariants as f
use Rattle.aplc_lex.specs.Signs.{is_digit}
use Rattle.aplc_lex.specs.Heads.{name_bytes, name_chars}
use Rattle.aplc_syntax.specs.declared.tree.Axis.{Axis}
use Rattle.aplc_syntax.specs.declared.tree.Axis.TheVariants as ax
use Rattle.aplc_syntax.specs.declared.tree.Primitive.{Primitive}
use Rattle.aplc_syntax.specs.declared.tree.Primitive.TheVariants as pr
use Rattle.aplc_syntax.specs.declared.tree.Line.{Line}
use Rattle.aplc_syntax.specs.declared.tree.Function.{Function}
use Rattle.aplc_syntax.specs.declared.tree.Program.{Program}
use Rattle.aplc_syntax.specs.declared.tree.Var.{Var}
use Rattle.aplc_syntax.specs.declared.tree.Statement.{Statement}
use Rattle.aplc_syntax.specs.declared.tree.Statement.TheVariants as st
use Rattle.aplc_syntax.specs.declared.word.Arity.{Arity}
use Rattle.aplc_syntax.specs.declared.word.Arity.TheVariants as arity
use Rattle.aplc_syntax.specs.declared.word.Role.{Role}
use Rattle.aplc_syntax.specs.declared.word.Role.TheVariants as role
use Rattle.aplc_syntax.specs.Layout.{arity_of}
use Rattle.aplc_syntax.specs.PlainTrees.{Tree, Numbers, Text, Name, TextInput, NumsInput, Mono, Dyad, Index, Assign, AssignAt, Show, Call, Trees, no_more, left_out, and_tree, Argument, absent, given, tree_of}
use Rattle.aplc_syntax.specs.Programs.{statement_ids}

-- ---- Functions and their arguments

-- a scalar function of one argument or two
abbrev pub is_arith : ScalarFn → Bool
is_arith f.Add = true
is_arith f.Sub = true
is_arith f.Mul = true
is_arith f.Max = true
is_arith f.Min = true
is_arith f.Residue = true
is_arith _ = false

-- a scalar function of two arguments
abbrev pub is_dyadic : ScalarFn → Bool
is_dyadic f.Not = false
is_dyadic _ = true

-- a scalar function of one argument
abbrev pub is_monadic : ScalarFn → Bool
is_monadic f.Not = true
is_monadic g = is_arith g

-- an axis that is not named, or named by a number in range
abbrev pub axis_fits : Axis → Bool
axis_fits (ax.At v) = in_range v
axis_fits _ = true

-- what may stand with one argument
abbrev pub takes_one : Primitive → Bool
takes_one (pr.Scalar g) = is_monadic g
takes_one pr.Shape = true
takes_one pr.Ravel = true
takes_one pr.Iota = true
takes_one (pr.Reverse a) = axis_fits a
takes_one pr.Transpose = true
takes_one (pr.Reduce g a) = is_dyadic g && axis_fits a
takes_one (pr.Scan g a) = is_dyadic g && axis_fits a
takes_one _ = false

-- what may stand with two
abbrev pub takes_two : Primitive → Bool
takes_two (pr.Scalar g) = is_dyadic g
takes_two (pr.Reverse a) = axis_fits a
takes_two (pr.Replicate a) = axis_fits a
takes_two (pr.Expand a) = axis_fits a
takes_two (pr.Reduce g a) = false
takes_two (pr.Scan g a) = false
takes_two (pr.Outer g) = is_dyadic g
takes_two (pr.Inner g h) = is_dyadic g && is_dyadic h
takes_two _ = true

-- how many arguments a call has; a left one does not stand alone
abbrev pub arity_given : Argument → Argument → Option Arity
arity_given absent absent = Some arity.Niladic
arity_given absent (given b) = Some arity.Monadic
arity_given (given a) absent = None
arity_given (given a) (given b) = Some arity.Dyadic

abbrev pub is_variable : Role → Bool
is_variable role.Variable = true
is_variable _ = false

-- a function with a result, of so many arguments
abbrev pub is_function : Option Arity → Role → Bool
is_function (Some arity.Niladic) (role.Function arity.Niladic) = true
is_function (Some arity.Monadic) (role.Function arity.Monadic) = true
is_function (Some arity.Dyadic) (role.Function arity.Dyadic) = true
is_function _ _ = false

-- a function without a result, of so many arguments
abbrev pub is_procedure : Option Arity → Role → Bool
is_procedure (Some arity.Niladic) (role.Procedure arity.Niladic) = true
is_procedure (Some arity.Monadic) (role.Procedure arity.Monadic) = true
is_procedure (Some arity.Dyadic) (role.Procedure arity.Dyadic) = true
is_procedure _ _ = false

-- ---- Trees

abbrev pub all_in_range : List ℤ → Bool
all_in_range [] = true
all_in_range (x ∷ xs) = in_range x && all_in_range xs

abbrev pub has_number : List ℤ → Bool
has_number [] = false
has_number (x ∷ xs) = true

abbrev pub has_place : Trees → Bool
has_place no_more = false
has_place _ = true

-- a tree has a value, where r gives the roles of names: functions have the arguments that they take, a literal a number
-- or more, an index list a place or more; numbers lie in the range, and characters are Unicode scalar values
abbrev mutual
  pub fits : (ℕ → Role) → Tree → Bool
  fits r (Numbers i p xs) = has_number xs && all_in_range xs
  fits r (Text i p cs) = all_scalars cs
  fits r (Name i p n) = is_variable (r n)
  fits r (TextInput i p) = true
  fits r (NumsInput i p) = true
  fits r (Mono i p g a) = takes_one g && fits r a
  fits r (Dyad i p g a b) = takes_two g && (fits r a && fits r b)
  fits r (Index i p a xs) = has_place xs && (fits r a && all_fit r xs)
  fits r (Assign i p n a) = fits r a
  fits r (AssignAt i p n xs a) = has_place xs && (all_fit r xs && fits r a)
  fits r (Show i p a) = fits r a
  fits r (Call i p n a b) = is_function (arity_given a b) (r n) && (argument_fits r a && argument_fits r b)

  pub all_fit : (ℕ → Role) → Trees → Bool
  all_fit r no_more = true
  all_fit r (left_out xs) = all_fit r xs
  all_fit r (and_tree t xs) = fits r t && all_fit r xs

  pub argument_fits : (ℕ → Role) → Argument → Bool
  argument_fits r absent = true
  argument_fits r (given t) = fits r t

-- ---- Statements

-- a call of a function without a result
abbrev pub performs : (ℕ → Role) → Tree → Bool
performs r (Call i p n a b) = is_procedure (arity_given a b) (r n) && (argument_fits r a && argument_fits r b)
performs r _ = false

-- an assignment, an indexed one or `⎕←`
abbrev pub is_quiet : Tree → Bool
is_quiet (Assign i p n a) = true
is_quiet (AssignAt i p n xs a) = true
is_quiet (Show i p a) = true
is_quiet _ = false

-- a call of a function without a result stands at the root alone
abbrev pub statement_fits : (ℕ → Role) → Statement → Bool
statement_fits r st.Empty = true
statement_fits r (st.Quiet n) = performs r (tree_of n) || (is_quiet (tree_of n) && fits r (tree_of n))
statement_fits r (st.Display n) = fits r (tree_of n)
statement_fits r (st.Branch p n) = fits r (tree_of n)

-- ---- Programs

abbrev pub role_of_function : Function → Role
role_of_function g = if is_some g.result then role.Function (arity_of g.left g.right) else role.Procedure (arity_of g.left g.right)

-- what a name is to the grammar, where these are the functions; the first of a name counts
abbrev pub roles : List Function → ℕ → Role
roles [] n = role.Variable
roles (g ∷ gs) n = if nat_eq g.name.name.0 n then role_of_function g else roles gs n

-- each statement fits the functions of its program
abbrev pub HasFittingStatements : Program → Type 0
HasFittingStatements p = All (λ (g : Function). All (λ (l : Line). statement_fits (roles p.functions) l.statement ≡ true) g.lines) p.functions

abbrev pub begins_with_digit : List ℕ → Bool
begins_with_digit [] = false
begins_with_digit (b ∷ bs) = is_digit b

-- bytes are a name of 1 to 63 characters, and nothing more
abbrev pub is_name : List ℕ → Bool
is_name bs = nat_eq (name_bytes bs) (length bs) && (nat_lt 0 (name_bytes bs) && (not (nat_lt 63 (name_chars bs)) && not (begins_with_digit bs)))

-- each name of a program is one
abbrev pub HasNames : Program → Type 0
HasNames p = All (λ (bs : List ℕ). is_name bs ≡ true) p.names

-- the number of each node is below the most bytes that a text may have
abbrev pub HasNumberedNodes : Program → Type 0
HasNumberedNodes p = All (λ (g : Function). All (λ (l : Line). All (λ i. i < 262144) (statement_ids l.statement)) g.lines) p.functions

-- 0 or 1
abbrev pub is_origin : ℤ → Bool
is_origin (pos v) = nat_le v 1
is_origin (negsuc v) = false

-- each declared name has a rank of at most 8
abbrev pub HasSmallRanks : Program → Type 0
HasSmallRanks p = All (λ (x : Var). x.rank ≤ 8) p.vars
