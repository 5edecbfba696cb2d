-- What the evaluation of a line asks of a family of facts and what is refused under it, and where the line leads.
use Rattle.std.specs.Prelude.{ℕ, suc, ◌+◌, Bool, true, false, ◌||◌, List, [], ◌∷◌, ◌++◌, Option, Some, None, ℤ, map, flat_map, slice_get, slice_set, unwrap_or, nat_eq, if◌then◌else◌, Ok, Err}
use Rattle.std.specs.List.{list_any}
use Rattle.std.specs.Option.{option_to_list}
use Rattle.aplc_lex.specs.declared.token.Refusal.{Refusal}
use Rattle.aplc_lex.specs.Firsts.{refusal}
use Rattle.aplc_scalar.specs.declared.kind.Kind.{Kind}
use Rattle.aplc_scalar.specs.declared.kind.Kind.TheVariants as kind
use Rattle.aplc_syntax.specs.declared.tree.Axis.TheVariants as ax
use Rattle.aplc_syntax.specs.declared.tree.Primitive.{Primitive}
use Rattle.aplc_syntax.specs.declared.tree.Primitive.TheVariants as pr
use Rattle.aplc_syntax.specs.declared.tree.Var.{Var}
use Rattle.aplc_syntax.specs.PlainTrees.{Tree, Numbers, Text, Name, TextInput, NumsInput, Mono, Dyad, Index, Assign, AssignAt, Show, Call, Trees, no_more, left_out, and_tree, Argument, absent, given}
use Rattle.aplc_names.specs.declared.outline.Mention.{Mention}
use Rattle.aplc_names.specs.declared.scope.Scope.{Scope}
use Rattle.aplc_names.specs.declared.scope.Scope.TheVariants as scope
use Rattle.aplc_names.specs.Outlines.{tree_mentions}
use Rattle.aplc_names.specs.PlainPrograms.{Action, nothing, quiet, perform, display, branch, Routine, PlainProgram}
use Rattle.aplc_names.specs.Eager.{line_named}
use Rattle.aplc_infer.specs.declared.fact.FactKind.{FactKind}
use Rattle.aplc_infer.specs.declared.fact.FactKind.TheVariants.{Num, Char}
use Rattle.aplc_infer.specs.declared.fact.Inferred.{Inferred}
use Rattle.aplc_infer.specs.declared.fact.Inferred.TheVariants.{Unset, Of}
use Rattle.aplc_infer.specs.declared.rule_break.RuleBreak.{RuleBreak}
use Rattle.aplc_infer.specs.declared.rule_break.RuleBreak.TheVariants as breaks
use Rattle.aplc_infer.specs.declared.cell.Cell.{Cell}
use Rattle.aplc_infer.specs.declared.cell.Cell.TheVariants as cell
use Rattle.aplc_infer.specs.declared.cell.Demand.{Demand}
use Rattle.aplc_infer.specs.declared.cell.Binding.{Binding}
use Rattle.aplc_infer.specs.declared.cell.Binding.TheVariants as binds
use Rattle.aplc_infer.specs.declared.cell.Flow.{Flow}
use Rattle.aplc_infer.specs.declared.cell.Flow.TheVariants as flow
use Rattle.aplc_infer.specs.Facts.{below, mixed, is_mixed_kind, is_unset, is_mixed, settled}
use Rattle.aplc_infer.specs.Rules.{number_of, Ruled, fact_of, any_fact, unknown, literal_of, numbers_fact, text_fact, input_text_fact, input_numbers_fact, label_fact, monadic_fact, dyadic_fact, index_fact, change_fact, left_fact, branch_fact}

-- a fact for each cell
abbrev pub Family : Type 0
Family = Cell → Inferred

-- ---- Local names and their numbers

-- the names in a statement, in the order in which they stand there
abbrev pub action_mentions : Action → List Mention
action_mentions nothing = []
action_mentions (quiet t) = tree_mentions t
action_mentions (perform i p n a b) = tree_mentions (Call i p n a b)
action_mentions (display t) = tree_mentions t
action_mentions (branch p t) = tree_mentions t

abbrev pub mentioned : Mention → ℕ
mentioned m = m.name.0

abbrev pub stands_among : ℕ → List ℕ → Bool
stands_among n ns = list_any (nat_eq n) ns

-- behind the others, if it is not among them
abbrev pub with_new : ℕ → List ℕ → List ℕ
with_new n ns = if stands_among n ns then ns else ns ++ n ∷ []

abbrev pub is_local : Scope → Bool
is_local scope.Local = true
is_local _ = false

-- each once behind those that are there, in the order in which they first stand
abbrev pub with_each : List ℕ → List ℕ → List ℕ
with_each ns [] = ns
with_each ns (m ∷ ms) = with_each (with_new m ns) ms

-- the local ones of these names
abbrev pub local_ones : (ℕ → Scope) → List ℕ → List ℕ
local_ones sc [] = []
local_ones sc (m ∷ ms) = if is_local (sc m) then m ∷ local_ones sc ms else local_ones sc ms

abbrev pub names_in_lines : List Action → List ℕ
names_in_lines xs = map mentioned (flat_map action_mentions xs)

-- the local names of a function that typing knows: its result and its arguments, and those in its statements
abbrev pub local_names : Routine → List ℕ
local_names f =
    with_each (with_each [] (option_to_list f.result ++ option_to_list f.left ++ option_to_list f.right)) (local_ones f.scope (names_in_lines f.lines))

-- the place of the first that is this name, or their number where none is
abbrev pub number_in : ℕ → List ℕ → ℕ
number_in n [] = 0
number_in n (m ∷ ms) = if nat_eq m n then 0 else suc (number_in n ms)

abbrev pub binding_of : Scope → ℕ → Binding
binding_of scope.Local k = binds.Local k
binding_of (scope.Label z) k = binds.Label z
binding_of (scope.Function j) k = binds.Function j
binding_of scope.Global k = binds.Global

-- what a name is in a function
abbrev pub binding_in : Routine → ℕ → Binding
binding_in f n = binding_of (f.scope n) (number_in n (local_names f))

-- ---- Declarations

-- the facts of declared names
abbrev pub Declarations : Type 0
Declarations = ℕ → Option Inferred

abbrev pub declared_kind : Kind → FactKind
declared_kind kind.Num = Num
declared_kind kind.Char = Char

abbrev pub declared_fact : Var → Inferred
declared_fact v = Of (declared_kind v.kind) (Some (unknown v.rank))

abbrev pub declarations : List Var → Declarations
declarations [] n = None
declarations (v ∷ vs) n = if nat_eq v.name.name.0 n then Some (declared_fact v) else declarations vs n

-- ---- What the evaluation of a line goes by

-- the index origin, the facts of declared names, and what names are in the function
pub record Context : Type 0 where
  pub origin : ℤ
  pub declared : Declarations
  pub binding : ℕ → Binding

abbrev pub context_of : Declarations → PlainProgram → Routine → Context
context_of d p f = record { origin = p.origin; declared = d; binding = binding_in f }

-- the facts of the local names by their numbers, and what was asked and refused so far
pub record Progress : Type 0 where
  pub names : List Inferred
  pub demands : List Demand
  pub refused : List Refusal

abbrev pub fresh : List Inferred → Progress
fresh ns = record { names = ns; demands = []; refused = [] }

-- what is known of a node, and what stands after it
pub record Seen : Type 0 where
  pub fact : Inferred
  pub progress : Progress

-- of the entries of an index list
pub record SeenAll : Type 0 where
  pub facts : List (Option Inferred)
  pub progress : Progress

-- of an argument of a call
pub record SeenArgument : Type 0 where
  pub fact : Option Inferred
  pub progress : Progress

-- ---- Notes

abbrev pub demand : Cell → Inferred → Demand
demand c x = record { cell = c; fact = x }

-- the fact at the cell is to be above this one
abbrev pub asked : Cell → Inferred → Progress → Progress
asked c x w = record w { demands = w.demands ++ demand c x ∷ [] }

abbrev pub asked_for : Cell → Option Inferred → Progress → Progress
asked_for c None w = w
asked_for c (Some x) w = asked c x w

abbrev pub denied : ℕ → RuleBreak → Progress → Progress
denied p e w = record w { refused = w.refused ++ refusal (number_of e) p ∷ [] }

-- the refusal at place p that comes of a rule, if one does
abbrev pub denied_by : ℕ → Ruled → Progress → Progress
denied_by p (Ok x) w = w
denied_by p (Err e) w = denied p e w

abbrev pub mixed_break : Inferred → RuleBreak
mixed_break Unset = breaks.Rank
mixed_break (Of a s) = if is_mixed_kind a then breaks.Kind else breaks.Rank

abbrev pub denied_if : Bool → ℕ → RuleBreak → Progress → Progress
denied_if true p e w = denied p e w
denied_if false p e w = w

-- what is read is refused where its kind is mixed, or else its rank
abbrev pub denied_read : ℕ → Inferred → Progress → Progress
denied_read p x w = denied_if (is_mixed x) p (mixed_break x) w

-- local name k is given a fact
abbrev pub with_name : ℕ → Inferred → Progress → Progress
with_name k x w = record w { names = slice_set w.names k x }

-- node i has this fact
abbrev pub settles : ℕ → Inferred → Progress → Seen
settles i x w = record { fact = x; progress = asked (cell.Node i) x w }

abbrev pub ruled : ℕ → ℕ → Ruled → Progress → Seen
ruled i p r w = settles i (fact_of r) (denied_by p r w)

-- ---- Names

-- the local name of a number
abbrev pub at : List Inferred → ℕ → Inferred
at ns k = unwrap_or (slice_get ns k) Unset

abbrev pub name_fact : Context → Family → Binding → ℕ → List Inferred → Inferred
name_fact c g (binds.Local k) n ns = at ns k
name_fact c g (binds.Label z) n ns = label_fact
name_fact c g (binds.Function j) n ns = Unset
name_fact c g binds.Global n ns = unwrap_or (c.declared n) (g (cell.Global n))

-- a declared name keeps its fact, and what it is given must lie below
abbrev pub assign_declared : Bool → ℕ → ℕ → Inferred → Progress → Seen
assign_declared true i p x w = settles i x w
assign_declared false i p x w = ruled i p (Err breaks.Declared) w

-- global name n is given fact new, and the node has fact x
abbrev pub assign_global : Option Inferred → (i p n : ℕ) → Inferred → Inferred → Progress → Seen
assign_global None i p n new x w = settles i x (asked (cell.Global n) new w)
assign_global (Some d) i p n new x w = assign_declared (below new d) i p x w

abbrev pub assign_to : Context → Binding → (i p n : ℕ) → Inferred → Inferred → Progress → Seen
assign_to c (binds.Local k) i p n new x w = settles i x (with_name k new w)
assign_to c _ i p n new x w = assign_global (c.declared n) i p n new x w

-- an indexed assignment of a name of this fact, with entries and a value of these
abbrev pub change_name : Context → (i p n : ℕ) → Inferred → List (Option Inferred) → Inferred → Progress → Seen
change_name c i p n old fs y w =
    let r = change_fact old fs y in
    assign_to c (c.binding n) i p n (left_fact old y) (fact_of r) (denied_by p r (denied_read p old w))

-- ---- Calls

abbrev pub function_of : Binding → ℕ
function_of (binds.Function j) = j
function_of _ = 0

-- whether an argument is unset, whether one is mixed, and the result's fact
abbrev pub call_by : Bool → Bool → Inferred → Inferred
call_by true m x = Unset
call_by false true x = mixed
call_by false false x = x

abbrev pub call_fact : Option Inferred → Option Inferred → Inferred → Inferred
call_fact a b x = call_by (any_fact is_unset (a ∷ b ∷ [])) (any_fact is_mixed (a ∷ b ∷ [])) x

-- the parameters are given the arguments' own facts
abbrev pub passed : ℕ → Option Inferred → Option Inferred → Progress → Progress
passed j a b w = asked_for (cell.Right j) b (asked_for (cell.Left j) a w)

-- ---- Trees

abbrev mutual
  pub see : Context → Family → Tree → Progress → Seen
  see c g (Numbers i p zs) w = settles i (numbers_fact zs) w
  see c g (Text i p cs) w = settles i (text_fact cs) w
  see c g (TextInput i p) w = settles i input_text_fact w
  see c g (NumsInput i p) w = settles i input_numbers_fact w
  see c g (Name i p n) w = let x = name_fact c g (c.binding n) n w.names in settles i x (denied_read p x w)
  see c g (Mono i p f b) w = let y = see c g b w in ruled i p (monadic_fact c.origin f (literal_of b) y.fact) y.progress
  see c g (Dyad i p f a b) w =
      let y = see c g b w in
      let x = see c g a y.progress in
      ruled i p (dyadic_fact c.origin f (literal_of a) x.fact y.fact) x.progress
  see c g (Index i p a xs) w =
      let y = see_all c g xs w in
      let x = see c g a y.progress in
      ruled i p (index_fact x.fact y.facts) x.progress
  see c g (Assign i p n a) w =
      let y = see c g a w in
      assign_to c (c.binding n) i p n (settled y.fact) (settled y.fact) y.progress
  see c g (AssignAt i p n xs a) w =
      let y = see c g a w in
      let x = see_all c g xs y.progress in
      change_name c i p n (name_fact c g (c.binding n) n x.progress.names) x.facts y.fact x.progress
  see c g (Show i p a) w = let y = see c g a w in settles i (settled y.fact) y.progress
  see c g (Call i p n a b) w =
      let y = see_argument c g b w in
      let x = see_argument c g a y.progress in
      let j = function_of (c.binding n) in
      let z = call_fact x.fact y.fact (g (cell.Answer j)) in
      settles i z (denied_read p z (passed j x.fact y.fact x.progress))

  -- the entries of an index list, from the last to the first
  pub see_all : Context → Family → Trees → Progress → SeenAll
  see_all c g no_more w = record { facts = []; progress = w }
  see_all c g (left_out xs) w = let y = see_all c g xs w in record { facts = None ∷ y.facts; progress = y.progress }
  see_all c g (and_tree t xs) w =
      let y = see_all c g xs w in
      let x = see c g t y.progress in
      record { facts = Some x.fact ∷ y.facts; progress = x.progress }

  pub see_argument : Context → Family → Argument → Progress → SeenArgument
  see_argument c g absent w = record { fact = None; progress = w }
  see_argument c g (given t) w = let x = see c g t w in record { fact = Some x.fact; progress = x.progress }

-- ---- Statements

-- a call of a function without a result has none, unless an argument is mixed
abbrev pub see_statement : Context → Family → Action → Progress → Progress
see_statement c g nothing w = w
see_statement c g (quiet t) w = (see c g t w).progress
see_statement c g (display t) w = (see c g t w).progress
see_statement c g (branch p t) w = let y = see c g t w in denied_by p (branch_fact y.fact) y.progress
see_statement c g (perform i p n a b) w =
    let y = see_argument c g b w in
    let x = see_argument c g a y.progress in
    asked (cell.Node i) (call_fact x.fact y.fact Unset) (passed (function_of (c.binding n)) x.fact y.fact x.progress)

-- ---- Where a line leads

abbrev pub to_label : Binding → Flow
to_label (binds.Label z) = flow.To (line_named z)
to_label _ = flow.Any

abbrev pub either_label : Binding → Flow
either_label (binds.Label z) = flow.Either (line_named z)
either_label _ = flow.Any

-- `C/L` with no axis named, or `C⍴L`
abbrev pub is_choice : Primitive → Bool
is_choice (pr.Replicate ax.Last) = true
is_choice pr.Shape = true
is_choice _ = false

abbrev pub chosen : (ℕ → Binding) → Tree → Flow
chosen b (Name i p n) = either_label (b n)
chosen b _ = flow.Any

abbrev pub number_flow : List ℤ → Flow
number_flow (z ∷ []) = flow.To (line_named z)
number_flow _ = flow.Any

abbrev pub branch_flow : (ℕ → Binding) → Tree → Flow
branch_flow b (Name i p n) = to_label (b n)
branch_flow b (Dyad i p f x y) = if is_choice f then chosen b y else flow.Any
branch_flow b (Numbers i p zs) = number_flow zs
branch_flow b _ = flow.Any

abbrev pub flow_of : (ℕ → Binding) → Action → Flow
flow_of b (branch p t) = branch_flow b t
flow_of b _ = flow.Next

-- line l may lead to number m
abbrev pub leads : Flow → ℕ → ℕ → Bool
leads flow.Next l m = nat_eq m (l + 1)
leads (flow.To t) l m = nat_eq m t
leads (flow.Either t) l m = nat_eq m t || nat_eq m (l + 1)
leads flow.Any l m = true
