-- Eager evaluation of trees and statements, from right to left. What calls do is told by a function of the context.
use Rattle.std.specs.Prelude.{ℕ, ◌+◌, List, [], ◌∷◌, ◌++◌, length, map, ℤ, pos, negsuc, chars, Option, Some, None, Result, Ok, Err, true, nat_le, ◌||◌, if◌then◌else◌}
use Rattle.aplc_scalar.specs.declared.kind.Kind.{Kind}
use Rattle.aplc_scalar.specs.declared.kind.Kind.TheVariants.{Num, Char}
use Rattle.aplc_scalar.specs.declared.kind.FaultKind.{FaultKind}
use Rattle.aplc_scalar.specs.declared.kind.FaultKind.TheVariants as fault
use Rattle.aplc_scalar.specs.Input.{InputLine, Line, Unread, input_line, number_line, line_text}
use Rattle.aplc_arr.specs.Arrays.{Array, rank, product, is_numbers}
use Rattle.aplc_arr.specs.Delayed.{Delayed, Prepared, needs, cells_of}
use Rattle.aplc_arr.specs.Indexing.{indexed, changed, joined_shape}
use Rattle.aplc_arr.specs.Display.{characters, shown}
use Rattle.aplc_syntax.specs.PlainTrees.{Tree, Numbers, Text, Name, TextInput, NumsInput, Mono, Dyad, Index, Assign, AssignAt, Show, Call, Trees, no_more, left_out, and_tree, Argument, absent, given, id_of}
use Rattle.aplc_names.specs.declared.scope.Scope.{Scope}
use Rattle.aplc_names.specs.declared.scope.Scope.TheVariants as scope
use Rattle.aplc_names.specs.PlainPrograms.{Action, nothing, quiet, perform, display, branch}
use Rattle.aplc_names.specs.Primitives.{mono_of, dyad_of, mono_applications, dyad_applications, places_listed}
use Rattle.aplc_names.specs.States.{World, Account, State, Marking, Outcome, Gives, Faulted, and_then, on_world, on_account, set_name, is_among, worked, weight, weight_of, grown, shrunk, holding, released, ended}

-- what a call of the function of this number does with the left argument and the right one
abbrev pub Caller : Type 0
Caller = ℕ → Option Array → Option Array → State → Outcome (Option Array)

pub record Context : Type 0 where
  pub origin : ℤ
  -- what names are in the function that runs
  pub scope : ℕ → Scope
  pub marking : Marking
  pub call : Caller

-- what is done with the value of a node, where that takes cells
pub data Use : Type 0 where
  passed : Use
  stored : Use
  displayed : Use

-- ---- A node is given its value: account and work

abbrev pub held_for : Marking → ℕ → List ℕ → ℕ
held_for m i ns = if is_among i m.held then weight ns else 0

-- the widths of the columns of displayed numbers: from rank 2 on as many as the last axis is long
abbrev pub widths_for : Use → Kind → List ℕ → ℕ
widths_for displayed Num (l ∷ n ∷ []) = n
widths_for displayed Num (l ∷ m ∷ n ∷ ns) = widths_for displayed Num (m ∷ n ∷ ns)
widths_for _ k ns = 0

abbrev pub stored_for : Use → List ℕ → ℕ
stored_for stored ns = weight ns
stored_for _ ns = 0

-- The shape of the value of node i is known, and its elements are not. If it is marked the node holds them from now on,
-- and with it the statement holds a list of so many places, and widths of columns; what is stored in a name counts.
abbrev pub shape_known : Marking → ℕ → Use → ℕ → Kind → List ℕ → Account → Account
shape_known m i u places k ns a = grown (stored_for u ns) (holding (held_for m i ns + places + widths_for u k ns) a)

abbrev pub noted : ℕ → Array → World → World
noted i v w = record w { given = w.given ++ record { node = i; value = v } ∷ [] }

-- node i is given a value: its work is 1, the rank, and the elements made and scalar functions applied
abbrev pub give : ℕ → ℕ → Array → State → Outcome Array
give i n v s = Gives v (on_world (λ w. noted i v (worked (1 + rank v + n) w)) s)

-- a value that is there whole
abbrev pub ready : Context → ℕ → Use → ℕ → Array → State → Outcome Array
ready c i u n v s = give i n v (on_account (shape_known c.marking i u 0 v.kind v.shape) s)

abbrev pub element_fault : Marking → ℕ → Account → Account
element_fault m i a = record a { late = if is_among i m.swept || is_among i m.roots then a.late else true }

abbrev pub filled : Context → ℕ → ℕ → Delayed → Result (List ℤ) FaultKind → State → Outcome Array
filled c i n d (Err k) s = Faulted k (on_account (element_fault c.marking i) s)
filled c i n d (Ok zs) s = give i n (record { kind = d.kind; shape = d.shape; cells = zs }) s

-- A value that is computed: the faults of its arguments, then its shape, then its elements. The shape tells how long its
-- list of places is and how often scalar functions are applied.
abbrev pub made : Context → ℕ → Use → (List ℕ → ℕ) → (List ℕ → ℕ) → Prepared → State → Outcome Array
made c i u places applications (Err k) s = Faulted k s
made c i u places applications (Ok d) s =
    filled c i (product d.shape + places d.shape + applications d.shape) d (cells_of d) (on_account (shape_known c.marking i u (places d.shape) d.kind d.shape) s)

abbrev pub none_for : List ℕ → ℕ
none_for ns = 0

-- ---- Leaves

-- one element alone is a scalar, and others are a vector
abbrev pub literal : Kind → List ℤ → Array
literal k (z ∷ []) = record { kind = k; shape = []; cells = z ∷ [] }
literal k zs = record { kind = k; shape = length zs ∷ []; cells = zs }

abbrev pub vector : Kind → List ℤ → Array
vector k zs = record { kind = k; shape = length zs ∷ []; cells = zs }

abbrev pub scalar : ℤ → Array
scalar z = record { kind = Num; shape = []; cells = z ∷ [] }

-- the value of a name, if it has one; a label is its line's number
abbrev pub value_of_name : Scope → ℕ → World → Option Array
value_of_name (scope.Label z) n w = Some (scalar z)
value_of_name scope.Local n w = w.locals n
value_of_name scope.Global n w = w.globals n
value_of_name (scope.Function j) n w = None

-- VALUE where there is none
abbrev pub there : Context → ℕ → Use → Option Array → State → Outcome Array
there c i u None s = Faulted fault.Value s
there c i u (Some v) s = ready c i u (product v.shape) v s

-- a line of the input; its characters count as work, without the end of the line
abbrev pub read_line : Context → ℕ → Use → Kind → InputLine → State → Outcome Array
read_line c i u k (Unread e) s = Faulted e s
read_line c i u k (Line zs rest) s =
    ready c i u (length zs + length (chars (line_text s.world.input))) (vector k zs) (on_world (λ w. record w { input = rest }) s)

-- ---- Effects

abbrev pub with_value : Scope → ℕ → Array → World → World
with_value scope.Local n v w = record w { locals = set_name n (Some v) w.locals }
with_value _ n v w = record w { globals = set_name n (Some v) w.globals }

abbrev pub old_value : Scope → ℕ → World → Option Array
old_value scope.Local n w = w.locals n
old_value _ n w = w.globals n

-- the name has the value, and the count of its old one leaves
abbrev pub assigned : Scope → ℕ → Array → State → State
assigned x n v s = on_account (shrunk (weight_of (old_value x n s.world))) (on_world (with_value x n v) s)

-- the value is displayed; its characters count as work
abbrev pub put : Array → State → State
put v s = on_world (λ w. worked (length (characters v)) (record w { output = w.output ++ shown v })) s

-- the elements of the joined shape are made; the name's value keeps its count
abbrev pub change : Context → ℕ → Use → ℕ → List (Option Array) → Array → Array → Result Array FaultKind → State → Outcome Array
change c i u n xs v old (Err k) s = Faulted k s
change c i u n xs v old (Ok new) s = ready c i u (product (joined_shape old.shape xs)) v (on_world (with_value (c.scope n) n new) s)

-- VALUE where the name has none, then the faults of indexed assignment
abbrev pub change_there : Context → ℕ → Use → ℕ → List (Option Array) → Array → Option Array → State → Outcome Array
change_there c i u n xs v None s = Faulted fault.Value s
change_there c i u n xs v (Some old) s = change c i u n xs v old (changed c.origin old xs v) s

-- ---- Calls

abbrev pub held_for_argument : Marking → Argument → Option Array → ℕ
held_for_argument m (given t) (Some v) = held_for m (id_of t) v.shape
held_for_argument m _ _ = 0

-- the number of a function; no other name stands in a call
abbrev pub function_of : Scope → ℕ
function_of (scope.Function j) = j
function_of _ = 0

-- the holds of the arguments leave, since the call counts them as its parameters
abbrev pub called : Context → ℕ → Argument → Argument → Option Array → Option Array → State → Outcome (Option Array)
called c n a b x y s =
    c.call (function_of (c.scope n)) x y (on_account (released (held_for_argument c.marking a x + held_for_argument c.marking b y)) s)

-- ---- Trees

abbrev mutual
  -- the value of a tree
  pub value : Context → Tree → Use → State → Outcome Array
  value c (Numbers i p xs) u s = ready c i u (length xs) (literal Num xs) s
  value c (Text i p cs) u s = ready c i u (length cs) (literal Char (map pos cs)) s
  value c (Name i p n) u s = there c i u (value_of_name (c.scope n) n s.world) s
  value c (TextInput i p) u s = read_line c i u Char (input_line s.world.input) s
  value c (NumsInput i p) u s = read_line c i u Num (number_line s.world.input) s
  -- the argument, then the function
  value c (Mono i p f b) u s =
      and_then (value c b passed s) (λ y s1. made c i u none_for (mono_applications c.origin f y.shape) (mono_of c.origin f y) s1)
  -- the right argument, the left one, the function
  value c (Dyad i p f a b) u s =
      and_then (value c b passed s) (λ y s1.
      and_then (value c a passed s1) (λ x s2. made c i u (places_listed c.origin f x.shape) (dyad_applications c.origin f x.shape y.shape) (dyad_of c.origin f x y) s2))
  -- the index list, then what is indexed
  value c (Index i p a xs) u s =
      and_then (values c xs s) (λ js s1.
      and_then (value c a passed s1) (λ x s2. made c i u none_for none_for (indexed c.origin x js) s2))
  -- the value, then the name has it
  value c (Assign i p n a) u s =
      and_then (value c a stored s) (λ v s1. ready c i u (product v.shape) v (assigned (c.scope n) n v s1))
  -- the value, the index list, then the name's elements are changed
  value c (AssignAt i p n xs a) u s =
      and_then (value c a passed s) (λ v s1.
      and_then (values c xs s1) (λ js s2. change_there c i u n js v (value_of_name (c.scope n) n s2.world) s2))
  -- the value, which is then displayed
  value c (Show i p a) u s = and_then (value c a displayed s) (λ v s1. ready c i u 0 v (put v s1))
  -- the right argument, the left one, the call; VALUE where its result was never set
  value c (Call i p n a b) u s =
      and_then (argument c b s) (λ y s1.
      and_then (argument c a s1) (λ x s2.
      and_then (called c n a b x y s2) (λ r s3. there c i u r s3)))

  -- the values of an index list, from the last to the first
  pub values : Context → Trees → State → Outcome (List (Option Array))
  values c no_more s = Gives [] s
  values c (left_out xs) s = and_then (values c xs s) (λ vs s1. Gives (None ∷ vs) s1)
  values c (and_tree t xs) s = and_then (values c xs s) (λ vs s1. and_then (value c t passed s1) (λ v s2. Gives (Some v ∷ vs) s2))

  -- the value of an argument, if it is there
  pub argument : Context → Argument → State → Outcome (Option Array)
  argument c absent s = Gives None s
  argument c (given t) s = and_then (value c t passed s) (λ v s1. Gives (Some v) s1)

-- ---- Statements

-- the line with that number; a negative one is none, as 0 is
abbrev pub line_named : ℤ → ℕ
line_named (pos n) = n
line_named (negsuc n) = 0

-- an empty value goes on; else the first element names a line
abbrev pub target : List ℤ → Option ℕ
target [] = None
target (z ∷ zs) = Some (line_named z)

-- DOMAIN for characters, RANK above 1
abbrev pub branch_to : Array → Result (Option ℕ) FaultKind
branch_to v = needs (is_numbers v) fault.Domain (needs (nat_le (rank v) 1) fault.Rank (Ok (target v.cells)))

abbrev pub branched : Result (Option ℕ) FaultKind → State → Outcome (Option ℕ)
branched (Err k) s = Faulted k s
branched (Ok to) s = Gives to (on_account ended s)

-- a statement, which gives the line that it leads to, or none where the next one follows; a call without a result is a
-- node with work 1
abbrev pub statement : Context → Action → State → Outcome (Option ℕ)
statement c nothing s = Gives None s
statement c (quiet t) s = and_then (value c t passed s) (λ v s1. Gives None (on_account ended s1))
statement c (perform i p n a b) s =
    and_then (argument c b s) (λ y s1.
    and_then (argument c a s1) (λ x s2.
    and_then (called c n a b x y s2) (λ r s3. Gives None (on_account ended (on_world (worked 1) s3)))))
statement c (display t) s = and_then (value c t displayed s) (λ v s1. Gives None (on_account ended (put v s1)))
statement c (branch p t) s = and_then (value c t passed s) (λ v s1. branched (branch_to v) s1)
