-- The code of a lowered program's steps of scalars, and of what stands round the lines of a function.
use Rattle.std.specs.Prelude.{ℕ, zero, suc, ◌+◌, max, List, [], ◌∷◌, ◌++◌, length, drop, ℤ, pos, ◌-ℤ◌, int_lt, Bool, true, false, ◌&&◌, ◌||◌, Option, Some, None, nat_eq, if◌then◌else◌}
use Rattle.std.specs.Option.{option_to_list}
use Rattle.aplc_scalar.specs.declared.function.ScalarFn.TheVariants as f
use Rattle.aplc_scalar.specs.declared.kind.FaultKind.TheVariants as fault
use Rattle.aplc_syntax.specs.declared.tree.Primitive.{Primitive}
use Rattle.aplc_syntax.specs.declared.tree.Primitive.TheVariants as pr
use Rattle.aplc_cprof.specs.declared.syntax.Int.{Int}
use Rattle.aplc_cprof.specs.declared.syntax.Int.TheVariants as int
use Rattle.aplc_cprof.specs.declared.syntax.Op.TheVariants as op
use Rattle.aplc_cprof.specs.declared.syntax.Checked.{Checked}
use Rattle.aplc_cprof.specs.declared.syntax.Checked.TheVariants as checked
use Rattle.aplc_cprof.specs.declared.syntax.CExpr.{CExpr}
use Rattle.aplc_cprof.specs.declared.syntax.CExpr.TheVariants as expr
use Rattle.aplc_cprof.specs.declared.syntax.CStmt.{CStmt}
use Rattle.aplc_cprof.specs.declared.syntax.CStmt.TheVariants as stmt
use Rattle.aplc_names.specs.declared.scope.Scope.{Scope}
use Rattle.aplc_names.specs.declared.scope.Scope.TheVariants as scope
use Rattle.aplc_names.specs.States.{is_among}
use Rattle.aplc_names.specs.Eager.{function_of, line_named}
use Rattle.aplc_core.specs.PlainSteps.{Term, Literal, Read, Slot, Mono, Dyad, Index, Effect, Keep, Store, Call, Show, Branch}
use Rattle.aplc_core.specs.CoreRuns.{CoreRoutine, PlainCore}
use Rattle.aplc_gen.specs.Built.{number_of}
use Rattle.aplc_gen.specs.Layouts.{Layout, Site, function_place, frame_of, routine_at, the_routine, the_frame, depth, right_passed, left_passed, result, result_flag, line_place, slot_place, base, local_value, local_flag, value_place, flag_place, is_unsure}

-- ---- Expressions

-- the text has no negative literals
abbrev pub literal_expr : ℤ → CExpr
literal_expr z = if int_lt z (pos 0) then expr.Bin op.Sub (expr.Lit (pos 0)) (expr.Lit (pos 0 -ℤ z)) else expr.Lit z

abbrev pub local : ℕ → CExpr
local k = expr.Var (int.Local k)

-- a fault where the flag is 0
abbrev pub guard : Int → List CStmt
guard x = stmt.If (expr.Bin op.Equal (expr.Var x) (expr.Lit (pos 0))) (stmt.Fault fault.Value ∷ []) None ∷ []

-- ---- Trees

abbrev pub scope_at : Site → ℕ → Scope
scope_at g n = (the_routine g).header.scope n

abbrev pub is_minus : Primitive → Bool
is_minus (pr.Scalar f.Sub) = true
is_minus _ = false

abbrev pub checked_of : Primitive → Checked
checked_of (pr.Scalar f.Sub) = checked.Sub
checked_of (pr.Scalar f.Mul) = checked.Mul
checked_of _ = checked.Add

-- a label is its line's number
abbrev pub name_operand : Site → Scope → ℕ → CExpr
name_operand g (scope.Label z) n = literal_expr z
name_operand g x n = expr.Var (value_place g x n)

-- where the value of a tree stands, with variables from k on not in use
abbrev pub operand : Site → ℕ → Term → CExpr
operand g k (Literal i kind zs) = literal_expr (number_of zs)
operand g k (Read i n) = name_operand g (scope_at g n) n
operand g k (Slot i j) = local (slot_place g j)
operand g k (Mono i p b) = if is_minus p then local k else operand g k b
operand g k (Dyad i p a b) = local k
operand g k (Index i a xs) = expr.Lit (pos 0)

-- the names that have a value behind a tree, where these have one before it
abbrev pub known_after : List ℕ → Term → List ℕ
known_after known (Read i n) = n ∷ known
known_after known (Mono i p b) = known_after known b
known_after known (Dyad i p a b) = known_after (known_after known b) a
known_after known _ = known

-- VALUE where a variable may be unset and is
abbrev pub read_code : Site → List ℕ → Scope → ℕ → List CStmt
read_code g known (scope.Label z) n = []
read_code g known x n = if is_among n known then [] else guard (flag_place g x n)

-- its value is known when the text is written
abbrev pub is_constant : Site → Term → Bool
is_constant g (Literal i kind zs) = true
is_constant g _ = false

abbrev pub is_times : Primitive → Bool
is_times (pr.Scalar f.Mul) = true
is_times _ = false

-- a constant factor stands second
abbrev pub checked_code : ℕ → Primitive → Bool → CExpr → CExpr → CStmt
checked_code k p true x y = stmt.Check (int.Local k) (checked_of p) y x
checked_code k p false x y = stmt.Check (int.Local k) (checked_of p) x y

abbrev pub minus_code : ℕ → Bool → CExpr → List CStmt
minus_code k true e = stmt.Check (int.Local k) checked.Sub (expr.Lit (pos 0)) e ∷ []
minus_code k false e = []

-- the right argument, the left one, the function
abbrev pub tree_code : Site → List ℕ → ℕ → Term → List CStmt
tree_code g known k (Read i n) = read_code g known (scope_at g n) n
tree_code g known k (Mono i p b) = tree_code g known k b ++ minus_code k (is_minus p) (operand g k b)
tree_code g known k (Dyad i p a b) =
    tree_code g known k b
    ++ (tree_code g (known_after known b) (k + 1) a
    ++ checked_code k p (is_times p && is_constant g a) (operand g (k + 1) a) (operand g k b) ∷ [])
tree_code g known k _ = []

-- how many variables a tree takes
abbrev pub width : Term → ℕ
width (Mono i p b) = max 1 (width b)
width (Dyad i p a b) = max (width b) (1 + width a)
width _ = 0

-- ---- The way out

-- the result is on its way, if it is set
abbrev pub result_code : Site → Option ℕ → List CStmt
result_code g None = []
result_code g (Some n) =
    if is_among n (the_frame g).sure then stmt.Set result (expr.Var (local_value g n)) ∷ []
    else stmt.Set result_flag (expr.Var (local_flag g n)) ∷ stmt.If (expr.Var result_flag) (stmt.Set result (expr.Var (local_value g n)) ∷ []) None ∷ []

abbrev pub count_down : Bool → List CStmt
count_down true = stmt.Set depth (expr.Bin op.Sub (expr.Var depth) (expr.Lit (pos 1))) ∷ []
count_down false = []

abbrev pub leave_by : Site → Bool → List CStmt
leave_by g true = stmt.Return ∷ []
leave_by g false = result_code g (the_routine g).header.result ++ (count_down g.layout.counted ++ stmt.Leave ∷ stmt.Return ∷ [])

abbrev pub leave_code : Site → List CStmt
leave_code g = leave_by g g.first

-- ---- Where branches lead

pub data Lead : Type 0 where
  -- out of the function
  out : Lead
  -- to a line that has steps
  to : ℕ → Lead
  -- where the value says
  computed : Lead

-- the number of the first line that has steps, where the first of these lines has number l; 0 if there is none
abbrev pub landing : ℕ → List (List Effect) → ℕ
landing l [] = 0
landing l ([] ∷ xs) = landing (l + 1) xs
landing l ((x ∷ more) ∷ xs) = l

abbrev pub lead_at : ℕ → Lead
lead_at zero = out
lead_at (suc l) = to (suc l)

-- where the line of this number leads: an empty one to the next that is not
abbrev pub lead_of_line : CoreRoutine → ℕ → Lead
lead_of_line f zero = out
lead_of_line f (suc l) = lead_at (landing (suc l) (drop l f.steps))

-- the number that a tree is known to have
abbrev pub known_label : Scope → Option ℤ
known_label (scope.Label z) = Some z
known_label _ = None

abbrev pub known_number : (ℕ → Scope) → Term → Option ℤ
known_number sc (Literal i kind (z ∷ [])) = Some z
known_number sc (Read i n) = known_label (sc n)
known_number sc _ = None

abbrev pub lead_by : CoreRoutine → Option ℤ → Lead
lead_by f None = computed
lead_by f (Some z) = lead_of_line f (line_named z)

-- where a branch with this tree leads
abbrev pub lead : CoreRoutine → Term → Lead
lead f t = lead_by f (known_number f.header.scope t)

abbrev pub may_lead : Lead → ℕ → Bool
may_lead out l = false
may_lead (to k) l = nat_eq k l
may_lead computed l = true

abbrev pub step_leads : CoreRoutine → Effect → ℕ → Bool
step_leads f (Branch t) l = may_lead (lead f t) l
step_leads f _ l = false

abbrev pub steps_lead : CoreRoutine → List Effect → ℕ → Bool
steps_lead f [] l = false
steps_lead f (x ∷ xs) l = step_leads f x l || steps_lead f xs l

abbrev pub lines_lead : CoreRoutine → List (List Effect) → ℕ → Bool
lines_lead f [] l = false
lines_lead f (x ∷ xs) l = steps_lead f x l || lines_lead f xs l

-- the first line that has steps
abbrev pub first_line : CoreRoutine → ℕ
first_line f = landing 1 f.steps

-- the lines that have an arm: the first one, and those to which a branch may lead
abbrev pub is_entry : CoreRoutine → ℕ → Bool
is_entry f l = nat_eq l (first_line f) || lines_lead f f.steps l

abbrev pub is_out : Lead → Bool
is_out out = true
is_out _ = false

abbrev pub step_loops : CoreRoutine → Effect → Bool
step_loops f (Branch t) = if is_out (lead f t) then false else true
step_loops f _ = false

abbrev pub steps_loop : CoreRoutine → List Effect → Bool
steps_loop f [] = false
steps_loop f (x ∷ xs) = step_loops f x || steps_loop f xs

-- a branch leads to a line
abbrev pub lines_loop : CoreRoutine → List (List Effect) → Bool
lines_loop f [] = false
lines_loop f (x ∷ xs) = steps_loop f x || lines_loop f xs

-- ---- Steps

abbrev pub go_to : Site → ℕ → List CStmt
go_to g l = stmt.Set (int.Local (line_place g)) (expr.Lit (pos l)) ∷ []

abbrev pub flag_code : Int → Bool → List CStmt
flag_code x true = stmt.Set x (expr.Lit (pos 1)) ∷ []
flag_code x false = []

abbrev pub not_known : List ℕ → ℕ → Bool
not_known known n = if is_among n known then false else true

-- a name is given the value
abbrev pub store_code : Site → List ℕ → Scope → ℕ → CExpr → List CStmt
store_code g known x n e = stmt.Set (value_place g x n) e ∷ flag_code (flag_place g x n) (is_unsure g x n && not_known known n)

abbrev pub pass_code : Site → Int → Option ℕ → List CStmt
pass_code g x None = []
pass_code g x (Some k) = stmt.Set x (local (slot_place g k)) ∷ []

-- a function whose result has a value at each end
abbrev pub is_giving : List ℕ → Option ℕ → Bool
is_giving sure None = false
is_giving sure (Some n) = is_among n sure

abbrev pub result_guard : Bool → List CStmt
result_guard true = []
result_guard false = guard result_flag

abbrev pub got_code : Site → Bool → Option ℕ → List CStmt
got_code g sure None = []
got_code g sure (Some k) = result_guard sure ++ stmt.Set (int.Local (slot_place g k)) (expr.Var result) ∷ []

-- the call of function j, with its left argument, its right one and where its result goes
abbrev pub call_code : Site → ℕ → Option ℕ → Option ℕ → Option ℕ → List CStmt
call_code g j a b r =
    pass_code g left_passed a
    ++ (pass_code g right_passed b
    ++ (stmt.Call (function_place g.layout j)
    ∷ got_code g (is_giving (frame_of g.layout j).sure (routine_at g.program j).header.result) r))

-- the number and a line feed
abbrev pub display_code : CExpr → List CStmt
display_code e = stmt.PutNum e (expr.Lit (pos 0)) ∷ stmt.PutChar (expr.Lit (pos 10)) ∷ []

abbrev pub step_code : Site → List ℕ → Effect → List CStmt
step_code g known (Keep k t) = tree_code g known (base g) t ++ stmt.Set (int.Local (slot_place g k)) (operand g (base g) t) ∷ []
step_code g known (Store i n t) = tree_code g known (base g) t ++ store_code g (known_after known t) (scope_at g n) n (operand g (base g) t)
step_code g known (Call i n a b r) = call_code g (function_of (scope_at g n)) a b r
step_code g known (Show o t) = tree_code g known (base g) t ++ display_code (operand g (base g) t)
step_code g known _ = []

abbrev pub known_behind : List ℕ → Effect → List ℕ
known_behind known (Keep k t) = known_after known t
known_behind known (Store i n t) = n ∷ known_after known t
known_behind known (Show o t) = known_after known t
known_behind known _ = known

abbrev pub is_branch : Effect → Bool
is_branch (Branch t) = true
is_branch _ = false

-- the number of the line where a computed branch leads
abbrev pub jump_code : Site → List ℕ → Term → Lead → List CStmt
jump_code g known t computed = tree_code g known (base g) t ++ stmt.Set (int.Local (line_place g)) (operand g (base g) t) ∷ []
jump_code g known t _ = []

-- the steps of a line without what follows them
abbrev pub work_code : Site → List ℕ → List Effect → List CStmt
work_code g known [] = []
work_code g known (Branch t ∷ xs) = jump_code g known t (lead (the_routine g) t)
work_code g known (x ∷ xs) = step_code g known x ++ work_code g (known_behind known x) xs

abbrev pub known_through : List ℕ → List Effect → List ℕ
known_through known [] = known
known_through known (x ∷ xs) = if is_branch x then known else known_through (known_behind known x) xs

abbrev pub branches : List Effect → Bool
branches [] = false
branches (x ∷ xs) = is_branch x || branches xs

-- ---- Lines

-- the names that have a value where an arm begins
abbrev pub first_known : Site → List ℕ
first_known g = if g.first then [] else option_to_list (the_routine g).header.left ++ option_to_list (the_routine g).header.right

abbrev pub entry_known : Site → ℕ → List ℕ
entry_known g l = if nat_eq l (first_line (the_routine g)) then first_known g else (the_frame g).sure

abbrev pub is_line_test : Site → ℕ → CExpr
is_line_test g l = expr.Bin op.Equal (local (line_place g)) (expr.Lit (pos l))

abbrev pub lead_code : Site → Lead → List CStmt
lead_code g (to l) = go_to g l
lead_code g _ = leave_code g

-- ---- Functions

abbrev pub clear_code : Site → ℕ → List CStmt
clear_code g zero = []
clear_code g (suc k) = clear_code g k ++ stmt.Set (int.Local (length (the_frame g).names + k)) (expr.Lit (pos 0)) ∷ []

abbrev pub take_code : Site → Int → Option ℕ → List CStmt
take_code g x None = []
take_code g x (Some n) = stmt.Set (local_value g n) (expr.Var x) ∷ flag_code (local_flag g n) (is_among n (the_frame g).unsure)

abbrev pub deep : CExpr
deep = expr.Bin op.GreaterEq (expr.Var depth) (expr.Lit (pos 4096))

-- LIMIT where as many frames stand as may
abbrev pub count_up : Bool → List CStmt
count_up true = stmt.If deep (stmt.Fault fault.Limit ∷ []) None ∷ stmt.Set depth (expr.Bin op.Add (expr.Var depth) (expr.Lit (pos 1))) ∷ []
count_up false = []

abbrev pub count_first : Bool → List CStmt
count_first true = stmt.Set depth (expr.Lit (pos 1)) ∷ []
count_first false = []

abbrev pub enter_by : Site → Bool → List CStmt
enter_by g true = count_first g.layout.counted ++ clear_code g (length (the_frame g).unsure)
enter_by g false =
    count_up g.layout.counted
    ++ (stmt.Enter
    ∷ (clear_code g (length (the_frame g).unsure)
    ++ (take_code g right_passed (the_routine g).header.right ++ take_code g left_passed (the_routine g).header.left)))

abbrev pub enter_code : Site → List CStmt
enter_code g = enter_by g g.first

-- how many variables the trees of a step take
abbrev pub step_width : Effect → ℕ
step_width (Keep k t) = width t
step_width (Store i n t) = width t
step_width (Show o t) = width t
step_width (Branch t) = width t
step_width _ = 0

abbrev pub steps_width : List Effect → ℕ
steps_width [] = 0
steps_width (x ∷ xs) = max (step_width x) (steps_width xs)

abbrev pub lines_width : List (List Effect) → ℕ
lines_width [] = 0
lines_width (x ∷ xs) = max (steps_width x) (lines_width xs)

-- ---- Functions of a program

abbrev pub site_at : Layout → PlainCore → Bool → ℕ → Site
site_at y p first j = record { program = p; layout = y; number = j; first = first }
