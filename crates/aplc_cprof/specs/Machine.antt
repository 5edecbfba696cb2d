-- The C machine: its states, and what one step does to a state.
use Rattle.std.specs.Prelude.{ℕ, zero, suc, ◌+◌, ◌-◌, ◌^◌, List, [], ◌∷◌, ◌++◌, length, decimal, encode_utf8, ℤ, pos, negsuc, ◌+ℤ◌, ◌-ℤ◌, ◌*ℤ◌, Option, Some, None, map, max, Bool, true, nat_lt, nat_le, nat_eq, ◌&&◌, sum_by, if◌then◌else◌, slice_get, slice_set, replicate, option_and_then}
use Rattle.std.specs.Int.RustNames.{int_div, int_rem, int_lt, int_le}
use Rattle.aplc_scalar.specs.declared.kind.FaultKind.{FaultKind}
use Rattle.aplc_scalar.specs.declared.kind.FaultKind.TheVariants as fault
use Rattle.aplc_scalar.specs.Number.{number_text}
use Rattle.aplc_scalar.specs.Scalar.{in_range, int_eq, truth, negated}
use Rattle.aplc_scalar.specs.Input.{InputLine, Line, Unread, input_line, number_line}
use Rattle.aplc_cprof.specs.declared.syntax.Int.{Int}
use Rattle.aplc_cprof.specs.declared.syntax.Int.TheVariants as int
use Rattle.aplc_cprof.specs.declared.syntax.Buf.{Buf}
use Rattle.aplc_cprof.specs.declared.syntax.Buf.TheVariants as buf
use Rattle.aplc_cprof.specs.declared.syntax.Op.{Op}
use Rattle.aplc_cprof.specs.declared.syntax.Op.TheVariants as op
use Rattle.aplc_cprof.specs.declared.syntax.Checked.{Checked}
use Rattle.aplc_cprof.specs.declared.syntax.Checked.TheVariants as checked
use Rattle.aplc_cprof.specs.declared.syntax.CExpr.{CExpr, fold-CExpr}
use Rattle.aplc_cprof.specs.declared.syntax.CExpr.TheOpen.{CExpr-F}
use Rattle.aplc_cprof.specs.declared.syntax.CStmt.{CStmt, fold-CStmt, out-CStmt}
use Rattle.aplc_cprof.specs.declared.syntax.CStmt.TheOpen.{CStmt-F, Arm-F}
use Rattle.aplc_cprof.specs.declared.syntax.Arm.{Arm}
use Rattle.aplc_cprof.specs.declared.syntax.CFunction.{CFunction}
use Rattle.aplc_cprof.specs.declared.syntax.CProgram.{CProgram}
use Rattle.aplc_cprof.specs.declared.syntax.StuckCause.{StuckCause}
use Rattle.aplc_cprof.specs.declared.syntax.StuckCause.TheVariants.{Outside, Freed, Unset, Range}

-- ---- Statements still to do, each with its number: the numbers count the statements of the text from 1.

-- how many statements a statement has, itself included
abbrev pub total : List ℕ → ℕ
total [] = 0
total (n ∷ ns) = n + total ns

abbrev pub total_if : Option (List ℕ) → ℕ
total_if None = 0
total_if (Some ns) = total ns

abbrev pub size_step : CStmt-F ℕ ℕ → ℕ
size_step (CStmt-F.If e a o) = 1 + total a + total_if o
size_step (CStmt-F.While e a) = 1 + total a
size_step (CStmt-F.Switch x arms d) = 1 + total arms + total d
size_step _ = 1

abbrev pub size_arm : Arm-F ℕ ℕ → ℕ
size_arm a = total a.body

unfoldable pub size : CStmt → ℕ
size = fold-CStmt ℕ ℕ size_step size_arm

abbrev pub Todo : Type 0
Todo = List (ℕ × CStmt)

-- these statements, the first of which has number n
abbrev pub numbered : ℕ → List CStmt → Todo
numbered n [] = []
numbered n (s ∷ ss) = (n, s) ∷ numbered (n + size s) ss

abbrev pub numbered_if : ℕ → Option (List CStmt) → Todo
numbered_if n None = []
numbered_if n (Some ss) = numbered n ss

-- the arm of a number, else the default; n is the number of the first arm's first statement
abbrev pub chosen : ℤ → ℕ → List Arm → List CStmt → Todo
chosen v n [] d = numbered n d
chosen v n (a ∷ arms) d = if int_eq v a.value then numbered n a.body else chosen v (n + total (map size a.body)) arms d

-- what the machine carries out: the tables, and the numbered bodies of the functions
pub record Code : Type 0 where
  pub tables : List (List ℤ)
  pub bodies : List Todo

abbrev pub bodies_from : ℕ → List CFunction → List Todo
bodies_from n [] = []
bodies_from n (f ∷ fs) = numbered n f.body ∷ bodies_from (n + total (map size f.body)) fs

abbrev pub code_of : CProgram → Code
code_of p = record { tables = p.tables; bodies = bodies_from 1 p.functions }

-- ---- Places

-- where a run stands: a function of the source by its name, and its line
pub record Place : Type 0 where
  pub name : List ℕ
  pub line : ℤ

-- the innermost place, and those behind it from the inside out
pub record Places : Type 0 where
  pub here : Place
  pub behind : List Place

-- a place of no function yet
abbrev pub empty_place : Place
empty_place = record { name = []; line = pos 0 }

-- all of them
abbrev pub all_places : Places → List Place
all_places p = p.here ∷ p.behind

-- there are this many places at most
abbrev pub most_places : ℕ
most_places = 4096

-- ---- States

-- a caller, as it stands until the call is over
pub record Caller : Type 0 where
  pub ints : ℕ → Option ℤ
  pub bufs : ℕ → Option ℕ
  pub todo : Todo

-- Buffers go by number, in the order in which they were made; a freed one has no cells.
-- An unset whole variable and a null buffer variable are None. The marks are the places set so far, in order.
pub record State : Type 0 where
  pub ints : ℕ → Option ℤ
  pub bufs : ℕ → Option ℕ
  pub global_ints : ℕ → ℤ
  pub global_bufs : ℕ → Option ℕ
  pub heap : List (Option (List ℤ))
  pub todo : Todo
  pub callers : List Caller
  pub places : Places
  pub marks : List Place
  pub read_count : ℤ
  pub input : List ℕ
  pub output : List ℕ
  pub steps : ℕ
  pub peak : ℕ

abbrev pub cells_of : Option (List ℤ) → ℕ
cells_of None = 0
cells_of (Some cells) = length cells

-- cells held: those of the buffers that are not freed
abbrev pub held : State → ℕ
held s = sum_by cells_of s.heap

abbrev pub no_ints : ℕ → Option ℤ
no_ints k = None

abbrev pub no_bufs : ℕ → Option ℕ
no_bufs k = None

abbrev pub first_body : List Todo → Todo
first_body [] = []
first_body (t ∷ ts) = t

-- a run begins with one frame, that of the first function; each global is 0, each buffer variable null, and the one
-- place is empty
abbrev pub initial : Code → List ℕ → State
initial c input = record {
  ints = no_ints;
  bufs = no_bufs;
  global_ints = λ k. pos 0;
  global_bufs = no_bufs;
  heap = [];
  todo = first_body c.bodies;
  callers = [];
  places = record { here = empty_place; behind = [] };
  marks = [];
  read_count = pos 0;
  input = input;
  output = [];
  steps = 0;
  peak = 0;
}

-- ---- Expressions, evaluated from left to right

-- a value, or why there is none
pub data Value : Type 0 where
  Is : ℤ → Value
  Bad : StuckCause → Value

-- what a step, or several, come to
pub data Next : Type 0 where
  Going : State → Next
  Ended : State → Next
  Faulted : FaultKind → State → Next
  Stuck : StuckCause → ℕ → State → Next

abbrev pub or_unset : Option ℤ → Value
or_unset None = Bad Unset
or_unset (Some v) = Is v

abbrev pub or_outside : Option ℤ → Value
or_outside None = Bad Outside
or_outside (Some v) = Is v

abbrev pub read_int : Int → State → Value
read_int (int.Local k) s = or_unset (s.ints k)
read_int (int.Global k) s = Is (s.global_ints k)

-- which buffer a variable names
abbrev pub named_buf : Buf → State → Option ℕ
named_buf (buf.Local k) s = s.bufs k
named_buf (buf.Global k) s = s.global_bufs k

abbrev pub item_at : List ℤ → ℤ → Value
item_at xs (pos k) = or_outside (slice_get xs k)
item_at xs (negsuc k) = Bad Outside

abbrev pub live_cell : Option (Option (List ℤ)) → ℤ → Value
live_cell None k = Bad Outside
live_cell (Some None) k = Bad Freed
live_cell (Some (Some cells)) k = item_at cells k

abbrev pub table_cell : Option (List ℤ) → ℤ → Value
table_cell None k = Bad Outside
table_cell (Some xs) k = item_at xs k

-- a number of the machine's range
unfoldable pub ranged : ℤ → Value
ranged v = if in_range v then Is v else Bad Range

abbrev pub is_zero : ℤ → Bool
is_zero v = int_eq v (pos 0)

unfoldable pub divided : (ℤ → ℤ → ℤ) → ℤ → ℤ → Value
divided f a b = if is_zero b then Bad Range else ranged (f a b)

abbrev pub both : (ℤ → ℤ → Value) → Value → Value → Value
both f (Bad c) v = Bad c
both f (Is a) (Bad c) = Bad c
both f (Is a) (Is b) = f a b

abbrev pub truth_of : Value → Value
truth_of (Bad c) = Bad c
truth_of (Is v) = Is (truth (negated (is_zero v)))

-- the right side counts only where the left one does not decide
abbrev pub lazily : (ℤ → Bool) → ℤ → Value → Value → Value
lazily decides short (Bad c) v = Bad c
lazily decides short (Is a) v = if decides a then Is short else truth_of v

abbrev pub apply : Op → Value → Value → Value
apply op.Add = both (λ a b. ranged (a +ℤ b))
apply op.Sub = both (λ a b. ranged (a -ℤ b))
apply op.Mul = both (λ a b. ranged (a *ℤ b))
apply op.Div = both (divided int_div)
apply op.Rem = both (divided int_rem)
apply op.Less = both (λ a b. Is (truth (int_lt a b)))
apply op.LessEq = both (λ a b. Is (truth (int_le a b)))
apply op.Equal = both (λ a b. Is (truth (int_eq a b)))
apply op.NotEqual = both (λ a b. Is (truth (negated (int_eq a b))))
apply op.GreaterEq = both (λ a b. Is (truth (int_le b a)))
apply op.Greater = both (λ a b. Is (truth (int_lt b a)))
apply op.And = lazily is_zero (pos 0)
apply op.Or = lazily (λ v. negated (is_zero v)) (pos 1)

abbrev pub at_place : Value → (ℤ → Value) → Value
at_place (Bad c) look = Bad c
at_place (Is k) look = look k

-- one level of an expression, with the meaning of each part in its place
abbrev pub value_step : CExpr-F (List (List ℤ) → State → Value) → List (List ℤ) → State → Value
value_step (CExpr-F.Lit n) tables s = Is n
value_step (CExpr-F.Var x) tables s = read_int x s
value_step (CExpr-F.Cell p e) tables s = at_place (e tables s) (live_cell (option_and_then (slice_get s.heap) (named_buf p s)))
value_step (CExpr-F.Table k e) tables s = at_place (e tables s) (table_cell (slice_get tables k))
value_step (CExpr-F.Bin o a b) tables s = apply o (a tables s) (b tables s)

unfoldable pub value : CExpr → List (List ℤ) → State → Value
value = fold-CExpr (List (List ℤ) → State → Value) value_step

-- ---- Statements

-- a function with a new value at one place
abbrev pub put : {A : Type 0} → (ℕ → A) → ℕ → A → ℕ → A
put f n v k = if nat_eq k n then v else f k

abbrev pub set_int : Int → ℤ → State → State
set_int (int.Local n) v s = record s { ints = put s.ints n (Some v) }
set_int (int.Global n) v s = record s { global_ints = put s.global_ints n v }

abbrev pub set_buf : Buf → Option ℕ → State → State
set_buf (buf.Local n) b s = record s { bufs = put s.bufs n b }
set_buf (buf.Global n) b s = record s { global_bufs = put s.global_bufs n b }

abbrev pub onward : Todo → State → Next
onward rest s = Going (record s { todo = rest })

abbrev pub with_value : Value → ℕ → State → (ℤ → Next) → Next
with_value (Bad c) n s go = Stuck c n s
with_value (Is v) n s go = go v

abbrev pub limit_or : Value → State → (ℤ → Next) → Next
limit_or (Bad c) s go = Faulted fault.Limit s
limit_or (Is v) s go = go v

abbrev pub exact : Checked → ℤ → ℤ → ℤ
exact checked.Add a b = a +ℤ b
exact checked.Sub a b = a -ℤ b
exact checked.Mul a b = a *ℤ b

-- the number of characters of a number's text, with its sign
abbrev pub text_width : ℤ → ℕ
text_width (pos n) = length (decimal n)
text_width (negsuc n) = 1 + length (decimal (n + 1))

-- the text, right-justified by blanks
abbrev pub padded_text : ℤ → ℕ → List ℕ
padded_text v w = replicate (w - text_width v) 32 ++ number_text v

abbrev pub printed : List ℕ → Todo → State → Next
printed text rest s = onward rest (record s { output = s.output ++ text })

abbrev pub put_number : ℤ → ℤ → ℕ → Todo → State → Next
put_number v (pos w) n rest s = if nat_le w 20 then printed (padded_text v w) rest s else Stuck Range n s
put_number v (negsuc w) n rest s = Stuck Range n s

-- a Unicode scalar value
abbrev pub is_scalar : ℕ → Bool
is_scalar c = if nat_lt c 55296 then true else (nat_lt 57343 c && nat_lt c 1114112)

abbrev pub put_character : ℤ → ℕ → Todo → State → Next
put_character (pos c) n rest s = if is_scalar c then printed (encode_utf8 c) rest s else Stuck Range n s
put_character (negsuc c) n rest s = Stuck Range n s

abbrev pub new_cells : Buf → ℤ → ℕ → Todo → State → Next
new_cells p (pos k) n rest s =
    if nat_lt k (2 ^ 31) then onward rest (set_buf p (Some (length s.heap)) (record s { heap = s.heap ++ Some (replicate k (pos 0)) ∷ [] }))
    else Stuck Range n s
new_cells p (negsuc k) n rest s = Stuck Range n s

abbrev pub free_cells : ℕ → Option (Option (List ℤ)) → ℕ → Todo → State → Next
free_cells b (Some (Some cells)) n rest s = onward rest (record s { heap = slice_set s.heap b None })
free_cells b (Some None) n rest s = Stuck Freed n s
free_cells b None n rest s = Stuck Outside n s

-- freeing null does nothing
abbrev pub free_named : Option ℕ → ℕ → Todo → State → Next
free_named None n rest s = onward rest s
free_named (Some b) n rest s = free_cells b (slice_get s.heap b) n rest s

abbrev pub write_place : ℕ → List ℤ → ℤ → ℤ → ℕ → Todo → State → Next
write_place b cells (pos k) v n rest s =
    if nat_lt k (length cells) then onward rest (record s { heap = slice_set s.heap b (Some (slice_set cells k v)) })
    else Stuck Outside n s
write_place b cells (negsuc k) v n rest s = Stuck Outside n s

abbrev pub write_live : ℕ → Option (Option (List ℤ)) → ℤ → ℤ → ℕ → Todo → State → Next
write_live b (Some (Some cells)) k v n rest s = write_place b cells k v n rest s
write_live b (Some None) k v n rest s = Stuck Freed n s
write_live b None k v n rest s = Stuck Outside n s

abbrev pub write_cell : Option ℕ → ℤ → ℤ → ℕ → Todo → State → Next
write_cell None k v n rest s = Stuck Outside n s
write_cell (Some b) k v n rest s = write_live b (slice_get s.heap b) k v n rest s

abbrev pub buf_or_null : Option Buf → State → Option ℕ
buf_or_null None s = None
buf_or_null (Some q) s = named_buf q s

-- the state where p names a new buffer with the cells of a line, as many as there are; the read count says how many, and the input goes on behind the line
abbrev pub with_line : Buf → List ℤ → List ℕ → State → State
with_line p cells left s = set_buf p (Some (length s.heap)) (record s { heap = s.heap ++ Some cells ∷ []; read_count = pos (length cells); input = left })

-- a line that is read goes into such a buffer, one that can't be is a fault
abbrev pub read_cells : Buf → InputLine → Todo → State → Next
read_cells p (Line cells left) rest s = onward rest (with_line p cells left s)
read_cells p (Unread k) rest s = Faulted k s

-- the innermost place is set, and leaves a mark
abbrev pub placed : Place → State → State
placed here s = record s { places = record { here = here; behind = s.places.behind }; marks = s.marks ++ here ∷ [] }

-- an empty place before the others
abbrev pub deeper : Places → Places
deeper p = record { here = empty_place; behind = p.here ∷ p.behind }

abbrev pub enter_place : ℕ → Todo → State → Next
enter_place n rest s = if nat_lt (length (all_places s.places)) most_places then onward rest (record s { places = deeper s.places }) else Stuck Outside n s

-- the innermost place goes; the last one stays
abbrev pub leave_place : List Place → ℕ → Todo → State → Next
leave_place [] n rest s = Stuck Outside n s
leave_place (p ∷ ps) n rest s = onward rest (record s { places = record { here = p; behind = ps } })

-- a call: a new frame before the caller's
abbrev pub enter : Option Todo → ℕ → Todo → State → Next
enter None n rest s = Stuck Outside n s
enter (Some body) n rest s = Going (record s {
  ints = no_ints;
  bufs = no_bufs;
  todo = body;
  callers = record { ints = s.ints; bufs = s.bufs; todo = rest } ∷ s.callers;
})

-- a frame is left; the run ends with the first one
abbrev pub leave : List Caller → State → Next
leave [] s = Ended s
leave (c ∷ cs) s = Going (record s { ints = c.ints; bufs = c.bufs; todo = c.todo; callers = cs })

-- what a statement of number n does, before the statements `rest`; where it faults or is stuck it stays due
abbrev pub act : Code → CStmt-F CStmt Arm → ℕ → CStmt → Todo → State → Next
act c (CStmt-F.Set x e) n st rest s = with_value (value e c.tables s) n s (λ v. onward rest (set_int x v s))
act c (CStmt-F.SetCell p e f) n st rest s =
    with_value (value e c.tables s) n s (λ k. with_value (value f c.tables s) n s (λ v. write_cell (named_buf p s) k v n rest s))
act c (CStmt-F.SetBuf p q) n st rest s = onward rest (set_buf p (buf_or_null q s) s)
act c (CStmt-F.Cells p e) n st rest s = with_value (value e c.tables s) n s (λ k. new_cells p k n rest s)
act c (CStmt-F.Free p) n st rest s = free_named (named_buf p s) n rest s
act c (CStmt-F.Check x o e f) n st rest s =
    with_value (value e c.tables s) n s (λ a. with_value (value f c.tables s) n s (λ b.
    limit_or (ranged (exact o a b)) s (λ v. onward rest (set_int x v s))))
act c (CStmt-F.Width x e) n st rest s = with_value (value e c.tables s) n s (λ v. onward rest (set_int x (pos (text_width v)) s))
act c (CStmt-F.PutNum e f) n st rest s =
    with_value (value e c.tables s) n s (λ v. with_value (value f c.tables s) n s (λ w. put_number v w n rest s))
act c (CStmt-F.PutChar e) n st rest s = with_value (value e c.tables s) n s (λ v. put_character v n rest s)
act c (CStmt-F.ReadText p) n st rest s = read_cells p (input_line s.input) rest s
act c (CStmt-F.ReadNums p) n st rest s = read_cells p (number_line s.input) rest s
act c (CStmt-F.ReadCount x) n st rest s = onward rest (set_int x s.read_count s)
act c (CStmt-F.At name l) n st rest s = onward rest (placed (record { name = name; line = l }) s)
act c CStmt-F.Enter n st rest s = enter_place n rest s
act c CStmt-F.Leave n st rest s = leave_place s.places.behind n rest s
act c (CStmt-F.Fault k) n st rest s = Faulted k s
act c (CStmt-F.Call k) n st rest s = enter (slice_get c.bodies k) n rest s
act c CStmt-F.Return n st rest s = leave s.callers s
act c (CStmt-F.If e a o) n st rest s =
    with_value (value e c.tables s) n s (λ v.
    onward (if is_zero v then numbered_if (n + 1 + total (map size a)) o ++ rest else numbered (n + 1) a ++ rest) s)
act c (CStmt-F.While e a) n st rest s =
    with_value (value e c.tables s) n s (λ v. onward (if is_zero v then rest else numbered (n + 1) a ++ ((n, st) ∷ rest)) s)
act c (CStmt-F.Switch x arms d) n st rest s =
    with_value (read_int x s) n s (λ v. onward (chosen v (n + 1) arms d ++ rest) s)

-- at the end of a body the function is left
abbrev pub due : Code → Todo → State → Next
due c [] s = leave s.callers s
due c (item ∷ rest) s = act c (out-CStmt item.1) item.0 item.1 rest s

-- the step is counted, and the cells held are compared with the most so far
abbrev pub settled : State → State
settled s = record s { steps = s.steps + 1; peak = max s.peak (held s) }

abbrev pub settled_next : Next → Next
settled_next (Going s) = Going (settled s)
settled_next (Ended s) = Ended (settled s)
settled_next (Faulted k s) = Faulted k (settled s)
settled_next (Stuck c n s) = Stuck c n (settled s)

unfoldable pub step : Code → State → Next
step c s = settled_next (due c s.todo s)

abbrev pub and_then : Next → (State → Next) → Next
and_then (Going s) go = go s
and_then (Ended s) go = Ended s
and_then (Faulted k s) go = Faulted k s
and_then (Stuck c n s) go = Stuck c n s

abbrev pub state_of : Next → State
state_of (Going s) = s
state_of (Ended s) = s
state_of (Faulted k s) = s
state_of (Stuck c n s) = s

-- how far a run has come after m steps, or where it has stopped before
abbrev pub run : Code → ℕ → State → Next
run c zero s = Going s
run c (suc m) s = and_then (step c s) (run c m)
