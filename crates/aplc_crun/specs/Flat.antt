-- The machine over places: what the laid out code does, on lists.
use Rattle.std.specs.Prelude.{◌≡◌, ℕ, zero, suc, ◌+◌, ◌-◌, ◌^◌, List, [], ◌∷◌, ◌++◌, length, ℤ, pos, negsuc, Option, Some, None, Result, Ok, Err, slice_set, slice_get, max, min, reverse, if◌then◌else◌, replicate, nat_lt, nat_le, encode_utf8}
use Rattle.aplc_scalar.specs.declared.kind.FaultKind.{FaultKind}
use Rattle.aplc_scalar.specs.declared.kind.FaultKind.TheVariants as fault
use Rattle.aplc_scalar.specs.Scalar.{int_eq}
use Rattle.aplc_cprof.specs.declared.syntax.Int.{Int}
use Rattle.aplc_cprof.specs.declared.syntax.Int.TheVariants as int
use Rattle.aplc_cprof.specs.declared.syntax.Buf.{Buf}
use Rattle.aplc_cprof.specs.declared.syntax.Buf.TheVariants as buf
use Rattle.aplc_cprof.specs.declared.syntax.StuckCause.{StuckCause}
use Rattle.aplc_cprof.specs.declared.syntax.StuckCause.TheVariants.{Outside, Freed, Range}
use Rattle.aplc_cprof.specs.Machine.{Value, Is, Bad, State, empty_place, most_places, value, read_int, named_buf, is_zero, ranged, exact, text_width, padded_text, is_scalar}
use Rattle.aplc_crun.specs.Seen.{joined, or_zero, written_in}
use Rattle.aplc_crun.specs.Terms.{expr_of}
use Rattle.aplc_crun.specs.declared.code.Node.{Node}
use Rattle.aplc_crun.specs.declared.code.Node.TheVariants as node
use Rattle.aplc_crun.specs.declared.choices.Choice.{Choice}
use Rattle.aplc_crun.specs.declared.code.Entry.{Entry}
use Rattle.aplc_crun.specs.declared.code.Laid.{Laid}
use Rattle.aplc_crun.specs.declared.live.Live.{Live}
use Rattle.aplc_crun.specs.declared.live.Frame.{Frame}
use Rattle.aplc_crun.specs.declared.live.Verdict.{Verdict}
use Rattle.aplc_crun.specs.declared.live.Verdict.TheVariants as verdict

-- a caller
pub record Kept : Type 0 where
  pub at : ℕ
  pub ints : List (Option ℤ)
  pub bufs : List (Option ℕ)

pub record Flat : Type 0 where
  pub at : ℕ
  pub ints : List (Option ℤ)
  pub bufs : List (Option ℕ)
  pub global_ints : List ℤ
  pub global_bufs : List (Option ℕ)
  pub heap : List (Option (List ℤ))
  pub callers : List Kept
  pub here : Option ℕ
  pub behind : List (Option ℕ)
  pub marks : ℕ
  pub read_count : ℤ
  pub output : List ℕ
  pub held : ℕ
  pub peak : ℕ
  pub steps : ℕ

-- what a step comes to; a held one is not taken
pub data Flow : Type 0 where
  Going : Flat → Flow
  Ended : Flat → Flow
  Faulted : FaultKind → Flat → Flow
  Stuck : StuckCause → Flat → Flow
  Held : Flat → Flow

pub record Layout : Type 0 where
  pub nodes : List Node
  pub entries : List Entry
  pub tables : List (List ℤ)

abbrev pub layout_of : Laid → Layout
layout_of l = record { nodes = l.nodes.items; entries = l.entries.items; tables = l.tables.items }

-- the last caller of the list first
abbrev pub kept_onto : List Frame → List Kept → List Kept
kept_onto [] rest = rest
kept_onto (f ∷ fs) rest = kept_onto fs (record { at = f.at; ints = f.ints.items; bufs = f.bufs.items } ∷ rest)

abbrev pub kept_of : List Frame → List Kept
kept_of fs = kept_onto fs []

abbrev pub flat_of : Live → Flat
flat_of l = record {
  at = l.at;
  ints = l.ints.items;
  bufs = l.bufs.items;
  global_ints = l.global_ints.items;
  global_bufs = l.global_bufs.items;
  heap = l.heap.buffers.items;
  callers = kept_of l.callers.items;
  here = l.places.here;
  behind = reverse l.places.behind.items;
  marks = l.marks;
  read_count = l.read_count;
  output = l.out.bytes.items;
  held = l.heap.held;
  peak = l.peak;
  steps = l.steps;
}

-- what expressions read, as a state of the definition that has nothing else
abbrev pub env : Flat → State
env f = record {
  ints = λ n. joined (slice_get f.ints n);
  bufs = λ n. joined (slice_get f.bufs n);
  global_ints = λ n. or_zero (slice_get f.global_ints n);
  global_bufs = λ n. joined (slice_get f.global_bufs n);
  heap = f.heap;
  todo = [];
  callers = [];
  places = record { here = empty_place; behind = [] };
  marks = [];
  read_count = pos 0;
  input = [];
  output = [];
  steps = 0;
  peak = 0;
}

abbrev pub seen : Live → State
seen l = env (flat_of l)

-- ---- Statements over places

abbrev pub with_number : Value → Flat → (ℤ → Flow) → Flow
with_number (Bad c) f go = Stuck c f
with_number (Is v) f go = go v

abbrev pub or_limit : Value → Flat → (ℤ → Flow) → Flow
or_limit (Bad c) f go = Faulted fault.Limit f
or_limit (Is v) f go = go v

abbrev pub go_to : ℕ → Flat → Flow
go_to next f = Going (record f { at = next })

abbrev pub with_int : Int → ℤ → Flat → Flat
with_int (int.Local n) v f = record f { ints = slice_set f.ints n (Some v) }
with_int (int.Global n) v f = record f { global_ints = slice_set f.global_ints n v }

abbrev pub with_buf : Buf → Option ℕ → Flat → Flat
with_buf (buf.Local n) b f = record f { bufs = slice_set f.bufs n b }
with_buf (buf.Global n) b f = record f { global_bufs = slice_set f.global_bufs n b }

abbrev pub other_buf : Option Buf → Flat → Option ℕ
other_buf None f = None
other_buf (Some q) f = named_buf q (env f)

abbrev pub with_cells : ℕ → Flat → Flat
with_cells k f = record f { heap = f.heap ++ Some (replicate k (pos 0)) ∷ []; held = f.held + k }

-- the cells of a line in a new buffer, and how many they are
abbrev pub with_read : List ℤ → Flat → Flat
with_read cells f = record f { heap = f.heap ++ Some cells ∷ []; held = f.held + length cells; read_count = pos (length cells) }

abbrev pub lined : Buf → List ℤ → ℕ → Flat → Flat
lined p cells next f = record (with_buf p (Some (length f.heap)) (with_read cells f)) { at = next }

abbrev pub make_cells : Buf → ℤ → ℕ → Flat → Flow
make_cells p (pos k) next f = if nat_lt k (2 ^ 31) then go_to next (with_buf p (Some (length f.heap)) (with_cells k f)) else Stuck Range f
make_cells p (negsuc k) next f = Stuck Range f

abbrev pub free_found : ℕ → Option (Option (List ℤ)) → ℕ → Flat → Flow
free_found b (Some (Some cells)) next f = go_to next (record f { heap = slice_set f.heap b None; held = f.held - length cells })
free_found b (Some None) next f = Stuck Freed f
free_found b None next f = Stuck Outside f

abbrev pub free_cells : Option ℕ → ℕ → Flat → Flow
free_cells None next f = go_to next f
free_cells (Some b) next f = free_found b (slice_get f.heap b) next f

abbrev pub with_heap : Result (List (Option (List ℤ))) StuckCause → ℕ → Flat → Flow
with_heap (Ok heap) next f = go_to next (record f { heap = heap })
with_heap (Err c) next f = Stuck c f

abbrev pub write_cell : Option ℕ → ℤ → ℤ → ℕ → Flat → Flow
write_cell None k v next f = Stuck Outside f
write_cell (Some b) k v next f = with_heap (written_in f.heap b (slice_get f.heap b) k v) next f

-- where the room is short the step waits
abbrev pub put_text : List ℕ → ℕ → Flat → Flow
put_text text next f = if nat_lt 8192 (length f.output + 64) then Held f else go_to next (record f { output = f.output ++ text })

abbrev pub put_number : ℤ → ℤ → ℕ → Flat → Flow
put_number v (pos w) next f = if nat_le w 20 then put_text (padded_text v w) next f else Stuck Range f
put_number v (negsuc w) next f = Stuck Range f

abbrev pub put_character : ℤ → ℕ → Flat → Flow
put_character (pos c) next f = if is_scalar c then put_text (encode_utf8 c) next f else Stuck Range f
put_character (negsuc c) next f = Stuck Range f

abbrev pub leave_to : List Kept → Flat → Flow
leave_to [] f = Ended f
leave_to (c ∷ cs) f = Going (record f { at = c.at; ints = c.ints; bufs = c.bufs; callers = cs })

-- no run has more marks than steps, which are counted below 2 ^ 64
abbrev pub most_marks : ℕ
most_marks = 2 ^ 64 - 1

-- the innermost place is set by a mark, and the mark is counted
abbrev pub marked : ℕ → Flat → Flat
marked n f = record f { here = Some n; marks = min (f.marks + 1) most_marks }

-- a place that no mark has set, before the others
abbrev pub deeper : ℕ → Flat → Flow
deeper next f = if nat_lt (length (f.here ∷ f.behind)) most_places then go_to next (record f { here = None; behind = f.here ∷ f.behind }) else Stuck Outside f

-- the innermost place goes
abbrev pub back_to : List (Option ℕ) → ℕ → Flat → Flow
back_to [] next f = Stuck Outside f
back_to (p ∷ ps) next f = go_to next (record f { here = p; behind = ps })

abbrev pub none_of : {A : Type 0} → ℕ → List (Option A)
none_of n = replicate n None

abbrev pub entered : Entry → ℕ → Flat → Flat
entered e next f = record f {
  at = e.at;
  ints = none_of e.ints;
  bufs = none_of e.bufs;
  callers = record { at = next; ints = f.ints; bufs = f.bufs } ∷ f.callers;
}

abbrev pub enter : Option Entry → ℕ → Flat → Flow
enter None next f = Stuck Outside f
enter (Some e) next f = Going (entered e next f)

-- the place of the arm of a number, or another place
abbrev pub picked : ℤ → List Choice → ℕ → ℕ
picked v [] other = other
picked v (c ∷ cs) other = if int_eq v c.value then c.at else picked v cs other

abbrev pub flat_act : Layout → Node → Flat → Flow
flat_act l node.End f = leave_to f.callers f
flat_act l (node.Set x e next) f = with_number (value (expr_of e) l.tables (env f)) f (λ v. go_to next (with_int x v f))
flat_act l (node.SetCell p e g next) f =
    with_number (value (expr_of e) l.tables (env f)) f (λ k. with_number (value (expr_of g) l.tables (env f)) f (λ v. write_cell (named_buf p (env f)) k v next f))
flat_act l (node.SetBuf p q next) f = go_to next (with_buf p (other_buf q f) f)
flat_act l (node.Cells p e next) f = with_number (value (expr_of e) l.tables (env f)) f (λ k. make_cells p k next f)
flat_act l (node.Free p next) f = free_cells (named_buf p (env f)) next f
flat_act l (node.Check x o e g next) f =
    with_number (value (expr_of e) l.tables (env f)) f (λ a. with_number (value (expr_of g) l.tables (env f)) f (λ b.
    or_limit (ranged (exact o a b)) f (λ v. go_to next (with_int x v f))))
flat_act l (node.Width x e next) f = with_number (value (expr_of e) l.tables (env f)) f (λ v. go_to next (with_int x (pos (text_width v)) f))
flat_act l (node.PutNum e g next) f =
    with_number (value (expr_of e) l.tables (env f)) f (λ v. with_number (value (expr_of g) l.tables (env f)) f (λ w. put_number v w next f))
flat_act l (node.PutChar e next) f = with_number (value (expr_of e) l.tables (env f)) f (λ v. put_character v next f)
flat_act l (node.ReadText p next) f = Held f
flat_act l (node.ReadNums p next) f = Held f
flat_act l (node.ReadCount x next) f = go_to next (with_int x f.read_count f)
flat_act l (node.At name line next) f = go_to next (marked f.at f)
flat_act l (node.Enter next) f = deeper next f
flat_act l (node.Leave next) f = back_to f.behind next f
flat_act l (node.Fault k) f = Faulted k f
flat_act l (node.Call k next) f = enter (slice_get l.entries k) next f
flat_act l node.Return f = leave_to f.callers f
flat_act l (node.If e met other) f = with_number (value (expr_of e) l.tables (env f)) f (λ v. go_to (if is_zero v then other else met) f)
flat_act l (node.While e body next) f = with_number (value (expr_of e) l.tables (env f)) f (λ v. go_to (if is_zero v then next else body) f)
flat_act l (node.Switch x arms other) f = with_number (read_int x (env f)) f (λ v. go_to (picked v arms other) f)

-- past the end a function is left
abbrev pub act_at : Layout → Option Node → Flat → Flow
act_at l None f = leave_to f.callers f
act_at l (Some n) f = flat_act l n f

abbrev pub counted : Flat → Flat
counted f = record f { steps = f.steps + 1; peak = max f.peak f.held }

abbrev pub settle : Flow → Flow
settle (Going f) = Going (counted f)
settle (Ended f) = Ended (counted f)
settle (Faulted k f) = Faulted k (counted f)
settle (Stuck c f) = Stuck c (counted f)
settle (Held f) = Held f

unfoldable pub flat_step : Layout → Flat → Flow
flat_step l f = settle (act_at l (slice_get l.nodes f.at) f)

abbrev pub flow_of : Verdict → Flat → Flow
flow_of verdict.Going f = Going f
flow_of verdict.Ended f = Ended f
flow_of (verdict.Faulted k) f = Faulted k f
flow_of (verdict.Stuck c) f = Stuck c f
flow_of verdict.Held f = Held f

-- the statements that may take memory
abbrev pub TakesMemory : Node → Type 0
TakesMemory (node.Cells p e next) = Unit {0}
TakesMemory (node.Call k next) = Unit {0}
TakesMemory _ = ⊥

-- the count of the cells of a new buffer, where it may be one
abbrev pub IsCellCount : ℤ → Option ℕ → Type 0
IsCellCount (pos k) o = o ≡ (if nat_lt k (2 ^ 31) then Some k else None)
IsCellCount (negsuc k) o = o ≡ None

-- the character of a code, where it is one
abbrev pub IsCharacter : ℤ → Option ℕ → Type 0
IsCharacter (pos c) o = o ≡ (if is_scalar c then Some c else None)
IsCharacter (negsuc c) o = o ≡ None

abbrev pub flat_then : Flow → (Flat → Flow) → Flow
flat_then (Going f) go = go f
flat_then (Ended f) go = Ended f
flat_then (Faulted k f) go = Faulted k f
flat_then (Stuck c f) go = Stuck c f
flat_then (Held f) go = Held f

-- what stands after so many steps
abbrev pub flat_run : Layout → ℕ → Flat → Flow
flat_run l zero f = Going f
flat_run l (suc m) f = flat_then (flat_step l f) (flat_run l m)
