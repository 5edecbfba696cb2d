-- What it is for nodes to be those of a program, laid out flat.
use Rattle.std.specs.Prelude.{◌≡◌, ℕ, suc, ◌+◌, ◌<◌, ◌≤◌, List, [], ◌∷◌, ◌++◌, length, min, ℤ, Option, Some, None, map, slice_get, sum_by}
use Rattle.aplc_cprof.specs.declared.syntax.Int.{Int}
use Rattle.aplc_cprof.specs.declared.syntax.Int.TheVariants as int
use Rattle.aplc_cprof.specs.declared.syntax.Buf.{Buf}
use Rattle.aplc_cprof.specs.declared.syntax.Buf.TheVariants as buf
use Rattle.aplc_cprof.specs.declared.syntax.CExpr.{CExpr}
use Rattle.aplc_cprof.specs.declared.syntax.CStmt.{CStmt}
use Rattle.aplc_cprof.specs.declared.syntax.CStmt.TheVariants as stmt
use Rattle.aplc_cprof.specs.declared.syntax.Arm.{Arm}
use Rattle.aplc_cprof.specs.Machine.{Todo, Code, numbered, numbered_if, chosen, size, total, Place, Places, State, Caller, empty_place, cells_of}
use Rattle.aplc_crun.specs.Seen.{joined, or_zero}
use Rattle.aplc_crun.specs.Flat.{Flat, Kept, Layout, picked, most_marks}
use Rattle.aplc_crun.specs.Terms.{expr_of}
use Rattle.aplc_crun.specs.declared.code.Node.{Node}
use Rattle.aplc_crun.specs.declared.code.Node.TheVariants as form
use Rattle.aplc_crun.specs.declared.choices.Choice.{Choice}
use Rattle.aplc_crun.specs.declared.code.Entry.{Entry}

-- the statements that are due from a place on, and how many variables of a frame they may name
pub record Spot : Type 0 where
  pub todo : Todo
  pub ints : ℕ
  pub bufs : ℕ

abbrev pub Due : Type 0
Due = ℕ → Spot

-- how many global variables there are
pub record Globals : Type 0 where
  pub ints : ℕ
  pub bufs : ℕ

-- what is due there names no more than what is due here may
pub record Falls (here there : Spot) : Type 0 where
  pub ints : there.ints ≤ here.ints
  pub bufs : there.bufs ≤ here.bufs

abbrev pub IntIn : Globals → Spot → Int → Type 0
IntIn g here (int.Local n) = n < here.ints
IntIn g here (int.Global n) = n < g.ints

abbrev pub BufIn : Globals → Spot → Buf → Type 0
BufIn g here (buf.Local n) = n < here.bufs
BufIn g here (buf.Global n) = n < g.bufs

-- a statement, and then what is due at another place
pub record OnwardAt (k : Due) (n : ℕ) (x : CStmt) (next : ℕ) : Type 0 where
  pub due : (k n).todo ≡ (n, x) ∷ (k next).todo
  pub falls : Falls (k n) (k next)

pub record LastAt (k : Due) (n : ℕ) (x : CStmt) : Type 0 where
  pub rest : Todo
  pub due : (k n).todo ≡ (n, x) ∷ rest

pub record WhileAt (k : Due) (n : ℕ) (e : CExpr) (body next : ℕ) : Type 0 where
  pub inner : List CStmt
  pub due : (k n).todo ≡ (n, stmt.While e inner) ∷ (k next).todo
  pub turn : (k body).todo ≡ numbered (n + 1) inner ++ (k n).todo
  pub falls : Falls (k n) (k next)
  pub falls_in : Falls (k n) (k body)

pub record IfAt (k : Due) (n : ℕ) (e : CExpr) (met other : ℕ) : Type 0 where
  pub inner : List CStmt
  pub others : Option (List CStmt)
  pub rest : Todo
  pub due : (k n).todo ≡ (n, stmt.If e inner others) ∷ rest
  pub first : (k met).todo ≡ numbered (n + 1) inner ++ rest
  pub second : (k other).todo ≡ numbered_if (n + 1 + total (map size inner)) others ++ rest
  pub falls_first : Falls (k n) (k met)
  pub falls_second : Falls (k n) (k other)

pub record SwitchAt (k : Due) (n : ℕ) (x : Int) (choices : List Choice) (other : ℕ) : Type 0 where
  pub arms : List Arm
  pub default : List CStmt
  pub rest : Todo
  pub due : (k n).todo ≡ (n, stmt.Switch x arms default) ∷ rest
  pub picks : (v : ℤ) → (k (picked v choices other)).todo ≡ chosen v (n + 1) arms default ++ rest
  pub falls : (v : ℤ) → Falls (k n) (k (picked v choices other))

-- what a place's statement is to what is due there
abbrev pub NodeOk : Globals → Due → ℕ → Node → Type 0
NodeOk g k n form.End = (k n).todo ≡ []
NodeOk g k n (form.Set x e next) = OnwardAt k n (stmt.Set x (expr_of e)) next × IntIn g (k n) x
NodeOk g k n (form.SetCell p e f next) = OnwardAt k n (stmt.SetCell p (expr_of e) (expr_of f)) next
NodeOk g k n (form.SetBuf p q next) = OnwardAt k n (stmt.SetBuf p q) next × BufIn g (k n) p
NodeOk g k n (form.Cells p e next) = OnwardAt k n (stmt.Cells p (expr_of e)) next × BufIn g (k n) p
NodeOk g k n (form.Free p next) = OnwardAt k n (stmt.Free p) next
NodeOk g k n (form.Check x o e f next) = OnwardAt k n (stmt.Check x o (expr_of e) (expr_of f)) next × IntIn g (k n) x
NodeOk g k n (form.Width x e next) = OnwardAt k n (stmt.Width x (expr_of e)) next × IntIn g (k n) x
NodeOk g k n (form.PutNum e f next) = OnwardAt k n (stmt.PutNum (expr_of e) (expr_of f)) next
NodeOk g k n (form.PutChar e next) = OnwardAt k n (stmt.PutChar (expr_of e)) next
NodeOk g k n (form.ReadText p next) = OnwardAt k n (stmt.ReadText p) next × BufIn g (k n) p
NodeOk g k n (form.ReadNums p next) = OnwardAt k n (stmt.ReadNums p) next × BufIn g (k n) p
NodeOk g k n (form.ReadCount x next) = OnwardAt k n (stmt.ReadCount x) next × IntIn g (k n) x
NodeOk g k n (form.At name line next) = OnwardAt k n (stmt.At name line) next
NodeOk g k n (form.Enter next) = OnwardAt k n stmt.Enter next
NodeOk g k n (form.Leave next) = OnwardAt k n stmt.Leave next
NodeOk g k n (form.Fault kind) = LastAt k n (stmt.Fault kind)
NodeOk g k n (form.Call f next) = OnwardAt k n (stmt.Call f) next
NodeOk g k n form.Return = LastAt k n stmt.Return
NodeOk g k n (form.If e met other) = IfAt k n (expr_of e) met other
NodeOk g k n (form.While e body next) = WhileAt k n (expr_of e) body next
NodeOk g k n (form.Switch x choices other) = SwitchAt k n x choices other

abbrev pub PartOk : Globals → Due → ℕ → List Node → Type 0
PartOk g k n [] = Unit {0}
PartOk g k n (c ∷ cs) = NodeOk g k n c × PartOk g k (suc n) cs

-- a function's frame has the variables that its statements may name
abbrev pub AllFit : Due → List Entry → Type 0
AllFit k [] = Unit {0}
AllFit k (e ∷ es) = ((k e.at).ints ≤ e.ints) × ((k e.at).bufs ≤ e.bufs) × AllFit k es

pub record IsLaid (g : Globals) (k : Due) (l : Layout) : Type 0 where
  pub nodes : PartOk g k 0 l.nodes
  pub beyond : (n : ℕ) → slice_get l.nodes n ≡ None → (k n).todo ≡ []
  pub rooms : AllFit k l.entries

-- the code that was laid out
abbrev pub code_for : Due → Layout → Code
code_for k l = record { tables = l.tables; bodies = map (λ e. (k e.at).todo) l.entries }

-- ---- The state that a machine over places stands for

-- what the flat state does not have: what is due, the nodes, the marks, the output that was handed over, the input to come
pub record Setting : Type 0 where
  pub due : Due
  pub nodes : List Node
  pub marks : List Place
  pub given : List ℕ
  pub input : List ℕ

abbrev pub place_in : Node → Place
place_in (form.At name line next) = record { name = name; line = line }
place_in _ = empty_place

abbrev pub place_of : Option Node → Place
place_of None = empty_place
place_of (Some n) = place_in n

-- the place that a mark sets
abbrev pub place_at : List Node → Option ℕ → Place
place_at nodes None = empty_place
place_at nodes (Some n) = place_of (slice_get nodes n)

abbrev pub places_at : List Node → Option ℕ → List (Option ℕ) → Places
places_at nodes here behind = record { here = place_at nodes here; behind = map (place_at nodes) behind }

abbrev pub caller_of : Due → Kept → Caller
caller_of k c = record { ints = λ n. joined (slice_get c.ints n); bufs = λ n. joined (slice_get c.bufs n); todo = (k c.at).todo }

abbrev pub state_of : Setting → Flat → State
state_of s f = record {
  ints = λ n. joined (slice_get f.ints n);
  bufs = λ n. joined (slice_get f.bufs n);
  global_ints = λ n. or_zero (slice_get f.global_ints n);
  global_bufs = λ n. joined (slice_get f.global_bufs n);
  heap = f.heap;
  todo = (s.due f.at).todo;
  callers = map (caller_of s.due) f.callers;
  places = places_at s.nodes f.here f.behind;
  marks = s.marks;
  read_count = f.read_count;
  input = s.input;
  output = s.given ++ f.output;
  steps = f.steps;
  peak = f.peak;
}

abbrev pub HaveRoom : Due → List Kept → Type 0
HaveRoom k [] = Unit {0}
HaveRoom k (c ∷ cs) = ((k c.at).ints ≤ length c.ints) × ((k c.at).bufs ≤ length c.bufs) × HaveRoom k cs

-- the lists of variables are long enough, and the cells and the marks are counted
pub record Sound (g : Globals) (k : Due) (ms : List Place) (f : Flat) : Type 0 where
  pub ints : (k f.at).ints ≤ length f.ints
  pub bufs : (k f.at).bufs ≤ length f.bufs
  pub global_ints : g.ints ≤ length f.global_ints
  pub global_bufs : g.bufs ≤ length f.global_bufs
  pub callers : HaveRoom k f.callers
  pub held : f.held ≡ sum_by cells_of f.heap
  pub marks : f.marks ≡ min (length ms) most_marks
