-- The state of the definition that a machine stands for.
use Rattle.std.specs.Prelude.{◌≡◌, ℕ, ◌≤◌, List, [], ◌∷◌, ◌++◌, length, reverse, pos, None, replicate, IsTrue}
use Rattle.aplc_cprof.specs.declared.syntax.CProgram.{CProgram}
use Rattle.aplc_cprof.specs.Machine.{Place, Places, State, Next, code_of}
use Rattle.aplc_cprof.specs.Machine as machine
use Rattle.aplc_crun.specs.declared.code.Entry.{Entry}
use Rattle.aplc_crun.specs.declared.code.Laid.{Laid}
use Rattle.aplc_crun.specs.declared.machine.Machine.{Machine}
use Rattle.aplc_crun.specs.Laying.{Due, Setting, IsLaid, Sound, code_for, state_of, places_at}
use Rattle.aplc_crun.specs.Building.{globals}
use Rattle.aplc_crun.specs.declared.live.Verdict.{Verdict}
use Rattle.aplc_crun.specs.declared.live.Verdict.TheVariants as verdict
use Rattle.aplc_crun.specs.Flat.{Flat, flat_of, layout_of, none_of}

abbrev pub setting : Due → Laid → List Place → List ℕ → List ℕ → Setting
setting k l marks given input = record { due = k; nodes = l.nodes.items; marks = marks; given = given; input = input }

-- The machine of a program stands for a state of the definition: `given` is the output that was handed over,
-- and `more` the input that may still come. The marks are the state's own: the machine has only their number.
pub record Stands (p : CProgram) (m : Machine) (given more : List ℕ) (st : State) : Type 0 where
  pub due : Due
  pub laid : IsLaid (globals p.ints p.bufs) due (layout_of m.laid)
  pub program : code_of p ≡ code_for due (layout_of m.laid)
  pub marks : List Place
  pub few : length marks ≤ m.live.steps
  pub sound : Sound (globals p.ints p.bufs) due marks (flat_of m.live)
  pub state : st ≡ state_of (setting due m.laid marks given (m.ahead.items ++ more)) (flat_of m.live)

-- the definition's words for what steps come to
abbrev pub next_of : Verdict → ℕ → State → Next
next_of verdict.Going n st = machine.Going st
next_of verdict.Ended n st = machine.Ended st
next_of (verdict.Faulted k) n st = machine.Faulted k st
next_of (verdict.Stuck c) n st = machine.Stuck c n st
next_of verdict.Held n st = machine.Going st

-- steps come to what the definition says, in a state for which the machine stands
pub record Comes (p : CProgram) (v : Verdict) (m : Machine) (given more : List ℕ) (next : Next) : Type 0 where
  pub state : State
  pub is : next_of v m.live.at state ≡ next
  pub stands : Stands p m given more state

-- ---- The start

abbrev pub StartsAt : List Entry → Entry → Type 0
StartsAt [] e = e ≡ record { at = 0; ints = 0; bufs = 0 }
StartsAt (x ∷ xs) e = e ≡ x

abbrev pub start_flat : Entry → ℕ → ℕ → Flat
start_flat e ints bufs = record {
  at = e.at;
  ints = none_of e.ints;
  bufs = none_of e.bufs;
  global_ints = replicate ints (pos 0);
  global_bufs = none_of bufs;
  heap = [];
  callers = [];
  here = None;
  behind = [];
  marks = 0;
  read_count = pos 0;
  output = [];
  held = 0;
  peak = 0;
  steps = 0;
}

-- the cells that a machine holds, the most that it held after a step, and the steps that it took
abbrev pub cells_held : Machine → ℕ
cells_held m = m.live.heap.held

abbrev pub cells_at_most : Machine → ℕ
cells_at_most m = m.live.peak

abbrev pub steps_taken : Machine → ℕ
steps_taken m = m.live.steps

-- whether a machine can run
abbrev pub CanRun : Machine → Type 0
CanRun m = IsTrue m.ready

-- the places where a machine stands
abbrev pub places_of : Machine → Places
places_of m = places_at m.laid.nodes.items m.live.places.here (reverse m.live.places.behind.items)
