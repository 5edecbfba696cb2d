-- What a run shows, and when two runs behave alike.
use Rattle.std.specs.Prelude.{◌≡◌, ◌⊎◌, ℕ, List, ◌++◌}
use Rattle.aplc_scalar.specs.declared.kind.FaultKind.{FaultKind}
use Rattle.aplc_cprof.specs.declared.syntax.StuckCause.{StuckCause}
use Rattle.aplc_cprof.specs.declared.syntax.CProgram.{CProgram}
use Rattle.aplc_cprof.specs.Machine.{Place, Places, State, Next, code_of, initial, state_of, run}
use Rattle.aplc_cprof.specs.Machine as machine

-- What a run has come to: its output and its marks, for a fault its kind with all places,
-- and for a run that is stuck the cause with the number of the statement.
pub data Standing : Type 0 where
  Ended : List ℕ → List Place → Standing
  Faulted : List ℕ → List Place → FaultKind → Places → Standing
  Going : List ℕ → List Place → Standing
  Stuck : List ℕ → List Place → StuckCause → ℕ → Standing

abbrev pub shown : Next → Standing
shown (machine.Going s) = Going s.output s.marks
shown (machine.Ended s) = Ended s.output s.marks
shown (machine.Faulted k s) = Faulted s.output s.marks k s.places
shown (machine.Stuck c n s) = Stuck s.output s.marks c n

-- how far a program has come on an input when it has taken m steps, or has stopped before
unfoldable pub behaviour : CProgram → List ℕ → ℕ → Standing
behaviour p input m = shown (run (code_of p) m (initial (code_of p) input))

-- the state in which it stands then
unfoldable pub after : CProgram → List ℕ → ℕ → State
after p input m = state_of (run (code_of p) m (initial (code_of p) input))

abbrev pub output : Standing → List ℕ
output (Ended o ms) = o
output (Faulted o ms k ps) = o
output (Going o ms) = o
output (Stuck o ms c n) = o

abbrev pub marks : Standing → List Place
marks (Ended o ms) = ms
marks (Faulted o ms k ps) = ms
marks (Going o ms) = ms
marks (Stuck o ms c n) = ms

abbrev pub IsGoing : Standing → Type 0
IsGoing (Going o ms) = Unit {0}
IsGoing (Ended o ms) = ⊥
IsGoing (Faulted o ms k ps) = ⊥
IsGoing (Stuck o ms c n) = ⊥

abbrev pub IsStuck : Standing → Type 0
IsStuck (Stuck o ms c n) = Unit {0}
IsStuck (Ended o ms) = ⊥
IsStuck (Faulted o ms k ps) = ⊥
IsStuck (Going o ms) = ⊥

abbrev pub IsPrefix : {A : Type 0} → List A → List A → Type 0
IsPrefix {A} xs ys = (zs : List A) × (ys ≡ xs ++ zs)

-- output and marks of the one are so far a part of the other's
pub record IsPartOf (r whole : Standing) : Type 0 where
  pub output : IsPrefix (output r) (output whole)
  pub marks : IsPrefix (marks r) (marks whole)

-- what the machine shows is the source's outcome, or so far a part of it
abbrev pub Agrees : Standing → Standing → Type 0
Agrees c source = ((IsGoing c → ⊥) × (source ≡ c)) ⊎ (IsGoing c × IsPartOf c source)

-- Same behaviour of a source, by how many lines it may start, and of a program, by how many steps it may take.
pub record Alike (source c : ℕ → Standing) : Type 0 where
  -- each end and each fault of the source is one of the program, with the same output, marks, kind and places
  pub comes : (n : ℕ) → (IsGoing (source n) → ⊥) → (m : ℕ) × (c m ≡ source n)
  -- the program is never stuck, and shows nothing else
  pub never_stuck : (m : ℕ) → IsStuck (c m) → ⊥
  pub no_more : (m : ℕ) → (n : ℕ) × Agrees (c m) (source n)
  -- whatever the source prints and marks the program prints and marks in the end
  pub none_withheld : (n : ℕ) → (m : ℕ) × IsPartOf (source n) (c m)
