-- Laws of runs: what holds of every program, every input and every number of lines.
use Rattle.std.specs.Prelude.{◌≡◌, ℕ, ◌+◌, List, [], ◌∷◌, ◌++◌, All}
use Rattle.aplc_scalar.specs.declared.kind.Kind.{Kind}
use Rattle.aplc_scalar.specs.declared.kind.Kind.TheVariants.{Num, Char}
use Rattle.aplc_scalar.specs.Input.{InputLine, Line, Unread, input_line, number_line}
use Rattle.aplc_arr.specs.Arrays.{Array, IsArray}
use Rattle.aplc_arr.specs.Display.{shown}
use Rattle.aplc_syntax.specs.declared.tree.Program.{Program}
use Rattle.aplc_syntax.specs.PlainTrees.{Tree, TextInput, NumsInput, Show}
use Rattle.aplc_names.specs.Programs.{IsGrammatical}
use Rattle.aplc_names.specs.PlainPrograms.{PlainProgram, plain}
use Rattle.aplc_names.specs.States.{Place, Giving, World, State, Marking, Outcome, Gives, final}
use Rattle.aplc_names.specs.States as outcome
use Rattle.aplc_names.specs.Eager.{Context, Use, displayed, vector, value}
use Rattle.aplc_names.specs.Runs.{Run, Ended, Faulted, Going, evaluated, eager, work}

-- ---- Markings

-- neither what a run comes to nor its work depends on the marking, nor does what its nodes are given
abbrev pub IsFreeOfMarkings : PlainProgram → Type 0
IsFreeOfMarkings p =
    (m l : Marking) (input : List ℕ) (n : ℕ) → (eager p m input n ≡ eager p l input n) × (work p m input n ≡ work p l input n) × ((final (evaluated p m input n)).world.given ≡ (final (evaluated p l input n)).world.given)

-- ---- More lines

abbrev pub IsGoing : Run → Type 0
IsGoing (Ended o ms) = ⊥
IsGoing (Faulted o ms k qs) = ⊥
IsGoing (Going o ms) = Unit {0}

abbrev pub output : Run → List ℕ
output (Ended o ms) = o
output (Faulted o ms k qs) = o
output (Going o ms) = o

abbrev pub marks : Run → List Place
marks (Ended o ms) = ms
marks (Faulted o ms k qs) = ms
marks (Going o ms) = ms

abbrev pub IsPrefix : {A : Type 0} → List A → List A → Type 0
IsPrefix {A = A} xs ys = (more : List A) × (ys ≡ xs ++ more)

-- a run that is over stays what it is when more lines may start, with the same work
abbrev pub StaysOver : PlainProgram → Type 0
StaysOver p =
    (m : Marking) (input : List ℕ) (n more : ℕ) → (IsGoing (eager p m input n) → ⊥) → (eager p m input (n + more) ≡ eager p m input n) × (work p m input (n + more) ≡ work p m input n)

-- with more lines output and marks have more behind them, and nothing else changes in them
abbrev pub OnlyGrows : PlainProgram → Type 0
OnlyGrows p =
    (m : Marking) (input : List ℕ) (n more : ℕ) → IsPrefix (output (eager p m input n)) (output (eager p m input (n + more))) × IsPrefix (marks (eager p m input n)) (marks (eager p m input (n + more)))

-- a run goes on only where no more line may start
abbrev pub GoesOnAtNone : PlainProgram → Type 0
GoesOnAtNone p =
    (m : Marking) (input : List ℕ) (n : ℕ) → IsGoing (eager p m input n) → (final (evaluated p m input n)).world.left ≡ 0

-- ---- Arrays

-- in a program of the grammar each value that a run gives to a node is an array of the language
abbrev pub GivesArrays : Program → Type 0
GivesArrays p =
    IsGrammatical p → (m : Marking) (input : List ℕ) (n : ℕ) → All (λ (x : Giving). IsArray x.value) (final (evaluated (plain p) m input n)).world.given

-- ---- Input and display

-- node i is given v and the world is otherwise as w, but for the work
abbrev pub GivesAlone : ℕ → Array → World → Outcome Array → Type 0
GivesAlone i v w o = (r : State) × (o ≡ Gives v r) × (r.world ≡ record w { work = r.world.work; given = w.given ++ record { node = i; value = v } ∷ [] })

-- a line that is there is taken from the input, and nothing else changes; where none can be read nothing changes at all
abbrev pub TakesALine : ℕ → Kind → InputLine → State → Outcome Array → Type 0
TakesALine i k (Line zs rest) s o = GivesAlone i (vector k zs) (record s.world { input = rest }) o
TakesALine i k (Unread e) s o = o ≡ outcome.Faulted e s

-- Reading takes a line alone, and `⎕←` adds the text of the value to the output alone.
pub record ChangesAlone (c : Context) : Type 0 where
  pub text : (i p : ℕ) (u : Use) (s : State) → TakesALine i Char (input_line s.world.input) s (value c (TextInput i p) u s)
  pub numbers : (i p : ℕ) (u : Use) (s : State) → TakesALine i Num (number_line s.world.input) s (value c (NumsInput i p) u s)
  pub shows : (i p : ℕ) (a : Tree) (u : Use) (s t : State) (v : Array) → value c a displayed s ≡ Gives v t → GivesAlone i v (record t.world { output = t.world.output ++ shown v }) (value c (Show i p a) u s)
