-- What lines of sums come to: evaluation from the right, line after line, over numbers alone.
use Rattle.std.specs.Prelude.{ℕ, ◌+◌, ◌-◌, List, [], ◌∷◌, ◌++◌, ℤ, Ok, Err, nat_eq, if◌then◌else◌}
use Rattle.aplc_scalar.specs.declared.kind.FaultKind.{FaultKind}
use Rattle.aplc_scalar.specs.Scalar.{Given, dyadic}
use Rattle.aplc_scalar.specs.Number.{number_text}
use Rattle.aplc_names.specs.Sums.{Sum, number, apply, Task, nothing, quiet, display}
use Rattle.aplc_names.specs.States.{Place, Places, at_line}

-- The marks are the lines started that have a statement, in order; `left` is how many lines may still start.
pub record State : Type 0 where
  pub places : Places
  pub input : List ℕ
  pub output : List ℕ
  pub marks : List Place
  pub left : ℕ

-- What an evaluation comes to: a value, a fault with all places of that moment, or a line that may not start any more.
pub data Outcome (A : Type 0) : Type 0 where
  Gives : A → State → Outcome A
  Faulted : FaultKind → State → Outcome A
  Going : State → Outcome A

abbrev pub and_then : {A B : Type 0} → Outcome A → (A → State → Outcome B) → Outcome B
and_then (Gives v s) next = next v s
and_then (Faulted k s) next = Faulted k s
and_then (Going s) next = Going s

abbrev pub given : Given → State → Outcome ℤ
given (Ok v) s = Gives v s
given (Err k) s = Faulted k s

-- from right to left: first the argument behind the function, last the function
abbrev pub value : Sum → State → Outcome ℤ
value (number x) s = Gives x s
value (apply f a b) s = and_then (value b s) (λ right t. and_then (value a t) (λ left u. given (dyadic f left right) u))

-- a number is displayed as its text and a line feed
abbrev pub displayed : ℤ → State → Outcome (Unit {0})
displayed v s = Gives tt (record s { output = s.output ++ (number_text v ++ 10 ∷ []) })

abbrev pub statement : Task → State → Outcome (Unit {0})
statement nothing s = Gives tt s
statement (quiet e) s = and_then (value e s) (λ v t. Gives tt t)
statement (display e) s = and_then (value e s) displayed

-- an empty statement leaves no mark
abbrev pub marks_of : Task → Place → List Place
marks_of nothing here = []
marks_of t here = here ∷ []

-- a line is started: the frame stands there, and a statement leaves a mark
abbrev pub started : ℕ → Task → State → State
started l x s = record s { places = at_line l s.places; marks = s.marks ++ marks_of x (at_line l s.places).here; left = s.left - 1 }

-- the lines from number l on
abbrev pub lines_from : ℕ → List Task → State → Outcome (Unit {0})
lines_from l [] s = Gives tt s
lines_from l (x ∷ xs) s =
    if nat_eq s.left 0 then Going s else and_then (statement x (started l x s)) (λ done t. lines_from (l + 1) xs t)
