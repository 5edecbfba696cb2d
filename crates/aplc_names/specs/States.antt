-- What an evaluation stands in, and what it comes to.
use Rattle.std.specs.Prelude.{ℕ, ◌+◌, ◌-◌, max, List, [], ◌∷◌, length, Option, Some, None, Bool, false, nat_eq, ◌||◌, if◌then◌else◌}
use Rattle.aplc_scalar.specs.declared.kind.FaultKind.{FaultKind}
use Rattle.aplc_arr.specs.Arrays.{Array, product}

-- ---- States

-- the line of a function, where a frame stands or which was started
pub record Place : Type 0 where
  pub function : List ℕ
  pub line : ℕ

-- one place for each frame: that of the innermost, and those behind it from the inside out
pub record Places : Type 0 where
  pub here : Place
  pub behind : List Place

-- the innermost frame stands at another line
abbrev pub at_line : ℕ → Places → Places
at_line l ps = record { here = record { function = ps.here.function; line = l }; behind = ps.behind }

-- a new frame stands in front of all others
abbrev pub in_front : Place → Places → Places
in_front q ps = record { here = q; behind = ps.here ∷ ps.behind }

-- how many frames stand
abbrev pub depth : Places → ℕ
depth ps = 1 + length ps.behind

-- the value of each name that has one
abbrev pub Values : Type 0
Values = ℕ → Option Array

-- a value that a node was given
pub record Giving : Type 0 where
  pub node : ℕ
  pub value : Array

pub record World : Type 0 where
  pub globals : Values
  -- of the innermost frame
  pub locals : Values
  pub places : Places
  -- how many lines may still start
  pub left : ℕ
  pub input : List ℕ
  pub output : List ℕ
  -- the lines started that have a statement, in order
  pub marks : List Place
  pub work : ℕ
  -- what nodes were given, in order
  pub given : List Giving

-- The cells that a run without loops holds: of rank 1 and more the values of all names in all frames, and what the
-- statements hold that have begun and not ended.
pub record Account : Type 0 where
  pub now : ℕ
  pub peak : ℕ
  -- what the statement holds that is evaluated
  pub held : ℕ
  -- an element faulted at a node that is neither swept nor the root of its piece
  pub late : Bool

pub record State : Type 0 where
  pub world : World
  pub account : Account

-- Which nodes the account counts, and at which an element fault is not late, all by their numbers.
pub record Marking : Type 0 where
  pub held : List ℕ
  pub swept : List ℕ
  pub roots : List ℕ

abbrev pub on_world : (World → World) → State → State
on_world h s = record s { world = h s.world }

abbrev pub on_account : (Account → Account) → State → State
on_account h s = record s { account = h s.account }

-- ---- Outcomes

-- An evaluation gives something, or faults at the places as they stand, or goes on where no line may start.
pub data Outcome (A : Type 0) : Type 0 where
  Gives : A → State → Outcome A
  Faulted : FaultKind → State → Outcome A
  Going : State → Outcome A

abbrev pub and_then : {A B : Type 0} → Outcome A → (A → State → Outcome B) → Outcome B
and_then (Gives v s) next = next v s
and_then (Faulted k s) next = Faulted k s
and_then (Going s) next = Going s

-- where it stands in the end
abbrev pub final : {A : Type 0} → Outcome A → State
final (Gives v s) = s
final (Faulted k s) = s
final (Going s) = s

-- ---- Names, numbers of nodes, work

abbrev pub set_name : ℕ → Option Array → Values → Values
set_name n v names m = if nat_eq n m then v else names m

abbrev pub no_values : Values
no_values n = None

abbrev pub is_among : ℕ → List ℕ → Bool
is_among n [] = false
is_among n (m ∷ ms) = nat_eq n m || is_among n ms

abbrev pub worked : ℕ → World → World
worked n w = record w { work = w.work + n }

-- ---- The account

-- the count of a value of this shape: a scalar counts nothing
abbrev pub weight : List ℕ → ℕ
weight [] = 0
weight (n ∷ ns) = product (n ∷ ns)

abbrev pub weight_of : Option Array → ℕ
weight_of None = 0
weight_of (Some v) = weight v.shape

abbrev pub grown : ℕ → Account → Account
grown n a = record a { now = a.now + n; peak = max a.peak (a.now + n) }

abbrev pub shrunk : ℕ → Account → Account
shrunk n a = record a { now = a.now - n }

-- the statement holds so many cells more
abbrev pub holding : ℕ → Account → Account
holding n a = record (grown n a) { held = a.held + n }

-- the statement gives so many of its cells away
abbrev pub released : ℕ → Account → Account
released n a = record (shrunk n a) { held = a.held - n }

-- what the statement holds leaves at its end
abbrev pub ended : Account → Account
ended a = record (shrunk a.held a) { held = 0 }
