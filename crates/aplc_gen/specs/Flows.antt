-- Where the branches of a function lead, line by line.
use Rattle.std.specs.Prelude.{◌≡◌, ℕ, zero, suc, ◌<◌, List, [], ◌∷◌, Bool, true, false, drop, get_or, refl}
use Rattle.std.specs.Coded.{Coded, code_by, coded×, coded_list, coded_ℕ, coded_bool}
use Rattle.aplc_core.specs.PlainSteps.{Effect, Branch}
use Rattle.aplc_core.specs.CoreRuns.{CoreRoutine}
use Rattle.aplc_gen.specs.Emitted.{landing, lead}
use Rattle.aplc_gen.specs.Emitted as emitted
use Rattle.aplc_gen.specs.declared.lead.Lead.{Lead}
use Rattle.aplc_gen.specs.declared.lead.Lead.TheVariants as l

abbrev pub lead_of : Lead → emitted.Lead
lead_of l.Out = emitted.out
lead_of (l.Line k) = emitted.to k
lead_of l.Computed = emitted.computed

-- the first line from number l on that has steps, and 0 if there is none
abbrev pub landing_of : CoreRoutine → ℕ → ℕ
landing_of f zero = 0
landing_of f (suc l) = landing (suc l) (drop l f.steps)

-- a table has these
abbrev pub AreLandings : CoreRoutine → List ℕ → Type 0
AreLandings f xs = (l : ℕ) → get_or xs l 0 ≡ landing_of f l

-- the lines behind number l have theirs
abbrev pub HasBehind : CoreRoutine → List ℕ → ℕ → Type 0
HasBehind f xs l = (k : ℕ) → l < k → get_or xs k 0 ≡ landing_of f k

abbrev pub is_blank : List Effect → Bool
is_blank [] = true
is_blank (x ∷ xs) = false

-- the landing of line l, from its steps and the landing of the next line
abbrev pub landing_by : List Effect → ℕ → ℕ → ℕ
landing_by [] l next = next
landing_by (x ∷ xs) l next = l

-- ---- The lines to which branches lead

pub record Turns : Type 0 where
  -- by their numbers, the latest first
  pub lines : List ℕ
  -- a value says where some branch leads
  pub computed : Bool
  -- some branch leads to a line
  pub loops : Bool

abbrev pub turns_code : Coded Turns
turns_code = code_by (List ℕ × (Bool × Bool)) (coded× (coded_list coded_ℕ) (coded× coded_bool coded_bool)) (λ t. (t.lines, (t.computed, t.loops))) (λ p. record { lines = p.0; computed = p.1.0; loops = p.1.1 }) (λ _. refl)

abbrev pub no_turns : Turns
no_turns = record { lines = []; computed = false; loops = false }

abbrev pub turned : emitted.Lead → Turns → Turns
turned emitted.out t = t
turned (emitted.to k) t = record { lines = k ∷ t.lines; computed = t.computed; loops = true }
turned emitted.computed t = record { lines = t.lines; computed = true; loops = true }

abbrev pub step_turned : CoreRoutine → Effect → Turns → Turns
step_turned f (Branch x) t = turned (lead f x) t
step_turned f _ t = t

abbrev pub steps_turned : CoreRoutine → List Effect → Turns → Turns
steps_turned f [] t = t
steps_turned f (x ∷ xs) t = steps_turned f xs (step_turned f x t)

abbrev pub lines_turned : CoreRoutine → List (List Effect) → Turns → Turns
lines_turned f [] t = t
lines_turned f (x ∷ xs) t = lines_turned f xs (steps_turned f x t)
