-- What is asked of a program and its layout so that their code can be written, and what writing adds.
use Rattle.std.specs.Prelude.{◌≡◌, ◌+◌, ◌<◌, ◌^◌, ℕ, List, [], ◌∷◌, ◌++◌, length, pos, Option, Some, None, Bool, true, ◌&&◌, nat_lt, nat_le, refl}
use Rattle.std.specs.Coded.{Coded, code_by, coded×, coded_list, coded_ℕ, coded_bool}
use Rattle.aplc_scalar.specs.Scalar.{in_range}
use Rattle.aplc_cprof.specs.declared.syntax.CStmt.{CStmt}
use Rattle.aplc_cprof.specs.Blocks.{Blocks}
use Rattle.aplc_names.specs.declared.scope.Scope.{Scope}
use Rattle.aplc_names.specs.declared.scope.Scope.TheVariants as scope
use Rattle.aplc_names.specs.PlainPrograms.{plain}
use Rattle.aplc_names.specs.States.{is_among}
use Rattle.aplc_core.specs.PlainSteps.{Term, Literal, Slot, Mono, Dyad, Effect, Keep, Store, Call, Show, Branch}
use Rattle.aplc_core.specs.CoreRuns.{PlainCore}
use Rattle.aplc_core.specs.CorePrograms.{Core, core_code}
use Rattle.aplc_core.specs.Lowering.{lowered_program}
use Rattle.aplc_gen.specs.Built.{number_of}
use Rattle.aplc_gen.specs.Layouts.{Frame, Layout, Site, frame_of, routine_at, the_frame, global_ints}
use Rattle.aplc_gen.specs.Emitted.{width, site_at}

-- statements are added to the innermost block
abbrev pub added : List CStmt → Blocks → Blocks
added code b = record b { inner = b.inner ++ code }

-- the same names are among both
abbrev pub IsSetOf : List ℕ → List ℕ → Type 0
IsSetOf xs ys = (n : ℕ) → is_among n xs ≡ is_among n ys

-- ---- Sites

abbrev pub lowered_core : Core → PlainCore
lowered_core c = lowered_program (plain c.program)

-- a function that is being written
pub record Spot : Type 0 where
  pub core : Core
  pub layout : Layout
  pub number : ℕ
  pub first : Bool

abbrev pub site_of : Spot → Site
site_of s = site_at s.layout (lowered_core s.core) s.first s.number

abbrev pub slots_at : Spot → ℕ
slots_at s = (the_frame (site_of s)).slots

-- a label is the number of a line
abbrev pub IsLineNumber : Scope → Type 0
IsLineNumber (scope.Label z) = (k : ℕ) × (z ≡ pos k)
IsLineNumber _ = Unit {0}

-- ---- Numbers

-- its variables have small numbers
abbrev pub IsShort : Frame → Type 0
IsShort f = length f.names + length f.unsure + f.slots < 2 ^ 31

abbrev pub HasShortLists : Layout → Type 0
HasShortLists y = (global_ints y < 2 ^ 32) × (length y.called < 2 ^ 31)

-- ---- Trees and steps

-- numbers lie in the range, and slots below this one
abbrev pub fits_term : ℕ → Term → Bool
fits_term slots (Literal i k zs) = in_range (number_of zs)
fits_term slots (Slot i k) = nat_lt k slots
fits_term slots (Mono i f b) = fits_term slots b
fits_term slots (Dyad i f a b) = fits_term slots a && fits_term slots b
fits_term slots _ = true

-- a statement has few nodes
abbrev pub fits_tree : ℕ → Term → Bool
fits_tree slots t = fits_term slots t && nat_le (width t) 2000

abbrev pub fits_slot : ℕ → Option ℕ → Bool
fits_slot slots None = true
fits_slot slots (Some k) = nat_lt k slots

abbrev pub fits_step : ℕ → Effect → Bool
fits_step slots (Keep k t) = nat_lt k slots && fits_tree slots t
fits_step slots (Store i n t) = fits_tree slots t
fits_step slots (Call i n a b r) = fits_slot slots a && (fits_slot slots b && fits_slot slots r)
fits_step slots (Show o t) = fits_tree slots t
fits_step slots (Branch t) = fits_tree slots t
fits_step slots _ = true

abbrev pub fits_steps : ℕ → List Effect → Bool
fits_steps slots [] = true
fits_steps slots (x ∷ xs) = fits_step slots x && fits_steps slots xs

abbrev pub fits_lines : ℕ → List (List Effect) → Bool
fits_lines slots [] = true
fits_lines slots (x ∷ xs) = fits_steps slots x && fits_lines slots xs

-- the lines of all functions fit, functions that are called are there, and each function has its frame
pub record FitsProgram (y : Layout) (c : Core) : Type 0 where
  pub lines : (j : ℕ) → fits_lines (frame_of y j).slots (routine_at (lowered_core c) j).steps ≡ true
  pub called : (j : ℕ) → is_among j y.called ≡ true → j < length c.program.functions
  pub frames : length y.frames ≡ length c.program.functions

-- ---- Codes

abbrev pub frame_code : Coded Frame
frame_code =
    code_by (List ℕ × (List ℕ × (ℕ × List ℕ))) (coded× (coded_list coded_ℕ) (coded× (coded_list coded_ℕ) (coded× coded_ℕ (coded_list coded_ℕ)))) (λ f. (f.names, (f.unsure, (f.slots, f.sure)))) (λ p. record { names = p.0; unsure = p.1.0; slots = p.1.1.0; sure = p.1.1.1 }) (λ _. refl)

abbrev pub layout_code : Coded Layout
layout_code =
    code_by (List ℕ × (List ℕ × (List ℕ × (Bool × List Frame)))) (coded× (coded_list coded_ℕ) (coded× (coded_list coded_ℕ) (coded× (coded_list coded_ℕ) (coded× coded_bool (coded_list frame_code))))) (λ y. (y.globals, (y.unsure, (y.called, (y.counted, y.frames))))) (λ p. record { globals = p.0; unsure = p.1.0; called = p.1.1.0; counted = p.1.1.1.0; frames = p.1.1.1.1 }) (λ _. refl)

abbrev pub spot_code : Coded Spot
spot_code =
    code_by (Core × (Layout × (ℕ × Bool))) (coded× core_code (coded× layout_code (coded× coded_ℕ coded_bool))) (λ s. (s.core, (s.layout, (s.number, s.first)))) (λ p. record { core = p.0; layout = p.1.0; number = p.1.1.0; first = p.1.1.1 }) (λ _. refl)
