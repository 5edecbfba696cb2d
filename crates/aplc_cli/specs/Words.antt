-- The words of the command line.
use Rattle.std.specs.Prelude.{ℕ, ◌+◌, Bool, false, not, nat_eq, nat_lt, ◌&&◌, List, [], ◌∷◌, length, Option, None, Some, option_and_then, if◌then◌else◌, codes, bytes_eq}
use Rattle.aplc_cli.specs.declared.words.Action.{Action}
use Rattle.aplc_cli.specs.declared.words.Action.TheVariants as action
use Rattle.aplc_cli.specs.Digits.{magnitude}

-- what is done with the file of this name
pub record Command : Type 0 where
  pub name : List ℕ
  pub action : Action

-- a word that can name a file: not empty, and without `-` at its front
abbrev pub is_name : List ℕ → Bool
is_name [] = false
is_name (b ∷ bs) = not (nat_eq b 45)

abbrev pub most_steps : ℕ
most_steps = 1000000000000000

-- without `--steps`
abbrev pub default_steps : ℕ
default_steps = 1000000000

abbrev pub bounded : ℕ → Option ℕ
bounded m = if nat_lt 0 m && nat_lt m (most_steps + 1) then Some m else None

-- a count of steps: 1 to 16 digits of a value from 1 to the greatest
abbrev pub steps : List ℕ → Option ℕ
steps word = if nat_lt (length word) 17 then option_and_then bounded (magnitude word) else None

abbrev pub on_file : Action → List ℕ → Option Command
on_file a name = if is_name name then Some record { name = name; action = a } else None

-- FILE; --run FILE; --exec FILE; the two with --steps M before FILE
abbrev pub command : List (List ℕ) → Option Command
command (name ∷ []) = on_file action.Compile name
command (a ∷ name ∷ []) =
    if bytes_eq a (codes "--run") then on_file (action.Run default_steps) name
    else (if bytes_eq a (codes "--exec") then on_file (action.Exec default_steps) name else None)
command (a ∷ b ∷ m ∷ name ∷ []) =
    if bytes_eq a (codes "--run") && bytes_eq b (codes "--steps") then option_and_then (λ k. on_file (action.Run k) name) (steps m)
    else (if bytes_eq a (codes "--exec") && bytes_eq b (codes "--steps") then option_and_then (λ k. on_file (action.Exec k) name) (steps m) else None)
command _ = None
