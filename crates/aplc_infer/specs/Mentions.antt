-- The local names that a statement assigns.
use Rattle.std.specs.Prelude.{ℕ, List, [], ◌∷◌, flat_map, if◌then◌else◌}
use Rattle.aplc_names.specs.declared.outline.Mention.{Mention}
use Rattle.aplc_infer.specs.declared.cell.Binding.{Binding}
use Rattle.aplc_infer.specs.declared.cell.Binding.TheVariants as binds

abbrev pub local_number : Binding → List ℕ
local_number (binds.Local k) = k ∷ []
local_number _ = []

abbrev pub assigned_number : (ℕ → Binding) → Mention → List ℕ
assigned_number b m = if m.assigned then local_number (b m.name.0) else []

-- the numbers of the local names that are assigned where these names stand
abbrev pub assigned_numbers : (ℕ → Binding) → List Mention → List ℕ
assigned_numbers b ms = flat_map (assigned_number b) ms
