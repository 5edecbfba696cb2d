-- Facts in tables: what stands where, how often the facts can rise, and the family that they are.
use Rattle.std.specs.Prelude.{◌≡◌, ℕ, zero, suc, ◌+◌, Bool}
use Rattle.aplc_infer.specs.declared.fact.Inferred.{Inferred}
use Rattle.aplc_infer.specs.declared.fact.Inferred.TheVariants.{Unset}
use Rattle.aplc_infer.specs.declared.cell.Cell.TheVariants as cell
use Rattle.aplc_infer.specs.declared.tables.Spot.{Spot}
use Rattle.aplc_infer.specs.declared.tables.Spot.TheVariants.{Here, Hub}
use Rattle.aplc_infer.specs.declared.tables.Tables.{Tables}
use Rattle.aplc_infer.specs.Seeing.{Family, at}
use Rattle.aplc_infer.specs.Rising.{at3, room_row, room_blocks, Rises}

-- what stands at a spot of the tables; a function's row 0 is its hub, the others are its lines
abbrev pub look : Tables → Spot → Inferred
look t (Here (cell.Node n)) = at t.nodes n
look t (Here (cell.Global n)) = at t.globals n
look t (Here (cell.Left j)) = at t.lefts j
look t (Here (cell.Right j)) = at t.rights j
look t (Here (cell.Answer j)) = at t.answers j
look t (Here (cell.Start j zero k)) = Unset
look t (Here (cell.Start j (suc l) k)) = at3 t.rows (j, (suc l, k))
look t (Hub j k) = at3 t.rows (j, (0, k))

-- the family that tables are
abbrev pub family_of : Tables → Family
family_of t c = look t (Here c)

abbrev pub room_of : Tables → ℕ
room_of t = room_row t.nodes + room_row t.globals + room_row t.lefts + room_row t.rights + room_row t.answers + room_blocks t.rows

-- the spot of row l of function j
abbrev pub spot_in : ℕ → ℕ → ℕ → Spot
spot_in j zero k = Hub j k
spot_in j (suc l) k = Here (cell.Start j (suc l) k)

abbrev pub TablesRise : Tables → Tables → Spot → Inferred → Bool → Type 0
TablesRise old new s f rose = Rises Tables Spot look room_of old new s f rose

-- the same facts stand, whatever is remembered of what rose
pub record Forgets (old new : Tables) : Type 0 where
  pub same : (s : Spot) → look new s ≡ look old s
  pub room : room_of new ≡ room_of old
