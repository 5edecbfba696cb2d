-- Lists of names, and where a name first stands in one.
use Rattle.std.specs.Prelude.{◌≡◌, ℕ, Bool, List, Option, Some, None, true, false, nat_eq, position}
use Rattle.std.specs.List.{list_any}
use Rattle.std.specs.Ordering.{nat_cmp}
use Rattle.std.specs.BTreeMap.{BTreeMap, get}
use Rattle.aplc_syntax.specs.declared.tree.Named.{Named}

-- a name with its place is name n
abbrev pub is_named : ℕ → Named → Bool
is_named n x = nat_eq x.name.0 n

-- where name n first stands in a list
abbrev pub first : ℕ → List Named → Option ℕ
first n xs = position (is_named n) xs

-- name n stands in a list
abbrev pub stands_in : ℕ → List Named → Bool
stands_in n xs = list_any (is_named n) xs

-- a map tells where each name first stands
abbrev pub IsIndex : List Named → BTreeMap ℕ ℕ → Type 0
IsIndex xs m = (n : ℕ) → get nat_cmp m n ≡ first n xs

-- what was found before, or this place if it is one
abbrev pub found_or : Option ℕ → Bool → ℕ → Option ℕ
found_or None true k = Some k
found_or None false k = None
found_or (Some i) b k = Some i
