-- What the builder holds, without addresses.
use Rattle.std.specs.Prelude.{List, Option, Some, None, Bool, true, false, map}
use Rattle.aplc_syntax.specs.declared.tree.Node.{Node}
use Rattle.aplc_syntax.specs.declared.items.Item.{Item}
use Rattle.aplc_syntax.specs.declared.items.Item.TheVariants as i
use Rattle.aplc_syntax.specs.declared.items.Entries.{Entries}
use Rattle.aplc_syntax.specs.Building.{Made, tree, named, vector, element, Built, built}

abbrev pub made_of : Item → Made
made_of (i.Tree x) = tree x
made_of (i.Named c p n) = named c p n
made_of (i.Vector p xs) = vector p xs.items
made_of (i.Element c p n q xs) = element c p n q xs.items

abbrev pub entries_of : Entries → List (Option Node)
entries_of x = x.items.items

abbrev pub built_of : List Item → List Entries → Built
built_of made lists = built (map made_of made) (map entries_of lists)

-- what is built, or nothing
abbrev pub done : Bool → Built → Option Built
done true b = Some b
done false b = None
