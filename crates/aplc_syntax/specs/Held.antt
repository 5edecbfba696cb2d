-- What the lines, functions and headers that code holds stand for, and what is left of a text behind them.
use Rattle.std.specs.Prelude.{◌≡◌, ℕ, List, [], ◌∷◌, ◌++◌, map, Option, Some, None, option_map}
use Rattle.std.specs.List.{slice_get}
use Rattle.aplc_syntax.specs.declared.tree.Named.{Named}
use Rattle.aplc_syntax.specs.declared.layout.Row.{Row as HeldRow}
use Rattle.aplc_syntax.specs.declared.layout.DelRow.{DelRow}
use Rattle.aplc_syntax.specs.declared.layout.Block.{Block as HeldBlock}
use Rattle.aplc_syntax.specs.declared.layout.Parts.{Parts}
use Rattle.aplc_syntax.specs.declared.layout.Opened.{Opened}
use Rattle.aplc_syntax.specs.declared.layout.Layout.{Layout}
use Rattle.aplc_syntax.specs.declared.layout.Cutter.{Cutter}
use Rattle.aplc_syntax.specs.declared.header.Header.{Header as HeldHeader}
use Rattle.aplc_syntax.specs.declared.header.Declaration.{Declaration as HeldDeclaration}
use Rattle.aplc_syntax.specs.declared.header.Declaration.TheVariants as d
use Rattle.aplc_syntax.specs.declared.word.Role.{Role}
use Rattle.aplc_syntax.specs.declared.word.Role.TheVariants as role
use Rattle.aplc_syntax.specs.declared.word.Word.{Word}
use Rattle.aplc_syntax.specs.declared.word.WordKind.{WordKind}
use Rattle.aplc_syntax.specs.declared.word.WordKind.TheVariants as w
use Rattle.aplc_syntax.specs.Words.{word}
use Rattle.aplc_syntax.specs.Layout.{Row, row, cut, Block, block, Part, outsides, blocks, above, below, parts, Header, named, locals, Declaration, nothing, origin, var, role_of, known}

-- ---- Lines and functions

abbrev pub row_of : HeldRow → Row
row_of r = row r.start r.words

abbrev pub del_row_of : DelRow → Row
del_row_of r = row r.start (word w.Del r.del ∷ r.rest)

abbrev pub block_of : HeldBlock → Block
block_of b = block (del_row_of b.head) (map row_of b.body) (option_map del_row_of b.closing)

abbrev pub opened_of : Option Opened → Option (Row × List Row)
opened_of None = None
opened_of (Some x) = Some (del_row_of x.head, map row_of x.body.items)

-- the parts of a text by their kinds
pub record Sorted : Type 0 where
  pub above : List Row
  pub blocks : List Block
  pub below : List Row

abbrev pub sorted : List Part → Sorted
sorted ps = record { above = above ps; blocks = blocks ps; below = below ps }

-- these kinds, and behind them further parts
abbrev pub sorted_behind : List Row → List Block → List Row → List Part → Sorted
sorted_behind a [] b ps = record { above = a ++ above ps; blocks = blocks ps; below = b ++ below ps }
sorted_behind a (x ∷ bs) b ps = record { above = a; blocks = (x ∷ bs) ++ blocks ps; below = b ++ outsides ps }

abbrev pub parts_behind : Parts → List Part → Sorted
parts_behind x ps = sorted_behind (map row_of x.above.items) (map block_of x.blocks.items) (map row_of x.below.items) ps

-- what comes of a layout and the lines behind it
abbrev pub laid_out : Layout → List Row → Sorted
laid_out x rs = parts_behind x.parts (parts rs (opened_of x.opened))

-- the lines of these words, where a line is open that starts there and has these words
abbrev pub lines_behind : ℕ → List Word → List Word → List Row
lines_behind start line ws = row start (line ++ (cut ws).first) ∷ (cut ws).rest

-- what comes of a cutter and the words behind it
abbrev pub cut_out : Cutter → List Word → Sorted
cut_out c ws = laid_out c.layout (lines_behind c.start c.line.items ws)

abbrev pub sorted_of : Parts → Sorted
sorted_of x = record { above = map row_of x.above.items; blocks = map block_of x.blocks.items; below = map row_of x.below.items }

-- ---- Headers and declarations

abbrev pub header_of_held : HeldHeader → Header
header_of_held h = record { name = h.name; result = h.result; left = h.left; right = h.right; locals = h.locals }

-- a header of these names, and then the local names
abbrev pub headed : Option Named → Option Named → Named → Option Named → List (WordKind × ℕ) → Option Header
headed res left name right xs = option_map (λ ns. record { name = name; result = res; left = left; right = right; locals = ns }) (locals xs)

-- the same behind two names
abbrev pub called_two : Option Named → Named → Named → List (WordKind × ℕ) → Option Header
called_two res a f ((w.Name r b, p) ∷ xs) = headed res (Some a) f (Some (named b p)) xs
called_two res a f xs = headed res None a (Some f) xs

-- and behind one
abbrev pub called_one : Option Named → Named → List (WordKind × ℕ) → Option Header
called_one res a ((w.Name r n, p) ∷ xs) = called_two res a (named n p) xs
called_one res a xs = headed res None a None xs

abbrev pub declared_of : HeldDeclaration → Declaration
declared_of d.Nothing = nothing
declared_of (d.Origin v) = origin v
declared_of (d.Var x) = var x

-- ---- Roles

-- the role of a name where the roles of the names are these
abbrev pub role_at : List Role → ℕ → Role
role_at roles n = role_or (slice_get roles n) where
  role_or : Option Role → Role
  role_or None = role.Variable
  role_or (Some r) = r

-- these roles are those of the headers
abbrev pub AreRoles : List Role → List Header → Type 0
AreRoles roles hs = (n : ℕ) → role_at roles n ≡ role_of (known hs n)
