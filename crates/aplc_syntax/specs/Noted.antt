-- What the lines, functions and declarations that code holds are refused for, and what they become.
use Rattle.std.specs.Prelude.{ℕ, All, List, [], ◌∷◌, map, Option, Some, None, ℤ, pos}
use Rattle.std.specs.List.{slice_get}
use Rattle.aplc_lex.specs.Tokens.{refusal}
use Rattle.aplc_lex.specs.declared.token.Refusal.{Refusal}
use Rattle.aplc_syntax.specs.declared.tree.Line.{Line}
use Rattle.aplc_syntax.specs.declared.tree.Function.{Function}
use Rattle.aplc_syntax.specs.declared.layout.Row.{Row as HeldRow}
use Rattle.aplc_syntax.specs.declared.layout.DelRow.{DelRow}
use Rattle.aplc_syntax.specs.declared.layout.Block.{Block as HeldBlock}
use Rattle.aplc_syntax.specs.declared.header.Header.{Header as HeldHeader}
use Rattle.aplc_syntax.specs.declared.word.Word.{Word}
use Rattle.aplc_syntax.specs.Words.{Laid}
use Rattle.aplc_syntax.specs.Layout.{Row, Block, Header, sentence}
use Rattle.aplc_syntax.specs.Programs.{IsLine, IsFunction}
use Rattle.aplc_syntax.specs.Refusals.{StandsIn, bad_header, high_count}
use Rattle.aplc_syntax.specs.Held.{row_of, block_of, header_of_held}
use Rattle.aplc_syntax.specs.Causes.{OfBlock}

-- the headers that are held
abbrev pub headers_of : List HeldHeader → List Header
headers_of hs = map header_of_held hs

abbrev pub LineStands : List Header → HeldRow → Refusal → Type 0
LineStands hs r s = StandsIn (sentence hs (row_of r)) s

abbrev pub LineIs : List ℕ → List Header → HeldRow → Line → Type 0
LineIs text hs r l = IsLine text hs (row_of r) l

abbrev pub BlockStands : List Header → HeldBlock → Refusal → Type 0
BlockStands hs b s = OfBlock hs (block_of b) s

abbrev pub BlockIs : List ℕ → List Header → HeldBlock → Function → Type 0
BlockIs text hs b f = IsFunction text hs (block_of b) f

-- the words of lines stand in a text
abbrev pub RowsLaid : List ℕ → List Row → Type 0
RowsLaid text rs = All (λ (r : Row). Laid text 0 r.words) rs

abbrev pub BlocksLaid : List ℕ → List Block → Type 0
BlocksLaid text bs = All (λ (b : Block). RowsLaid text b.body) bs

-- the refusal of a line that should have a del alone
abbrev pub more_cause : ℕ → List Word → Option Refusal
more_cause p [] = None
more_cause p (x ∷ ws) = Some (refusal bad_header p)

-- the refusal of the line that closes a function whose del is at p, or that there is none
abbrev pub end_cause : ℕ → Option DelRow → Option Refusal
end_cause p None = Some (refusal bad_header p)
end_cause p (Some r) = more_cause r.del r.rest

-- the refusal of a header, if it is none
abbrev pub head_cause : ℕ → Option HeldHeader → Option Refusal
head_cause p None = Some (refusal bad_header p)
head_cause p (Some h) = None

abbrev pub row_cause : Option HeldRow → Option Refusal
row_cause None = None
row_cause (Some r) = Some (refusal high_count r.start)

-- the refusal of line 1,000
abbrev pub line_cause : List HeldRow → Option Refusal
line_cause rs = row_cause (slice_get rs 999)

abbrev pub block_cause : Option HeldBlock → Option Refusal
block_cause None = None
block_cause (Some b) = Some (refusal high_count b.head.start)

-- the refusal of a 1,000th function
abbrev pub function_cause : List HeldBlock → Option Refusal
function_cause bs = block_cause (slice_get bs 999)

-- the index origin where this is declared, if any is
abbrev pub origin_or : Option ℤ → ℤ
origin_or None = pos 1
origin_or (Some v) = v
