-- Small sources written as pieces, so that a text and its tokens agree.
use Rattle.std.proofs.Common.{ℕ, ◌+◌, List, [], ◌∷◌, ◌++◌, ℤ, pos, length, Option, Some, None}
use Rattle.std.specs.Prelude.{codes, encode_utf8_all, flat_map}
use Rattle.aplc_lex.specs.declared.token.Token.{Token}
use Rattle.aplc_lex.specs.declared.token.TokenKind.{TokenKind}
use Rattle.aplc_lex.specs.declared.token.TokenKind.TheVariants as k
use Rattle.aplc_lex.specs.Tokens.{token}
use Rattle.aplc_syntax.specs.declared.word.Word.{Word}
use Rattle.aplc_syntax.specs.Layout.{Row, Block, Part, parts_of, blocks, headers, sentence}

-- a blank, or a token, by the characters that spell it
pub data Piece : Type 0 where
  blank : Piece
  piece : TokenKind → List ℕ → Piece

abbrev pub piece_bytes : Piece → List ℕ
piece_bytes blank = codes " "
piece_bytes (piece kind cs) = encode_utf8_all cs

abbrev pub source : List Piece → List ℕ
source ps = flat_map piece_bytes ps

abbrev pub put : Piece → ℕ → ℕ → List Token → List Token
put blank n p ts = ts
put (piece kind cs) n p ts = token kind p n ∷ ts

abbrev pub tokens_from : List Piece → ℕ → List Token
tokens_from [] p = []
tokens_from (x ∷ xs) p = put x (length (piece_bytes x)) p (tokens_from xs (p + length (piece_bytes x)))

abbrev pub tokens_of : List Piece → List Token
tokens_of ps = tokens_from ps 0

-- the pieces of one line
abbrev pub nm : List ℕ → Piece
nm cs = piece k.Name cs

abbrev pub num : ℤ → List ℕ → Piece
num v cs = piece (k.Number v) cs

abbrev pub digit : ℕ → Piece
digit n = num (pos n) ((n + 48) ∷ [])

abbrev pub text : List ℕ → Piece
text cs = piece k.Text cs

-- the symbol that is the first of these characters
abbrev pub sym : List ℕ → Piece
sym [] = blank
sym (c ∷ cs) = piece (k.Symbol c) (c ∷ [])

-- the end of a line
abbrev pub nl : Piece
nl = piece k.LineEnd (10 ∷ [])

-- the lines of a function MAIN around these
abbrev pub main : List Piece → List Piece
main ps = sym (codes "∇") ∷ nm (codes "MAIN") ∷ nl ∷ (ps ++ nl ∷ sym (codes "∇") ∷ nl ∷ [])

abbrev pub parts_in : List Piece → List Part
parts_in ps = parts_of (source ps) (tokens_of ps)

abbrev pub first_row : List Row → Option Row
first_row [] = None
first_row (r ∷ rs) = Some r

abbrev pub first_line : List Block → Option Row
first_line [] = None
first_line (b ∷ bs) = first_row b.body

abbrev pub words_of_row : List Part → Option Row → List Word
words_of_row ps None = []
words_of_row ps (Some r) = sentence (headers ps) r

-- the words of the first line of the first function
abbrev pub first_words : List Piece → List Word
first_words ps = words_of_row (parts_in ps) (first_line (blocks (parts_in ps)))
