-- Tokens as words: names by their numbers, symbols by what they are to the grammar, texts by their characters.
use Rattle.std.specs.Prelude.{ℕ, ◌+◌, ◌-◌, ◌≤◌, ◌<◌, IsUtf8, ◌&&◌, Bool, true, false, List, [], ◌∷◌, ◌++◌, length, map, fold, take, drop, zip, bytes_eq, chars, codes, nat_eq, if◌then◌else◌}
use Rattle.std.specs.List.{list_any, position_or_len}
use Rattle.aplc_scalar.specs.declared.function.ScalarFn.TheVariants as f
use Rattle.aplc_lex.specs.declared.token.Token.{Token}
use Rattle.aplc_lex.specs.declared.token.TokenKind.{TokenKind}
use Rattle.aplc_lex.specs.declared.token.TokenKind.TheVariants as k
use Rattle.aplc_syntax.specs.declared.tree.Axis.TheVariants as ax
use Rattle.aplc_syntax.specs.declared.tree.Primitive.TheVariants as pr
use Rattle.aplc_syntax.specs.declared.word.Role.TheVariants as role
use Rattle.aplc_syntax.specs.declared.word.Stroke.TheVariants as stroke
use Rattle.aplc_syntax.specs.declared.word.Word.{Word}
use Rattle.aplc_syntax.specs.declared.word.WordKind.{WordKind}
use Rattle.aplc_syntax.specs.declared.word.WordKind.TheVariants as w

-- ---- Names

-- the bytes from one place up to another
abbrev pub slice : List ℕ → ℕ → ℕ → List ℕ
slice text from to = take (to - from) (drop from text)

-- the bytes of a token
abbrev pub spelling : List ℕ → Token → List ℕ
spelling text t = slice text t.span.from t.span.to

abbrev pub is_name : TokenKind → Bool
is_name k.Name = true
is_name _ = false

-- one more name, unless it was met before
abbrev pub with_name : List (List ℕ) → List ℕ → List (List ℕ)
with_name seen name = if list_any (bytes_eq name) seen then seen else seen ++ name ∷ []

-- the names met before, and the name of a token if it is one
abbrev pub with_token : List ℕ → List (List ℕ) → Token → List (List ℕ)
with_token text seen t = if is_name t.kind then with_name seen (spelling text t) else seen

-- the names of a text, each once, in the order in which they first stand there
abbrev pub names_in : List ℕ → List Token → List (List ℕ)
names_in text ts = fold (with_token text) [] ts

-- the number of a name: its place among these
abbrev pub number_of : List (List ℕ) → List ℕ → ℕ
number_of known name = position_or_len (bytes_eq name) known

-- ---- Symbols

-- the symbols, and what each is to the grammar
abbrev pub signs : List (ℕ × WordKind)
signs =
    zip (codes "+-×⌈⌊|") (w.Arith f.Add ∷ w.Arith f.Sub ∷ w.Arith f.Mul ∷ w.Arith f.Max ∷ w.Arith f.Min ∷ w.Arith f.Residue ∷ [])
    ++ (zip (codes "<≤=≥>≠") (w.Compare f.Less ∷ w.Compare f.LessEq ∷ w.Compare f.Equal ∷ w.Compare f.GreaterEq ∷ w.Compare f.Greater ∷ w.Compare f.NotEqual ∷ [])
    ++ (zip (codes "∧∨⍲⍱~") (w.Compare f.And ∷ w.Compare f.Or ∷ w.Compare f.Nand ∷ w.Compare f.Nor ∷ w.Not ∷ [])
    ++ (zip (codes "⍴,⍳⍉↑↓∊") (w.Both pr.Shape ∷ w.Both pr.Ravel ∷ w.Both pr.Iota ∷ w.Both pr.Transpose ∷ w.Dyadic pr.Take ∷ w.Dyadic pr.Drop ∷ w.Dyadic pr.Member ∷ [])
    ++ (zip (codes "⌽⊖") (w.Turn ax.Last ∷ w.Turn ax.First ∷ [])
    ++ (zip (codes "/⌿\\⍀") (w.Stroke stroke.Slash ax.Last ∷ w.Stroke stroke.Slash ax.First ∷ w.Stroke stroke.Backslash ax.Last ∷ w.Stroke stroke.Backslash ax.First ∷ [])
    ++ (zip (codes "∘.←→()[];:") (w.Jot ∷ w.Dot ∷ w.Assign ∷ w.Branch ∷ w.Open ∷ w.Close ∷ w.OpenBracket ∷ w.CloseBracket ∷ w.Semicolon ∷ w.Colon ∷ [])
    ++ zip (codes "⍞⎕∇") (w.TextInput ∷ w.Quad ∷ w.Del ∷ [])))))))

abbrev pub sign_in : ℕ → List (ℕ × WordKind) → WordKind
sign_in c [] = w.Other
sign_in c ((d, x) ∷ rest) = if nat_eq c d then x else sign_in c rest

-- what a symbol is to the grammar
unfoldable pub sign : ℕ → WordKind
sign c = sign_in c signs

-- ---- Words

abbrev pub word : WordKind → ℕ → Word
word kind place = record { kind = kind; place = place }

abbrev pub kind_of : List ℕ → List (List ℕ) → Token → TokenKind → WordKind
kind_of text known t k.Name = w.Name role.Variable (number_of known (spelling text t))
kind_of text known t (k.Number v) = w.Number v
kind_of text known t k.Text = w.Text t.span.to
kind_of text known t k.NumsInput = w.NumsInput
kind_of text known t (k.Symbol c) = sign c
kind_of text known t k.LineEnd = w.LineEnd t.span.to

-- a token as a word; each name is a variable's as yet
abbrev pub word_of : List ℕ → List (List ℕ) → Token → Word
word_of text known t = word (kind_of text known t t.kind) t.span.from

abbrev pub words : List ℕ → List Token → List Word
words text ts = map (word_of text (names_in text ts)) ts

-- ---- Texts

-- the characters, where two quotes side by side are one
abbrev pub undoubled : List ℕ → List ℕ
undoubled [] = []
undoubled (c ∷ []) = c ∷ []
undoubled (c ∷ d ∷ cs) = if nat_eq c 39 && nat_eq d 39 then c ∷ undoubled cs else c ∷ undoubled (d ∷ cs)

-- the characters of the text whose quotes are the first and the last of these bytes
abbrev pub text_between : List ℕ → ℕ → ℕ → List ℕ
text_between text from to = undoubled (chars (slice text (from + 1) (to - 1)))

-- ---- Words in a text

-- a text at this place, up to its end, has two quotes in these bytes, and UTF-8 between them
abbrev pub IsQuoted : List ℕ → ℕ → WordKind → Type 0
IsQuoted text p (w.Text to) = (p + 2 ≤ to) × (to ≤ length text) × IsUtf8 (slice text (p + 1) (to - 1))
IsQuoted text p k = Unit {0}

-- words stand in a text from place p on, each behind the one before it
abbrev pub Laid : List ℕ → ℕ → List Word → Type 0
Laid text p [] = Unit {0}
Laid text p (x ∷ xs) = (p ≤ x.place) × (x.place < length text) × IsQuoted text x.place x.kind × Laid text (x.place + 1) xs
