-- The refusals of a text and its tokens, and the first of them.
use Rattle.std.specs.Prelude.{◌≡◌, ◌<◌, ℕ, List, [], ◌∷◌, Contains, Option, Some, None, Bool, true, false, if◌then◌else◌}
use Rattle.std.specs.List.{slice_get}
use Rattle.aplc_lex.specs.Firsts.{refusal}
pub use Rattle.aplc_lex.specs.Firsts.{IsFirst, SaysFirst}
use Rattle.aplc_lex.specs.declared.token.Token.{Token}
use Rattle.aplc_lex.specs.declared.token.Refusal.{Refusal}
use Rattle.aplc_lex.specs.declared.token.Stop.{Stop}
use Rattle.aplc_syntax.specs.declared.word.Arity.TheVariants as arity
use Rattle.aplc_syntax.specs.declared.word.Role.{Role}
use Rattle.aplc_syntax.specs.declared.word.Role.TheVariants as role
use Rattle.aplc_syntax.specs.declared.word.Word.{Word}
use Rattle.aplc_syntax.specs.declared.word.WordKind.{WordKind}
use Rattle.aplc_syntax.specs.declared.word.WordKind.TheVariants as w
use Rattle.aplc_syntax.specs.Words.{names_in}
use Rattle.aplc_syntax.specs.Grammar.{Sentence, spell}
use Rattle.aplc_syntax.specs.Trees.{nodes_of}
use Rattle.aplc_syntax.specs.Layout.{Row, Block, origin, parts_of, blocks, above, below, header_of, headers, sentence, declaration}
use Rattle.aplc_syntax.specs.Programs.{too_deep}

-- ---- Numbers

abbrev pub bad_header : ℕ
bad_header = 6

abbrev pub bad_form : ℕ
bad_form = 7

abbrev pub deep_nesting : ℕ
deep_nesting = 8

abbrev pub many_nodes : ℕ
many_nodes = 9

abbrev pub high_count : ℕ
high_count = 10

abbrev pub bad_declaration : ℕ
bad_declaration = 11

abbrev pub no_function : ℕ
no_function = 13

-- ---- A statement

-- no function, or one without arguments
abbrev pub takes_nothing : Role → Bool
takes_nothing role.Variable = true
takes_nothing (role.Function arity.Niladic) = true
takes_nothing (role.Procedure arity.Niladic) = true
takes_nothing _ = false

-- words with which an argument can begin; of names those of functions with arguments cannot
abbrev pub begins_argument : WordKind → Bool
begins_argument (w.Number v) = true
begins_argument (w.Text to) = true
begins_argument w.Open = true
begins_argument w.TextInput = true
begins_argument w.NumsInput = true
begins_argument (w.Name r n) = takes_nothing r
begins_argument _ = false

-- the name of a variable in front of something that could be a function's argument
abbrev pub is_stray : WordKind → WordKind → Bool
is_stray (w.Name role.Variable n) k = begins_argument k
is_stray _ k = false

-- where such a name first stands
abbrev pub stray : List Word → Option ℕ
stray [] = None
stray (x ∷ []) = None
stray (x ∷ y ∷ ws) = if is_stray x.kind y.kind then Some x.place else stray (y ∷ ws)

-- a refusal of a statement
pub data StandsIn : List Word → Refusal → Type 0 where
  deep : {ws : List Word} {p : ℕ} → too_deep ws 0 ≡ Some p → StandsIn ws (refusal deep_nesting p)
  strayed : {ws : List Word} {p : ℕ} → stray ws ≡ Some p → StandsIn ws (refusal no_function p)
  formless : {x : Word} {ws : List Word} → too_deep (x ∷ ws) 0 ≡ None → stray (x ∷ ws) ≡ None → ((s : Sentence) → x ∷ ws ≡ spell s → ⊥) → StandsIn (x ∷ ws) (refusal bad_form x.place)
  too_many : {x : Word} {ws : List Word} → too_deep (x ∷ ws) 0 ≡ None → (s : Sentence) → x ∷ ws ≡ spell s → 256 < nodes_of s → StandsIn (x ∷ ws) (refusal many_nodes x.place)

-- what an error says of the words of a statement
abbrev pub RefusesIn : List Word → Stop → Type 0
RefusesIn ws e = SaysFirst (StandsIn ws) e

-- ---- A text

-- the first word of a line is at this place
abbrev pub BeginsAt : Row → ℕ → Type 0
BeginsAt r p = (x : Word) × (ws : List Word) × (r.words ≡ x ∷ ws) × (p ≡ x.place)

-- a line that declares an index origin
abbrev pub DeclaresOrigin : List (List ℕ) → Row → Type 0
DeclaresOrigin ns r = (v : _) × (declaration ns r ≡ Some (origin v))

-- a refusal of a text and its tokens
pub data Stands (text : List ℕ) (ts : List Token) : Refusal → Type 0 where
  misheaded : {b : Block} {p : ℕ} → Contains (blocks (parts_of text ts)) b → header_of b ≡ None → BeginsAt b.head p → Stands text ts (refusal bad_header p)
  misclosed : {b : Block} {r : Row} {x y : Word} {ws : List Word} → Contains (blocks (parts_of text ts)) b → b.closing ≡ Some r → r.words ≡ x ∷ y ∷ ws → Stands text ts (refusal bad_header x.place)
  unclosed : {b : Block} {p : ℕ} → Contains (blocks (parts_of text ts)) b → b.closing ≡ None → BeginsAt b.head p → Stands text ts (refusal bad_header p)
  in_statement : {b : Block} {r : Row} {s : Refusal} → Contains (blocks (parts_of text ts)) b → Contains b.body r → StandsIn (sentence (headers (parts_of text ts)) r) s → Stands text ts s
  line_1000 : {b : Block} {r : Row} → Contains (blocks (parts_of text ts)) b → slice_get b.body 999 ≡ Some r → Stands text ts (refusal high_count r.start)
  function_1000 : {b : Block} → slice_get (blocks (parts_of text ts)) 999 ≡ Some b → Stands text ts (refusal high_count b.head.start)
  undeclared : {r : Row} {p : ℕ} → Contains (above (parts_of text ts)) r → declaration (names_in text ts) r ≡ None → BeginsAt r p → Stands text ts (refusal bad_declaration p)
  second_origin : {i j : ℕ} {q r : Row} {p : ℕ} → i < j → slice_get (above (parts_of text ts)) i ≡ Some q → slice_get (above (parts_of text ts)) j ≡ Some r → DeclaresOrigin (names_in text ts) q → DeclaresOrigin (names_in text ts) r → BeginsAt r p → Stands text ts (refusal bad_declaration p)
  not_bare : {r : Row} {p : ℕ} → Contains (below (parts_of text ts)) r → BeginsAt r p → Stands text ts (refusal bad_declaration p)

-- what an error says of a text and its tokens: their first refusal, or nothing but that memory was wanting
abbrev pub Refuses : List ℕ → List Token → Stop → Type 0
Refuses text ts e = SaysFirst (Stands text ts) e
