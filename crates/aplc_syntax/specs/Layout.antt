-- Lines, functions, headers and declarations: what stands where in a text.
use Rattle.std.specs.Prelude.{ℕ, ◌&&◌, Bool, true, false, List, [], ◌∷◌, ◌++◌, map, filter_map, drop, Option, Some, None, option_map, is_some, ℤ, pos, bytes_eq, codes, nat_eq, nat_le, if◌then◌else◌}
use Rattle.std.specs.List.{slice_get}
use Rattle.aplc_scalar.specs.declared.kind.Kind.{Kind}
use Rattle.aplc_scalar.specs.declared.kind.Kind.TheVariants as kind
use Rattle.aplc_lex.specs.declared.token.Token.{Token}
use Rattle.aplc_syntax.specs.declared.tree.Named.{Named}
use Rattle.aplc_syntax.specs.declared.tree.Var.{Var}
use Rattle.aplc_syntax.specs.declared.word.Arity.{Arity}
use Rattle.aplc_syntax.specs.declared.word.Arity.TheVariants as arity
use Rattle.aplc_syntax.specs.declared.word.Role.{Role}
use Rattle.aplc_syntax.specs.declared.word.Role.TheVariants as role
use Rattle.aplc_syntax.specs.declared.word.Word.{Word}
use Rattle.aplc_syntax.specs.declared.word.WordKind.{WordKind}
use Rattle.aplc_syntax.specs.declared.word.WordKind.TheVariants as w
use Rattle.aplc_syntax.specs.Words.{words}
use Rattle.aplc_syntax.specs.Trees.{name_id}

-- ---- Lines

-- a line: its first byte, and its words without the line's end
pub record Row : Type 0 where
  pub start : ℕ
  pub words : List Word

-- the words of the first line, and the lines behind it
pub record Rows : Type 0 where
  pub first : List Word
  pub rest : List Row

abbrev pub row : ℕ → List Word → Row
row start ws = record { start = start; words = ws }

-- one more word before these lines: it is the end of the line before them, or stands in the first
abbrev pub before_rows : WordKind → Word → Rows → Rows
before_rows (w.LineEnd to) x rows = record { first = []; rest = row to rows.first ∷ rows.rest }
before_rows k x rows = record { first = x ∷ rows.first; rest = rows.rest }

abbrev pub cut : List Word → Rows
cut [] = record { first = []; rest = [] }
cut (x ∷ xs) = before_rows x.kind x (cut xs)

-- the lines that line ends part; behind the last line end stands one more, mostly an empty one
abbrev pub lines : List Word → List Row
lines ws = row 0 (cut ws).first ∷ (cut ws).rest

-- ---- Functions

abbrev pub begins_with_del : List Word → Bool
begins_with_del [] = false
begins_with_del (x ∷ xs) = is_del x.kind where
  is_del : WordKind → Bool
  is_del w.Del = true
  is_del _ = false

-- a function from the line of its header to the line that closes it, if one does
pub record Block : Type 0 where
  pub head : Row
  pub body : List Row
  pub closing : Option Row

abbrev pub block : Row → List Row → Option Row → Block
block head body closing = record { head = head; body = body; closing = closing }

-- a line outside functions, or a function
pub data Part : Type 0 where
  outside : Row → Part
  function : Block → Part

-- a line whose first word is a del opens a function where none is open, and else closes it
abbrev pub part : Bool → Row → Option (Row × List Row) → (Option (Row × List Row) → List Part) → List Part
part true r None later = later (Some (r, []))
part false r None later = outside r ∷ later None
part true r (Some (h, body)) later = function (block h body (Some r)) ∷ later None
part false r (Some (h, body)) later = later (Some (h, body ++ r ∷ []))

-- the parts of these lines, behind the lines of the function that is open, if one is
abbrev pub parts : List Row → Option (Row × List Row) → List Part
parts [] None = []
parts [] (Some (h, body)) = function (block h body None) ∷ []
parts (r ∷ rs) opened = part (begins_with_del r.words) r opened (parts rs)

-- all functions
abbrev pub blocks : List Part → List Block
blocks [] = []
blocks (outside r ∷ ps) = blocks ps
blocks (function b ∷ ps) = b ∷ blocks ps

-- all lines outside functions
abbrev pub outsides : List Part → List Row
outsides [] = []
outsides (outside r ∷ ps) = r ∷ outsides ps
outsides (function b ∷ ps) = outsides ps

-- the lines before the first function
abbrev pub above : List Part → List Row
above [] = []
above (outside r ∷ ps) = r ∷ above ps
above (function b ∷ ps) = []

-- the lines outside functions behind the first function
abbrev pub below : List Part → List Row
below [] = []
below (outside r ∷ ps) = below ps
below (function b ∷ ps) = outsides ps

-- the parts of a text
abbrev pub parts_of : List ℕ → List Token → List Part
parts_of text ts = parts (lines (words text ts)) None

-- ---- Headers

abbrev pub placed : Word → WordKind × ℕ
placed x = (x.kind, x.place)

abbrev pub named : ℕ → ℕ → Named
named n p = record { name = name_id n; place = p }

pub record Header : Type 0 where
  pub name : Named
  pub result : Option Named
  pub left : Option Named
  pub right : Option Named
  pub locals : List Named

-- any number of `;X`
abbrev pub locals : List (WordKind × ℕ) → Option (List Named)
locals [] = Some []
locals ((w.Semicolon, q) ∷ (w.Name r n, p) ∷ xs) = option_map (λ ns. named n p ∷ ns) (locals xs)
locals _ = None

-- `A F B`, `F B` or `F`, and then the local names
abbrev pub called : Option Named → List (WordKind × ℕ) → Option Header
called result ((w.Name ra a, pa) ∷ (w.Name rf f, pf) ∷ (w.Name rb b, pb) ∷ xs) =
    option_map (λ ns. record { name = named f pf; result = result; left = Some (named a pa); right = Some (named b pb); locals = ns }) (locals xs)
called result ((w.Name rf f, pf) ∷ (w.Name rb b, pb) ∷ xs) =
    option_map (λ ns. record { name = named f pf; result = result; left = None; right = Some (named b pb); locals = ns }) (locals xs)
called result ((w.Name rf f, pf) ∷ xs) =
    option_map (λ ns. record { name = named f pf; result = result; left = None; right = None; locals = ns }) (locals xs)
called result _ = None

-- `R←` first, if there is a result
abbrev pub header : List (WordKind × ℕ) → Option Header
header ((w.Name rr r, pr) ∷ (w.Assign, pa) ∷ xs) = called (Some (named r pr)) xs
header xs = called None xs

-- the header of a function, if what stands behind its del is one
abbrev pub header_of : Block → Option Header
header_of b = header (map placed (drop 1 b.head.words))

-- the well-formed headers
abbrev pub headers : List Part → List Header
headers ps = filter_map header_of (blocks ps)

-- ---- Names in statements

-- a name that heads two functions is known by the first
abbrev pub known : List Header → ℕ → Option Header
known [] n = None
known (h ∷ hs) n = if nat_eq h.name.name.0 n then Some h else known hs n

abbrev pub arity_of : Option Named → Option Named → Arity
arity_of None None = arity.Niladic
arity_of (Some a) None = arity.Monadic
arity_of None (Some b) = arity.Monadic
arity_of (Some a) (Some b) = arity.Dyadic

abbrev pub role_of : Option Header → Role
role_of None = role.Variable
role_of (Some h) = if is_some h.result then role.Function (arity_of h.left h.right) else role.Procedure (arity_of h.left h.right)

abbrev pub kind_in : List Header → WordKind → WordKind
kind_in hs (w.Name r n) = w.Name (role_of (known hs n)) n
kind_in hs k = k

-- a word where these headers are known
abbrev pub word_in : List Header → Word → Word
word_in hs x = record { kind = kind_in hs x.kind; place = x.place }

-- ---- Lines of functions

-- the first two words of a line, a name and a colon
abbrev pub label : List (WordKind × ℕ) → Option Named
label ((w.Name r n, p) ∷ (w.Colon, q) ∷ xs) = Some (named n p)
label _ = None

abbrev pub label_of : Row → Option Named
label_of r = label (map placed r.words)

-- what stands behind the label, where these headers are known
abbrev pub sentence : List Header → Row → List Word
sentence hs r = map (word_in hs) (if is_some (label_of r) then drop 2 r.words else r.words)

-- ---- Declarations

-- what a line before the first function says
pub data Declaration : Type 0 where
  nothing : Declaration
  origin : ℤ → Declaration
  var : Var → Declaration

-- name n has these bytes
abbrev pub is_called : List (List ℕ) → ℕ → List ℕ → Bool
is_called ns n name = is_same (slice_get ns n) where
  is_same : Option (List ℕ) → Bool
  is_same None = false
  is_same (Some bs) = bytes_eq bs name

abbrev pub origin_if : Bool → ℤ → Option Declaration
origin_if true (pos v) = if nat_le v 1 then Some (origin (pos v)) else None
origin_if _ _ = None

abbrev pub kind_named : List (List ℕ) → ℕ → Option Kind
kind_named ns n = if is_called ns n (codes "NUM") then Some kind.Num else (if is_called ns n (codes "CHAR") then Some kind.Char else None)

abbrev pub var_if : Bool → Named → Option Kind → ℤ → Option Declaration
var_if true n (Some k) (pos v) = if nat_le v 8 then Some (var (record { name = n; kind = k; rank = v })) else None
var_if _ n _ _ = None

-- what a line above the functions declares: an origin of 0 or 1, a name with its kind and a rank to 8, or nothing
abbrev pub declaration_in : List (List ℕ) → List (WordKind × ℕ) → Option Declaration
declaration_in ns [] = Some nothing
declaration_in ns ((w.Name ro o, po) ∷ (w.Number v, pv) ∷ []) = origin_if (is_called ns o (codes "ORIGIN")) v
declaration_in ns ((w.Name rv v, pv) ∷ (w.Name rn n, pn) ∷ (w.Name rk k, pk) ∷ (w.Name rr r, pr) ∷ (w.Number x, px) ∷ []) =
    var_if (is_called ns v (codes "VAR") && is_called ns r (codes "RANK")) (named n pn) (kind_named ns k) x
declaration_in ns _ = None

-- what a line says where these are the names of the text, if it is a declaration or empty
abbrev pub declaration : List (List ℕ) → Row → Option Declaration
declaration ns r = declaration_in ns (map placed r.words)

abbrev pub origin_of : Declaration → Option ℤ
origin_of nothing = None
origin_of (origin v) = Some v
origin_of (var x) = None

abbrev pub var_of : Declaration → Option Var
var_of nothing = None
var_of (origin v) = None
var_of (var x) = Some x
