-- What names are in functions, and which functions lead to which.
use Rattle.std.specs.Prelude.{◌≡◌, ◌+◌, ◌&&◌, ℕ, Bool, true, false, List, [], ◌∷◌, map, Option, Some, None, pos, codes, if◌then◌else◌}
use Rattle.std.specs.List.{slice_get}
use Rattle.std.specs.Option.{option_map_or}
use Rattle.aplc_syntax.specs.declared.tree.Named.{Named}
use Rattle.aplc_syntax.specs.declared.tree.Line.{Line}
use Rattle.aplc_syntax.specs.declared.tree.Function.{Function}
use Rattle.aplc_syntax.specs.declared.tree.Program.{Program}
use Rattle.aplc_syntax.specs.Layout.{is_called}
use Rattle.aplc_names.specs.declared.outline.Mention.{Mention}
use Rattle.aplc_names.specs.declared.outline.Outline.{Outline}
use Rattle.aplc_names.specs.declared.scope.Scope.{Scope}
use Rattle.aplc_names.specs.declared.scope.Scope.TheVariants as s
use Rattle.aplc_names.specs.Outlines.{header_names, is_bare}
use Rattle.aplc_names.specs.Tables.{is_named, first, stands_in}

-- ---- What a name is

abbrev pub own_name : Outline → Named
own_name f = f.name

-- the names of functions; where a name heads several, the first counts
abbrev pub function_names : List Outline → List Named
function_names fs = map own_name fs

-- the number of the first of these functions that has name n, where the first of them has number i
abbrev pub function_number : ℕ → ℕ → List Function → Option ℕ
function_number n i [] = None
function_number n i (f ∷ fs) = if is_named n f.name then Some i else function_number n (i + 1) fs

abbrev pub is_label : ℕ → Option Named → Bool
is_label n None = false
is_label n (Some x) = is_named n x

-- the number of the first of these lines that has label n, where the first of them has number i
abbrev pub label_line : ℕ → ℕ → List Line → Option ℕ
label_line n i [] = None
label_line n i (l ∷ ls) = if is_label n l.label then Some i else label_line n (i + 1) ls

abbrev pub local_or_global : Bool → Scope
local_or_global true = s.Local
local_or_global false = s.Global

abbrev pub label_or : Option ℕ → Scope → Scope
label_or None other = other
label_or (Some i) other = s.Label (pos i)

abbrev pub function_or : Option ℕ → Scope → Scope
function_or None other = other
function_or (Some i) other = s.Function i

-- what name n is in a function, where these are all functions: a function's name, else a label, else another local name,
-- else a global one
abbrev pub scope_in : List Function → Function → ℕ → Scope
scope_in fs f n = function_or (function_number n 0 fs) (label_or (label_line n 1 f.lines) (local_or_global (stands_in n (header_names f))))

-- what name n is in function i of a program, and a global name where there is no such function
abbrev pub scope_of : Program → ℕ → ℕ → Scope
scope_of p i n = option_map_or (λ f. scope_in p.functions f n) (slice_get p.functions i) s.Global

-- what a scope of name n in function i stands for: a function of this name, or a line of this label
abbrev pub IsScope : Program → ℕ → ℕ → Scope → Type 0
IsScope p i n (s.Function j) = (g : Function) × (slice_get p.functions j ≡ Some g) × (g.name.name.0 ≡ n)
IsScope p i n (s.Label k) = (f : Function) × (l : Line) × (x : Named) × (j : ℕ) × (slice_get p.functions i ≡ Some f) × (slice_get f.lines j ≡ Some l) × (k ≡ pos (j + 1)) × (l.label ≡ Some x) × (x.name.0 ≡ n)
IsScope p i n s.Local = Unit {0}
IsScope p i n s.Global = Unit {0}

-- ---- MAIN

-- a function MAIN without arguments and result, where these are the names of the program
abbrev pub starts : List (List ℕ) → Function → Bool
starts ns f = is_called ns f.name.name.0 (codes "MAIN") && is_bare f

-- the number of the first such function, where the first of these has number i
abbrev pub start_from : List (List ℕ) → ℕ → List Function → Option ℕ
start_from ns i [] = None
start_from ns i (f ∷ fs) = if starts ns f then Some i else start_from ns (i + 1) fs

-- the number of the function where a program starts
abbrev pub start_of : Program → Option ℕ
start_of p = start_from p.names 0 p.functions

-- ---- Calls

-- a name of function j stands in the lines of function i
pub record Names (hs : List Named) (fs : List Outline) (i j : ℕ) : Type 0 where
  pub caller : Outline
  pub found : slice_get fs i ≡ Some caller
  pub index : ℕ
  pub said : Mention
  pub stands : slice_get caller.mentions index ≡ Some said
  pub heads : first said.name.0 hs ≡ Some j

-- calls lead from function i to function j: i names j, or names a function from which calls lead to j
pub data Leads (hs : List Named) (fs : List Outline) : ℕ → ℕ → Type 0 where
  directly : {i j : ℕ} → Names hs fs i j → Leads hs fs i j
  over : {i k j : ℕ} → Leads hs fs i k → Names hs fs k j → Leads hs fs i j
