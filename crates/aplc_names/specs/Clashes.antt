-- The refusals of a program whose names clash.
use Rattle.std.specs.Prelude.{◌≡◌, ◌<◌, ◌&&◌, ◌||◌, ℕ, Bool, true, false, List, map, Some, codes, find}
use Rattle.std.specs.List.{slice_get, list_any}
use Rattle.std.specs.Option.{option_map_or}
use Rattle.aplc_lex.specs.Tokens.{refusal}
use Rattle.aplc_lex.specs.declared.token.Refusal.{Refusal}
use Rattle.aplc_syntax.specs.Layout.{is_called}
use Rattle.aplc_syntax.specs.declared.tree.Named.{Named}
use Rattle.aplc_syntax.specs.declared.tree.Var.{Var}
use Rattle.aplc_syntax.specs.declared.tree.Program.{Program}
use Rattle.aplc_names.specs.declared.outline.Mention.{Mention}
use Rattle.aplc_names.specs.declared.outline.Outline.{Outline}
use Rattle.aplc_names.specs.Outlines.{outlines}
use Rattle.aplc_names.specs.Firsts.{Somewhere}
use Rattle.aplc_names.specs.Scopes.{function_names, Leads}
use Rattle.aplc_names.specs.Tables.{stands_in}

-- ---- Numbers

abbrev pub twice : ℕ
twice = 12

abbrev pub shadow : ℕ
shadow = 14

abbrev pub no_main : ℕ
no_main = 15

abbrev pub assigned : ℕ
assigned = 16

-- ---- Causes

-- the name at place k of a list stands before it too
pub record IsAgain (names : List Named) (k : ℕ) (x : Named) (r : Refusal) : Type 0 where
  pub index : ℕ
  pub item : Named
  pub found : slice_get names index ≡ Some item
  pub before : index < k
  pub same : item.name.0 ≡ x.name.0
  pub is : r ≡ refusal twice x.place

-- a name that is to be no function's is one's; hs are the names of the functions
pub record IsTaken (hs : List Named) (k : ℕ) (x : Named) (r : Refusal) : Type 0 where
  pub heads : stands_in x.name.0 hs ≡ true
  pub is : r ≡ refusal twice x.place

-- what is assigned is the name of a function, or a label where it stands
pub record IsAssigned (hs : List Named) (f : Outline) (k : ℕ) (m : Mention) (r : Refusal) : Type 0 where
  pub changed : m.assigned ≡ true
  pub fixed : (stands_in m.name.0 f.labels || stands_in m.name.0 hs) ≡ true
  pub is : r ≡ refusal assigned m.place

-- some function has the name as a local one, and its calls come to function i
pub record IsHidden (hs : List Named) (fs : List Outline) (i n : ℕ) : Type 0 where
  pub index : ℕ
  pub owner : Outline
  pub found : slice_get fs index ≡ Some owner
  pub local : stands_in n owner.locals ≡ true
  pub leads : Leads hs fs index i

-- a name in the lines of function i, with outline f, is global there and hidden by a caller; one that is assigned counts too
pub record IsShadowed (hs : List Named) (fs : List Outline) (i : ℕ) (f : Outline) (k : ℕ) (m : Mention) (r : Refusal) : Type 0 where
  pub no_function : stands_in m.name.0 hs ≡ false
  pub not_local : stands_in m.name.0 f.locals ≡ false
  pub hidden : IsHidden hs fs i m.name.0
  pub is : r ≡ refusal shadow m.place

abbrev pub is_main : List (List ℕ) → Outline → Bool
is_main ns f = is_called ns f.name.name.0 (codes "MAIN")

-- MAIN, as a function that neither takes nor gives anything
abbrev pub is_start : List (List ℕ) → Outline → Bool
is_start ns f = is_main ns f && f.bare

abbrev pub place_of : Outline → ℕ
place_of f = f.name.place

-- the place of the first function MAIN, or 0
abbrev pub main_place : List (List ℕ) → List Outline → ℕ
main_place ns fs = option_map_or place_of (find (is_main ns) fs) 0

-- no function MAIN is without arguments and result
pub record IsMainless (ns : List (List ℕ)) (fs : List Outline) (r : Refusal) : Type 0 where
  pub none : list_any (is_start ns) fs ≡ false
  pub is : r ≡ refusal no_main (main_place ns fs)

-- ---- Programs

abbrev pub var_name : Var → Named
var_name v = v.name

-- a refusal of a function, but for names that are hidden
pub data StandsIn (hs : List Named) (i : ℕ) (f : Outline) (r : Refusal) : Type 0 where
  local_again : Somewhere (IsAgain f.locals) f.locals r → StandsIn hs i f r
  local_taken : Somewhere (IsTaken hs) f.locals r → StandsIn hs i f r
  name_assigned : Somewhere (IsAssigned hs f) f.mentions r → StandsIn hs i f r

-- a function uses a name that is hidden
abbrev pub IsShadowedIn : List Named → List Outline → ℕ → Outline → Refusal → Type 0
IsShadowedIn hs fs i f r = Somewhere (IsShadowed hs fs i f) f.mentions r

-- a refusal of functions, of which hs are the names, and declared names
pub data StandsAmong (ns : List (List ℕ)) (vars hs : List Named) (fs : List Outline) (r : Refusal) : Type 0 where
  function_again : Somewhere (IsAgain hs) hs r → StandsAmong ns vars hs fs r
  var_again : Somewhere (IsAgain vars) vars r → StandsAmong ns vars hs fs r
  var_taken : Somewhere (IsTaken hs) vars r → StandsAmong ns vars hs fs r
  mainless : IsMainless ns fs r → StandsAmong ns vars hs fs r
  in_function : Somewhere (StandsIn hs) fs r → StandsAmong ns vars hs fs r
  in_shadow : Somewhere (IsShadowedIn hs fs) fs r → StandsAmong ns vars hs fs r

-- a refusal of a program
abbrev pub Stands : Program → Refusal → Type 0
Stands p r = StandsAmong p.names (map var_name p.vars) (function_names (outlines p)) (outlines p) r
