-- Small programs whose names clash, computed.
use Rattle.std.proofs.Common.{◌≡◌, ◌∙◌, ◌++◌, sym, ap, ap₂, subst, refl, ℕ, List, [], ◌∷◌, None, Some, true, false, arith, pos}
use Rattle.std.specs.Prelude.{codes}
use Rattle.aplc_lex.specs.Tokens.{refusal}
use Rattle.aplc_syntax.specs.declared.tree.Form.TheVariants as v
use Rattle.aplc_syntax.specs.declared.tree.Function.{Function}
use Rattle.aplc_syntax.specs.declared.tree.Named.{Named}
use Rattle.aplc_syntax.specs.declared.tree.Program.{Program}
use Rattle.aplc_syntax.specs.declared.tree.Statement.TheVariants as st
use Rattle.aplc_syntax.specs.Trees.{node, name_id}
use Rattle.aplc_syntax.specs.Layout.{named}
use Rattle.aplc_names.specs.declared.outline.Mention.{Mention}
use Rattle.aplc_names.specs.declared.outline.Outline.{Outline}
use Rattle.aplc_names.specs.declared.scope.Scope.TheVariants as scope
use Rattle.aplc_syntax.specs.PlainTrees.{Tree}
use Rattle.aplc_syntax.specs.PlainTrees as t
use Rattle.aplc_names.specs.Outlines.{mention, outlines, lines_mentions, tree_mentions}
use Rattle.aplc_names.specs.Scopes.{function_names, scope_of, start_of, Leads, directly, over}
use Rattle.aplc_names.specs.Clashes.{StandsAmong, function_again, var_again, var_taken, mainless, in_function, in_shadow, local_again, local_taken, name_assigned, Stands}
use Rattle.aplc_syntax.proofs.PlainForms.{numbers_node, name_node, assign_node, call_node}

abbrev said : ℕ → ℕ → Mention
said n p = mention (name_id n) p false

abbrev given : ℕ → ℕ → Mention
given n p = mention (name_id n) p true

-- a function without arguments, result and labels
abbrev plain : ℕ → ℕ → List Named → List Mention → Outline
plain n p locals mentions = record { name = named n p; bare = true; locals = locals; labels = []; mentions = mentions }

-- a refusal of functions and declared names, where names 0, 1 and 2 are MAIN, X and F
abbrev Refuses : List Named → List Outline → ℕ → ℕ → Type 0
Refuses vars fs n p = StandsAmong (codes "MAIN" ∷ codes "X" ∷ codes "F" ∷ codes "G" ∷ []) vars (function_names fs) fs (refusal n p)

-- ---- A name that a caller hides

abbrev caller : Outline
caller = plain 0 3 (named 1 8 ∷ []) (given 1 10 ∷ said 2 16 ∷ [])

abbrev user : Outline
user = plain 2 25 [] (said 1 27 ∷ [])

-- MAIN, to which X is local, calls F, and F uses X
pub hidden_name : Refuses [] (caller ∷ user ∷ []) 14 27
hidden_name = in_shadow (record {
  index = 1;
  item = user;
  found = refl;
  gives = record {
    index = 0;
    item = said 1 27;
    found = refl;
    gives = record {
      no_function = refl;
      not_local = refl;
      hidden = record { index = 0; owner = caller; found = refl; local = refl; leads = directly (record { caller = caller; found = refl; index = 1; said = said 2 16; stands = refl; heads = refl }) };
      is = refl;
    };
  };
})

-- the same, where MAIN calls F, F calls G, and G assigns X
abbrev middle : Outline
middle = plain 2 25 [] (said 3 27 ∷ [])

abbrev last_one : Outline
last_one = plain 3 36 [] (given 1 38 ∷ [])

pub hidden_far : Refuses [] (caller ∷ middle ∷ last_one ∷ []) 14 38
hidden_far = in_shadow (record {
  index = 2;
  item = last_one;
  found = refl;
  gives = record {
    index = 0;
    item = given 1 38;
    found = refl;
    gives = record {
      no_function = refl;
      not_local = refl;
      hidden = record {
        index = 0;
        owner = caller;
        found = refl;
        local = refl;
        leads = over
            (directly (record { caller = caller; found = refl; index = 1; said = said 2 16; stands = refl; heads = refl }))
            (record { caller = middle; found = refl; index = 0; said = said 3 27; stands = refl; heads = refl });
      };
      is = refl;
    };
  };
})

-- a function that names itself leads to itself
pub leads_back : Leads (named 2 25 ∷ []) (plain 2 25 [] (said 2 27 ∷ []) ∷ []) 0 0
leads_back = directly (record { caller = plain 2 25 [] (said 2 27 ∷ []); found = refl; index = 0; said = said 2 27; stands = refl; heads = refl })

-- ---- Names that stand twice

-- two functions F
pub function_twice : Refuses [] (plain 2 3 [] [] ∷ plain 2 12 [] [] ∷ []) 12 12
function_twice = function_again (record { index = 1; item = named 2 12; found = refl; gives = record { index = 0; item = named 2 3; found = refl; before = omega arith; same = refl; is = refl } })

-- two declarations of X
pub var_twice : Refuses (named 1 4 ∷ named 1 21 ∷ []) [] 12 21
var_twice = var_again (record { index = 1; item = named 1 21; found = refl; gives = record { index = 0; item = named 1 4; found = refl; before = omega arith; same = refl; is = refl } })

-- a declared name that is a function's
pub var_function : Refuses (named 2 4 ∷ []) (plain 2 20 [] [] ∷ []) 12 4
var_function = var_taken (record { index = 0; item = named 2 4; found = refl; gives = record { heads = refl; is = refl } })

-- X in a header, and as a label
pub local_twice : Refuses [] (plain 0 3 (named 1 8 ∷ named 1 10 ∷ []) [] ∷ []) 12 10
local_twice = in_function (record { index = 0; item = plain 0 3 (named 1 8 ∷ named 1 10 ∷ []) []; found = refl; gives = local_again (record { index = 1; item = named 1 10; found = refl; gives = record { index = 0; item = named 1 8; found = refl; before = omega arith; same = refl; is = refl } }) })

-- a local name that is the function's own
pub local_own : Refuses [] (plain 0 3 (named 0 8 ∷ []) [] ∷ []) 12 8
local_own = in_function (record { index = 0; item = plain 0 3 (named 0 8 ∷ []) []; found = refl; gives = local_taken (record { index = 0; item = named 0 8; found = refl; gives = record { heads = refl; is = refl } }) })

-- ---- MAIN

-- no function MAIN
pub no_function_main : Refuses [] (plain 2 3 [] [] ∷ []) 15 0
no_function_main = mainless (record { none = refl; is = refl })

-- a function MAIN with an argument
abbrev wanting : Outline
wanting = record { name = named 0 3; bare = false; locals = named 1 8 ∷ []; labels = []; mentions = [] }

pub main_with_argument : Refuses [] (wanting ∷ []) 15 3
main_with_argument = mainless (record { none = refl; is = refl })

-- ---- Assignments

-- the label X of line 2 is assigned in line 1
abbrev labelled : Outline
labelled = record { name = named 0 3; bare = true; locals = named 1 14 ∷ []; labels = named 1 14 ∷ []; mentions = given 1 8 ∷ said 1 14 ∷ [] }

pub label_assigned : Refuses [] (labelled ∷ []) 16 8
label_assigned = in_function (record { index = 0; item = labelled; found = refl; gives = name_assigned (record { index = 0; item = given 1 8; found = refl; gives = record { changed = refl; fixed = refl; is = refl } }) })

-- MAIN assigns MAIN
pub function_assigned : Refuses [] (plain 0 3 [] (given 0 8 ∷ []) ∷ []) 16 8
function_assigned = in_function (record { index = 0; item = plain 0 3 [] (given 0 8 ∷ []); found = refl; gives = name_assigned (record { index = 0; item = given 0 8; found = refl; gives = record { changed = refl; fixed = refl; is = refl } }) })

-- ---- A whole program

abbrev main_function : Function
main_function = record {
  name = named 0 3;
  result = None;
  left = None;
  right = None;
  locals = named 1 8 ∷ [];
  lines =
      record { label = None; statement = st.Quiet (node 10 (v.Assign (name_id 1) (node 14 (v.Numbers (pos 1 ∷ []))))) } ∷
      record { label = None; statement = st.Quiet (node 16 (v.Call (name_id 2) None None)) } ∷ [];
}

abbrev user_function : Function
user_function = record {
  name = named 2 25;
  result = None;
  left = None;
  right = None;
  locals = [];
  lines = record { label = None; statement = st.Display (node 27 (v.Name (name_id 1))) } ∷ [];
}

-- ∇MAIN;X, X←1, F, ∇, ∇F, X, ∇
abbrev hiding : Program
hiding = record { names = codes "MAIN" ∷ codes "X" ∷ codes "F" ∷ codes "G" ∷ []; origin = pos 1; vars = []; functions = main_function ∷ user_function ∷ [] }

main_mentions : lines_mentions main_function.lines ≡ given 1 10 ∷ said 2 16 ∷ []
main_mentions = ap₂ (λ (x y : Tree). tree_mentions x ++ (tree_mentions y ++ [])) (assign_node 10 1 (node 14 (v.Numbers (pos 1 ∷ []))) ∙ ap (t.Assign 10 10 1) (numbers_node 14 (pos 1 ∷ []))) (call_node 16 2 None None)

user_mentions : lines_mentions user_function.lines ≡ said 1 27 ∷ []
user_mentions = ap (λ (x : Tree). tree_mentions x ++ []) (name_node 27 1)

hiding_outlines : outlines hiding ≡ caller ∷ user ∷ []
hiding_outlines = ap₂ (λ (x y : List Mention). plain 0 3 (named 1 8 ∷ []) x ∷ plain 2 25 [] y ∷ []) main_mentions user_mentions

pub shadow_at_27 : Stands hiding (refusal 14 27)
shadow_at_27 = subst (λ fs. Refuses [] fs 14 27) (sym hiding_outlines) hidden_name

-- ---- Scopes

-- ∇LOOP;X, 1, X:1, X:2, ∇, with name 3 as LOOP
abbrev looping : Function
looping = record {
  name = named 3 41;
  result = None;
  left = None;
  right = None;
  locals = named 4 46 ∷ [];
  lines =
      record { label = None; statement = st.Empty } ∷
      record { label = Some (named 1 50); statement = st.Empty } ∷
      record { label = Some (named 1 54); statement = st.Empty } ∷ [];
}

abbrev looped : Program
looped = record { names = codes "MAIN" ∷ codes "X" ∷ codes "F" ∷ codes "LOOP" ∷ codes "Y" ∷ []; origin = pos 1; vars = []; functions = user_function ∷ main_function ∷ looping ∷ [] }

pub scope_of_function : scope_of looped 1 2 ≡ scope.Function 0
scope_of_function = refl

pub scope_of_local : scope_of looped 1 1 ≡ scope.Local
scope_of_local = refl

-- X is the label of lines 2 and 3 here, and the first counts
pub scope_of_label : scope_of looped 2 1 ≡ scope.Label (pos 2)
scope_of_label = refl

pub scope_of_global : scope_of looped 0 1 ≡ scope.Global
scope_of_global = refl

-- MAIN is the second function
pub starts_at : start_of looped ≡ Some 1
starts_at = refl
