-- Small statements that fit the functions of their program, and others that do not, computed.
use Rattle.std.proofs.Common.{◌≡◌, ◌∙◌, ap, ap₂, ◌&&◌, ◌||◌, [], ◌∷◌, None, Some, true, false, pos}
use Rattle.aplc_scalar.specs.Scalar.{in_range}
use Rattle.aplc_syntax.specs.declared.tree.Form.TheVariants as v
use Rattle.aplc_syntax.specs.declared.tree.Function.{Function}
use Rattle.aplc_syntax.specs.declared.tree.Node.{Node}
use Rattle.aplc_syntax.specs.declared.tree.Statement.TheVariants as st
use Rattle.aplc_syntax.specs.Layout.{named}
use Rattle.aplc_syntax.specs.PlainTrees.{Tree, Numbers, Call, given, tree_of}
use Rattle.aplc_syntax.specs.Trees.{node, name_id}
use Rattle.aplc_syntax.proofs.PlainForms.{numbers_node, call_node}
use Rattle.aplc_names.specs.Fits.{fits, performs, is_quiet, roles, statement_fits}

-- R←A F B
abbrev with_result : Function
with_result = record { name = named 1 22; result = Some (named 2 18); left = Some (named 3 20); right = Some (named 4 24); locals = []; lines = [] }

-- A F B
abbrev without_result : Function
without_result = record { name = named 1 20; result = None; left = Some (named 3 18); right = Some (named 4 22); locals = []; lines = [] }

-- R←F B
abbrev of_one : Function
of_one = record { name = named 1 20; result = Some (named 2 18); left = None; right = Some (named 4 22); locals = []; lines = [] }

-- 2 F 3
abbrev call : Node
call = node 10 (v.Call (name_id 1) (Some (node 8 (v.Numbers (pos 2 ∷ [])))) (Some (node 12 (v.Numbers (pos 3 ∷ [])))))

abbrev call_tree : Tree
call_tree = Call 10 10 1 (given (Numbers 8 8 (pos 2 ∷ []))) (given (Numbers 12 12 (pos 3 ∷ [])))

is_call : tree_of call ≡ call_tree
is_call = call_node 10 1 (Some (node 8 (v.Numbers (pos 2 ∷ [])))) (Some (node 12 (v.Numbers (pos 3 ∷ [])))) ∙ ap₂ (λ (x y : Tree). Call 10 10 1 (given x) (given y)) (numbers_node 8 (pos 2 ∷ [])) (numbers_node 12 (pos 3 ∷ []))

-- where F takes two arguments and has a result, 2 F 3 is displayed
pub displayed_call : statement_fits (roles (with_result ∷ [])) (st.Display call) ≡ true
unfolding in_range
displayed_call = ap (fits (roles (with_result ∷ []))) is_call

-- where it takes one argument, it is none
pub call_with_two : statement_fits (roles (of_one ∷ [])) (st.Display call) ≡ false
unfolding in_range
call_with_two = ap (fits (roles (of_one ∷ []))) is_call

-- where it has no result, nothing is displayed, and it stands alone
pub no_result_displayed : statement_fits (roles (without_result ∷ [])) (st.Display call) ≡ false
unfolding in_range
no_result_displayed = ap (fits (roles (without_result ∷ []))) is_call

pub no_result_quiet : statement_fits (roles (without_result ∷ [])) (st.Quiet call) ≡ true
unfolding in_range
no_result_quiet = ap (λ (t : Tree). performs (roles (without_result ∷ [])) t || (is_quiet t && fits (roles (without_result ∷ [])) t)) is_call
