-- Trees of which all is built suit the program that they stand in.
use Rattle.std.proofs.Common.{◌≡◌, refl, ℕ, suc, List, [], ◌∷◌, ◌++◌, ℤ, Some, None, Bool, true, false, ◌||◌, ◌&&◌, nat_le, length, ◌≤◌, arith}
use Rattle.std.specs.Prelude.{slice_get}
use Rattle.std.proofs.lemmas.Bool.Decides.{nat_tests}
use Rattle.aplc_scalar.specs.Scalar.{in_range}
use Rattle.aplc_scalar.specs.declared.kind.Kind.TheVariants.{Num}
use Rattle.aplc_syntax.specs.declared.tree.Function.{Function}
use Rattle.aplc_syntax.specs.declared.tree.Program.{Program}
use Rattle.aplc_syntax.specs.declared.tree.Statement.{Statement}
use Rattle.aplc_syntax.specs.declared.tree.Statement.TheVariants as st
use Rattle.aplc_syntax.specs.PlainTrees.{Tree, Trees, Argument, absent, given, tree_of, ids, argument_ids}
use Rattle.aplc_syntax.specs.PlainTrees as t
use Rattle.aplc_syntax.specs.Programs.{statement_ids}
use Rattle.aplc_syntax.specs.Trees.{name_id}
use Rattle.aplc_names.specs.declared.outline.Mention.{Mention}
use Rattle.aplc_names.specs.declared.scope.Scope.{Scope}
use Rattle.aplc_names.specs.Outlines.{mention, tree_mentions, argument_mentions, statement_mentions}
use Rattle.aplc_names.specs.Scopes.{scope_in}
use Rattle.aplc_names.specs.Fits.{arity_given, is_function, is_procedure, all_in_range, has_number, takes_one, takes_two, fits, argument_fits, performs, is_quiet, statement_fits, roles}
use Rattle.aplc_names.specs.PlainPrograms.{Action, nothing, quiet, perform, display, branch, plain, quiet_of, action_of}
use Rattle.aplc_names.specs.Eager.{function_of}
use Rattle.aplc_names.proofs.Lists.{Has, has_left, has_right}
use Rattle.aplc_core.specs.PlainSteps.{Effect}
use Rattle.aplc_core.specs.PlainSteps as step
use Rattle.aplc_core.specs.CoreRuns.{PlainCore, told}
use Rattle.aplc_core.specs.Lowering.{cut, lowered, lowered_program}
use Rattle.aplc_gen.specs.Built.{is_one, is_number, is_sign, is_checked}
use Rattle.aplc_gen.specs.Unbuilt.{FactList, unless, unbuilt, all_unbuilt, argument_unbuilt, statement_unbuilt}
use Rattle.aplc_gen.specs.Sound.{suits, nothing_ready, are_effects, effects_cost, is_line}
use Rattle.aplc_gen.proofs.SoundCuts.{both_true, first_true, second_true, side, Suited, SuitedGiven, shown_fine, branch_fine, cut_fine, call_is_fine}
use Rattle.aplc_gen.proofs.SoundNumbers.{Once, cut_numbered, behind_numbered, call_numbered}
use Rattle.aplc_gen.proofs.SoundCosts.{assigned_cost, shown_cost, branch_cost, performed_cost}
use Rattle.aplc_gen.proofs.SoundScopes.{AreFree, variable_readable, free_variable}
use Rattle.aplc_gen.proofs.SoundCalls.{IsLedFunction, value_call_suits, quiet_call_suits}

-- ---- Nothing that is not built

pub first_empty : (xs ys : List ℕ) → xs ++ ys ≡ [] → xs ≡ []
first_empty [] ys e = refl
first_empty (x ∷ xs) ys e = cc

pub second_empty : (xs ys : List ℕ) → xs ++ ys ≡ [] → ys ≡ []
second_empty [] ys e = e
second_empty (x ∷ xs) ys e = cc

built_there : (b : Bool) (o : ℕ) → unless b o ≡ [] → b ≡ true
built_there true o e = refl
built_there false o e = cc

never : {X : Type 0} (x : ℕ) (xs : List ℕ) → x ∷ xs ≡ [] → X
never x xs e = cc

number_there : (zs : List ℤ) → is_one zs ≡ true → has_number zs && all_in_range zs ≡ true → is_number Num zs ≡ true
number_there [] h e = cc
number_there (z ∷ []) h e = first_true (in_range z) true e
number_there (z ∷ y ∷ zs) h e = cc

-- a name behind another one
in_left : (m : Mention) (xs ys : List Mention) (k : Mention) → Has xs k → Has (m ∷ (xs ++ ys)) k
in_left m xs ys k h = let g = has_left xs ys k h in (suc g.0, g.1)

in_right : (m : Mention) (xs ys : List Mention) (k : Mention) → Has ys k → Has (m ∷ (xs ++ ys)) k
in_right m xs ys k h = let g = has_right xs ys k h in (suc g.0, g.1)

either_of : (a b : Bool) → a || b ≡ true → b ≡ false → a ≡ true
either_of true b e h = refl
either_of false true e h = cc
either_of false false e h = cc

-- ---- Actions

abbrev SuitedQuiet : PlainCore → (ℕ → Scope) → Tree → Type 0
SuitedQuiet p sc (t.Assign i o n a) = Suited p sc (t.Assign i o n a)
SuitedQuiet p sc _ = ⊥

-- what a line does is built, and suits the program
abbrev pub SuitedAction : PlainCore → (ℕ → Scope) → Action → Type 0
SuitedAction p sc nothing = Unit {0}
SuitedAction p sc (quiet x) = SuitedQuiet p sc x
SuitedAction p sc (perform i o n a b) = (suits (side a) (side b) None (slice_get p.routines (function_of (sc n))) ≡ true) × SuitedGiven p sc a × SuitedGiven p sc b
SuitedAction p sc (display x) = Suited p sc x
SuitedAction p sc (branch o x) = Suited p sc x

-- ---- Trees

-- a function of the program, with what the program has, and the facts
module _ (p : Program) (f : Function) (few : length f.lines ≤ 999) (led : (k : ℕ) (g : Function) → slice_get p.functions k ≡ Some g → IsLedFunction g) (facts : FactList) where
  mutual
    tree_suits : (x : Tree) → unbuilt facts x ≡ [] → fits (roles p.functions) x ≡ true → AreFree p.functions f (tree_mentions x) → Suited (lowered_program (plain p)) (scope_in p.functions f) x
    tree_suits (t.Numbers i o zs) u e m = number_there zs (built_there (is_one zs) o u) e
    tree_suits (t.Text i o cs) u e m = never o [] u
    tree_suits (t.Name i o n) u e m = variable_readable p.functions f n few e
    tree_suits (t.TextInput i o) u e m = never o [] u
    tree_suits (t.NumsInput i o) u e m = never o [] u
    tree_suits (t.Mono i o g a) u e m = (
      built_there (is_sign g) o (first_empty (unless (is_sign g) o) (unbuilt facts a) u),
      tree_suits a (second_empty (unless (is_sign g) o) (unbuilt facts a) u) (second_true (takes_one g) (fits (roles p.functions) a) e) m,
    )
    tree_suits (t.Dyad i o g a b) u e m =
        let v = second_empty (unless (is_checked g) o) (unbuilt facts a ++ unbuilt facts b) u in
        let d = second_true (takes_two g) (fits (roles p.functions) a && fits (roles p.functions) b) e in (
          built_there (is_checked g) o (first_empty (unless (is_checked g) o) (unbuilt facts a ++ unbuilt facts b) u),
          tree_suits a (first_empty (unbuilt facts a) (unbuilt facts b) v) (first_true (fits (roles p.functions) a) (fits (roles p.functions) b) d) (λ k h. m k (has_left (tree_mentions a) (tree_mentions b) k h)),
          tree_suits b (second_empty (unbuilt facts a) (unbuilt facts b) v) (second_true (fits (roles p.functions) a) (fits (roles p.functions) b) d) (λ k h. m k (has_right (tree_mentions a) (tree_mentions b) k h)),
        )
    tree_suits (t.Index i o a xs) u e m = never o (unbuilt facts a ++ all_unbuilt facts xs) u
    tree_suits (t.Assign i o n a) u e m =
        (free_variable p.functions f n (m (mention (name_id n) o true) (0, refl) refl), tree_suits a u e (λ k h. m k (suc h.0, h.1)))
    tree_suits (t.AssignAt i o n xs a) u e m = never o (all_unbuilt facts xs ++ unbuilt facts a) u
    tree_suits (t.Show i o a) u e m = never o (unbuilt facts a) u
    tree_suits (t.Call i o n a b) u e m =
        let d = second_true (is_function (arity_given a b) (roles p.functions n)) (argument_fits (roles p.functions) a && argument_fits (roles p.functions) b) e in (
          value_call_suits p f n a b led (first_true (is_function (arity_given a b) (roles p.functions n)) (argument_fits (roles p.functions) a && argument_fits (roles p.functions) b) e),
          argument_suits a (first_empty (argument_unbuilt facts a) (argument_unbuilt facts b) u) (first_true (argument_fits (roles p.functions) a) (argument_fits (roles p.functions) b) d) (λ k h. m k (in_left (mention (name_id n) o false) (argument_mentions a) (argument_mentions b) k h)),
          argument_suits b (second_empty (argument_unbuilt facts a) (argument_unbuilt facts b) u) (second_true (argument_fits (roles p.functions) a) (argument_fits (roles p.functions) b) d) (λ k h. m k (in_right (mention (name_id n) o false) (argument_mentions a) (argument_mentions b) k h)),
        )

    argument_suits : (a : Argument) → argument_unbuilt facts a ≡ [] → argument_fits (roles p.functions) a ≡ true → AreFree p.functions f (argument_mentions a) → SuitedGiven (lowered_program (plain p)) (scope_in p.functions f) a
    argument_suits absent u e m = tt
    argument_suits (given x) u e m = tree_suits x u e m

  -- ---- Statements

  performed_suits : (i o n : ℕ) (a b : Argument) → unbuilt facts (t.Call i o n a b) ≡ [] → performs (roles p.functions) (t.Call i o n a b) ≡ true → AreFree p.functions f (tree_mentions (t.Call i o n a b))
      → SuitedAction (lowered_program (plain p)) (scope_in p.functions f) (perform i o n a b)
  performed_suits i o n a b u e m =
      let d = second_true (is_procedure (arity_given a b) (roles p.functions n)) (argument_fits (roles p.functions) a && argument_fits (roles p.functions) b) e in (
        quiet_call_suits p f n a b led (first_true (is_procedure (arity_given a b) (roles p.functions n)) (argument_fits (roles p.functions) a && argument_fits (roles p.functions) b) e),
        argument_suits a (first_empty (argument_unbuilt facts a) (argument_unbuilt facts b) u) (first_true (argument_fits (roles p.functions) a) (argument_fits (roles p.functions) b) d) (λ k h. m k (in_left (mention (name_id n) o false) (argument_mentions a) (argument_mentions b) k h)),
        argument_suits b (second_empty (argument_unbuilt facts a) (argument_unbuilt facts b) u) (second_true (argument_fits (roles p.functions) a) (argument_fits (roles p.functions) b) d) (λ k h. m k (in_right (mention (name_id n) o false) (argument_mentions a) (argument_mentions b) k h)),
      )

  quiet_suits : (x : Tree) → unbuilt facts x ≡ [] → performs (roles p.functions) x || (is_quiet x && fits (roles p.functions) x) ≡ true → AreFree p.functions f (tree_mentions x)
      → SuitedAction (lowered_program (plain p)) (scope_in p.functions f) (quiet_of x)
  quiet_suits (t.Assign i o n a) u e m = tree_suits (t.Assign i o n a) u e m
  quiet_suits (t.AssignAt i o n xs a) u e m = never o (all_unbuilt facts xs ++ unbuilt facts a) u
  quiet_suits (t.Show i o a) u e m = never o (unbuilt facts a) u
  quiet_suits (t.Call i o n a b) u e m = performed_suits i o n a b u (either_of (performs (roles p.functions) (t.Call i o n a b)) false e refl) m
  quiet_suits (t.Numbers i o zs) u e m = cc
  quiet_suits (t.Text i o cs) u e m = cc
  quiet_suits (t.Name i o n) u e m = cc
  quiet_suits (t.TextInput i o) u e m = cc
  quiet_suits (t.NumsInput i o) u e m = cc
  quiet_suits (t.Mono i o g a) u e m = cc
  quiet_suits (t.Dyad i o g a b) u e m = cc
  quiet_suits (t.Index i o a xs) u e m = cc

  pub statement_suits : (x : Statement) → statement_unbuilt facts x ≡ [] → statement_fits (roles p.functions) x ≡ true → AreFree p.functions f (statement_mentions x)
      → SuitedAction (lowered_program (plain p)) (scope_in p.functions f) (action_of x)
  statement_suits st.Empty u e m = tt
  statement_suits (st.Quiet n) u e m = quiet_suits (tree_of n) u e m
  statement_suits (st.Display n) u e m = tree_suits (tree_of n) u e m
  statement_suits (st.Branch o n) u e m = tree_suits (tree_of n) u e m

-- ---- Lines

pub at_most : (m n : ℕ) → m ≤ n → nat_le m n ≡ true
at_most m n h = grind (arith, nat_tests)

module _ (p : PlainCore) (sc : ℕ → Scope) where
  line_fine : (xs : List Effect) → are_effects p sc (told xs) nothing_ready xs ≡ true → effects_cost xs ≤ 2000 → is_line p sc xs ≡ true
  line_fine xs e l = both_true (are_effects p sc (told xs) nothing_ready xs) (nat_le (effects_cost xs) 2000) e (at_most (effects_cost xs) 2000 l)

  display_line : (x : Tree) → Suited p sc x → Once (ids x) → length (ids x) ≤ 256 → is_line p sc (lowered (display x)) ≡ true
  display_line x h own l =
      let y : Effect = step.Show None (cut x 0).term in
      let xs : List Effect = (cut x 0).steps ++ y ∷ [] in
      line_fine xs (shown_fine p sc (told xs) x h (behind_numbered p sc x y h own (λ q. refl))) (shown_cost p sc x h l)

  branch_line : (o : ℕ) (x : Tree) → Suited p sc x → Once (ids x) → length (ids x) ≤ 256 → is_line p sc (lowered (branch o x)) ≡ true
  branch_line o x h own l =
      let y : Effect = step.Branch (cut x 0).term in
      let xs : List Effect = (cut x 0).steps ++ y ∷ [] in
      line_fine xs (branch_fine p sc (told xs) x h (behind_numbered p sc x y h own (λ q. refl))) (branch_cost p sc x h l)

  assign_line : (i o n : ℕ) (a : Tree) → Suited p sc (t.Assign i o n a) → Once (ids (t.Assign i o n a)) → length (ids (t.Assign i o n a)) ≤ 256 → is_line p sc (lowered (quiet (t.Assign i o n a))) ≡ true
  assign_line i o n a h own l =
      let x : Tree = t.Assign i o n a in
      let xs : List Effect = (cut x 0).steps in
      line_fine xs (cut_fine p sc (told xs) x h (cut_numbered p sc x h own)) (assigned_cost p sc x h l)

  perform_line : (i o n : ℕ) (a b : Argument) → SuitedAction p sc (perform i o n a b) → Once (i ∷ (argument_ids a ++ argument_ids b)) → length (i ∷ (argument_ids a ++ argument_ids b)) ≤ 256 → is_line p sc (lowered (perform i o n a b)) ≡ true
  perform_line i o n a b h own l =
      let xs : List Effect = lowered (perform i o n a b) in
      let g = call_numbered p sc i n a b h.1 h.2 own in
      line_fine xs (call_is_fine p sc (told xs) i n a b h.0 h.1 h.2 g.0 g.1) (performed_cost p sc i n a b h.1 h.2 l)

  quiet_line : (x : Tree) → SuitedAction p sc (quiet_of x) → Once (ids x) → length (ids x) ≤ 256 → is_line p sc (lowered (quiet_of x)) ≡ true
  quiet_line (t.Assign i o n a) h own l = assign_line i o n a h own l
  quiet_line (t.Call i o n a b) h own l = perform_line i o n a b h own l
  quiet_line (t.AssignAt i o n xs a) h own l = absurd h
  quiet_line (t.Show i o a) h own l = absurd h
  quiet_line (t.Numbers i o zs) h own l = absurd h
  quiet_line (t.Text i o cs) h own l = absurd h
  quiet_line (t.Name i o n) h own l = absurd h
  quiet_line (t.TextInput i o) h own l = absurd h
  quiet_line (t.NumsInput i o) h own l = absurd h
  quiet_line (t.Mono i o g a) h own l = absurd h
  quiet_line (t.Dyad i o g a b) h own l = absurd h
  quiet_line (t.Index i o a xs) h own l = absurd h

  -- the steps of a statement that suits the program, and each of whose nodes has its own number
  pub statement_line : (x : Statement) → SuitedAction p sc (action_of x) → Once (statement_ids x) → length (statement_ids x) ≤ 256 → is_line p sc (lowered (action_of x)) ≡ true
  statement_line st.Empty h own l = line_fine [] refl (omega arith)
  statement_line (st.Quiet n) h own l = quiet_line (tree_of n) h own l
  statement_line (st.Display n) h own l = display_line (tree_of n) h own l
  statement_line (st.Branch o n) h own l = branch_line o (tree_of n) h own l
