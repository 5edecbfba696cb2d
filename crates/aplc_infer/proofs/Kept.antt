-- A local name that a line does not assign keeps its fact.
use Rattle.std.proofs.Common.{◌≡◌, ◌∙◌, ap, refl, ℕ, zero, suc, List, [], ◌∷◌, ◌++◌, Option, Some, None, Ok, Err, Bool, true, false, ◌||◌, nat_eq, arith, set}
use Rattle.std.proofs.lemmas.Bool.Decides.{nat_tests}
use Rattle.aplc_syntax.specs.PlainTrees.{Tree, Numbers, Text, Name, TextInput, NumsInput, Mono, Dyad, Index, Assign, AssignAt, Show, Call, Trees, no_more, left_out, and_tree, Argument, absent, given}
use Rattle.aplc_names.specs.declared.outline.Mention.{Mention}
use Rattle.aplc_names.specs.Outlines.{tree_mentions, trees_mentions, argument_mentions}
use Rattle.aplc_names.specs.PlainPrograms.{Action, nothing, quiet, perform, display, branch}
use Rattle.aplc_infer.specs.declared.fact.Inferred.{Inferred}
use Rattle.aplc_infer.specs.declared.cell.Cell.TheVariants as cell
use Rattle.aplc_infer.specs.declared.cell.Binding.{Binding}
use Rattle.aplc_infer.specs.declared.cell.Binding.TheVariants as binds
use Rattle.aplc_infer.specs.declared.rule_break.RuleBreak.{RuleBreak}
use Rattle.aplc_infer.specs.Facts.{below, is_mixed, settled}
use Rattle.aplc_infer.specs.Rules.{Ruled, fact_of, literal_of, monadic_fact, dyadic_fact, index_fact, change_fact, left_fact, branch_fact}
use Rattle.aplc_infer.specs.Seeing.{Family, Context, Progress, at, action_mentions, stands_among, denied_by, denied_if, denied_read, mixed_break, assign_declared, assign_global, assign_to, name_fact, function_of, call_fact, passed, see, see_all, see_argument, see_statement}
use Rattle.aplc_infer.specs.Mentions.{local_number, assigned_number, assigned_numbers}

-- ---- Names that are not assigned

abbrev IsFree : ℕ → (ℕ → Binding) → Mention → Type 0
IsFree k b m = stands_among k (assigned_number b m) ≡ false

abbrev AreFree : ℕ → (ℕ → Binding) → List Mention → Type 0
AreFree k b [] = Unit {0}
AreFree k b (m ∷ ms) = IsFree k b m × AreFree k b ms

free_left : (k : ℕ) (b : ℕ → Binding) (xs ys : List Mention) → AreFree k b (xs ++ ys) → AreFree k b xs
free_left k b [] ys f = tt
free_left k b (x ∷ xs) ys f = (f.0, free_left k b xs ys f.1)

free_right : (k : ℕ) (b : ℕ → Binding) (xs ys : List Mention) → AreFree k b (xs ++ ys) → AreFree k b ys
free_right k b [] ys f = f
free_right k b (x ∷ xs) ys f = free_right k b xs ys f.1

none_left : (a b : Bool) → (a || b) ≡ false → a ≡ false
none_left a b h = grind arith

none_right : (a b : Bool) → (a || b) ≡ false → b ≡ false
none_right a b h = grind arith

any_left : (k : ℕ) (xs ys : List ℕ) → stands_among k (xs ++ ys) ≡ false → stands_among k xs ≡ false
any_left k [] ys h = refl
any_left k (x ∷ xs) ys h = ap (λ b. b || stands_among k xs) (none_left (nat_eq k x) (stands_among k (xs ++ ys)) h) ∙ any_left k xs ys (none_right (nat_eq k x) (stands_among k (xs ++ ys)) h)

any_right : (k : ℕ) (xs ys : List ℕ) → stands_among k (xs ++ ys) ≡ false → stands_among k ys ≡ false
any_right k [] ys h = h
any_right k (x ∷ xs) ys h = any_right k xs ys (none_right (nat_eq k x) (stands_among k (xs ++ ys)) h)

are_free : (k : ℕ) (b : ℕ → Binding) (ms : List Mention) → stands_among k (assigned_numbers b ms) ≡ false → AreFree k b ms
are_free k b [] h = tt
are_free k b (m ∷ ms) h = (any_left k (assigned_number b m) (assigned_numbers b ms) h, are_free k b ms (any_right k (assigned_number b m) (assigned_numbers b ms) h))

-- ---- Steps

names_denied : (p : ℕ) (r : Ruled) (w : Progress) → (denied_by p r w).names ≡ w.names
names_denied p (Ok x) w = refl
names_denied p (Err e) w = refl

names_denied_if : (b : Bool) (p : ℕ) (e : RuleBreak) (w : Progress) → (denied_if b p e w).names ≡ w.names
names_denied_if true p e w = refl
names_denied_if false p e w = refl

names_read : (p : ℕ) (x : Inferred) (w : Progress) → (denied_read p x w).names ≡ w.names
names_read p x w = names_denied_if (is_mixed x) p (mixed_break x) w

names_passed : (j : ℕ) (a b : Option Inferred) (w : Progress) → (passed j a b w).names ≡ w.names
names_passed j None None w = refl
names_passed j None (Some y) w = refl
names_passed j (Some x) None w = refl
names_passed j (Some x) (Some y) w = refl

apart_suc : (j k : ℕ) → nat_eq (suc k) (suc j) ≡ false → nat_eq k j ≡ false
apart_suc j k h = grind (arith, nat_tests)

same_first : nat_eq 0 0 ≡ false → ⊥
same_first h = cc

set_other : (ns : List Inferred) (j k : ℕ) (x : Inferred) → nat_eq k j ≡ false → at (set ns j x) k ≡ at ns k
set_other [] j k x h = refl
set_other (y ∷ ns) zero zero x h = absurd (same_first h)
set_other (y ∷ ns) zero (suc k) x h = refl
set_other (y ∷ ns) (suc j) zero x h = refl
set_other (y ∷ ns) (suc j) (suc k) x h = set_other ns j k x (apart_suc j k h)

declared_kept : (b : Bool) (i p : ℕ) (x : Inferred) (w : Progress) → (assign_declared b i p x w).progress.names ≡ w.names
declared_kept true i p x w = refl
declared_kept false i p x w = refl

global_kept : (o : Option Inferred) (i p n : ℕ) (new x : Inferred) (w : Progress) → (assign_global o i p n new x w).progress.names ≡ w.names
global_kept None i p n new x w = refl
global_kept (Some d) i p n new x w = declared_kept (below new d) i p x w

assign_kept : (c : Context) (b : Binding) (i p n k : ℕ) (new x : Inferred) (w : Progress) → stands_among k (local_number b) ≡ false → at (assign_to c b i p n new x w).progress.names k ≡ at w.names k
assign_kept c (binds.Local j) i p n k new x w h = set_other w.names j k new (none_left (nat_eq k j) false h)
assign_kept c (binds.Label z) i p n k new x w h = ap (λ ns. at ns k) (global_kept (c.declared n) i p n new x w)
assign_kept c (binds.Function j) i p n k new x w h = ap (λ ns. at ns k) (global_kept (c.declared n) i p n new x w)
assign_kept c binds.Global i p n k new x w h = ap (λ ns. at ns k) (global_kept (c.declared n) i p n new x w)

-- ---- Trees

module _ (c : Context) (g : Family) (k : ℕ) where
  mutual
    tree_kept : (t : Tree) (w : Progress) → AreFree k c.binding (tree_mentions t) → at (see c g t w).progress.names k ≡ at w.names k
    tree_kept (Numbers i p zs) w f = refl
    tree_kept (Text i p cs) w f = refl
    tree_kept (TextInput i p) w f = refl
    tree_kept (NumsInput i p) w f = refl
    tree_kept (Name i p n) w f = ap (λ ns. at ns k) (names_read p (name_fact c g (c.binding n) n w.names) w)
    tree_kept (Mono i p h b) w f =
        let y = see c g b w in
        ap (λ ns. at ns k) (names_denied p (monadic_fact c.origin h (literal_of b) y.fact) y.progress) ∙ tree_kept b w f
    tree_kept (Dyad i p h a b) w f =
        let y = see c g b w in
        let x = see c g a y.progress in
        ap (λ ns. at ns k) (names_denied p (dyadic_fact c.origin h (literal_of a) x.fact y.fact) x.progress)
        ∙ tree_kept a y.progress (free_left k c.binding (tree_mentions a) (tree_mentions b) f)
        ∙ tree_kept b w (free_right k c.binding (tree_mentions a) (tree_mentions b) f)
    tree_kept (Index i p a xs) w f =
        let y = see_all c g xs w in
        let x = see c g a y.progress in
        ap (λ ns. at ns k) (names_denied p (index_fact x.fact y.facts) x.progress)
        ∙ tree_kept a y.progress (free_left k c.binding (tree_mentions a) (trees_mentions xs) f)
        ∙ trees_kept xs w (free_right k c.binding (tree_mentions a) (trees_mentions xs) f)
    tree_kept (Assign i p n a) w f =
        let y = see c g a w in
        assign_kept c (c.binding n) i p n k (settled y.fact) (settled y.fact) y.progress f.0 ∙ tree_kept a w f.1
    tree_kept (AssignAt i p n xs a) w f =
        let y = see c g a w in
        let x = see_all c g xs y.progress in
        let old = name_fact c g (c.binding n) n x.progress.names in
        let r = change_fact old x.facts y.fact in
        let v = denied_read p old x.progress in
        assign_kept c (c.binding n) i p n k (left_fact old y.fact) (fact_of r) (denied_by p r v) f.0
        ∙ ap (λ ns. at ns k) (names_denied p r v ∙ names_read p old x.progress)
        ∙ trees_kept xs y.progress (free_left k c.binding (trees_mentions xs) (tree_mentions a) f.1)
        ∙ tree_kept a w (free_right k c.binding (trees_mentions xs) (tree_mentions a) f.1)
    tree_kept (Show i p a) w f = tree_kept a w f
    tree_kept (Call i p n a b) w f =
        let y = see_argument c g b w in
        let x = see_argument c g a y.progress in
        let j = function_of (c.binding n) in
        let v = passed j x.fact y.fact x.progress in
        ap (λ ns. at ns k) (names_read p (call_fact x.fact y.fact (g (cell.Answer j))) v ∙ names_passed j x.fact y.fact x.progress)
        ∙ argument_kept a y.progress (free_left k c.binding (argument_mentions a) (argument_mentions b) f.1)
        ∙ argument_kept b w (free_right k c.binding (argument_mentions a) (argument_mentions b) f.1)

    trees_kept : (xs : Trees) (w : Progress) → AreFree k c.binding (trees_mentions xs) → at (see_all c g xs w).progress.names k ≡ at w.names k
    trees_kept no_more w f = refl
    trees_kept (left_out xs) w f = trees_kept xs w f
    trees_kept (and_tree t xs) w f =
        tree_kept t (see_all c g xs w).progress (free_left k c.binding (tree_mentions t) (trees_mentions xs) f)
        ∙ trees_kept xs w (free_right k c.binding (tree_mentions t) (trees_mentions xs) f)

    argument_kept : (a : Argument) (w : Progress) → AreFree k c.binding (argument_mentions a) → at (see_argument c g a w).progress.names k ≡ at w.names k
    argument_kept absent w f = refl
    argument_kept (given t) w f = tree_kept t w f

  -- ---- Statements

  action_kept : (x : Action) (w : Progress) → AreFree k c.binding (action_mentions x) → at (see_statement c g x w).names k ≡ at w.names k
  action_kept nothing w f = refl
  action_kept (quiet t) w f = tree_kept t w f
  action_kept (display t) w f = tree_kept t w f
  action_kept (branch p t) w f = let y = see c g t w in ap (λ ns. at ns k) (names_denied p (branch_fact y.fact) y.progress) ∙ tree_kept t w f
  action_kept (perform i p n a b) w f =
      let y = see_argument c g b w in
      let x = see_argument c g a y.progress in
      ap (λ ns. at ns k) (names_passed (function_of (c.binding n)) x.fact y.fact x.progress)
      ∙ argument_kept a y.progress (free_left k c.binding (argument_mentions a) (argument_mentions b) f.1)
      ∙ argument_kept b w (free_right k c.binding (argument_mentions a) (argument_mentions b) f.1)

  pub kept : (x : Action) (w : Progress) → stands_among k (assigned_numbers c.binding (action_mentions x)) ≡ false → at (see_statement c g x w).names k ≡ at w.names k
  kept x w h = action_kept x w (are_free k c.binding (action_mentions x) h)
