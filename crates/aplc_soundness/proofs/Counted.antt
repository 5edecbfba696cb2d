-- Each node is asked for once, in the line where it stands: how often the demands of a line are for a node.
use Rattle.std.proofs.Common.{◌≡◌, ◌∙◌, ap, refl, subst, ℕ, zero, suc, ◌+◌, ◌≤◌, List, [], ◌∷◌, ◌++◌, Option, Some, None, Ok, Err, Bool, true, false, arith}
use Rattle.std.specs.Prelude.{flat_map, nat_eq, slice_get}
use Rattle.aplc_syntax.specs.PlainTrees.{Tree, Numbers, Text, Name, TextInput, NumsInput, Mono, Dyad, Index, Assign, AssignAt, Show, Call, Trees, no_more, left_out, and_tree, Argument, absent, given, ids, trees_ids, argument_ids}
use Rattle.aplc_names.specs.PlainPrograms.{Action, nothing, quiet, perform, display, branch, Routine, PlainProgram}
use Rattle.aplc_infer.specs.declared.fact.Inferred.{Inferred}
use Rattle.aplc_infer.specs.declared.fact.Inferred.TheVariants.{Unset}
use Rattle.aplc_infer.specs.declared.rule_break.RuleBreak.{RuleBreak}
use Rattle.aplc_infer.specs.declared.rule_break.RuleBreak.TheVariants as breaks
use Rattle.aplc_infer.specs.declared.cell.Cell.{Cell}
use Rattle.aplc_infer.specs.declared.cell.Cell.TheVariants as cell
use Rattle.aplc_infer.specs.declared.cell.Demand.{Demand}
use Rattle.aplc_infer.specs.declared.cell.Binding.{Binding}
use Rattle.aplc_infer.specs.declared.cell.Binding.TheVariants as binds
use Rattle.aplc_infer.specs.Facts.{below, is_mixed, settled}
use Rattle.aplc_infer.specs.Rules.{Ruled, fact_of, literal_of, monadic_fact, dyadic_fact, index_fact, change_fact, left_fact, branch_fact}
use Rattle.aplc_infer.specs.Seeing.{Family, Context, Progress, demand, asked, asked_for, denied_by, denied_if, denied_read, mixed_break, with_name, settles, ruled, name_fact, assign_declared, assign_global, assign_to, function_of, call_fact, passed, see, see_all, see_argument, see_statement}

-- ---- Counts

abbrev pub one_if : Bool → ℕ
one_if true = 1
one_if false = 0

-- how often a number stands in a list
abbrev pub tally : ℕ → List ℕ → ℕ
tally i [] = 0
tally i (k ∷ ks) = one_if (nat_eq k i) + tally i ks

abbrev pub at_node : ℕ → Cell → ℕ
at_node i (cell.Node k) = one_if (nat_eq k i)
at_node i c = 0

-- how many demands are for node i
abbrev pub count : ℕ → List Demand → ℕ
count i [] = 0
count i (d ∷ ds) = at_node i d.cell + count i ds

pub tally_more : (i : ℕ) (xs ys : List ℕ) → tally i (xs ++ ys) ≡ tally i xs + tally i ys
tally_more i [] ys = omega arith
tally_more i (x ∷ xs) ys = let e = tally_more i xs ys in omega (arith, e)

pub count_more : (i : ℕ) (xs ys : List Demand) → count i (xs ++ ys) ≡ count i xs + count i ys
count_more i [] ys = omega arith
count_more i (x ∷ xs) ys = let e = count_more i xs ys in omega (arith, e)

-- ---- Steps

asked_count : (i : ℕ) (c : Cell) (x : Inferred) (w : Progress) → count i (asked c x w).demands ≡ count i w.demands + at_node i c
asked_count i c x w = let e = count_more i w.demands (demand c x ∷ []) in omega (arith, e)

denied_count : (i p : ℕ) (r : Ruled) (w : Progress) → count i (denied_by p r w).demands ≡ count i w.demands
denied_count i p (Ok x) w = refl
denied_count i p (Err e) w = refl

denied_if_count : (i : ℕ) (b : Bool) (p : ℕ) (e : RuleBreak) (w : Progress) → count i (denied_if b p e w).demands ≡ count i w.demands
denied_if_count i true p e w = refl
denied_if_count i false p e w = refl

read_count : (i p : ℕ) (x : Inferred) (w : Progress) → count i (denied_read p x w).demands ≡ count i w.demands
read_count i p x w = denied_if_count i (is_mixed x) p (mixed_break x) w

settled_count : (i k : ℕ) (x : Inferred) (w : Progress) → count i (settles k x w).progress.demands ≡ count i w.demands + one_if (nat_eq k i)
settled_count i k x w = asked_count i (cell.Node k) x w

ruled_count : (i k p : ℕ) (r : Ruled) (w : Progress) → count i (ruled k p r w).progress.demands ≡ count i w.demands + one_if (nat_eq k i)
ruled_count i k p r w = settled_count i k (fact_of r) (denied_by p r w) ∙ ap (λ n. n + one_if (nat_eq k i)) (denied_count i p r w)

declared_count : (i : ℕ) (b : Bool) (k p : ℕ) (x : Inferred) (w : Progress) → count i (assign_declared b k p x w).progress.demands ≡ count i w.demands + one_if (nat_eq k i)
declared_count i true k p x w = settled_count i k x w
declared_count i false k p x w = ruled_count i k p (Err breaks.Declared) w

global_count : (i : ℕ) (o : Option Inferred) (k p n : ℕ) (new x : Inferred) (w : Progress) → count i (assign_global o k p n new x w).progress.demands ≡ count i w.demands + one_if (nat_eq k i)
global_count i None k p n new x w =
    let a = settled_count i k x (asked (cell.Global n) new w) in
    let b = asked_count i (cell.Global n) new w in
    omega (arith, a, b)
global_count i (Some d) k p n new x w = declared_count i (below new d) k p x w

assigned_count : (i : ℕ) (c : Context) (b : Binding) (k p n : ℕ) (new x : Inferred) (w : Progress) → count i (assign_to c b k p n new x w).progress.demands ≡ count i w.demands + one_if (nat_eq k i)
assigned_count i c (binds.Local j) k p n new x w = settled_count i k x (with_name j new w)
assigned_count i c (binds.Label z) k p n new x w = global_count i (c.declared n) k p n new x w
assigned_count i c (binds.Function j) k p n new x w = global_count i (c.declared n) k p n new x w
assigned_count i c binds.Global k p n new x w = global_count i (c.declared n) k p n new x w

asked_for_count : (i : ℕ) (c : Cell) (o : Option Inferred) (w : Progress) → at_node i c ≡ 0 → count i (asked_for c o w).demands ≡ count i w.demands
asked_for_count i c None w e = refl
asked_for_count i c (Some x) w e = let a = asked_count i c x w in omega (arith, a, e)

passed_count : (i j : ℕ) (a b : Option Inferred) (w : Progress) → count i (passed j a b w).demands ≡ count i w.demands
passed_count i j a b w = asked_for_count i (cell.Right j) b (asked_for (cell.Left j) a w) refl ∙ asked_for_count i (cell.Left j) a w refl

-- ---- Trees

mutual
  pub see_count : (i : ℕ) (c : Context) (g : Family) (t : Tree) (w : Progress) → count i (see c g t w).progress.demands ≡ count i w.demands + tally i (ids t)
  see_count i c g (Numbers k p zs) w = let a = settled_count i k (see c g (Numbers k p zs) w).fact w in omega (arith, a)
  see_count i c g (Text k p cs) w = let a = settled_count i k (see c g (Text k p cs) w).fact w in omega (arith, a)
  see_count i c g (TextInput k p) w = let a = settled_count i k (see c g (TextInput k p) w).fact w in omega (arith, a)
  see_count i c g (NumsInput k p) w = let a = settled_count i k (see c g (NumsInput k p) w).fact w in omega (arith, a)
  see_count i c g (Name k p n) w =
      let x = name_fact c g (c.binding n) n w.names in
      let a = settled_count i k x (denied_read p x w) in
      let b = read_count i p x w in
      omega (arith, a, b)
  see_count i c g (Mono k p f b) w =
      let y = see c g b w in
      let a1 = ruled_count i k p (monadic_fact c.origin f (literal_of b) y.fact) y.progress in
      let a2 = see_count i c g b w in
      omega (arith, a1, a2)
  see_count i c g (Dyad k p f l b) w =
      let y = see c g b w in
      let x = see c g l y.progress in
      let a1 = ruled_count i k p (dyadic_fact c.origin f (literal_of l) x.fact y.fact) x.progress in
      let a2 = see_count i c g l y.progress in
      let a3 = see_count i c g b w in
      let a4 = tally_more i (ids l) (ids b) in
      omega (arith, a1, a2, a3, a4)
  see_count i c g (Index k p l xs) w =
      let y = see_all c g xs w in
      let x = see c g l y.progress in
      let a1 = ruled_count i k p (index_fact x.fact y.facts) x.progress in
      let a2 = see_count i c g l y.progress in
      let a3 = see_all_count i c g xs w in
      let a4 = tally_more i (ids l) (trees_ids xs) in
      omega (arith, a1, a2, a3, a4)
  see_count i c g (Assign k p n b) w =
      let y = see c g b w in
      let a1 = assigned_count i c (c.binding n) k p n (settled y.fact) (settled y.fact) y.progress in
      let a2 = see_count i c g b w in
      omega (arith, a1, a2)
  see_count i c g (AssignAt k p n xs b) w =
      let y = see c g b w in
      let x = see_all c g xs y.progress in
      let old = name_fact c g (c.binding n) n x.progress.names in
      let r = change_fact old x.facts y.fact in
      let u = denied_read p old x.progress in
      let a1 = assigned_count i c (c.binding n) k p n (left_fact old y.fact) (fact_of r) (denied_by p r u) in
      let a2 = denied_count i p r u in
      let a3 = read_count i p old x.progress in
      let a4 = see_all_count i c g xs y.progress in
      let a5 = see_count i c g b w in
      let a6 = tally_more i (trees_ids xs) (ids b) in
      omega (arith, a1, a2, a3, a4, a5, a6)
  see_count i c g (Show k p b) w =
      let y = see c g b w in
      let a1 = settled_count i k (settled y.fact) y.progress in
      let a2 = see_count i c g b w in
      omega (arith, a1, a2)
  see_count i c g (Call k p n l b) w =
      let y = see_argument c g b w in
      let x = see_argument c g l y.progress in
      let j = function_of (c.binding n) in
      let z = call_fact x.fact y.fact (g (cell.Answer j)) in
      let u = passed j x.fact y.fact x.progress in
      let a1 = settled_count i k z (denied_read p z u) in
      let a2 = read_count i p z u in
      let a3 = passed_count i j x.fact y.fact x.progress in
      let a4 = see_argument_count i c g l y.progress in
      let a5 = see_argument_count i c g b w in
      let a6 = tally_more i (argument_ids l) (argument_ids b) in
      omega (arith, a1, a2, a3, a4, a5, a6)

  pub see_all_count : (i : ℕ) (c : Context) (g : Family) (ts : Trees) (w : Progress) → count i (see_all c g ts w).progress.demands ≡ count i w.demands + tally i (trees_ids ts)
  see_all_count i c g no_more w = omega arith
  see_all_count i c g (left_out ts) w = see_all_count i c g ts w
  see_all_count i c g (and_tree t ts) w =
      let y = see_all c g ts w in
      let a1 = see_count i c g t y.progress in
      let a2 = see_all_count i c g ts w in
      let a3 = tally_more i (ids t) (trees_ids ts) in
      omega (arith, a1, a2, a3)

  pub see_argument_count : (i : ℕ) (c : Context) (g : Family) (a : Argument) (w : Progress) → count i (see_argument c g a w).progress.demands ≡ count i w.demands + tally i (argument_ids a)
  see_argument_count i c g absent w = omega arith
  see_argument_count i c g (given t) w = see_count i c g t w

-- the numbers of a statement's nodes
abbrev pub action_ids : Action → List ℕ
action_ids nothing = []
action_ids (quiet t) = ids t
action_ids (perform i p n a b) = ids (Call i p n a b)
action_ids (display t) = ids t
action_ids (branch p t) = ids t

pub statement_count : (i : ℕ) (c : Context) (g : Family) (x : Action) (w : Progress) → count i (see_statement c g x w).demands ≡ count i w.demands + tally i (action_ids x)
statement_count i c g nothing w = omega arith
statement_count i c g (quiet t) w = see_count i c g t w
statement_count i c g (display t) w = see_count i c g t w
statement_count i c g (branch p t) w = denied_count i p (branch_fact (see c g t w).fact) (see c g t w).progress ∙ see_count i c g t w
statement_count i c g (perform k p n l b) w =
    let y = see_argument c g b w in
    let x = see_argument c g l y.progress in
    let j = function_of (c.binding n) in
    let u = passed j x.fact y.fact x.progress in
    let a1 = asked_count i (cell.Node k) (call_fact x.fact y.fact Unset) u in
    let a3 = passed_count i j x.fact y.fact x.progress in
    let a4 = see_argument_count i c g l y.progress in
    let a5 = see_argument_count i c g b w in
    let a6 = tally_more i (argument_ids l) (argument_ids b) in
    omega (arith, a1, a3, a4, a5, a6)

-- ---- Two places

abbrev pub routine_ids : Routine → List ℕ
routine_ids f = flat_map action_ids f.lines

abbrev pub plain_ids : PlainProgram → List ℕ
plain_ids p = flat_map routine_ids p.routines

pub one_place : {A : Type 0} (i : ℕ) (f : A → List ℕ) (xs : List A) (a : ℕ) (x : A) → slice_get xs a ≡ Some x → tally i (f x) ≤ tally i (flat_map f xs)
one_place i f [] a x e = cc
one_place i f (y ∷ ys) zero x e = let same : y ≡ x = cc in let q = tally_more i (f y) (flat_map f ys) in subst (λ z. tally i (f z) ≤ tally i (f y ++ flat_map f ys)) same (omega (arith, q))
one_place i f (y ∷ ys) (suc a) x e = let h = one_place i f ys a x e in let q = tally_more i (f y) (flat_map f ys) in omega (arith, h, q)

pub two_places : {A : Type 0} (i : ℕ) (f : A → List ℕ) (xs : List A) (a b : ℕ) (x y : A) → slice_get xs a ≡ Some x → slice_get xs b ≡ Some y → (a ≡ b → ⊥) → tally i (f x) + tally i (f y) ≤ tally i (flat_map f xs)
two_places i f [] a b x y e q n = cc
two_places i f (z ∷ zs) zero zero x y e q n = absurd (n refl)
two_places i f (z ∷ zs) zero (suc b) x y e q n =
    let same : z ≡ x = cc in
    let h = one_place i f zs b y q in
    let t = tally_more i (f z) (flat_map f zs) in
    subst (λ u. tally i (f u) + tally i (f y) ≤ tally i (f z ++ flat_map f zs)) same (omega (arith, h, t))
two_places i f (z ∷ zs) (suc a) zero x y e q n =
    let same : z ≡ y = cc in
    let h = one_place i f zs a x e in
    let t = tally_more i (f z) (flat_map f zs) in
    subst (λ u. tally i (f x) + tally i (f u) ≤ tally i (f z ++ flat_map f zs)) same (omega (arith, h, t))
two_places i f (z ∷ zs) (suc a) (suc b) x y e q n =
    let h = two_places i f zs a b x y e q (λ r. n (ap suc r)) in
    let t = tally_more i (f z) (flat_map f zs) in
    omega (arith, h, t)
