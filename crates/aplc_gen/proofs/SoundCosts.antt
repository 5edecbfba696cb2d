-- What the steps of a statement cost: at most 5 for each of its nodes, and a few more.
use Rattle.std.proofs.Common.{◌≡◌, ℕ, ◌+◌, ◌*◌, ◌≤◌, List, [], ◌∷◌, ◌++◌, length, Option, Some, None, arith}
use Rattle.std.proofs.lemmas.List.{length-append}
use Rattle.aplc_syntax.specs.PlainTrees.{Tree, Argument, absent, given, ids, argument_ids}
use Rattle.aplc_syntax.specs.PlainTrees as t
use Rattle.aplc_names.specs.declared.scope.Scope.{Scope}
use Rattle.aplc_core.specs.PlainSteps.{Term, Literal, Read, Slot, Mono, Dyad, Index, Effect, Keep, Store, Call, Show, Branch}
use Rattle.aplc_core.specs.CoreRuns.{PlainCore}
use Rattle.aplc_core.specs.Lowering.{Cut, CutArgument, kept_term, before, call_steps, cut, cut_argument}
use Rattle.aplc_gen.specs.Sound.{term_cost, effect_cost, effects_cost}
use Rattle.aplc_gen.proofs.SoundCuts.{Suited, SuitedGiven}

cost_append : (xs ys : List Effect) → effects_cost (xs ++ ys) ≡ effects_cost xs + effects_cost ys
cost_append [] ys = omega arith
cost_append (x ∷ xs) ys = let h = cost_append xs ys in omega (arith, h)

cost_one : (xs : List Effect) (y : Effect) → effects_cost (xs ++ y ∷ []) ≡ effects_cost xs + effect_cost y
cost_one xs y = let h = cost_append xs (y ∷ []) in omega (arith, h)

-- ---- Keeping

kept_cost : (xs : List Effect) (x : Term) (n : ℕ) → effects_cost (kept_term xs x n).steps ≤ effects_cost xs + term_cost x + 1
kept_cost xs (Slot i k) n = omega arith
kept_cost xs (Literal i k zs) n = let h = cost_one xs (Keep n (Literal i k zs)) in omega (arith, h)
kept_cost xs (Read i k) n = let h = cost_one xs (Keep n (Read i k)) in omega (arith, h)
kept_cost xs (Mono i f b) n = let h = cost_one xs (Keep n (Mono i f b)) in omega (arith, h)
kept_cost xs (Dyad i f a b) n = let h = cost_one xs (Keep n (Dyad i f a b)) in omega (arith, h)
kept_cost xs (Index i a js) n = let h = cost_one xs (Keep n (Index i a js)) in omega (arith, h)

before_cost : (x : Cut) (ys : List Effect) → effects_cost (before x ys).steps + term_cost (before x ys).term ≤ effects_cost x.steps + term_cost x.term + 1
before_cost x [] = omega arith
before_cost x (y ∷ ys) = let h = kept_cost x.steps x.term x.next in omega (arith, h)

-- ---- Trees

call_cost : (i n : ℕ) (y x : CutArgument) (r : Option ℕ) → effects_cost (call_steps i n y x r) ≡ effects_cost y.steps + effects_cost x.steps + 4
call_cost i n y x r = let h = cost_one (y.steps ++ x.steps) (Call i n x.slot y.slot r) in let g = cost_append y.steps x.steps in omega (arith, h, g)

module _ (p : PlainCore) (sc : ℕ → Scope) where
  mutual
    cut_cost : (x : Tree) → Suited p sc x → (k : ℕ) → effects_cost (cut x k).steps + term_cost (cut x k).term + 1 ≤ 5 * length (ids x)
    cut_cost (t.Numbers i o zs) h k = omega arith
    cut_cost (t.Text i o cs) h k = absurd h
    cut_cost (t.Name i o n) h k = omega arith
    cut_cost (t.TextInput i o) h k = absurd h
    cut_cost (t.NumsInput i o) h k = absurd h
    cut_cost (t.Mono i o f a) h k = let e = cut_cost a h.1 k in omega (arith, e)
    cut_cost (t.Dyad i o f a b) h k =
        let y : Cut = cut b k in
        let z : Cut = before y (cut a y.next).steps in
        let e = before_cost y (cut a y.next).steps in
        let c = cut_cost b h.2 k in
        let d = cut_cost a h.1 z.next in
        let s = cost_append z.steps (cut a z.next).steps in
        let l = length-append (ids a) (ids b) in
        omega (arith, e, c, d, s, l)
    cut_cost (t.Index i o a xs) h k = absurd h
    cut_cost (t.Assign i o n a) h k = let e = cut_cost a h.1 k in let s = cost_one (cut a k).steps (Store i n (cut a k).term) in omega (arith, e, s)
    cut_cost (t.AssignAt i o n xs a) h k = absurd h
    cut_cost (t.Show i o a) h k = absurd h
    cut_cost (t.Call i o n a b) h k =
        let y : CutArgument = cut_argument b k in
        let x : CutArgument = cut_argument a y.next in
        let e = call_cost i n y x (Some x.next) in
        let c = given_cost b h.2 k in
        let d = given_cost a h.1 y.next in
        let l = length-append (argument_ids a) (argument_ids b) in
        omega (arith, e, c, d, l)

    given_cost : (a : Argument) → SuitedGiven p sc a → (k : ℕ) → effects_cost (cut_argument a k).steps ≤ 5 * length (argument_ids a)
    given_cost absent h k = omega arith
    given_cost (given x) h k = let e = cut_cost x h k in let s = kept_cost (cut x k).steps (cut x k).term (cut x k).next in omega (arith, e, s)

  -- ---- Statements

  pub assigned_cost : (x : Tree) → Suited p sc x → length (ids x) ≤ 256 → effects_cost (cut x 0).steps ≤ 2000
  assigned_cost x h l = let e = cut_cost x h 0 in omega (arith, e, l)

  pub shown_cost : (x : Tree) → Suited p sc x → length (ids x) ≤ 256 → effects_cost ((cut x 0).steps ++ Show None (cut x 0).term ∷ []) ≤ 2000
  shown_cost x h l = let e = cut_cost x h 0 in let s = cost_one (cut x 0).steps (Show None (cut x 0).term) in omega (arith, e, s, l)

  pub branch_cost : (x : Tree) → Suited p sc x → length (ids x) ≤ 256 → effects_cost ((cut x 0).steps ++ Branch (cut x 0).term ∷ []) ≤ 2000
  branch_cost x h l = let e = cut_cost x h 0 in let s = cost_one (cut x 0).steps (Branch (cut x 0).term) in omega (arith, e, s, l)

  pub performed_cost : (i n : ℕ) (a b : Argument) → SuitedGiven p sc a → SuitedGiven p sc b → length (i ∷ (argument_ids a ++ argument_ids b)) ≤ 256
      → effects_cost (call_steps i n (cut_argument b 0) (cut_argument a (cut_argument b 0).next) None) ≤ 2000
  performed_cost i n a b h g l =
      let y : CutArgument = cut_argument b 0 in
      let x : CutArgument = cut_argument a y.next in
      let e = call_cost i n y x None in
      let c = given_cost b g 0 in
      let d = given_cost a h y.next in
      let m = length-append (argument_ids a) (argument_ids b) in
      omega (arith, e, c, d, m, l)
