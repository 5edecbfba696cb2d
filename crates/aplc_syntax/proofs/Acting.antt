-- What the builder does at a call of a procedure, and at the last step.
use Rattle.std.proofs.Common.{◌≡◌, ◌-◌, ℕ, List, [], ◌∷◌, length, Option, Some, None, refl, ap, ◌∙◌, arith}
use Rattle.std.specs.List.{slice_get}
use Rattle.aplc_syntax.specs.declared.tree.Node.{Node}
use Rattle.aplc_syntax.specs.declared.tree.Statement.TheVariants as st
use Rattle.aplc_syntax.specs.declared.step.Step.{Step}
use Rattle.aplc_syntax.specs.declared.step.Step.TheVariants as s
use Rattle.aplc_syntax.specs.Building.{Made, act, ended_by, last_step, ended}

-- a procedure is called as a function is
pub performs1 : (p n : ℕ) (xs : List Made) (ls : List (List (Option Node))) → act [] (s.Call1 p n) xs ls ≡ act [] (s.Perform1 p n) xs ls
performs1 p n [] ls = refl
performs1 p n (a ∷ xs) ls = refl

pub performs2 : (p n : ℕ) (xs : List Made) (ls : List (List (Option Node))) → act [] (s.Call2 p n) xs ls ≡ act [] (s.Perform2 p n) xs ls
performs2 p n [] ls = refl
performs2 p n (b ∷ []) ls = refl
performs2 p n (b ∷ a ∷ xs) ls = refl

pub ruleset performs = (performs1, performs2)

last_is : (y : Step) (ys : List Step) → slice_get (y ∷ ys) (length ys) ≡ Some (last_step y ys)
last_is y [] = refl
last_is y (x ∷ xs) = last_is x xs

at_last : (y : Step) (ys : List Step) → slice_get (y ∷ ys) (length (y ∷ ys) - 1) ≡ Some (last_step y ys)
at_last y ys = let e : length (y ∷ ys) - 1 ≡ length ys = omega arith in ap (slice_get (y ∷ ys)) e ∙ last_is y ys

pub ended_last : (xs : List Step) (x : Step) (n : Node) → Some x ≡ slice_get xs (length xs - 1) → ended_by x n ≡ ended xs n
ended_last [] x n h = cc
ended_last (y ∷ ys) x n h = let e : Some x ≡ Some (last_step y ys) = h ∙ at_last y ys in let f : x ≡ last_step y ys = cc in ap (λ (z : Step). ended_by z n) f

pub ended_none : (xs : List Step) (n : Node) → None ≡ slice_get xs (length xs - 1) → st.Display n ≡ ended xs n
ended_none [] n h = refl
ended_none (y ∷ ys) n h = let e : None ≡ Some (last_step y ys) = h ∙ at_last y ys in cc

pub ruleset lasts = (ended_last, ended_none)
